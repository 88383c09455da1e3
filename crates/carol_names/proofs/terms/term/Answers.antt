use Rattle.carol_names.proofs.Meanings.{term-faults}
use Rattle.carol_names.proofs.terms.term.Goals as goal

pub returns-clause-faults : goal.returns-clause-faults
returns-clause-faults g c =
    term-faults (g.G.Ground.look c.args.place.now) c.args.term.now _ _ _ _ c.in_ok-worth.ensures.worth c.in_ok-worth.ensures.faults c.in_ok-note_width.ensures
