use Rattle.carol_names.proofs.Meanings.{comparison-faults}
use Rattle.carol_names.proofs.formulas.comparison.Goals as goal

pub returns-clause-faults : goal.returns-clause-faults
returns-clause-faults g c =
    comparison-faults (g.G.Ground.look c.args.place.now) c.args.left.now c.args.sign c.args.right.now _ _ _ _ _ _ _ c.in_ok-first.ensures.worth c.in_ok-second.ensures.worth
    c.in_ok-worth.ensures c.in_ok-first.ensures.faults c.in_ok-second.ensures.faults c.in_ok-note_width.ensures
