use Rattle.std.proofs.Common.{◌≡◌, true, sym, ◌∙◌}
use Rattle.carol_store.specs.Directions.{directions}
use Rattle.carol_grant.specs.Tallies.{is_clear}
use Rattle.carol_grant.proofs.Bars.{clear-none}
use Rattle.carol_grant.proofs.grants.Grants.first_lacking.Goals as goal

pub returns-then-is_clear : goal.returns-then-is_clear
returns-then-is_clear c = λ guard.
    let accords = c.args.self.now.accords
    in let clear : is_clear c.args.row.now.tally (directions accords.kinds c.args.effect.now) ≡ true = rw (← c.requires.ways) (sym c.is_clear.ensures ∙ c.if-is_clear.true)
    in clear-none accords c.args.row.now c.args.effect.now guard c.requires.row clear
