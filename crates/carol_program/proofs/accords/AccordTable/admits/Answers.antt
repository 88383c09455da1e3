use Rattle.std.proofs.Common.{◌≡◌, List, refl, sym, subst}
use Rattle.carol_store.specs.declared.direction.Direction.{Direction}
use Rattle.carol_store.specs.Directions.{directions}
use Rattle.carol_program.specs.Admitting.{admits, admits_all}
use Rattle.carol_program.specs.Accords.{AreWays}
use Rattle.carol_program.proofs.Directions.{directions_are_ways}
use Rattle.carol_program.proofs.accords.AccordTable.admits.Goals as goal

pub loop-direction-init : goal.loop-direction-init
loop-direction-init c =
    let same : c.as_slice-left.result.now ≡ directions c.args.self.now.kinds c.args.effect.now = cc
    in let Begins : List Direction → Type 0 = λ ds.
    (admits_all c.args.self.now c.args.guard ds ≡ admits c.args.self.now c.args.guard c.args.effect.now)
    × AreWays c.args.self.now.kinds ds
    in subst Begins (sym same) (refl, directions_are_ways c.args.self.now.kinds c.args.effect.now)
