use Rattle.std.proofs.Common.{◌+◌, ◌<◌, arith, refl, subst}
use Rattle.carol_cert.specs.Proof.{proof_of}
use Rattle.carol_decide.specs.Frames.{turns_on}
use Rattle.carol_decide.specs.State.{IsAbove}
use Rattle.carol_decide.proofs.Walking.{under_after, rank_after_turn}
use Rattle.carol_decide.proofs.walk.Walk.close.Goals as goal

pub returns-in-None : goal.returns-in-None
returns-in-None c = λ claim root at closed.
    let leaves = turns_on c.args.self.now.frames.items + c.args.self.now.left in
    let above = c.in_ok-tree.ensures.above claim leaves (under_after claim leaves c.args.self.now _ (proof_of c.args.tree) c.args.turns refl refl c.saturating_sub-self.ensures at closed) in
    let next = subst (IsAbove claim leaves c.climb.new.self) c.in-None.is above in
    let some = closed.some in
    let enough = closed.enough in
    let less : c.climb.new.self.left < c.args.self.now.left = omega (arith, c.in_ok-tree.ensures.left, c.saturating_sub-self.ensures) in
    (next, rank_after_turn claim leaves c.args.self.now c.climb.new.self less next)
