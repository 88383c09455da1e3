use Rattle.std.proofs.Common.{ap, sym, subst, rules, arith}
use Rattle.std.specs.Prelude.{FitsSigned, pos, ◌+ℤ◌}
use Rattle.std.specs.Int.{w128}
use Rattle.std.proofs.lemmas.Int.{to_z-of_z}
use Rattle.carol_formula.specs.Bounds.{IsBelow, value_limit}
use Rattle.carol_cert.specs.Place.{claims_at}
use Rattle.carol_cert.specs.Proof.{Branch, proof_of}
use Rattle.carol_cert.specs.Counts.{GoesRight}
use Rattle.carol_cert.specs.Left.{claims_below, waiting}
use Rattle.carol_cert.specs.Block.{held}
use Rattle.carol_cert.proofs.Walks.{size_of, size_left, Stands, down, further, fails, over, ended}
use Rattle.carol_cert.proofs.Left.{pushed, below_bounds}
use Rattle.carol_cert.proofs.Trees.{proof_of-Branch}
use Rattle.carol_cert.proofs.checker.+walk.Goals as goal

pub walk_branches-loop-tree-smaller-then-not-is_full : goal.walk_branches-loop-tree-smaller-then-not-is_full
walk_branches-loop-tree-smaller-then-not-is_full t c =
    let is = proof_of-Branch _ _ _ _ _ c.get-tree.result.now c.get.result.now c.in-Branch.is c.get-tree.ensures c.get.ensures in
    let number : FitsSigned w128 c.in-Branch.k = search rules in
    let next = pushed (claims_at c.args.place.now) (held c.loop-tree.block) (held c.push.new.self) _ _ _ (proof_of c.get-tree.result.now) (proof_of c.get.result.now) c.push.ensures.held (to_z-of_z w128 c.in-Branch.k number) in
    omega (arith, ap size_of is, ap size_left next)

pub walk_branches-loop-tree-preserved-then-not-is_full : goal.walk_branches-loop-tree-preserved-then-not-is_full
walk_branches-loop-tree-preserved-then-not-is_full t c =
    let is = proof_of-Branch _ _ _ _ _ c.get-tree.result.now c.get.result.now c.in-Branch.is c.get-tree.ensures c.get.ensures in
    let number : FitsSigned w128 c.in-Branch.k = search rules in
    let next = pushed (claims_at c.args.place.now) (held c.loop-tree.block) (held c.push.new.self) _ _ _ (proof_of c.get-tree.result.now) (proof_of c.get.result.now) c.push.ensures.held (to_z-of_z w128 c.in-Branch.k number) in
    let claims = claims_below (claims_at c.args.place.now) (held c.loop-tree.block) in
    let left = waiting (claims_at c.args.place.now) (held c.loop-tree.block) in
    let sides : IsBelow value_limit c.in-Branch.k × IsBelow value_limit (c.in-Branch.k +ℤ pos 1) = search rules in
    record {
      block = c.push.ensures.right;
      stands = subst (Stands _ (claims_at c.args.place.now) c.and-walked.result) (sym next) (down _ _ c.loop-tree.walked c.and-walked.result _ _ c.in-Branch.k _ _ claims left c.loop-tree.invariant.stands is sides c.and-walked.ensures);
    }

pub walk_branches-returns-in_err-below-in_default : goal.walk_branches-returns-in_err-below-in_default
walk_branches-returns-in_err-below-in_default t c =
    let number : FitsSigned w128 c.args.k = search rules in
    let claims = claims_at c.args.place.now in
    let whole = over _ _ claims c.loop-tree.walked _ c.loop-tree.invariant.stands (ap (λ z. Branch c.args.variable.now z (proof_of c.args.low.now) (proof_of c.args.high.now)) (to_z-of_z w128 c.args.k number)) in
    let place = below_bounds claims (claims_at c.more_from.result) c.bounds.result.now (held c.loop-tree.block) c.more_from.ensures.claims c.bounds.ensures.value in
    rw c.from_residual.ensures (fails _ claims c.loop-tree.walked _ _ _ whole (λ goes. c.in_err-below-in_default.ensures (subst (GoesRight (proof_of c.loop-tree.tree.now)) (sym place) goes)))

pub walk_branches-loop-tree-preserved : goal.walk_branches-loop-tree-preserved
walk_branches-loop-tree-preserved t c =
    let claims = claims_at c.args.place.now in
    let place = below_bounds claims (claims_at c.more_from.result) c.bounds.result.now (held c.loop-tree.block) c.more_from.ensures.claims c.bounds.ensures.value in
    let goes = rw place at c.in_ok-below-in_default.ensures in
    record {
      block = c.in-Some.ensures.right;
      stands = subst (Stands _ claims c.and-walked-in_default.result) (c.in-Some.ensures.next claims) (further _ claims c.loop-tree.walked c.and-walked-in_default.result _ _ _ _ c.loop-tree.invariant.stands goes c.and-walked-in_default.ensures);
    }

pub walk_branches-returns-in-None : goal.walk_branches-returns-in-None
walk_branches-returns-in-None t c =
    let number : FitsSigned w128 c.args.k = search rules in
    let claims = claims_at c.args.place.now in
    let whole = over _ _ claims c.loop-tree.walked _ c.loop-tree.invariant.stands (ap (λ z. Branch c.args.variable.now z (proof_of c.args.low.now) (proof_of c.args.high.now)) (to_z-of_z w128 c.args.k number)) in
    let place = below_bounds claims (claims_at c.more_from.result) c.bounds.result.now (held c.loop-tree.block) c.more_from.ensures.claims c.bounds.ensures.value in
    let goes = rw place at c.in_ok-below-in_default.ensures in
    ended _ claims c.and-walked-in_default.result (subst (Stands _ claims c.and-walked-in_default.result) (c.in-None.ensures.next claims) (further _ claims c.loop-tree.walked c.and-walked-in_default.result _ _ _ _ whole goes c.and-walked-in_default.ensures))
