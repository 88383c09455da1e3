use Rattle.std.proofs.Common.{◌∷◌, [], ◌++◌, ap, sym, subst, ◌∙◌, to_z, of_z, rules}
use Rattle.std.specs.Prelude.{FitsSigned, pos, ◌+ℤ◌}
use Rattle.std.specs.Int.{w128}
use Rattle.std.proofs.lemmas.Int.{to_z-of_z}
use Rattle.carol_cert.specs.declared.place.Item.TheVariants.{AtMost, AtLeast}
use Rattle.carol_cert.specs.Proof.{proof_of}
use Rattle.carol_cert.specs.Left.{claims_below, waiting, IsSide}
use Rattle.carol_cert.specs.Block.{held}
use Rattle.carol_cert.proofs.Left.{none_waits, turned}
use Rattle.carol_cert.proofs.block.Block.turn.Goals as goal

pub returns-in-AtMost-clause-next : goal.returns-in-AtMost-clause-next
returns-in-AtMost-clause-next c claims =
    let rest = held c.pop.new.self in
    let tree = proof_of c.in-Some.tree.now in
    let v = c.in-AtMost.variable in
    let k = c.in-AtMost.k in
    let side : IsSide (AtMost v k) = subst IsSide c.in-AtMost.is c.in-Some.ensures.room.1 in
    let number : FitsSigned w128 k = search rules in
    let fits : FitsSigned w128 (k +ℤ pos 1) = search rules in
    let next = ap (λ z. to_z w128 (of_z w128 (z +ℤ pos 1))) (to_z-of_z w128 k number) ∙ to_z-of_z w128 (k +ℤ pos 1) fits in
    sym (c.loop-bound.invariant.same claims)
    ∙ ap (waiting claims) (c.in-Some.ensures.held ∙ ap (λ b. rest ++ (b, tree) ∷ []) c.in-AtMost.is)
    ∙ turned claims rest v k tree
    ∙ ap (λ bs. (tree, claims_below claims bs) ∷ waiting claims bs) (sym (c.push.ensures.held ∙ ap (λ z. rest ++ (AtLeast v z, tree) ∷ []) next))

pub loop-bound-preserved : goal.loop-bound-preserved
loop-bound-preserved c = record {
  right = c.in-Some.ensures.right;
  same = λ claims.
      sym (none_waits claims (held c.pop.new.self) c.in-Some.bound (proof_of c.in-Some.tree.now) c.in_default-bound.not-AtMost)
      ∙ ap (waiting claims) (sym c.in-Some.ensures.held)
      ∙ c.loop-bound.invariant.same claims;
}
