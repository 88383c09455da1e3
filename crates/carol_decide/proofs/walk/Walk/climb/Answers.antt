use Rattle.std.proofs.Common.{◌++◌, ◌∷◌, [], ap, sym, ◌∙◌, take, ◌-◌}
use Rattle.std.specs.Prelude.{slice_set}
use Rattle.carol_cert.specs.Proof.{proof_of}
use Rattle.carol_decide.specs.declared.frame.Frame.TheVariants.{Parts, High}
use Rattle.carol_decide.proofs.Walking.{up_parts, up_high, up_low, at_top, no_items}
use Rattle.carol_decide.proofs.walk.Walk.climb.Goals as goal

pub loop-frame-preserved-in-Parts : goal.loop-frame-preserved-in-Parts
loop-frame-preserved-in-Parts c = (
  λ claim leaves u. up_parts claim leaves c.loop-frame.self c.put.new.self c.in-Parts.at c.in-Parts.whole (proof_of c.loop-frame.tree) (proof_of c.in_ok-tree-in-Parts.tree)
      (c.in-Some.ensures.items ∙ ap (λ f. c.pop.new.self.items ++ f ∷ []) c.in-Parts.is ∙ ap (λ fs. fs ++ Parts c.in-Parts.at c.in-Parts.whole ∷ []) (sym c.put.ensures.frames))
      (c.put.ensures.pieces ∙ ap (λ ps. slice_set ps c.in-Parts.at c.in-Parts.whole) (c.pop-right.ensures.rest ∙ ap (λ n. take (n - 1) c.loop-frame.self.pieces.items) c.loop-frame.self.pieces.ok.0))
      c.put.ensures.left c.in_ok-tree-in-Parts.ensures (c.loop-frame.invariant.0 claim leaves u),
  c.put.ensures.left ∙ c.loop-frame.invariant.1,
)

pub returns-in-Low-clause-above : goal.returns-in-Low-clause-above
returns-in-Low-clause-above c = λ claim leaves u.
    up_low claim leaves c.loop-frame.self c.take_high.new.self c.pop.new.self.items c.in-Low.at c.in-Low.whole c.in-Low.other c.loop-frame.tree
    (c.in-Some.ensures.items ∙ ap (λ f. c.pop.new.self.items ++ f ∷ []) c.in-Low.is) c.in_ok-take_high-in-Low.ensures.frames c.in_ok-take_high-in-Low.ensures.pieces c.in_ok-take_high-in-Low.ensures.left (c.loop-frame.invariant.0 claim leaves u)

pub loop-frame-preserved : goal.loop-frame-preserved
loop-frame-preserved c = (
  λ claim leaves u. up_high claim leaves c.loop-frame.self c.put-in-High.new.self c.in-High.at c.in-High.whole c.in-High.low (proof_of c.loop-frame.tree) (proof_of c.in_ok-tree-in-High.tree)
      (c.in-Some.ensures.items ∙ ap (λ f. c.pop.new.self.items ++ f ∷ []) c.in-High.is ∙ ap (λ fs. fs ++ High c.in-High.at c.in-High.whole c.in-High.low ∷ []) (sym c.put-in-High.ensures.frames))
      c.put-in-High.ensures.pieces c.put-in-High.ensures.left c.in_ok-tree-in-High.ensures (c.loop-frame.invariant.0 claim leaves u),
  c.put-in-High.ensures.left ∙ c.loop-frame.invariant.1,
)

pub returns-clause-above : goal.returns-clause-above
returns-clause-above c = λ claim leaves u.
    at_top claim leaves c.loop-frame.self c.loop-frame.tree (no_items c.loop-frame.self.frames.items (sym c.loop-frame.self.frames.ok.0 ∙ c.in_default.ensures.cases.0)) (c.loop-frame.invariant.0 claim leaves u)
