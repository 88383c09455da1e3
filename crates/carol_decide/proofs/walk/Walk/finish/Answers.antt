use Rattle.std.proofs.Common.{◌++◌, ◌∷◌, [], ap, sym, ◌∙◌}
use Rattle.carol_cert.specs.Proof.{Split, proof_of}
use Rattle.carol_decide.proofs.Walking.{open_up_parts, open_up_high, open_up_low, open_at_top, no_items}
use Rattle.carol_decide.proofs.Counting.{proof_of-Unclosed}
use Rattle.carol_decide.proofs.walk.Walk.finish.Goals as goal

pub loop-frame-preserved-in-Parts : goal.loop-frame-preserved-in-Parts
loop-frame-preserved-in-Parts c = λ claim leaves u.
    open_up_parts claim leaves c.loop-frame.self.frames.items c.pop.new.self.items c.in-Parts.at c.in-Parts.whole (proof_of c.loop-frame.tree) (proof_of c.in_ok-tree-in-Parts.tree)
    (c.in-Some.ensures.items ∙ ap (λ f. c.pop.new.self.items ++ f ∷ []) c.in-Parts.is) c.in_ok-tree-in-Parts.ensures (c.loop-frame.invariant claim leaves u)

pub loop-frame-preserved-in-Low : goal.loop-frame-preserved-in-Low
loop-frame-preserved-in-Low c = λ claim leaves u.
    open_up_low claim leaves c.loop-frame.self.frames.items c.pop.new.self.items c.in-Low.at c.in-Low.whole c.in-Low.other (proof_of c.loop-frame.tree) (proof_of c.in_ok-tree-in-Low.tree)
    (c.in-Some.ensures.items ∙ ap (λ f. c.pop.new.self.items ++ f ∷ []) c.in-Low.is) (c.in_ok-tree-in-Low.ensures ∙ ap (Split c.in-Low.at (proof_of c.loop-frame.tree)) proof_of-Unclosed) (c.loop-frame.invariant claim leaves u)

pub loop-frame-preserved : goal.loop-frame-preserved
loop-frame-preserved c = λ claim leaves u.
    open_up_high claim leaves c.loop-frame.self.frames.items c.pop.new.self.items c.in-High.at c.in-High.whole c.in-High.low (proof_of c.loop-frame.tree) (proof_of c.in_ok-tree-in-High.tree)
    (c.in-Some.ensures.items ∙ ap (λ f. c.pop.new.self.items ++ f ∷ []) c.in-High.is) c.in_ok-tree-in-High.ensures (c.loop-frame.invariant claim leaves u)

pub returns : goal.returns
returns c = λ claim leaves u.
    open_at_top claim leaves c.loop-frame.self.frames.items (proof_of c.loop-frame.tree) (no_items c.loop-frame.self.frames.items (sym c.loop-frame.self.frames.ok.0 ∙ c.in_default.ensures.cases.0)) (c.loop-frame.invariant claim leaves u)
