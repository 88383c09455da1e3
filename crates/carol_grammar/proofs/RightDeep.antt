use Rattle.std.proofs.Common.{◌≡◌, ℕ, zero, suc, Bool, true, false, List, subst}
use Rattle.carol_grammar.specs.Rule.{Rule, Grammar, upper}
use Rattle.carol_grammar.specs.Sentence.{Sentence, Deep}
use Rattle.carol_grammar.specs.Reading.{Reading, may_be_empty, first, reads, reads_deep, reads_within}
use Rattle.carol_grammar.specs.Reading.Reading.{stuck}
use Rattle.carol_grammar.specs.Sound.{goes_on, is_sound, is_sound_at, IsSound}
use Rattle.carol_grammar.proofs.SetLemmas.{and_left, and_right, not_true}
use Rattle.carol_grammar.proofs.Right.{Right, widen}
use Rattle.carol_grammar.proofs.RightRule.{right_rule}

-- Each rule that reaches itself is read right at each depth, and so each sound rule.

module _ (T V : Type 0) (Value : V → Type 0) (g : Grammar T V Value) (sound : IsSound g) (n : ℕ) where
  at_level : (E : (v : V) → List T → Value v → Type 0) (e : (v : V) → List T → Reading T (Value v)) (below : Bool) → (below ≡ true → (v : V) → Right g.kind (E v) (e v) (g.starts v) (g.goes v) false) → (v : V) (r : Rule T V Value (Value v)) → is_sound_at g below v r ≡ true → Right g.kind (Sentence g.kind n E r) (reads g.kind g.starts n e r) (g.starts v) (g.goes v) false
  at_level E e below deep v r h =
      let h1 = and_left _ _ h in
      let h2 = and_left _ _ h1 in
      let here = right_rule T V Value g n E e below deep r (and_left _ _ h2) in
      let wide = widen g.kind (Sentence g.kind n E r) (reads g.kind g.starts n e r) (first g.starts r) (goes_on g r) (g.starts v) (g.goes v) (may_be_empty r) here (and_right _ _ h1) (and_right _ _ h) in
      subst (Right g.kind (Sentence g.kind n E r) (reads g.kind g.starts n e r) (g.starts v) (g.goes v)) (not_true _ (and_right _ _ h2)) wide

  pub right_deep : (d : ℕ) (v : V) → Right g.kind (Deep g n d v) (reads_deep g n d v) (g.starts v) (g.goes v) false
  right_deep zero v = at_level (λ w ts x. ⊥) (λ w us. stuck us) false (λ q. cc) v (g.lowest v) (sound.lowest v)
  right_deep (suc d) v = at_level (Deep g n d) (reads_deep g n d) true (λ q. right_deep d) v (upper g v) (sound.above v)

  pub right_within : (d : ℕ) {A : Type 0} (r : Rule T V Value A) → is_sound g true r ≡ true → Right g.kind (Sentence g.kind n (Deep g n d) r) (reads_within g n d r) (first g.starts r) (goes_on g r) (may_be_empty r)
  right_within d r h = right_rule T V Value g n (Deep g n d) (reads_deep g n d) true (λ q. right_deep d) r h
