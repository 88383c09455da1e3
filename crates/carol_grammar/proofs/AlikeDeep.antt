use Rattle.std.proofs.Common.{◌≡◌, ℕ, zero, suc, ◌≤◌, true, arith}
use Rattle.carol_grammar.specs.Rule.{Rule, Grammar, upper}
use Rattle.carol_grammar.specs.Sentence.{Deep}
use Rattle.carol_grammar.specs.Reading.{reads_deep, reads_within}
use Rattle.carol_grammar.specs.Sound.{is_sound, IsSound}
use Rattle.carol_grammar.proofs.SetLemmas.{and_left}
use Rattle.carol_grammar.proofs.RightDeep.{right_deep}
use Rattle.carol_grammar.proofs.Alike.{Alike}
use Rattle.carol_grammar.proofs.AlikeRule.{alike_rule, alike_led}

module _ (T V : Type 0) (Value : V → Type 0) (g : Grammar T V Value) (sound : IsSound g) (n n' : ℕ) where
  alike_deep : (k d d' : ℕ) → k ≤ n → k ≤ n' → k ≤ d → k ≤ d' → (v : V) → Alike k (reads_deep g n d v) (reads_deep g n' d' v)
  alike_deep zero d d' a a' c c' v p x y h same = absurd (omega arith)
  alike_deep (suc k) zero d' a a' c c' v p x y h same = absurd (omega arith)
  alike_deep (suc k) (suc d) zero a a' c c' v p x y h same = absurd (omega arith)
  alike_deep (suc k) (suc d) (suc d') a a' c c' v p x y h same =
      alike_led T V Value g n n' (Deep g n d) (Deep g n' d') (reads_deep g n d) (reads_deep g n' d') (right_deep T V Value g sound n d) (right_deep T V Value g sound n' d') k a a'
      (alike_deep k d d' (omega arith) (omega arith) (omega arith) (omega arith)) (upper g v) (and_left _ _ (and_left _ _ (and_left _ _ (sound.above v)))) (sound.led v) p x y h same

  -- readings by a sound rule within different bounds are alike at each front that is shorter
  pub alike_within : (k d d' : ℕ) → k ≤ n → k ≤ n' → k ≤ d → k ≤ d' → {A : Type 0} (r : Rule T V Value A) → is_sound g true r ≡ true → Alike k (reads_within g n d r) (reads_within g n' d' r)
  alike_within k d d' a a' c c' r h =
      alike_rule T V Value g n n' (Deep g n d) (Deep g n' d') (reads_deep g n d) (reads_deep g n' d') (right_deep T V Value g sound n d) (right_deep T V Value g sound n' d') k a a' (alike_deep k d d' a a' c c') r h
