use Rattle.std.proofs.Common.{◌≡◌, ℕ, Bool, true, false, List}
use Rattle.carol_grammar.specs.Rule.{Rule, Grammar}
use Rattle.carol_grammar.specs.Rule.Rule.{token, both, gives, either, perhaps, many, begins, deeper}
use Rattle.carol_grammar.specs.Sentence.{Sentence}
use Rattle.carol_grammar.specs.Reading.{Reading, may_be_empty, first, reads}
use Rattle.carol_grammar.specs.Sound.{goes_on, is_sound}
use Rattle.carol_grammar.proofs.SetLemmas.{and_left, and_right, not_true}
use Rattle.carol_grammar.proofs.Right.{Right}
use Rattle.carol_grammar.proofs.RightBoth.{right_both}
use Rattle.carol_grammar.proofs.RightMany.{right_many}
use Rattle.carol_grammar.proofs.RightParts.{right_token, right_gives, right_either, right_perhaps, right_begins}

-- Reading by a sound rule is right for its sentences, if it is one level deeper, where the rule
-- goes there.

module _ (T V : Type 0) (Value : V → Type 0) (g : Grammar T V Value) (n : ℕ) (E : (v : V) → List T → Value v → Type 0) (e : (v : V) → List T → Reading T (Value v)) (below : Bool) (deep : below ≡ true → (v : V) → Right g.kind (E v) (e v) (g.starts v) (g.goes v) false) where
  pub right_rule : {A : Type 0} (r : Rule T V Value A) → is_sound g below r ≡ true → Right g.kind (Sentence g.kind n E r) (reads g.kind g.starts n e r) (first g.starts r) (goes_on g r) (may_be_empty r)
  right_rule (token ks f) h = right_token T _ g.kind g.sample ks f h
  right_rule (both r s) h =
      let h1 = and_left _ _ h in
      right_both T _ _ g.kind _ _ _ _ _ _ _ _ _ _ (right_rule r (and_left _ _ h1)) (right_rule s (and_right _ _ h1)) (and_right _ _ h)
  right_rule (gives f r) h = right_gives T _ _ g.kind _ _ _ _ _ (right_rule r h) f
  right_rule (either r s) h =
      let h1 = and_left _ _ h in
      let h2 = and_left _ _ h1 in
      let h3 = and_left _ _ h2 in
      right_either T _ g.kind _ _ _ _ _ _ _ _ _ _ (right_rule r (and_left _ _ h3)) (right_rule s (and_right _ _ h3)) (not_true _ (and_right _ _ h2)) (not_true _ (and_right _ _ h1)) (and_right _ _ h)
  right_rule (perhaps r) h = right_perhaps T _ g.kind _ _ _ _ _ (right_rule r (and_left _ _ h)) (not_true _ (and_right _ _ h))
  right_rule (many r) h =
      let h1 = and_left _ _ h in
      right_many T _ g.kind _ _ _ _ _ (right_rule r (and_left _ _ h1)) (not_true _ (and_right _ _ h1)) (and_right _ _ h) n
  right_rule (begins ks r) h = right_begins T _ g.kind _ _ _ _ _ (right_rule r (and_left _ _ h)) ks (and_right _ _ h)
  right_rule (deeper w) h = deep h w
