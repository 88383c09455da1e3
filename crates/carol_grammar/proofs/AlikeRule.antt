use Rattle.std.proofs.Common.{◌≡◌, ℕ, suc, ◌≤◌, ◌<◌, Bool, true, false, cond, List, length, refl, arith}
use Rattle.carol_grammar.specs.Rule.{Rule, Grammar}
use Rattle.carol_grammar.specs.Rule.Rule.{token, both, gives, either, perhaps, many, begins, deeper}
use Rattle.carol_grammar.specs.Sentence.{Sentence}
use Rattle.carol_grammar.specs.Reading.{Reading, may_be_empty, first, reads}
use Rattle.carol_grammar.specs.Sound.{goes_on, is_sound, is_led}
use Rattle.carol_grammar.proofs.SetLemmas.{and_left, and_right, not_true}
use Rattle.carol_grammar.proofs.Right.{Right}
use Rattle.carol_grammar.proofs.RightRule.{right_rule}
use Rattle.carol_grammar.proofs.Alike.{Alike, ends_right, no_longer, shorter}
use Rattle.carol_grammar.proofs.AlikeParts.{alike_token, alike_both, alike_giving, alike_either, alike_perhaps, alike_many}

-- Readings by one rule within different bounds are alike, as far as what stands a level deeper is.

module _ (T V : Type 0) (Value : V → Type 0) (g : Grammar T V Value) (n n' : ℕ) (E E' : (v : V) → List T → Value v → Type 0) (e e' : (v : V) → List T → Reading T (Value v)) (deep : (v : V) → Right g.kind (E v) (e v) (g.starts v) (g.goes v) false) (deep' : (v : V) → Right g.kind (E' v) (e' v) (g.starts v) (g.goes v) false) where
  here : {A : Type 0} (r : Rule T V Value A) → is_sound g true r ≡ true → Right g.kind (Sentence g.kind n E r) (reads g.kind g.starts n e r) (first g.starts r) (goes_on g r) (may_be_empty r)
  here r h = right_rule T V Value g n E e true (λ q. deep) r h

  there : {A : Type 0} (r : Rule T V Value A) → is_sound g true r ≡ true → Right g.kind (Sentence g.kind n' E' r) (reads g.kind g.starts n' e' r) (first g.starts r) (goes_on g r) (may_be_empty r)
  there r h = right_rule T V Value g n' E' e' true (λ q. deep') r h

  pub alike_rule : (k : ℕ) → k ≤ n → k ≤ n' → ((v : V) → Alike k (e v) (e' v)) → {A : Type 0} (r : Rule T V Value A) → is_sound g true r ≡ true → Alike k (reads g.kind g.starts n e r) (reads g.kind g.starts n' e' r)
  alike_rule k a c env (token ks f) h = alike_token g.kind ks f k
  alike_rule k a c env (both r s) h =
      let h1 = and_left _ _ h in
      let hr = and_left _ _ h1 in
      let hs = and_right _ _ h1 in
      alike_both k k (reads g.kind g.starts n e r) (reads g.kind g.starts n' e' r) (reads g.kind g.starts n e s) (reads g.kind g.starts n' e' s)
      (ends_right g.kind _ _ _ _ _ (here s hs)) (ends_right g.kind _ _ _ _ _ (there s hs))
      (λ p x q v f l. let z : length q ≤ length p = no_longer g.kind _ _ _ _ _ (here r hr) p x q v f in omega arith)
      (alike_rule k a c env r hr) (alike_rule k a c env s hs)
  alike_rule k a c env (gives f r) h = alike_giving f k (reads g.kind g.starts n e r) (reads g.kind g.starts n' e' r) (alike_rule k a c env r h)
  alike_rule k a c env (either r s) h =
      let h1 = and_left _ _ h in
      let h2 = and_left _ _ h1 in
      let h3 = and_left _ _ h2 in
      alike_either g.kind (first g.starts r) k (reads g.kind g.starts n e r) (reads g.kind g.starts n' e' r) (reads g.kind g.starts n e s) (reads g.kind g.starts n' e' s) (alike_rule k a c env r (and_left _ _ h3)) (alike_rule k a c env s (and_right _ _ h3))
  alike_rule k a c env (perhaps r) h = alike_perhaps g.kind (first g.starts r) k (reads g.kind g.starts n e r) (reads g.kind g.starts n' e' r) (alike_rule k a c env r (and_left _ _ h))
  alike_rule k a c env (many r) h =
      let h1 = and_left _ _ h in
      let hr = and_left _ _ h1 in
      alike_many T _ g.kind _ _ (reads g.kind g.starts n e r) (reads g.kind g.starts n' e' r) (first g.starts r) (goes_on g r) (may_be_empty r) (here r hr) (there r hr) (not_true _ (and_right _ _ h1)) (and_right _ _ h) k (alike_rule k a c env r hr) k n n' (omega arith) a c
  alike_rule k a c env (begins ks r) h = alike_rule k a c env r (and_left _ _ h)
  alike_rule k a c env (deeper w) h = env w

  led_both : (k : ℕ) → suc k ≤ n → suc k ≤ n' → ((v : V) → Alike k (e v) (e' v)) → {A B : Type 0} (r : Rule T V Value A) (s : Rule T V Value B) → is_sound g true r ≡ true → is_sound g true s ≡ true → Alike (suc k) (reads g.kind g.starts n e r) (reads g.kind g.starts n' e' r) → (is_led s ≡ true → Alike (suc k) (reads g.kind g.starts n e s) (reads g.kind g.starts n' e' s)) → (b : Bool) → may_be_empty r ≡ b → cond b (is_led s) true ≡ true → Alike (suc k) (reads g.kind g.starts n e (both r s)) (reads g.kind g.starts n' e' (both r s))
  led_both k a c env r s hr hs one two true f l =
      alike_both (suc k) (suc k) (reads g.kind g.starts n e r) (reads g.kind g.starts n' e' r) (reads g.kind g.starts n e s) (reads g.kind g.starts n' e' s)
      (ends_right g.kind _ _ _ _ _ (here s hs)) (ends_right g.kind _ _ _ _ _ (there s hs))
      (λ p x q v m l'. let z : length q ≤ length p = no_longer g.kind _ _ _ _ _ (here r hr) p x q v m in omega arith)
      one (two l)
  led_both k a c env r s hr hs one two false f l =
      alike_both (suc k) k (reads g.kind g.starts n e r) (reads g.kind g.starts n' e' r) (reads g.kind g.starts n e s) (reads g.kind g.starts n' e' s)
      (ends_right g.kind _ _ _ _ _ (here s hs)) (ends_right g.kind _ _ _ _ _ (there s hs))
      (λ p x q v m l'. let z : length q < length p = shorter g.kind _ _ _ _ _ (here r hr) f p x q v m in omega arith)
      one (alike_rule k (omega arith) (omega arith) env s hs)

  -- where a rule goes deeper only behind a token, one token more
  pub alike_led : (k : ℕ) → suc k ≤ n → suc k ≤ n' → ((v : V) → Alike k (e v) (e' v)) → {A : Type 0} (r : Rule T V Value A) → is_sound g true r ≡ true → is_led r ≡ true → Alike (suc k) (reads g.kind g.starts n e r) (reads g.kind g.starts n' e' r)
  alike_led k a c env (token ks f) h led = alike_token g.kind ks f (suc k)
  alike_led k a c env (both r s) h led =
      let h1 = and_left _ _ h in
      let hr = and_left _ _ h1 in
      let hs = and_right _ _ h1 in
      led_both k a c env r s hr hs (alike_led k a c env r hr (and_left _ _ led)) (alike_led k a c env s hs) (may_be_empty r) refl (and_right _ _ led)
  alike_led k a c env (gives f r) h led = alike_giving f (suc k) (reads g.kind g.starts n e r) (reads g.kind g.starts n' e' r) (alike_led k a c env r h led)
  alike_led k a c env (either r s) h led =
      let h1 = and_left _ _ h in
      let h2 = and_left _ _ h1 in
      let h3 = and_left _ _ h2 in
      alike_either g.kind (first g.starts r) (suc k) (reads g.kind g.starts n e r) (reads g.kind g.starts n' e' r) (reads g.kind g.starts n e s) (reads g.kind g.starts n' e' s) (alike_led k a c env r (and_left _ _ h3) (and_left _ _ led)) (alike_led k a c env s (and_right _ _ h3) (and_right _ _ led))
  alike_led k a c env (perhaps r) h led = alike_perhaps g.kind (first g.starts r) (suc k) (reads g.kind g.starts n e r) (reads g.kind g.starts n' e' r) (alike_led k a c env r (and_left _ _ h) led)
  alike_led k a c env (many r) h led =
      let h1 = and_left _ _ h in
      let hr = and_left _ _ h1 in
      alike_many T _ g.kind _ _ (reads g.kind g.starts n e r) (reads g.kind g.starts n' e' r) (first g.starts r) (goes_on g r) (may_be_empty r) (here r hr) (there r hr) (not_true _ (and_right _ _ h1)) (and_right _ _ h) (suc k) (alike_led k a c env r hr led) (suc k) n n' (omega arith) a c
  alike_led k a c env (begins ks r) h led = alike_led k a c env r (and_left _ _ h) led
  alike_led k a c env (deeper w) h led = absurd cc
