-- Steps of tokens, one behind the other.
use Rattle.std.proofs.Common.{◌≡◌, ℕ, ◌+◌, ◌≤◌, true, List, [], ◌∷◌, ◌++◌, add-zero, refl, sym, subst, arith}
use Rattle.carol_grammar.specs.Sets.{has, within, apart}
use Rattle.carol_grammar.specs.Rule.Rule.{token, both, gives, many}
use Rattle.carol_grammar.proofs.SetLemmas.{apart_right, has-within}
use Rattle.carol_grammar.proofs.Says.{says_token, says_gives, says_less, says_both, says_many}
use Rattle.carol_grammar.proofs.Given.{push, push-append, stand_end, Given}
use Rattle.carol_grammar.proofs.Lacks.{Without, avoids}
use Rattle.carol_syntax.specs.Limits.{most_formula_nodes}
use Rattle.carol_syntax.specs.declared.lexeme.Lexeme.{Lexeme}
use Rattle.carol_grammar.specs.Terminals.{class_of}
use Rattle.carol_grammar.specs.Rules.{RuleOf}
use Rattle.carol_grammar.specs.Limits.{nodes}
use Rattle.carol_grammar.proofs.Places.{Quiet, Fresh, Good, resets, counted, openers, joints, push_quiet, push_kept, push_counted, push_opener, push_fresh}
use Rattle.carol_grammar.proofs.Fits.{Step, Tells, known, lacks}

-- the measures of several values
abbrev pub total : {A : Type 0} → (A → ℕ) → List A → ℕ
total m [] = 0
total m (v ∷ vs) = m v + total m vs

joined : {A B C : Type 0} {P Q S : List Lexeme → Type 0} {m : A → ℕ} {n : B → ℕ} (o : C → ℕ) (xs ys : List Lexeme) (v : A) (w : B) (u : C) → o u ≡ m v + n w
    → Step P Q m xs v → Step Q S n ys w → Step P S o (xs ++ ys) u
joined {S = S} {m = m} {n = n} o xs ys v w u e a b = record {
  behind = λ before p. subst S (sym (push-append xs ys before)) (b.behind (push xs before) (a.behind before p));
  grows = λ before p.
      let first : nodes before + m v ≤ nodes (push xs before) = a.grows before p in
      let then : nodes (push xs before) + n w ≤ nodes (push ys (push xs before)) = b.grows (push xs before) (a.behind before p) in
      rw push-append (omega arith);
}

pub step_both : {A B : Type 0} {r : RuleOf A} {s : RuleOf B} {P Q S : List Lexeme → Type 0} {m : A → ℕ} {n : B → ℕ} → Tells r (Step P Q m)
    → Tells s (Step Q S n) → Tells (both r s) (Step P S (λ p. m p.0 + n p.1))
step_both {m = m} {n = n} p q = says_both p q (λ xs ys v a b. joined {m = m} {n = n} (λ p. m p.0 + n p.1) xs ys v.0 v.1 v refl a b)

pub step_many : {A : Type 0} {r : RuleOf A} {Q : List Lexeme → Type 0} {m : A → ℕ} → Tells r (Step Q Q m) → Tells (many r) (Step Q Q (total m))
step_many {m = m} p = says_many p (record { behind = λ before q. q; grows = λ before q. omega arith }) (λ xs ys v vs a b. joined {m = m} {n = total m} (total m) xs ys v vs (v ∷ vs) refl a b)

-- of a value that measures no more
pub step_gives : {A B : Type 0} {r : RuleOf A} {f : A → B} {P Q : List Lexeme → Type 0} {m : A → ℕ} {o : B → ℕ} → Tells r (Step P Q m) → ((v : A) → o (f v) ≤ m v)
    → Tells (gives f r) (Step P Q o)
step_gives {f = f} {m = m} {o = o} p h = says_gives p (λ ts v a. record {
  behind = a.behind;
  grows = λ before q. let e : nodes before + m v ≤ nodes (push ts before) = a.grows before q in let l : o (f v) ≤ m v = h v in omega arith;
})

-- behind a word that counts n, and before one
pub step_behind : {A B : Type 0} {r : RuleOf A} {s : RuleOf B} {P Q S : List Lexeme → Type 0} {n : ℕ} {m : B → ℕ} → Tells r (Step P Q (λ v. n))
    → Tells s (Step Q S m) → Tells (gives (λ p. p.1) (both r s)) (Step P S (λ v. n + m v))
step_behind p q = step_gives (step_both p q) (λ v. omega arith)

pub step_before : {A B : Type 0} {r : RuleOf A} {s : RuleOf B} {P Q S : List Lexeme → Type 0} {m : A → ℕ} → Tells r (Step P Q m)
    → Tells s (Step Q S (λ v. 0)) → Tells (gives (λ p. p.0) (both r s)) (Step P S m)
step_before p q = step_gives (step_both p q) (λ v. omega arith)

pub step_fresh : {A : Type 0} {r : RuleOf A} {Q : List Lexeme → Type 0} {m : A → ℕ} → Tells r (Step Quiet Q m) → Tells r (Step Fresh Q m)
step_fresh p = says_less p (λ ts v a. record { behind = λ before f. a.behind before f.quiet; grows = λ before f. a.grows before f.quiet })

-- Single tokens.

pub step_token : {A : Type 0} {ks : List ℕ} {f : Lexeme → A} {P Q : List Lexeme → Type 0} {m : A → ℕ}
    → ((t : Lexeme) (before : List Lexeme) → has ks (class_of t) ≡ true → P before → Q (t ∷ before))
    → ((t : Lexeme) (before : List Lexeme) → has ks (class_of t) ≡ true → P before → nodes before + m (f t) ≤ nodes (t ∷ before))
    → Tells (token ks f) (Step P Q m)
step_token h g = says_token (λ t e. record { behind = λ before p. h t before e p; grows = λ before p. g t before e p })

-- one that counts, and behind it nothing is expected, or a value
pub step_counted : {A : Type 0} (ks : List ℕ) {f : Lexeme → A} → within ks counted ≡ true → apart ks resets ≡ true → Tells (token ks f) (Step Quiet Quiet (λ v. 1))
step_counted ks c r = step_token (λ t before h q. push_quiet t before (apart_right ks resets (class_of t) r h) q) (λ t before h q. push_counted t before (has-within ks counted (class_of t) c h) q)

pub step_joint : {A : Type 0} (ks : List ℕ) {f : Lexeme → A} → within ks counted ≡ true → apart ks joints ≡ true → Tells (token ks f) (Step Quiet Fresh (λ v. 1))
step_joint ks c j = step_token (λ t before h q. push_fresh t before (apart_right ks joints (class_of t) j h)) (λ t before h q. push_counted t before (has-within ks counted (class_of t) c h) q)

-- a plus or a minus
pub step_sign : {A : Type 0} (ks : List ℕ) {f : Lexeme → A} → apart ks resets ≡ true → apart ks joints ≡ true → Tells (token ks f) (Step Quiet Fresh (λ v. 0))
step_sign ks r j = step_token {m = λ v. 0} (λ t before h q. push_fresh t before (apart_right ks joints (class_of t) j h)) (λ t before h q. rw add-zero (push_kept t before (apart_right ks resets (class_of t) r h) q))

-- the first of a value
pub step_opener : {A : Type 0} (ks : List ℕ) {f : Lexeme → A} → within ks openers ≡ true → apart ks resets ≡ true → Tells (token ks f) (Step Fresh Quiet (λ v. 1))
step_opener ks o r = step_token (λ t before h q. push_quiet t before (apart_right ks resets (class_of t) r h) q.quiet) (λ t before h q. push_opener t before (has-within ks openers (class_of t) o h) q)

-- Sentences that count for nothing.

quiet_along : (ts before : List Lexeme) → Without class_of resets ts → Quiet before → Quiet (push ts before)
quiet_along [] before w q = q
quiet_along (t ∷ ts) before w q = quiet_along ts (t ∷ before) w.1 (push_quiet t before w.0 q)

kept_along : (ts before : List Lexeme) → Without class_of resets ts → Quiet before → nodes before ≤ nodes (push ts before)
kept_along [] before w q = omega arith
kept_along (t ∷ ts) before w q =
    let here : nodes before ≤ nodes (t ∷ before) = push_kept t before w.0 q in
    let more : nodes (t ∷ before) ≤ nodes (push ts (t ∷ before)) = kept_along ts (t ∷ before) w.1 (push_quiet t before w.0 q) in
    omega arith

pub step_silent : {A : Type 0} (r : RuleOf A) → avoids known resets r ≡ true → Tells r (Step Quiet Quiet (λ v. 0))
step_silent r h = says_less (lacks resets r h) (λ ts v w. record {
  behind = λ before q. quiet_along ts before w.none q;
  grows = λ before q. rw add-zero (kept_along ts before w.none q);
})

-- what counts at its front counts
pub step_led : {A B C : Type 0} {r : RuleOf A} {f : A × B → C} {P : List Lexeme → Type 0} → Tells r (Step P Quiet (λ v. 1)) → (s : RuleOf B) → avoids known resets s ≡ true
    → Tells (gives f (both r s)) (Step P Quiet (λ v. 1))
step_led p s h = step_gives (step_both p (step_silent s h)) (λ v. omega arith)

-- what counts within the limits is small
pub step_given : {A : Type 0} {r : RuleOf A} {Q : List Lexeme → Type 0} {m : A → ℕ} → Tells r (Step Fresh Q m) → Tells r (Given Fresh Good (λ v. m v ≤ most_formula_nodes))
step_given {m = m} p = says_less p (λ ts v a. record {
  holds = λ before f g.
      let e : nodes before + m v ≤ nodes (push ts before) = a.grows before f in
      let small = stand_end Good ts before g in
      omega (arith, small.few_nodes);
})
