-- Sentences without tokens of some kinds, and with no fewer than their values measure.
use Rattle.std.proofs.Common.{◌≡◌, ℕ, ◌+◌, ◌≤◌, Bool, true, false, cond, ◌&&◌, ◌⊎◌, inl, inr, refl, List, [], ◌∷◌, ◌++◌, length, length-append, arith}
use Rattle.carol_grammar.specs.Sets.{has, within, apart}
use Rattle.carol_grammar.specs.Rule.{Rule}
use Rattle.carol_grammar.specs.Rule.Rule.{token, both, gives, either, perhaps, many, begins, deeper}
use Rattle.carol_grammar.specs.Sentence.{Language}
use Rattle.carol_grammar.specs.Reading.{may_be_empty}
use Rattle.carol_grammar.proofs.SetLemmas.{and_left, and_right, true_false, apart_right, has-within}
use Rattle.carol_grammar.proofs.Says.{Says, says_any, says_token, says_gives, says_less, says_both, says_either, says_perhaps, says_many, says_begins, says_deeper}

-- no token is of one of the kinds
abbrev pub Without : {T : Type 0} → (T → ℕ) → List ℕ → List T → Type 0
Without kind ks [] = Unit {0}
Without kind ks (t ∷ ts) = (has ks (kind t) ≡ false) × Without kind ks ts

pub record Lacks {T A : Type 0} (kind : T → ℕ) (ks : List ℕ) (ts : List T) (v : A) : Type 0 where
  pub none : Without kind ks ts

pub without_both : {T : Type 0} (kind : T → ℕ) (ks : List ℕ) (xs ys : List T) → Without kind ks xs → Without kind ks ys → Without kind ks (xs ++ ys)
without_both kind ks [] ys h g = g
without_both kind ks (x ∷ xs) ys h g = (h.0, without_both kind ks xs ys h.1 g)

has_none : (xs ys : List ℕ) (k : ℕ) → within xs ys ≡ true → has ys k ≡ false → has xs k ≡ false
has_none xs ys k w h = true_false (has xs k) (λ e. let f : has ys k ≡ true = has-within xs ys k w e in cc)

without_less : {T : Type 0} (kind : T → ℕ) (xs ys : List ℕ) (ts : List T) → within xs ys ≡ true → Without kind ys ts → Without kind xs ts
without_less kind xs ys [] w h = tt
without_less kind xs ys (t ∷ ts) w h = (has_none xs ys (kind t) w h.0, without_less kind xs ys ts w h.1)

-- no sentence of the rule has a token of these kinds, if those of a rule that reaches itself have
-- none of the known ones
abbrev pub avoids : {T V : Type 0} {Value : V → Type 0} {A : Type 0} → (V → List ℕ) → List ℕ → Rule T V Value A → Bool
avoids known ks (token js f) = apart js ks
avoids known ks (both r s) = avoids known ks r && avoids known ks s
avoids known ks (gives f r) = avoids known ks r
avoids known ks (either r s) = avoids known ks r && avoids known ks s
avoids known ks (perhaps r) = avoids known ks r
avoids known ks (many r) = avoids known ks r
avoids known ks (begins js r) = avoids known ks r
avoids known ks (deeper w) = within ks (known w)

module _ {T V : Type 0} {Value : V → Type 0} (kind : T → ℕ) (K : (v : V) → Language T (Value v)) where
  pub says_lacks : (known : V → List ℕ) → ((v : V) (ts : List T) (x : Value v) → K v ts x → Without kind (known v) ts) → (ks : List ℕ) {A : Type 0} (r : Rule T V Value A) → avoids known ks r ≡ true → Says kind K r (Lacks kind ks)
  says_lacks known lack ks (token js f) h = says_token (λ t e. record { none = (apart_right js ks (kind t) h e, tt) })
  says_lacks known lack ks (both r s) h =
      says_both (says_lacks known lack ks r (and_left _ _ h)) (says_lacks known lack ks s (and_right (avoids known ks r) _ h)) (λ xs ys p a b. record { none = without_both kind ks xs ys a.none b.none })
  says_lacks known lack ks (gives f r) h = says_gives (says_lacks known lack ks r h) (λ ts v a. record { none = a.none })
  says_lacks known lack ks (either r s) h =
      says_either (says_lacks known lack ks r (and_left _ _ h)) (says_lacks known lack ks s (and_right (avoids known ks r) _ h))
  says_lacks known lack ks (perhaps r) h = says_perhaps (says_lacks known lack ks r h) (record { none = tt }) (λ ts v a. record { none = a.none })
  says_lacks known lack ks (many r) h = says_many (says_lacks known lack ks r h) (record { none = tt }) (λ xs ys v vs a b. record { none = without_both kind ks xs ys a.none b.none })
  says_lacks known lack ks (begins js r) h = says_begins (says_lacks known lack ks r h)
  says_lacks known lack ks (deeper w) h = says_less (says_deeper w) (λ ts v x. record { none = without_less kind ks (known w) ts h (lack w ts v x) })

-- the value measures no more than it has tokens
pub record Few {T A : Type 0} (m : A → ℕ) (ts : List T) (v : A) : Type 0 where
  pub within : m v ≤ length ts

either_false : (a b : Bool) → cond a true b ≡ false → (a ≡ false) × (b ≡ false)
either_false true b h = cc
either_false false b h = (refl, h)

both_false : (a b : Bool) → cond a b false ≡ false → (a ≡ false) ⊎ (b ≡ false)
both_false true b h = inr h
both_false false b h = inl refl

module _ {T V : Type 0} {Value : V → Type 0} {kind : T → ℕ} {K : (v : V) → Language T (Value v)} where
  pub few_gives : {A B : Type 0} {r : Rule T V Value A} {f : A → B} {m : A → ℕ} {n : B → ℕ} → Says kind K r (Few m) → ((v : A) → n (f v) ≤ m v) → Says kind K (gives f r) (Few n)
  few_gives {f = f} {m = m} {n = n} p h = says_gives p (λ ts v a. record { within = let l : n (f v) ≤ m v = h v in omega (arith, a.within) })

  pub few_both : {A B : Type 0} {r : Rule T V Value A} {s : Rule T V Value B} {m : A → ℕ} {n : B → ℕ} → Says kind K r (Few m) → Says kind K s (Few n) → Says kind K (both r s) (Few (λ p. m p.0 + n p.1))
  few_both p q = says_both p q (λ xs ys v a b. record { within = omega (arith, length-append xs ys, a.within, b.within) })

  -- what measures nothing
  pub few_none : {A : Type 0} {r : Rule T V Value A} → Says kind K r (Few (λ v. 0))
  few_none = says_less says_any (λ ts v u. record { within = omega arith })

  -- behind a word, and before one
  pub few_behind : {A B : Type 0} {r : Rule T V Value A} {s : Rule T V Value B} {m : B → ℕ} → Says kind K s (Few m) → Says kind K (gives (λ p. p.1) (both r s)) (Few m)
  few_behind p = few_gives (few_both few_none p) (λ v. omega arith)

  pub few_before : {A B : Type 0} {r : Rule T V Value A} {s : Rule T V Value B} {m : A → ℕ} → Says kind K r (Few m) → Says kind K (gives (λ p. p.0) (both r s)) (Few m)
  few_before p = few_gives (few_both p few_none) (λ v. omega arith)

  -- where each has a token there are no more of them than tokens
  pub few_many : {A : Type 0} {r : Rule T V Value A} → Says kind K r (Few (λ v. 1)) → Says kind K (many r) (Few length)
  few_many p = says_many p (record { within = omega arith }) (λ xs ys v vs a b. record { within = omega (arith, length-append xs ys, a.within, b.within) })

  -- a sentence of a rule that is never empty has a token
  pub says_filled : ((v : V) (ts : List T) (x : Value v) → K v ts x → 1 ≤ length ts) → {A : Type 0} (r : Rule T V Value A) → may_be_empty r ≡ false → Says kind K r (Few (λ v. 1))
  says_filled some (token js f) h = says_token (λ t e. record { within = omega arith })
  says_filled some (both r s) h = elim (both_false (may_be_empty r) (may_be_empty s) h) [
    | inl e ↦ says_less (few_both (says_filled some r e) few_none) (λ ts v a. record { within = omega (arith, a.within) })
    | inr e ↦ says_less (few_both few_none (says_filled some s e)) (λ ts v a. record { within = omega (arith, a.within) })
  ]
  says_filled some (gives f r) h = few_gives (says_filled some r h) (λ v. omega arith)
  says_filled some (either r s) h =
      let parts = either_false (may_be_empty r) (may_be_empty s) h in says_either (says_filled some r parts.0) (says_filled some s parts.1)
  says_filled some (perhaps r) h = absurd cc
  says_filled some (many r) h = absurd cc
  says_filled some (begins js r) h = says_begins (says_filled some r h)
  says_filled some (deeper w) h = says_less (says_deeper w) (λ ts v x. record { within = some w ts v x })
