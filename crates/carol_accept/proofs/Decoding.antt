-- Numbers whose lines are the same are the same.
use Rattle.std.proofs.Common.{◌≡◌, ℕ, zero, suc, ◌+◌, ◌≤◌, ◌<◌, ◌^◌, ◌⊎◌, inl, inr, List, [], ◌∷◌, ◌++◌, Ok, refl, sym, ◌∙◌, ap, subst, append_assoc, arith}
use Rattle.std.specs.Prelude.{ℤ, pos, negsuc, codes, unsigned_abs}
use Rattle.std.specs.List.{AllByRecursion}
use Rattle.std.specs.Fmt.{signed_decimal}
use Rattle.std.proofs.lemmas.List.{append_cancel_left}
use Rattle.std.proofs.Math.Nat.{eq-or-lt_of_le}
use Rattle.carol_formula.specs.Bounds.{AreNear}
use Rattle.carol_program.specs.Variables.{query_variable}
use Rattle.carol_text.specs.Number.{IsWithin, integer_at}
use Rattle.carol_text.proofs.Numbers.{integer_again}
use Rattle.carol_text.proofs.Words.{ok_parts}
use Rattle.carol_obligation.specs.Decoded.{round_variable}
use Rattle.carol_obligation.proofs.Alike.{SameFrom}
use Rattle.carol_accept.specs.declared.trail.Asked.{Asked}
use Rattle.carol_accept.specs.declared.trail.Trail.{Trail}
use Rattle.carol_accept.specs.Lines.{line_text, numbers_text, own_text, queries_text, rounds_text, shown_for}

abbrev most : ℕ
most = 2 ^ 127

within : (z : ℤ) → unsigned_abs z ≤ most → IsWithin most most z
within (pos n) h = h
within (negsuc n) h = h

tails : {c d : ℕ} {xs ys : List ℕ} → c ∷ xs ≡ d ∷ ys → xs ≡ ys
tails e = cc

-- the number in front of a line feed
signed_parts : (a b : ℤ) (x y : List ℕ) → unsigned_abs a ≤ most → unsigned_abs b ≤ most → signed_decimal a ++ 10 ∷ x ≡ signed_decimal b ++ 10 ∷ y → (a ≡ b) × (x ≡ y)
signed_parts a b x y ha hb e =
    let one = integer_again most most a (10 ∷ x) (omega arith) (omega arith) (within a ha) refl
    in let two = integer_again most most b (10 ∷ y) (omega arith) (omega arith) (within b hb) refl
    in let same : Ok (a, 10 ∷ x) ≡ Ok (b, 10 ∷ y) = sym one ∙ ap (integer_at most most) e ∙ two
    in let parts = ok_parts a b (10 ∷ x) (10 ∷ y) same
    in (parts.0, tails parts.1)

nested : (name : List ℕ) (a : ℤ) (x : List ℕ) → line_text name a ++ x ≡ name ++ (codes " = " ++ (signed_decimal a ++ 10 ∷ x))
nested name a x =
    append_assoc name (codes " = " ++ (signed_decimal a ++ 10 ∷ [])) x
    ∙ ap (λ (t : List ℕ). name ++ t) (append_assoc (codes " = ") (signed_decimal a ++ 10 ∷ []) x
    ∙ ap (λ (t : List ℕ). codes " = " ++ t) (append_assoc (signed_decimal a) (10 ∷ []) x))

line_parts : (name : List ℕ) (a b : ℤ) (x y : List ℕ) → unsigned_abs a ≤ most → unsigned_abs b ≤ most → line_text name a ++ x ≡ line_text name b ++ y → (a ≡ b) × (x ≡ y)
line_parts name a b x y ha hb e =
    let whole = sym (nested name a x) ∙ e ∙ nested name b y
    in let rest = append_cancel_left name (codes " = " ++ (signed_decimal a ++ 10 ∷ x)) (codes " = " ++ (signed_decimal b ++ 10 ∷ y)) whole
    in signed_parts a b x y ha hb (append_cancel_left (codes " = ") (signed_decimal a ++ 10 ∷ x) (signed_decimal b ++ 10 ∷ y) rest)

module _ (name : ℕ → List ℕ) (f g : ℕ → ℤ) (near_f : AreNear (2 ^ 127) f) (near_g : AreNear (2 ^ 127) g) where
  pub numbers_parts : (count named shown : ℕ) (x y : List ℕ) → numbers_text name f count named shown ++ x ≡ numbers_text name g count named shown ++ y → SameFrom f g shown count × (x ≡ y)
  numbers_parts zero named shown x y e = (λ i lt. absurd (omega (arith, lt)), e)
  numbers_parts (suc count) named shown x y e =
      let whole = sym (append_assoc (line_text (name named) (f shown)) (numbers_text name f count (named + 1) (shown + 1)) x) ∙ e ∙ append_assoc (line_text (name named) (g shown)) (numbers_text name g count (named + 1) (shown + 1)) y
      in let first = line_parts (name named) (f shown) (g shown) _ _ (near_f shown) (near_g shown) whole
      in let more = numbers_parts count (named + 1) (shown + 1) x y first.1
      in (each first.0 more.0, more.1)
    where
      each : f shown ≡ g shown → SameFrom f g (shown + 1) count → SameFrom f g shown (suc count)
      each first more zero lt = ap f (omega arith) ∙ first ∙ ap g (omega arith)
      each first more (suc i) lt = ap f (omega arith) ∙ more i (omega (arith, lt)) ∙ ap g (omega arith)

  pub queries_parts : (cells : ℕ) (asked : List Asked) (x y : List ℕ) → queries_text name f cells asked ++ x ≡ queries_text name g cells asked ++ y → AllByRecursion (λ (a : Asked). SameFrom f g (query_variable a.slot 0) cells) asked × (x ≡ y)
  queries_parts cells [] x y e = (tt, e)
  queries_parts cells (a ∷ asked) x y e =
      let base = query_variable a.slot 0
      in let first = numbers_parts cells base base (queries_text name f cells asked ++ x) (queries_text name g cells asked ++ y)
      (sym (append_assoc (own_text name f cells base) (queries_text name f cells asked) x) ∙ e ∙ append_assoc (own_text name g cells base) (queries_text name g cells asked) y)
      in let more = queries_parts cells asked x y first.1
      in ((first.0, more.0), more.1)

  pub rounds_parts : (cells : ℕ) (t : Trail) (count round : ℕ) → rounds_text name f cells t count round ≡ rounds_text name g cells t count round → (r : ℕ) → round ≤ r → r < round + count → SameFrom f g (round_variable (shown_for t r) 0) cells
  rounds_parts cells t zero round e r low high = absurd (omega (arith, low, high))
  rounds_parts cells t (suc count) round e r low high =
      let first = numbers_parts cells (round_variable round 0) (round_variable (shown_for t round) 0) (rounds_text name f cells t count (round + 1)) (rounds_text name g cells t count (round + 1)) e
      in here_or_later (eq-or-lt_of_le low) first.0 (λ later. rounds_parts cells t count (round + 1) first.1 r (omega (arith, later)) (omega (arith, high)))
    where
      here_or_later : (round ≡ r) ⊎ (round < r) → SameFrom f g (round_variable (shown_for t round) 0) cells → (round < r → SameFrom f g (round_variable (shown_for t r) 0) cells) → SameFrom f g (round_variable (shown_for t r) 0) cells
      here_or_later (inl is) here later = subst (λ (n : ℕ). SameFrom f g (round_variable (shown_for t n) 0) cells) is here
      here_or_later (inr more) here later = later more
