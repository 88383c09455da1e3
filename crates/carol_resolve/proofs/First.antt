-- The earliest of faults is the first of them.
use Rattle.std.proofs.Common.{◌≡◌, ◌≤◌, ℕ, ◌⊎◌, inl, inr, Bool, true, false, ◌&&◌, ◌||◌, ◌==◌, List, [], ◌∷◌, Some, None, refl, ap, sym, arith, subst}
use Rattle.std.specs.Prelude.{nat_lt, if◌then◌else◌}
use Rattle.std.specs.List.{AllByRecursion}
use Rattle.std.proofs.lemmas.Bool.Decides.{nat_tests}
use Rattle.carol_meaning.specs.declared.fault.Fault.{Fault}
use Rattle.carol_meaning.specs.Faults.{rank, is_before, IsOf, IsFirst, earliest}

-- ---- the order of places and kinds, on numbers

abbrev before : ℕ → ℕ → ℕ → ℕ → ℕ → ℕ → Bool
before l c r l' c' r' = nat_lt l l' || (l == l' && (nat_lt c c' || (c == c' && nat_lt r r')))

record NotBefore (l c r l' c' r' : ℕ) : Type 0 where
  lines : l' ≤ l
  columns : l ≡ l' → c' ≤ c
  ranks : l ≡ l' → c ≡ c' → r' ≤ r

not_before : (l c r l' c' r' : ℕ) → before l c r l' c' r' ≡ false → NotBefore l c r l' c' r'
not_before l c r l' c' r' h = record { lines = grind (arith, nat_tests); columns = grind (arith, nat_tests); ranks = grind (arith, nat_tests) }

is_not_before : (l c r l' c' r' : ℕ) → NotBefore l c r l' c' r' → before l c r l' c' r' ≡ false
is_not_before l c r l' c' r' h =
    let lines : l' ≤ l = h.lines in
    let columns : l ≡ l' → c' ≤ c = h.columns in
    let ranks : l ≡ l' → c ≡ c' → r' ≤ r = h.ranks in
    grind (arith, nat_tests)

before-apart : (l c r l' c' r' : ℕ) → before l c r l' c' r' ≡ true → before l' c' r' l c r ≡ false
before-apart l c r l' c' r' h = grind (arith, nat_tests)

apart-from-itself : (l c r : ℕ) → before l c r l c r ≡ false
apart-from-itself l c r = is_not_before l c r l c r (record { lines = omega arith; columns = λ e. omega arith; ranks = λ e e'. omega arith })

not_before-trans : (l c r l' c' r' l'' c'' r'' : ℕ) → NotBefore l c r l' c' r' → NotBefore l' c' r' l'' c'' r'' → NotBefore l c r l'' c'' r''
not_before-trans l c r l' c' r' l'' c'' r'' h k =
    let lines : l' ≤ l = h.lines in
    let columns : l ≡ l' → c' ≤ c = h.columns in
    let ranks : l ≡ l' → c ≡ c' → r' ≤ r = h.ranks in
    let more_lines : l'' ≤ l' = k.lines in
    let more_columns : l' ≡ l'' → c'' ≤ c' = k.columns in
    let more_ranks : l' ≡ l'' → c' ≡ c'' → r'' ≤ r' = k.ranks in
    record {
      lines = omega arith;
      columns = λ (e : l ≡ l''). let one : l ≡ l' = omega arith in let two : l' ≡ l'' = omega arith in omega (arith, columns one, more_columns two);
      ranks = λ (e : l ≡ l'') (e' : c ≡ c'').
          let one : l ≡ l' = omega arith in
          let two : l' ≡ l'' = omega arith in
          let three : c ≡ c' = omega (arith, columns one, more_columns two) in
          let four : c' ≡ c'' = omega (arith, columns one, more_columns two) in
          omega (arith, ranks one three, more_ranks two four);
    }

-- ---- the order of faults

after-all : (f g h : Fault) → is_before f g ≡ false → is_before g h ≡ false → is_before f h ≡ false
after-all f g h one two =
    is_not_before f.span.line f.span.column (rank f.kind) h.span.line h.span.column (rank h.kind)
    (not_before-trans f.span.line f.span.column (rank f.kind) g.span.line g.span.column (rank g.kind) h.span.line h.span.column (rank h.kind)
    (not_before f.span.line f.span.column (rank f.kind) g.span.line g.span.column (rank g.kind) one)
    (not_before g.span.line g.span.column (rank g.kind) h.span.line h.span.column (rank h.kind) two))

other-way : (f g : Fault) → is_before f g ≡ true → is_before g f ≡ false
other-way f g = before-apart f.span.line f.span.column (rank f.kind) g.span.line g.span.column (rank g.kind)

itself : (f : Fault) → is_before f f ≡ false
itself f = apart-from-itself f.span.line f.span.column (rank f.kind)

-- ---- the earliest

-- what is kept of a fault and those behind it
record IsKept (k f : Fault) (fs : List Fault) : Type 0 where
  is_of : (k ≡ f) ⊎ IsOf f fs
  here : is_before k f ≡ false
  behind : AllByRecursion (λ g. is_before g f ≡ false) fs

of-head : (f g : Fault) (gs : List Fault) → (g ≡ f) ⊎ IsOf f gs → IsOf f (g ∷ gs)
of-head f g gs (inl e) = ([], gs, ap (λ h. h ∷ gs) e)
of-head f g gs (inr h) = (g ∷ h.0, h.1, ap (λ hs. g ∷ hs) h.2)

later : (k f g : Fault) (gs : List Fault) → (k ≡ f) ⊎ IsOf f gs → (k ≡ f) ⊎ IsOf f (g ∷ gs)
later k f g gs (inl e) = inl e
later k f g gs (inr h) = inr (of-head f g gs (inr h))

kept-step : (k f g : Fault) (gs : List Fault) (b : Bool) → is_before g k ≡ b → ((kept : Fault) → earliest (Some kept) gs ≡ Some f → IsKept kept f gs) → earliest (if b then Some g else Some k) gs ≡ Some f → IsKept k f (g ∷ gs)
kept-step k f g gs true h rest is =
    let on : IsKept g f gs = rest g is in
    record { is_of = inr (of-head f g gs on.is_of); here = after-all k g f (other-way g k h) on.here; behind = (on.here, on.behind) }
kept-step k f g gs false h rest is =
    let on : IsKept k f gs = rest k is in
    record { is_of = later k f g gs on.is_of; here = on.here; behind = (after-all g k f h on.here, on.behind) }

is-kept : (k f : Fault) (fs : List Fault) → earliest (Some k) fs ≡ Some f → IsKept k f fs
is-kept k f [] is =
    let same : k ≡ f = cc is in
    record { is_of = inl same; here = subst (λ (g : Fault). is_before g f ≡ false) (sym same) (itself f); behind = tt }
is-kept k f (g ∷ gs) is = kept-step k f g gs (is_before g k) refl (λ kept h. is-kept kept f gs h) is

-- what is kept of all faults is the first of them
pub is-first : (f : Fault) (fs : List Fault) → earliest None fs ≡ Some f → IsFirst f fs
is-first f [] is = cc is
is-first f (g ∷ gs) is =
    let kept : IsKept g f gs = is-kept g f gs is in
    record { is_of = of-head f g gs kept.is_of; first = (kept.here, kept.behind) }

kept-step-some : (k g : Fault) (gs : List Fault) (b : Bool) → ((kept : Fault) → earliest (Some kept) gs ≡ None → ⊥) → earliest (if b then Some g else Some k) gs ≡ None → ⊥
kept-step-some k g gs true rest is = rest g is
kept-step-some k g gs false rest is = rest k is

kept-some : (k : Fault) (fs : List Fault) → earliest (Some k) fs ≡ None → ⊥
kept-some k [] is = cc is
kept-some k (g ∷ gs) is = kept-step-some k g gs (is_before g k) (λ kept h. kept-some kept gs h) is

-- nothing is kept of no faults alone
pub none-kept : (fs : List Fault) → earliest None fs ≡ None → fs ≡ []
none-kept [] is = refl
none-kept (f ∷ fs) is = absurd (kept-some f fs is)
