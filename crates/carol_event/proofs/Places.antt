-- Where a line is bad.
use Rattle.std.proofs.Common.{◌≡◌, ℕ, ◌+◌, ◌<◌, ◌≤◌, zero, suc, false, inl, inr, List, [], ◌∷◌, ◌++◌, length, Result, Ok, Err, refl, sym, ◌∙◌, ap, subst, append_assoc, append-nil, length-append, arith}
use Rattle.std.specs.Prelude.{codes, flat_map}
use Rattle.std.proofs.lemmas.Bool.{cases_lt}
use Rattle.std.specs.Fmt.{signed_decimal}
use Rattle.carol_text.specs.Number.{starts_with_digit}
use Rattle.carol_text.specs.Reading.{Reading, ◌>>=◌, word_at}
use Rattle.carol_text.proofs.Laws.{word_again}
use Rattle.carol_event.specs.declared.event.Event.{Event}
use Rattle.carol_event.specs.declared.event.Event.TheVariants.{Grant, Query, Issue, Release, Return, Refuse, Deliver, Cut as CutOff, Join}
use Rattle.carol_event.specs.declared.kind.Kind.{Kind}
use Rattle.carol_event.specs.declared.kind.Kind.TheVariants as kind
use Rattle.carol_event.specs.Kinds.{kind_of, word_of}
use Rattle.carol_event.specs.Faults.{IsBad, IsFull, IsGood, Stops}
use Rattle.carol_event.specs.Lines.{atom_at, event_at, fields_at, items_at, pair_at, value_at}
use Rattle.carol_event.specs.Numbers.{ArePair, Each, HasNumbers, IsAtom, IsValue}
use Rattle.carol_event.specs.Texts.{atom_text, atoms_text, event_text, pair_text, values_text}
use Rattle.carol_event.proofs.BegunLines.{Failed, event_begun}
use Rattle.carol_event.proofs.Exact.{IsExact, exact_atom, exact_pair, exact_value}
use Rattle.carol_event.proofs.OnlineLines.{bad_whatever_follows}
use Rattle.carol_event.proofs.RoundTrip.{no_event}

-- ---- a space behind as many items as there may be

module _ {X : Type 0} (fits : X → Type 0) (text : X → List ℕ) (read : List ℕ → Reading X) (exact : IsExact fits text read) where
  items_then_space : (n : ℕ) (xs : List X) → Each fits xs → length xs ≡ n → items_at read n (flat_map (λ x. codes " " ++ text x) xs ++ codes " ") ≡ Err 0
  unfolding items_at word_at
  items_then_space zero [] each full = refl
  items_then_space (suc n) [] each full = absurd (omega arith)
  items_then_space zero (x ∷ xs) each full = absurd (omega arith)
  items_then_space (suc n) (x ∷ xs) each full =
      rw (append_assoc (text x) (flat_map (λ x. codes " " ++ text x) xs) (codes " "), exact.again x (flat_map (λ x. codes " " ++ text x) xs ++ codes " ") each.0 (stops xs), items_then_space n xs each.1 (omega arith)) refl
    where
      stops : (xs : List X) → starts_with_digit (flat_map (λ x. codes " " ++ text x) xs ++ codes " ") ≡ false
      stops [] = refl
      stops (x ∷ xs) = refl

  listed_then_space : (make : ℕ → ℕ → List X → Event) (m n : ℕ) (xs : List X) → ArePair m n → Each fits xs → length xs ≡ 16 → (pair_at (pair_text m n ++ (flat_map (λ x. codes " " ++ text x) xs ++ codes " ")) >>= λ x. items_at read 16 x.1 >>= λ ys. Ok (make x.0.0 x.0.1 ys)) ≡ Err 0
  listed_then_space make m n xs pair each full =
      rw (exact_pair.again (m, n) (flat_map (λ x. codes " " ++ text x) xs ++ codes " ") pair (stops xs), items_then_space 16 xs each full) refl
    where
      stops : (xs : List X) → starts_with_digit (flat_map (λ x. codes " " ++ text x) xs ++ codes " ") ≡ false
      stops [] = refl
      stops (x ∷ xs) = refl

by_kind_bad : (k : Kind) (body : List ℕ) (left : ℕ) → kind_of (word_of k ++ body) ≡ k → fields_at k body ≡ Err left → event_at (word_of k ++ body) ≡ Err left
unfolding event_at
by_kind_bad k body left is bad = rw (is, word_again (word_of k) body) bad

regrouped : (a b c d : List ℕ) → ((a ++ b) ++ c) ++ d ≡ a ++ (b ++ (c ++ d))
regrouped a b c d = simp append_assoc

full_then_space : (event : Event) → HasNumbers event → IsFull event → event_at (event_text event ++ codes " ") ≡ Err 0
unfolding event_text fields_at word_of kind_of
full_then_space (Query session guard store) fits full =
    ap event_at (regrouped (codes "query ") (pair_text session guard) (values_text store) (codes " "))
    ∙ by_kind_bad kind.Query (pair_text session guard ++ (values_text store ++ codes " ")) 0 refl (listed_then_space IsValue signed_decimal value_at exact_value Query session guard store fits.0 fits.1 full)
full_then_space (Issue session entry effect) fits full =
    ap event_at (regrouped (codes "issue ") (pair_text session entry) (atoms_text effect) (codes " "))
    ∙ by_kind_bad kind.Issue (pair_text session entry ++ (atoms_text effect ++ codes " ")) 0 refl (listed_then_space IsAtom atom_text atom_at exact_atom Issue session entry effect fits.0 fits.1 full)
full_then_space (Grant session guard) fits full = absurd full
full_then_space (Release session) fits full = absurd full
full_then_space (Return session value) fits full = absurd full
full_then_space (Refuse session cause) fits full = absurd full
full_then_space (Deliver source target entry) fits full = absurd full
full_then_space (CutOff a b) fits full = absurd full
full_then_space (Join a b) fits full = absurd full

-- ---- the place

-- a byte with which the front is good is not bad
not_stuck : (front : List ℕ) (c : ℕ) (cs : List ℕ) → event_at (front ++ c ∷ cs) ≡ Err (length (c ∷ cs)) → IsGood (front ++ c ∷ []) → ⊥
not_stuck front c cs bad (inl (event, fits, more, spelled)) =
    no_event (front ++ c ∷ more) (length (c ∷ more)) event fits (sym (spelled ∙ append_assoc front (c ∷ []) more)) (bad_whatever_follows front c cs more bad)
not_stuck front c cs bad (inr (event, fits, full, same)) =
    let here : event_at (front ++ c ∷ []) ≡ Err 0 = rw same (full_then_space event fits full)
    in clash 1 0 (sym (bad_whatever_follows front c cs [] bad) ∙ here)
  where
    clash : (m n : ℕ) → ◌≡◌ {A = Result Event ℕ} (Err (suc n)) (Err n) → ⊥
    clash m n e = let same : suc n ≡ n = cc in omega arith

pub bad_place : (line : List ℕ) (left column : ℕ) → event_at line ≡ Err left → column + left ≡ length line + 1 → IsBad line column
bad_place line left column bad counted = at (event_begun line left bad)
  where
    stops : (front rest : List ℕ) → event_at (front ++ rest) ≡ Err (length rest) → Stops front rest
    stops front [] bad = λ event fits is. no_event (front ++ []) 0 event fits (append-nil front ∙ is) bad
    stops front (c ∷ cs) bad = not_stuck front c cs bad

    at : Failed line left → IsBad line column
    at h =
        let long : length line ≡ length h.cut.front + length h.cut.rest = ap length h.cut.are ∙ length-append h.cut.front h.cut.rest
        in record {
          front = h.cut.front;
          rest = h.cut.rest;
          are = h.cut.are;
          place = omega (arith, h.cut.long);
          good = h.good;
          stops = stops h.cut.front h.cut.rest (rw (← h.cut.are, h.cut.long) bad);
        }

-- ---- there is one place

-- of two fronts of one text the longer one goes on from the other
longer_front : (a b r s : List ℕ) → a ++ r ≡ b ++ s → length a ≤ length b → (m : List ℕ) × (b ≡ a ++ m) × (r ≡ m ++ s)
longer_front [] b r s same le = (b, refl, same)
longer_front (x ∷ a) [] r s same le = absurd (omega arith)
longer_front (x ∷ a) (y ∷ b) r s same le =
    let tails : a ++ r ≡ b ++ s = cc
    in let heads : x ≡ y = cc
    in let more = longer_front a b r s tails (omega arith)
    in let is : y ∷ b ≡ x ∷ (a ++ more.0) = cc (more.1)
    in (more.0, is, more.2)

-- what begins a good front is good
good_before : (front : List ℕ) (c : ℕ) (d : List ℕ) → IsGood (front ++ c ∷ d) → IsGood (front ++ c ∷ [])
good_before front c d (inl (event, fits, rest, spelled)) = inl (event, fits, d ++ rest, spelled ∙ ap (λ (t : List ℕ). t ++ rest) (sym (append_assoc front (c ∷ []) d)) ∙ append_assoc (front ++ c ∷ []) d rest)
good_before front c [] (inr full) = inr full
good_before front c (e ∷ d) (inr (event, fits, full, same)) =
    let joined : (front ++ c ∷ []) ++ (e ∷ d) ≡ event_text event ++ codes " " = append_assoc front (c ∷ []) (e ∷ d) ∙ same
    in let long : length (front ++ c ∷ []) + suc (length d) ≡ length (event_text event) + 1 = sym (length-append (front ++ c ∷ []) (e ∷ d)) ∙ ap length joined ∙ length-append (event_text event) (codes " ")
    in let more = longer_front (front ++ c ∷ []) (event_text event) (e ∷ d) (codes " ") joined (omega arith)
    in inl (event, fits, more.0, more.1)

not_before : (line : List ℕ) (column other : ℕ) → IsBad line column → IsBad line other → column < other → ⊥
not_before line column other one two less =
    let same : one.front ++ one.rest ≡ two.front ++ two.rest = sym one.are ∙ two.are
    in let more = longer_front one.front two.front one.rest two.rest same (omega (arith, one.place, two.place))
    in let long : length two.front ≡ length one.front + length more.0 = ap length more.1 ∙ length-append one.front more.0
    in at one.front one.rest more.0 two.rest more.2 (omega (arith, one.place, two.place)) (subst IsGood more.1 two.good) one.stops
  where
    at : (front rest more behind : List ℕ) → rest ≡ more ++ behind → 0 < length more → IsGood (front ++ more) → Stops front rest → ⊥
    at front rest [] behind is some good stops = omega arith
    at front rest (c ∷ d) behind is some good stops = subst (λ (r : List ℕ). Stops front r) is stops (good_before front c d good)

pub one_place : (line : List ℕ) (column other : ℕ) → IsBad line column → IsBad line other → column ≡ other
one_place line column other one two = elim (cases_lt column other) [
  | inl less ↦ absurd (not_before line column other one two less)
  | inr above ↦ elim (cases_lt other column) [
    | inl less ↦ absurd (not_before line other column two one less)
    | inr below ↦ omega arith
  ]
]

-- no event's text is bad
pub bad_no_event : (line : List ℕ) (column : ℕ) (event : Event) → HasNumbers event → line ≡ event_text event → IsBad line column → ⊥
bad_no_event line column event fits is bad = at bad.front bad.rest bad.are bad.stops
  where
    at : (front rest : List ℕ) → line ≡ front ++ rest → Stops front rest → ⊥
    at front [] are stops = stops event fits (sym (append-nil front) ∙ sym are ∙ is)
    at front (c ∷ cs) are stops = stops (inl (event, fits, cs, sym is ∙ are ∙ sym (append_assoc front (c ∷ []) cs)))
