-- Lines and line feeds: an event's text has none, and a line is cut at its own.
use Rattle.std.proofs.Common.{◌≡◌, ℕ, suc, ◌+◌, ◌%◌, ◌^◌, ◌<◌, ◌==◌, true, false, List, [], ◌∷◌, ◌++◌, length, get_or, ℤ, pos, negsuc, refl, sym, arith}
use Rattle.std.specs.Prelude.{not, codes, decimal, flat_map}
use Rattle.std.specs.Fmt.{signed_decimal}
use Rattle.std.proofs.lemmas.Bool.{and_parts}
use Rattle.std.proofs.lemmas.Bool.Decides.{nat_tests}
use Rattle.std.proofs.lemmas.Fmt.{decimal_by_steps_wide}
use Rattle.carol_text.specs.Number.{IsWithin}
use Rattle.carol_store.specs.declared.effect.Atom.{Atom}
use Rattle.carol_event.specs.declared.event.Cause.{Cause}
use Rattle.carol_event.specs.declared.event.Cause.TheVariants.{Barred, Behind}
use Rattle.carol_event.specs.declared.event.Event.{Event}
use Rattle.carol_event.specs.declared.event.Event.TheVariants.{Grant, Query, Issue, Release, Return, Refuse, Deliver, Cut, Join}
use Rattle.carol_event.specs.Numbers.{ArePair, Each, HasNumbers, HasNumbersOf, IsAtom, IsNumber, IsValue}
use Rattle.carol_event.specs.Texts.{atom_text, cause_text, event_text, pair_text}
use Rattle.carol_audit.specs.Lines.{HasNoFeed, has_no_feed}

-- ---- texts without a line feed

pub no_feed-append : (xs ys : List ℕ) → HasNoFeed xs → HasNoFeed ys → HasNoFeed (xs ++ ys)
no_feed-append [] ys h k = k
no_feed-append (x ∷ xs) ys h k =
    let both = and_parts (not (x == 10)) (has_no_feed xs) h
    in rw (both.0, no_feed-append xs ys both.1 k) refl

no_feed-digit : (d : ℕ) → d < 10 → HasNoFeed ((48 + d) ∷ [])
no_feed-digit d low =
    let other : (48 + d == 10) ≡ false = grind (arith, nat_tests)
    in rw other refl

no_feed-decimal : (n : ℕ) → n < 10 ^ 64 → HasNoFeed (decimal n)
no_feed-decimal n wide =
    decimal_by_steps_wide (λ n ds. HasNoFeed ds) no_feed-digit
    (λ n ds large front. no_feed-append ds ((48 + n % 10) ∷ []) front (no_feed-digit (n % 10) (omega arith)))
    n wide

no_feed-number : (n : ℕ) → IsNumber n → HasNoFeed (decimal n)
no_feed-number n fits = no_feed-decimal n (omega arith)

no_feed-signed : (deepest highest : ℕ) (z : ℤ) → deepest < 10 ^ 64 → highest < 10 ^ 64 → IsWithin deepest highest z → HasNoFeed (signed_decimal z)
no_feed-signed deepest highest (pos n) low high h = no_feed-decimal n (omega arith)
no_feed-signed deepest highest (negsuc n) low high h = no_feed-append (45 ∷ []) (decimal (suc n)) refl (no_feed-decimal (suc n) (omega arith))

no_feed-value : (z : ℤ) → IsValue z → HasNoFeed (signed_decimal z)
no_feed-value z h = no_feed-signed 9_223_372_036_854_775_808 9_223_372_036_854_775_807 z (omega arith) (omega arith) h

no_feed-pair : (m n : ℕ) → ArePair m n → HasNoFeed (pair_text m n)
no_feed-pair m n h = no_feed-append (decimal m) (codes " " ++ decimal n) (no_feed-number m h.0) (no_feed-append (codes " ") (decimal n) refl (no_feed-number n h.1))

no_feed-atom : (atom : Atom) → IsAtom atom → HasNoFeed (atom_text atom)
no_feed-atom atom h =
    no_feed-append (decimal atom.cell) (codes ":" ++ signed_decimal atom.value) (no_feed-number atom.cell h.0)
    (no_feed-append (codes ":") (signed_decimal atom.value) refl (no_feed-value atom.value h.1))

-- items, one space before each
module _ {X : Type 0} (fits : X → Type 0) (text : X → List ℕ) (each : (x : X) → fits x → HasNoFeed (text x)) where
  no_feed-items : (xs : List X) → Each fits xs → HasNoFeed (flat_map (λ x. codes " " ++ text x) xs)
  no_feed-items [] h = refl
  no_feed-items (x ∷ xs) h =
      no_feed-append (codes " " ++ text x) (flat_map (λ x. codes " " ++ text x) xs) (no_feed-append (codes " ") (text x) refl (each x h.0)) (no_feed-items xs h.1)

no_feed-cause : (cause : Cause) → HasNumbersOf cause → HasNoFeed (cause_text cause)
unfolding cause_text
no_feed-cause (Barred session guard) h = no_feed-append (codes "barred ") (pair_text session guard) refl (no_feed-pair session guard h)
no_feed-cause (Behind entry) h = no_feed-append (codes "behind ") (decimal entry) refl (no_feed-number entry h)

pub no_feed-event : (event : Event) → HasNumbers event → HasNoFeed (event_text event)
unfolding event_text
no_feed-event (Grant session guard) h = no_feed-append (codes "grant ") (pair_text session guard) refl (no_feed-pair session guard h)
no_feed-event (Query session guard store) h =
    no_feed-append (codes "query " ++ pair_text session guard) (flat_map (λ value. codes " " ++ signed_decimal value) store)
    (no_feed-append (codes "query ") (pair_text session guard) refl (no_feed-pair session guard h.0)) (no_feed-items IsValue signed_decimal no_feed-value store h.1)
no_feed-event (Issue session entry effect) h =
    no_feed-append (codes "issue " ++ pair_text session entry) (flat_map (λ atom. codes " " ++ atom_text atom) effect)
    (no_feed-append (codes "issue ") (pair_text session entry) refl (no_feed-pair session entry h.0)) (no_feed-items IsAtom atom_text no_feed-atom effect h.1)
no_feed-event (Release session) h = no_feed-append (codes "release ") (decimal session) refl (no_feed-number session h)
no_feed-event (Return session value) h =
    no_feed-append (codes "return ") (decimal session ++ (codes " " ++ signed_decimal value)) refl
    (no_feed-append (decimal session) (codes " " ++ signed_decimal value) (no_feed-number session h.0)
    (no_feed-append (codes " ") (signed_decimal value) refl
    (no_feed-signed 170_141_183_460_469_231_731_687_303_715_884_105_728 170_141_183_460_469_231_731_687_303_715_884_105_727 value (omega arith) (omega arith) h.1)))
no_feed-event (Refuse session cause) h =
    no_feed-append (codes "refuse " ++ (decimal session ++ codes " ")) (cause_text cause)
    (no_feed-append (codes "refuse ") (decimal session ++ codes " ") refl (no_feed-append (decimal session) (codes " ") (no_feed-number session h.0) refl)) (no_feed-cause cause h.1)
no_feed-event (Deliver source target entry) h =
    no_feed-append (codes "deliver ") (decimal source ++ (codes " " ++ pair_text target entry)) refl
    (no_feed-append (decimal source) (codes " " ++ pair_text target entry) (no_feed-number source h.0) (no_feed-append (codes " ") (pair_text target entry) refl (no_feed-pair target entry h.1)))
no_feed-event (Cut a b) h = no_feed-append (codes "cut ") (pair_text a b) refl (no_feed-pair a b h)
no_feed-event (Join a b) h = no_feed-append (codes "join ") (pair_text a b) refl (no_feed-pair a b h)

-- ---- cutting at the first line feed

clash : true ≡ false → ⊥
clash e = cc

-- a text with a line feed has one
pub feed_in : (line rest : List ℕ) → HasNoFeed (line ++ 10 ∷ rest) → ⊥
feed_in [] rest h = clash (sym h)
feed_in (x ∷ line) rest h = feed_in line rest (and_parts (not (x == 10)) (has_no_feed (line ++ 10 ∷ rest)) h).1

-- a text is cut at its first line feed in one way
pub one_cut : (line other rest more : List ℕ) → HasNoFeed line → HasNoFeed other → line ++ 10 ∷ rest ≡ other ++ 10 ∷ more → (line ≡ other) × (rest ≡ more)
one_cut [] [] rest more h k e = (refl, cc)
one_cut [] (y ∷ other) rest more h k e =
    let same : 10 ≡ y = cc
    in let both = and_parts (not (y == 10)) (has_no_feed other) k
    in absurd (clash (sym (rw (← same) at both.0)))
one_cut (x ∷ line) [] rest more h k e =
    let same : x ≡ 10 = cc
    in let both = and_parts (not (x == 10)) (has_no_feed line) h
    in absurd (clash (sym (rw same at both.0)))
one_cut (x ∷ line) (y ∷ other) rest more h k e =
    let first : x ≡ y = cc
    in let behind : line ++ 10 ∷ rest ≡ other ++ 10 ∷ more = cc
    in let h' = and_parts (not (x == 10)) (has_no_feed line) h
    in let k' = and_parts (not (y == 10)) (has_no_feed other) k
    in let next = one_cut line other rest more h'.1 k'.1 behind
    in (rw (first, next.0) refl, next.1)

-- no byte is a line feed
pub no_feed-each : (bytes : List ℕ) → ((k : ℕ) → k < length bytes → (get_or bytes k 0 == 10) ≡ false) → HasNoFeed bytes
no_feed-each [] h = refl
no_feed-each (x ∷ bytes) h =
    let first : (x == 10) ≡ false = h 0 (omega arith)
    in rw (first, no_feed-each bytes (λ k inside. h (suc k) (omega arith))) refl
