-- Marked entries.
use Rattle.std.proofs.Common.{◌≡◌, ℕ, ◌+◌, ◌-◌, ◌*◌, ◌/◌, ◌%◌, ◌^◌, ◌<◌, ◌≤◌, true, false, eqb, ◌||◌, List, length, get_or, set, Some, None, min, inl, inr, refl, ◌∙◌, ap, arith, w64}
use Rattle.std.specs.Prelude.{bit_and, bit_or}
use Rattle.std.specs.Int.{bit_at, bit_not, trailing_zeros}
use Rattle.std.proofs.lemmas.Bool.{cases_eq, cases_lt, eq-eqb, eqb-true, false_from_ne_true, ne_eqb}
use Rattle.std.proofs.lemmas.List.{get_or_past, get_or-set_other, get_or-set_same}
use Rattle.std.proofs.lemmas.Nat.{and_le_l}
use Rattle.std.proofs.lemmas.Nat.Bits.{bit_at-lt, bit_at-trailing_zeros, bit_at-zero, bit_at_and, bit_at_not, bit_at_set_other, bit_at_set_same, shr_and_one}
use Rattle.carol_holding.specs.Marked.{IsFirstBeyond, is_marked}

-- the test of one bit
pub is_marked-test : (words : List ℕ) (entry word : ℕ) → word ≡ get_or words (entry / 64) 0 → eqb (bit_and (word / 2 ^ (entry % 64)) 1) 1 ≡ is_marked words entry
unfolding is_marked
is_marked-test words entry word is = rw (shr_and_one word (entry % 64), is) refl

-- a marked entry's bit
marked_bit : (words : List ℕ) (entry : ℕ) → is_marked words entry ≡ true → bit_at (get_or words (entry / 64) 0) (entry % 64) ≡ 1
unfolding is_marked
marked_bit words entry h = eqb-true (bit_at (get_or words (entry / 64) 0) (entry % 64)) 1 h

bit_marked : (words : List ℕ) (entry : ℕ) → bit_at (get_or words (entry / 64) 0) (entry % 64) ≡ 1 → is_marked words entry ≡ true
unfolding is_marked
bit_marked words entry h = eq-eqb (bit_at (get_or words (entry / 64) 0) (entry % 64)) 1 h

-- the bit of an entry that is given by its word and its place there
marked_at : (words : List ℕ) (at k : ℕ) → k < 64 → is_marked words (at * 64 + k) ≡ eqb (bit_at (get_or words at 0) k) 1
unfolding is_marked
marked_at words at k small =
    let word : (at * 64 + k) / 64 ≡ at = omega arith
    in let place : (at * 64 + k) % 64 ≡ k = omega arith
    in rw (word, place) refl

-- past the last word none is marked
pub marked_within : (words : List ℕ) (entry : ℕ) → is_marked words entry ≡ true → entry < 64 * length words
marked_within words entry h = elim (cases_lt (entry / 64) (length words)) [
  | inl inside ↦ omega arith
  | inr past ↦ absurd (let bit : bit_at (get_or words (entry / 64) 0) (entry % 64) ≡ 1 = marked_bit words entry h
      in let none : bit_at (get_or words (entry / 64) 0) (entry % 64) ≡ 0 = rw (get_or_past words (entry / 64) 0 past) (bit_at-zero (entry % 64))
      in omega arith)
]

pub unmarked_past : (words : List ℕ) (entry : ℕ) → 64 * length words ≤ entry → is_marked words entry ≡ false
unmarked_past words entry past = false_from_ne_true (is_marked words entry) (λ h. let inside : entry < 64 * length words = marked_within words entry h in omega arith)

-- words that are the same at each place
pub is_marked-same : (old new : List ℕ) → ((k : ℕ) → get_or new k 0 ≡ get_or old k 0) → (i : ℕ) → is_marked new i ≡ is_marked old i
unfolding is_marked
is_marked-same old new same i = rw (same (i / 64)) refl

-- one bit more is set
pub is_marked-set : (words : List ℕ) (entry word : ℕ) → word ≡ get_or words (entry / 64) 0 → entry / 64 < length words → (i : ℕ)
    → is_marked (set words (entry / 64) (bit_or word (1 * 2 ^ (entry % 64) % 2 ^ 64))) i ≡ (eqb entry i || is_marked words i)
unfolding is_marked
is_marked-set words entry word is inside i = elim (cases_eq (i / 64) (entry / 64)) [
  | inl same ↦ elim (cases_eq (i % 64) (entry % 64)) [
    | inl bit ↦ rw (same, get_or-set_same words (entry / 64) (bit_or word (1 * 2 ^ (entry % 64) % 2 ^ 64)) 0 inside, bit, bit_at_set_same w64 word (entry % 64) (omega arith), eq-eqb entry i (omega arith)) refl
    | inr apart ↦ rw (same, get_or-set_same words (entry / 64) (bit_or word (1 * 2 ^ (entry % 64) % 2 ^ 64)) 0 inside, bit_at_set_other w64 word (entry % 64) (omega arith) (i % 64) apart, is, ne_eqb entry i (λ e. omega arith)) refl
  ]
  | inr apart ↦ rw (get_or-set_other words (entry / 64) (i / 64) (bit_or word (1 * 2 ^ (entry % 64) % 2 ^ 64)) 0 apart, ne_eqb entry i (λ e. omega arith)) refl
]

-- the bits of the one word that the other lacks
beyond_bit : (mine theirs k : ℕ) → theirs < 2 ^ 64 → k < 64 → bit_at (bit_and mine (bit_not w64 theirs)) k ≡ min (bit_at mine k) (1 - bit_at theirs k)
beyond_bit mine theirs k fits small = bit_at_and mine (bit_not w64 theirs) k ∙ ap (λ (b : ℕ). min (bit_at mine k) b) (bit_at_not w64 theirs k fits small)

-- a bit that isn't among them
within_bit : (mine theirs k : ℕ) → theirs < 2 ^ 64 → k < 64 → bit_at (bit_and mine (bit_not w64 theirs)) k ≡ 0 → bit_at mine k ≡ 1 → bit_at theirs k ≡ 1
within_bit mine theirs k fits small none bit =
    let low : bit_at theirs k < 2 = bit_at-lt theirs k
    in omega (arith, beyond_bit mine theirs k fits small)

-- a bit that is
apart_bit : (mine theirs k : ℕ) → theirs < 2 ^ 64 → k < 64 → bit_at (bit_and mine (bit_not w64 theirs)) k ≡ 1 → (bit_at mine k ≡ 1) × (bit_at theirs k ≡ 0)
apart_bit mine theirs k fits small one =
    let low : bit_at mine k < 2 = bit_at-lt mine k
    in (omega (arith, beyond_bit mine theirs k fits small), omega (arith, beyond_bit mine theirs k fits small))

-- the words at one place, the marks before which were compared
module _ (mine theirs : List ℕ) (at word other : ℕ) (is : word ≡ get_or mine at 0) (other_is : other ≡ get_or theirs at 0) (fits : word < 2 ^ 64) (other_fits : other < 2 ^ 64) (before : (i : ℕ) → i < 64 * at → is_marked mine i ≡ true → is_marked theirs i ≡ true) where
  -- a mark of this word
  within_word : (i : ℕ) → i / 64 ≡ at → bit_at (bit_and word (bit_not w64 other)) (i % 64) ≡ 0 → is_marked mine i ≡ true → is_marked theirs i ≡ true
  within_word i here none marked =
      let bit : bit_at word (i % 64) ≡ 1 = rw (is, ← here) (marked_bit mine i marked)
      in bit_marked theirs i (rw (here, ← other_is) (within_bit word other (i % 64) other_fits (omega arith) none bit))

  -- the word has no mark that the other lacks
  pub before-more : bit_and word (bit_not w64 other) ≡ 0 → (i : ℕ) → i < 64 * (at + 1) → is_marked mine i ≡ true → is_marked theirs i ≡ true
  before-more none i low marked = elim (cases_lt i (64 * at)) [
    | inl earlier ↦ before i earlier marked
    | inr here ↦ within_word i (omega arith) (rw none (bit_at-zero (i % 64))) marked
  ]

  -- it has one, and this is the first
  pub first_in_word : 0 < bit_and word (bit_not w64 other) → IsFirstBeyond mine theirs (Some (at * 64 + trailing_zeros w64 (bit_and word (bit_not w64 other))))
  first_in_word some =
      let beyond : ℕ = bit_and word (bit_not w64 other)
      in let small : beyond ≤ word = and_le_l word (bit_not w64 other)
      in let lowest : (trailing_zeros w64 beyond < 64) × (bit_at beyond (trailing_zeros w64 beyond) ≡ 1) × ((i : ℕ) → i < trailing_zeros w64 beyond → bit_at beyond i ≡ 0) = bit_at-trailing_zeros w64 beyond some (omega arith)
      in let k : ℕ = trailing_zeros w64 beyond
      in let apart : (bit_at word k ≡ 1) × (bit_at other k ≡ 0) = apart_bit word other k other_fits lowest.0 lowest.1
      in (
        marked_at mine at k lowest.0 ∙ rw (← is, apart.0) refl,
        marked_at theirs at k lowest.0 ∙ rw (← other_is, apart.1) refl,
        λ i low marked. elim (cases_lt i (64 * at)) [
          | inl earlier ↦ before i earlier marked
          | inr here ↦ within_word i (omega arith) (lowest.2 (i % 64) (omega arith)) marked
        ],
      )

-- all words were compared
pub none_beyond : (mine theirs : List ℕ) (at : ℕ) → length mine ≤ at → ((i : ℕ) → i < 64 * at → is_marked mine i ≡ true → is_marked theirs i ≡ true) → IsFirstBeyond mine theirs None
none_beyond mine theirs at all before i marked = before i (let inside : i < 64 * length mine = marked_within mine i marked in omega arith) marked
