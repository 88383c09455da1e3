-- What one replica holds.
use Rattle.std.proofs.Common.{◌≡◌, ℕ, ◌+◌, ◌-◌, ◌*◌, ◌<◌, ◌≤◌, zero, suc, true, false, eqb, ◌||◌, List, [], length, Option, Some, None, inl, inr, refl, sym, ◌∙◌, arith}
use Rattle.std.proofs.lemmas.Bool.{cases_Bool, cases_eq, cases_lt, cases_order, eq-eqb, or_right, ne_eqb, lt-ltb, le-ltb}
use Rattle.carol_holding.specs.declared.row.TheConstants.{MOST_ENTRIES, MOST_WORDS}
use Rattle.carol_holding.specs.Held.{HeldBy, has_entry, is_listed}
use Rattle.carol_holding.specs.Marked.{IsFirstBeyond, is_marked}
use Rattle.carol_holding.specs.Rows.{IsFirstLacked, IsKept, held_of, marked_from, nothing}
use Rattle.carol_holding.proofs.Marked.{unmarked_past}

-- what is below the front is held
pub has_below : (held : HeldBy) (i : ℕ) → i < held.front → has_entry held i ≡ true
has_below held i h = rw (lt-ltb i held.front h) refl

-- none is listed before the first
listed_below : (words : List ℕ) (least count i : ℕ) → i < least → is_listed (marked_from words least count) i ≡ false
unfolding marked_from
listed_below words least zero i low = refl
listed_below words least (suc count) i low = elim (cases_Bool (is_marked words least)) [
  | inl marked ↦ rw (marked, ne_eqb least i (λ e. omega arith)) (listed_below words (least + 1) count i (omega arith))
  | inr unmarked ↦ rw unmarked (listed_below words (least + 1) count i (omega arith))
]

-- nor past the last
listed_past : (words : List ℕ) (least count i : ℕ) → least + count ≤ i → is_listed (marked_from words least count) i ≡ false
unfolding marked_from
listed_past words least zero i past = refl
listed_past words least (suc count) i past = elim (cases_Bool (is_marked words least)) [
  | inl marked ↦ rw (marked, ne_eqb least i (λ e. omega arith)) (listed_past words (least + 1) count i (omega arith))
  | inr unmarked ↦ rw unmarked (listed_past words (least + 1) count i (omega arith))
]

-- between them those that are marked
listed_within : (words : List ℕ) (least count i : ℕ) → least ≤ i → i < least + count → is_listed (marked_from words least count) i ≡ is_marked words i
unfolding marked_from
listed_within words least zero i low high = absurd (omega arith)
listed_within words least (suc count) i low high = elim (cases_eq least i) [
  | inl same ↦ elim (cases_Bool (is_marked words least)) [
    | inl marked ↦ rw (marked, eq-eqb least i same, ← same, marked) refl
    | inr unmarked ↦ rw (unmarked, ← same, unmarked) (listed_below words (least + 1) count least (omega arith))
  ]
  | inr apart ↦ elim (cases_Bool (is_marked words least)) [
    | inl marked ↦ rw (marked, ne_eqb least i apart) (listed_within words (least + 1) count i (omega arith) (omega arith))
    | inr unmarked ↦ rw unmarked (listed_within words (least + 1) count i (omega arith) (omega arith))
  ]
]

-- what is held is what is marked
pub has_marked : (front : ℕ) (words : List ℕ) → IsKept front words → (i : ℕ) → has_entry (held_of front words) i ≡ is_marked words i
has_marked front words is i = elim (cases_order i front) [
  | inl same ↦ rw (same, le-ltb front front (omega arith), is.lacks) (listed_below words (front + 1) (64 * length words - (front + 1)) front (omega arith))
  | inr rest ↦ elim rest [
    | inl low ↦ rw (lt-ltb i front low, is.below i low) refl
    | inr high ↦ elim (cases_lt i (64 * length words)) [
      | inl inside ↦ rw (le-ltb i front (omega arith)) (listed_within words (front + 1) (64 * length words - (front + 1)) i (omega arith) (omega arith))
      | inr past ↦ rw (le-ltb i front (omega arith), unmarked_past words i past) (listed_past words (front + 1) (64 * length words - (front + 1)) i (omega arith))
    ]
  ]
]

-- nothing is held where there is no word
pub held_of-nothing : (words : List ℕ) → words ≡ [] → held_of 0 words ≡ nothing
unfolding marked_from
held_of-nothing words none = rw none refl

pub IsKept-nothing : (words : List ℕ) → words ≡ [] → IsKept 0 words
IsKept-nothing words none = rw none (record {
  below = λ i low. absurd (omega arith);
  lacks = unmarked_past [] 0 (omega arith);
  within = omega arith;
  few = omega arith;
})

-- the lowest entry that is marked in the one and not in the other
pub first_lacked : (front other : ℕ) (mine theirs : List ℕ) (r : Option ℕ) → IsKept front mine → IsKept other theirs → IsFirstBeyond mine theirs r → IsFirstLacked (held_of front mine) (held_of other theirs) r
first_lacked front other mine theirs None is other_is h =
    λ i had. has_marked other theirs other_is i ∙ h i (sym (has_marked front mine is i) ∙ had)
first_lacked front other mine theirs (Some e) is other_is h = (
  has_marked front mine is e ∙ h.0,
  has_marked other theirs other_is e ∙ h.1,
  λ i low had. has_marked other theirs other_is i ∙ h.2 i low (sym (has_marked front mine is i) ∙ had),
)

-- an entry is marked, and the front moves on over the marked ones
module _ (front next entry : ℕ) (old new : List ℕ) (is : IsKept front old) (each : (i : ℕ) → is_marked new i ≡ (eqb entry i || is_marked old i)) (lacks : is_marked new next ≡ false) (passed : (i : ℕ) → front ≤ i → i < next → is_marked new i ≡ true) (within : next ≤ MOST_ENTRIES) (few : length new ≤ MOST_WORDS) where
  pub IsKept-added : IsKept next new
  IsKept-added = record {
    below = λ i low. elim (cases_lt i front) [
      | inl before ↦ each i ∙ or_right (eqb entry i) (is_marked old i) (is.below i before)
      | inr after ↦ passed i after low
    ];
    lacks = lacks;
    within = within;
    few = few;
  }

  pub has_added : (i : ℕ) → has_entry (held_of next new) i ≡ (eqb entry i || has_entry (held_of front old) i)
  has_added i = has_marked next new IsKept-added i ∙ each i ∙ rw (has_marked front old is i) refl
