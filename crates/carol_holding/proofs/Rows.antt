-- The rows of all replicas.
use Rattle.std.proofs.Common.{◌≡◌, ◌≢◌, ℕ, ◌<◌, zero, suc, Bool, true, false, eqb, ◌||◌, ◌&&◌, List, [], ◌∷◌, ◌++◌, length, set, take, drop, get_or, append-nil, Option, Some, None, Result, Ok, Err, refl, sym, ◌∙◌, ap, subst, inl, inr, arith}
use Rattle.std.specs.Prelude.{OnErr}
use Rattle.std.proofs.Math.Seq.{take-length, drop-length, map-set_same}
use Rattle.std.proofs.lemmas.Bool.{cases_eq, eq-eqb, le-ltb, ne_eqb}
use Rattle.carol_holding.specs.Held.{IsFirstMissing, has_at, has_entry}
use Rattle.carol_holding.specs.Rows.{HaveRoom, HeldRow, IsFirstLacked, held_by, nothing}

-- what a replica holds, by the row that was read
pub has_at-read : (rows : List HeldRow) (replica i : ℕ) (row : HeldRow) → row ≡ get_or rows replica row → replica < length (held_by rows) → has_at (held_by rows) replica i ≡ has_entry row.held i
has_at-read [] replica i row is h = absurd (omega arith)
has_at-read (first ∷ rows) zero i row is h = ap (λ (r : HeldRow). has_entry r.held i) (sym is)
has_at-read (first ∷ rows) (suc replica) i row is h = has_at-read rows replica i row is (omega arith)

-- the lowest entry that one row has beyond another
pub first_missing : (rows : List HeldRow) (spare from to : ℕ) (mine theirs : HeldRow) (r : Option ℕ) → mine ≡ get_or rows from mine → theirs ≡ get_or rows to theirs → from < length (held_by rows) → to < length (held_by rows) → IsFirstLacked mine.held theirs.held r → IsFirstMissing (record { replicas = held_by rows; spare = spare }) from to r
first_missing rows spare from to mine theirs None is1 is2 h1 h2 lacked = λ i had.
    has_at-read rows to i theirs is2 h2 ∙ lacked i (sym (has_at-read rows from i mine is1 h1) ∙ had)
first_missing rows spare from to mine theirs (Some e) is1 is2 h1 h2 lacked = (
  has_at-read rows from e mine is1 h1 ∙ lacked.0,
  has_at-read rows to e theirs is2 h2 ∙ lacked.1,
  λ i low had. has_at-read rows to i theirs is2 h2 ∙ lacked.2 i low (sym (has_at-read rows from i mine is1 h1) ∙ had),
)

-- the row that was written, and the others
has_at-set_same : (rows : List HeldRow) (replica i : ℕ) (new : HeldRow) → replica < length rows → has_at (held_by (set rows replica new)) replica i ≡ has_entry new.held i
has_at-set_same [] replica i new h = absurd (omega arith)
has_at-set_same (row ∷ rows) zero i new h = refl
has_at-set_same (row ∷ rows) (suc replica) i new h = has_at-set_same rows replica i new (omega arith)

has_at-set_other : (rows : List HeldRow) (replica r i : ℕ) (new : HeldRow) → replica ≢ r → has_at (held_by (set rows replica new)) r i ≡ has_at (held_by rows) r i
has_at-set_other [] replica r i new apart = refl
has_at-set_other (row ∷ rows) zero zero i new apart = absurd (apart refl)
has_at-set_other (row ∷ rows) zero (suc r) i new apart = refl
has_at-set_other (row ∷ rows) (suc replica) zero i new apart = refl
has_at-set_other (row ∷ rows) (suc replica) (suc r) i new apart = has_at-set_other rows replica r i new (λ e. apart (ap suc e))

-- after an entry was added to one row
pub has_at-added : (rows : List HeldRow) (replica entry : ℕ) (old new : HeldRow) → old ≡ get_or rows replica old → replica < length rows → replica < length (held_by rows) → ((i : ℕ) → has_entry new.held i ≡ (eqb entry i || has_entry old.held i)) → (r i : ℕ) → has_at (held_by (set rows replica new)) r i ≡ ((eqb entry i && eqb replica r) || has_at (held_by rows) r i)
has_at-added rows replica entry old new at h h' is r i = elim (cases_eq replica r) [
  | inl same ↦ rw (← same, eq-eqb replica replica refl, has_at-set_same rows replica i new h, has_at-read rows replica i old at h') (is i ∙ ap (λ (b : Bool). b || has_entry old.held i) (and_true (eqb entry i)))
  | inr apart ↦ rw (ne_eqb replica r apart, has_at-set_other rows replica r i new apart) (or_false (eqb entry i) (has_at (held_by rows) r i))
]
  where
    and_true : (b : Bool) → b ≡ (b && true)
    and_true true = refl
    and_true false = refl

    or_false : (a b : Bool) → b ≡ ((a && false) || b)
    or_false true b = refl
    or_false false b = refl

-- a row that holds nothing is added to such rows
pub has_at-nothing : (rows : List HeldRow) (new : HeldRow) → ((r i : ℕ) → has_at (held_by rows) r i ≡ false) → new.held ≡ nothing → (r i : ℕ) → has_at (held_by (rows ++ new ∷ [])) r i ≡ false
has_at-nothing [] new h e zero i = rw (e, le-ltb i 0 (omega arith)) refl
has_at-nothing [] new h e (suc r) i = refl
has_at-nothing (row ∷ rows) new h e zero i = h 0 i
has_at-nothing (row ∷ rows) new h e (suc r) i = has_at-nothing rows new (λ s j. h (suc s) j) e r i

-- the room of the row that was read
pub room_at : (rows : List HeldRow) (replica : ℕ) (row : HeldRow) → row ≡ get_or rows replica row → replica < length rows → HaveRoom rows → row.has_room ≡ true
room_at [] replica row is h room = absurd (omega arith)
room_at (first ∷ rows) zero row is h room = rw is room.0
room_at (first ∷ rows) (suc replica) row is h room = room_at rows replica row is (omega arith) room.1

-- one row was written
pub HaveRoom-set : (rows : List HeldRow) (replica : ℕ) (new : HeldRow) → new.has_room ≡ true → HaveRoom rows → HaveRoom (set rows replica new)
HaveRoom-set [] replica new has h = tt
HaveRoom-set (row ∷ rows) zero new has h = (has, h.1)
HaveRoom-set (row ∷ rows) (suc replica) new has h = (h.0, HaveRoom-set rows replica new has h.1)

-- what is held stays where a row's does
pub held_by-set : (rows : List HeldRow) (replica : ℕ) (new d : HeldRow) → new.held ≡ (get_or rows replica d).held → held_by (set rows replica new) ≡ held_by rows
held_by-set rows replica new d same = map-set_same (λ (row : HeldRow). row.held) rows replica new d same

-- one row was given room
pub HaveRoom-grown : (rows : List HeldRow) (replica : ℕ) (new d : HeldRow) → ((get_or rows replica d).has_room ≡ true → new.has_room ≡ true) → HaveRoom rows → HaveRoom (set rows replica new)
HaveRoom-grown [] replica new d keeps h = tt
HaveRoom-grown (row ∷ rows) zero new d keeps h = (keeps h.0, h.1)
HaveRoom-grown (row ∷ rows) (suc replica) new d keeps h = (h.0, HaveRoom-grown rows replica new d keeps h.1)

-- so were all rows before it
pub HaveRoom-more : (i : ℕ) (rows : List HeldRow) (new : HeldRow) → i < length rows → HaveRoom (take i rows) → new.has_room ≡ true → HaveRoom (take (suc i) (set rows i new))
HaveRoom-more i [] new h before has = absurd (omega arith)
HaveRoom-more zero (row ∷ rows) new h before has = (has, tt)
HaveRoom-more (suc i) (row ∷ rows) new h before has = (before.0, HaveRoom-more i rows new (omega arith) before.1 has)

-- rows that were written through a slice
pub refilled : (n : ℕ) (before after : List HeldRow) → n ≡ length before → length after ≡ length before → take n (after ++ drop (length after) before) ≡ after
refilled n before after e same = rw (same, drop-length, append-nil, e, ← same, take-length) refl

pub held_by-refilled : (n : ℕ) (before after : List HeldRow) → n ≡ length before → length after ≡ length before → held_by after ≡ held_by before → held_by (take n (after ++ drop (length after) before)) ≡ held_by before
held_by-refilled n before after e same is = ap (λ (rows : List HeldRow). held_by rows) (refilled n before after e same) ∙ is

pub HaveRoom-refilled : (n : ℕ) (before after : List HeldRow) → n ≡ length before → length after ≡ length before → HaveRoom after → HaveRoom (take n (after ++ drop (length after) before))
HaveRoom-refilled n before after e same h = subst (λ (rows : List HeldRow). HaveRoom rows) (sym (refilled n before after e same)) h

-- a fact of every error
pub on_err : {X E P : Type 0} (r : Result X E) → P → OnErr r P
on_err (Ok x) h = tt
on_err (Err e) h = h
