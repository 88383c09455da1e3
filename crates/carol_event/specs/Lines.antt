-- Reading the line of an event from its front, on lists of bytes. What reading gives is a value, or
-- how many bytes are left from the first bad one on.
use Rattle.std.specs.Prelude.{ℕ, zero, suc, List, [], ◌∷◌, codes, length, ℤ, Result, Ok, Err, slice_index, ◌==◌, if◌then◌else◌}
use Rattle.carol_text.specs.Number.{number_at, integer_at}
use Rattle.carol_text.specs.Reading.{Reading, ◌>>=◌, word_at}
use Rattle.carol_store.specs.declared.effect.Atom.{Atom}
use Rattle.carol_store.specs.declared.short_list.TheConstants.{MOST_CELLS}
use Rattle.carol_event.specs.declared.event.Cause.{Cause}
use Rattle.carol_event.specs.declared.event.Cause.TheVariants.{Barred, Behind}
use Rattle.carol_event.specs.declared.event.Event.{Event}
use Rattle.carol_event.specs.declared.event.Event.TheVariants.{Grant, Query, Issue, Release, Return, Refuse, Deliver, Cut, Join}
use Rattle.carol_event.specs.declared.kind.Kind.{Kind}
use Rattle.carol_event.specs.declared.kind.Kind.TheVariants as kind
use Rattle.carol_event.specs.Kinds.{kind_of, word_of}

-- the number of a session, a guard, an entry, a replica or a cell: of 32 bits
abbrev pub number32_at : List ℕ → Reading ℕ
number32_at bytes = number_at 4_294_967_295 bytes

-- the value of a cell or of an atom: of 64 bits, with a sign
abbrev pub value_at : List ℕ → Reading ℤ
value_at bytes = integer_at 9_223_372_036_854_775_808 9_223_372_036_854_775_807 bytes

-- a value that a command returns: of 128 bits, with a sign
abbrev pub wide_at : List ℕ → Reading ℤ
wide_at bytes =
    integer_at 170_141_183_460_469_231_731_687_303_715_884_105_728
    170_141_183_460_469_231_731_687_303_715_884_105_727 bytes

-- two parts, with a fixed word between them
abbrev pub both_at : {X Y : Type 0} →
    (List ℕ → Reading X) → List ℕ → (List ℕ → Reading Y) → List ℕ → Reading (X × Y)
both_at first word second bytes =
    first bytes >>= λ x. word_at word x.1 >>= λ rest. second rest >>= λ y. Ok ((x.0, y.0), y.1)

abbrev pub pair_at : List ℕ → Reading (ℕ × ℕ)
pair_at bytes = both_at number32_at (codes " ") number32_at bytes

abbrev pub atom_at : List ℕ → Reading Atom
atom_at bytes =
    both_at number32_at (codes ":") value_at bytes >>= λ x.
    Ok (record { cell = x.0.0; value = x.0.1 }, x.1)

-- the value, where the line ends
abbrev pub at_end : {X : Type 0} → X → List ℕ → Result X ℕ
at_end x [] = Ok x
at_end x (c ∷ cs) = Err (suc (length cs))

-- at most so many items up to the end of the line, one space before each; a further one is bad at
-- its first byte
unfoldable pub items_at : {X : Type 0} → (List ℕ → Reading X) → ℕ → List ℕ → Result (List X) ℕ
items_at item n [] = Ok []
items_at item zero (c ∷ cs) = word_at (codes " ") (c ∷ cs) >>= λ rest. Err (length rest)
items_at item (suc n) (c ∷ cs) =
    word_at (codes " ") (c ∷ cs) >>= λ rest. item rest >>= λ x.
    items_at item n x.1 >>= λ more. Ok (x.0 ∷ more)

abbrev pub behind_at : List ℕ → Reading Cause
behind_at bytes =
    word_at (codes "behind ") bytes >>= λ rest. number32_at rest >>= λ x. Ok (Behind x.0, x.1)

abbrev pub barred_at : List ℕ → Reading Cause
barred_at bytes =
    word_at (codes "barred ") bytes >>= λ rest. pair_at rest >>= λ x. Ok (Barred x.0.0 x.0.1, x.1)

-- why a session was refused; the second byte tells the two words apart
abbrev pub cause_at : List ℕ → Reading Cause
cause_at bytes = if slice_index bytes 1 == 101 then behind_at bytes else barred_at bytes

-- what stands behind the word of a kind
unfoldable pub fields_at : Kind → List ℕ → Result Event ℕ
fields_at kind.Grant bytes = pair_at bytes >>= λ x. at_end (Grant x.0.0 x.0.1) x.1
fields_at kind.Query bytes =
    pair_at bytes >>= λ x. items_at value_at MOST_CELLS x.1 >>= λ store.
    Ok (Query x.0.0 x.0.1 store)
fields_at kind.Issue bytes =
    pair_at bytes >>= λ x. items_at atom_at MOST_CELLS x.1 >>= λ effect.
    Ok (Issue x.0.0 x.0.1 effect)
fields_at kind.Release bytes = number32_at bytes >>= λ x. at_end (Release x.0) x.1
fields_at kind.Return bytes =
    both_at number32_at (codes " ") wide_at bytes >>= λ x. at_end (Return x.0.0 x.0.1) x.1
fields_at kind.Refuse bytes =
    both_at number32_at (codes " ") cause_at bytes >>= λ x. at_end (Refuse x.0.0 x.0.1) x.1
fields_at kind.Deliver bytes =
    both_at number32_at (codes " ") pair_at bytes >>= λ x.
    at_end (Deliver x.0.0 x.0.1.0 x.0.1.1) x.1
fields_at kind.Cut bytes = pair_at bytes >>= λ x. at_end (Cut x.0.0 x.0.1) x.1
fields_at kind.Join bytes = pair_at bytes >>= λ x. at_end (Join x.0.0 x.0.1) x.1

-- the event of a line
unfoldable pub event_at : List ℕ → Result Event ℕ
event_at line = word_at (word_of (kind_of line)) line >>= λ rest. fields_at (kind_of line) rest
