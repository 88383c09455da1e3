-- The texts of events.
use Rattle.std.specs.Prelude.{ℕ, List, [], ◌∷◌, ◌++◌, codes, flat_map}
use Rattle.std.specs.Fmt.{decimal, signed_decimal}
use Rattle.carol_store.specs.declared.effect.Atom.{Atom}
use Rattle.carol_store.specs.Kinds.{CellValue}
use Rattle.carol_event.specs.declared.event.Cause.{Cause}
use Rattle.carol_event.specs.declared.event.Cause.TheVariants.{Barred, Behind}
use Rattle.carol_event.specs.declared.event.Event.{Event}
use Rattle.carol_event.specs.declared.event.Event.TheVariants.{Grant, Query, Issue, Release, Return, Refuse, Deliver, Cut, Join}

-- two numbers with a space between them
abbrev pub pair_text : ℕ → ℕ → List ℕ
pair_text m n = decimal m ++ (codes " " ++ decimal n)

-- the values of a store, one space before each
abbrev pub values_text : List CellValue → List ℕ
values_text store = flat_map (λ value. codes " " ++ signed_decimal value) store

-- an atom
abbrev pub atom_text : Atom → List ℕ
atom_text atom = decimal atom.cell ++ (codes ":" ++ signed_decimal atom.value)

-- the atoms of an effect, one space before each
abbrev pub atoms_text : List Atom → List ℕ
atoms_text atoms = flat_map (λ atom. codes " " ++ atom_text atom) atoms

-- why a session was refused
unfoldable pub cause_text : Cause → List ℕ
cause_text (Barred session guard) = codes "barred " ++ pair_text session guard
cause_text (Behind entry) = codes "behind " ++ decimal entry

-- an event: what it is, and its numbers
unfoldable pub event_text : Event → List ℕ
event_text (Grant session guard) = codes "grant " ++ pair_text session guard
event_text (Query session guard store) =
    (codes "query " ++ pair_text session guard) ++ values_text store
event_text (Issue session entry effect) =
    (codes "issue " ++ pair_text session entry) ++ atoms_text effect
event_text (Release session) = codes "release " ++ decimal session
event_text (Return session value) =
    codes "return " ++ (decimal session ++ (codes " " ++ signed_decimal value))
event_text (Refuse session cause) =
    (codes "refuse " ++ (decimal session ++ codes " ")) ++ cause_text cause
event_text (Deliver source target entry) =
    codes "deliver " ++ (decimal source ++ (codes " " ++ pair_text target entry))
event_text (Cut a b) = codes "cut " ++ pair_text a b
event_text (Join a b) = codes "join " ++ pair_text a b

-- the line of an event, with its line feed
abbrev pub event_line : Event → List ℕ
event_line event = event_text event ++ 10 ∷ []
