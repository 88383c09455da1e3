-- What is said of an event in its row.
use Rattle.std.specs.Prelude.{ℕ, List, [], ◌++◌, codes, flat_map, slice_get, unwrap_or, ℤ, pos, negsuc}
use Rattle.std.specs.Fmt.{signed_decimal}
use Rattle.carol_store.specs.declared.effect.Atom.{Atom}
use Rattle.carol_store.specs.declared.shape.CellKind.{CellKind}
use Rattle.carol_store.specs.declared.shape.CellKind.TheVariants.{Counter, Peak, Flag}
use Rattle.carol_program.specs.declared.names.Names.{Names}
use Rattle.carol_program.specs.Rules.{Rules}
use Rattle.carol_event.specs.declared.event.Cause.{Cause}
use Rattle.carol_event.specs.declared.event.Cause.TheVariants.{Barred, Behind}
use Rattle.carol_event.specs.declared.event.Event.{Event}
use Rattle.carol_event.specs.declared.event.Event.TheVariants.{Grant, Query, Issue, Release, Return, Refuse, Deliver, Cut, Join}
use Rattle.carol_event.specs.Texts.{values_text}
use Rattle.carol_picture.specs.Texts.{named, numbered}

-- what an atom of this value makes of a cell of this kind
unfoldable pub amount_text : CellKind → ℤ → List ℕ
amount_text Counter (pos n) = codes " +" ++ signed_decimal (pos n)
amount_text Counter (negsuc n) = codes " " ++ signed_decimal (negsuc n)
amount_text Peak value = codes " raised to " ++ signed_decimal value
amount_text Flag value = codes " set"

-- the kind of the cell; one that isn't there counts as a counter
abbrev pub kind_of : List CellKind → ℕ → CellKind
kind_of shape cell = unwrap_or (slice_get shape cell) Counter

-- what an atom changes, and what an effect does
unfoldable pub atom_text : List (List ℕ) → List CellKind → Atom → List ℕ
atom_text cells shape atom =
    named (codes ", ") cells atom.cell ++ amount_text (kind_of shape atom.cell) atom.value

abbrev pub atoms_text : List (List ℕ) → List CellKind → List Atom → List ℕ
atoms_text cells shape atoms = flat_map (atom_text cells shape) atoms

-- what a session is called, and what it does
unfoldable pub session_text : ℕ → List ℕ → List ℕ
session_text session does = numbered (codes "s") session ++ does

-- why a session is refused
unfoldable pub cause_label : Names → Cause → List ℕ
cause_label names (Barred session guard) =
    numbered (codes "barred by s") session ++ named (codes " under ") names.guards guard
cause_label names (Behind entry) = numbered (codes "out of reach is entry ") entry

-- what happens at an event
unfoldable pub label : Rules → Names → Event → List ℕ
label p names (Grant session guard) =
    session_text session (codes " is granted ") ++ named [] names.guards guard
label p names (Query session guard store) =
    session_text session (codes " reads under ")
    ++ (named [] names.guards guard ++ (codes ":" ++ values_text store))
label p names (Issue session entry effect) =
    session_text session (codes " issues entry ")
    ++ (numbered [] entry ++ atoms_text names.cells p.shape effect)
label p names (Release session) = session_text session (codes " releases")
label p names (Return session value) =
    session_text session (codes " returns ") ++ signed_decimal value
label p names (Refuse session cause) =
    session_text session (codes " is refused: ") ++ cause_label names cause
label p names (Deliver source target entry) =
    numbered (codes "entry ") entry
    ++ (numbered (codes " from replica ") source ++ numbered (codes " to replica ") target)
label p names (Cut a b) =
    numbered (codes "replica ") a ++ numbered (codes " is cut off from replica ") b
label p names (Join a b) =
    numbered (codes "replica ") a ++ numbered (codes " is joined to replica ") b
