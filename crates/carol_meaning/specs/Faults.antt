-- Faults, and which of several is the first.
use Rattle.std.specs.Prelude.{◌≡◌, ℕ, Bool, false, ◌&&◌, ◌||◌, ◌==◌, nat_lt, if◌then◌else◌, List, [], ◌∷◌, ◌++◌, Option, Some, None}
use Rattle.std.specs.List.{AllByRecursion}
use Rattle.carol_syntax.specs.declared.places.Span.{Span}
use Rattle.carol_syntax.specs.declared.places.Ident.{Ident}
use Rattle.carol_meaning.specs.declared.fault.NameKind.{NameKind}
use Rattle.carol_meaning.specs.declared.fault.NameKind.TheVariants.{Twice, Unknown, WrongKind, TooMany, TooWide}
use Rattle.carol_meaning.specs.declared.fault.Fault.{Fault}

-- the order of the kinds at one place
abbrev pub rank : NameKind → ℕ
rank Twice = 0
rank Unknown = 1
rank WrongKind = 2
rank TooMany = 3
rank TooWide = 4

-- f comes before g: by line, then by column, then by kind
abbrev pub is_before : Fault → Fault → Bool
is_before f g =
    nat_lt f.span.line g.span.line ||
    (f.span.line == g.span.line &&
    (nat_lt f.span.column g.span.column || (f.span.column == g.span.column && nat_lt (rank f.kind) (rank g.kind))))

-- the fault is one of these
abbrev pub IsOf : Fault → List Fault → Type 0
IsOf f fs = (before : List Fault) × (after : List Fault) × (fs ≡ before ++ f ∷ after)

-- it is one of these, and none of them comes before it
pub record IsFirst (f : Fault) (fs : List Fault) : Type 0 where
  pub is_of : IsOf f fs
  pub first : AllByRecursion (λ g. is_before g f ≡ false) fs

-- what is kept of two faults: the former, unless the latter comes before it
abbrev pub earlier : Option Fault → Fault → Option Fault
earlier None f = Some f
earlier (Some kept) f = if is_before f kept then Some f else Some kept

-- what is kept of one fault and a list of them
abbrev pub earliest : Option Fault → List Fault → Option Fault
earliest kept [] = kept
earliest kept (f ∷ fs) = earliest (earlier kept f) fs

-- ---- faults at names

abbrev pub fault_at : NameKind → Span → List ℕ → Fault
fault_at kind span name = record { kind = kind; name = name; span = span }

abbrev pub fault_of : NameKind → Ident → Fault
fault_of kind i = fault_at kind i.span i.word
