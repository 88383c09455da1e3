-- The numbers of events.
use Rattle.std.specs.Prelude.{ℕ, ◌≤◌, List, [], ◌∷◌, length, ℤ}
use Rattle.carol_text.specs.Number.{IsWithin}
use Rattle.carol_store.specs.declared.effect.Atom.{Atom}
use Rattle.carol_store.specs.declared.short_list.TheConstants.{MOST_CELLS}
use Rattle.carol_event.specs.declared.event.Cause.{Cause}
use Rattle.carol_event.specs.declared.event.Cause.TheVariants.{Barred, Behind}
use Rattle.carol_event.specs.declared.event.Event.{Event}
use Rattle.carol_event.specs.declared.event.Event.TheVariants.{Grant, Query, Issue, Release, Return, Refuse, Deliver, Cut, Join}

-- a number fits 32 bits, a value 64 bits with a sign, and a returned value 128
abbrev pub IsNumber : ℕ → Type 0
IsNumber n = n ≤ 4_294_967_295

abbrev pub IsValue : ℤ → Type 0
IsValue value = IsWithin 9_223_372_036_854_775_808 9_223_372_036_854_775_807 value

abbrev pub IsWide : ℤ → Type 0
IsWide value =
    IsWithin 170_141_183_460_469_231_731_687_303_715_884_105_728
    170_141_183_460_469_231_731_687_303_715_884_105_727 value

abbrev pub ArePair : ℕ → ℕ → Type 0
ArePair m n = IsNumber m × IsNumber n

abbrev pub IsAtom : Atom → Type 0
IsAtom atom = IsNumber atom.cell × IsValue atom.value

-- each item does
abbrev pub Each : {X : Type 0} → (X → Type 0) → List X → Type 0
Each P [] = Unit {0}
Each P (x ∷ xs) = P x × Each P xs

abbrev pub HasNumbersOf : Cause → Type 0
HasNumbersOf (Barred session guard) = ArePair session guard
HasNumbersOf (Behind entry) = IsNumber entry

-- the numbers of the event fit, and it has at most as many values or atoms as a store has cells
abbrev pub HasNumbers : Event → Type 0
HasNumbers (Grant session guard) = ArePair session guard
HasNumbers (Query session guard store) =
    ArePair session guard × Each IsValue store × (length store ≤ MOST_CELLS)
HasNumbers (Issue session entry effect) =
    ArePair session entry × Each IsAtom effect × (length effect ≤ MOST_CELLS)
HasNumbers (Release session) = IsNumber session
HasNumbers (Return session value) = IsNumber session × IsWide value
HasNumbers (Refuse session cause) = IsNumber session × HasNumbersOf cause
HasNumbers (Deliver source target entry) = IsNumber source × ArePair target entry
HasNumbers (Cut a b) = ArePair a b
HasNumbers (Join a b) = ArePair a b
