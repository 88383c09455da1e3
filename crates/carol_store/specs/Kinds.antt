-- What goes by the kind of a cell: what it holds, the ways that it can go, and what an atom and a step make of it.
use Rattle.std.specs.Prelude.{◌≡◌, ◌⊎◌, ◌≤◌, Bool, true, false, not, ◌||◌, if◌then◌else◌, zero, suc, List, [], ◌∷◌, ℤ, pos, negsuc, ◌+ℤ◌, ◌-ℤ◌, unsigned_abs, Option, Some, None, FitsSigned}
use Rattle.std.specs.Int.{w64, int_max}
use Rattle.carol_store.specs.declared.shape.CellKind.{CellKind}
use Rattle.carol_store.specs.declared.shape.CellKind.TheVariants.{Counter, Peak, Flag}
use Rattle.carol_store.specs.declared.effect.TheConstants.{MOST_AMOUNT, MOST_TARGET}

-- what a cell holds
abbrev pub CellValue : Type 0
CellValue = ℤ

-- it is kept in a word of 64 bits with a sign
abbrev pub IsWord : CellValue → Type 0
IsWord value = FitsSigned w64 value

-- the number by which formulas and terms see a value
abbrev pub number_of : CellValue → ℤ
number_of value = value

-- the value of a cell of this kind that a number stands for
abbrev pub value_of : CellKind → ℤ → CellValue
value_of kind number = number

-- a cell of this kind may hold the value
abbrev pub MayHold : CellKind → CellValue → Type 0
MayHold Counter value = Unit {0}
MayHold Peak value = Unit {0}
MayHold Flag value = (value ≡ pos 0) ⊎ (value ≡ pos 1)

-- an atom may have this value at a cell of this kind
abbrev pub IsAmount : CellKind → ℤ → Type 0
IsAmount Counter amount = unsigned_abs amount ≤ MOST_AMOUNT
IsAmount Peak target = unsigned_abs target ≤ MOST_TARGET
IsAmount Flag one = one ≡ pos 1

-- what an atom's value makes of the value of such a cell
abbrev pub changed : CellKind → CellValue → ℤ → CellValue
changed Counter value amount = value +ℤ amount
changed Peak value target = int_max value target
changed Flag value one = pos 1

-- the ways that such a cell can go, up before down
abbrev pub ways : CellKind → List Bool
ways Counter = true ∷ false ∷ []
ways Peak = true ∷ []
ways Flag = true ∷ []

-- the way up, or the way down, is one of these
abbrev pub is_way : Bool → List Bool → Bool
is_way up [] = false
is_way up (way ∷ more) = (if up then way else not way) || is_way up more

-- such a cell can go up, or down
abbrev pub can_go : CellKind → Bool → Bool
can_go kind up = is_way up (ways kind)

-- whether an atom's value moves such a cell up or down, if it moves it
abbrev pub way : CellKind → ℤ → Option Bool
way Counter (pos zero) = None
way Counter (pos (suc n)) = Some true
way Counter (negsuc n) = Some false
way Peak target = Some true
way Flag one = Some true

-- the value of such a cell after one step up or down
abbrev pub stepped : CellKind → Bool → CellValue → CellValue
stepped Counter true value = value +ℤ pos 1
stepped Counter false value = value -ℤ pos 1
stepped Peak up value = value +ℤ pos 1
stepped Flag up value = pos 1
