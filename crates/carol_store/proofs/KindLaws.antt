-- What holds at each kind of cell.
use Rattle.std.proofs.Common.{◌≡◌, ℕ, ◌+◌, ◌≤◌, zero, suc, Bool, true, false, ℤ, pos, ◌+ℤ◌, Some, None, sym, refl, inr, arith}
use Rattle.std.proofs.lemmas.Int.{ints}
use Rattle.carol_store.specs.declared.shape.CellKind.{CellKind}
use Rattle.carol_store.specs.declared.shape.CellKind.TheVariants.{Counter, Peak, Flag}
use Rattle.std.specs.Prelude.{◌-ℤ◌, negsuc, unsigned_abs}
use Rattle.std.specs.Int.{int_max}
use Rattle.carol_store.specs.declared.effect.TheConstants.{MOST_AMOUNT, MOST_TARGET}
use Rattle.carol_store.specs.Kinds.{CellValue, IsAmount, MayHold, changed, stepped, way}

-- two changes of one cell come to the same in either order
pub changed-changed : (kind : CellKind) (value : CellValue) (a b : ℤ) → changed kind (changed kind value a) b ≡ changed kind (changed kind value b) a
changed-changed Counter value a b = omega (arith, ints)
changed-changed Peak value a b = grind (arith, ints)
changed-changed Flag value a b = refl

-- a change adds at most the most amount to a bound that is no less than the most target
pub changed_within : (kind : CellKind) (value : CellValue) (amount : ℤ) (bound : ℕ) → IsAmount kind amount → MOST_TARGET ≤ bound → unsigned_abs value ≤ bound → unsigned_abs (changed kind value amount) ≤ bound + MOST_AMOUNT
changed_within Counter value amount bound fits enough h = within value amount fits h
  where
    within : (a b : ℤ) → unsigned_abs b ≤ MOST_AMOUNT → unsigned_abs a ≤ bound → unsigned_abs (a +ℤ b) ≤ bound + MOST_AMOUNT
    within a b p q = grind (arith, ints)
changed_within Peak value target bound fits enough h = grind (arith, ints)
changed_within Flag value one bound fits enough h = omega arith

-- a changed cell may hold its value
pub MayHold-changed : (kind : CellKind) (value : CellValue) (a : ℤ) → MayHold kind (changed kind value a)
MayHold-changed Counter value a = tt
MayHold-changed Peak value a = tt
MayHold-changed Flag value a = inr refl

-- the value of such a cell after so many steps up or down
abbrev pub steps : CellKind → Bool → ℕ → CellValue → CellValue
steps kind up zero value = value
steps kind up (suc n) value = steps kind up n (stepped kind up value)

-- the value after so many steps
ups : (n : ℕ) (value : CellValue) → steps Counter true n value ≡ value +ℤ pos n
ups zero value = omega (arith, ints)
ups (suc n) value = omega (arith, ints, ups n (value +ℤ pos 1))

downs : (n : ℕ) (value : CellValue) → steps Counter false n value ≡ value -ℤ pos n
downs zero value = omega (arith, ints)
downs (suc n) value = omega (arith, ints, downs n (value -ℤ pos 1))

raises : (n : ℕ) (up : Bool) (value : CellValue) → steps Peak up n value ≡ value +ℤ pos n
raises zero up value = omega (arith, ints)
raises (suc n) up value = omega (arith, ints, raises n up (value +ℤ pos 1))

-- a cell may hold its value after a step
pub MayHold-stepped : (kind : CellKind) (up : Bool) (value : CellValue) → MayHold kind (stepped kind up value)
MayHold-stepped Counter up value = tt
MayHold-stepped Peak up value = tt
MayHold-stepped Flag up value = inr refl

-- a cell that an atom doesn't move keeps its value
pub changed_none : (kind : CellKind) (amount : ℤ) (value : CellValue) → way kind amount ≡ None → changed kind value amount ≡ value
changed_none Counter (pos zero) value h = omega (arith, ints)
changed_none Counter (pos (suc n)) value h = cc
changed_none Counter (negsuc n) value h = cc
changed_none Peak target value h = cc
changed_none Flag one value h = cc

-- one that it moves takes some steps that way
pub changed_some : (kind : CellKind) (amount : ℤ) (up : Bool) (value : CellValue) → way kind amount ≡ Some up → (n : ℕ) × (changed kind value amount ≡ steps kind up n value)
changed_some Counter (pos zero) up value h = cc
changed_some Counter (pos (suc n)) true value h = (suc n, sym (ups (suc n) value))
changed_some Counter (pos (suc n)) false value h = cc
changed_some Counter (negsuc n) true value h = cc
changed_some Counter (negsuc n) false value h = (suc n, sym (downs (suc n) value))
changed_some Peak target up value h = (unsigned_abs (int_max value target -ℤ value), grind (arith, ints, raises (unsigned_abs (int_max value target -ℤ value)) up value))
changed_some Flag one up value h = (1, refl)
