-- The formulas that are decided: each is true of exactly the stores at which something fails.
use Rattle.std.specs.Prelude.{ℕ, ◌-◌, ◌==◌, nat_lt, Bool, true, false, if◌then◌else◌, List, pos}
use Rattle.carol_store.specs.declared.shape.CellKind.{CellKind}
use Rattle.carol_store.specs.declared.shape.CellKind.TheVariants.{Counter, Peak, Flag}
use Rattle.carol_store.specs.declared.direction.Direction.{Direction}
use Rattle.carol_formula.specs.Claim.{Claim, True, And, Not}
use Rattle.carol_formula.specs.Linear.{Linear, constant_of, variable_of, sum_of, difference_of}
use Rattle.carol_formula.specs.Named.{named_claim}
use Rattle.carol_program.specs.Rows.{with_kinds}
use Rattle.carol_program.specs.Variables.{cell_variable, there_variable}

-- the cells of the store with the variables from this one on are what cells of these kinds may hold
abbrev pub stored : List CellKind → ℕ → Claim
stored kinds base = with_kinds kinds base True

-- ---- two equal stores

-- a cell is that of the store that is read, in both stores
abbrev pub equal_name : ℕ → Linear
equal_name v = if nat_lt v (there_variable 0) then variable_of v else variable_of (v - there_variable 0)

-- the stores are equal, and the guard is false of them
abbrev pub equal_claim : List CellKind → Claim → Claim
equal_claim kinds guard = And (stored kinds (cell_variable 0)) (Not (named_claim equal_name guard))

-- ---- a step

-- what a cell of this kind with this variable is after one step up or down
abbrev pub stepped_name : CellKind → Bool → ℕ → Linear
stepped_name Counter true v = sum_of (variable_of v) (constant_of (pos 1))
stepped_name Counter false v = difference_of (variable_of v) (constant_of (pos 1))
stepped_name Peak up v = sum_of (variable_of v) (constant_of (pos 1))
stepped_name Flag up v = constant_of (pos 1)

-- a cell is that of its store, but for the one of the global store that makes the step
abbrev pub step_name : CellKind → Direction → ℕ → Linear
step_name kind direction v = if v == there_variable direction.cell then stepped_name kind direction.up v else variable_of v

-- the guard is true of two stores, and false where the cells are what the naming says
abbrev pub after_claim : List CellKind → Claim → (ℕ → Linear) → Claim
after_claim kinds guard name =
    And (And (stored kinds (cell_variable 0)) (stored kinds (there_variable 0)))
    (And guard (Not (named_claim name guard)))

-- so it is after a step in the global store, of a cell of this kind
abbrev pub step_claim : List CellKind → Claim → CellKind → Direction → Claim
step_claim kinds guard kind direction = after_claim kinds guard (step_name kind direction)
