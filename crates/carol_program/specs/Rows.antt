-- Rows that say of the cells of a store what their kinds let them hold.
use Rattle.std.specs.Prelude.{ℕ, ◌+◌, List, [], ◌∷◌, pos}
use Rattle.carol_store.specs.declared.shape.CellKind.{CellKind}
use Rattle.carol_store.specs.declared.shape.CellKind.TheVariants.{Counter, Peak, Flag}
use Rattle.carol_formula.specs.Claim.{Claim, Le, And}
use Rattle.carol_formula.specs.Linear.{Linear, constant_of, variable_of, difference_of}

-- the first is at most the second
abbrev pub at_most : Linear → Linear → Claim
at_most a b = Le (difference_of a b)

-- the variable is 0 or 1
abbrev pub is_flag : ℕ → Claim
is_flag v = And (at_most (constant_of (pos 0)) (variable_of v)) (at_most (variable_of v) (constant_of (pos 1)))

-- what is known, and that the variable is what a cell of this kind may hold
abbrev pub with_kind : CellKind → ℕ → Claim → Claim
with_kind Counter v known = known
with_kind Peak v known = known
with_kind Flag v known = And known (is_flag v)

-- what is known, and that the cells of the store with the variables from this one on are what they may hold
abbrev pub with_kinds : List CellKind → ℕ → Claim → Claim
with_kinds [] base known = known
with_kinds (kind ∷ kinds) base known = with_kinds kinds (base + 1) (with_kind kind base known)
