-- Which marks a body may leave, one statement after another, whatever stores its queries get.
use Rattle.std.specs.Prelude.{◌≡◌, ℕ, ◌+◌, ◌-◌, ◌==◌, nat_lt, if◌then◌else◌, List, [], ◌∷◌, length, ℤ, Option, Some, None, MatchBool}
use Rattle.carol_store.specs.declared.shape.CellKind.{CellKind}
use Rattle.carol_store.specs.declared.effect.Atom.{Atom}
use Rattle.carol_store.specs.Kinds.{CellValue}
use Rattle.carol_store.specs.Stores.{IsStore}
use Rattle.carol_formula.specs.Claim.{truth}
use Rattle.carol_formula.specs.Linear.{Linear}
use Rattle.carol_formula.specs.Value.{value_at}
use Rattle.carol_program.specs.declared.steps.Part.{Part}
use Rattle.carol_program.specs.Bodies.{Body, Query, Issue, Release, Branch, Return}
use Rattle.carol_program.specs.Variables.{number_in, query_variable}
use Rattle.carol_reading.specs.Marks.{Mark, Asked, Issued, Released, Returned}

-- the number of a variable, where a store's numbers stand from the variable `base` on
abbrev pub number_or : ℕ → List CellValue → ℤ → ℕ → ℤ
number_or base store number v = if nat_lt v base then number else if nat_lt v (base + length store) then number_in store (v - base) else number

-- the numbers f, with the store's in their place
abbrev pub placed : ℕ → List CellValue → (ℕ → ℤ) → ℕ → ℤ
placed base store f v = number_or base store (f v) v

-- the store of the query in this slot
abbrev pub with_query : ℕ → List CellValue → (ℕ → ℤ) → ℕ → ℤ
with_query slot store f = placed (query_variable slot 0) store f

-- the stores of the queries in these slots
abbrev pub with_queries : List ℕ → List (List CellValue) → (ℕ → ℤ) → ℕ → ℤ
with_queries [] stores f = f
with_queries (slot ∷ slots) [] f = f
with_queries (slot ∷ slots) (store ∷ stores) f = with_queries slots stores (with_query slot store f)

-- what is done to the cell, if one of the parts is the cell's
abbrev pub amount_for : ℕ → List Part → Option Linear
amount_for cell [] = None
amount_for cell (p ∷ ps) = if p.cell == cell then Some p.amount else amount_for cell ps

-- an atom before others, where something is done to its cell
abbrev pub before_atoms : ℕ → Option Linear → (ℕ → ℤ) → List Atom → List Atom
before_atoms cell None f atoms = atoms
before_atoms cell (Some amount) f atoms = record { cell = cell; value = value_at amount f } ∷ atoms

-- the atoms of the cells from this one on
abbrev pub effect_from : ℕ → List CellKind → List Part → (ℕ → ℤ) → List Atom
effect_from cell [] parts f = []
effect_from cell (kind ∷ kinds) parts f = before_atoms cell (amount_for cell parts) f (effect_from (cell + 1) kinds parts f)

-- the effect of an issue's parts: the amounts' values by ascending cell
abbrev pub effect_of : List CellKind → List Part → (ℕ → ℤ) → List Atom
effect_of kinds parts f = effect_from 0 kinds parts f

-- the body reads the marks, with these numbers for its variables; it may stop anywhere
abbrev pub Reads : List CellKind → Body → (ℕ → ℤ) → List Mark → Type 0
Reads kinds body f [] = Unit {0}
Reads kinds (Query number guard slot next) f (Asked g store ∷ marks) = (g ≡ guard) × IsStore kinds store × Reads kinds next (with_query slot store f) marks
Reads kinds (Issue number parts next) f (Issued effect ∷ marks) = (effect ≡ effect_of kinds parts f) × Reads kinds next f marks
Reads kinds (Release number next) f (Released ∷ marks) = Reads kinds next f marks
Reads kinds (Branch number test first second) f (mark ∷ marks) = MatchBool (truth test f) (Reads kinds first f (mark ∷ marks)) (Reads kinds second f (mark ∷ marks))
Reads kinds (Return number value) f (Returned v ∷ []) = v ≡ value_at value f
Reads kinds body f marks = ⊥
