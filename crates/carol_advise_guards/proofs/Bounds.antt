-- How much an assignment bars at the most, and which ways a cell has.
use Rattle.std.proofs.Common.{◌≡◌, ◌<◌, ◌≤◌, ◌+◌, ◌*◌, ℕ, zero, suc, Bool, true, false, List, [], ◌∷◌, length, refl, sym, ap, subst, arith}
use Rattle.std.specs.Prelude.{Option, Some, None, slice_get}
use Rattle.std.specs.List.{AllByRecursion}
use Rattle.carol_store.specs.declared.shape.CellKind.{CellKind}
use Rattle.carol_store.specs.declared.shape.CellKind.TheVariants.{Counter, Peak, Flag}
use Rattle.carol_store.specs.Kinds.{can_go, ways}
use Rattle.carol_program.specs.declared.accords.Entry.{Entry}
use Rattle.carol_program.specs.declared.accords.Entry.TheVariants.{Yes, No}
use Rattle.carol_program.specs.Accords.{Accords, HasWay, entry_of}
use Rattle.carol_program.specs.Limits.{most_cells, most_queries}
use Rattle.carol_advise_guards.specs.Bars.{bars, no_in, noes, noes_from, noes_of_ways}
use Rattle.carol_advise_guards.specs.Listing.{lists_of, weighed, weighed_as}
use Rattle.carol_advise_guards.specs.Under.{IsAssignment}
use Rattle.carol_advise_guards.specs.declared.every.Weighed.{Weighed}
use Rattle.carol_advise_guards.proofs.Lists.{all-map, all_both}
use Rattle.carol_advise_guards.proofs.Ordering.{lists_assign}

no_in-few : (e : Option Entry) → no_in e ≤ 1
no_in-few None = omega arith
no_in-few (Some Yes) = omega arith
no_in-few (Some (No stores)) = omega arith

ways-few : (table : Accords) (guard cell : ℕ) (kind : CellKind) → noes_of_ways table guard cell (ways kind) ≤ 2
ways-few table guard cell Counter =
    let up = no_in-few (entry_of table guard cell true) in let down = no_in-few (entry_of table guard cell false) in omega (arith, up, down)
ways-few table guard cell Peak = let up = no_in-few (entry_of table guard cell true) in omega (arith, up)
ways-few table guard cell Flag = let up = no_in-few (entry_of table guard cell true) in omega (arith, up)

noes-few : (table : Accords) (guard cell : ℕ) (kinds : List CellKind) → noes_from table guard cell kinds ≤ 2 * length kinds
noes-few table guard cell [] = omega arith
noes-few table guard cell (kind ∷ kinds) =
    let first = ways-few table guard cell kind in let rest = noes-few table guard (cell + 1) kinds in omega (arith, first, rest)

bars-few : (table : Accords) (gs : List ℕ) → length table.kinds ≤ 16 → bars table gs ≤ 32 * length gs
bars-few table [] cells = omega arith
bars-few table (g ∷ gs) cells =
    let first = noes-few table g 0 table.kinds in let rest = bars-few table gs cells in omega (arith, first, rest)

-- ---- the lists of all assignments

pub lists_fit : (table : Accords) (guards slots : ℕ) → guards ≡ table.guards → slots ≤ most_queries
    → AllByRecursion (λ gs. (length gs ≤ most_queries) × AllByRecursion (λ g. g < table.guards) gs) (lists_of guards slots)
lists_fit table guards slots same few =
    all_both (IsAssignment guards slots) (λ gs. (length gs ≤ most_queries) × AllByRecursion (λ g. g < table.guards) gs)
    (λ gs a. (omega (arith, a.count), subst (λ n. AllByRecursion (λ g. g < n) gs) same a.declared)) (lists_of guards slots) (lists_assign guards slots)

pub weighed-few : (table : Accords) (guards slots : ℕ) → length table.kinds ≤ most_cells → slots ≤ most_queries
    → AllByRecursion (λ (c : Weighed). c.bars ≤ 256) (weighed table (lists_of guards slots))
weighed-few table guards slots cells few =
    all-map (λ (c : Weighed). c.bars ≤ 256) (weighed_as table) (lists_of guards slots)
    (all_both (IsAssignment guards slots) (λ gs. bars table gs ≤ 256)
    (λ gs a. let low = bars-few table gs cells in omega (arith, low, a.count)) (lists_of guards slots) (lists_assign guards slots))

-- ---- ways

can_go-up : (kind : CellKind) → can_go kind true ≡ true
can_go-up Counter = refl
can_go-up Peak = refl
can_go-up Flag = refl

kind_same : (a b : CellKind) → Some a ≡ Some b → a ≡ b
kind_same a b e = cc

no_kind : (kind : CellKind) → None ≡ Some kind → ⊥
no_kind kind e = cc

pub way_up : (kinds : List CellKind) (cell : ℕ) (kind : CellKind) → slice_get kinds cell ≡ Some kind → HasWay kinds cell true
way_up [] cell kind is = absurd (no_kind kind is)
way_up (k ∷ kinds) zero kind is = can_go-up k
way_up (k ∷ kinds) (suc cell) kind is = way_up kinds cell kind is

pub way_down : (kinds : List CellKind) (cell : ℕ) → slice_get kinds cell ≡ Some Counter → HasWay kinds cell false
way_down [] cell is = absurd (no_kind Counter is)
way_down (k ∷ kinds) zero is = subst (λ x. can_go x false ≡ true) (sym (kind_same k Counter is)) refl
way_down (k ∷ kinds) (suc cell) is = way_down kinds cell is
