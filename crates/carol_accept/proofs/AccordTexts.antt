-- One line after another.
use Rattle.std.proofs.Common.{◌≡◌, ℕ, ◌+◌, ◌-◌, ◌<◌, zero, suc, Bool, true, false, List, [], ◌∷◌, ◌++◌, length, drop, drop-cons, get_or, add-one, refl, sym, subst, ap, ◌∙◌, append_assoc, arith}
use Rattle.std.specs.Prelude.{Some, None, slice_get}
use Rattle.carol_store.specs.declared.shape.CellKind.{CellKind}
use Rattle.carol_store.specs.declared.shape.CellKind.TheVariants.{Counter, Peak, Flag}
use Rattle.carol_store.specs.Kinds.{can_go, ways}
use Rattle.carol_program.specs.declared.names.Names.{Names}
use Rattle.carol_program.specs.Accords.{Accords, HasWay}
use Rattle.carol_accept.specs.Texts.{cell_text, cells_text, guard_text, guards_text}

-- a cell can go the ways of its kind
goes_there : (kinds : List CellKind) (cell : ℕ) (kind : CellKind) (up : Bool) → slice_get kinds cell ≡ Some kind → can_go kind up ≡ true → HasWay kinds cell up
goes_there [] cell kind up e h = absurd (nothing e)
  where
    nothing : None ≡ Some kind → ⊥
    nothing q = cc
goes_there (k ∷ kinds) zero kind up e h = subst (λ x. can_go x up ≡ true) (sym (first e)) h
  where
    first : Some k ≡ Some kind → k ≡ kind
    first q = cc
goes_there (k ∷ kinds) (suc cell) kind up e h = goes_there kinds cell kind up e h

-- each of these ways is one of the cell
abbrev pub AreWaysAt : List CellKind → ℕ → List Bool → Type 0
AreWaysAt kinds cell [] = Unit {0}
AreWaysAt kinds cell (up ∷ more) = HasWay kinds cell up × AreWaysAt kinds cell more

-- so are all ways of its kind
pub ways_there : (kinds : List CellKind) (cell : ℕ) (kind : CellKind) → slice_get kinds cell ≡ Some kind → AreWaysAt kinds cell (ways kind)
ways_there kinds cell Counter e = (goes_there kinds cell Counter true e refl, (goes_there kinds cell Counter false e refl, tt))
ways_there kinds cell Peak e = (goes_there kinds cell Peak true e refl, tt)
ways_there kinds cell Flag e = (goes_there kinds cell Flag true e refl, tt)

-- one cell further
pub cells_more : (out : List ℕ) (names : Names) (table : Accords) (guard i : ℕ) (kinds : List CellKind) (kind : CellKind) (whole : List ℕ) → i < length kinds → kind ≡ get_or kinds i kind → out ++ cells_text names table guard i (drop i kinds) ≡ whole → (out ++ cell_text names table guard i kind) ++ cells_text names table guard (i + 1) (drop (i + 1) kinds) ≡ whole
cells_more out names table guard i kinds kind whole inside read h =
    let here : drop i kinds ≡ kind ∷ drop (i + 1) kinds = rw add-one (drop-cons kinds i kind inside ∙ ap (λ (k : CellKind). k ∷ drop (suc i) kinds) (sym read))
    in append_assoc out (cell_text names table guard i kind) (cells_text names table guard (i + 1) (drop (i + 1) kinds)) ∙ rw here at h

-- one guard further
pub guards_more : (out : List ℕ) (names : Names) (table : Accords) (kinds : List CellKind) (count i : ℕ) (whole : List ℕ) → i < count → out ++ guards_text names table kinds (count - i) i ≡ whole → (out ++ guard_text names table kinds i) ++ guards_text names table kinds (count - (i + 1)) (i + 1) ≡ whole
guards_more out names table kinds count i whole inside h =
    let here : count - i ≡ suc (count - (i + 1)) = omega arith
    in append_assoc out (guard_text names table kinds i) (guards_text names table kinds (count - (i + 1)) (i + 1)) ∙ subst (λ n. out ++ guards_text names table kinds n i ≡ whole) here h
