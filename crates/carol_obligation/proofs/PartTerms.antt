-- Of the parts of an issue there is at most one for each cell.
use Rattle.std.proofs.Common.{ℕ, suc, zero, ◌+◌, ◌≤◌, ◌<◌, ◌≡◌, ◌≢◌, Bool, true, false, List, [], ◌∷◌, length, arith, subst}
use Rattle.std.specs.Prelude.{◌==◌, if◌then◌else◌}
use Rattle.std.specs.List.{AllByRecursion}
use Rattle.carol_store.specs.declared.shape.CellKind.{CellKind}
use Rattle.carol_formula.specs.Linear.{Linear}
use Rattle.carol_formula.proofs.Orders.{by_order}
use Rattle.carol_program.specs.declared.steps.Part.{Part}
use Rattle.carol_program.specs.WellFormed.{AreApart, AreParts, HasNone, IsDoneAt, IsPartOver, Setting, variables_in}
use Rattle.carol_program.specs.Limits.{most_cells}
use Rattle.carol_obligation.specs.Budget.{AreSmallParts}
use Rattle.carol_obligation.proofs.Light.{light_parts}

-- the parts without the first that is the cell's
abbrev without : ℕ → List Part → List Part
without n [] = []
without n (p ∷ ps) = if p.cell == n then ps else (p ∷ without n ps)

abbrev AreBelow : ℕ → List Part → Type 0
AreBelow n [] = Unit {0}
AreBelow n (p ∷ ps) = (p.cell < n) × AreBelow n ps

by_same : (m n : ℕ) (P : Bool → Type 0) → (m ≡ n → P true) → (m ≢ n → P false) → P (m == n)
by_same m n P same other = by_order m n (λ a b. P b) (λ h. other (λ e. absurd (omega (arith, h, e)))) same (λ h. other (λ e. absurd (omega (arith, h, e))))

length-without : (n : ℕ) (ps : List Part) → length ps ≤ length (without n ps) + 1
length-without n [] = omega arith
length-without n (p ∷ ps) = by_same p.cell n (λ b. length (p ∷ ps) ≤ length (if b then ps else (p ∷ without n ps)) + 1) (λ _. omega arith) (λ _. omega (arith, length-without n ps))

none-without : (c n : ℕ) (ps : List Part) → HasNone c ps → HasNone c (without n ps)
none-without c n [] h = tt
none-without c n (p ∷ ps) h = by_same p.cell n (λ b. HasNone c (if b then ps else (p ∷ without n ps))) (λ _. h.1) (λ _. (h.0, none-without c n ps h.1))

apart-without : (n : ℕ) (ps : List Part) → AreApart ps → AreApart (without n ps)
apart-without n [] h = tt
apart-without n (p ∷ ps) h = by_same p.cell n (λ b. AreApart (if b then ps else (p ∷ without n ps))) (λ _. h.1) (λ _. (none-without p.cell n ps h.0, apart-without n ps h.1))

-- cells below n + 1, none of which is n, are below n
lower : (n : ℕ) (ps : List Part) → AreBelow (suc n) ps → HasNone n ps → AreBelow n ps
lower n [] h none = tt
lower n (p ∷ ps) h none = (below p.cell n h.0 none.0, lower n ps h.1 none.1)
  where
    below : (c m : ℕ) → c < suc m → c ≢ m → c < m
    below c m le other = grind arith

below-without : (n : ℕ) (ps : List Part) → AreBelow (suc n) ps → AreApart ps → AreBelow n (without n ps)
below-without n [] h apart = tt
below-without n (p ∷ ps) h apart = by_same p.cell n (λ b. AreBelow n (if b then ps else (p ∷ without n ps)))
    (λ e. lower n ps h.1 (subst (λ c. HasNone c ps) e apart.0))
    (λ other. (below p.cell n h.0 other, below-without n ps h.1 apart.1))
  where
    below : (c m : ℕ) → c < suc m → c ≢ m → c < m
    below c m le other = grind arith

few_below : (n : ℕ) (ps : List Part) → AreBelow n ps → AreApart ps → length ps ≤ n
few_below zero [] h apart = omega arith
few_below zero (p ∷ ps) h apart = absurd (omega (arith, h.0))
few_below (suc n) ps h apart = omega (arith, length-without n ps, few_below n (without n ps) (below-without n ps h apart) (apart-without n ps apart))

done_within : (kinds : List CellKind) (cell : ℕ) (t : Linear) → IsDoneAt kinds cell t → cell < length kinds
done_within [] cell t h = absurd h
done_within (kind ∷ kinds) zero t h = omega arith
done_within (kind ∷ kinds) (suc cell) t h = omega (arith, done_within kinds cell t h)

parts_below : (kinds : List CellKind) (ranges : List (ℕ × ℕ)) (ps : List Part) → AllByRecursion (IsPartOver kinds ranges) ps → AreBelow (length kinds) ps
parts_below kinds ranges [] h = tt
parts_below kinds ranges (p ∷ ps) h = (done_within kinds p.cell p.amount h.0.0, parts_below kinds ranges ps h.1)

pub small_parts : (s : Setting) (slots : List ℕ) (parts : List Part) → length s.kinds ≤ most_cells → AreParts s slots parts → AreSmallParts parts
small_parts s slots parts few h = record {
  light = light_parts s.kinds (variables_in s slots) parts h.1;
  few = omega (arith, few, few_below (length s.kinds) parts (parts_below s.kinds (variables_in s slots) parts h.1) h.2);
}
