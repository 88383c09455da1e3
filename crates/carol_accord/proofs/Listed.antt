-- The steps in order.
use Rattle.std.proofs.Common.{◌≡◌, ℕ, zero, suc, ◌+◌, ◌<◌, Bool, true, false, List, [], ◌∷◌, ◌++◌, length, map, arith, refl, sym, ◌∙◌, ap, subst, append_assoc}
use Rattle.std.specs.Prelude.{Some, slice_get}
use Rattle.std.specs.List.{AllByRecursion}
use Rattle.std.proofs.lemmas.Bool.{false≢true}
use Rattle.std.proofs.lemmas.List.{append-nil}
use Rattle.carol_store.specs.declared.shape.CellKind.{CellKind}
use Rattle.carol_store.specs.declared.shape.CellKind.TheVariants.{Counter, Peak, Flag}
use Rattle.carol_store.specs.declared.direction.Direction.{Direction}
use Rattle.carol_store.specs.Kinds.{can_go, ways}
use Rattle.carol_program.specs.Accords.{HasWay, row_length, place_of}
use Rattle.carol_accord.specs.Inferred.{steps_before, steps_from, steps_of, step_of}

-- ---- the ways of one cell

pub stepped_on : (steps : List Direction) (cell : ℕ) (up : Bool) (left more : List Bool) (whole : List Direction) → left ≡ up ∷ more → steps ++ (map (step_of cell) left ++ []) ≡ whole → (steps ++ step_of cell up ∷ []) ++ (map (step_of cell) more ++ []) ≡ whole
stepped_on steps cell up left more whole is h =
    append_assoc steps (step_of cell up ∷ []) (map (step_of cell) more ++ []) ∙ subst (λ (ups : List Bool). steps ++ (map (step_of cell) ups ++ []) ≡ whole) is h

pub stepped_end : (steps : List Direction) (cell : ℕ) (left : List Bool) (whole : List Direction) → length left ≡ 0 → steps ++ (map (step_of cell) left ++ []) ≡ whole → steps ≡ whole
stepped_end steps cell [] whole none h = sym (append-nil steps) ∙ h
stepped_end steps cell (up ∷ left) whole none h = absurd (omega arith)

-- ---- the list of steps

-- the steps so far, and those of the cells that are left
pub record Listing (kinds left : List CellKind) (cell : ℕ) (steps : List Direction) : Type 0 where
  pub whole : steps ++ steps_from cell left ≡ steps_of kinds
  pub count : cell + length left ≡ length kinds

-- each step is one of the shape
steps-ways : (whole left : List CellKind) (base : ℕ) → ((i : ℕ) (up : Bool) → HasWay left i up → HasWay whole (base + i) up) → AllByRecursion (λ d. HasWay whole d.cell d.up) (steps_from base left)
steps-ways whole [] base h = tt
steps-ways whole (kind ∷ left) base h = own kind (λ up w. subst (λ (v : ℕ). HasWay whole v up) (omega arith) (h zero up w)) (steps-ways whole left (base + 1) (λ i up w. subst (λ (v : ℕ). HasWay whole v up) (omega arith) (h (suc i) up w)))
  where
    own : (kind : CellKind) → ((up : Bool) → can_go kind up ≡ true → HasWay whole base up) → AllByRecursion (λ d. HasWay whole d.cell d.up) (steps_from (base + 1) left) → AllByRecursion (λ d. HasWay whole d.cell d.up) (steps_before base kind (steps_from (base + 1) left))
    own Counter k more = (k true refl, (k false refl, more))
    own Peak k more = (k true refl, more)
    own Flag k more = (k true refl, more)

pub all-at : {A : Type 0} (P : A → Type 0) (xs : List A) (y : A) (ys : List A) → AllByRecursion P (xs ++ y ∷ ys) → P y
all-at P [] y ys h = h.0
all-at P (x ∷ xs) y ys h = all-at P xs y ys h.1

pub step-way : (kinds : List CellKind) (earlier later : List Direction) (step : Direction) → steps_of kinds ≡ earlier ++ step ∷ later → HasWay kinds step.cell step.up
step-way kinds earlier later step e = all-at (λ d. HasWay kinds d.cell d.up) earlier step later
    (subst (λ (ds : List Direction). AllByRecursion (λ d. HasWay kinds d.cell d.up) ds) e (steps-ways kinds kinds 0 (λ i up w. subst (λ (v : ℕ). HasWay kinds v up) (omega arith) w)))

pub way-within : (kinds : List CellKind) (cell : ℕ) (up : Bool) → HasWay kinds cell up → cell < length kinds
way-within [] cell up h = absurd h
way-within (kind ∷ kinds) zero up h = omega arith
way-within (kind ∷ kinds) (suc cell) up h = omega (arith, way-within kinds cell up h)

-- ---- where a step stands among all

length-before : (cell : ℕ) (kind : CellKind) (more : List Direction) → length (steps_before cell kind more) ≡ length (ways kind) + length more
length-before cell Counter more = omega arith
length-before cell Peak more = omega arith
length-before cell Flag more = omega arith

pub length-steps : (base : ℕ) (kinds : List CellKind) → length (steps_from base kinds) ≡ row_length kinds
length-steps base [] = refl
length-steps base (kind ∷ kinds) = length-before base kind (steps_from (base + 1) kinds) ∙ ap (λ (n : ℕ). length (ways kind) + n) (length-steps (base + 1) kinds)

after-own : (cell : ℕ) (kind : CellKind) (more : List Direction) (n : ℕ) → slice_get (steps_before cell kind more) (length (ways kind) + n) ≡ slice_get more n
after-own cell Counter more n = ap (slice_get (steps_before cell Counter more)) (two n)
  where
    two : (n : ℕ) → 2 + n ≡ suc (suc n)
    two n = omega arith
after-own cell Peak more n = ap (slice_get (steps_before cell Peak more)) (one n)
  where
    one : (n : ℕ) → 1 + n ≡ suc n
    one n = omega arith
after-own cell Flag more n = ap (slice_get (steps_before cell Flag more)) (one n)
  where
    one : (n : ℕ) → 1 + n ≡ suc n
    one n = omega arith

first-own : (cell : ℕ) (kind : CellKind) (up : Bool) (kinds : List CellKind) (more : List Direction) → can_go kind up ≡ true → slice_get (steps_before cell kind more) (place_of (kind ∷ kinds) zero up) ≡ Some (step_of cell up)
first-own cell Counter true kinds more h = refl
first-own cell Counter false kinds more h = refl
first-own cell Peak true kinds more h = refl
first-own cell Peak false kinds more h = absurd (false≢true h)
first-own cell Flag true kinds more h = refl
first-own cell Flag false kinds more h = absurd (false≢true h)

pub step-place : (base : ℕ) (kinds : List CellKind) (cell : ℕ) (up : Bool) → HasWay kinds cell up → slice_get (steps_from base kinds) (place_of kinds cell up) ≡ Some (step_of (base + cell) up)
step-place base [] cell up h = absurd h
step-place base (kind ∷ kinds) zero up h = first-own base kind up kinds (steps_from (base + 1) kinds) h ∙ ap (λ (c : ℕ). Some (step_of c up)) (omega arith)
step-place base (kind ∷ kinds) (suc cell) up h = after-own base kind (steps_from (base + 1) kinds) (place_of kinds cell up) ∙ step-place (base + 1) kinds cell up h ∙ ap (λ (c : ℕ). Some (step_of c up)) (omega arith)
