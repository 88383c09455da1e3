-- A branch more at the end of a path, and a branch less.
use Rattle.std.proofs.Common.{ℕ, ◌≡◌, ◌+◌, ◌<◌, Bool, true, false, List, [], ◌∷◌, ◌++◌, length, get_or, take, refl, sym, ◌∙◌, ap, subst, arith, inl, inr, append_assoc}
use Rattle.std.specs.Prelude.{Option, Some, None, ℤ, ◌||◌}
use Rattle.std.proofs.lemmas.List.{length-take, take_more}
use Rattle.std.proofs.Math.Bool.{or_assoc}
use Rattle.carol_formula.specs.Linear.{Linear}
use Rattle.carol_formula.specs.Claim.{Claim, Le}
use Rattle.carol_cert.specs.declared.step.RowStep.{RowStep}
use Rattle.carol_cert.specs.declared.step.RowStep.TheVariants.{Given}
use Rattle.carol_cert.specs.declared.tree.Refutation.{Refutation}
use Rattle.carol_elimination.specs.Due.{rows_at, IsDueFor, IsSide, ComeFromDue}
use Rattle.carol_linear.specs.Place.{with_rows, names_from}
use Rattle.carol_linear.specs.Path.{side_row, frame_row, frame_rows, low_turns, turns_on, low_gap, gap_on, low_waits, waiting_on, Branches, ArePath}
use Rattle.carol_linear.specs.declared.branch.Frame.{Frame}
use Rattle.carol_linear.proofs.Places.{rows_at-push, names_from-push}

-- ---- counts

pub frame_rows-push : (fs : List Frame) (f : Frame) → frame_rows (fs ++ f ∷ []) ≡ frame_rows fs ++ frame_row f ∷ []
frame_rows-push [] f = refl
frame_rows-push (g ∷ fs) f = ap (λ (rows : List Linear). frame_row g ∷ rows) (frame_rows-push fs f)

pub length-frame_rows : (fs : List Frame) → length (frame_rows fs) ≡ length fs
length-frame_rows [] = refl
length-frame_rows (f ∷ fs) = let rest = length-frame_rows fs in omega arith

pub turns_on-push : (fs : List Frame) (f : Frame) → turns_on (fs ++ f ∷ []) ≡ turns_on fs + low_turns f.low + 1
turns_on-push [] f = omega arith
turns_on-push (g ∷ fs) f = let rest = turns_on-push fs f in omega arith

pub or_false : (a : Bool) → a || false ≡ a
or_false true = refl
or_false false = refl

pub gap_on-push : (fs : List Frame) (f : Frame) → gap_on (fs ++ f ∷ []) ≡ gap_on fs || low_gap f.low
gap_on-push [] f = or_false (low_gap f.low)
gap_on-push (g ∷ fs) f = ap (λ (b : Bool). low_gap g.low || b) (gap_on-push fs f) ∙ sym (or_assoc (low_gap g.low) (gap_on fs) (low_gap f.low))

pub waiting_on-push : (fs : List Frame) (f : Frame) → waiting_on (fs ++ f ∷ []) ≡ waiting_on fs + low_waits f.low
waiting_on-push [] f = omega arith
waiting_on-push (g ∷ fs) f = let rest = waiting_on-push fs f in omega arith

-- ---- paths

pub path_push : (claims : List Claim) (fs : List Frame) (f : Frame) → ArePath claims fs → Branches (with_rows claims (frame_rows fs)) f → ArePath claims (fs ++ f ∷ [])
path_push claims [] f path last = (last, tt)
path_push claims (g ∷ fs) f path last = (path.0, path_push (claims ++ Le (frame_row g) ∷ []) fs f path.1 last)

pub path_front : (claims : List Claim) (fs : List Frame) (f : Frame) → ArePath claims (fs ++ f ∷ []) → ArePath claims fs
path_front claims [] f path = tt
path_front claims (g ∷ fs) f path = (path.0, path_front (claims ++ Le (frame_row g) ∷ []) fs f path.1)

pub path_last : (claims : List Claim) (fs : List Frame) (f : Frame) → ArePath claims (fs ++ f ∷ []) → Branches (with_rows claims (frame_rows fs)) f
path_last claims [] f path = path.0
path_last claims (g ∷ fs) f path = path_last (claims ++ Le (frame_row g) ∷ []) fs f path.1

is_side : (x : ℕ) (k : ℤ) (low : Option Refutation) → IsSide x k (side_row x k low)
is_side x k None = inl refl
is_side x k (Some low) = inr refl

-- the rows of a path come from due branches
pub path_due : (claims : List Claim) (rows : List Linear) (fs : List Frame) → rows_at claims ≡ rows → ArePath claims fs → ComeFromDue rows (frame_rows fs)
path_due claims rows [] same path = tt
path_due claims rows (f ∷ fs) same path = (
  (f.variable, f.k, subst (λ (rs : List Linear). IsDueFor rs f.variable f.k) same path.0.due.due, is_side f.variable f.k f.low),
  path_due (claims ++ Le (frame_row f) ∷ []) (rows ++ frame_row f ∷ []) fs (rows_at-push claims (frame_row f) ∙ ap (λ (rs : List Linear). rs ++ frame_row f ∷ []) same) path.1,
)

-- ---- the front of a path

pub frame_rows-take : (fs : List Frame) (i : ℕ) (f : Frame) → i < length fs → f ≡ get_or fs i f → frame_rows (take (i + 1) fs) ≡ frame_rows (take i fs) ++ frame_row f ∷ []
frame_rows-take fs i f h e =
    ap frame_rows (take_more fs i f h) ∙ frame_rows-push (take i fs) (get_or fs i f) ∙ ap (λ (g : Frame). frame_rows (take i fs) ++ frame_row g ∷ []) (sym e)

pub rows_take : (rows : List Linear) (fs : List Frame) (i : ℕ) (f : Frame) → i < length fs → f ≡ get_or fs i f → rows ++ frame_rows (take (i + 1) fs) ≡ (rows ++ frame_rows (take i fs)) ++ frame_row f ∷ []
rows_take rows fs i f h e = ap (λ (rs : List Linear). rows ++ rs) (frame_rows-take fs i f h e) ∙ sym (append_assoc rows (frame_rows (take i fs)) (frame_row f ∷ []))

pub names_take : (names : List RowStep) (n : ℕ) (fs : List Frame) (i : ℕ) (f : Frame) → i < length fs → f ≡ get_or fs i f → names ++ names_from n (frame_rows (take (i + 1) fs)) ≡ (names ++ names_from n (frame_rows (take i fs))) ++ Given (n + i) ∷ []
names_take names n fs i f h e =
    let count : n + length (frame_rows (take i fs)) ≡ n + i = omega (arith, length-frame_rows (take i fs), length-take i fs, h) in
    ap (λ (rs : List Linear). names ++ names_from n rs) (frame_rows-take fs i f h e)
    ∙ ap (λ (ns : List RowStep). names ++ ns) (names_from-push n (frame_rows (take i fs)) (frame_row f))
    ∙ ap (λ (k : ℕ). names ++ (names_from n (frame_rows (take i fs)) ++ Given k ∷ [])) count
    ∙ sym (append_assoc names (names_from n (frame_rows (take i fs))) (Given (n + i) ∷ []))
