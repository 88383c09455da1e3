-- The definitions at small lists, worked by hand. Variable 0 is x, and variable 1 is y.
use Rattle.std.proofs.Common.{ℕ, ◌≡◌, List, [], ◌∷◌, refl}
use Rattle.std.specs.Prelude.{ℤ, pos, negsuc}
use Rattle.carol_formula.specs.Linear.{Linear}
use Rattle.carol_elimination.specs.Tightened.{tightened}
use Rattle.carol_elimination.specs.Stage.{least, next, eliminated, variables, first_stage}

abbrev row : List (ℕ × ℤ) → ℤ → Linear
row pairs rest = record { pairs = pairs; rest = rest }

-- a x + b y + c
abbrev both : ℤ → ℤ → ℤ → Linear
both a b c = row ((0, a) ∷ (1, b) ∷ []) c

-- a y + c
abbrev alone : ℤ → ℤ → Linear
alone b c = row ((1, b) ∷ []) c

-- 6 x - 9 y <= 7 is 2 x - 3 y <= 2, and -4 y <= -7 is -y <= -2
divided_down : tightened (both (pos 6) (negsuc 8) (negsuc 6)) ≡ both (pos 2) (negsuc 2) (negsuc 1)
divided_down = refl

divided_up : tightened (alone (negsuc 3) (pos 7)) ≡ alone (negsuc 0) (pos 2)
divided_up = refl

-- 4 x + y <= 5 three times and -6 x + y <= -8 twice are 5 y <= -1
least_multiples : least 0 (both (pos 4) (pos 1) (negsuc 4)) (both (negsuc 5) (pos 1) (pos 8)) ≡ alone (pos 5) (pos 1)
least_multiples = refl

-- of 2 x <= y and 3 y <= 2 x - 1: no x is left, and y <= -1
cancelled : next 0 (both (pos 2) (negsuc 0) (pos 0) ∷ both (negsuc 1) (pos 3) (pos 1) ∷ alone (pos 1) (negsuc 4) ∷ []) ≡ alone (pos 1) (negsuc 4) ∷ alone (pos 1) (pos 1) ∷ []
cancelled = refl

-- 2 x + 4 y = 1 has no whole solution
no_whole_solution : eliminated (variables (both (pos 2) (pos 4) (negsuc 0) ∷ both (negsuc 1) (negsuc 3) (pos 1) ∷ [])) (first_stage (both (pos 2) (pos 4) (negsuc 0) ∷ both (negsuc 1) (negsuc 3) (pos 1) ∷ [])) ≡ row [] (pos 1) ∷ []
no_whole_solution = refl
