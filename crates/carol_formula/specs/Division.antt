-- Terms divided by a positive number.
use Rattle.std.specs.Prelude.{ℕ, ◌≡◌, ◌/◌, ◌%◌, List, [], ◌∷◌, ℤ, pos, negsuc, neg_ℤ, unsigned_abs}
use Rattle.carol_formula.specs.Linear.{Linear}

-- the greatest whole number that is at most z / d
abbrev pub floor_of : ℤ → ℕ → ℤ
floor_of (pos a) d = pos (a / d)
floor_of (negsuc a) d = negsuc (a / d)

-- the least whole number that is at least z / d
abbrev pub ceiling_of : ℤ → ℕ → ℤ
ceiling_of z d = neg_ℤ (floor_of (neg_ℤ z) d)

-- d divides z
abbrev pub Divides : ℕ → ℤ → Type 0
Divides d z = unsigned_abs z % d ≡ 0

-- d divides each coefficient
abbrev pub EachDivides : ℕ → List (ℕ × ℤ) → Type 0
EachDivides d [] = Unit {0}
EachDivides d (p ∷ ps) = Divides d p.1 × EachDivides d ps

-- each coefficient divided
abbrev pub quotients : ℕ → List (ℕ × ℤ) → List (ℕ × ℤ)
quotients d [] = []
quotients d (p ∷ ps) = (p.0, floor_of p.1 d) ∷ quotients d ps

-- the term divided, and its constant rounded up
abbrev pub quotient_of : ℕ → Linear → Linear
quotient_of d t = record { pairs = quotients d t.pairs; rest = ceiling_of t.rest d }
