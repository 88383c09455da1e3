-- How large formulas are, into how many cases lists of them split, and what their terms may be.
use Rattle.std.specs.Prelude.{ℕ, ◌+◌, ◌*◌, List, [], ◌∷◌}
use Rattle.carol_formula.specs.Bounds.{narrow_limit, row_limit}
use Rattle.carol_formula.specs.Linear.{IsWithin}
use Rattle.carol_formula.specs.Claim.{Claim, True, False, Le, Eq, Ne, And, Or, Not, EachTerm, cases_of}
use Rattle.carol_difference.specs.Rows.{AreDifference}

-- each formula of the list has the property
abbrev pub Each : (Claim → Type 0) → List Claim → Type 0
Each P [] = Unit {0}
Each P (c ∷ claims) = P c × Each P claims

-- how much there is to take apart: a `Ne` has two cases to become
abbrev pub weight_of : Claim → ℕ
weight_of True = 1
weight_of False = 1
weight_of (Le t) = 1
weight_of (Eq t) = 1
weight_of (Ne t) = 2
weight_of (And a b) = weight_of a + weight_of b + 1
weight_of (Or a b) = weight_of a + weight_of b + 1
weight_of (Not a) = 1

abbrev pub weight_in : List Claim → ℕ
weight_in [] = 0
weight_in (c ∷ claims) = weight_of c + weight_in claims

-- the cases of a list: each case of one formula with each of the others
abbrev pub cases_in : List Claim → ℕ
cases_in [] = 1
cases_in (c ∷ claims) = cases_of c * cases_in claims

-- each comparison is a row of differences
abbrev pub OfDifferences : Claim → Type 0
OfDifferences c = EachTerm (λ t. AreDifference t.pairs) c

abbrev pub AreOfDifferences : List Claim → Type 0
AreOfDifferences claims = Each OfDifferences claims

-- no `Not`, and numbers small enough for rows: those of a `Ne` even with 1 added
abbrev pub IsReady : Claim → Type 0
IsReady True = Unit {0}
IsReady False = Unit {0}
IsReady (Le t) = IsWithin row_limit t
IsReady (Eq t) = IsWithin row_limit t
IsReady (Ne t) = IsWithin narrow_limit t
IsReady (And a b) = IsReady a × IsReady b
IsReady (Or a b) = IsReady a × IsReady b
IsReady (Not a) = ⊥

abbrev pub AreReady : List Claim → Type 0
AreReady claims = Each IsReady claims
