-- What is to be done with a formula, and with the formulas at a place.
use Rattle.std.specs.Prelude.{◌≡◌, List, [], ◌∷◌, Some}
use Rattle.carol_formula.specs.Claim.{Claim, False}
use Rattle.carol_cert.specs.Refutes.{parts_of, sides_of}
use Rattle.carol_elimination.specs.Due.{AreRows}
use Rattle.carol_decide.specs.Sizes.{IsReady, AreReady}
use Rattle.carol_decide.specs.Piece.{claim_of_piece}
use Rattle.carol_decide.specs.Frames.{StandsAt}
use Rattle.carol_decide.specs.declared.fork.Kind.{Kind}
use Rattle.carol_decide.specs.declared.fork.Kind.TheVariants.{Absurd, Joined, Either, Plain}
use Rattle.carol_decide.specs.declared.fork.Next.{Next}
use Rattle.carol_decide.specs.declared.fork.Next.TheVariants.{Close, Part, Split, Settle}

abbrev pub IsKind : Claim → Kind → Type 0
IsKind claim Absurd = claim ≡ False
IsKind claim (Joined left right) = parts_of claim ≡ Some (claim_of_piece left, claim_of_piece right)
IsKind claim (Either low high) = sides_of claim ≡ Some (claim_of_piece low, claim_of_piece high)
IsKind claim Plain = IsReady claim → AreRows (claim ∷ [])

abbrev pub IsNext : List Claim → Next → Type 0
IsNext claims (Close at) = StandsAt claims at False
IsNext claims (Part at whole left right) = StandsAt claims at (claim_of_piece whole) × (parts_of (claim_of_piece whole) ≡ Some (claim_of_piece left, claim_of_piece right))
IsNext claims (Split at whole low high) = StandsAt claims at (claim_of_piece whole) × (sides_of (claim_of_piece whole) ≡ Some (claim_of_piece low, claim_of_piece high))
IsNext claims Settle = AreReady claims → AreRows claims
