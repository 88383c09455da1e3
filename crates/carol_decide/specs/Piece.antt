-- The formulas at a place.
use Rattle.std.specs.Prelude.{List, map}
use Rattle.carol_formula.specs.Claim.{Claim}
use Rattle.carol_cert.specs.Place.{claim_of_item}
use Rattle.carol_cert.specs.declared.place.Item.{Item}
use Rattle.carol_cert.specs.declared.place.Item.TheVariants as item
use Rattle.carol_decide.specs.declared.piece.Piece.{Piece}
use Rattle.carol_decide.specs.declared.piece.Piece.TheVariants.{Whole, Negative, Positive}

abbrev pub item_of : Piece → Item
item_of (Whole formula) = item.Whole formula
item_of (Negative t) = item.Negative t
item_of (Positive t) = item.Positive t

abbrev pub claim_of_piece : Piece → Claim
claim_of_piece piece = claim_of_item (item_of piece)

abbrev pub claims_in : List Piece → List Claim
claims_in pieces = map claim_of_piece pieces
