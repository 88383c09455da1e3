-- A look at the formulas of a place, one after another.
use Rattle.std.proofs.Common.{◌≡◌, ℕ, zero, suc, ◌+◌, ◌<◌, List, [], ◌∷◌, length, take, get_or, sym, ◌∙◌, ap, subst, arith}
use Rattle.std.specs.Prelude.{Some}
use Rattle.std.specs.Option.{option_map}
use Rattle.std.proofs.lemmas.Option.{slice_get-map, slice_get-get_or}
use Rattle.carol_formula.specs.Claim.{Claim, True, False, Le, Eq, Ne, And, Or, Not}
use Rattle.carol_elimination.specs.Due.{AreRows}
use Rattle.carol_decide.specs.Sizes.{IsReady, AreReady}
use Rattle.carol_decide.specs.Piece.{claim_of_piece, claims_in}
use Rattle.carol_decide.specs.Frames.{StandsAt}
use Rattle.carol_decide.specs.declared.piece.Piece.{Piece}

-- the first formulas are rows
abbrev pub FirstAreRows : ℕ → List Claim → Type 0
FirstAreRows at claims = AreReady claims → AreRows (take at claims)

AreRows-cons : (c : Claim) (claims : List Claim) → AreRows (c ∷ []) → AreRows claims → AreRows (c ∷ claims)
AreRows-cons True claims one h = h
AreRows-cons False claims one h = absurd one
AreRows-cons (Le t) claims one h = h
AreRows-cons (Eq t) claims one h = h
AreRows-cons (Ne t) claims one h = absurd one
AreRows-cons (And a b) claims one h = absurd one
AreRows-cons (Or a b) claims one h = absurd one
AreRows-cons (Not a) claims one h = absurd one

AreRows-head : (c : Claim) (claims : List Claim) → AreRows (c ∷ claims) → AreRows (c ∷ []) × AreRows claims
AreRows-head True claims h = (tt, h)
AreRows-head False claims h = absurd h
AreRows-head (Le t) claims h = (tt, h)
AreRows-head (Eq t) claims h = (tt, h)
AreRows-head (Ne t) claims h = absurd h
AreRows-head (And a b) claims h = absurd h
AreRows-head (Or a b) claims h = absurd h
AreRows-head (Not a) claims h = absurd h

pub look_more : (pieces : List Piece) (at : ℕ) (d : Piece) → at < length pieces → (IsReady (claim_of_piece (get_or pieces at d)) → AreRows (claim_of_piece (get_or pieces at d) ∷ [])) → FirstAreRows at (claims_in pieces) → FirstAreRows (at + 1) (claims_in pieces)
look_more [] at d h one rows ready = absurd (omega arith)
look_more (p ∷ pieces) zero d h one rows ready = AreRows-cons (claim_of_piece p) [] (one ready.0) tt
look_more (p ∷ pieces) (suc at) d h one rows ready =
    let both = AreRows-head (claim_of_piece p) (take at (claims_in pieces)) (rows ready) in
    let next : suc at + 1 ≡ suc (at + 1) = omega arith in
    subst (λ n. AreRows (take n (claims_in (p ∷ pieces)))) (sym next)
    (AreRows-cons (claim_of_piece p) (take (at + 1) (claims_in pieces)) both.0 (look_more pieces at d (omega arith) one (λ r. both.1) ready.1))

pub looked_all : (pieces : List Piece) (at : ℕ) → at ≡ length pieces → FirstAreRows at (claims_in pieces) → AreReady (claims_in pieces) → AreRows (claims_in pieces)
looked_all [] at e rows ready = tt
looked_all (p ∷ pieces) zero e rows ready = absurd (omega arith)
looked_all (p ∷ pieces) (suc at) e rows ready =
    let both = AreRows-head (claim_of_piece p) (take at (claims_in pieces)) (rows ready) in
    AreRows-cons (claim_of_piece p) (claims_in pieces) both.0 (looked_all pieces at (omega arith) (λ r. both.1) ready.1)

-- ---- where a formula stands

pub stands_piece : (pieces : List Piece) (at : ℕ) (p : Piece) → at < length pieces → p ≡ get_or pieces at p → StandsAt (claims_in pieces) at (claim_of_piece p)
stands_piece pieces at p h e = slice_get-map claim_of_piece pieces at ∙ ap (option_map claim_of_piece) (slice_get-get_or pieces at p h) ∙ ap (λ q. Some (claim_of_piece q)) (sym e)
