-- The table of the rows of a list of claims.
use Rattle.std.proofs.Common.{◌≡◌, ℕ, zero, suc, ◌+◌, ◌*◌, ◌<◌, ◌≤◌, List, [], ◌∷◌, ◌++◌, length, drop, get_or, refl, sym, ◌∙◌, ap, subst, arith, lit≤, append_assoc, append-nil, length-append}
use Rattle.std.specs.Prelude.{Some, slice_get, ℤ, pos, negsuc, ◌+ℤ◌, ◌-ℤ◌, ◌*ℤ◌}
use Rattle.std.specs.List.{All}
use Rattle.std.proofs.lemmas.List.{length-map}
use Rattle.std.proofs.lemmas.Int.{ints}
use Rattle.carol_formula.specs.Bounds.{IsBelow, row_limit, term_limit}
use Rattle.carol_formula.specs.Linear.{Linear, IsTerm, IsWithin, AllBelow, AscendsFrom, NoneZero, times, normal_of, scaled, sum_of, difference_of, constant_of}
use Rattle.carol_formula.specs.Claim.{Claim, True, False, Le, Eq, Ne, And, Or, Not}
use Rattle.carol_formula.proofs.Products.{normal_of-normal}
use Rattle.carol_cert.specs.Cases.{below_zero, above_zero}
use Rattle.carol_cert.specs.declared.step.RowStep.{RowStep}
use Rattle.carol_difference.specs.Rows.{AreDifference, IsDifference, IsNarrow}
use Rattle.carol_elimination.specs.Due.{rows_at}
use Rattle.carol_elimination.specs.Entries.{terms_of}
use Rattle.carol_linear.specs.Names.{AreNamed}
use Rattle.carol_decide.proofs.Naming.{named_le, named_eq, named_reversed}
use Rattle.carol_decide.specs.Sizes.{AreOfDifferences, IsReady}
use Rattle.carol_decide.specs.Piece.{claim_of_piece, claims_in}
use Rattle.carol_decide.specs.declared.piece.Piece.{Piece}
use Rattle.carol_decide.specs.Table.{own_names, names_from, IsTableOf}
use Rattle.carol_decide.specs.declared.table.Table.{Table}
use Rattle.carol_decide.proofs.Forking.{AreDifference-times, AllBelow-times}

-- ---- rows and names, claim by claim

pub rows_at-cons : (c : Claim) (claims : List Claim) → rows_at (c ∷ claims) ≡ rows_at (c ∷ []) ++ rows_at claims
rows_at-cons True claims = refl
rows_at-cons False claims = refl
rows_at-cons (Le t) claims = refl
rows_at-cons (Eq t) claims = refl
rows_at-cons (Ne t) claims = refl
rows_at-cons (And a b) claims = refl
rows_at-cons (Or a b) claims = refl
rows_at-cons (Not a) claims = refl

few_rows : (claims : List Claim) → length (rows_at claims) ≤ 2 * length claims
few_rows [] = omega arith
few_rows (True ∷ claims) = omega (arith, few_rows claims)
few_rows (False ∷ claims) = omega (arith, few_rows claims)
few_rows (Le t ∷ claims) = omega (arith, few_rows claims)
few_rows (Eq t ∷ claims) = omega (arith, few_rows claims)
few_rows (Ne t ∷ claims) = omega (arith, few_rows claims)
few_rows (And a b ∷ claims) = omega (arith, few_rows claims)
few_rows (Or a b ∷ claims) = omega (arith, few_rows claims)
few_rows (Not a ∷ claims) = omega (arith, few_rows claims)

-- the claims stand in the list, the first of them at k
abbrev Stand : List Claim → ℕ → List Claim → Type 0
Stand all k [] = Unit {0}
Stand all k (c ∷ claims) = (slice_get all k ≡ Some c) × Stand all (k + 1) claims

named_from : (all : List Claim) (k : ℕ) (claims : List Claim) → Stand all k claims → AreNamed all (names_from k claims) (rows_at claims)
named_from all k [] h = tt
named_from all k (True ∷ claims) h = named_from all (k + 1) claims h.1
named_from all k (False ∷ claims) h = named_from all (k + 1) claims h.1
named_from all k (Le t ∷ claims) h = (named_le all k t h.0, named_from all (k + 1) claims h.1)
named_from all k (Eq t ∷ claims) h = (named_eq all k t h.0, (named_reversed all k t h.0, named_from all (k + 1) claims h.1))
named_from all k (Ne t ∷ claims) h = named_from all (k + 1) claims h.1
named_from all k (And a b ∷ claims) h = named_from all (k + 1) claims h.1
named_from all k (Or a b ∷ claims) h = named_from all (k + 1) claims h.1
named_from all k (Not a ∷ claims) h = named_from all (k + 1) claims h.1

stand_behind : (before claims : List Claim) (k : ℕ) → k ≡ length before → Stand (before ++ claims) k claims
stand_behind before [] k e = tt
stand_behind before (c ∷ claims) k e = (
  here before c claims k e,
  subst (λ all. Stand all (k + 1) claims) (append_assoc before (c ∷ []) claims) (stand_behind (before ++ c ∷ []) claims (k + 1) (omega (arith, length-append before (c ∷ [])))),
)
  where
    here : (before : List Claim) (c : Claim) (claims : List Claim) (k : ℕ) → k ≡ length before → slice_get (before ++ c ∷ claims) k ≡ Some c
    here [] c claims zero e = refl
    here [] c claims (suc k) e = absurd (omega arith)
    here (b ∷ before) c claims zero e = absurd (omega arith)
    here (b ∷ before) c claims (suc k) e = here before c claims k (omega arith)

names_name : (claims : List Claim) → AreNamed claims (names_from 0 claims) (rows_at claims)
names_name claims = named_from claims 0 claims (stand_behind [] claims 0 refl)

-- ---- the loop

-- the table has the rows of the first claims
pub record Fills (claims : List Claim) (at : ℕ) (t : Table) : Type 0 where
  pub rows : terms_of t.rows.items ++ rows_at (drop at claims) ≡ rows_at claims
  pub names : t.names.items ++ names_from at (drop at claims) ≡ names_from 0 claims
  pub narrow : All IsNarrow t.rows.items
  pub differences : AreOfDifferences claims → All IsDifference t.rows.items

pub drop_piece : (pieces : List Piece) (at : ℕ) (d : Piece) → at < length pieces → drop at (claims_in pieces) ≡ claim_of_piece (get_or pieces at d) ∷ drop (at + 1) (claims_in pieces)
drop_piece [] at d h = absurd (omega arith)
drop_piece (p ∷ pieces) zero d h = refl
drop_piece (p ∷ pieces) (suc at) d h =
    let next : suc at + 1 ≡ suc (at + 1) = omega arith in
    drop_piece pieces at d (omega arith) ∙ ap (λ n. claim_of_piece (get_or pieces at d) ∷ drop n (claims_in (p ∷ pieces))) (sym next)

pub fill_rows : (pieces : List Piece) (at : ℕ) (d : Piece) (old new : List Linear) → at < length pieces → new ≡ old ++ rows_at (claim_of_piece (get_or pieces at d) ∷ []) → old ++ rows_at (drop at (claims_in pieces)) ≡ rows_at (claims_in pieces) → new ++ rows_at (drop (at + 1) (claims_in pieces)) ≡ rows_at (claims_in pieces)
fill_rows pieces at d old new h e f =
    let c : Claim = claim_of_piece (get_or pieces at d) in
    let rest : List Claim = drop (at + 1) (claims_in pieces) in
    ap (λ xs. xs ++ rows_at rest) e ∙ append_assoc old (rows_at (c ∷ [])) (rows_at rest)
    ∙ ap (λ xs. old ++ xs) (sym (rows_at-cons c rest) ∙ ap rows_at (sym (drop_piece pieces at d h))) ∙ f

pub fill_names : (pieces : List Piece) (at : ℕ) (d : Piece) (old new : List RowStep) → at < length pieces → new ≡ old ++ own_names at (claim_of_piece (get_or pieces at d)) → old ++ names_from at (drop at (claims_in pieces)) ≡ names_from 0 (claims_in pieces) → new ++ names_from (at + 1) (drop (at + 1) (claims_in pieces)) ≡ names_from 0 (claims_in pieces)
fill_names pieces at d old new h e f =
    let c : Claim = claim_of_piece (get_or pieces at d) in
    let rest : List Claim = drop (at + 1) (claims_in pieces) in
    ap (λ xs. xs ++ names_from (at + 1) rest) e ∙ append_assoc old (own_names at c) (names_from (at + 1) rest)
    ∙ ap (λ xs. old ++ xs) (ap (names_from at) (sym (drop_piece pieces at d h))) ∙ f

drop_all : (claims : List Claim) (at : ℕ) → at ≡ length claims → drop at claims ≡ []
drop_all [] at e = ap (λ n. drop n []) e
drop_all (c ∷ claims) zero e = absurd (omega arith)
drop_all (c ∷ claims) (suc at) e = drop_all claims at (omega arith)

pub filled : (claims : List Claim) (at : ℕ) (t : Table) → at ≡ length claims → Fills claims at t → IsTableOf claims t
filled claims at t e f =
    let none = drop_all claims at e in
    let rows : terms_of t.rows.items ≡ rows_at claims = sym (append-nil (terms_of t.rows.items)) ∙ ap (λ c. terms_of t.rows.items ++ rows_at c) (sym none) ∙ f.rows in
    let names : t.names.items ≡ names_from 0 claims = sym (append-nil t.names.items) ∙ ap (λ c. t.names.items ++ names_from at c) (sym none) ∙ f.names in
    record {
      named = subst (λ ns. AreNamed claims ns (terms_of t.rows.items)) (sym names) (subst (AreNamed claims (names_from 0 claims)) (sym rows) (names_name claims));
      same = sym rows;
      narrow = f.narrow;
      few = omega (arith, few_rows claims, ap length rows, length-map t.rows.items (λ r. r.0));
      differences = f.differences;
    }

-- ---- terms of the code

row_below_term : row_limit ≤ term_limit
row_below_term = lit≤ tt

NoneZero-times : (ps : List (ℕ × ℤ)) → NoneZero ps → NoneZero (times (negsuc 0) ps)
NoneZero-times [] h = tt
NoneZero-times (p ∷ ps) h = ((λ e. h.0 (minus_zero p.1 e)), NoneZero-times ps h.1)
  where
    minus_zero : (z : ℤ) → negsuc 0 *ℤ z ≡ pos 0 → z ≡ pos 0
    minus_zero z e = omega (arith, ints)

AscendsFrom-times : (low : ℕ) (ps : List (ℕ × ℤ)) → AscendsFrom low ps → AscendsFrom low (times (negsuc 0) ps)
AscendsFrom-times low [] h = tt
AscendsFrom-times low (p ∷ ps) h = (h.0, AscendsFrom-times (p.0 + 1) ps h.1)

turned_normal : (t : Linear) → IsTerm t → normal_of (times (negsuc 0) t.pairs) ≡ times (negsuc 0) t.pairs
turned_normal t h = normal_of-normal (times (negsuc 0) t.pairs) (AscendsFrom-times 0 t.pairs h.normal.ascends) (NoneZero-times t.pairs h.normal.none_zero)

pub reversed_within : (t : Linear) → IsTerm t → IsWithin row_limit t → IsWithin row_limit (scaled (negsuc 0) t)
reversed_within t h w = record {
  coefficients = subst (AllBelow row_limit) (sym (turned_normal t h)) (AllBelow-times row_limit t.pairs w.coefficients);
  constant = minus_below t.rest w.constant;
}
  where
    minus_below : (z : ℤ) → IsBelow row_limit z → IsBelow row_limit (negsuc 0 *ℤ z)
    minus_below z b = omega (arith, ints)

pub reversed_difference : (t : Linear) → IsTerm t → AreDifference t.pairs → AreDifference (scaled (negsuc 0) t).pairs
reversed_difference t h d = subst AreDifference (sym (turned_normal t h)) (AreDifference-times t.pairs d)

plus_none : (r : ℤ) → pos 1 +ℤ (negsuc 0 *ℤ r) ≡ pos 1 -ℤ r
plus_none r = omega (arith, ints)

pub below_is : (t : Linear) → IsTerm t → Le (sum_of t (constant_of (pos 1))) ≡ below_zero t
below_is t h = ap (λ ps. Le (record { pairs = ps; rest = t.rest +ℤ pos 1 })) (ap normal_of (append-nil t.pairs) ∙ normal_of-normal t.pairs h.normal.ascends h.normal.none_zero)

pub above_is : (t : Linear) → IsTerm t → Le (difference_of (constant_of (pos 1)) t) ≡ above_zero t
above_is t h =
    ap (λ ps. Le (record { pairs = ps; rest = pos 1 +ℤ (negsuc 0 *ℤ t.rest) })) (ap normal_of (turned_normal t h) ∙ turned_normal t h)
    ∙ ap (λ r. Le (record { pairs = times (negsuc 0) t.pairs; rest = r })) (plus_none t.rest)

wider : (ps : List (ℕ × ℤ)) → AllBelow row_limit ps → AllBelow term_limit ps
wider [] h = tt
wider (p ∷ ps) h = (omega (arith, h.0, row_below_term), wider ps h.1)

within_term : (t : Linear) → IsWithin row_limit t → IsWithin term_limit t
within_term t h = record { coefficients = wider t.pairs h.coefficients; constant = omega (arith, h.constant, row_below_term) }

-- what the code makes of a copy, and that it isn't too wide
pub record IsMadeTerm (t made : Linear) : Type 0 where
  pub narrow : IsWithin row_limit made
  pub fits : IsWithin term_limit made
  pub difference : AreDifference t.pairs → AreDifference made.pairs

pub reversed_made : (t whole : Linear) → IsWithin row_limit t → (whole ≡ t) × IsTerm whole → IsMadeTerm t (scaled (negsuc 0) whole)
reversed_made t whole w copy =
    let term : IsTerm t = subst IsTerm copy.0 copy.1 in
    let is : scaled (negsuc 0) whole ≡ scaled (negsuc 0) t = ap (scaled (negsuc 0)) copy.0 in
    let narrow : IsWithin row_limit (scaled (negsuc 0) whole) = subst (IsWithin row_limit) (sym is) (reversed_within t term w) in
    record { narrow = narrow; fits = within_term (scaled (negsuc 0) whole) narrow; difference = λ d. subst (λ m. AreDifference m.pairs) (sym is) (reversed_difference t term d) }

pub below_made : (t whole one : Linear) → one ≡ constant_of (pos 1) → (whole ≡ t) × IsTerm whole → Le (sum_of whole one) ≡ below_zero t
below_made t whole one is copy =
    ap Le (ap (sum_of whole) is ∙ ap (λ w. sum_of w (constant_of (pos 1))) copy.0) ∙ below_is t (subst IsTerm copy.0 copy.1)

pub above_made : (t whole one : Linear) → one ≡ constant_of (pos 1) → (whole ≡ t) × IsTerm whole → Le (difference_of one whole) ≡ above_zero t
above_made t whole one is copy =
    ap Le (ap (λ o. difference_of o whole) is ∙ ap (difference_of (constant_of (pos 1))) copy.0) ∙ above_is t (subst IsTerm copy.0 copy.1)

-- a row that is ready isn't too wide
pub ready_fits : (t : Linear) (c : Claim) → Le t ≡ c → IsReady c → IsWithin term_limit t
ready_fits t c e h = within_term t (subst IsReady (sym e) h)
