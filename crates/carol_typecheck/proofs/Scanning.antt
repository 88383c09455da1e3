-- The verdict on formulas that are decided one after another, or in pieces.
use Rattle.std.proofs.Common.{◌≡◌, ◌<◌, ℕ, zero, suc, Result, Ok, Err, List, [], ◌∷◌, ◌++◌, length, take, drop, map, refl, sym, ◌∙◌, ap, subst, arith, Bor}
use Rattle.std.specs.Prelude.{IfOk, flat_map, max}
use Rattle.std.specs.List.{All, AllByRecursion, AllZip}
use Rattle.std.specs.declared.alloc.AllocError.{AllocError}
use Rattle.std.proofs.lemmas.List.{map-append}
use Rattle.std.proofs.lemmas.List.Elements.{All-cons, All-nil}
use Rattle.rayon.specs.Lists.{chunks_from, chunks_of}
use Rattle.rayon.proofs.ListFacts.{IfOk-then}
use Rattle.rayon.proofs.ToStd.{chunks_of-concat}
use Rattle.carol_formula.specs.Claim.{Claim}
use Rattle.carol_formula.specs.Tree.{claim_of}
use Rattle.carol_program.specs.declared.places.Place.{Place}
use Rattle.carol_obligation.specs.Budget.{IsDecidable}
use Rattle.carol_obligation.specs.Listed.{owed_of, owed_in}
use Rattle.carol_obligation.specs.declared.list.Obligation.{Obligation}
use Rattle.carol_typecheck.specs.declared.verdict.Verdict.{Verdict}
use Rattle.carol_typecheck.specs.declared.verdict.Verdict.TheVariants.{Good, Fails, Undecided}
use Rattle.carol_obligation.specs.Keeping.{AreDecidable}
use Rattle.carol_typecheck.specs.Deciding.{IsJudged, first_of}
use Rattle.carol_typecheck.specs.Formulas.{IsVerdictOn}
use Rattle.carol_typecheck.proofs.Lists.{first-append}
use Rattle.carol_typecheck.proofs.Settling.{verdict_rest}

-- ---- one after another

-- these are left of all, and the verdict on them is that on all
pub record Judging (all left : List Obligation) : Type 0 where
  pub told : (v : Verdict) → IsVerdictOn (owed_in left) v → IsVerdictOn (owed_in all) v
  pub decidable : AreDecidable left

pub judging_end : (all left : List Obligation) → Judging all left → length left ≡ 0 → IsVerdictOn (owed_in all) Good
judging_end all [] j none = j.told Good tt
judging_end all (o ∷ left) j none = absurd (omega arith)

pub judging_more : (all left more : List Obligation) (o : Obligation) (v : Verdict) → left ≡ o ∷ more → v ≡ Good → IsJudged o v → Judging all left → Judging all more
judging_more all left more o v is good judged before =
    let h = subst (Judging all) is before in
    let proved = subst (IsJudged o) good judged in
    record {
      told = λ w told. h.told w (verdict_rest (owed_of o ∷ []) (owed_in more) w proved told);
      decidable = h.decidable.1;
    }

-- what stands against the first stands against all
verdict_ahead : (list more : List (Place × Claim)) (v : Verdict) → (v ≡ Good → ⊥) → IsVerdictOn list v → IsVerdictOn (list ++ more) v
verdict_ahead list more Good other told = absurd (other refl)
verdict_ahead list more (Fails place at) other told = first-append _ _ list more told
verdict_ahead list more (Undecided place why) other told = first-append _ _ list more told

pub judging_found : (all left more : List Obligation) (o : Obligation) (v : Verdict) → left ≡ o ∷ more → (v ≡ Good → ⊥) → IsJudged o v → Judging all left → IsVerdictOn (owed_in all) v
judging_found all left more o v is other judged before =
    let h = subst (Judging all) is before in
    h.told v (verdict_ahead (owed_of o ∷ []) (owed_in more) v other judged)

-- ---- in pieces

all-take : {A : Type 0} (P : A → Type 0) (n : ℕ) (xs : List A) → AllByRecursion P xs → AllByRecursion P (take n xs)
all-take P zero xs h = tt
all-take P (suc n) [] h = tt
all-take P (suc n) (x ∷ xs) h = (h.0, all-take P n xs h.1)

all-drop : {A : Type 0} (P : A → Type 0) (n : ℕ) (xs : List A) → AllByRecursion P xs → AllByRecursion P (drop n xs)
all-drop P zero xs h = h
all-drop P (suc n) [] h = tt
all-drop P (suc n) (x ∷ xs) h = all-drop P n xs h.1

all_in-chunks : {A : Type 0} (P : A → Type 0) (fuel size : ℕ) (xs : List A) → AllByRecursion P xs → All (AllByRecursion P) (chunks_from fuel size xs)
all_in-chunks P zero size xs h = All-nil (AllByRecursion P)
all_in-chunks P (suc n) size [] h = All-nil (AllByRecursion P)
all_in-chunks P (suc n) size (x ∷ xs) h =
    All-cons (AllByRecursion P) (take size (x ∷ xs)) (chunks_from n size (drop size (x ∷ xs))) (all-take P size (x ∷ xs) h)
    (all_in-chunks P n size (drop size (x ∷ xs)) (all-drop P size (x ∷ xs) h))

pub decidable_pieces : (size : ℕ) (inside all : List Obligation) → inside ≡ all → AreDecidable all → All AreDecidable (chunks_of size inside)
decidable_pieces size inside all is h =
    all_in-chunks (λ o. IsDecidable (claim_of o.formula)) (length inside) size inside (subst AreDecidable (sym is) h)

-- the pieces side by side
abbrev joined : List (Bor (List Obligation)) → List Obligation
joined pieces = flat_map (λ list. list) (map (λ (piece : Bor (List Obligation)). piece.now) pieces)

abbrev IsToldOf : Bor (List Obligation) → Result Verdict AllocError → Type 0
IsToldOf piece answer = IfOk answer (IsVerdictOn (owed_in piece.now))

told_of_pieces : (pieces : List (Bor (List Obligation))) (answers : List (Result Verdict AllocError)) → AllZip IsToldOf pieces answers → IfOk (first_of answers) (IsVerdictOn (owed_in (joined pieces)))
told_of_pieces [] [] h = tt
told_of_pieces [] (answer ∷ answers) h = absurd h
told_of_pieces (piece ∷ pieces) [] h = absurd h
told_of_pieces (piece ∷ pieces) (Ok Good ∷ answers) h =
    IfOk-then (first_of answers) _ _ (told_of_pieces pieces answers h.1)
    (λ v told. subst (λ list. IsVerdictOn list v) (sym (map-append owed_of piece.now (joined pieces))) (verdict_rest (owed_in piece.now) (owed_in (joined pieces)) v h.0 told))
told_of_pieces (piece ∷ pieces) (Ok (Fails place at) ∷ answers) h =
    subst (λ list. IsVerdictOn list (Fails place at)) (sym (map-append owed_of piece.now (joined pieces))) (first-append _ _ (owed_in piece.now) (owed_in (joined pieces)) h.0)
told_of_pieces (piece ∷ pieces) (Ok (Undecided place why) ∷ answers) h =
    subst (λ list. IsVerdictOn list (Undecided place why)) (sym (map-append owed_of piece.now (joined pieces))) (first-append _ _ (owed_in piece.now) (owed_in (joined pieces)) h.0)
told_of_pieces (piece ∷ pieces) (Err e ∷ answers) h = tt

pub told_of_all : (size : ℕ) (inside all : List Obligation) (pieces : List (Bor (List Obligation))) (kept answers : List (Result Verdict AllocError)) (result : Result Verdict AllocError) → inside ≡ all → map (λ (piece : Bor (List Obligation)). piece.now) pieces ≡ chunks_of (max size 1) inside → AllZip IsToldOf pieces answers → kept ≡ answers → result ≡ first_of kept → IfOk result (IsVerdictOn (owed_in all))
told_of_all size inside all pieces kept answers result is cut told same first =
    let some : 0 < max size 1 = omega arith in
    let whole = ap (flat_map (λ list. list)) cut ∙ chunks_of-concat (max size 1) inside some ∙ is in
    subst (λ r. IfOk r (IsVerdictOn (owed_in all))) (sym (first ∙ ap first_of same))
    (subst (λ list. IfOk (first_of answers) (IsVerdictOn (owed_in list))) whole (told_of_pieces pieces answers told))

-- the first of the answers is that of those that are left, of which there are so many
pub record Scanning (answers left : List (Result Verdict AllocError)) (count : ℕ) : Type 0 where
  pub same : first_of left ≡ first_of answers
  pub many : length left ≡ count

-- ---- a batch

pub verdict_as : (now inside slice : List Obligation) (r : Result Verdict AllocError) → slice ≡ inside → inside ≡ now → IfOk r (IsVerdictOn (owed_in slice)) → IfOk r (IsVerdictOn (owed_in now))
verdict_as now inside slice r is view told = subst (λ list. IfOk r (IsVerdictOn (owed_in list))) (is ∙ view) told
