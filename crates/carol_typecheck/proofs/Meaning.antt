-- What the verdict on the formulas of operations' places says of the operations.
use Rattle.std.proofs.Common.{ℕ, ◌+◌, Result, Ok, Err, List, [], ◌∷◌, sym, ◌∙◌, subst}
use Rattle.std.specs.Prelude.{ℤ, IfOk, map}
use Rattle.std.specs.List.{AllByRecursion}
use Rattle.std.specs.declared.alloc.AllocError.{AllocError}
use Rattle.std.proofs.lemmas.Bool.{false≢true}
use Rattle.carol_formula.specs.Numbers.{number_at}
use Rattle.carol_program.specs.declared.places.Place.{Place}
use Rattle.carol_program.specs.Rules.{Rules, OpRules}
use Rattle.carol_program.specs.WellFormed.{AreRules}
use Rattle.carol_reading.specs.Good.{IsGood}
use Rattle.carol_obligation.specs.Places.{obligations_from, sites_of}
use Rattle.carol_obligation.specs.Spots.{Spot, spot_at, spots_from}
use Rattle.carol_obligation.proofs.Each.{all-append, all-first, all-second, all-map, all_from-map, all_both}
use Rattle.carol_obligation.proofs.Encoded.{safe-good}
use Rattle.carol_obligation.proofs.Guarded.{good-safe}
use Rattle.carol_obligation.proofs.Spots.{AreOver, IsExactAt, all_exact, obligations_from-spots, owed_at}
use Rattle.carol_decide.specs.declared.answer.Why.{Why}
use Rattle.carol_typecheck.specs.declared.verdict.Verdict.{Verdict}
use Rattle.carol_typecheck.specs.declared.verdict.Verdict.TheVariants.{Good, Fails, Undecided}
use Rattle.carol_typecheck.specs.Formulas.{IsProved, IsRefuted, IsLeft, IsVerdictOn}
use Rattle.carol_typecheck.specs.Readings.{AreAllGood, IsSafe, IsBroken, IsDoubtful, IsVerdictOver, IsFailure}
use Rattle.carol_typecheck.proofs.Lists.{all_as, first_as, first_none}

-- ---- one place

safe_proved : (p : Rules) (s : Spot) → IsExactAt p s → IsProved (owed_at p s) → IsSafe p s
safe_proved p s exact proved f breach = false≢true (sym ((exact f).1 breach) ∙ proved f)

broken_refuted : (p : Rules) (place : Place) (f : ℕ → ℤ) (s : Spot) → IsExactAt p s → IsRefuted place f (owed_at p s) → IsBroken p place f s
broken_refuted p place f s exact refuted = (refuted.0, (exact f).0 refuted.1)

doubtful_left : (p : Rules) (place : Place) (why : Why) (s : Spot) → IsExactAt p s → IsLeft place why (owed_at p s) → IsDoubtful p place why s
doubtful_left p place why s exact left = (left.0, record { exact = exact; stuck = left.1 })

-- ---- all places

good_where_safe : (p : Rules) → AreRules p → (number : ℕ) (ops : List OpRules) → AreOver p ops → AllByRecursion (IsSafe p) (spots_from p number ops) → AllByRecursion (IsGood p) ops
good_where_safe p rules number [] over safe = tt
good_where_safe p rules number (op ∷ ops) over safe =
    (safe-good p op rules over.0 (all_from-map (IsSafe p) (spot_at number op) (sites_of p op) (all-first (IsSafe p) (map (spot_at number op) (sites_of p op)) (spots_from p (number + 1) ops) safe)), good_where_safe p rules (number + 1) ops over.1 (all-second (IsSafe p) (map (spot_at number op) (sites_of p op)) (spots_from p (number + 1) ops) safe))

safe_where_good : (p : Rules) (number : ℕ) (ops : List OpRules) → AreOver p ops → AllByRecursion (IsGood p) ops → AllByRecursion (IsSafe p) (spots_from p number ops)
safe_where_good p number [] over good = tt
safe_where_good p number (op ∷ ops) over good =
    all-append (IsSafe p) (map (spot_at number op) (sites_of p op)) (spots_from p (number + 1) ops)
    (all-map (IsSafe p) (spot_at number op) (sites_of p op) (good-safe p op good.0 over.0))
    (safe_where_good p (number + 1) ops over.1 good.1)

-- ---- the verdict

module _ (p : Rules) (rules : AreRules p) (number : ℕ) (ops : List OpRules) (over : AreOver p ops) where
  abbrev spots : List Spot
  spots = spots_from p number ops

  exact_there : AllByRecursion (IsExactAt p) spots
  exact_there = all_exact p rules number ops over

  verdict_means : (v : Verdict) → IsVerdictOn (map (owed_at p) spots) v → IsVerdictOver p number ops v
  verdict_means Good told =
      good_where_safe p rules number ops over
      (all_as (λ s. IsProved (owed_at p s)) (IsSafe p) spots (all_both (IsExactAt p) (λ s. IsProved (owed_at p s) → IsSafe p s) (safe_proved p) spots exact_there) (all_from-map IsProved (owed_at p) spots told))
  verdict_means (Fails place at) told =
      first_as (owed_at p) IsProved (IsRefuted place (number_at at)) (IsSafe p) (IsBroken p place (number_at at)) spots (all_both (IsExactAt p) _ (λ s exact. (safe_proved p s exact, broken_refuted p place (number_at at) s exact)) spots exact_there) told
  verdict_means (Undecided place why) told =
      first_as (owed_at p) IsProved (IsLeft place why) (IsSafe p) (IsDoubtful p place why) spots (all_both (IsExactAt p) _ (λ s exact. (safe_proved p s exact, doubtful_left p place why s exact)) spots exact_there) told

  fails_bad : (v : Verdict) → IsVerdictOver p number ops v → IsFailure v → AreAllGood p ops → ⊥
  fails_bad Good told failure good = failure
  fails_bad (Fails place at) told failure good =
      first_none (IsSafe p) (IsBroken p place (number_at at)) spots (all_both (IsSafe p) _ (λ s safe broken. safe (number_at at) broken.1) spots (safe_where_good p number ops over good)) told
  fails_bad (Undecided place why) told failure good = failure

  pub verdict_over : (r : Result Verdict AllocError) → IfOk r (IsVerdictOn (obligations_from p number ops)) → IfOk r (IsVerdictOver p number ops)
  verdict_over (Ok v) told = verdict_means v (subst (λ list. IsVerdictOn list v) (obligations_from-spots p number ops) told)
  verdict_over (Err e) told = tt

  pub fails_where_bad : (r : Result Verdict AllocError) → IfOk r (IsVerdictOver p number ops) → IfOk r (λ v. IsFailure v → ¬ AreAllGood p ops)
  fails_where_bad (Ok v) told = fails_bad v told
  fails_where_bad (Err e) told = tt
