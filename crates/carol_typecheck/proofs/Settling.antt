-- What is known of all that was taken, as more is taken and batches are decided.
use Rattle.std.proofs.Common.{◌≡◌, Bool, false, Result, Ok, Err, List, [], ◌∷◌, ◌++◌, refl, sym, ◌∙◌, ap, subst}
use Rattle.std.specs.Prelude.{◌↔◌, IsTrue, IfOk}
use Rattle.std.specs.List.{AllByRecursion}
use Rattle.std.specs.declared.alloc.AllocError.{AllocError}
use Rattle.std.proofs.lemmas.Bool.{false≢true}
use Rattle.std.proofs.lemmas.List.{append-nil, append_assoc, map-append}
use Rattle.carol_formula.specs.Claim.{Claim}
use Rattle.carol_program.specs.declared.places.Place.{Place}
use Rattle.carol_obligation.specs.Listed.{owed_of, owed_in}
use Rattle.carol_obligation.specs.declared.list.Obligation.{Obligation}
use Rattle.carol_typecheck.specs.declared.verdict.Verdict.{Verdict}
use Rattle.carol_typecheck.specs.declared.verdict.Verdict.TheVariants.{Good, Fails, Undecided}
use Rattle.carol_typecheck.specs.Deciding.{AwaitsRest, IsFoundSoFar}
use Rattle.carol_typecheck.specs.Formulas.{IsProved, IsVerdictOn}
use Rattle.carol_obligation.proofs.Each.{all-append}
use Rattle.carol_typecheck.proofs.Lists.{first-append, first_behind}

-- ---- what is found

-- behind proved formulas
pub verdict_rest : (judged rest : List (Place × Claim)) (v : Verdict) → AllByRecursion IsProved judged → IsVerdictOn rest v → IsVerdictOn (judged ++ rest) v
verdict_rest judged rest Good proved told = all-append IsProved judged rest proved told
verdict_rest judged rest (Fails place at) proved told = first_behind _ _ judged rest proved told
verdict_rest judged rest (Undecided place why) proved told = first_behind _ _ judged rest proved told

-- the verdict on those that wait is that on all
pub settled : (waiting : List Obligation) (taken : List (Place × Claim)) (v : Verdict) → AwaitsRest waiting taken → IsVerdictOn (owed_in waiting) v → IsVerdictOn taken v
settled waiting taken v awaits told = subst (λ list. IsVerdictOn list v) awaits.whole (verdict_rest awaits.judged (owed_in waiting) v awaits.proved told)

-- one more waits
pub awaits_more : (waiting more : List Obligation) (taken : List (Place × Claim)) (o : Obligation) → more ≡ waiting ++ o ∷ [] → AwaitsRest waiting taken → AwaitsRest more (taken ++ owed_of o ∷ [])
awaits_more waiting more taken o is awaits = record {
  judged = awaits.judged;
  proved = awaits.proved;
  whole = ap (λ list. awaits.judged ++ owed_in list) is ∙ ap (λ list. awaits.judged ++ list) (map-append owed_of waiting (o ∷ [])) ∙ sym (append_assoc awaits.judged (owed_in waiting) (owed_of o ∷ [])) ∙ ap (λ list. list ++ owed_of o ∷ []) awaits.whole;
}

-- nothing waits any more
pub found_verdict : (v : Verdict) (waiting : List Obligation) (taken : List (Place × Claim)) → waiting ≡ [] → IsVerdictOn taken v → IsFoundSoFar v waiting taken
found_verdict Good waiting taken none told = record { judged = taken; proved = told; whole = ap (λ list. taken ++ owed_in list) none ∙ append-nil taken }
found_verdict (Fails place at) waiting taken none told = told
found_verdict (Undecided place why) waiting taken none told = told

-- what stands against the program stays
pub found_stays : (v : Verdict) (waiting : List Obligation) (taken more : List (Place × Claim)) → (v ≡ Good → ⊥) → IsFoundSoFar v waiting taken → IsFoundSoFar v waiting (taken ++ more)
found_stays Good waiting taken more other found = absurd (other refl)
found_stays (Fails place at) waiting taken more other found = first-append _ _ taken more found
found_stays (Undecided place why) waiting taken more other found = first-append _ _ taken more found

pub found_awaits : (v : Verdict) (waiting : List Obligation) (taken : List (Place × Claim)) → v ≡ Good → IsFoundSoFar v waiting taken → AwaitsRest waiting taken
found_awaits v waiting taken e found = subst (λ w. IsFoundSoFar w waiting taken) e found

-- ---- the decider

pub not_good : (b : Bool) (v : Verdict) → IsTrue b ↔ (v ≡ Good) → b ≡ false → v ≡ Good → ⊥
not_good b v is e good = false≢true (sym e ∙ is.1 good)

pub decided_rest : (r : Result Verdict AllocError) (v : Verdict) (waiting : List Obligation) → v ≡ Good → IfOk r (IsVerdictOn (owed_in waiting)) → IfOk r (λ w. (taken : List (Place × Claim)) → IsFoundSoFar v waiting taken → IsVerdictOn taken w)
decided_rest (Ok w) v waiting good told = λ taken found. settled waiting taken w (found_awaits v waiting taken good found) told
decided_rest (Err e) v waiting good told = tt

pub taken_full : (old new : Verdict) (waiting more none : List Obligation) (o : Obligation) → old ≡ Good → more ≡ waiting ++ o ∷ [] → IsVerdictOn (owed_in more) new → none ≡ [] → (taken : List (Place × Claim)) → IsFoundSoFar old waiting taken → IsFoundSoFar new none (taken ++ owed_of o ∷ [])
taken_full old new waiting more none o good is told cleared taken found =
    found_verdict new none (taken ++ owed_of o ∷ []) cleared
    (settled more (taken ++ owed_of o ∷ []) new (awaits_more waiting more taken o is (found_awaits old waiting taken good found)) told)

pub found_none : (v : Verdict) (waiting : List Obligation) → v ≡ Good → waiting ≡ [] → IsFoundSoFar v waiting []
found_none v waiting good none = found_verdict v waiting [] none (subst (IsVerdictOn []) (sym good) tt)

pub verdict_all : (r : Result Verdict AllocError) (v : Verdict) (waiting : List Obligation) (taken : List (Place × Claim)) → IsFoundSoFar v waiting taken → IfOk r (λ w. (all : List (Place × Claim)) → IsFoundSoFar v waiting all → IsVerdictOn all w) → IfOk r (IsVerdictOn taken)
verdict_all (Ok w) v waiting taken found told = told taken found
verdict_all (Err e) v waiting taken found told = tt

-- ---- one at a time

-- behind proved formulas this one is decided
pub judged_next : (old new : Verdict) (o : Obligation) → old ≡ Good → IsVerdictOn (owed_of o ∷ []) new → (taken : List (Place × Claim)) → IsVerdictOn taken old → IsVerdictOn (taken ++ owed_of o ∷ []) new
judged_next old new o good told taken before = verdict_rest taken (owed_of o ∷ []) new (subst (IsVerdictOn taken) good before) told

-- what stands against one of them stays
pub judged_stays : (v : Verdict) (more : List (Place × Claim)) → (v ≡ Good → ⊥) → (taken : List (Place × Claim)) → IsVerdictOn taken v → IsVerdictOn (taken ++ more) v
judged_stays Good more other taken told = absurd (other refl)
judged_stays (Fails place at) more other taken told = first-append _ _ taken more told
judged_stays (Undecided place why) more other taken told = first-append _ _ taken more told
