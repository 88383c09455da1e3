-- Where each act brings a session.
use Rattle.std.proofs.Common.{◌≡◌, ℕ, zero, suc, ◌+◌, ◌<◌, Bool, true, false, eqb, ◌||◌, List, [], ◌∷◌, ◌++◌, length, length-append, get_or, get_or-set_same, get_or-set_other, set, replicate, refl, sym, ap, ◌∙◌, subst, inl, inr, arith}
use Rattle.std.specs.Prelude.{ℤ, if◌then◌else◌}
use Rattle.std.proofs.lemmas.Bool.{cases_eq, eq-eqb, ne_eqb}
use Rattle.std.proofs.lemmas.List.{append-nil}
use Rattle.carol_store.specs.Kinds.{CellValue}
use Rattle.carol_reading.specs.Marks.{Mark, Asked, Issued, Released, Returned, queried}
use Rattle.carol_program.specs.Limits.{most_guards}
use Rattle.carol_program.specs.declared.scenes.SessionPlan.{SessionPlan}
use Rattle.carol_event.specs.declared.event.Cause.{Cause}
use Rattle.carol_reading.specs.declared.outcome.Outcome.{Outcome}
use Rattle.carol_reading.specs.declared.outcome.Outcome.TheVariants as outcome
use Rattle.carol_history.specs.Acts.{Act, Granted, Did, Refused, Place, attempt, has_grant, marks, place}
use Rattle.carol_history.specs.Results.{outcomes}
use Rattle.carol_machine.specs.declared.fed.Fed.TheVariants as fed
use Rattle.carol_machine.specs.Feeds.{IsActOf, with_attempt, with_close, with_grant, with_outcome, with_refusal, with_store}
use Rattle.carol_machine.specs.States.{SessionState, IsAt, state_of}
use Rattle.carol_machine.proofs.Counting.{queried-append}

-- ---- live grants

none_live : (n guard : ℕ) → get_or (replicate n false) guard false ≡ false
none_live zero guard = refl
none_live (suc n) zero = refl
none_live (suc n) (suc guard) = none_live n guard

one_more_live : (live : List Bool) (guard g : ℕ) → guard < length live → get_or (set live guard true) g false ≡ (eqb guard g || get_or live g false)
one_more_live live guard g low = elim (cases_eq guard g) [
  | inl same ↦
      let hit : eqb guard g ≡ true = eq-eqb guard g same
      in rw hit (subst (λ (k : ℕ). get_or (set live guard true) k false ≡ true) same (get_or-set_same live guard true false low))
  | inr apart ↦
      let miss : eqb guard g ≡ false = ne_eqb guard g apart
      in rw miss (get_or-set_other live guard g true false (λ e. apart (sym e)))
]

-- one mark more is one statement more
counts : (before : List Mark) (mark : Mark) (n : ℕ) → n ≡ length before → n + 1 ≡ length (before ++ mark ∷ [])
counts before mark n e = omega (arith, e, length-append before (mark ∷ []))

-- ---- one act more

pub starts : (plan : SessionPlan) (tries : ℕ) → IsAt (state_of plan tries) []
starts plan tries = record { place = refl; stores = refl; count = refl; live = λ guard. none_live most_guards guard; results = refl }

pub granted : (m : SessionState) (guard : ℕ) → guard < length m.live → (act : Act) (done : List Act) → IsActOf (fed.Granted guard) act → IsAt m done → IsAt (with_grant guard m) (act ∷ done)
granted m guard low (Granted g) done e at = record {
  place = at.place;
  stores = at.stores;
  count = at.count;
  live = λ h. one_more_live m.live guard h low ∙ ap (λ (b : Bool). eqb guard h || b) (at.live h) ∙ ap (λ (k : ℕ). eqb k h || has_grant h done) (sym e);
  results = at.results;
}
granted m guard low (Did mark) done e at = absurd e
granted m guard low (Refused cause) done e at = absurd e

pub queried_one : (m : SessionState) (store : List CellValue) (act : Act) (done : List Act) → IsActOf (fed.Queried store) act → IsAt m done → IsAt (with_store store m) (act ∷ done)
queried_one m store (Did (Asked g x)) done e at = record {
  place = at.place;
  stores = ap (λ (xs : List (List CellValue)). xs ++ store ∷ []) at.stores ∙ ap (λ (y : List CellValue). queried (marks (attempt done)) ++ y ∷ []) (sym e) ∙ sym (queried-append (marks (attempt done)) (Asked g x ∷ []));
  count = counts (marks (attempt done)) (Asked g x) m.walk.done at.count;
  live = at.live;
  results = at.results;
}
queried_one m store (Did (Issued effect)) done e at = absurd e
queried_one m store (Did Released) done e at = absurd e
queried_one m store (Did (Returned value)) done e at = absurd e
queried_one m store (Granted g) done e at = absurd e
queried_one m store (Refused cause) done e at = absurd e

pub issued : (m : SessionState) (act : Act) (done : List Act) → IsActOf fed.Issued act → IsAt m done → IsAt (with_close m) (act ∷ done)
issued m (Did (Asked g x)) done e at = absurd e
issued m (Did (Issued effect)) done e at = record {
  place = at.place;
  stores = at.stores ∙ sym (queried-append (marks (attempt done)) (Issued effect ∷ []) ∙ append-nil (queried (marks (attempt done))));
  count = counts (marks (attempt done)) (Issued effect) m.walk.done at.count;
  live = λ guard. none_live most_guards guard;
  results = at.results;
}
issued m (Did Released) done e at = absurd e
issued m (Did (Returned value)) done e at = absurd e
issued m (Granted g) done e at = absurd e
issued m (Refused cause) done e at = absurd e

pub released : (m : SessionState) (act : Act) (done : List Act) → IsActOf fed.Released act → IsAt m done → IsAt (with_close m) (act ∷ done)
released m (Did (Asked g x)) done e at = absurd e
released m (Did (Issued effect)) done e at = absurd e
released m (Did Released) done e at = record {
  place = at.place;
  stores = at.stores ∙ sym (queried-append (marks (attempt done)) (Released ∷ []) ∙ append-nil (queried (marks (attempt done))));
  count = counts (marks (attempt done)) Released m.walk.done at.count;
  live = λ guard. none_live most_guards guard;
  results = at.results;
}
released m (Did (Returned value)) done e at = absurd e
released m (Granted g) done e at = absurd e
released m (Refused cause) done e at = absurd e

pub returned : (m : SessionState) (value : ℤ) (act : Act) (done : List Act) → IsActOf (fed.Returned value) act → IsAt m done → IsAt (with_outcome (outcome.Value value) m) (act ∷ done)
returned m value (Did (Asked g x)) done e at = absurd e
returned m value (Did (Issued effect)) done e at = absurd e
returned m value (Did Released) done e at = absurd e
returned m value (Did (Returned v)) done e at = record {
  place = ap (λ (at : Place). record { command = at.command + 1; refusals = 0 }) at.place;
  stores = refl;
  count = refl;
  live = λ guard. none_live most_guards guard;
  results = ap (λ (xs : List Outcome). xs ++ outcome.Value value ∷ []) at.results ∙ ap (λ (u : ℤ). outcomes m.tries done ++ outcome.Value u ∷ []) (sym e);
}
returned m value (Granted g) done e at = absurd e
returned m value (Refused cause) done e at = absurd e

-- a refusal, by whether it is the last that the command may have
refused_by : (b : Bool) (m : SessionState) (cause : Cause) (done : List Act) → IsAt m done → eqb (m.at.refusals + 1) m.tries ≡ b → IsAt (if b then with_outcome (outcome.Refused cause) m else with_attempt (m.at.refusals + 1) m) (Refused cause ∷ done)
refused_by true m cause done at last =
    let last_there : eqb ((place m.tries done).refusals + 1) m.tries ≡ true = subst (λ (at : Place). eqb (at.refusals + 1) m.tries ≡ true) at.place last
    in record {
      place = ap (λ (at : Place). record { command = at.command + 1; refusals = 0 }) at.place ∙ rw last_there refl;
      stores = refl;
      count = refl;
      live = λ guard. none_live most_guards guard;
      results = ap (λ (xs : List Outcome). xs ++ outcome.Refused cause ∷ []) at.results ∙ rw last_there refl;
    }
refused_by false m cause done at last =
    let last_there : eqb ((place m.tries done).refusals + 1) m.tries ≡ false = subst (λ (at : Place). eqb (at.refusals + 1) m.tries ≡ false) at.place last
    in record {
      place = ap (λ (at : Place). record { command = at.command; refusals = at.refusals + 1 }) at.place ∙ rw last_there refl;
      stores = refl;
      count = refl;
      live = λ guard. none_live most_guards guard;
      results = at.results ∙ rw last_there refl;
    }

pub refused : (m : SessionState) (cause : Cause) (act : Act) (done : List Act) → IsActOf (fed.Refused cause) act → IsAt m done → IsAt (with_refusal cause m) (act ∷ done)
refused m cause (Granted g) done e at = absurd e
refused m cause (Did mark) done e at = absurd e
refused m cause (Refused c) done e at = subst (λ (c : Cause). IsAt (with_refusal cause m) (Refused c ∷ done)) (sym e) (refused_by (eqb (m.at.refusals + 1) m.tries) m cause done at refl)
