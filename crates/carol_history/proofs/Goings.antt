-- What events make of live grants, what a session goes on with, and how many commands are done.
use Rattle.std.proofs.Common.{◌≡◌, ℕ, ◌+◌, Bool, true, false, cond, eqb, ◌&&◌, ◌||◌, List, [], ◌∷◌, ◌++◌, length, ℤ, refl, length-append, inl, inr, arith}
use Rattle.std.specs.Prelude.{not}
use Rattle.std.proofs.lemmas.Option.{slice_get_cases, slice_get_within}
use Rattle.carol_store.specs.Stores.{apply}
use Rattle.carol_store.proofs.Actions.{act_all-append}
use Rattle.carol_program.specs.Rules.{Rules}
use Rattle.carol_program.specs.Scenes.{IsValidScene}
use Rattle.carol_program.specs.declared.scenes.Scene.{Scene}
use Rattle.carol_reading.specs.Marks.{Asked, Issued, Released, Returned}
use Rattle.carol_event.specs.declared.event.Cause.{Cause}
use Rattle.carol_event.specs.declared.event.Event.{Event}
use Rattle.carol_event.specs.declared.event.Event.TheVariants.{Deliver, Cut, Join}
use Rattle.carol_reading.specs.declared.outcome.Outcome.{Outcome}
use Rattle.carol_reading.specs.declared.outcome.Outcome.TheVariants as outcome
use Rattle.carol_history.specs.Acts.{Act, Granted, Did, Refused, Place, acts, has_grant, place, UnderWay}
use Rattle.carol_history.specs.Journals.{journal}
use Rattle.carol_history.specs.Laws.{DoneIsNoneUnderWay, ForcedIsLegal, GlobalGrows, LiveAfter, PlaceIsBehind}
use Rattle.carol_history.specs.Results.{AreDone, outcomes}
use Rattle.carol_history.proofs.Actors.{home_is_there}

-- ---- live grants

granted_at : (b c : Bool) (guard g : ℕ) (done : List Act) → c ≡ eqb g guard → has_grant guard (cond b (Granted g ∷ done) done) ≡ ((b && c) || has_grant guard done)
granted_at true c guard g done e = rw e refl
granted_at false c guard g done e = refl

queried_at : (b : Bool) (guard g : ℕ) (store : List ℤ) (done : List Act) → has_grant guard (cond b (Did (Asked g store) ∷ done) done) ≡ has_grant guard done
queried_at true guard g store done = refl
queried_at false guard g store done = refl

-- an act that leaves no grant live
closed_at : (b : Bool) (guard : ℕ) (act : Act) (done : List Act) → has_grant guard (act ∷ done) ≡ false → has_grant guard (cond b (act ∷ done) done) ≡ (not b && has_grant guard done)
closed_at true guard act done e = e
closed_at false guard act done e = refl

pub live_after : (past : List Event) → LiveAfter past
live_after past = record {
  granted = λ s g session guard. granted_at (eqb s session) (eqb g guard) guard g (acts session past) refl;
  queried = λ s g store session guard. queried_at (eqb s session) guard g store (acts session past);
  issued = λ s entry effect session guard. closed_at (eqb s session) guard (Did (Issued effect)) (acts session past) refl;
  released = λ s session guard. closed_at (eqb s session) guard (Did Released) (acts session past) refl;
  returned = λ s value session guard. closed_at (eqb s session) guard (Did (Returned value)) (acts session past) refl;
  refused = λ s cause session guard. closed_at (eqb s session) guard (Refused cause) (acts session past) refl;
}

-- ---- the global store

pub global_grows : (p : Rules) (past : List Event) → GlobalGrows p past
global_grows p past session entry effect = act_all-append (apply p.shape) (journal past) (effect ∷ []) p.initial

-- ---- what a session goes on with

pub forced_is_legal : (p : Rules) (scene : Scene) (past : List Event) → IsValidScene p scene → ForcedIsLegal p scene past
forced_is_legal p scene past valid session (Deliver source target entry) f = record {
  from = f.from;
  to = rw f.home (home_is_there p scene valid session past f.missing.next.way);
  linked = f.linked;
  held = f.held;
  lacking = rw f.home f.missing.lacking;
}
forced_is_legal p scene past valid session (Cut a b) f = absurd f.0
forced_is_legal p scene past valid session (Join a b) f = absurd f.0
forced_is_legal p scene past valid session event f = f.1

-- ---- how many commands are done

refused_at : (b : Bool) (cause : Cause) (before : List Outcome) (at : Place) → length before ≡ at.command → length (cond b (before ++ outcome.Refused cause ∷ []) before) ≡ (cond {A = Place} b (record { command = at.command + 1; refusals = 0 }) (record { command = at.command; refusals = at.refusals + 1 })).command
refused_at true cause before at e = omega (arith, length-append before (outcome.Refused cause ∷ []))
refused_at false cause before at e = e

pub place_is_behind : PlaceIsBehind
place_is_behind tries [] = refl
place_is_behind tries (Did (Returned value) ∷ done) = omega (arith, length-append (outcomes tries done) (outcome.Value value ∷ []), place_is_behind tries done)
place_is_behind tries (Refused cause ∷ done) = refused_at (eqb ((place tries done).refusals + 1) tries) cause (outcomes tries done) (place tries done) (place_is_behind tries done)
place_is_behind tries (act ∷ done) = place_is_behind tries done

pub done_is_none_under_way : (scene : Scene) (past : List Event) → DoneIsNoneUnderWay scene past
done_is_none_under_way scene past = (done, none)
  where
    done : AreDone scene past → (session : ℕ) → UnderWay scene session past → ⊥
    done all session way =
        let here = slice_get_within way.plan.commands (place scene.tries (acts session past)).command way.command way.present
        in let enough = all session way.plan way.planned
        in absurd (omega (arith, place_is_behind scene.tries (acts session past)))

    none : ((session : ℕ) → UnderWay scene session past → ⊥) → AreDone scene past
    none nobody session plan planned = elim (slice_get_cases plan.commands (place scene.tries (acts session past)).command).1 [
      | inl found ↦ absurd (nobody session (record { plan = plan; command = found.0; planned = planned; present = found.2 }))
      | inr over ↦ omega (arith, over.0, place_is_behind scene.tries (acts session past))
    ]
