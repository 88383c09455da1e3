-- What the induction keeps of each session, and how the session's own acts keep it.
use Rattle.std.proofs.Common.{◌≡◌, ℕ, ◌<◌, Bool, true, false, eqb, ◌||◌, List, [], ◌∷◌, ◌++◌, length, ℤ, refl, subst, ⊎_elim}
use Rattle.std.specs.Prelude.{Option, Some, None, slice_get}
use Rattle.std.proofs.lemmas.Bool.{eqb-true, or_cases}
use Rattle.std.proofs.lemmas.Option.{same_Some}
use Rattle.carol_store.specs.Kinds.{CellValue}
use Rattle.carol_store.specs.Stores.{IsStore}
use Rattle.carol_program.specs.Rules.{Rules, OpRules}
use Rattle.carol_program.specs.Scenes.{IsValidScene, IsPlanOf, IsCommandOf, AreArgumentsOf}
use Rattle.carol_program.specs.Variables.{number_of_args}
use Rattle.carol_program.specs.declared.scenes.Command.{Command}
use Rattle.carol_program.specs.declared.scenes.Scene.{Scene}
use Rattle.carol_program.specs.declared.scenes.SessionPlan.{SessionPlan}
use Rattle.carol_reading.specs.Good.{Meet}
use Rattle.carol_reading.specs.Marks.{Mark, Asked, Issued, Released, Returned}
use Rattle.carol_reading.specs.Readings.{Reads}
use Rattle.carol_reading.specs.Rounds.{IsSound, IsProper, GuardsIn}
use Rattle.carol_reading.proofs.Following.{stops}
use Rattle.carol_event.specs.declared.event.Cause.{Cause}
use Rattle.carol_event.specs.declared.event.Event.{Event}
use Rattle.carol_history.specs.Acts.{Act, Granted, Did, Refused, Next, EachLive, acts, attempt, has_grant, marks, place}
use Rattle.carol_history.proofs.Actors.{at_place}
use Rattle.carol_simulation.proofs.Marks.{EndsRound, proper_asked, proper_ended}

-- ---- live queries

-- what two properties of each live query give
pub live_both : (P Q R : ℕ → List CellValue → Type 0) → ((guard : ℕ) (store : List CellValue) → P guard store → Q guard store → R guard store) → (done : List Act) → EachLive P done → EachLive Q done → EachLive R done
live_both P Q R h [] a b = tt
live_both P Q R h (Granted guard ∷ done) a b = live_both P Q R h done a b
live_both P Q R h (Did (Asked guard store) ∷ done) a b = (h guard store a.0 b.0, live_both P Q R h done a.1 b.1)
live_both P Q R h (Did (Issued effect) ∷ done) a b = tt
live_both P Q R h (Did Released ∷ done) a b = tt
live_both P Q R h (Did (Returned value) ∷ done) a b = tt
live_both P Q R h (Refused cause ∷ done) a b = tt

-- ---- one session

-- what its guards are true of, with this global store
abbrev pub Stand : Rules → List CellValue → List Act → Type 0
Stand p there done = EachLive (λ guard here. GuardsIn (slice_get p.guards guard) here there) done

-- a live query has a live grant of its guard, and took a store of the shape
abbrev pub Backed : Rules → List Act → Type 0
Backed p done = EachLive (λ guard here. (has_grant guard done ≡ true) × IsStore p.shape here) done

-- the stores of the rounds that are over: with them the attempt is proper, whatever sound store the
-- open round has in which the live queries stand
pub record Ready (p : Rules) (done : List Act) : Type 0 where
  pub ended : List (List CellValue)
  pub proper : (current : List CellValue) → IsSound p current → Stand p current done → IsProper p (marks (attempt done)) ended current

-- the command's operation reads the attempt
pub record IsReadBy (p : Rules) (command : Command) (before : List Mark) : Type 0 where
  pub op : OpRules
  pub found : slice_get p.ops command.op ≡ Some op
  pub reads : Reads p.shape op.body (number_of_args command.args) before

-- the session with these acts, where `Settled replica guard` says that all entries are held there
-- or within the guard, and the global store is the second one
pub record Session (p : Rules) (scene : Scene) (Settled : ℕ → ℕ → Type 0) (there : List CellValue) (session : ℕ) (done : List Act) : Type 0 where
  pub granted : (plan : SessionPlan) (guard : ℕ) → slice_get scene.sessions session ≡ Some plan → has_grant guard done ≡ true → (guard < length p.guards) × Settled plan.replica guard
  pub backed : Backed p done
  pub stand : Stand p there done
  pub ready : Ready p done
  pub reading : (plan : SessionPlan) (command : Command) → slice_get scene.sessions session ≡ Some plan → slice_get plan.commands (place scene.tries done).command ≡ Some command → IsReadBy p command (marks (attempt done))

-- ---- commands of a valid scene

-- a command that is planned has an operation, and meets its refinements
pub record IsCalled (p : Rules) (command : Command) : Type 0 where
  pub op : OpRules
  pub found : slice_get p.ops command.op ≡ Some op
  pub meet : Meet op command.args

called_in : (p : Rules) (command : Command) (o : Option OpRules) → slice_get p.ops command.op ≡ o → AreArgumentsOf o command.args → IsCalled p command
called_in p command None e h = absurd h
called_in p command (Some op) e h = record { op = op; found = e; meet = record { count = h.count; all = h.meet } }

pub called : (p : Rules) (scene : Scene) → IsValidScene p scene → (session n : ℕ) (plan : SessionPlan) (command : Command) → slice_get scene.sessions session ≡ Some plan → slice_get plan.commands n ≡ Some command → IsCalled p command
called p scene valid session n plan command planned present =
    let of_plan : IsPlanOf p scene.replicas plan = at_place (IsPlanOf p scene.replicas) scene.sessions session plan valid.sessions planned
    in let of_command : IsCommandOf p command = at_place (IsCommandOf p) plan.commands n command of_plan.1 present
    in called_in p command (slice_get p.ops command.op) refl of_command

-- so an attempt may begin
pub begins : (p : Rules) (scene : Scene) → IsValidScene p scene → (session n : ℕ) (plan : SessionPlan) (command : Command) → slice_get scene.sessions session ≡ Some plan → slice_get plan.commands n ≡ Some command → IsReadBy p command []
begins p scene valid session n plan command planned present =
    let c = called p scene valid session n plan command planned present
    in record { op = c.op; found = c.found; reads = stops p.shape c.op.body (number_of_args command.args) }

-- what is next is read by the command under way
pub reads_next : (p : Rules) (scene : Scene) (session : ℕ) (mark : Mark) (past : List Event) → Next p scene session mark past → (plan : SessionPlan) (command : Command) → slice_get scene.sessions session ≡ Some plan → slice_get plan.commands (place scene.tries (acts session past)).command ≡ Some command → IsReadBy p command (marks (attempt (acts session past)) ++ mark ∷ [])
reads_next p scene session mark past next plan command planned present =
    let same_plan : next.way.plan ≡ plan = same_Some next.way.plan plan cc
    in let there : slice_get plan.commands (place scene.tries (acts session past)).command ≡ Some next.way.command = rw same_plan at next.way.present
    in let same : next.way.command ≡ command = same_Some next.way.command command cc
    in subst (λ c. IsReadBy p c (marks (attempt (acts session past)) ++ mark ∷ [])) same (record { op = next.op; found = next.found; reads = next.reads })

-- ---- the session's own acts

module _ (p : Rules) (scene : Scene) (Settled : ℕ → ℕ → Type 0) (there : List CellValue) (session : ℕ) where
  -- a grant
  pub own_grant : (guard : ℕ) (done : List Act) → Session p scene Settled there session done → guard < length p.guards → ((plan : SessionPlan) → slice_get scene.sessions session ≡ Some plan → Settled plan.replica guard) → Session p scene Settled there session (Granted guard ∷ done)
  own_grant guard done s named all = record {
    granted = λ plan g planned has. ⊎_elim
        (λ here. let e : guard ≡ g = eqb-true guard g here in subst (λ u. (u < length p.guards) × Settled plan.replica u) e (named, all plan planned))
        (λ before. s.granted plan g planned before)
        (or_cases (eqb guard g) (has_grant g done) has);
    backed = live_both (λ g here. (has_grant g done ≡ true) × IsStore p.shape here) (λ g here. (has_grant g done ≡ true) × IsStore p.shape here) (λ g here. ((eqb guard g || has_grant g done) ≡ true) × IsStore p.shape here)
        (λ g here a b. (or_right (eqb guard g) (has_grant g done) a.0, a.1)) done s.backed s.backed;
    stand = s.stand;
    ready = record { ended = s.ready.ended; proper = s.ready.proper };
    reading = s.reading;
  }
    where
      or_right : (b c : Bool) → c ≡ true → (b || c) ≡ true
      or_right true c e = refl
      or_right false c e = e

  -- a query
  pub own_query : (guard : ℕ) (store : List CellValue) (done : List Act) → Session p scene Settled there session done → has_grant guard done ≡ true → IsStore p.shape store → GuardsIn (slice_get p.guards guard) store there → ((plan : SessionPlan) (command : Command) → slice_get scene.sessions session ≡ Some plan → slice_get plan.commands (place scene.tries done).command ≡ Some command → IsReadBy p command (marks (attempt done) ++ Asked guard store ∷ [])) → Session p scene Settled there session (Did (Asked guard store) ∷ done)
  own_query guard store done s live is stands reads = record {
    granted = s.granted;
    backed = ((live, is), s.backed);
    stand = (stands, s.stand);
    ready = record {
      ended = s.ready.ended;
      proper = λ current sound each. proper_asked p (marks (attempt done)) s.ready.ended current guard store (s.ready.proper current sound each.1) each.0;
    };
    reading = reads;
  }

-- an issue or a release; after it all may be new
pub own_end : (p : Rules) (scene : Scene) (Settled Settled' : ℕ → ℕ → Type 0) (there there' : List CellValue) (session : ℕ) (mark : Mark) → EndsRound mark → (done : List Act) → Session p scene Settled there session done → IsSound p there → ((plan : SessionPlan) (command : Command) → slice_get scene.sessions session ≡ Some plan → slice_get plan.commands (place scene.tries done).command ≡ Some command → IsReadBy p command (marks (attempt done) ++ mark ∷ [])) → Session p scene Settled' there' session (Did mark ∷ done)
own_end p scene Settled Settled' there there' session (Asked guard store) ends done s sound reads = absurd ends
own_end p scene Settled Settled' there there' session (Issued effect) ends done s sound reads = record {
  granted = λ plan guard planned has. absurd (closed has);
  backed = tt;
  stand = tt;
  ready = record {
    ended = s.ready.ended ++ there ∷ [];
    proper = λ current fine each. proper_ended p (Issued effect) tt (marks (attempt done)) s.ready.ended there current (s.ready.proper there sound s.stand) fine;
  };
  reading = reads;
}
  where
    closed : false ≡ true → ⊥
    closed e = cc
own_end p scene Settled Settled' there there' session Released ends done s sound reads = record {
  granted = λ plan guard planned has. absurd (closed has);
  backed = tt;
  stand = tt;
  ready = record {
    ended = s.ready.ended ++ there ∷ [];
    proper = λ current fine each. proper_ended p Released tt (marks (attempt done)) s.ready.ended there current (s.ready.proper there sound s.stand) fine;
  };
  reading = reads;
}
  where
    closed : false ≡ true → ⊥
    closed e = cc
own_end p scene Settled Settled' there there' session (Returned value) ends done s sound reads = absurd ends

-- a return or a refusal
module _ (p : Rules) (scene : Scene) (valid : IsValidScene p scene) (Settled : ℕ → ℕ → Type 0) (there : List CellValue) (session : ℕ) where
  pub own_return : (value : ℤ) (done : List Act) → Session p scene Settled there session (Did (Returned value) ∷ done)
  own_return value done = record {
    granted = λ plan guard planned has. absurd (closed has);
    backed = tt;
    stand = tt;
    ready = record { ended = []; proper = λ current sound each. sound };
    reading = λ plan command planned present. begins p scene valid session _ plan command planned present;
  }
    where
      closed : false ≡ true → ⊥
      closed e = cc

  pub own_refuse : (cause : Cause) (done : List Act) → Session p scene Settled there session (Refused cause ∷ done)
  own_refuse cause done = record {
    granted = λ plan guard planned has. absurd (closed has);
    backed = tt;
    stand = tt;
    ready = record { ended = []; proper = λ current sound each. sound };
    reading = λ plan command planned present. begins p scene valid session _ plan command planned present;
  }
    where
      closed : false ≡ true → ⊥
      closed e = cc

  -- no act yet
  pub own_start : Session p scene Settled there session []
  own_start = record {
    granted = λ plan guard planned has. absurd (closed has);
    backed = tt;
    stand = tt;
    ready = record { ended = []; proper = λ current sound each. sound };
    reading = λ plan command planned present. begins p scene valid session _ plan command planned present;
  }
    where
      closed : false ≡ true → ⊥
      closed e = cc
