-- The tables of a history without events.
use Rattle.std.proofs.Common.{◌≡◌, ℕ, ◌<◌, true, false, List, [], length, map, refl, sym, subst, ◌∙◌, ap, arith}
use Rattle.std.specs.Prelude.{Option, Some, None, slice_get}
use Rattle.std.specs.Option.{option_map}
use Rattle.std.proofs.lemmas.List.{length-map}
use Rattle.std.proofs.lemmas.Option.{same_Some, slice_get-map}
use Rattle.carol_program.specs.Accords.{Accords}
use Rattle.carol_program.specs.Limits.{most_guards, most_replicas}
use Rattle.carol_program.specs.Rules.{Rules}
use Rattle.carol_program.specs.Scenes.{IsValidScene}
use Rattle.carol_program.specs.WellFormed.{AreRules}
use Rattle.carol_program.specs.declared.scenes.Scene.{Scene}
use Rattle.carol_program.specs.declared.scenes.SessionPlan.{SessionPlan}
use Rattle.carol_holding.specs.Held.{holds}
use Rattle.carol_replica.specs.Stored.{local_at}
use Rattle.carol_grant.specs.Grants.{is_granted}
use Rattle.carol_machine.specs.States.{IsAt, SessionState, state_of}
use Rattle.carol_house.specs.declared.tables.Tables.{Tables}
use Rattle.carol_house.specs.Kept.{AreMachines, AreTables, IsMachineOf, are_joined, settled_below}
use Rattle.carol_house.proofs.Lists.{get_or-replicate}

-- each machine stands at the start
start_at : (plan : SessionPlan) (tries : ℕ) → IsAt (state_of plan tries) []
start_at plan tries = record {
  place = refl;
  stores = refl;
  count = refl;
  live = λ guard. get_or-replicate most_guards guard false;
  results = refl;
}

machines_start : (scene : Scene) (machines : List SessionState) → machines ≡ map (λ plan. state_of plan scene.tries) scene.sessions → AreMachines scene [] machines
machines_start scene machines is session m at = of_plan (slice_get scene.sessions session) refl (sym (slice_get-map (λ plan. state_of plan scene.tries) scene.sessions session) ∙ (rw is at at))
  where
    of_plan : (o : Option SessionPlan) → slice_get scene.sessions session ≡ o → option_map (λ plan. state_of plan scene.tries) o ≡ Some m → IsMachineOf scene session [] m
    of_plan None e none = absurd (clash none)
      where
        clash : None ≡ Some m → ⊥
        clash q = cc
    of_plan (Some plan) e some =
        let same : state_of plan scene.tries ≡ m = same_Some (state_of plan scene.tries) m some
        in subst (λ x. IsMachineOf scene session [] x) same (record { planned = e; tries = refl; at = start_at plan scene.tries })

-- what the new tables are to be
pub record AreNew (p : Rules) (accords : Accords) (scene : Scene) (t : Tables) : Type 0 where
  pub machines : t.machines.items ≡ map (λ plan. state_of plan scene.tries) scene.sessions
  pub grants : (s g : ℕ) → is_granted t.grants s g ≡ false
  pub grants_each : length t.grants.live ≡ length scene.sessions
  pub table : t.grants.accords ≡ accords
  pub holding : (r i : ℕ) → holds t.holding r i ≡ false
  pub holding_each : length t.holding.replicas ≡ scene.replicas
  pub journal : t.journal.entries ≡ []
  pub locals : (r : ℕ) → r < scene.replicas → local_at t.replicas r ≡ p.initial
  pub locals_each : length t.replicas.locals ≡ scene.replicas
  pub global : t.replicas.global ≡ p.initial
  pub joined : (a b : ℕ) → a < most_replicas → b < most_replicas → are_joined t.links a b ≡ true
  pub settled : (r g : ℕ) → r < most_replicas → g < most_guards → settled_below t.settled r g ≡ 0

pub tables_start : (p : Rules) (accords : Accords) (scene : Scene) (t : Tables) → AreRules p → IsValidScene p scene → AreNew p accords scene t → AreTables p accords scene [] t
tables_start p accords scene t rules valid new = record {
  machines = machines_start scene t.machines.items new.machines;
  machine_each = ap length new.machines ∙ length-map scene.sessions (λ plan. state_of plan scene.tries);
  grants = new.grants;
  grants_each = new.grants_each;
  table = new.table;
  holding = new.holding;
  holding_each = new.holding_each;
  journal = new.journal;
  locals = new.locals;
  locals_each = new.locals_each;
  global = new.global;
  joined = new.joined;
  settled = λ r g there named.
      let none : settled_below t.settled r g ≡ 0 = new.settled r g (omega (arith, valid.few_replicas)) (omega (arith, rules.few_guards))
      in (omega arith, λ entry below. absurd (omega arith));
}
