-- What a house keeps of its sessions, after each kind of event.
use Rattle.std.proofs.Common.{◌≡◌, ℕ, true, false, eqb, List, ◌∷◌, set, refl, sym, subst, ◌∙◌, inl, inr}
use Rattle.std.specs.Prelude.{Some, slice_get}
use Rattle.std.proofs.lemmas.Bool.{cases_eq, eq-eqb, ne_eqb}
use Rattle.std.proofs.lemmas.Option.{same_Some, slice_get_within}
use Rattle.carol_program.specs.declared.scenes.Scene.{Scene}
use Rattle.carol_event.specs.declared.event.Event.{Event}
use Rattle.carol_history.specs.Acts.{Act, acts, doing}
use Rattle.carol_machine.specs.States.{SessionState, IsAt}
use Rattle.carol_house.specs.Kept.{AreMachines, IsMachineOf}
use Rattle.carol_house.proofs.Lists.{slice_get-set_same, slice_get-set_other}

-- the machine after it was fed the act
pub record IsFed (m : SessionState) (act : Act) (new : SessionState) : Type 0 where
  pub plan : new.plan ≡ m.plan
  pub tries : new.tries ≡ m.tries
  pub stands : (done : List Act) → IsAt m done → IsAt new (act ∷ done)

-- the session did this, and its machine was fed it
pub machines_own : (scene : Scene) (past : List Event) (event : Event) (session : ℕ) (act : Act) (machines : List SessionState) (m new : SessionState) → doing event ≡ Some (record { actor = session; act = act }) → AreMachines scene past machines → slice_get machines session ≡ Some m → IsFed m act new → AreMachines scene (event ∷ past) (set machines session new)
machines_own scene past event session act machines m new does all at fed s x here = elim (cases_eq session s) [
  | inl e ↦
      let hit : eqb session s ≡ true = eq-eqb session s e
      in let at_s : slice_get machines s ≡ Some m = subst (λ i. slice_get machines i ≡ Some m) e at
      in let there : slice_get (set machines session new) s ≡ Some new = subst (λ i. slice_get (set machines session new) i ≡ Some new) e (slice_get-set_same machines session new (slice_get_within machines session m at))
      in let same : new ≡ x = same_Some new x (sym there ∙ here)
      in let before : IsMachineOf scene s (acts s past) m = all s m at_s
      in let now : acts s (event ∷ past) ≡ act ∷ acts s past = rw (does, hit) refl
      in subst (λ y. IsMachineOf scene s (acts s (event ∷ past)) y) same (record {
        planned = rw fed.plan before.planned;
        tries = fed.tries ∙ before.tries;
        at = rw now (fed.stands (acts s past) before.at);
      })
  | inr apart ↦
      let miss : eqb session s ≡ false = ne_eqb session s apart
      in let before : IsMachineOf scene s (acts s past) x = all s x (sym (slice_get-set_other machines session s new apart) ∙ here)
      in let now : acts s (event ∷ past) ≡ acts s past = rw (does, miss) refl
      in record { planned = before.planned; tries = before.tries; at = rw now before.at }
]
