-- Whose act an event is, and where a session stands.
use Rattle.std.proofs.Common.{◌≡◌, ◌≢◌, ℕ, zero, suc, ◌<◌, true, false, eqb, List, [], ◌∷◌, length, refl, sym, subst, inl, inr}
use Rattle.std.specs.Prelude.{Some, None, slice_get}
use Rattle.std.specs.List.{AllByRecursion}
use Rattle.std.proofs.lemmas.Bool.{cases_eq, eq-eqb, ne_eqb}
use Rattle.std.proofs.lemmas.Option.{same_Some, slice_get_within}
use Rattle.carol_program.specs.Rules.{Rules}
use Rattle.carol_program.specs.Scenes.{IsPlanOf, IsValidScene}
use Rattle.carol_program.specs.declared.scenes.Scene.{Scene}
use Rattle.carol_event.specs.declared.event.Event.{Event}
use Rattle.carol_history.specs.Acts.{Act, UnderWay, acts, with_act}
use Rattle.carol_history.specs.Journals.{is_at}

-- what holds of the actor with the act, and of the others without it, holds of each session
pub at_actor : (Q : ℕ → List Act → Type 0) (actor session : ℕ) (act : Act) (past : List Event) → (session ≢ actor → Q session (acts session past)) → Q actor (act ∷ acts actor past) → Q session (with_act session (Some (record { actor = actor; act = act })) (acts session past))
at_actor Q actor session act past other own = elim (cases_eq actor session) [
  | inl e ↦
      let hit : eqb actor session ≡ true = eq-eqb actor session e
      in rw hit (subst (λ u. Q u (act ∷ acts u past)) e own)
  | inr ne ↦
      let miss : eqb actor session ≡ false = ne_eqb actor session ne
      in rw miss (other (λ q. ne (sym q)))
]

-- what holds of each element holds of the one at a place
pub at_place : {X : Type 0} (P : X → Type 0) (xs : List X) (i : ℕ) (x : X) → AllByRecursion P xs → slice_get xs i ≡ Some x → P x
at_place P [] i x all at = absurd (none at)
  where
    none : None ≡ Some x → ⊥
    none e = cc
at_place P (y ∷ ys) zero x all at = subst P (same_Some y x at) all.0
at_place P (y ∷ ys) (suc i) x all at = at_place P ys i x all.1 at

-- a session with a command under way is there, stands at its plan's replica, and this is there too
pub is_there : (scene : Scene) (session : ℕ) (past : List Event) → UnderWay scene session past → session < length scene.sessions
is_there scene session past way = slice_get_within scene.sessions session way.plan way.planned

pub is_home : (scene : Scene) (session : ℕ) (past : List Event) (way : UnderWay scene session past) → is_at scene.sessions session way.plan.replica ≡ true
is_home scene session past way = rw way.planned (eq-eqb way.plan.replica way.plan.replica refl)

pub home_is_there : (p : Rules) (scene : Scene) → IsValidScene p scene → (session : ℕ) (past : List Event) (way : UnderWay scene session past) → way.plan.replica < scene.replicas
home_is_there p scene valid session past way = (at_place (IsPlanOf p scene.replicas) scene.sessions session way.plan valid.sessions way.planned).0
