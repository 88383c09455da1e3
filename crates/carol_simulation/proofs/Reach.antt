-- Where no replicas are cut, each entry is within reach.
use Rattle.std.proofs.Common.{◌≡◌, ℕ, ◌<◌, Bool, true, false, eqb, ◌||◌, List, [], ◌∷◌, length, refl, sym, subst, ◌∙◌, inl, inr, length-append, arith}
use Rattle.std.proofs.lemmas.Bool.{cases_Bool, cases_lt, eq-eqb, ne_eqb}
use Rattle.carol_program.specs.Rules.{Rules}
use Rattle.carol_program.specs.Scenes.{IsValidScene}
use Rattle.carol_program.specs.declared.scenes.Scene.{Scene}
use Rattle.carol_event.specs.declared.event.Cause.TheVariants.{Behind}
use Rattle.carol_event.specs.declared.event.Event.{Event}
use Rattle.carol_event.specs.declared.event.Event.TheVariants.{Issue, Refuse, Deliver, Cut, Join}
use Rattle.carol_history.specs.Bounds.{HasNoCut}
use Rattle.carol_history.specs.Journals.{journal, is_held}
use Rattle.carol_history.specs.Legal.{MayRefuseBehind}
use Rattle.carol_history.specs.Links.{is_joined, is_linked, is_pair}
use Rattle.carol_history.specs.Runs.{Run}
use Rattle.carol_history.proofs.Actors.{home_is_there, is_home}
use Rattle.carol_simulation.specs.Laws.{NobodyIsBehind}

all_joined : (one other : ℕ) (past : List Event) → HasNoCut past → is_joined one other past ≡ true
all_joined one other [] uncut = refl
all_joined one other (Cut a b ∷ past) uncut = absurd uncut
all_joined one other (Join a b ∷ past) uncut = elim (cases_Bool (is_pair a b one other)) [
  | inl these ↦ rw these refl
  | inr others ↦ rw others (all_joined one other past uncut)
]
all_joined one other (event ∷ past) uncut = all_joined one other past uncut

-- some replica holds the entry
pub record HasHolder (scene : Scene) (entry : ℕ) (past : List Event) : Type 0 where
  pub replica : ℕ
  pub there : replica < scene.replicas
  pub holds : is_held scene.sessions replica entry past ≡ true

or_right : (b c : Bool) → c ≡ true → (b || c) ≡ true
or_right true c e = refl
or_right false c e = e

or_left : (b c : Bool) → b ≡ true → (b || c) ≡ true
or_left true c e = refl
or_left false c e = cc

holder : (p : Rules) (scene : Scene) → IsValidScene p scene → (past : List Event) → Run p scene past → (entry : ℕ) → entry < length (journal past) → HasHolder scene entry past
holder p scene valid [] run entry inside = absurd (omega arith)
holder p scene valid (Issue session i effect ∷ past) run entry inside = elim (cases_lt entry (length (journal past))) [
  | inl old ↦
      let h = holder p scene valid past run.1 entry old
      in record { replica = h.replica; there = h.there; holds = or_right _ (is_held scene.sessions h.replica entry past) h.holds }
  | inr new ↦
      let last : i ≡ entry = omega (arith, run.0.number, length-append (journal past) (effect ∷ []))
      in let hit : eqb i entry ≡ true = eq-eqb i entry last
      in let home = is_home scene session past run.0.next.way
      in record {
        replica = run.0.next.way.plan.replica;
        there = home_is_there p scene valid session past run.0.next.way;
        holds = or_left _ (is_held scene.sessions run.0.next.way.plan.replica entry past) (rw (hit, home) refl);
      }
]
holder p scene valid (Deliver source target i ∷ past) run entry inside =
    let h = holder p scene valid past run.1 entry inside
    in record { replica = h.replica; there = h.there; holds = or_right _ (is_held scene.sessions h.replica entry past) h.holds }
holder p scene valid (event ∷ past) run entry inside =
    let h = holder p scene valid past run.1 entry inside
    in record { replica = h.replica; there = h.there; holds = h.holds }

not_behind : (p : Rules) (scene : Scene) → IsValidScene p scene → (session entry : ℕ) (past : List Event) → Run p scene past → HasNoCut past → MayRefuseBehind p scene session entry past → ⊥
not_behind p scene valid session entry past run uncut behind =
    let home : ℕ = behind.missing.next.way.plan.replica
    in let h = holder p scene valid past run entry behind.missing.inside
    in let apart : eqb h.replica home ≡ false = ne_eqb h.replica home (λ e. clash (sym (subst (λ r. is_held scene.sessions r entry past ≡ true) e h.holds) ∙ behind.missing.lacking))
    in let joined : is_joined h.replica home past ≡ true = all_joined h.replica home past uncut
    in let linked : is_linked h.replica home past ≡ true = rw (apart, joined) refl
    in clash (sym h.holds ∙ behind.nowhere h.replica h.there linked)
  where
    clash : true ≡ false → ⊥
    clash e = cc

pub nobody_is_behind : NobodyIsBehind
nobody_is_behind p scene [] valid run uncut = tt
nobody_is_behind p scene (Refuse session (Behind entry) ∷ past) valid run uncut = not_behind p scene valid session entry past run.1 uncut run.0
nobody_is_behind p scene (Cut a b ∷ past) valid run uncut = absurd uncut
nobody_is_behind p scene (event ∷ past) valid run uncut = nobody_is_behind p scene past valid run.1 uncut
