-- The acts of each session of a run are paid for.
use Rattle.std.proofs.Common.{◌≡◌, ℕ, ◌≤◌, List, [], ◌∷◌, sym, subst, ◌∙◌}
use Rattle.std.specs.Prelude.{Some, slice_get}
use Rattle.std.proofs.lemmas.Option.{same_Some}
use Rattle.carol_program.specs.Rules.{Rules}
use Rattle.carol_program.specs.declared.scenes.Scene.{Scene}
use Rattle.carol_program.specs.declared.scenes.SessionPlan.{SessionPlan}
use Rattle.carol_reading.specs.Marks.{Mark, Asked, Issued, Released, Returned}
use Rattle.carol_event.specs.declared.event.Cause.TheVariants.{Barred, Behind}
use Rattle.carol_event.specs.declared.event.Event.{Event}
use Rattle.carol_event.specs.declared.event.Event.TheVariants.{Grant, Query, Issue, Release, Return, Refuse, Deliver, Cut, Join}
use Rattle.carol_history.specs.Acts.{Act, Granted, Did, Refused, Next, acts, place}
use Rattle.carol_history.specs.Runs.{Run}
use Rattle.carol_history.proofs.Actors.{at_actor}
use Rattle.carol_simulation.proofs.Tries.{NextAt, Tally, tally_barred, tally_behind, tally_grant, tally_issue, tally_query, tally_release, tally_return, tally_start}

-- what a session may leave next, at its plan
next_at : (p : Rules) (scene : Scene) (session : ℕ) (mark : Mark) (past : List Event) → Next p scene session mark past → (plan : SessionPlan) → slice_get scene.sessions session ≡ Some plan → NextAt p scene plan (acts session past) mark
next_at p scene session mark past next plan planned =
    let same : next.way.plan ≡ plan = same_Some next.way.plan plan (sym next.way.planned ∙ planned)
    in record {
      command = next.way.command;
      op = next.op;
      present = subst (λ (q : SessionPlan). slice_get q.commands (place scene.tries (acts session past)).command ≡ Some next.way.command) same next.way.present;
      found = next.found;
      reads = next.reads;
    }

-- each plan of the session's number is tallied
abbrev pub Tallied : Rules → Scene → ℕ → List Act → Type 0
Tallied p scene session done = (plan : SessionPlan) → slice_get scene.sessions session ≡ Some plan → Tally p scene plan done

pub tallied : (p : Rules) (scene : Scene) → 1 ≤ scene.tries → (past : List Event) → Run p scene past → (session : ℕ) → Tallied p scene session (acts session past)
tallied p scene some [] run session = λ plan planned. tally_start p scene plan some
tallied p scene some (Grant s guard ∷ past) run session =
    at_actor (Tallied p scene) s session (Granted guard) past (λ apart. tallied p scene some past run.1 session)
    (λ plan planned. tally_grant p scene plan (acts s past) guard run.0.store (next_at p scene s (Asked guard run.0.store) past run.0.next plan planned) run.0.fresh (tallied p scene some past run.1 s plan planned))
tallied p scene some (Query s guard store ∷ past) run session =
    at_actor (Tallied p scene) s session (Did (Asked guard store)) past (λ apart. tallied p scene some past run.1 session)
    (λ plan planned. tally_query p scene plan (acts s past) guard store (next_at p scene s (Asked guard store) past run.0.next plan planned) (tallied p scene some past run.1 s plan planned))
tallied p scene some (Issue s entry effect ∷ past) run session =
    at_actor (Tallied p scene) s session (Did (Issued effect)) past (λ apart. tallied p scene some past run.1 session)
    (λ plan planned. tally_issue p scene plan (acts s past) effect (next_at p scene s (Issued effect) past run.0.next plan planned) (tallied p scene some past run.1 s plan planned))
tallied p scene some (Release s ∷ past) run session =
    at_actor (Tallied p scene) s session (Did Released) past (λ apart. tallied p scene some past run.1 session)
    (λ plan planned. tally_release p scene plan (acts s past) (next_at p scene s Released past run.0 plan planned) (tallied p scene some past run.1 s plan planned))
tallied p scene some (Return s value ∷ past) run session =
    at_actor (Tallied p scene) s session (Did (Returned value)) past (λ apart. tallied p scene some past run.1 session)
    (λ plan planned. tally_return p scene plan (acts s past) value (next_at p scene s (Returned value) past run.0 plan planned) (tallied p scene some past run.1 s plan planned))
tallied p scene some (Refuse s (Barred holder guard) ∷ past) run session =
    at_actor (Tallied p scene) s session (Refused (Barred holder guard)) past (λ apart. tallied p scene some past run.1 session)
    (λ plan planned. tally_barred p scene plan (acts s past) run.0.effect (Barred holder guard) (next_at p scene s (Issued run.0.effect) past run.0.next plan planned) (tallied p scene some past run.1 s plan planned))
tallied p scene some (Refuse s (Behind entry) ∷ past) run session =
    at_actor (Tallied p scene) s session (Refused (Behind entry)) past (λ apart. tallied p scene some past run.1 session)
    (λ plan planned. tally_behind p scene plan (acts s past) run.0.missing.guard run.0.missing.store (Behind entry) (next_at p scene s (Asked run.0.missing.guard run.0.missing.store) past run.0.missing.next plan planned) run.0.missing.fresh (tallied p scene some past run.1 s plan planned))
tallied p scene some (Deliver source target entry ∷ past) run session = tallied p scene some past run.1 session
tallied p scene some (Cut a b ∷ past) run session = tallied p scene some past run.1 session
tallied p scene some (Join a b ∷ past) run session = tallied p scene some past run.1 session
