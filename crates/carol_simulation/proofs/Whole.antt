-- The induction over a history, and what follows from what it keeps.
use Rattle.std.proofs.Common.{◌≡◌, ℕ, ◌≤◌, true, List, [], ◌∷◌, ◌++◌, length, refl, sym, subst, ◌∙◌, length-append, arith}
use Rattle.std.proofs.lemmas.Option.{same_Some}
use Rattle.carol_store.specs.declared.effect.Atom.{Atom}
use Rattle.carol_store.specs.Laws.{EffectsCommute, StepsReach}
use Rattle.carol_store.specs.Stores.{apply_all}
use Rattle.carol_store.proofs.Chosen.{chosen_from-all}
use Rattle.carol_program.specs.Rules.{Rules}
use Rattle.carol_program.specs.Variables.{number_of_args}
use Rattle.carol_program.specs.declared.scenes.Scene.{Scene}
use Rattle.carol_reading.specs.Good.{Meet}
use Rattle.carol_reading.specs.Marks.{Mark, Asked, Issued, Released, Returned}
use Rattle.carol_event.specs.declared.event.Event.{Event}
use Rattle.carol_event.specs.declared.event.Event.TheVariants.{Grant, Query, Issue, Release, Return, Refuse, Deliver, Cut, Join}
use Rattle.carol_history.specs.Acts.{Next, UnderWay, acts, attempt, marks}
use Rattle.carol_history.specs.Journals.{journal, is_held, global}
use Rattle.carol_history.specs.Laws.{FewStayLow, IsLow, OrdersAgree, ReplicasAgree, StaysLow}
use Rattle.carol_history.specs.Runs.{Run}
use Rattle.carol_history.specs.Sequential.{Sequential}
use Rattle.carol_simulation.specs.Upheld.{AllAnswer, AttemptsAreRead, GoesOn, HasReading, MayRun, MeetsNoFault, RunsUphold, StaysWithin, Upheld}
use Rattle.carol_simulation.proofs.Marks.{attempt_not_returned, follows, issued_ascends}
use Rattle.carol_simulation.proofs.Sessions.{called}
use Rattle.carol_simulation.proofs.Steps.{Kept, is_good, is_reading, is_sound, kept_cut, kept_deliver, kept_grant, kept_issue, kept_join, kept_query, kept_refuse, kept_release, kept_return, kept_start}

-- what holds of all stores, effects and histories
pub record AreLaws : Type 0 where
  pub commute : EffectsCommute
  pub reach : StepsReach
  pub orders : OrdersAgree
  pub agree : (p : Rules) (scene : Scene) (past : List Event) → Run p scene past → ReplicasAgree p scene past
  pub low : FewStayLow

module _ (laws : AreLaws) (p : Rules) (scene : Scene) (may : MayRun p scene) where
  kept : (past : List Event) → Run p scene past → Kept p scene past
  kept [] run = kept_start p scene may
  kept (Grant session guard ∷ past) run = kept_grant p scene may session guard past run.0 (kept past run.1)
  kept (Query session guard store ∷ past) run = kept_query p scene may laws.commute laws.reach laws.orders session guard store past run.1 run.0 (kept past run.1)
  kept (Issue session entry effect ∷ past) run = kept_issue p scene may laws.reach session entry effect past run.0 (kept past run.1)
  kept (Release session ∷ past) run = kept_release p scene may session past run.0 (kept past run.1)
  kept (Return session value ∷ past) run = kept_return p scene may session value past (kept past run.1)
  kept (Refuse session cause ∷ past) run = kept_refuse p scene may session cause past (kept past run.1)
  kept (Deliver source target entry ∷ past) run = kept_deliver p scene may source target entry past (kept past run.1)
  kept (Cut a b ∷ past) run = kept_cut p scene may a b past (kept past run.1)
  kept (Join a b ∷ past) run = kept_join p scene may a b past (kept past run.1)

  -- a command under way reads its attempt, with the stores of its rounds and the global store
  pub has_reading : (past : List Event) → Run p scene past → (session : ℕ) (way : UnderWay scene session past) → HasReading p way.command session past
  has_reading past run session way =
      let k = kept past run
      in let s = k.each session
      in let r = s.reading way.plan way.command way.planned way.present
      in let c = called p scene may.valid session _ way.plan way.command way.planned way.present
      in let same : c.op ≡ r.op = same_Some c.op r.op (sym c.found ∙ r.found)
      in record {
        op = r.op;
        found = r.found;
        ended = s.ready.ended;
        reading = record {
          meet = subst (λ o. Meet o way.command.args) same c.meet;
          reads = r.reads;
          proper = s.ready.proper (global p past) (is_sound p scene may past k) s.stand;
        };
        goes_on = attempt_not_returned (acts session past);
      }

  sequential : (past : List Event) → Run p scene past → Sequential p scene past
  sequential [] run = tt
  sequential (Issue session entry effect ∷ past) run =
      let k = kept past run.1
      in (record { next = run.0.next; invariant = k.invariant; stand = (k.each session).stand }, sequential past run.1)
  sequential (Release session ∷ past) run =
      let k = kept past run.1
      in (record { next = run.0; invariant = k.invariant; stand = (k.each session).stand }, sequential past run.1)
  sequential (Return session value ∷ past) run =
      let k = kept past run.1
      in (record { next = run.0; invariant = k.invariant; stand = (k.each session).stand }, sequential past run.1)
  sequential (event ∷ past) run = (tt, sequential past run.1)

  within : (past : List Event) → Run p scene past → (session : ℕ) (mark : Mark) (next : Next p scene session mark past) → StaysWithin p scene session past mark next
  within past run session (Issued effect) next =
      let k = kept past run
      in let good = is_good p scene may session (Issued effect) past next
      in let reading = is_reading p scene may session (Issued effect) past k next
      in (
        (
          issued_ascends p.shape next.op.body (number_of_args next.way.command.args) (marks (attempt (acts session past))) effect next.reads,
          good.fits next.way.command.args (marks (attempt (acts session past))) effect (k.each session).ready.ended (global p past) reading next.reads,
        ),
        good.keeps next.way.command.args (marks (attempt (acts session past))) effect (k.each session).ready.ended (global p past) reading next.reads,
      )
  within past run session (Returned value) next =
      let k = kept past run
      in (is_good p scene may session (Returned value) past next).answers next.way.command.args (marks (attempt (acts session past))) value (k.each session).ready.ended (global p past) (is_reading p scene may session (Returned value) past k next) next.reads
  within past run session (Asked guard store) next = tt
  within past run session Released next = tt

  all_answer : (past : List Event) → Run p scene past → AllAnswer p scene past
  all_answer [] run = tt
  all_answer (Return session value ∷ past) run = (record { next = run.0; meets = within past run.1 session (Returned value) run.0 }, all_answer past run.1)
  all_answer (event ∷ past) run = all_answer past run.1

  pub goes_on : (past : List Event) → Run p scene past → (session : ℕ) → UnderWay scene session past → GoesOn p scene session past
  goes_on past run session way =
      let r = ((kept past run).each session).reading way.plan way.command way.planned way.present
      in let next = follows p.shape r.op.body (number_of_args way.command.args) p.initial may.rules.store (marks (attempt (acts session past))) r.reads (attempt_not_returned (acts session past))
      in record { mark = next.0; next = record { way = way; op = r.op; found = r.found; reads = next.1 } }

  no_fault : (past : List Event) → Run p scene past → length past ≤ 131_072 → MeetsNoFault p scene past
  no_fault past run few =
      let low : StaysLow p past = laws.low p past may.rules.store may.rules.start (kept past run).effects few
      in record {
        goes_on = goes_on past run;
        within = within past run;
        effects = (kept past run).effects;
        answers = all_answer past run;
        low = low;
        local_low = λ replica. subst IsLow (sym (laws.orders p scene past run replica)) (low.low (λ entry. is_held scene.sessions replica entry past));
        global_low = subst (λ (es : List (List Atom)). IsLow (apply_all p.shape es p.initial)) (chosen_from-all (λ entry. true) 0 (journal past) (λ i above below. refl)) (low.low (λ entry. true));
      }

  upheld : (past : List Event) → Run p scene past → length past ≤ 131_072 → Upheld p scene past
  upheld past run few =
      let k = kept past run
      in record {
        granted = λ session guard plan planned live. ((k.each session).granted plan guard planned live).1;
        stand = λ session. (k.each session).stand;
        invariant = k.invariant;
        sequential = sequential past run;
        agree = laws.agree p scene past run;
        no_fault = no_fault past run few;
      }

-- each prefix of a run is a run
run_before : (p : Rules) (scene : Scene) (later past : List Event) → Run p scene (later ++ past) → Run p scene past
run_before p scene [] past run = run
run_before p scene (event ∷ later) past run = run_before p scene later past run.1

pub runs_uphold : AreLaws → RunsUphold
runs_uphold laws p scene later past may run few =
    upheld laws p scene may past (run_before p scene later past run) (omega (arith, length-append later past))

pub attempts_are_read : AreLaws → AttemptsAreRead
attempts_are_read laws p scene past may run session way = has_reading laws p scene may past run session way
