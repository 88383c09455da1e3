-- One event after another.
use Rattle.std.proofs.Common.{◌≡◌, ℕ, ◌<◌, ◌≤◌, List, [], ◌∷◌, length, ℤ, length-append, arith}
use Rattle.std.specs.Prelude.{Some, unsigned_abs, slice_get}
use Rattle.std.specs.List.{AllByRecursion}
use Rattle.std.specs.Int.{w64}
use Rattle.std.proofs.lemmas.Int.{fits_signed_from_abs}
use Rattle.carol_store.specs.Effects.{IsEffect}
use Rattle.carol_store.specs.Stores.{AreWords, IsStore}
use Rattle.carol_program.specs.Limits.{largest_literal}
use Rattle.carol_program.specs.Rules.{Rules, OpRules}
use Rattle.carol_program.specs.Scenes.{AreArguments, AreArgumentsOf, IsCommandOf, IsPlanOf, IsValidScene}
use Rattle.carol_program.specs.Variables.{number_of_args}
use Rattle.carol_program.specs.WellFormed.{IsOpOver, setting_of}
use Rattle.carol_program.specs.declared.scenes.Command.{Command}
use Rattle.carol_program.specs.declared.scenes.Scene.{Scene}
use Rattle.carol_formula.specs.Bounds.{AreNear}
use Rattle.carol_reading.specs.Marks.{Mark, Asked, Returned}
use Rattle.carol_reading.proofs.Fitting.{near-numbers}
use Rattle.carol_event.specs.declared.event.Cause.TheVariants.{Barred, Behind}
use Rattle.carol_event.specs.declared.event.Event.{Event}
use Rattle.carol_event.specs.declared.event.Event.TheVariants.{Grant, Query, Issue, Release, Return, Refuse, Deliver, Cut, Join}
use Rattle.carol_event.specs.Numbers.{ArePair, Each, HasNumbers, IsNumber, IsValue}
use Rattle.carol_history.specs.declared.history.TheConstants.{MOST_EVENTS}
use Rattle.carol_history.specs.Acts.{Next}
use Rattle.carol_history.specs.Journals.{journal}
use Rattle.carol_history.specs.Laws.{IsSessionsGuard, NamesWhatIs}
use Rattle.carol_history.specs.Legal.{Legal}
use Rattle.carol_history.specs.Runs.{Run}
use Rattle.carol_history.proofs.Actors.{at_place}
use Rattle.carol_simulation.specs.Upheld.{MayRun, RunsUphold, Upheld}
use Rattle.carol_audit.specs.Fitting.{NumbersFit}
use Rattle.carol_audit.proofs.Asked.{asked_fit}
use Rattle.carol_audit.proofs.Effects.{atoms_few, atoms_fit, last_effect, low_fit, store_short}
use Rattle.carol_audit.proofs.Marked.{MarkFits, mark_fits, value_bound}

-- what is known of all runs
pub record AreLaws : Type 0 where
  pub uphold : RunsUphold
  pub named : (p : Rules) (scene : Scene) (event : Event) (past : List Event) → Run p scene (event ∷ past) → NamesWhatIs p scene event past

-- ---- what a session leaves next

words : (args : List ℤ) → AllByRecursion (λ arg. unsigned_abs arg ≤ largest_literal) args → AreWords args
words [] h = tt
words (arg ∷ args) h = (fits_signed_from_abs w64 arg (omega (arith, h.0)), words args h.1)

small_args : (o : OpRules) (command : Command) (p : Rules) → slice_get p.ops command.op ≡ Some o → AreArgumentsOf (slice_get p.ops command.op) command.args → AreArguments o.params command.args
small_args o command p found h = rw found at h

args_near : (p : Rules) (scene : Scene) (session : ℕ) (mark : Mark) (past : List Event) → IsValidScene p scene → (next : Next p scene session mark past) → AreNear value_bound (number_of_args next.way.command.args)
args_near p scene session mark past valid next =
    let plan : IsPlanOf p scene.replicas next.way.plan = at_place (IsPlanOf p scene.replicas) scene.sessions session next.way.plan valid.sessions next.way.planned
    in let command : IsCommandOf p next.way.command = at_place (IsCommandOf p) next.way.plan.commands _ next.way.command plan.1 next.way.present
    in let args = small_args next.op next.way.command p next.found command
    in near-numbers next.way.command.args [] [] (words next.way.command.args args.small) tt

next_fits : (p : Rules) (scene : Scene) (session : ℕ) (mark : Mark) (past : List Event) → MayRun p scene → Each HasNumbers past → Next p scene session mark past → MarkFits p.shape mark
next_fits p scene session mark past may fit next =
    let op : IsOpOver p.shape (length p.guards) next.op = at_place (IsOpOver p.shape (length p.guards)) p.ops next.way.command.op next.op may.rules.ops next.found
    in mark_fits (setting_of p.shape (length p.guards) next.op) [] p.shape next.op.body (number_of_args next.way.command.args) _ mark op.body
    (args_near p scene session mark past may.valid next) (asked_fit session past fit) next.reads

-- ---- names of what is there

journal_short : (past : List Event) → length (journal past) ≤ length past
journal_short [] = omega arith
journal_short (Grant s g ∷ past) = omega (arith, journal_short past)
journal_short (Query s g x ∷ past) = omega (arith, journal_short past)
journal_short (Issue s i e ∷ past) = omega (arith, journal_short past, length-append (journal past) (e ∷ []))
journal_short (Release s ∷ past) = omega (arith, journal_short past)
journal_short (Return s v ∷ past) = omega (arith, journal_short past)
journal_short (Refuse s c ∷ past) = omega (arith, journal_short past)
journal_short (Deliver q r i ∷ past) = omega (arith, journal_short past)
journal_short (Cut a b ∷ past) = omega (arith, journal_short past)
journal_short (Join a b ∷ past) = omega (arith, journal_short past)

session_fits : (p : Rules) (scene : Scene) (session : ℕ) → MayRun p scene → session < length scene.sessions → IsNumber session
session_fits p scene session may h = omega (arith, h, may.valid.few_sessions)

guard_fits : (p : Rules) (scene : Scene) (session guard : ℕ) → MayRun p scene → IsSessionsGuard p scene session guard → ArePair session guard
guard_fits p scene session guard may h = (session_fits p scene session may h.0, omega (arith, h.1, may.rules.few_guards))

entry_fits : (past : List Event) (entry : ℕ) → length past ≤ MOST_EVENTS → entry ≤ length (journal past) → IsNumber entry
entry_fits past entry few h = omega (arith, h, few, journal_short past)

replica_fits : (p : Rules) (scene : Scene) (replica : ℕ) → MayRun p scene → replica < scene.replicas → IsNumber replica
replica_fits p scene replica may h = omega (arith, h, may.valid.few_replicas)

-- ---- events

module _ (p : Rules) (scene : Scene) (past : List Event) (may : MayRun p scene) (few : length past ≤ MOST_EVENTS) (fit : Each HasNumbers past) (before : Upheld p scene past) where
  event_fits : (event : Event) → Legal p scene event past → NamesWhatIs p scene event past → AllByRecursion (IsEffect p.shape) (journal (event ∷ past)) → HasNumbers event
  event_fits (Grant session guard) legal named effects = guard_fits p scene session guard may named
  event_fits (Query session guard store) legal named effects =
      let low : Each IsValue store = rw legal.seen (low_fit _ (before.no_fault.local_low legal.next.way.plan.replica))
      in let is : IsStore p.shape store = next_fits p scene session (Asked guard store) past may fit legal.next
      in (guard_fits p scene session guard may named, low, omega (arith, store_short p.shape store is, may.rules.few_cells))
  event_fits (Issue session entry effect) legal named effects =
      let is : IsEffect p.shape effect = last_effect p.shape (journal past) effect effects
      in (
        (session_fits p scene session may named.0, entry_fits past entry few (omega (arith, named.1))),
        atoms_fit p.shape effect (omega (arith, may.rules.few_cells)) is.1,
        omega (arith, atoms_few p.shape effect is, may.rules.few_cells),
      )
  event_fits (Release session) legal named effects = session_fits p scene session may named
  event_fits (Return session value) legal named effects = (session_fits p scene session may named, next_fits p scene session (Returned value) past may fit legal)
  event_fits (Refuse session (Barred holder guard)) legal named effects = (session_fits p scene session may named.0, guard_fits p scene holder guard may named.1)
  event_fits (Refuse session (Behind entry)) legal named effects = (session_fits p scene session may named.0, entry_fits past entry few (omega (arith, named.1)))
  event_fits (Deliver source target entry) legal named effects =
      (replica_fits p scene source may named.0, (replica_fits p scene target may named.1, entry_fits past entry few (omega (arith, named.2))))
  event_fits (Cut a b) legal named effects = (replica_fits p scene a may named.0, replica_fits p scene b may named.1)
  event_fits (Join a b) legal named effects = (replica_fits p scene a may named.0, replica_fits p scene b may named.1)

events_fit : AreLaws → (p : Rules) (scene : Scene) (past : List Event) → MayRun p scene → Run p scene past → length past ≤ MOST_EVENTS → Each HasNumbers past
events_fit laws p scene [] may run few = tt
events_fit laws p scene (event ∷ past) may run few =
    let rest = events_fit laws p scene past may run.1 (omega arith)
    in let before : Upheld p scene past = laws.uphold p scene (event ∷ []) past may run few
    in let after : Upheld p scene (event ∷ past) = laws.uphold p scene [] (event ∷ past) may run few
    in (event_fits p scene past may (omega arith) rest before event run.0 (laws.named p scene event past run) after.no_fault.effects, rest)

pub numbers_fit : AreLaws → NumbersFit
numbers_fit laws = events_fit laws
