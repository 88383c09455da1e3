-- What the induction over a history keeps, one kind of event after another.
use Rattle.std.proofs.Common.{◌≡◌, ◌≢◌, ℕ, Bool, true, false, ◌||◌, List, [], ◌∷◌, ◌++◌, length, ℤ, get_or, refl, sym, subst, ◌∙◌, inl, inr, length-append, arith}
use Rattle.std.specs.Prelude.{◌⊎◌, Some, slice_get}
use Rattle.std.specs.List.{AllByRecursion}
use Rattle.std.proofs.lemmas.Bool.{cases_lt}
use Rattle.std.proofs.lemmas.List.{get_or_append_left, get_or_push}
use Rattle.std.proofs.lemmas.Option.{same_Some, slice_get_within, get_or_from_slice_get}
use Rattle.carol_store.specs.declared.effect.Atom.{Atom}
use Rattle.carol_store.specs.Actions.{chosen_from}
use Rattle.carol_store.specs.Effects.{IsEffect}
use Rattle.carol_store.specs.Kinds.{CellValue}
use Rattle.carol_store.specs.Laws.{EffectsCommute, StepsReach}
use Rattle.carol_store.specs.Stores.{IsStore, apply}
use Rattle.carol_store.proofs.Actions.{act_all-append}
use Rattle.carol_program.specs.Rules.{Rules}
use Rattle.carol_program.specs.Variables.{number_of_args}
use Rattle.carol_program.specs.declared.scenes.Scene.{Scene}
use Rattle.carol_program.specs.declared.scenes.SessionPlan.{SessionPlan}
use Rattle.carol_reading.specs.Good.{IsGood, IsReading, Meet}
use Rattle.carol_reading.specs.Marks.{Mark, Asked, Issued, Released, Returned}
use Rattle.carol_reading.specs.Rounds.{IsSound, GuardsIn, MeetsInvariant}
use Rattle.carol_event.specs.declared.event.Cause.{Cause}
use Rattle.carol_event.specs.declared.event.Event.{Event}
use Rattle.carol_event.specs.declared.event.Event.TheVariants.{Grant, Query, Issue, Release, Return, Refuse, Deliver, Cut, Join}
use Rattle.carol_history.specs.Acts.{Granted, Did, Refused, Next, acts, attempt, has_grant, marks}
use Rattle.carol_history.specs.Journals.{journal, is_held, global, held_store}
use Rattle.carol_history.specs.Laws.{OrdersAgree}
use Rattle.carol_history.specs.Legal.{Admits, IsSettled, IsFree, MayGrant, MayQuery, MayIssue}
use Rattle.carol_history.specs.Runs.{Run}
use Rattle.carol_history.proofs.Actors.{at_actor, at_place}
use Rattle.carol_simulation.specs.Upheld.{AllSettled, MayRun}
use Rattle.carol_simulation.proofs.Marks.{reads_before, issued_ascends}
use Rattle.carol_simulation.proofs.Queries.{admitted_keeps, chosen_to_all, store_after_all}
use Rattle.carol_simulation.proofs.Sessions.{Session, called, live_both, own_end, own_grant, own_query, own_refuse, own_return, own_start, reads_next}

-- at the replica all entries are held or within the guard
abbrev pub SettledIn : Rules → Scene → List Event → ℕ → ℕ → Type 0
SettledIn p scene past replica guard = AllSettled p scene replica guard past

pub record Kept (p : Rules) (scene : Scene) (past : List Event) : Type 0 where
  pub invariant : MeetsInvariant p (global p past)
  pub effects : AllByRecursion (IsEffect p.shape) (journal past)
  pub each : (session : ℕ) → Session p scene (SettledIn p scene past) (global p past) session (acts session past)

all_push : {X : Type 0} (P : X → Type 0) (xs : List X) (x : X) → AllByRecursion P xs → P x → AllByRecursion P (xs ++ x ∷ [])
all_push P [] x all one = (one, tt)
all_push P (y ∷ ys) x all one = (all.0, all_push P ys x all.1 one)

or_right : (b c : Bool) → c ≡ true → (b || c) ≡ true
or_right true c e = refl
or_right false c e = e

module _ (p : Rules) (scene : Scene) (may : MayRun p scene) where
  pub is_global : (past : List Event) → IsStore p.shape (global p past)
  is_global past = store_after_all p.shape (journal past) p.initial may.rules.store

  pub is_sound : (past : List Event) → Kept p scene past → IsSound p (global p past)
  is_sound past kept = record { shaped = is_global past; invariant = kept.invariant }

  -- ---- what is next is a reading of a good operation

  pub is_good : (session : ℕ) (mark : Mark) (past : List Event) (next : Next p scene session mark past) → IsGood p next.op
  is_good session mark past next = at_place (IsGood p) p.ops next.way.command.op next.op may.accepted.good next.found

  pub is_reading : (session : ℕ) (mark : Mark) (past : List Event) (kept : Kept p scene past) (next : Next p scene session mark past) → IsReading p next.op next.way.command.args (marks (attempt (acts session past))) (kept.each session).ready.ended (global p past)
  is_reading session mark past kept next =
      let c = called p scene may.valid session _ next.way.plan next.way.command next.way.planned next.way.present
      in let same : c.op ≡ next.op = same_Some c.op next.op (sym c.found ∙ next.found)
      in record {
        meet = subst (λ o. Meet o next.way.command.args) same c.meet;
        reads = reads_before p.shape next.op.body (number_of_args next.way.command.args) (marks (attempt (acts session past))) mark next.reads;
        proper = (kept.each session).ready.proper (global p past) (is_sound past kept) (kept.each session).stand;
      }

  -- ---- no event, and the events of sessions

  pub kept_start : Kept p scene []
  kept_start = record {
    invariant = may.accepted.initial;
    effects = tt;
    each = λ session. own_start p scene may.valid (SettledIn p scene []) p.initial session;
  }

  pub kept_grant : (session guard : ℕ) (past : List Event) → MayGrant p scene session guard past → Kept p scene past → Kept p scene (Grant session guard ∷ past)
  kept_grant session guard past grant kept = record {
    invariant = kept.invariant;
    effects = kept.effects;
    each = λ other. at_actor (Session p scene (SettledIn p scene past) (global p past)) session other (Granted guard) past
        (λ apart. kept.each other)
        (own_grant p scene (SettledIn p scene past) (global p past) session guard (acts session past) (kept.each session) grant.named settled);
  }
    where
      settled : (plan : SessionPlan) → slice_get scene.sessions session ≡ Some plan → AllSettled p scene plan.replica guard past
      settled plan planned =
          let same : grant.next.way.plan ≡ plan = same_Some grant.next.way.plan plan (sym grant.next.way.planned ∙ planned)
          in subst (λ (q : SessionPlan). AllSettled p scene q.replica guard past) same grant.settled

  pub kept_query : EffectsCommute → StepsReach → OrdersAgree → (session guard : ℕ) (store : List CellValue) (past : List Event) → Run p scene past → MayQuery p scene session guard store past → Kept p scene past → Kept p scene (Query session guard store ∷ past)
  kept_query commute reach orders session guard store past run query kept = record {
    invariant = kept.invariant;
    effects = kept.effects;
    each = λ other. at_actor (Session p scene (SettledIn p scene past) (global p past)) session other (Did (Asked guard store)) past
        (λ apart. kept.each other)
        (own_query p scene (SettledIn p scene past) (global p past) session guard store (acts session past) (kept.each session) query.live is_store stands
        (reads_next p scene session (Asked guard store) past query.next));
  }
    where
      same : store ≡ held_store p scene query.next.way.plan.replica past
      same = query.seen ∙ orders p scene past run query.next.way.plan.replica

      is_store : IsStore p.shape store
      is_store = subst (IsStore p.shape) (sym same) (store_after_all p.shape (chosen_from (λ entry. is_held scene.sessions query.next.way.plan.replica entry past) 0 (journal past)) p.initial may.rules.store)

      each : (i : ℕ) (effect : List Atom) → slice_get (journal past) i ≡ Some effect → (is_held scene.sessions query.next.way.plan.replica i past ≡ true) ⊎ Admits p guard effect
      each i effect at =
          subst (λ e. (is_held scene.sessions query.next.way.plan.replica i past ≡ true) ⊎ Admits p guard e) (get_or_from_slice_get (journal past) i effect [] at)
          (((kept.each session).granted query.next.way.plan guard query.next.way.planned query.live).1 i (slice_get_within (journal past) i effect at))

      stands : GuardsIn (slice_get p.guards guard) store (global p past)
      stands = subst (λ x. GuardsIn (slice_get p.guards guard) x (global p past)) (sym same)
          (chosen_to_all commute reach p may.accepted.reflexive may.rules.store guard
          ((kept.each session).granted query.next.way.plan guard query.next.way.planned query.live).0
          (λ entry. is_held scene.sessions query.next.way.plan.replica entry past) (journal past) each)

  pub kept_release : (session : ℕ) (past : List Event) → Next p scene session Released past → Kept p scene past → Kept p scene (Release session ∷ past)
  kept_release session past next kept = record {
    invariant = kept.invariant;
    effects = kept.effects;
    each = λ other. at_actor (Session p scene (SettledIn p scene past) (global p past)) session other (Did Released) past
        (λ apart. kept.each other)
        (own_end p scene (SettledIn p scene past) (SettledIn p scene past) (global p past) (global p past) session Released tt (acts session past) (kept.each session) (is_sound past kept)
        (reads_next p scene session Released past next));
  }

  pub kept_return : (session : ℕ) (value : ℤ) (past : List Event) → Kept p scene past → Kept p scene (Return session value ∷ past)
  kept_return session value past kept = record {
    invariant = kept.invariant;
    effects = kept.effects;
    each = λ other. at_actor (Session p scene (SettledIn p scene past) (global p past)) session other (Did (Returned value)) past
        (λ apart. kept.each other)
        (own_return p scene may.valid (SettledIn p scene past) (global p past) session value (acts session past));
  }

  pub kept_refuse : (session : ℕ) (cause : Cause) (past : List Event) → Kept p scene past → Kept p scene (Refuse session cause ∷ past)
  kept_refuse session cause past kept = record {
    invariant = kept.invariant;
    effects = kept.effects;
    each = λ other. at_actor (Session p scene (SettledIn p scene past) (global p past)) session other (Refused cause) past
        (λ apart. kept.each other)
        (own_refuse p scene may.valid (SettledIn p scene past) (global p past) session cause (acts session past));
  }

  -- ---- an issue

  -- an entry that the guard admits is settled wherever it is
  issued_settled : (replica guard session entry : ℕ) (effect : List Atom) (past : List Event) → Admits p guard effect → AllSettled p scene replica guard past → AllSettled p scene replica guard (Issue session entry effect ∷ past)
  issued_settled replica guard session entry effect past admits settled i below = elim (cases_lt i (length (journal past))) [
    | inl old ↦ before (settled i old) (get_or_append_left (journal past) (effect ∷ []) [] i old)
    | inr new ↦
        let last : length (journal past) ≡ i = omega (arith, length-append (journal past) (effect ∷ []))
        in inr (subst (Admits p guard) (sym (get_or_push (journal past) effect [] i last)) admits)
  ]
    where
      before : IsSettled p scene replica guard i past → get_or (journal past ++ effect ∷ []) i [] ≡ get_or (journal past) i [] → IsSettled p scene replica guard i (Issue session entry effect ∷ past)
      before (inl held) e = inl (or_right _ (is_held scene.sessions replica i past) held)
      before (inr within) e = inr (subst (Admits p guard) (sym e) within)

  -- another session, whose guards admit the effect
  foreign_issue : StepsReach → (session entry : ℕ) (effect : List Atom) (past : List Event) (other : ℕ) → other ≢ session → IsFree p session effect past → Session p scene (SettledIn p scene past) (global p past) other (acts other past) → Session p scene (SettledIn p scene (Issue session entry effect ∷ past)) (apply p.shape effect (global p past)) other (acts other past)
  foreign_issue reach session entry effect past other apart free s = record {
    granted = λ plan guard planned has.
        let before = s.granted plan guard planned has
        in (before.0, issued_settled plan.replica guard session entry effect past (free.each other guard apart has) before.1);
    backed = s.backed;
    stand = live_both
        (λ guard here. GuardsIn (slice_get p.guards guard) here (global p past))
        (λ guard here. (has_grant guard (acts other past) ≡ true) × IsStore p.shape here)
        (λ guard here. GuardsIn (slice_get p.guards guard) here (apply p.shape effect (global p past)))
        (λ guard here holds live. admitted_keeps reach p guard effect here (global p past) live.1 (is_global past) (free.each other guard apart live.0) holds)
        (acts other past) s.stand s.backed;
    ready = s.ready;
    reading = s.reading;
  }

  pub kept_issue : StepsReach → (session entry : ℕ) (effect : List Atom) (past : List Event) → MayIssue p scene session entry effect past → Kept p scene past → Kept p scene (Issue session entry effect ∷ past)
  kept_issue reach session entry effect past issue kept = record {
    invariant = subst (MeetsInvariant p) (sym after)
        (good.keeps next.way.command.args (marks (attempt (acts session past))) effect (kept.each session).ready.ended (global p past) reading next.reads);
    effects = all_push (IsEffect p.shape) (journal past) effect kept.effects (
      issued_ascends p.shape next.op.body (number_of_args next.way.command.args) (marks (attempt (acts session past))) effect next.reads,
      good.fits next.way.command.args (marks (attempt (acts session past))) effect (kept.each session).ready.ended (global p past) reading next.reads,
    );
    each = λ other. subst (λ y. Session p scene (SettledIn p scene (Issue session entry effect ∷ past)) y other (acts other (Issue session entry effect ∷ past))) (sym after)
        (at_actor (Session p scene (SettledIn p scene (Issue session entry effect ∷ past)) (apply p.shape effect (global p past))) session other (Did (Issued effect)) past
        (λ apart. foreign_issue reach session entry effect past other apart issue.free (kept.each other))
        (own_end p scene (SettledIn p scene past) (SettledIn p scene (Issue session entry effect ∷ past)) (global p past) (apply p.shape effect (global p past)) session (Issued effect) tt (acts session past) (kept.each session) (is_sound past kept)
        (reads_next p scene session (Issued effect) past next)));
  }
    where
      next : Next p scene session (Issued effect) past
      next = issue.next

      good : IsGood p issue.next.op
      good = is_good session (Issued effect) past issue.next

      reading : IsReading p issue.next.op issue.next.way.command.args (marks (attempt (acts session past))) (kept.each session).ready.ended (global p past)
      reading = is_reading session (Issued effect) past kept issue.next

      after : global p (Issue session entry effect ∷ past) ≡ apply p.shape effect (global p past)
      after = act_all-append (apply p.shape) (journal past) (effect ∷ []) p.initial

  -- ---- the events of replicas

  pub kept_deliver : (source target entry : ℕ) (past : List Event) → Kept p scene past → Kept p scene (Deliver source target entry ∷ past)
  kept_deliver source target entry past kept = record {
    invariant = kept.invariant;
    effects = kept.effects;
    each = λ session. record {
      granted = λ plan guard planned has.
          let before = (kept.each session).granted plan guard planned has
          in (before.0, λ i below. more plan.replica guard i (before.1 i below));
      backed = (kept.each session).backed;
      stand = (kept.each session).stand;
      ready = (kept.each session).ready;
      reading = (kept.each session).reading;
    };
  }
    where
      more : (replica guard i : ℕ) → IsSettled p scene replica guard i past → IsSettled p scene replica guard i (Deliver source target entry ∷ past)
      more replica guard i (inl held) = inl (or_right _ (is_held scene.sessions replica i past) held)
      more replica guard i (inr within) = inr within

  pub kept_cut : (a b : ℕ) (past : List Event) → Kept p scene past → Kept p scene (Cut a b ∷ past)
  kept_cut a b past kept = record { invariant = kept.invariant; effects = kept.effects; each = kept.each }

  pub kept_join : (a b : ℕ) (past : List Event) → Kept p scene past → Kept p scene (Join a b ∷ past)
  kept_join a b past kept = record { invariant = kept.invariant; effects = kept.effects; each = kept.each }
