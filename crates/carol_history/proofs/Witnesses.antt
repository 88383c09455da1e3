-- Two sessions that take money out of one account, at two replicas, worked by hand: a run in which
-- the first is refused, is brought the entry that it lacks and then finds too little; and changes of
-- it that are no run.
use Rattle.std.proofs.Common.{◌≡◌, ◌≢◌, ℕ, ◌<◌, true, false, List, [], ◌∷◌, ℤ, zero, suc, refl, sym, subst, ap, inl, inr, arith}
use Rattle.std.specs.Prelude.{pos, negsuc, ◌≤ℤ◌, unsigned_abs}
use Rattle.std.proofs.lemmas.Bool.{ne_eqb}
use Rattle.std.proofs.lemmas.Int.{ints}
use Rattle.std.proofs.lemmas.Option.{same_Some}
use Rattle.carol_store.specs.declared.shape.CellKind.TheVariants.{Counter}
use Rattle.carol_store.specs.declared.effect.Atom.{Atom}
use Rattle.carol_store.specs.Directions.{unit_step}
use Rattle.carol_store.specs.Kinds.{CellValue}
use Rattle.carol_store.specs.Stores.{IsStore}
use Rattle.carol_formula.specs.Claim.{Claim, And, Eq, Le, is_at_most_zero}
use Rattle.carol_formula.specs.Linear.{constant_of}
use Rattle.carol_program.specs.Bodies as body
use Rattle.carol_program.specs.Bodies.{Body}
use Rattle.carol_program.specs.Order.{IsBefore}
use Rattle.carol_program.specs.Preserving.{Guards}
use Rattle.carol_program.specs.Rules.{OpRules, Rules}
use Rattle.carol_program.specs.declared.scenes.Command.{Command}
use Rattle.carol_program.specs.declared.scenes.Scene.{Scene}
use Rattle.carol_program.specs.declared.scenes.SessionPlan.{SessionPlan}
use Rattle.carol_reading.specs.Good.{MayLeave}
use Rattle.carol_reading.specs.Marks.{Mark, Asked, Issued, Returned}
use Rattle.carol_event.specs.declared.event.Cause.TheVariants.{Barred, Behind}
use Rattle.carol_event.specs.declared.event.Event.{Event}
use Rattle.carol_event.specs.declared.event.Event.TheVariants.{Grant, Query, Issue, Return, Refuse, Deliver, Cut}
use Rattle.carol_reading.specs.declared.outcome.Outcome.TheVariants as outcome
use Rattle.carol_history.specs.Acts.{Next, acts, attempt, is_live, marks, place}
use Rattle.carol_history.specs.Bounds.{most_events}
use Rattle.carol_history.specs.Forced.{Forced}
use Rattle.carol_history.specs.Journals.{global, is_held, local}
use Rattle.carol_history.specs.Legal.{Admits, IsSettled, Legal}
use Rattle.carol_history.specs.Links.{is_linked}
use Rattle.carol_history.specs.Results.{result}
use Rattle.carol_history.specs.Runs.{Run}

-- ---- the program

-- what is asked for, the parameter, is at least 1 and at most 1000
abbrev asked : Claim
asked = And (Le (record { pairs = (32, negsuc 0) ∷ []; rest = pos 1 })) (Le (record { pairs = (32, pos 1) ∷ []; rest = negsuc 999 }))

-- it is at most what the query found
abbrev enough : Claim
enough = Le (record { pairs = (32, pos 1) ∷ (64, negsuc 0) ∷ []; rest = pos 0 })

abbrev given : Claim
given = And (Le (record { pairs = (48, negsuc 0) ∷ []; rest = pos 0 })) (Le (record { pairs = (32, negsuc 0) ∷ (48, pos 1) ∷ []; rest = pos 0 }))

abbrev take_out : Body
take_out = body.Query 1 0 0 (body.Branch 2 enough (body.Issue 3 (record { cell = 0; amount = record { pairs = (32, negsuc 0) ∷ []; rest = pos 0 } } ∷ []) (body.Return 4 (record { pairs = (32, pos 1) ∷ []; rest = pos 0 }))) (body.Return 5 (constant_of (pos 0))))

abbrev put_in : Body
put_in = body.Issue 1 (record { cell = 0; amount = record { pairs = (32, pos 1) ∷ []; rest = pos 0 } } ∷ []) (body.Return 2 (record { pairs = (32, pos 1) ∷ []; rest = pos 0 }))

abbrev pub withdraw : OpRules
withdraw = record { params = asked ∷ []; result = given; body = take_out }

abbrev pub deposit : OpRules
deposit = record { params = asked ∷ []; result = Eq (record { pairs = (32, pos 1) ∷ (48, negsuc 0) ∷ []; rest = pos 0 }); body = put_in }

-- a reading may be lower than what there is
abbrev low : Claim
low = Le (record { pairs = (0, pos 1) ∷ (16, negsuc 0) ∷ []; rest = pos 0 })

abbrev pub bank : Rules
bank = record {
  shape = Counter ∷ [];
  initial = pos 100 ∷ [];
  invariant = Le (record { pairs = (0, negsuc 0) ∷ []; rest = pos 0 });
  guards = low ∷ [];
  ops = withdraw ∷ deposit ∷ [];
}

abbrev pub change : ℤ → List Atom
change amount = record { cell = 0; value = amount } ∷ []

-- ---- what the guard admits

-- what is at most zero stays so where it falls
falls : (y z : ℤ) → z ≤ℤ y → is_at_most_zero y ≡ true → is_at_most_zero z ≡ true
falls y (pos zero) h e = refl
falls y (negsuc n) h e = refl
falls (pos zero) (pos (suc n)) h e = absurd (omega (arith, ints))
falls (pos (suc m)) (pos (suc n)) h e = cc
falls (negsuc m) (pos (suc n)) h e = absurd (omega (arith, ints))

-- money that comes in
pub admits_more : Admits bank 0 (change (pos 30))
admits_more = record { each = (record { keeps = keeps }, tt) }
  where
    keeps : (here there : List CellValue) → IsStore (Counter ∷ []) here → IsStore (Counter ∷ []) there → Guards low here there → Guards low here (unit_step (Counter ∷ []) (record { cell = 0; up = true }) there)
    keeps [] there is_here is_there holds = absurd is_here
    keeps (a ∷ b ∷ more) there is_here is_there holds = absurd is_here.1
    keeps (a ∷ []) [] is_here is_there holds = absurd is_there
    keeps (a ∷ []) (b ∷ c ∷ bs) is_here is_there holds = absurd is_there.1
    keeps (a ∷ []) (b ∷ []) is_here is_there holds = falls _ _ (omega (arith, ints)) holds

-- and none that goes out
pub bars_less : (n : ℕ) → Admits bank 0 (change (negsuc n)) → ⊥
bars_less n within = absurd (no (within.each.0.keeps (pos 0 ∷ []) (pos 0 ∷ []) (tt, tt) (tt, tt) refl))
  where
    no : false ≡ true → ⊥
    no e = cc

-- ---- the scene, and a run

abbrev pub takes_80 : Command
takes_80 = record { op = 0; args = pos 80 ∷ [] }

abbrev pub takes_50 : Command
takes_50 = record { op = 0; args = pos 50 ∷ [] }

abbrev pub first : SessionPlan
first = record { replica = 0; commands = takes_80 ∷ [] }

abbrev pub second : SessionPlan
second = record { replica = 1; commands = takes_50 ∷ [] }

abbrev scene : Scene
scene = record { replicas = 2; tries = 2; workers = 2; gossipers = 1; sessions = first ∷ second ∷ [] }

-- a mark that the first or the second may leave
abbrev first_next : (mark : Mark) (past : List Event) → (place 2 (acts 0 past)).command ≡ 0 → MayLeave bank withdraw (pos 80 ∷ []) (marks (attempt (acts 0 past))) mark → Next bank scene 0 mark past
first_next mark past present reads = record { way = record { plan = first; command = takes_80; planned = refl; present = rw present refl }; op = withdraw; found = refl; reads = reads }

abbrev second_next : (mark : Mark) (past : List Event) → (place 2 (acts 1 past)).command ≡ 0 → MayLeave bank withdraw (pos 50 ∷ []) (marks (attempt (acts 1 past))) mark → Next bank scene 1 mark past
second_next mark past present reads = record { way = record { plan = second; command = takes_50; planned = refl; present = rw present refl }; op = withdraw; found = refl; reads = reads }

abbrev both_asked : List Event
both_asked = Query 1 0 (pos 100 ∷ []) ∷ Grant 1 0 ∷ Query 0 0 (pos 100 ∷ []) ∷ Grant 0 0 ∷ []

abbrev first_refused : List Event
first_refused = Refuse 0 (Barred 1 0) ∷ both_asked

abbrev second_done : List Event
second_done = Return 1 (pos 50) ∷ Issue 1 0 (change (negsuc 49)) ∷ first_refused

abbrev brought : List Event
brought = Deliver 1 0 0 ∷ second_done

abbrev all_done : List Event
all_done = Return 0 (pos 0) ∷ Query 0 0 (pos 50 ∷ []) ∷ Grant 0 0 ∷ brought

-- nobody but the two does anything
nobody : (session guard : ℕ) → session ≢ 0 → session ≢ 1 → is_live session guard first_refused ≡ true → ⊥
nobody session guard apart_0 apart_1 live =
    let no_0 = ne_eqb 0 session (λ e. apart_0 (sym e))
    in let no_1 = ne_eqb 1 session (λ e. apart_1 (sym e))
    in let wrong : false ≡ true = rw (no_0, no_1) at live
    in cc

run_both_asked : Run bank scene both_asked
run_both_asked = (
  record { next = second_next (Asked 0 (pos 100 ∷ [])) _ refl (refl, (tt, tt), tt); live = refl; seen = refl },
  (
    record { store = pos 100 ∷ []; next = second_next (Asked 0 (pos 100 ∷ [])) _ refl (refl, (tt, tt), tt); named = omega arith; fresh = refl; settled = λ entry below. absurd (omega arith) },
    (
      record { next = first_next (Asked 0 (pos 100 ∷ [])) _ refl (refl, (tt, tt), tt); live = refl; seen = refl },
      (record { store = pos 100 ∷ []; next = first_next (Asked 0 (pos 100 ∷ [])) _ refl (refl, (tt, tt), tt); named = omega arith; fresh = refl; settled = λ entry below. absurd (omega arith) }, tt),
    ),
  ),
)

-- the first wants to take money out, which the second's grant bars
run_first_refused : Run bank scene first_refused
run_first_refused = (
  record {
    effect = change (negsuc 79);
    next = first_next (Issued (change (negsuc 79))) both_asked refl (refl, (tt, tt), (refl, tt));
    other = λ e. absurd (omega arith);
    live = refl;
    barring = bars_less 79;
    lowest = lowest;
  },
  run_both_asked,
)
  where
    lowest : (s g : ℕ) → s ≢ 0 → is_live s g both_asked ≡ true → IsBefore s g 1 0 → Admits bank g (change (negsuc 79))
    lowest s g apart live (inl below) = absurd (apart (omega arith))
    lowest s g apart live (inr before) = absurd (omega arith)

run_second_done : Run bank scene second_done
run_second_done = (
  second_next (Returned (pos 50)) _ refl (refl, (tt, tt), (refl, refl)),
  (
    record {
      next = second_next (Issued (change (negsuc 49))) first_refused refl (refl, (tt, tt), (refl, tt));
      number = refl;
      free = record { each = free };
    },
    run_first_refused,
  ),
)
  where
    free : (other guard : ℕ) → other ≢ 1 → is_live other guard first_refused ≡ true → Admits bank guard (change (negsuc 49))
    free zero guard apart live = cc
    free (suc n) guard apart live = absurd (nobody (suc n) guard (λ e. absurd (omega arith)) apart live)

run_brought : Run bank scene brought
run_brought = (record { from = omega arith; to = omega arith; linked = refl; held = refl; lacking = refl }, run_second_done)

-- with the entry it may be granted the guard, reads less and gives up
run_all_done : Run bank scene all_done
run_all_done = (
  first_next (Returned (pos 0)) _ refl (refl, (tt, tt), refl),
  (
    record { next = first_next (Asked 0 (pos 50 ∷ [])) _ refl (refl, (tt, tt), tt); live = refl; seen = refl },
    (
      record { store = pos 50 ∷ []; next = first_next (Asked 0 (pos 50 ∷ [])) brought refl (refl, (tt, tt), tt); named = omega arith; fresh = refl; settled = settled },
      run_brought,
    ),
  ),
)
  where
    settled : (entry : ℕ) → entry < 1 → IsSettled bank scene 0 0 entry brought
    settled entry below =
        let e : 0 ≡ entry = omega arith
        in subst (λ i. IsSettled bank scene 0 0 i brought) e (inl refl)

-- ---- what it comes to

ends_with : global bank all_done ≡ pos 50 ∷ []
ends_with = refl

first_has : local bank scene 0 all_done ≡ pos 50 ∷ []
first_has = refl

first_gave : result scene 0 0 all_done ≡ outcome.Value (pos 0)
first_gave = refl

second_gave : result scene 1 0 all_done ≡ outcome.Value (pos 50)
second_gave = refl

-- each command has two tries of four acts and one delivery at most
at_most : most_events bank scene ≡ 20
at_most = refl

-- ---- what is next where the first lacks the entry

fetched : Forced bank scene 0 (Deliver 1 0 0) second_done
fetched = record {
  missing = record {
    guard = 0;
    store = pos 100 ∷ [];
    next = first_next (Asked 0 (pos 100 ∷ [])) second_done refl (refl, (tt, tt), tt);
    named = omega arith;
    fresh = refl;
    inside = omega arith;
    lacking = refl;
    outside = bars_less 49;
    lowest = λ i below. absurd (omega arith);
  };
  home = refl;
  from = omega arith;
  linked = refl;
  held = refl;
  lowest = lowest;
}
  where
    no : false ≡ true → ⊥
    no e = cc

    lowest : (replica : ℕ) → replica < 1 → is_linked replica 0 second_done ≡ true → is_held (first ∷ second ∷ []) replica 0 second_done ≡ false
    lowest zero below linked = absurd (no linked)
    lowest (suc replica) below linked = absurd (omega arith)

-- cut off from the replica that holds the entry, it is refused
cut_off : Legal bank scene (Refuse 0 (Behind 0)) (Cut 0 1 ∷ second_done)
cut_off = record {
  missing = record {
    guard = 0;
    store = pos 100 ∷ [];
    next = first_next (Asked 0 (pos 100 ∷ [])) (Cut 0 1 ∷ second_done) refl (refl, (tt, tt), tt);
    named = omega arith;
    fresh = refl;
    inside = omega arith;
    lacking = refl;
    outside = bars_less 49;
    lowest = λ i below. absurd (omega arith);
  };
  nowhere = nowhere;
}
  where
    no : false ≡ true → ⊥
    no e = cc

    nowhere : (replica : ℕ) → replica < 2 → is_linked replica 0 (Cut 0 1 ∷ second_done) ≡ true → is_held (first ∷ second ∷ []) replica 0 (Cut 0 1 ∷ second_done) ≡ false
    nowhere zero below linked = absurd (no linked)
    nowhere (suc zero) below linked = absurd (no linked)
    nowhere (suc (suc replica)) below linked = absurd (omega arith)

-- ---- changes that are no run

no_true : false ≡ true → ⊥
no_true e = cc

-- a store that is not the replica's
wrong_store : Legal bank scene (Query 0 0 (pos 51 ∷ [])) (Grant 0 0 ∷ brought) → ⊥
wrong_store query =
    let same : first ≡ query.next.way.plan = same_Some first query.next.way.plan query.next.way.planned
    in let seen : pos 51 ∷ [] ≡ pos 50 ∷ [] = subst (λ (plan : SessionPlan). pos 51 ∷ [] ≡ local bank scene plan.replica (Grant 0 0 ∷ brought)) (sym same) query.seen
    in let wrong : ◌≡◌ {A = ℕ} 51 50 = ap amount_of seen
    in absurd (omega arith)
  where
    amount_of : List CellValue → ℕ
    amount_of [] = 0
    amount_of (value ∷ values) = unsigned_abs value

-- a grant while an entry is missing
too_early : Legal bank scene (Grant 0 0) second_done → ⊥
too_early grant =
    let same : first ≡ grant.next.way.plan = same_Some first grant.next.way.plan grant.next.way.planned
    in missing (subst (λ (plan : SessionPlan). IsSettled bank scene plan.replica 0 0 second_done) (sym same) (grant.settled 0 (omega arith)))
  where
    missing : IsSettled bank scene 0 0 0 second_done → ⊥
    missing (inl held) = no_true held
    missing (inr within) = bars_less 49 within

-- an entry that is numbered wrong
wrong_number : Legal bank scene (Issue 1 1 (change (negsuc 49))) first_refused → ⊥
wrong_number issue = absurd (omega (arith, issue.number))

-- an issue that a live grant of the other session bars
barred : Legal bank scene (Issue 1 0 (change (negsuc 49))) both_asked → ⊥
barred issue = bars_less 49 (issue.free.each 0 0 (λ e. absurd (omega arith)) refl)

-- a delivery from a replica that is cut off
not_linked : Legal bank scene (Deliver 1 0 0) (Cut 0 1 ∷ second_done) → ⊥
not_linked deliver = no_true deliver.linked

-- a refusal behind an entry that a linked replica holds
not_behind : Legal bank scene (Refuse 0 (Behind 0)) second_done → ⊥
not_behind refuse =
    let same : first ≡ refuse.missing.next.way.plan = same_Some first refuse.missing.next.way.plan refuse.missing.next.way.planned
    in let linked : is_linked 1 refuse.missing.next.way.plan.replica second_done ≡ true = subst (λ (plan : SessionPlan). is_linked 1 plan.replica second_done ≡ true) same refl
    in let held : true ≡ false = refuse.nowhere 1 (omega arith) linked
    in no_true (sym held)
