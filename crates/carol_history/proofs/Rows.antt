-- Further runs, worked by hand: money that comes in while another session holds a guard, a session
-- that is refused as often as it is tried, and two cells without guards at two replicas.
use Rattle.std.proofs.Common.{◌≡◌, ◌≢◌, ℕ, ◌<◌, true, false, List, [], ◌∷◌, zero, suc, refl, sym, subst, inl, inr, arith}
use Rattle.std.specs.Prelude.{pos, negsuc, Some, slice_get}
use Rattle.carol_store.specs.declared.shape.CellKind.TheVariants.{Counter}
use Rattle.carol_store.specs.declared.effect.Atom.{Atom}
use Rattle.carol_formula.specs.Claim.{Claim}
use Rattle.carol_formula.specs.Claim as claim
use Rattle.carol_program.specs.Bodies as body
use Rattle.carol_program.specs.Order.{IsBefore}
use Rattle.carol_program.specs.Rules.{OpRules, Rules}
use Rattle.carol_program.specs.declared.scenes.Command.{Command}
use Rattle.carol_program.specs.declared.scenes.Scene.{Scene}
use Rattle.carol_program.specs.declared.scenes.SessionPlan.{SessionPlan}
use Rattle.carol_reading.specs.Good.{MayLeave}
use Rattle.carol_reading.specs.Marks.{Mark, Asked, Issued, Returned}
use Rattle.carol_event.specs.declared.event.Cause.TheVariants.{Barred}
use Rattle.carol_event.specs.declared.event.Event.{Event}
use Rattle.carol_event.specs.declared.event.Event.TheVariants.{Grant, Query, Issue, Return, Refuse, Deliver}
use Rattle.carol_reading.specs.declared.outcome.Outcome.TheVariants as outcome
use Rattle.carol_history.specs.Acts.{Next, UnderWay, acts, attempt, is_live, marks, place}
use Rattle.carol_history.specs.Journals.{global, local}
use Rattle.carol_history.specs.Legal.{Admits}
use Rattle.carol_history.specs.Results.{result}
use Rattle.carol_history.specs.Runs.{Run}
use Rattle.carol_history.proofs.Named.{live_named}
use Rattle.carol_history.proofs.Witnesses.{admits_more, bank, bars_less, change, deposit, first, second, takes_50, takes_80, withdraw}

-- what a session with one command may leave
abbrev one_command : (p : Rules) (scene : Scene) (session : ℕ) (plan : SessionPlan) (command : Command) (op : OpRules) (mark : Mark) (past : List Event) → slice_get scene.sessions session ≡ Some plan → slice_get plan.commands (place scene.tries (acts session past)).command ≡ Some command → slice_get p.ops command.op ≡ Some op → MayLeave p op command.args (marks (attempt (acts session past))) mark → Next p scene session mark past
one_command p scene session plan command op mark past planned present found reads = record { way = record { plan = plan; command = command; planned = planned; present = present }; op = op; found = found; reads = reads }

-- ---- money comes in at the other replica while the first holds its guard

abbrev puts_30 : Command
puts_30 = record { op = 1; args = pos 30 ∷ [] }

abbrev giver : SessionPlan
giver = record { replica = 1; commands = puts_30 ∷ [] }

abbrev with_giver : Scene
with_giver = record { replicas = 2; tries = 1; workers = 2; gossipers = 1; sessions = first ∷ giver ∷ [] }

abbrev asked : List Event
asked = Query 0 0 (pos 100 ∷ []) ∷ Grant 0 0 ∷ []

abbrev given : List Event
given = Return 1 (pos 30) ∷ Issue 1 0 (change (pos 30)) ∷ asked

abbrev taken : List Event
taken = Return 0 (pos 80) ∷ Issue 0 1 (change (negsuc 79)) ∷ given

run_asked : Run bank with_giver asked
run_asked = (
  record { next = one_command bank with_giver 0 first takes_80 withdraw (Asked 0 (pos 100 ∷ [])) _ refl refl refl (refl, (tt, tt), tt); live = refl; seen = refl },
  (record { store = pos 100 ∷ []; next = one_command bank with_giver 0 first takes_80 withdraw (Asked 0 (pos 100 ∷ [])) [] refl refl refl (refl, (tt, tt), tt); named = omega arith; fresh = refl; settled = λ entry below. absurd (omega arith) }, tt),
)

-- the guard of the first admits it
run_given : Run bank with_giver given
run_given = (
  one_command bank with_giver 1 giver puts_30 deposit (Returned (pos 30)) _ refl refl refl (refl, refl),
  (
    record {
      next = one_command bank with_giver 1 giver puts_30 deposit (Issued (change (pos 30))) asked refl refl refl (refl, tt);
      number = refl;
      free = record { each = λ other guard apart live. admits guard (live_named bank with_giver asked run_asked other guard live).1 };
    },
    run_asked,
  ),
)
  where
    admits : (guard : ℕ) → guard < 1 → Admits bank guard (change (pos 30))
    admits zero low = admits_more
    admits (suc guard) low = absurd (omega arith)

run_taken : Run bank with_giver taken
run_taken = (
  one_command bank with_giver 0 first takes_80 withdraw (Returned (pos 80)) _ refl refl refl (refl, (tt, tt), (refl, refl)),
  (
    record {
      next = one_command bank with_giver 0 first takes_80 withdraw (Issued (change (negsuc 79))) given refl refl refl (refl, (tt, tt), (refl, tt));
      number = refl;
      free = record { each = λ other guard apart live. absurd (nobody other guard apart (live_named bank with_giver given run_given other guard live).0 live) };
    },
    run_given,
  ),
)
  where
    no : false ≡ true → ⊥
    no e = cc

    nobody : (other guard : ℕ) → other ≢ 0 → other < 2 → is_live other guard given ≡ true → ⊥
    nobody zero guard apart low live = apart refl
    nobody (suc zero) guard apart low live = no live
    nobody (suc (suc other)) guard apart low live = absurd (omega arith)

first_keeps : local bank with_giver 0 taken ≡ pos 20 ∷ []
first_keeps = refl

giver_keeps : local bank with_giver 1 taken ≡ pos 130 ∷ []
giver_keeps = refl

all_keep : global bank taken ≡ pos 50 ∷ []
all_keep = refl

-- ---- refused as often as it is tried

abbrev with_three_tries : Scene
with_three_tries = record { replicas = 2; tries = 3; workers = 2; gossipers = 1; sessions = first ∷ second ∷ [] }

-- the second asks, and is refused for the first's grant
abbrev once_more : List Event → List Event
once_more past = Refuse 1 (Barred 0 0) ∷ Query 1 0 (pos 100 ∷ []) ∷ Grant 1 0 ∷ past

abbrev refused_thrice : List Event
refused_thrice = once_more (once_more (once_more asked))

run_held : Run bank with_three_tries asked
run_held = (
  record { next = one_command bank with_three_tries 0 first takes_80 withdraw (Asked 0 (pos 100 ∷ [])) _ refl refl refl (refl, (tt, tt), tt); live = refl; seen = refl },
  (record { store = pos 100 ∷ []; next = one_command bank with_three_tries 0 first takes_80 withdraw (Asked 0 (pos 100 ∷ [])) [] refl refl refl (refl, (tt, tt), tt); named = omega arith; fresh = refl; settled = λ entry below. absurd (omega arith) }, tt),
)

-- nothing is below the first's only guard
nothing_before : (s g : ℕ) → IsBefore s g 0 0 → ⊥
nothing_before s g (inl below) = absurd (omega arith)
nothing_before s g (inr before) = absurd (omega arith)

run_once : Run bank with_three_tries (once_more asked)
run_once = (
  record { effect = change (negsuc 49); next = one_command bank with_three_tries 1 second takes_50 withdraw (Issued (change (negsuc 49))) (Query 1 0 (pos 100 ∷ []) ∷ Grant 1 0 ∷ asked) refl refl refl (refl, (tt, tt), (refl, tt)); other = λ e. absurd (omega arith); live = refl; barring = bars_less 49; lowest = λ s g apart live before. absurd (nothing_before s g before) },
  (
    record { next = one_command bank with_three_tries 1 second takes_50 withdraw (Asked 0 (pos 100 ∷ [])) _ refl refl refl (refl, (tt, tt), tt); live = refl; seen = refl },
    (record { store = pos 100 ∷ []; next = one_command bank with_three_tries 1 second takes_50 withdraw (Asked 0 (pos 100 ∷ [])) asked refl refl refl (refl, (tt, tt), tt); named = omega arith; fresh = refl; settled = λ entry below. absurd (omega arith) }, run_held),
  ),
)

run_twice : Run bank with_three_tries (once_more (once_more asked))
run_twice = (
  record { effect = change (negsuc 49); next = one_command bank with_three_tries 1 second takes_50 withdraw (Issued (change (negsuc 49))) (Query 1 0 (pos 100 ∷ []) ∷ Grant 1 0 ∷ once_more asked) refl refl refl (refl, (tt, tt), (refl, tt)); other = λ e. absurd (omega arith); live = refl; barring = bars_less 49; lowest = λ s g apart live before. absurd (nothing_before s g before) },
  (
    record { next = one_command bank with_three_tries 1 second takes_50 withdraw (Asked 0 (pos 100 ∷ [])) _ refl refl refl (refl, (tt, tt), tt); live = refl; seen = refl },
    (record { store = pos 100 ∷ []; next = one_command bank with_three_tries 1 second takes_50 withdraw (Asked 0 (pos 100 ∷ [])) (once_more asked) refl refl refl (refl, (tt, tt), tt); named = omega arith; fresh = refl; settled = λ entry below. absurd (omega arith) }, run_once),
  ),
)

run_thrice : Run bank with_three_tries refused_thrice
run_thrice = (
  record { effect = change (negsuc 49); next = one_command bank with_three_tries 1 second takes_50 withdraw (Issued (change (negsuc 49))) (Query 1 0 (pos 100 ∷ []) ∷ Grant 1 0 ∷ once_more (once_more asked)) refl refl refl (refl, (tt, tt), (refl, tt)); other = λ e. absurd (omega arith); live = refl; barring = bars_less 49; lowest = λ s g apart live before. absurd (nothing_before s g before) },
  (
    record { next = one_command bank with_three_tries 1 second takes_50 withdraw (Asked 0 (pos 100 ∷ [])) _ refl refl refl (refl, (tt, tt), tt); live = refl; seen = refl },
    (record { store = pos 100 ∷ []; next = one_command bank with_three_tries 1 second takes_50 withdraw (Asked 0 (pos 100 ∷ [])) (once_more (once_more asked)) refl refl refl (refl, (tt, tt), tt); named = omega arith; fresh = refl; settled = λ entry below. absurd (omega arith) }, run_twice),
  ),
)

gave_up : result with_three_tries 1 0 refused_thrice ≡ outcome.Refused (Barred 0 0)
gave_up = refl

still_open : result with_three_tries 0 0 refused_thrice ≡ outcome.NotDone
still_open = refl

-- it has no command under way any more
no_more : UnderWay with_three_tries 1 refused_thrice → ⊥
no_more way = none way.plan way.command way.planned way.present
  where
    none : (plan : SessionPlan) (command : Command) → Some second ≡ Some plan → slice_get plan.commands 1 ≡ Some command → ⊥
    none plan command planned present =
        let same : second ≡ plan = cc
        in let wrong : slice_get second.commands 1 ≡ Some command = subst (λ (q : SessionPlan). slice_get q.commands 1 ≡ Some command) (sym same) present
        in cc

-- ---- two cells without guards

abbrev adds : ℕ → OpRules
adds cell = record { params = []; result = claim.True; body = body.Issue 1 (record { cell = cell; amount = record { pairs = (32, pos 1) ∷ []; rest = pos 0 } } ∷ []) (body.Return 2 (record { pairs = (32, pos 1) ∷ []; rest = pos 0 })) }

abbrev plain : Rules
plain = record { shape = Counter ∷ Counter ∷ []; initial = pos 0 ∷ pos 5 ∷ []; invariant = claim.True; guards = []; ops = adds 0 ∷ adds 1 ∷ [] }

abbrev adds_3 : Command
adds_3 = record { op = 0; args = pos 3 ∷ [] }

abbrev takes_2 : Command
takes_2 = record { op = 1; args = negsuc 1 ∷ [] }

abbrev adds_4 : Command
adds_4 = record { op = 0; args = pos 4 ∷ [] }

abbrev left : SessionPlan
left = record { replica = 0; commands = adds_3 ∷ [] }

abbrev right : SessionPlan
right = record { replica = 1; commands = takes_2 ∷ adds_4 ∷ [] }

abbrev two : Scene
two = record { replicas = 2; tries = 1; workers = 2; gossipers = 1; sessions = left ∷ right ∷ [] }

abbrev lower : List Atom
lower = record { cell = 1; value = negsuc 1 } ∷ []

-- nobody has a guard
unguarded : (past : List Event) → Run plain two past → (other guard : ℕ) (effect : List Atom) → is_live other guard past ≡ true → Admits plain guard effect
unguarded past run other guard effect live = absurd (omega (arith, (live_named plain two past run other guard live).1))

abbrev both_issued : List Event
both_issued = Issue 1 1 lower ∷ Issue 0 0 (change (pos 3)) ∷ []

run_both_issued : Run plain two both_issued
run_both_issued = (
  record { next = one_command plain two 1 right takes_2 (adds 1) (Issued lower) (Issue 0 0 (change (pos 3)) ∷ []) refl refl refl (refl, tt); number = refl; free = record { each = λ other guard apart live. unguarded (Issue 0 0 (change (pos 3)) ∷ []) run_one other guard lower live } },
  run_one,
)
  where
    run_one : Run plain two (Issue 0 0 (change (pos 3)) ∷ [])
    run_one = (record { next = one_command plain two 0 left adds_3 (adds 0) (Issued (change (pos 3))) [] refl refl refl (refl, tt); number = refl; free = record { each = λ other guard apart live. unguarded [] tt other guard (change (pos 3)) live } }, tt)

abbrev both_returned : List Event
both_returned = Return 1 (negsuc 1) ∷ Return 0 (pos 3) ∷ Deliver 0 1 0 ∷ both_issued

run_both_returned : Run plain two both_returned
run_both_returned = (
  one_command plain two 1 right takes_2 (adds 1) (Returned (negsuc 1)) _ refl refl refl (refl, refl),
  (
    one_command plain two 0 left adds_3 (adds 0) (Returned (pos 3)) _ refl refl refl (refl, refl),
    (record { from = omega arith; to = omega arith; linked = refl; held = refl; lacking = refl }, run_both_issued),
  ),
)

abbrev all_issued : List Event
all_issued = Return 1 (pos 4) ∷ Issue 1 2 (change (pos 4)) ∷ both_returned

abbrev all_delivered : List Event
all_delivered = Deliver 1 0 2 ∷ Deliver 1 0 1 ∷ all_issued

run_all_delivered : Run plain two all_delivered
run_all_delivered = (
  record { from = omega arith; to = omega arith; linked = refl; held = refl; lacking = refl },
  (
    record { from = omega arith; to = omega arith; linked = refl; held = refl; lacking = refl },
    (
      one_command plain two 1 right adds_4 (adds 0) (Returned (pos 4)) _ refl refl refl (refl, refl),
      (
        record { next = one_command plain two 1 right adds_4 (adds 0) (Issued (change (pos 4))) both_returned refl refl refl (refl, tt); number = refl; free = record { each = λ other guard apart live. unguarded both_returned run_both_returned other guard (change (pos 4)) live } },
        run_both_returned,
      ),
    ),
  ),
)

left_has : local plain two 0 all_delivered ≡ pos 7 ∷ pos 3 ∷ []
left_has = refl

right_has : local plain two 1 all_delivered ≡ pos 7 ∷ pos 3 ∷ []
right_has = refl

second_result : result two 1 1 all_delivered ≡ outcome.Value (pos 4)
second_result = refl
