-- How the acts of one session are paid for, by the commands that are done and the one under way.
use Rattle.std.proofs.Common.{◌≡◌, ℕ, suc, ◌+◌, ◌*◌, ◌-◌, ◌<◌, ◌≤◌, true, false, eqb, List, [], ◌∷◌, ◌++◌, length, ℤ, refl, sym, subst, ◌∙◌, inl, inr, zero-mul, arith}
use Rattle.std.specs.Prelude.{◌⊎◌, Option, Some, None, slice_get}
use Rattle.std.specs.List.{sum_by}
use Rattle.std.specs.Option.{option_map_or}
use Rattle.std.proofs.Math.Nat.{suc-mul, mul-zero, mul-le-mul_right}
use Rattle.std.proofs.lemmas.Bool.{cases_Bool, cases_lt, eq-eqb}
use Rattle.std.proofs.lemmas.Option.{same_Some, slice_get_past}
use Rattle.carol_store.specs.declared.effect.Atom.{Atom}
use Rattle.carol_store.specs.Kinds.{CellValue}
use Rattle.carol_program.specs.Rules.{Rules, OpRules}
use Rattle.carol_program.specs.Variables.{number_of_args}
use Rattle.carol_program.specs.declared.scenes.Command.{Command}
use Rattle.carol_program.specs.declared.scenes.Scene.{Scene}
use Rattle.carol_program.specs.declared.scenes.SessionPlan.{SessionPlan}
use Rattle.carol_reading.specs.Marks.{Mark, Asked, Issued, Released, Returned}
use Rattle.carol_reading.specs.Readings.{Reads}
use Rattle.carol_event.specs.declared.event.Cause.{Cause}
use Rattle.carol_history.specs.Acts.{Act, Granted, Did, Refused, attempt, has_grant, marks, place}
use Rattle.carol_history.specs.Bounds.{longest, most_issues, most_in_try, most_for}
use Rattle.carol_history.proofs.Determined.{SameMark, same_mark}
use Rattle.carol_simulation.proofs.Prices.{price, prices, prices_push, prices_within}
use Rattle.carol_simulation.proofs.Sums.{below, below_cap, sum_below}

-- an act counts one, and an issue its deliveries besides
abbrev pub act_weight : ℕ → Act → ℕ
act_weight k (Did (Issued effect)) = 1 + k
act_weight k act = 1

abbrev pub weight : ℕ → List Act → ℕ
weight k [] = 0
weight k (act ∷ done) = act_weight k act + weight k done

-- to how many replicas an entry may be delivered
abbrev pub others : Scene → ℕ
others scene = scene.replicas - 1

-- the most events of one try of the command with this number, and of all its tries
abbrev pub try_at : Rules → Scene → SessionPlan → ℕ → ℕ
try_at p scene plan n = option_map_or (λ (command : Command). option_map_or (λ op. most_in_try scene op.body) (slice_get p.ops command.op) 0) (slice_get plan.commands n) 0

abbrev pub tries_at : Rules → Scene → SessionPlan → ℕ → ℕ
tries_at p scene plan n = option_map_or (most_for p scene) (slice_get plan.commands n) 0

pub tries_of : (p : Rules) (scene : Scene) (plan : SessionPlan) (n : ℕ) → tries_at p scene plan n ≡ scene.tries * try_at p scene plan n
tries_of p scene plan n = each (slice_get plan.commands n)
  where
    each : (o : Option Command) → option_map_or (most_for p scene) o 0 ≡ scene.tries * option_map_or (λ (command : Command). option_map_or (λ op. most_in_try scene op.body) (slice_get p.ops command.op) 0) o 0
    each None = sym (mul-zero scene.tries)
    each (Some command) = refl

-- the command under way may leave this mark next
pub record NextAt (p : Rules) (scene : Scene) (plan : SessionPlan) (done : List Act) (mark : Mark) : Type 0 where
  pub command : Command
  pub op : OpRules
  pub present : slice_get plan.commands (place scene.tries done).command ≡ Some command
  pub found : slice_get p.ops command.op ≡ Some op
  pub reads : Reads p.shape op.body (number_of_args command.args) (marks (attempt done) ++ mark ∷ [])

-- a guard is granted, and its query must come next
pub record Pending (p : Rules) (scene : Scene) (plan : SessionPlan) (done : List Act) : Type 0 where
  pub guard : ℕ
  pub store : List CellValue
  pub next : NextAt p scene plan done (Asked guard store)
  pub live : has_grant guard done ≡ true
  pub most : weight (others scene) (attempt done) ≤ prices (others scene) (marks (attempt done)) + 1

-- what is done is paid for by the commands that are done and the refusals of the one under way, but
-- for the attempt; this is paid for by its marks, or by them and a query that must come
pub record Tally (p : Rules) (scene : Scene) (plan : SessionPlan) (done : List Act) : Type 0 where
  pub few : (place scene.tries done).refusals < scene.tries
  pub total : weight (others scene) done ≤ below (place scene.tries done).command (tries_at p scene plan) + (place scene.tries done).refusals * try_at p scene plan (place scene.tries done).command + weight (others scene) (attempt done)
  pub full : weight (others scene) (attempt done) ≤ try_at p scene plan (place scene.tries done).command
  pub calm : (weight (others scene) (attempt done) ≤ prices (others scene) (marks (attempt done))) ⊎ Pending p scene plan done

-- ---- what may be next

module _ (p : Rules) (scene : Scene) (plan : SessionPlan) where
  -- it is paid for
  pub fits : (done : List Act) (mark : Mark) → NextAt p scene plan done mark → prices (others scene) (marks (attempt done)) + price (others scene) mark ≤ try_at p scene plan (place scene.tries done).command
  fits done mark next =
      let whole : prices (others scene) (marks (attempt done) ++ mark ∷ []) ≤ longest next.op.body + others scene * most_issues next.op.body = prices_within (others scene) p.shape next.op.body (number_of_args next.command.args) (marks (attempt done) ++ mark ∷ []) next.reads
      in let is : try_at p scene plan (place scene.tries done).command ≡ longest next.op.body + others scene * most_issues next.op.body = rw (next.present, next.found) refl
      in omega (arith, prices_push (others scene) (marks (attempt done)) mark)

  -- where a query may be, it must be
  pub must_ask : (done : List Act) (guard : ℕ) (store : List CellValue) (mark : Mark) → NextAt p scene plan done (Asked guard store) → NextAt p scene plan done mark → SameMark (Asked guard store) mark
  must_ask done guard store mark ask next =
      let same : next.command ≡ ask.command = same_Some next.command ask.command (sym next.present ∙ ask.present)
      in let found : slice_get p.ops ask.command.op ≡ Some next.op = subst (λ (c : Command). slice_get p.ops c.op ≡ Some next.op) same next.found
      in let same_op : next.op ≡ ask.op = same_Some next.op ask.op (sym found ∙ ask.found)
      in let read : Reads p.shape next.op.body (number_of_args ask.command.args) (marks (attempt done) ++ mark ∷ []) = subst (λ (c : Command). Reads p.shape next.op.body (number_of_args c.args) (marks (attempt done) ++ mark ∷ [])) same next.reads
      in same_mark p.shape ask.op.body (number_of_args ask.command.args) (marks (attempt done)) (Asked guard store) mark ask.reads
      (subst (λ (o : OpRules). Reads p.shape o.body (number_of_args ask.command.args) (marks (attempt done) ++ mark ∷ [])) same_op read)

  -- so no guard is pending whose query has no grant
  pub not_pending : (done : List Act) (guard : ℕ) (store : List CellValue) → NextAt p scene plan done (Asked guard store) → has_grant guard done ≡ false → Pending p scene plan done → ⊥
  not_pending done guard store next fresh pending =
      let same : pending.guard ≡ guard = must_ask done pending.guard pending.store (Asked guard store) pending.next next
      in let live : has_grant guard done ≡ true = rw same at pending.live
      in clash (sym fresh ∙ live)
    where
      clash : false ≡ true → ⊥
      clash e = cc

  -- ---- acts that go on

  pub tally_grant : (done : List Act) (guard : ℕ) (store : List CellValue) → NextAt p scene plan done (Asked guard store) → has_grant guard done ≡ false → Tally p scene plan done → Tally p scene plan (Granted guard ∷ done)
  tally_grant done guard store next fresh t = even t.calm
    where
      even : (weight (others scene) (attempt done) ≤ prices (others scene) (marks (attempt done))) ⊎ Pending p scene plan done → Tally p scene plan (Granted guard ∷ done)
      even (inl h) =
          let fit : prices (others scene) (marks (attempt done)) + 2 ≤ try_at p scene plan (place scene.tries done).command = fits done (Asked guard store) next
          in record {
            few = t.few;
            total = omega (arith, t.total);
            full = omega arith;
            calm = inr (record {
              guard = guard;
              store = store;
              next = record { command = next.command; op = next.op; present = next.present; found = next.found; reads = next.reads };
              live = rw (eq-eqb guard guard refl) refl;
              most = omega arith;
            });
          }
      even (inr pending) = absurd (not_pending done guard store next fresh pending)

  pub tally_query : (done : List Act) (guard : ℕ) (store : List CellValue) → NextAt p scene plan done (Asked guard store) → Tally p scene plan done → Tally p scene plan (Did (Asked guard store) ∷ done)
  tally_query done guard store next t =
      let fit : prices (others scene) (marks (attempt done)) + 2 ≤ try_at p scene plan (place scene.tries done).command = fits done (Asked guard store) next
      in let push : prices (others scene) (marks (attempt done) ++ Asked guard store ∷ []) ≡ prices (others scene) (marks (attempt done)) + 2 = prices_push (others scene) (marks (attempt done)) (Asked guard store)
      in let paid : weight (others scene) (attempt done) ≤ prices (others scene) (marks (attempt done)) + 1 = paid t.calm
      in record {
        few = t.few;
        total = omega (arith, t.total);
        full = omega arith;
        calm = inl (omega arith);
      }
    where
      paid : (weight (others scene) (attempt done) ≤ prices (others scene) (marks (attempt done))) ⊎ Pending p scene plan done → weight (others scene) (attempt done) ≤ prices (others scene) (marks (attempt done)) + 1
      paid (inl h) = omega arith
      paid (inr pending) = pending.most

  -- the attempt is paid for by its marks where what comes next is no query that is granted
  even_at : (done : List Act) (mark : Mark) → NextAt p scene plan done mark → ((guard : ℕ) (store : List CellValue) → SameMark (Asked guard store) mark → ⊥) → Tally p scene plan done → weight (others scene) (attempt done) ≤ prices (others scene) (marks (attempt done))
  even_at done mark next never t = even t.calm
    where
      even : (weight (others scene) (attempt done) ≤ prices (others scene) (marks (attempt done))) ⊎ Pending p scene plan done → weight (others scene) (attempt done) ≤ prices (others scene) (marks (attempt done))
      even (inl h) = h
      even (inr pending) = absurd (never pending.guard pending.store (must_ask done pending.guard pending.store mark pending.next next))

  pub tally_issue : (done : List Act) (effect : List Atom) → NextAt p scene plan done (Issued effect) → Tally p scene plan done → Tally p scene plan (Did (Issued effect) ∷ done)
  tally_issue done effect next t =
      let even : weight (others scene) (attempt done) ≤ prices (others scene) (marks (attempt done)) = even_at done (Issued effect) next (λ guard store is. is) t
      in let fit : prices (others scene) (marks (attempt done)) + (1 + others scene) ≤ try_at p scene plan (place scene.tries done).command = fits done (Issued effect) next
      in let push : prices (others scene) (marks (attempt done) ++ Issued effect ∷ []) ≡ prices (others scene) (marks (attempt done)) + (1 + others scene) = prices_push (others scene) (marks (attempt done)) (Issued effect)
      in record {
        few = t.few;
        total = omega (arith, t.total);
        full = omega arith;
        calm = inl (omega arith);
      }

  pub tally_release : (done : List Act) → NextAt p scene plan done Released → Tally p scene plan done → Tally p scene plan (Did Released ∷ done)
  tally_release done next t =
      let even : weight (others scene) (attempt done) ≤ prices (others scene) (marks (attempt done)) = even_at done Released next (λ guard store is. is) t
      in let fit : prices (others scene) (marks (attempt done)) + 1 ≤ try_at p scene plan (place scene.tries done).command = fits done Released next
      in let push : prices (others scene) (marks (attempt done) ++ Released ∷ []) ≡ prices (others scene) (marks (attempt done)) + 1 = prices_push (others scene) (marks (attempt done)) Released
      in record {
        few = t.few;
        total = omega (arith, t.total);
        full = omega arith;
        calm = inl (omega arith);
      }

  -- ---- acts that end a try

  -- an attempt that is to begin
  begun : (done : List Act) (n r : ℕ) → place scene.tries done ≡ record { command = n; refusals = r } → attempt done ≡ [] → r < scene.tries → weight (others scene) done ≤ below n (tries_at p scene plan) + r * try_at p scene plan n → Tally p scene plan done
  begun done n r at none few total = record {
    few = rw at few;
    total = rw (at, none) (omega arith);
    full = rw none (omega arith);
    calm = inl (rw none (omega arith));
  }

  -- with one act more a try is full
  spent : (done : List Act) → weight (others scene) (attempt done) + 1 ≤ try_at p scene plan (place scene.tries done).command → Tally p scene plan done → 1 + weight (others scene) done ≤ below (place scene.tries done).command (tries_at p scene plan) + suc (place scene.tries done).refusals * try_at p scene plan (place scene.tries done).command
  spent done room t = omega (arith, t.total, suc-mul (place scene.tries done).refusals (try_at p scene plan (place scene.tries done).command))

  -- so many tries are all that the command has
  all_spent : (n r : ℕ) → r < scene.tries → below n (tries_at p scene plan) + suc r * try_at p scene plan n ≤ below (suc n) (tries_at p scene plan)
  all_spent n r few =
      let most : suc r * try_at p scene plan n ≤ scene.tries * try_at p scene plan n = mul-le-mul_right {m = suc r} {n = scene.tries} (try_at p scene plan n) (omega arith)
      in omega (arith, tries_of p scene plan n)

  over : (done : List Act) → weight (others scene) (attempt done) + 1 ≤ try_at p scene plan (place scene.tries done).command → Tally p scene plan done → 1 + weight (others scene) done ≤ below ((place scene.tries done).command + 1) (tries_at p scene plan) + 0 * try_at p scene plan ((place scene.tries done).command + 1)
  over done room t =
      let e : (place scene.tries done).command + 1 ≡ suc (place scene.tries done).command = omega arith
      in rw (e, zero-mul) (omega (arith, spent done room t, all_spent (place scene.tries done).command (place scene.tries done).refusals t.few))

  pub tally_return : (done : List Act) (value : ℤ) → NextAt p scene plan done (Returned value) → Tally p scene plan done → Tally p scene plan (Did (Returned value) ∷ done)
  tally_return done value next t =
      let even : weight (others scene) (attempt done) ≤ prices (others scene) (marks (attempt done)) = even_at done (Returned value) next (λ guard store is. is) t
      in let fit : prices (others scene) (marks (attempt done)) + 1 ≤ try_at p scene plan (place scene.tries done).command = fits done (Returned value) next
      in begun (Did (Returned value) ∷ done) ((place scene.tries done).command + 1) 0 refl refl (omega (arith, t.few)) (over done (omega arith) t)

  -- a refusal where a mark might have come
  refused : (done : List Act) (cause : Cause) → weight (others scene) (attempt done) + 1 ≤ try_at p scene plan (place scene.tries done).command → Tally p scene plan done → Tally p scene plan (Refused cause ∷ done)
  refused done cause room t = elim (cases_Bool (eqb ((place scene.tries done).refusals + 1) scene.tries)) [
    | inl last ↦ begun (Refused cause ∷ done) ((place scene.tries done).command + 1) 0 (rw last refl) refl (omega (arith, t.few)) (over done room t)
    | inr more ↦
        let e : (place scene.tries done).refusals + 1 ≡ suc (place scene.tries done).refusals = omega arith
        in let left : (place scene.tries done).refusals + 1 < scene.tries = more_left (place scene.tries done).refusals t.few more
        in begun (Refused cause ∷ done) (place scene.tries done).command ((place scene.tries done).refusals + 1) (rw more refl) refl left
        (rw e (spent done room t))
  ]
    where
      clash : true ≡ false → ⊥
      clash e = cc

      more_left : (r : ℕ) → r < scene.tries → eqb (r + 1) scene.tries ≡ false → r + 1 < scene.tries
      more_left r few more = elim (cases_lt (r + 1) scene.tries) [
        | inl h ↦ h
        | inr h ↦ let q : r + 1 ≡ scene.tries = omega arith in absurd (clash (sym (eq-eqb (r + 1) scene.tries q) ∙ more))
      ]

  pub tally_barred : (done : List Act) (effect : List Atom) (cause : Cause) → NextAt p scene plan done (Issued effect) → Tally p scene plan done → Tally p scene plan (Refused cause ∷ done)
  tally_barred done effect cause next t =
      let even : weight (others scene) (attempt done) ≤ prices (others scene) (marks (attempt done)) = even_at done (Issued effect) next (λ guard store is. is) t
      in let fit : prices (others scene) (marks (attempt done)) + (1 + others scene) ≤ try_at p scene plan (place scene.tries done).command = fits done (Issued effect) next
      in refused done cause (omega arith) t

  pub tally_behind : (done : List Act) (guard : ℕ) (store : List CellValue) (cause : Cause) → NextAt p scene plan done (Asked guard store) → has_grant guard done ≡ false → Tally p scene plan done → Tally p scene plan (Refused cause ∷ done)
  tally_behind done guard store cause next fresh t = even t.calm
    where
      even : (weight (others scene) (attempt done) ≤ prices (others scene) (marks (attempt done))) ⊎ Pending p scene plan done → Tally p scene plan (Refused cause ∷ done)
      even (inl h) =
          let fit : prices (others scene) (marks (attempt done)) + 2 ≤ try_at p scene plan (place scene.tries done).command = fits done (Asked guard store) next
          in refused done cause (omega arith) t
      even (inr pending) = absurd (not_pending done guard store next fresh pending)

  pub tally_start : 1 ≤ scene.tries → Tally p scene plan []
  tally_start some = begun [] 0 0 refl refl (omega arith) (omega arith)

  -- ---- in all

  pub all_tries : (done : List Act) → Tally p scene plan done → weight (others scene) done ≤ sum_by (most_for p scene) plan.commands
  all_tries done t =
      let here : weight (others scene) done ≤ below (place scene.tries done).command (tries_at p scene plan) + suc (place scene.tries done).refusals * try_at p scene plan (place scene.tries done).command =
      omega (arith, t.total, t.full, suc-mul (place scene.tries done).refusals (try_at p scene plan (place scene.tries done).command))
      in omega (
        arith,
        all_spent (place scene.tries done).command (place scene.tries done).refusals t.few,
        below_cap (tries_at p scene plan) (length plan.commands) (suc (place scene.tries done).command) none,
        sum_below (most_for p scene) plan.commands,
      )
    where
      none : (i : ℕ) → length plan.commands ≤ i → tries_at p scene plan i ≡ 0
      none i past = rw (slice_get_past plan.commands i past) refl
