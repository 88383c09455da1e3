-- Entries give the same store in the order in which they came and in the journal's order.
use Rattle.std.proofs.Common.{◌≡◌, ◌≢◌, ℕ, ◌+◌, ◌<◌, Bool, true, false, cond, eqb, ◌&&◌, ◌||◌, List, [], ◌∷◌, ◌++◌, length, Some, refl, sym, ◌∙◌, ap, zero-add, inl, inr, get_or, arith}
use Rattle.std.specs.Prelude.{slice_get}
use Rattle.std.proofs.lemmas.Bool.{cases_Bool, eqb-true, eq-eqb, ne_eqb}
use Rattle.std.proofs.lemmas.Option.{slice_get-get_or}
use Rattle.carol_store.specs.declared.effect.Atom.{Atom}
use Rattle.carol_store.specs.Actions.{Commutes, act_all, chosen_from}
use Rattle.carol_store.specs.Laws.{EffectsCommute}
use Rattle.carol_store.specs.Stores.{apply, apply_all}
use Rattle.carol_store.proofs.Actions.{act_all-append}
use Rattle.carol_store.proofs.Chosen.{act_all-chosen, chosen_from-same, chosen_from-all, chosen_from-push}
use Rattle.carol_program.specs.Rules.{Rules}
use Rattle.carol_program.specs.declared.scenes.Scene.{Scene}
use Rattle.carol_event.specs.declared.event.Event.{Event}
use Rattle.carol_event.specs.declared.event.Event.TheVariants.{Issue, Deliver}
use Rattle.carol_history.specs.Journals.{journal, is_at, is_held, held_store, local}
use Rattle.carol_history.specs.Laws.{OrdersAgree, ReplicasAgree}
use Rattle.carol_history.specs.Runs.{Run}
use Rattle.carol_history.proofs.Holdings.{held_within, not_held}

module _ {E S : Type 0} where
  -- a new entry, which is chosen or not
  entry_at : (act : E → S → S) (b : Bool) (f : ℕ → Bool) (i : ℕ) (es : List E) (e : E) (s : S) → i ≡ length es → f (length es) ≡ false → cond b (act e (act_all act (chosen_from f 0 es) s)) (act_all act (chosen_from f 0 es) s) ≡ act_all act (chosen_from (λ n. (eqb i n && b) || f n) 0 (es ++ e ∷ [])) s
  entry_at act b f i es e s number off =
      let g : ℕ → Bool = λ n. (eqb i n && b) || f n
      in let same : chosen_from g 0 es ≡ chosen_from f 0 es =
      chosen_from-same g f 0 es (λ n low high. let no : eqb i n ≡ false = ne_eqb i n (λ q. omega arith) in rw no refl)
      in let yes : eqb i (length es) ≡ true = eq-eqb i (length es) number
      in sym (ap (λ (xs : List E). act_all act xs s) (chosen_from-push g 0 es e)
      ∙ act_all-append act (chosen_from g 0 es) (cond (g (0 + length es)) (e ∷ []) []) s
      ∙ rw (same, zero-add, yes, off) (last b (act_all act (chosen_from f 0 es) s)))
    where
      last : (b : Bool) (y : S) → act_all act (cond ((true && b) || false) (e ∷ []) []) y ≡ cond b (act e y) y
      last true y = refl
      last false y = refl

  -- an entry that comes here
  comes_here : (act : E → S → S) → Commutes act → (f : ℕ → Bool) (i : ℕ) (es : List E) (e : E) (s : S) → slice_get es i ≡ Some e → f i ≡ false → act e (act_all act (chosen_from f 0 es) s) ≡ act_all act (chosen_from (λ n. (eqb i n && true) || f n) 0 es) s
  comes_here act commute f i es e s at off =
      let g : ℕ → Bool = λ n. (eqb i n && true) || f n
      in let off' : f (0 + i) ≡ false = rw zero-add off
      in let yes : eqb i i ≡ true = eq-eqb i i refl
      in let on : g (0 + i) ≡ true = rw (zero-add, yes) refl
      in let others : (n : ℕ) → n ≢ 0 + i → g n ≡ f n = λ n ne. let no : eqb i n ≡ false = ne_eqb i n (λ q. ne (omega arith)) in rw no refl
      in sym (act_all-chosen act commute f g 0 i es e s at off' on others)

  -- an entry that comes to another place
  comes_there : (act : E → S → S) (f : ℕ → Bool) (i : ℕ) (es : List E) (s : S) → act_all act (chosen_from f 0 es) s ≡ act_all act (chosen_from (λ n. (eqb i n && false) || f n) 0 es) s
  comes_there act f i es s =
      ap (λ (xs : List E). act_all act xs s)
      (chosen_from-same f (λ n. (eqb i n && false) || f n) 0 es (λ n low high. same (eqb i n) (f n)))
    where
      same : (b c : Bool) → c ≡ ((b && false) || c)
      same true c = refl
      same false c = refl

pub orders_agree : EffectsCommute → OrdersAgree
orders_agree commute p scene [] run replica = refl
orders_agree commute p scene (Issue session i effect ∷ past) run replica =
    let off : is_held scene.sessions replica (length (journal past)) past ≡ false = not_held p scene past run.1 replica (length (journal past)) (omega arith)
    in rw (orders_agree commute p scene past run.1 replica)
    (entry_at (apply p.shape) (is_at scene.sessions session replica) (λ entry. is_held scene.sessions replica entry past) i (journal past) effect p.initial run.0.number off)
orders_agree commute p scene (Deliver source target i ∷ past) run replica =
    let f : ℕ → Bool = λ entry. is_held scene.sessions replica entry past
    in let here : local p scene replica past ≡ held_store p scene replica past = orders_agree commute p scene past run.1 replica
    in let within : i < length (journal past) = held_within p scene past run.1 source i run.0.held
    in elim (cases_Bool (eqb target replica)) [
      | inl hit ↦
          let e : target ≡ replica = eqb-true target replica hit
          in let off : is_held scene.sessions replica i past ≡ false = rw e at run.0.lacking
          in rw (hit, here) (comes_here (apply p.shape) (commute p.shape) f i (journal past) (get_or (journal past) i []) p.initial (slice_get-get_or (journal past) i [] within) off)
      | inr miss ↦ rw (miss, here) (comes_there (apply p.shape) f i (journal past) p.initial)
    ]
orders_agree commute p scene (event ∷ past) run replica = orders_agree commute p scene past run.1 replica

pub replicas_agree : EffectsCommute → (p : Rules) (scene : Scene) (past : List Event) → Run p scene past → ReplicasAgree p scene past
replicas_agree commute p scene past run = record {
  same = λ one other h. orders_agree commute p scene past run one
      ∙ ap (λ (xs : List (List Atom)). apply_all p.shape xs p.initial)
      (chosen_from-same (λ e. is_held scene.sessions one e past) (λ e. is_held scene.sessions other e past) 0 (journal past) (λ e low high. h e (omega arith)))
      ∙ sym (orders_agree commute p scene past run other);
  whole = λ replica h. orders_agree commute p scene past run replica
      ∙ ap (λ (xs : List (List Atom)). apply_all p.shape xs p.initial)
      (chosen_from-all (λ e. is_held scene.sessions replica e past) 0 (journal past) (λ e low high. h e (omega arith)));
}
