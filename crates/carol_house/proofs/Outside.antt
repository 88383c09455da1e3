-- Which entries a replica lacks that a guard does not admit.
use Rattle.std.proofs.Common.{◌≡◌, ◌≢◌, ℕ, zero, suc, ◌<◌, ◌≤◌, Bool, true, false, cond, eqb, ◌&&◌, max, List, [], length, get_or, refl, sym, subst, ◌∙◌, inl, inr, arith}
use Rattle.std.specs.Prelude.{◌↔◌, ◌⊎◌, None}
use Rattle.std.proofs.lemmas.Bool.{and_parts, cases_lt, eqb-true, or_cases, or_parts}
use Rattle.carol_program.specs.Admitting.{admits}
use Rattle.carol_program.specs.Limits.{most_guards, most_replicas}
use Rattle.carol_history.specs.Journals.{effect_at, journal}
use Rattle.carol_history.specs.Laws.{HeldAreEntries}
use Rattle.carol_history.specs.Legal.{Admits, IsSettled}
use Rattle.carol_simulation.specs.Upheld.{TableDecides}
use Rattle.carol_holding.specs.Held.{holds}
use Rattle.carol_house.specs.declared.tables.Tables.{Tables}
use Rattle.carol_house.specs.House.{House, rules_of}
use Rattle.carol_house.specs.Kept.{AreSettled, AreSettledBelow, IsKept, settled_below}
use Rattle.carol_house.specs.Nexts.{IsFirstOutside, IsFirstUnsettled, IsOutside, is_settled}

module _ (h : House) (t : Tables) (capacity : ℕ) (k : IsKept h t capacity) (law : TableDecides) (held : HeldAreEntries h.scene h.history) (replica guard : ℕ) (inside : replica < h.scene.replicas) (named : guard < length (rules_of h).guards) where
  decides : (entry : ℕ) → (admits h.kept.accords guard (get_or t.journal.entries entry []) ≡ true) ↔ Admits (rules_of h) guard (effect_at entry h.history)
  decides entry = rw k.tables.journal (law (rules_of h) h.kept.accords guard (effect_at entry h.history) k.may.right named)

  -- what the tables say of an entry is so
  yes_settled : (entry : ℕ) → is_settled t h.kept.accords replica guard entry ≡ true → IsSettled (rules_of h) h.scene replica guard entry h.history
  yes_settled entry says = told (or_cases (holds t.holding replica entry) (admits h.kept.accords guard (get_or t.journal.entries entry [])) says)
    where
      told : (holds t.holding replica entry ≡ true) ⊎ (admits h.kept.accords guard (get_or t.journal.entries entry []) ≡ true) → IsSettled (rules_of h) h.scene replica guard entry h.history
      told (inl here) = inl (sym (k.tables.holding replica entry) ∙ here)
      told (inr within) = inr ((decides entry).0 within)

  -- the front is no entry above the journal's
  pub front_inside : (front : ℕ) → ((i : ℕ) → i < front → holds t.holding replica i ≡ true) → front ≤ length t.journal.entries
  front_inside zero below = omega arith
  front_inside (suc n) below =
      let last : n < length (journal h.history) = held replica n (sym (k.tables.holding replica n) ∙ below n (omega arith))
      in rw k.tables.journal (omega arith)

  pub start_inside : (front : ℕ) → ((i : ℕ) → i < front → holds t.holding replica i ≡ true) → max (settled_below t.settled replica guard) front ≤ length t.journal.entries
  start_inside front below =
      let one : settled_below t.settled replica guard ≤ length t.journal.entries = rw k.tables.journal (k.tables.settled replica guard inside named).0
      in omega (arith, front_inside front below)

  module _ (front found : ℕ) (below : (i : ℕ) → i < front → holds t.holding replica i ≡ true) (first : IsFirstUnsettled t h.kept.accords replica guard (max (settled_below t.settled replica guard) front) found) where
    -- all entries below the one that was found are settled
    pub settled_to : (entry : ℕ) → entry < found → IsSettled (rules_of h) h.scene replica guard entry h.history
    settled_to entry low = elim (cases_lt entry (settled_below t.settled replica guard)) [
      | inl known ↦ (k.tables.settled replica guard inside named).1 entry known
      | inr above ↦ elim (cases_lt entry front) [
        | inl in_front ↦ inl (sym (k.tables.holding replica entry) ∙ below entry in_front)
        | inr beyond ↦ yes_settled entry (first.settled entry (omega arith) low)
      ]
    ]

    found_below : AreSettledBelow (rules_of h) h.scene h.history replica guard found
    found_below = (rw (← k.tables.journal) first.to, settled_to)

    -- so they may be noted
    pub settled_set : (new : List (List ℕ)) → ((r g : ℕ) → r < most_replicas → g < most_guards → settled_below new r g ≡ cond (eqb replica r && eqb guard g) found (settled_below t.settled r g)) → AreSettled (rules_of h) h.scene h.history new
    settled_set new is r g there known =
        let noted : settled_below new r g ≡ cond (eqb replica r && eqb guard g) found (settled_below t.settled r g) = is r g (omega (arith, k.valid.few_replicas)) (omega (arith, k.may.well_formed.rules.few_guards))
        in rw noted (told (eqb replica r && eqb guard g) refl)
      where
        told : (b : Bool) → (eqb replica r && eqb guard g) ≡ b → AreSettledBelow (rules_of h) h.scene h.history r g (cond b found (settled_below t.settled r g))
        told true e =
            let parts = and_parts (eqb replica r) (eqb guard g) e
            in subst (λ (x : ℕ). AreSettledBelow (rules_of h) h.scene h.history x g found) (eqb-true replica r parts.0)
            (subst (λ (x : ℕ). AreSettledBelow (rules_of h) h.scene h.history replica x found) (eqb-true guard g parts.1) found_below)
        told false e = k.tables.settled r g there known

    pub none_outside : found ≡ length t.journal.entries → IsFirstOutside (rules_of h) h.scene replica guard None h.history
    none_outside e entry low = settled_to entry (let low' : entry < length t.journal.entries = rw k.tables.journal low in omega arith)

    pub found_outside : found ≢ length t.journal.entries → IsOutside (rules_of h) h.scene replica guard found h.history
    found_outside apart =
        let low : found < length t.journal.entries = before (cases_lt found (length t.journal.entries))
        in let says = or_parts (holds t.holding replica found) (admits h.kept.accords guard (get_or t.journal.entries found [])) (first.stops low)
        in record {
          inside = rw (← k.tables.journal) low;
          lacking = sym (k.tables.holding replica found) ∙ says.0;
          outside = λ within. clash (sym says.1 ∙ (decides found).1 within);
          lowest = settled_to;
        }
      where
        clash : false ≡ true → ⊥
        clash e = cc

        before : (found < length t.journal.entries) ⊎ (length t.journal.entries ≤ found) → found < length t.journal.entries
        before (inl low) = low
        before (inr high) = absurd (apart (omega (arith, first.to)))

-- a house with other notes of what is settled
pub kept_settled : (h : House) (t : Tables) (capacity : ℕ) → IsKept h t capacity → (settled : List (List ℕ)) → AreSettled (rules_of h) h.scene h.history settled → IsKept h (record t { settled = settled }) capacity
kept_settled h t capacity k settled are = record {
  may = k.may;
  valid = k.valid;
  run = k.run;
  few = k.few;
  tables = record {
    machines = k.tables.machines;
    machine_each = k.tables.machine_each;
    grants = k.tables.grants;
    grants_each = k.tables.grants_each;
    table = k.tables.table;
    holding = k.tables.holding;
    holding_each = k.tables.holding_each;
    journal = k.tables.journal;
    locals = k.tables.locals;
    locals_each = k.tables.locals_each;
    global = k.tables.global;
    joined = k.tables.joined;
    settled = are;
  };
  room = record { events = k.room.events; holding = k.room.holding; journal = k.room.journal };
}
