-- What a session goes on with, read off its machine, and what bars its effect.
use Rattle.std.proofs.Common.{◌≡◌, ℕ, true, false, List, sym, subst, ◌∙◌}
use Rattle.std.specs.Prelude.{◌↔◌, Option, Some, None, slice_get}
use Rattle.std.proofs.lemmas.Option.{same_Some}
use Rattle.carol_store.specs.declared.effect.Atom.{Atom}
use Rattle.carol_store.specs.Stores.{IsStore}
use Rattle.carol_program.specs.Admitting.{admits}
use Rattle.carol_program.specs.Rules.{Rules, OpRules}
use Rattle.carol_program.specs.Variables.{number_of_args}
use Rattle.carol_program.specs.declared.scenes.Command.{Command}
use Rattle.carol_program.specs.declared.scenes.Scene.{Scene}
use Rattle.carol_reading.specs.Readings.{Reads}
use Rattle.carol_event.specs.declared.event.Event.{Event}
use Rattle.carol_history.specs.Acts.{UnderWay, acts, attempt, is_live, marks, place}
use Rattle.carol_history.specs.Journals.{global}
use Rattle.carol_history.specs.Laws.{LiveAreNamed}
use Rattle.carol_history.specs.Legal.{Admits}
use Rattle.carol_simulation.specs.Upheld.{AttemptsAreRead, HasReading, TableDecides}
use Rattle.carol_grant.specs.Grants.{IsBarredBy}
use Rattle.carol_machine.specs.declared.wish.Wish.{Wish}
use Rattle.carol_machine.specs.declared.wish.Wish.TheVariants as wish
use Rattle.carol_machine.specs.States.{SessionState}
use Rattle.carol_machine.specs.Wishes.{IsNextWish, IsWishOf, ReadsSoFar, StandsWell}
use Rattle.carol_house.specs.declared.tables.Tables.{Tables}
use Rattle.carol_house.specs.House.{House, rules_of}
use Rattle.carol_house.specs.Kept.{IsKept, IsMachineOf}
use Rattle.carol_house.specs.Nexts.{GoesOnWith, IsBarred, Wishes}
use Rattle.carol_house.proofs.Sound.{may_run}

-- ---- what a machine wishes for

module _ (p : Rules) (scene : Scene) (session : ℕ) (past : List Event) (m : SessionState) (one : IsMachineOf scene session (acts session past) m) (start : IsStore p.shape p.initial) where
  -- the command that its machine has under way is the session's
  under_way : (command : Command) → slice_get m.plan.commands (place m.tries (acts session past)).command ≡ Some command → UnderWay scene session past
  under_way command present = record { plan = m.plan; command = command; planned = one.planned; present = rw (← one.tries) present }

  goes_on : (w : Wish) → IsNextWish p m.plan m.tries (acts session past) w → GoesOnWith p scene session w past
  goes_on w next = record {
    next = λ mark suits. record {
      way = record { plan = m.plan; command = next.way.command; planned = one.planned; present = rw (← one.tries) next.way.present };
      op = next.way.op;
      found = next.way.found;
      reads = (next.next mark).1 suits;
    };
    fit = next.fit;
    start = start;
  }

  finished : slice_get m.plan.commands (place m.tries (acts session past)).command ≡ None → UnderWay scene session past → ⊥
  finished none way =
      let same : way.plan ≡ m.plan = same_Some way.plan m.plan (sym way.planned ∙ one.planned)
      in let there : slice_get m.plan.commands (place m.tries (acts session past)).command ≡ Some way.command = rw (← same, one.tries) way.present
      in clash (sym none ∙ there)
    where
      clash : None ≡ Some way.command → ⊥
      clash e = cc

  pub wishes : (w : Wish) → IsWishOf p m.plan m.tries (acts session past) w → Wishes p scene session w past
  wishes wish.Finished none = finished none
  wishes (wish.Guard guard) next = goes_on (wish.Guard guard) next
  wishes (wish.Query guard) next = goes_on (wish.Query guard) next
  wishes (wish.Issue effect) next = goes_on (wish.Issue effect) next
  wishes wish.Release next = goes_on wish.Release next
  wishes (wish.Return value) next = goes_on (wish.Return value) next

module _ (h : House) (t : Tables) (capacity : ℕ) (k : IsKept h t capacity) (law : AttemptsAreRead) (session : ℕ) (m : SessionState) (at : slice_get t.machines.items session ≡ Some m) where
  -- the machine's command under way reads what the attempt left
  reading : (command : Command) → slice_get m.plan.commands (place m.tries (acts session h.history)).command ≡ Some command → HasReading (rules_of h) command session h.history
  reading command present =
      let one : IsMachineOf h.scene session (acts session h.history) m = k.tables.machines session m at
      in law (rules_of h) h.scene h.history (may_run h t capacity k) k.run session (record { plan = m.plan; command = command; planned = one.planned; present = rw (← one.tries) present })

  pub stands_well : StandsWell (rules_of h) m
  stands_well command present =
      let one : IsMachineOf h.scene session (acts session h.history) m = k.tables.machines session m at
      in let r : HasReading (rules_of h) command session h.history = reading command (rw (← one.at.place) present)
      in record {
        op = r.op;
        marks = marks (attempt (acts session h.history));
        ended = r.ended;
        current = global (rules_of h) h.history;
        found = r.found;
        brings = record { stores = sym one.at.stores; done = sym one.at.count; goes_on = r.goes_on };
        reading = r.reading;
      }

  pub reads_so_far : ReadsSoFar (rules_of h) m.plan m.tries (acts session h.history)
  reads_so_far way =
      let r : HasReading (rules_of h) way.command session h.history = reading way.command way.present
      in let same : r.op ≡ way.op = same_Some r.op way.op (sym r.found ∙ way.found)
      in subst (λ (o : OpRules). Reads (rules_of h).shape o.body (number_of_args way.command.args) (marks (attempt (acts session h.history)))) same r.reading.reads

-- ---- what bars an effect

module _ (h : House) (t : Tables) (capacity : ℕ) (k : IsKept h t capacity) (law : TableDecides) (named : LiveAreNamed (rules_of h) h.scene h.history) (session : ℕ) (effect : List Atom) where
  -- the table of a live grant's guard tells whether it admits the effect
  decides : (s g : ℕ) → is_live s g h.history ≡ true → (admits t.grants.accords g effect ≡ true) ↔ Admits (rules_of h) g effect
  decides s g live = rw k.tables.table (law (rules_of h) h.kept.accords g effect k.may.right (named s g live).1)

  pub barred : (bar : Option (ℕ × ℕ)) → IsBarredBy t.grants session effect bar → IsBarred (rules_of h) session effect bar h.history
  barred None none = record { each = λ s g apart live. (decides s g live).0 (none s g apart (k.tables.grants s g ∙ live)) }
  barred (Some (holder, guard)) bar = record {
    other = bar.other;
    live = sym (k.tables.grants holder guard) ∙ bar.live;
    barring = λ within. clash (sym bar.barring ∙ (decides holder guard (sym (k.tables.grants holder guard) ∙ bar.live)).1 within);
    lowest = λ s g apart live before. (decides s g live).0 (bar.lowest s g apart (k.tables.grants s g ∙ live) before);
  }
    where
      clash : false ≡ true → ⊥
      clash e = cc
