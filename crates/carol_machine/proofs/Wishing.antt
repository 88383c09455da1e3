-- What an operation does next is what its session wishes for.
use Rattle.std.proofs.Common.{◌≡◌, ℕ, zero, suc, ◌<◌, Bool, true, false, List, [], ◌∷◌, ◌++◌, length, get_or, refl, sym, subst}
use Rattle.std.specs.Prelude.{◌↔◌, ℤ, Option, Some, None, slice_get, if◌then◌else◌}
use Rattle.carol_store.specs.declared.shape.CellKind.{CellKind}
use Rattle.carol_store.specs.declared.effect.Atom.{Atom}
use Rattle.carol_store.specs.Effects.{AreAtomsOf}
use Rattle.carol_store.specs.Kinds.{CellValue}
use Rattle.carol_formula.specs.Claim.{truth}
use Rattle.carol_program.specs.Bodies.{Body, Query, Issue, Release, Branch, Return}
use Rattle.carol_program.specs.Rules.{Rules}
use Rattle.carol_program.specs.Variables.{number_of_args}
use Rattle.carol_program.specs.WellFormed.{AreRules, IsFitBody, IsOpOver, Setting, setting_of}
use Rattle.carol_program.specs.declared.scenes.Command.{Command}
use Rattle.carol_program.specs.declared.scenes.SessionPlan.{SessionPlan}
use Rattle.carol_reading.specs.declared.action.Action.{Action}
use Rattle.carol_reading.specs.declared.action.Action.TheVariants as action
use Rattle.carol_reading.specs.Good.{IsAccepted, IsGood, MayLeave}
use Rattle.carol_reading.specs.Marks.{Mark, Asked, Issued, Released, Returned, queried, HasNotReturned}
use Rattle.carol_reading.specs.Nexts.{next_of, IsNextOf, Suits}
use Rattle.carol_reading.specs.Readings.{with_query}
use Rattle.carol_reading.specs.Walks.{BringsTo, IsWalkOf}
use Rattle.carol_reading.proofs.Following.{following}
use Rattle.carol_history.specs.Acts.{Act, Granted, Did, Refused, attempt, has_grant, marks}
use Rattle.carol_history.proofs.Actors.{at_place}
use Rattle.carol_machine.specs.declared.wish.Wish.{Wish}
use Rattle.carol_machine.specs.declared.wish.Wish.TheVariants as wish
use Rattle.carol_machine.specs.States.{SessionState, IsAt}
use Rattle.carol_machine.specs.Wishes.{IsFit, IsInOrder, IsNextWish, IsUnder, IsWishOf, ReadsSoFar, action_of, wish_of, wish_to_query}

-- ---- an attempt's marks have no return

push_not_returned : (before : List Mark) (mark : Mark) → HasNotReturned before → HasNotReturned (mark ∷ []) → HasNotReturned (before ++ mark ∷ [])
push_not_returned [] mark h m = m
push_not_returned (Asked g x ∷ before) mark h m = push_not_returned before mark h m
push_not_returned (Issued e ∷ before) mark h m = push_not_returned before mark h m
push_not_returned (Released ∷ before) mark h m = push_not_returned before mark h m
push_not_returned (Returned v ∷ before) mark h m = absurd h

attempt_not_returned : (done : List Act) → HasNotReturned (marks (attempt done))
attempt_not_returned [] = tt
attempt_not_returned (Granted guard ∷ done) = attempt_not_returned done
attempt_not_returned (Did (Asked guard store) ∷ done) = push_not_returned (marks (attempt done)) (Asked guard store) (attempt_not_returned done) tt
attempt_not_returned (Did (Issued effect) ∷ done) = push_not_returned (marks (attempt done)) (Issued effect) (attempt_not_returned done) tt
attempt_not_returned (Did Released ∷ done) = push_not_returned (marks (attempt done)) Released (attempt_not_returned done) tt
attempt_not_returned (Did (Returned value) ∷ done) = tt
attempt_not_returned (Refused cause ∷ done) = tt

-- so they bring the operation as far as the walk of a session that stands there
pub brings : (m : SessionState) (done : List Act) → IsAt m done → BringsTo (marks (attempt done)) m.walk
brings m done at = record { stores = sym at.stores; done = sym at.count; goes_on = attempt_not_returned done }

-- ---- a body asks only for guards that there are

-- the guard of a query is one that there is
abbrev IsNamed : ℕ → Option Action → Type 0
IsNamed guards None = Unit {0}
IsNamed guards (Some (action.Query guard)) = guard < guards
IsNamed guards (Some (action.Issue effect)) = Unit {0}
IsNamed guards (Some action.Release) = Unit {0}
IsNamed guards (Some (action.Return value)) = Unit {0}

one_of : (guards : ℕ) (b : Bool) (next other : Option Action) → IsNamed guards next → IsNamed guards other → IsNamed guards (if b then next else other)
one_of guards true next other h g = h
one_of guards false next other h g = g

next_named : (kinds : List CellKind) (setting : Setting) (slots : List ℕ) (body : Body) (f : ℕ → ℤ) (stores : List (List CellValue)) (done : ℕ) → IsFitBody setting slots body → IsNamed setting.guards (next_of kinds body f stores done)
next_named kinds setting slots (Query number guard slot next) f stores zero fit = fit.0
next_named kinds setting slots (Query number guard slot next) f [] (suc done) fit = tt
next_named kinds setting slots (Query number guard slot next) f (x ∷ stores) (suc done) fit = next_named kinds setting (slot ∷ slots) next (with_query slot x f) stores done fit.1
next_named kinds setting slots (Issue number parts next) f stores zero fit = tt
next_named kinds setting slots (Issue number parts next) f stores (suc done) fit = next_named kinds setting slots next f stores done fit.1
next_named kinds setting slots (Release number next) f stores zero fit = tt
next_named kinds setting slots (Release number next) f stores (suc done) fit = next_named kinds setting slots next f stores done fit
next_named kinds setting slots (Branch number test first second) f stores done fit =
    one_of setting.guards (truth test f) _ _ (next_named kinds setting slots first f stores done fit.1) (next_named kinds setting slots second f stores done fit.2)
next_named kinds setting slots (Return number value) f stores done fit = tt

suited_named : (kinds : List CellKind) (guards : ℕ) (next : Option Action) (guard : ℕ) (store : List CellValue) → Suits kinds next (Asked guard store) → IsNamed guards next → guard < guards
suited_named kinds guards None guard store h n = absurd h
suited_named kinds guards (Some (action.Query g)) guard store h n = rw h.0 n
suited_named kinds guards (Some (action.Issue e)) guard store h n = absurd h
suited_named kinds guards (Some action.Release) guard store h n = absurd h
suited_named kinds guards (Some (action.Return v)) guard store h n = absurd h

-- ---- the wish

same_action : (live : List Bool) (next : Action) → action_of (wish_of live next) ≡ Some next
same_action live (action.Query guard) = either (get_or live guard false)
  where
    either : (b : Bool) → action_of (wish_to_query b guard) ≡ Some (action.Query guard)
    either true = refl
    either false = refl
same_action live (action.Issue effect) = refl
same_action live action.Release = refl
same_action live (action.Return value) = refl

-- a wish that fits is not the end
goes_on : (p : Rules) (plan : SessionPlan) (tries : ℕ) (done : List Act) (w : Wish) → IsNextWish p plan tries done w → IsWishOf p plan tries done w
goes_on p plan tries done (wish.Guard guard) n = n
goes_on p plan tries done (wish.Query guard) n = n
goes_on p plan tries done (wish.Issue effect) n = n
goes_on p plan tries done wish.Release n = n
goes_on p plan tries done (wish.Return value) n = n
goes_on p plan tries done wish.Finished n = absurd n.fit

module _ (p : Rules) (rules : AreRules p) (accepted : IsAccepted p) (command : Command) (m : SessionState) (w : IsWalkOf p command m.walk) (next : Action) (is : IsNextOf p command m.walk next) where
  -- the walk's own marks lead to it
  leads : (mark : Mark) → Suits p.shape (Some next) mark → MayLeave p w.op command.args w.marks mark
  leads mark = (is w.op w.marks mark w.found w.brings w.reading.reads).1

  op_over : IsOpOver p.shape (length p.guards) w.op
  op_over = at_place (IsOpOver p.shape (length p.guards)) p.ops command.op w.op rules.ops w.found

  there_is : (guard : ℕ) → Suits p.shape (Some next) (Asked guard p.initial) → guard < length p.guards
  there_is guard suits = suited_named p.shape (length p.guards) (next_of p.shape w.op.body (number_of_args command.args) (queried w.marks) (length w.marks)) guard p.initial
      ((following p.shape w.op.body (number_of_args command.args) w.marks w.reading.reads w.brings.goes_on (Asked guard p.initial)).0 (leads (Asked guard p.initial) suits))
      (next_named p.shape (setting_of p.shape (length p.guards) w.op) [] w.op.body (number_of_args command.args) (queried w.marks) (length w.marks) op_over.body)

  of_shape : (effect : List Atom) → Suits p.shape (Some next) (Issued effect) → AreAtomsOf p.shape effect
  of_shape effect suits = (at_place (IsGood p) p.ops command.op w.op accepted.good w.found).fits command.args w.marks effect w.ended w.current w.reading (leads (Issued effect) suits)

fits : (p : Rules) → AreRules p → IsAccepted p → (command : Command) (m : SessionState) → IsWalkOf p command m.walk → (next : Action) → IsNextOf p command m.walk next → IsInOrder (wish_of m.live next) → (done : List Act) → IsAt m done → IsFit p done (wish_of m.live next)
fits p rules accepted command m w (action.Query guard) is order done at =
    asked (get_or m.live guard false) (at.live guard)
  where
    asked : (b : Bool) → b ≡ has_grant guard done → IsFit p done (wish_to_query b guard)
    asked true e = (there_is p rules accepted command m w (action.Query guard) is guard (refl, rules.store), sym e)
    asked false e = (there_is p rules accepted command m w (action.Query guard) is guard (refl, rules.store), sym e)
fits p rules accepted command m w (action.Issue effect) is order done at =
    (order, of_shape p rules accepted command m w (action.Issue effect) is effect refl)
fits p rules accepted command m w action.Release is order done at = tt
fits p rules accepted command m w (action.Return value) is order done at = tt

pub is_wish : (p : Rules) → AreRules p → IsAccepted p → (command : Command) (m : SessionState) → slice_get m.plan.commands m.at.command ≡ Some command → IsWalkOf p command m.walk → (next : Action) → IsNextOf p command m.walk next → IsInOrder (wish_of m.live next) → (done : List Act) → IsAt m done → ReadsSoFar p m.plan m.tries done → IsWishOf p m.plan m.tries done (wish_of m.live next)
is_wish p rules accepted command m present w next is order done at reads =
    let under : IsUnder p m.plan m.tries done = record {
      command = command;
      op = w.op;
      present = subst (λ at. slice_get m.plan.commands at.command ≡ Some command) at.place present;
      found = w.found;
    }
    in goes_on p m.plan m.tries done (wish_of m.live next) (record {
      way = under;
      next = λ mark.
          subst (λ (o : Option Action). MayLeave p w.op command.args (marks (attempt done)) mark ↔ Suits p.shape o mark) (sym (same_action m.live next))
          (is w.op (marks (attempt done)) mark w.found (brings m done at) (reads under));
      fit = fits p rules accepted command m w next is order done at;
    })
