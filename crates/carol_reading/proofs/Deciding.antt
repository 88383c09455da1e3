-- What an accepted program's operation does next: there is such an action, it is one of the shape,
-- and what may follow is what it may leave.
use Rattle.std.proofs.Common.{ℕ, zero, suc, ◌≡◌, Bool, true, false, List, [], ◌∷◌, ◌++◌, length, get_or, map, refl, sym, ◌∙◌, ap, subst}
use Rattle.std.specs.Prelude.{◌↔◌, ℤ, Option, Some, None, slice_get, if◌then◌else◌, MatchBool}
use Rattle.std.specs.List.{AllByRecursion}
use Rattle.carol_store.specs.declared.shape.CellKind.{CellKind}
use Rattle.carol_store.specs.Kinds.{CellValue}
use Rattle.carol_formula.specs.Claim.{truth}
use Rattle.carol_program.specs.declared.program.Op.{Op}
use Rattle.carol_program.specs.declared.program.Program.{Program}
use Rattle.carol_program.specs.declared.scenes.Command.{Command}
use Rattle.carol_program.specs.Accords.{Accords}
use Rattle.carol_program.specs.Bodies.{Body, body_of, Query, Issue, Release, Branch, Return}
use Rattle.carol_program.specs.Rules.{Rules, OpRules, op_rules, rules_in}
use Rattle.carol_program.specs.Variables.{number_of_args}
use Rattle.carol_program.specs.WellFormed.{IsOpOver, setting_of}
use Rattle.carol_reading.specs.declared.action.Action.{Action}
use Rattle.carol_reading.specs.declared.action.Action.TheVariants as action
use Rattle.carol_reading.specs.Good.{IsReading, IsGood}
use Rattle.carol_reading.specs.Kept.{MayBeKept}
use Rattle.carol_reading.specs.Marks.{Mark, Asked, Issued, Released, Returned, queried, HasNotReturned}
use Rattle.carol_reading.specs.Nexts.{next_of, Suits, IsAction, IsNextOf}
use Rattle.carol_reading.specs.Readings.{Reads, with_query}
use Rattle.carol_reading.specs.Walks.{Progress, IsWalkOf, StandsSomewhere}
use Rattle.carol_reading.proofs.Following.{following, stops}

-- ---- behind marks that a body reads something comes next

abbrev IsThere : Option Action → Type 0
IsThere None = ⊥
IsThere (Some next) = Unit {0}

on_side : (b : Bool) (first second : Type 0) (next other : Option Action) → MatchBool b first second → (first → IsThere next) → (second → IsThere other) → IsThere (if b then next else other)
on_side true first second next other r h g = h r
on_side false first second next other r h g = g r

is_there : (kinds : List CellKind) (body : Body) (f : ℕ → ℤ) (marks : List Mark) → Reads kinds body f marks → HasNotReturned marks → IsThere (next_of kinds body f (queried marks) (length marks))
is_there kinds (Query number guard slot next) f [] r n = tt
is_there kinds (Query number guard slot next) f (Asked g x ∷ marks) r n = is_there kinds next (with_query slot x f) marks r.2 n
is_there kinds (Query number guard slot next) f (Issued e ∷ marks) r n = absurd r
is_there kinds (Query number guard slot next) f (Released ∷ marks) r n = absurd r
is_there kinds (Query number guard slot next) f (Returned v ∷ marks) r n = absurd r
is_there kinds (Issue number parts next) f [] r n = tt
is_there kinds (Issue number parts next) f (Asked g x ∷ marks) r n = absurd r
is_there kinds (Issue number parts next) f (Issued e ∷ marks) r n = is_there kinds next f marks r.1 n
is_there kinds (Issue number parts next) f (Released ∷ marks) r n = absurd r
is_there kinds (Issue number parts next) f (Returned v ∷ marks) r n = absurd r
is_there kinds (Release number next) f [] r n = tt
is_there kinds (Release number next) f (Asked g x ∷ marks) r n = absurd r
is_there kinds (Release number next) f (Issued e ∷ marks) r n = absurd r
is_there kinds (Release number next) f (Released ∷ marks) r n = is_there kinds next f marks r n
is_there kinds (Release number next) f (Returned v ∷ marks) r n = absurd r
is_there kinds (Branch number test first second) f [] r n = on_side (truth test f) (Reads kinds first f []) (Reads kinds second f []) _ _ (stops_both (truth test f)) (λ h. is_there kinds first f [] h n) (λ h. is_there kinds second f [] h n)
  where
    stops_both : (b : Bool) → MatchBool b (Reads kinds first f []) (Reads kinds second f [])
    stops_both true = stops kinds first f
    stops_both false = stops kinds second f
is_there kinds (Branch number test first second) f (m ∷ marks) r n = on_side (truth test f) (Reads kinds first f (m ∷ marks)) (Reads kinds second f (m ∷ marks)) _ _ r (λ h. is_there kinds first f (m ∷ marks) h n) (λ h. is_there kinds second f (m ∷ marks) h n)
is_there kinds (Return number value) f marks r n = tt

-- ---- a good operation's next action is one of the shape

all_at : {A : Type 0} (P : A → Type 0) (xs : List A) (n : ℕ) (x : A) → AllByRecursion P xs → slice_get xs n ≡ Some x → P x
all_at P [] n x h e = absurd (nothing e)
  where
    nothing : None ≡ Some x → ⊥
    nothing q = cc
all_at P (y ∷ ys) zero x h e = subst P (first e) h.0
  where
    first : Some y ≡ Some x → y ≡ x
    first q = cc
all_at P (y ∷ ys) (suc n) x h e = all_at P ys n x h.1 e

good_next : (p : Rules) (op : OpRules) (args : List ℤ) (marks : List Mark) (ended : List (List CellValue)) (current : List CellValue) → IsGood p op → IsReading p op args marks ended current → HasNotReturned marks → IsAction p.shape (next_of p.shape op.body (number_of_args args) (queried marks) (length marks))
good_next p op args marks ended current good reading n = decide (next_of p.shape op.body (number_of_args args) (queried marks) (length marks)) refl
  where
    decide : (o : Option Action) → next_of p.shape op.body (number_of_args args) (queried marks) (length marks) ≡ o → IsAction p.shape o
    decide None q = subst IsThere q (is_there p.shape op.body (number_of_args args) marks reading.reads n)
    decide (Some (action.Query guard)) q = tt
    decide (Some (action.Issue e)) q = good.fits args marks e ended current reading ((following p.shape op.body (number_of_args args) marks reading.reads n (Issued e)).1 (subst (λ o. Suits p.shape o (Issued e)) (sym q) refl))
    decide (Some action.Release) q = tt
    decide (Some (action.Return value)) q = tt

-- ---- in the words of the code

op_found : (ops : List Op) (n : ℕ) (o : Op) (op : OpRules) → o ≡ get_or ops n o → slice_get (map op_rules ops) n ≡ Some op → op_rules o ≡ op
op_found [] n o op e h = absurd (nothing h)
  where
    nothing : None ≡ Some op → ⊥
    nothing q = cc
op_found (x ∷ xs) zero o op e h = ap op_rules e ∙ first h
  where
    first : Some (op_rules x) ≡ Some op → op_rules x ≡ op
    first q = cc
op_found (x ∷ xs) (suc n) o op e h = op_found xs n o op e h

module _ (program : Program) (command : Command) (walk : Progress) (ops : List Op) (o : Op) where
  -- the operation that was looked up is the command's
  abbrev IsLookedUp : Type 0
  IsLookedUp = (ops ≡ program.ops) × (o ≡ get_or ops command.op o)

  same_op : IsLookedUp → (op : OpRules) → slice_get (rules_in program).ops command.op ≡ Some op → op_rules o ≡ op
  same_op l op h = op_found ops command.op o op l.1 (subst (λ (xs : List Op). slice_get (map op_rules xs) command.op ≡ Some op) (sym l.0) h)

  pub stands : (accords : Accords) → IsLookedUp → MayBeKept program accords → IsWalkOf (rules_in program) command walk → StandsSomewhere (body_of o.body)
  stands accords l kept w = subst (λ (op : OpRules). StandsSomewhere op.body) (sym (same_op l w.op w.found)) (record {
    setting = setting_of (rules_in program).shape (length (rules_in program).guards) w.op;
    slots = [];
    fit = (all_at (IsOpOver (rules_in program).shape (length (rules_in program).guards)) (rules_in program).ops command.op w.op kept.well_formed.rules.ops w.found).body;
  })

  pub sound : (accords : Accords) (args : List ℤ) → IsLookedUp → MayBeKept program accords → args ≡ command.args → IsWalkOf (rules_in program) command walk → IsAction program.shape (next_of program.shape (body_of o.body) (number_of_args args) walk.stores walk.done)
  sound accords args l kept e w =
      subst (λ (xs : List ℤ). IsAction program.shape (next_of program.shape (body_of o.body) (number_of_args xs) walk.stores walk.done)) (sym e)
      (subst (λ (op : OpRules). IsAction program.shape (next_of program.shape op.body (number_of_args command.args) walk.stores walk.done)) (sym (same_op l w.op w.found))
      (subst (λ (n : ℕ). IsAction program.shape (next_of program.shape w.op.body (number_of_args command.args) walk.stores n)) w.brings.done
      (subst (λ (xs : List (List CellValue)). IsAction program.shape (next_of program.shape w.op.body (number_of_args command.args) xs (length w.marks))) w.brings.stores
      (good_next (rules_in program) w.op command.args w.marks w.ended w.current (all_at (IsGood (rules_in program)) (rules_in program).ops command.op w.op kept.accepted.good w.found) w.reading w.brings.goes_on))))

  pub is_next : (args : List ℤ) (next : Action) → IsLookedUp → args ≡ command.args → next_of program.shape (body_of o.body) (number_of_args args) walk.stores walk.done ≡ Some next → IsNextOf (rules_in program) command walk next
  is_next args next l e h op marks mark found brings reads = subst (λ (n : Option Action). Reads program.shape op.body (number_of_args command.args) (marks ++ mark ∷ []) ↔ Suits program.shape n mark) same (following program.shape op.body (number_of_args command.args) marks reads brings.goes_on mark)
    where
      same : next_of program.shape op.body (number_of_args command.args) (queried marks) (length marks) ≡ Some next
      same = ap (λ (xs : List (List CellValue)). next_of program.shape op.body (number_of_args command.args) xs (length marks)) brings.stores
          ∙ ap (λ (n : ℕ). next_of program.shape op.body (number_of_args command.args) walk.stores n) brings.done
          ∙ ap (λ (b : OpRules). next_of program.shape b.body (number_of_args command.args) walk.stores walk.done) (sym (same_op l op found))
          ∙ ap (λ (xs : List ℤ). next_of program.shape (body_of o.body) (number_of_args xs) walk.stores walk.done) (sym e)
          ∙ h
