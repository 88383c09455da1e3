-- What an operation does next, as a function of the stores that it was given and of how many
-- statements it has done.
use Rattle.std.specs.Prelude.{◌≡◌, ◌↔◌, ℕ, zero, suc, if◌then◌else◌, List, [], ◌∷◌, ℤ, Option, Some, None, slice_get}
use Rattle.carol_store.specs.declared.shape.CellKind.{CellKind}
use Rattle.carol_store.specs.Effects.{AreAtomsOf}
use Rattle.carol_store.specs.Kinds.{CellValue}
use Rattle.carol_store.specs.Stores.{IsStore}
use Rattle.carol_formula.specs.Claim.{truth}
use Rattle.carol_formula.specs.Value.{value_at}
use Rattle.carol_program.specs.Bodies as body
use Rattle.carol_program.specs.Bodies.{Body}
use Rattle.carol_program.specs.Rules.{Rules, OpRules}
use Rattle.carol_program.specs.Variables.{number_of_args}
use Rattle.carol_program.specs.declared.scenes.Command.{Command}
use Rattle.carol_reading.specs.declared.action.Action.TheVariants as action
use Rattle.carol_reading.specs.declared.action.Action.{Action}
use Rattle.carol_reading.specs.Good.{MayLeave}
use Rattle.carol_reading.specs.Marks.{Mark, Asked, Issued, Released, Returned}
use Rattle.carol_reading.specs.Readings.{with_query, effect_of, Reads}
use Rattle.carol_reading.specs.Walks.{Progress, BringsTo}

abbrev pub next_of : List CellKind → Body → (ℕ → ℤ) → List (List CellValue) → ℕ → Option Action
next_of kinds (body.Query number guard slot next) f stores zero = Some (action.Query guard)
next_of kinds (body.Query number guard slot next) f [] (suc done) = None
next_of kinds (body.Query number guard slot next) f (store ∷ stores) (suc done) = next_of kinds next (with_query slot store f) stores done
next_of kinds (body.Issue number parts next) f stores zero = Some (action.Issue (effect_of kinds parts f))
next_of kinds (body.Issue number parts next) f stores (suc done) = next_of kinds next f stores done
next_of kinds (body.Release number next) f stores zero = Some action.Release
next_of kinds (body.Release number next) f stores (suc done) = next_of kinds next f stores done
next_of kinds (body.Branch number test first second) f stores done = if truth test f then next_of kinds first f stores done else next_of kinds second f stores done
next_of kinds (body.Return number value) f stores done = Some (action.Return (value_at value f))

-- the mark is one of those that the action may leave: any store may answer a query
abbrev pub Suits : List CellKind → Option Action → Mark → Type 0
Suits kinds (Some (action.Query guard)) (Asked g store) = (g ≡ guard) × IsStore kinds store
Suits kinds (Some (action.Issue effect)) (Issued e) = e ≡ effect
Suits kinds (Some action.Release) Released = Unit {0}
Suits kinds (Some (action.Return value)) (Returned v) = v ≡ value
Suits kinds next mark = ⊥

-- there is such an action, and an effect is one of the shape
abbrev pub IsAction : List CellKind → Option Action → Type 0
IsAction kinds None = ⊥
IsAction kinds (Some (action.Query guard)) = Unit {0}
IsAction kinds (Some (action.Issue effect)) = AreAtomsOf kinds effect
IsAction kinds (Some action.Release) = Unit {0}
IsAction kinds (Some (action.Return value)) = Unit {0}

-- a mark may follow marks of the command that lead to the walk exactly where the action may leave
-- it
abbrev pub IsNextOf : Rules → Command → Progress → Action → Type 0
IsNextOf p command walk next =
    (op : OpRules) (marks : List Mark) (mark : Mark) → slice_get p.ops command.op ≡ Some op → BringsTo marks walk →
    Reads p.shape op.body (number_of_args command.args) marks →
    MayLeave p op command.args marks mark ↔ Suits p.shape (Some next) mark
