-- What an advice says of an operation, and why there is none.
use Rattle.std.specs.Prelude.{◌≡◌, ◌<◌, ◌≤◌, ◌^◌, ℕ, List, [], ◌∷◌, ◌++◌, length}
use Rattle.std.specs.List.{AllByRecursion, Contains}
use Rattle.carol_program.specs.declared.places.Place.{Place}
use Rattle.carol_program.specs.declared.program.Program.{Program}
use Rattle.carol_program.specs.Accords.{Accords}
use Rattle.carol_program.specs.Bodies.{queries_in}
use Rattle.carol_program.specs.Rules.{Rules, OpRules, rules_in}
use Rattle.carol_reading.specs.Kept.{Kept}
use Rattle.carol_decide.specs.declared.answer.Why.{Why}
use Rattle.carol_advise_guards.specs.Bars.{bars}
use Rattle.carol_advise_guards.specs.Order.{Ascends, IsBefore}
use Rattle.carol_advise_guards.specs.Under.{Assigns}
use Rattle.carol_advise_guards.specs.declared.counting.TheConstants.{MOST_ASSIGNMENTS}
use Rattle.carol_advise.specs.declared.answer.Advice.{Advice}
use Rattle.carol_advise.specs.declared.answer.AdviseError.{AdviseError}
use Rattle.carol_advise.specs.declared.answer.AdviseError.TheVariants.{TooMany, Undecided, NoMemory}
use Rattle.carol_advise.specs.Tried.{HasBreach, IsDoubtfulUnder, IsGoodUnder, IsRejected, OfOp, guards_of}

-- a program with its table
abbrev pub kept_as : Program → Accords → Kept
kept_as program table = record { program = program; accords = table }

-- the table is one of the program's guards and cells
pub record IsTableOf (p : Rules) (table : Accords) : Type 0 where
  pub kinds : table.kinds ≡ p.shape
  pub guards : table.guards ≡ length p.guards

-- the operation has more assignments than are tried
abbrev pub HasTooMany : Rules → OpRules → Type 0
HasTooMany p op = MOST_ASSIGNMENTS < length p.guards ^ queries_in op.body

-- The operation is good under the assignment, and each that stands before it in order is rejected, with a
-- breach at its first place that isn't proved.
pub record IsAdvice (p : Rules) (table : Accords) (number : ℕ) (op : OpRules) (a : Advice) : Type 0 where
  pub assigns : Assigns (length p.guards) op a.guards
  pub bars : a.bars ≡ bars table a.guards
  pub good : IsGoodUnder p op a.guards
  pub rejected : AllByRecursion (IsRejected p number op) a.rejected
  pub each : AllByRecursion (Assigns (length p.guards) op) (guards_of a.rejected)
  pub ascends : Ascends table (guards_of a.rejected ++ a.guards ∷ [])
  pub all : (gs : List ℕ) → Assigns (length p.guards) op gs → IsBefore table gs a.guards → Contains (guards_of a.rejected) gs

-- Of the assignments under which the operation is good none bars less.
abbrev pub IsLeast : Rules → Accords → OpRules → Advice → Type 0
IsLeast p table op a = (gs : List ℕ) → Assigns (length p.guards) op gs → IsGoodUnder p op gs → a.bars ≤ bars table gs

-- Each assignment that stands before this one in order has a breach at its first place that isn't proved, and
-- of this one's first such place it stays unclear whether it has one.
pub record IsOpen (p : Rules) (table : Accords) (number : ℕ) (op : OpRules) (gs : List ℕ) (place : Place) (why : Why) : Type 0 where
  pub assigns : Assigns (length p.guards) op gs
  pub before : (hs : List ℕ) → Assigns (length p.guards) op hs → IsBefore table hs gs → HasBreach p number op hs
  pub doubtful : IsDoubtfulUnder p number op gs place why

-- why there is no advice
abbrev pub IsReason : Rules → Accords → ℕ → OpRules → AdviseError → Type 0
IsReason p table number op TooMany = HasTooMany p op
IsReason p table number op (Undecided gs place why) = IsOpen p table number op gs place why
IsReason p table number op NoMemory = Unit {0}

-- the same of the operation with this number
abbrev pub IsAdviceFor : Kept → ℕ → Advice → Type 0
IsAdviceFor kept number a = OfOp kept.program number (λ op. IsAdvice (rules_in kept.program) kept.accords number op a)

abbrev pub IsLeastFor : Kept → ℕ → Advice → Type 0
IsLeastFor kept number a = OfOp kept.program number (λ op. IsLeast (rules_in kept.program) kept.accords op a)

abbrev pub IsReasonFor : Kept → ℕ → AdviseError → Type 0
IsReasonFor kept number error = OfOp kept.program number (λ op. IsReason (rules_in kept.program) kept.accords number op error)

abbrev pub HasTooManyFor : Kept → ℕ → Type 0
HasTooManyFor kept number = OfOp kept.program number (HasTooMany (rules_in kept.program))
