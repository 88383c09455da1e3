-- What comes of trying an operation under one assignment.
use Rattle.std.specs.Prelude.{◌≡◌, ℕ, List, Option, Some, None}
use Rattle.carol_program.specs.Rules.{Rules, OpRules}
use Rattle.carol_advise.specs.declared.answer.AdviseError.{AdviseError}
use Rattle.carol_advise.specs.declared.answer.AdviseError.TheVariants.{TooMany, Undecided, NoMemory}
use Rattle.carol_advise.specs.declared.answer.Rejected.{Rejected}
use Rattle.carol_advise.specs.Tried.{IsDoubtfulUnder, IsGoodUnder, IsRejected}

-- the assignment is rejected, and the operation isn't good under it
pub record IsBad (p : Rules) (number : ℕ) (op : OpRules) (gs : List ℕ) (r : Rejected) : Type 0 where
  pub same : r.guards ≡ gs
  pub rejected : IsRejected p number op r
  pub bad : ¬ IsGoodUnder p op r.guards

-- the operation is good under it, or it is rejected
abbrev pub IsTried : Rules → ℕ → OpRules → List ℕ → Option Rejected → Type 0
IsTried p number op gs None = IsGoodUnder p op gs
IsTried p number op gs (Some r) = IsBad p number op gs r

-- it stays undecided
abbrev pub IsStopped : Rules → ℕ → OpRules → List ℕ → AdviseError → Type 0
IsStopped p number op gs TooMany = ⊥
IsStopped p number op gs (Undecided hs place why) = (hs ≡ gs) × IsDoubtfulUnder p number op gs place why
IsStopped p number op gs NoMemory = Unit {0}
