-- What an operation does, as plain data.
use Rattle.std.specs.Prelude.{ℕ, ◌+◌, max, List}
use Rattle.carol_formula.specs.Linear.{Linear}
use Rattle.carol_formula.specs.Claim.{Claim}
use Rattle.carol_formula.specs.Tree.{claim_of}
use Rattle.carol_program.specs.declared.steps.Part.{Part}
use Rattle.carol_program.specs.declared.steps.Step.{Step, fold-Step}
use Rattle.carol_program.specs.declared.steps.Step.TheOpen.{Step-F}

pub data Body : Type 0 where
  Query : (number guard slot : ℕ) (next : Body) → Body
  Issue : (number : ℕ) (parts : List Part) (next : Body) → Body
  Release : (number : ℕ) (next : Body) → Body
  Branch : (number : ℕ) (test : Claim) (first second : Body) → Body
  Return : (number : ℕ) (value : Linear) → Body

-- one statement, where what follows it is given
abbrev pub body_at : Step-F Body → Body
body_at (Step-F.Query number guard slot next) = Query number guard slot next
body_at (Step-F.Issue number parts next) = Issue number parts next
body_at (Step-F.Release number next) = Release number next
body_at (Step-F.Branch number test first second) = Branch number (claim_of test) first second
body_at (Step-F.Return number value) = Return number value

abbrev pub body_of : Step → Body
body_of = fold-Step Body body_at

-- how many queries it has, in both branches
abbrev pub queries_in : Body → ℕ
queries_in (Query number guard slot next) = queries_in next + 1
queries_in (Issue number parts next) = queries_in next
queries_in (Release number next) = queries_in next
queries_in (Branch number test first second) = queries_in first + queries_in second
queries_in (Return number value) = 0

-- the number of its last statement in the text
abbrev pub last_number : Body → ℕ
last_number (Query number guard slot next) = last_number next
last_number (Issue number parts next) = last_number next
last_number (Release number next) = last_number next
last_number (Branch number test first second) = last_number second
last_number (Return number value) = number

-- how deep bodies are nested in it, itself counted
abbrev pub depth : Body → ℕ
depth (Query number guard slot next) = depth next
depth (Issue number parts next) = depth next
depth (Release number next) = depth next
depth (Branch number test first second) = max (depth first) (depth second) + 1
depth (Return number value) = 1
