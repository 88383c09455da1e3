-- An operation under other guards.
use Rattle.std.specs.Prelude.{◌≡◌, ◌<◌, ℕ, List, [], ◌∷◌, ◌++◌, length, get_or}
use Rattle.std.specs.List.{AllByRecursion}
use Rattle.carol_program.specs.Bodies.{Body, Query, Issue, Release, Branch, Return, queries_in}
use Rattle.carol_program.specs.Rules.{OpRules}

-- the body with these guards in its queries, by slot
abbrev pub guarded : List ℕ → Body → Body
guarded gs (Query number guard slot next) = Query number (get_or gs slot guard) slot (guarded gs next)
guarded gs (Issue number parts next) = Issue number parts (guarded gs next)
guarded gs (Release number next) = Release number (guarded gs next)
guarded gs (Branch number test first second) = Branch number test (guarded gs first) (guarded gs second)
guarded gs (Return number value) = Return number value

-- the operation with these guards in its queries, by slot
abbrev pub op_under : List ℕ → OpRules → OpRules
op_under gs op = record { params = op.params; result = op.result; body = guarded gs op.body }

-- the guards that stand in a body, in the order of the text
abbrev pub guards_in : Body → List ℕ
guards_in (Query number guard slot next) = guard ∷ guards_in next
guards_in (Issue number parts next) = guards_in next
guards_in (Release number next) = guards_in next
guards_in (Branch number test first second) = guards_in first ++ guards_in second
guards_in (Return number value) = []

-- one of so many guards for each of so many slots
pub record IsAssignment (guards slots : ℕ) (gs : List ℕ) : Type 0 where
  pub count : length gs ≡ slots
  pub declared : AllByRecursion (λ g. g < guards) gs

-- one of so many guards for each query of the operation
abbrev pub Assigns : ℕ → OpRules → List ℕ → Type 0
Assigns guards op gs = IsAssignment guards (queries_in op.body) gs
