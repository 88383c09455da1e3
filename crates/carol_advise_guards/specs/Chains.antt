-- The statements of a body one behind another, under other guards.
use Rattle.std.specs.Prelude.{List, [], ◌∷◌, ℕ, get_or}
use Rattle.carol_program.specs.declared.steps.Step.{Step, out-Step}
use Rattle.carol_program.specs.declared.steps.Step.TheOpen.{Step-F}
use Rattle.carol_program.specs.Bodies.{Body, Query, Issue, Release}

-- one statement under these guards with this behind it, where it does not end its chain
abbrev pub followed_at : List ℕ → Step-F Step → Body → Body
followed_at gs (Step-F.Query number guard slot was) next = Query number (get_or gs slot guard) slot next
followed_at gs (Step-F.Issue number parts was) next = Issue number parts next
followed_at gs (Step-F.Release number was) next = Release number next
followed_at gs (Step-F.Branch number test first second) next = next
followed_at gs (Step-F.Return number value) next = next

abbrev pub followed_by : List ℕ → Step → Body → Body
followed_by gs step next = followed_at gs (out-Step step) next

-- the statements one behind another, and this behind the last of them
abbrev pub behind : List ℕ → List Step → Body → Body
behind gs [] end = end
behind gs (step ∷ steps) end = followed_by gs step (behind gs steps end)
