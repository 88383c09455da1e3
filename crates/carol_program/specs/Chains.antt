-- The statements of a body one behind another.
use Rattle.std.specs.Prelude.{List, [], ◌∷◌}
use Rattle.carol_program.specs.declared.steps.Step.{Step, out-Step, roll-Step}
use Rattle.carol_program.specs.declared.steps.Step.TheOpen.{Step-F}

-- one statement with this behind it, where it does not end its chain
abbrev pub followed_at : Step-F Step → Step → Step
followed_at (Step-F.Query number guard slot was) next =
    roll-Step (Step-F.Query number guard slot next)
followed_at (Step-F.Issue number parts was) next = roll-Step (Step-F.Issue number parts next)
followed_at (Step-F.Release number was) next = roll-Step (Step-F.Release number next)
followed_at (Step-F.Branch number test first second) next = next
followed_at (Step-F.Return number value) next = next

abbrev pub followed_by : Step → Step → Step
followed_by step next = followed_at (out-Step step) next

-- the statements one behind another, and this behind the last of them
abbrev pub behind : List Step → Step → Step
behind [] end = end
behind (step ∷ steps) end = followed_by step (behind steps end)
