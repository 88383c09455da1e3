-- What holds of the tails of reports.
use Rattle.std.specs.Prelude.{◌≡◌, ℕ, List, length, reverse}
use Rattle.carol_program.specs.Rules.{Rules}
use Rattle.carol_program.specs.declared.scenes.Scene.{Scene}
use Rattle.carol_event.specs.declared.event.Event.{Event}
use Rattle.carol_simulation.specs.Upheld.{MayRun}
use Rattle.carol_audit.specs.Tails.{HasEvents}
use Rattle.carol_audit.specs.declared.finding.Finding.{Finding}
use Rattle.carol_audit.specs.declared.finding.Finding.TheVariants.{Genuine}
use Rattle.carol_audit.specs.Findings.{Finds, IsExact, IsReportOf}

-- the lines of a report's tail are those of the history's events
abbrev pub ReportsAreRead : Type 0
ReportsAreRead = (p : Rules) (scene : Scene) (tail : List ℕ) (past : List Event) →
    MayRun p scene → IsReportOf p scene tail past → HasEvents tail (reverse past)

-- and of no other history's
abbrev pub ReportsAreSingle : Type 0
ReportsAreSingle = (p : Rules) (scene : Scene) (tail : List ℕ) (past other : List Event) →
    MayRun p scene → IsReportOf p scene tail past → IsReportOf p scene tail other → past ≡ other

-- it is found genuine, and nothing else
abbrev pub ReportsAreGenuine : Type 0
ReportsAreGenuine =
    (p : Rules) (scene : Scene) (tail : List ℕ) (past : List Event) (finding : Finding) →
    MayRun p scene → IsReportOf p scene tail past → Finds p scene tail finding →
    finding ≡ Genuine (length past)

-- of each tail one thing is found, if of that of a report it is that it is genuine
abbrev pub FindingsAreSingle : Type 0
FindingsAreSingle = (p : Rules) (scene : Scene) (tail : List ℕ) (one other : Finding) →
    Finds p scene tail one → IsExact p scene tail one →
    Finds p scene tail other → IsExact p scene tail other → one ≡ other
