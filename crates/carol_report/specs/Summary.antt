-- The text that sums a history up.
use Rattle.std.specs.Prelude.{ℕ, zero, suc, ◌+◌, Bool, true, false, if◌then◌else◌, List, [], ◌∷◌, ◌++◌, codes, length}
use Rattle.std.specs.Fmt.{decimal}
use Rattle.carol_store.specs.Kinds.{CellValue}
use Rattle.carol_program.specs.Rules.{Rules}
use Rattle.carol_program.specs.Scenes.{commands_in}
use Rattle.carol_program.specs.declared.scenes.Scene.{Scene}
use Rattle.carol_program.specs.declared.scenes.SessionPlan.{SessionPlan}
use Rattle.carol_event.specs.declared.event.Event.{Event}
use Rattle.carol_event.specs.Texts.{values_text}
use Rattle.carol_reading.specs.declared.outcome.Outcome.{Outcome}
use Rattle.carol_reading.specs.declared.outcome.Outcome.TheVariants.{NotDone, Value, Refused}
use Rattle.carol_history.specs.Journals.{global, journal}
use Rattle.carol_history.specs.Results.{result}

abbrev pub is_refused : Outcome → Bool
is_refused NotDone = false
is_refused (Value value) = false
is_refused (Refused cause) = true

-- how many of the session's first commands were refused, of which there are so many
abbrev pub refused_of : Scene → List Event → ℕ → ℕ → ℕ
refused_of scene past session zero = 0
refused_of scene past session (suc command) =
    (if is_refused (result scene session command past) then 1 else 0)
    + refused_of scene past session command

-- how many commands of these sessions were refused, of which the first has this number
abbrev pub refused_in : Scene → List Event → ℕ → List SessionPlan → ℕ
refused_in scene past session [] = 0
refused_in scene past session (plan ∷ plans) =
    refused_of scene past session (length plan.commands)
    + refused_in scene past (session + 1) plans

-- a line with a word and a number
abbrev pub number_line : List ℕ → ℕ → List ℕ
number_line word number = word ++ (codes " " ++ (decimal number ++ 10 ∷ []))

-- the line of the global store: each value behind a space
abbrev pub global_line : List CellValue → List ℕ
global_line store = codes "global" ++ (values_text store ++ 10 ∷ [])

-- the number that the file was made with, how many commands there are, how many events and entries,
-- how many commands were refused, and the global store
unfoldable pub summary_text : ℕ → Rules → Scene → List Event → List ℕ
summary_text n p scene past =
    number_line (codes "gen") n ++
    (number_line (codes "commands") (commands_in scene.sessions) ++
    (number_line (codes "events") (length past) ++
    (number_line (codes "entries") (length (journal past)) ++
    (number_line (codes "refused") (refused_in scene past 0 scene.sessions) ++
    (global_line (global p past) ++ (codes "end" ++ 10 ∷ []))))))
