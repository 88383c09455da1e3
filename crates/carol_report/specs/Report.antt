-- The text of a report.
use Rattle.std.specs.Prelude.{ℕ, ◌+◌, Bool, true, false, not, ◌==◌, ◌&&◌, nat_le, List, [], ◌∷◌, ◌++◌, codes, length, reverse, flat_map}
use Rattle.std.specs.Fmt.{decimal, signed_decimal}
use Rattle.std.specs.List.{enumerate_from, range_with_len}
use Rattle.carol_store.specs.Kinds.{CellValue}
use Rattle.carol_program.specs.Rules.{Rules}
use Rattle.carol_program.specs.declared.scenes.Scene.{Scene}
use Rattle.carol_program.specs.declared.scenes.SessionPlan.{SessionPlan}
use Rattle.carol_event.specs.declared.event.Event.{Event}
use Rattle.carol_event.specs.Texts.{cause_text, event_line, values_text}
use Rattle.carol_history.specs.declared.history.TheConstants.{MOST_EVENTS}
use Rattle.carol_reading.specs.declared.outcome.Outcome.{Outcome}
use Rattle.carol_reading.specs.declared.outcome.Outcome.TheVariants.{NotDone, Value, Refused}
use Rattle.carol_history.specs.Acts.{acts}
use Rattle.carol_history.specs.Journals.{global, local}
use Rattle.carol_history.specs.Results.{outcomes, result}

-- the end of a line
abbrev pub line_feed : List ℕ
line_feed = 10 ∷ []

-- how a command came out
unfoldable pub outcome_text : Outcome → List ℕ
outcome_text NotDone = codes "open"
outcome_text (Value value) = codes "value " ++ signed_decimal value
outcome_text (Refused cause) = cause_text cause

-- the line of a command, by the numbers of its session and of the command
unfoldable pub result_line : ℕ → ℕ → Outcome → List ℕ
result_line session command outcome =
    (codes "result " ++ (decimal session ++ (codes " " ++ (decimal command ++ codes " "))))
    ++ (outcome_text outcome ++ line_feed)

-- the lines of a session's commands, of which there are so many
abbrev pub commands_text : Scene → List Event → ℕ → ℕ → List ℕ
commands_text scene past session count =
    flat_map (λ command. result_line session command (result scene session command past))
    (range_with_len 0 count)

-- the lines of all commands, by session and then by command
abbrev pub results_text : Scene → List Event → List ℕ
results_text scene past =
    flat_map (λ (session, plan). commands_text scene past session (length plan.commands))
    (enumerate_from 0 scene.sessions)

-- the line of a replica's store, and that of the global store: each value behind a space
abbrev pub store_line : ℕ → List CellValue → List ℕ
store_line replica store = codes "store " ++ (decimal replica ++ (values_text store ++ line_feed))

abbrev pub global_line : List CellValue → List ℕ
global_line store = codes "global" ++ (values_text store ++ line_feed)

-- the lines of the replicas' stores
abbrev pub stores_text : Rules → Scene → List Event → List ℕ
stores_text p scene past =
    flat_map (λ replica. store_line replica (local p scene replica past))
    (range_with_len 0 scene.replicas)

-- each command of these sessions is done, of which the first has this number
abbrev pub are_done : Scene → ℕ → List SessionPlan → List Event → Bool
are_done scene session [] past = true
are_done scene session (plan ∷ plans) past =
    nat_le (length plan.commands) (length (outcomes scene.tries (acts session past)))
    && are_done scene (session + 1) plans past

-- the history has as many events as it may have, and a command is not done
abbrev pub is_full : Scene → List Event → Bool
is_full scene past = (length past == MOST_EVENTS) && not (are_done scene 0 scene.sessions past)

abbrev pub last_word : Bool → List ℕ
last_word true = codes "full"
last_word false = codes "end"

-- the last line, with the number of events
abbrev pub end_line : Scene → List Event → List ℕ
end_line scene past =
    last_word (is_full scene past) ++ (codes " " ++ (decimal (length past) ++ line_feed))

-- what stands behind the events: how the commands came out, the stores, and the number of events
unfoldable pub summary_text : Rules → Scene → List Event → List ℕ
summary_text p scene past =
    (codes "results" ++ line_feed) ++
    (results_text scene past ++
    ((codes "stores" ++ line_feed) ++
    (stores_text p scene past ++
    (global_line (global p past) ++ end_line scene past))))

-- the events in order, the first one first, and the rest
unfoldable pub report_text : Rules → Scene → List Event → List ℕ
report_text p scene past =
    (codes "transcript" ++ line_feed)
    ++ (flat_map event_line (reverse past) ++ summary_text p scene past)
