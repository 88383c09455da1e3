-- The texts of the statuses that stand in one line, each ended by a line feed. The others are told
-- by the words.
use Rattle.std.specs.Prelude.{List, ℕ, [], ◌∷◌, ◌++◌, codes, decimal}
use Rattle.carol_history.specs.declared.script.ScriptCause.{ScriptCause}
use Rattle.carol_history.specs.declared.script.ScriptCause.TheVariants as cause
use Rattle.carol_outer.specs.declared.whole.ReadError.{ReadError}
use Rattle.carol_outer.specs.declared.whole.ReadError.TheVariants as read
use Rattle.carol_meaning.specs.declared.fault.NameKind.{NameKind}
use Rattle.carol_meaning.specs.declared.fault.NameKind.TheVariants as kind
use Rattle.carol_scenario.specs.declared.error.SceneError.{SceneError}
use Rattle.carol_scenario.specs.declared.error.SceneError.TheVariants as fault
use Rattle.carol_scenario.specs.declared.error.SceneLimit.{SceneLimit}
use Rattle.carol_scenario.specs.declared.error.SceneLimit.TheVariants as range
use Rattle.carol_grammar.specs.declared.limit.TextLimit.{TextLimit}
use Rattle.carol_grammar.specs.declared.limit.TextLimit.TheVariants as limit
use Rattle.carol_reply.specs.declared.stop.Stop.{Stop}
use Rattle.carol_reply.specs.declared.stop.Stop.TheVariants as stop
use Rattle.carol_reply.specs.declared.line.Line.{Line}
use Rattle.carol_reply.specs.declared.line.Line.TheVariants as line
use Rattle.carol_reply.specs.declared.status.Status.{Status}
use Rattle.carol_reply.specs.declared.status.Status.TheVariants as status

-- a status and its text
abbrev pub Answer : Type 0
Answer = Status × List ℕ

abbrev pub line_feed : List ℕ
line_feed = 10 ∷ []

-- what is answered where a word can't be done, whatever the input is
abbrev pub stop_answer : Stop → Answer
stop_answer stop.ReadFault = (status.ReadFault, codes "read fault" ++ line_feed)
stop_answer stop.NoMemory = (status.NoMemory, codes "no memory" ++ line_feed)
stop_answer stop.TooLong = (status.TooLong, codes "too long" ++ line_feed)

-- what keeps a word from being done where its input wasn't read
abbrev pub stop_of : ReadError → Stop
stop_of read.Fault = stop.ReadFault
stop_of read.TooLong = stop.TooLong
stop_of read.NoMemory = stop.NoMemory

abbrev pub limit_name : TextLimit → List ℕ
limit_name limit.ProgramBytes = codes "program bytes"
limit_name limit.FormulaNodes = codes "formula nodes"
limit_name limit.BodyDepth = codes "body depth"
limit_name limit.ScriptLines = codes "script lines"

-- what is wrong with a name
abbrev pub kind_name : NameKind → List ℕ
kind_name kind.Twice = codes "twice"
kind_name kind.Unknown = codes "unknown"
kind_name kind.WrongKind = codes "wrong kind"
kind_name kind.TooMany = codes "too many"
kind_name kind.TooWide = codes "too wide"

abbrev pub range_name : SceneLimit → List ℕ
range_name range.Replicas = codes "replicas"
range_name range.Tries = codes "tries"
range_name range.Workers = codes "workers"
range_name range.Gossipers = codes "gossipers"
range_name range.Sessions = codes "sessions"
range_name range.Times = codes "times"
range_name range.Commands = codes "commands"

-- two numbers, the line and the column of a place among them
abbrev pub two : ℕ → ℕ → List ℕ
two a b = decimal a ++ (codes " " ++ decimal b)

-- what is wrong with a scene
abbrev pub scene_text : SceneError → List ℕ
scene_text (fault.OutOfRange limit span) =
    codes "range " ++ (two span.line span.column ++ (codes " " ++ range_name limit))
scene_text (fault.Unknown span) = codes "scene " ++ (two span.line span.column ++ codes " unknown")
scene_text (fault.Arity span) = codes "scene " ++ (two span.line span.column ++ codes " arity")
scene_text (fault.NoSuchReplica session) = codes "replica " ++ decimal session
scene_text (fault.BadArgument session command parameter) =
    codes "argument " ++ (two session command ++ (codes " " ++ decimal parameter))
scene_text fault.NoMemory = codes "no memory"

-- why a statement gives no event
abbrev pub cause_name : ScriptCause → List ℕ
cause_name cause.NoSuchSession = codes "no such session"
cause_name cause.Finished = codes "finished"
cause_name cause.NoSuchPair = codes "no such pair"
cause_name cause.CutOff = codes "cut"
cause_name cause.NothingNew = codes "nothing new"

-- the texts of one line
abbrev pub line_text : Line → List ℕ
line_text (line.BadText row column) =
    codes "text " ++ (decimal row ++ (codes " " ++ (decimal column ++ line_feed)))
line_text (line.TooLarge limit) = codes "too large " ++ (limit_name limit ++ line_feed)
line_text (line.BadName row column bad) =
    codes "name " ++ (two row column ++ (codes " " ++ (kind_name bad ++ line_feed)))
line_text (line.BadScene bad) = scene_text bad ++ line_feed
line_text line.TooManyEvents = codes "too large events" ++ line_feed
line_text (line.BadStatement bad) =
    codes "script " ++ (decimal bad.number ++ (codes " " ++ (cause_name bad.cause ++ line_feed)))

-- each with its status
abbrev pub line_answer : Line → Answer
line_answer (line.BadStatement bad) = (status.Script, line_text (line.BadStatement bad))
line_answer said = (status.Text, line_text said)

-- that a file hasn't the parts that the word takes
abbrev pub part_answer : List ℕ → Answer
part_answer word = (status.Text, codes "parts " ++ (word ++ line_feed))
