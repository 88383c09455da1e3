-- Inputs against which nothing stands: what is to be known of one so that its word is done.
use Rattle.std.specs.Prelude.{◌≡◌, ◌<◌, List, ℕ, [], Option, Some, None, drop}
use Rattle.carol_accord.specs.Inferred.{IsOpenAt}
use Rattle.carol_decide.specs.declared.answer.Why.{Why}
use Rattle.carol_event.specs.declared.event.Event.{Event}
use Rattle.carol_grammar.specs.Outcome.{Read, Means}
use Rattle.carol_history.specs.declared.history.TheConstants.{MOST_EVENTS}
use Rattle.carol_history.specs.declared.script.Statement.{Statement}
use Rattle.carol_history.specs.Bounds.{most_events}
use Rattle.carol_history.specs.Scripts.{ComesTo}
use Rattle.carol_meaning.specs.Programs.{names_of, program_faults, rules_of}
use Rattle.carol_prepare.specs.Parts.{scene_alone, with_script, with_tail}
use Rattle.carol_program.specs.declared.places.Place.{Place}
use Rattle.carol_program.specs.declared.scenes.Scene.{Scene}
use Rattle.carol_program.specs.Rules.{Rules}
use Rattle.carol_reading.specs.Good.{IsAccepted}
use Rattle.carol_scenario.specs.Faults.{scene_faults}
use Rattle.carol_scenario.specs.Meaning.{scene_meaning}
use Rattle.carol_syntax.specs.declared.scenes.SceneDecl.{SceneDecl}
use Rattle.carol_syntax.specs.Files.{FileTree, ProgramTree}
use Rattle.carol_typecheck.specs.Readings.{IsVerdictFor}
use Rattle.carol_typecheck.specs.declared.verdict.Verdict.TheVariants.{Undecided}
use Rattle.carol_words_audit.specs.AuditLaws.{IsReported}

-- nothing that is asked of the program can stay open: at no guard, no step of a cell and no place of
-- an operation there is a reason to leave it undecided
pub record NothingOpen (p : Rules) : Type 0 where
  pub guards : (place : Place) (why : Why) → ¬ IsOpenAt p place why
  pub operations : (place : Place) (why : Why) → ¬ IsVerdictFor p (Undecided place why)

-- nothing is wrong with the program's names, it is accepted, and nothing stays open
pub record IsPassing (tree : ProgramTree) : Type 0 where
  pub faultless : program_faults tree ≡ []
  pub accepted : IsAccepted (rules_of tree)
  pub none_open : NothingOpen (rules_of tree)

-- For `check`: the bytes are a file within the limits, whose program passes.
pub record IsCheckInput (bytes : List ℕ) : Type 0 where
  pub file : FileTree
  pub read : Means bytes (Read file)
  pub passing : IsPassing file.program

-- the scene that is written with the program
abbrev pub scene_in : ProgramTree → SceneDecl → Scene
scene_in tree written = scene_meaning (names_of tree) written

-- Such a file has the parts that a word takes, nothing is wrong with its scene, and what is asked of
-- the program in the scene with the third part is so.
pub record IsInput
    {A : Type 0} (parts : FileTree → Option (SceneDecl × A)) (asked : Rules → Scene → A → Type 0)
    (bytes : List ℕ) : Type 0 where
  pub file : FileTree
  pub read : Means bytes (Read file)
  pub passing : IsPassing file.program
  pub written : SceneDecl
  pub part : A
  pub taken : parts file ≡ Some (written, part)
  pub placed : scene_faults (rules_of file.program) (names_of file.program) written ≡ []
  pub holds : asked (rules_of file.program) (scene_in file.program written) part

-- each statement of the script gives an event, and this history comes of them
abbrev pub GivesAll : Rules → Scene → List Statement → Type 0
GivesAll p scene statements =
    (past : List Event) × ComesTo p scene 1 statements [] (record { history = past; bad = None })

-- For `step`.
abbrev pub IsStepInput : List ℕ → Type 0
IsStepInput bytes = IsInput with_script GivesAll bytes

abbrev pub AnyScene : Rules → Scene → Unit {0} → Type 0
AnyScene p scene none = Unit {0}

-- no history that its sessions make is full
abbrev pub StaysBelow : Rules → Scene → Unit {0} → Type 0
StaysBelow p scene none = most_events p scene < MOST_EVENTS

-- For `run`: any scene that is right, and one whose histories are never full.
abbrev pub IsSceneInput : List ℕ → Type 0
IsSceneInput bytes = IsInput scene_alone AnyScene bytes

abbrev pub IsRunInput : List ℕ → Type 0
IsRunInput bytes = IsInput scene_alone StaysBelow bytes

-- For `audit`: the transcript behind the program and the scene is the report of this history, which
-- the accepted program can make, and nothing stays open.
pub record IsAuditInput (bytes : List ℕ) : Type 0 where
  pub file : FileTree
  pub read : Means bytes (Read file)
  pub written : SceneDecl
  pub offset : ℕ
  pub taken : with_tail file ≡ Some (written, offset)
  pub past : List Event
  pub reported : IsReported (drop offset bytes) file.program written past
  pub none_open : NothingOpen (rules_of file.program)
