-- What is wrong with a scene, over a program: all faults in the order in which the rules are asked,
-- one definition for each rule. The sessions are asked one after the other, and in each of them the
-- commands.
use Rattle.std.specs.Prelude.{◌≡◌, ℕ, ◌+◌, ◌&&◌, ◌==◌, nat_le, nat_lt, if◌then◌else◌, List, [], ◌∷◌, ◌++◌, length, ℤ, unsigned_abs, Option, Some, None, option_and_then, slice_get}
use Rattle.carol_formula.specs.Claim.{Claim, truth}
use Rattle.carol_syntax.specs.declared.places.Num.{Num}
use Rattle.carol_syntax.specs.declared.scenes.CommandDecl.{CommandDecl}
use Rattle.carol_syntax.specs.declared.scenes.SessionDecl.{SessionDecl}
use Rattle.carol_syntax.specs.declared.scenes.SceneDecl.{SceneDecl}
use Rattle.carol_program.specs.declared.names.Names.{Names}
use Rattle.carol_program.specs.Limits.{largest_literal, most_replicas, most_tries, most_workers, most_gossipers, most_sessions, most_commands}
use Rattle.carol_program.specs.Rules.{OpRules, Rules}
use Rattle.carol_program.specs.Variables.{number_of_args}
use Rattle.carol_scenario.specs.declared.error.SceneLimit.{SceneLimit}
use Rattle.carol_scenario.specs.declared.error.SceneLimit.TheVariants.{Replicas, Tries, Workers, Gossipers, Sessions, Times, Commands}
use Rattle.carol_scenario.specs.declared.error.SceneError.{SceneError}
use Rattle.carol_scenario.specs.declared.error.SceneError.TheVariants.{OutOfRange, Unknown, Arity, NoSuchReplica, BadArgument, NoMemory}
use Rattle.carol_scenario.specs.Meaning.{number_called}

-- ---- the numbers at the head

-- the number is from the least to the most
abbrev pub range_faults : SceneLimit → ℕ → ℕ → Num → List SceneError
range_faults limit least most n =
    if nat_le least n.value && nat_le n.value most then [] else OutOfRange limit n.span ∷ []

abbrev pub head_faults : SceneDecl → List SceneError
head_faults s =
    range_faults Replicas 1 most_replicas s.replicas ++
    (range_faults Tries 1 most_tries s.tries ++
    (range_faults Workers 1 most_workers s.workers ++
    range_faults Gossipers 0 most_gossipers s.gossipers))

-- ---- a command: of this number in its session, behind so many commands of earlier sessions

-- the operation of this name
abbrev pub op_called : Rules → Names → List ℕ → Option OpRules
op_called p names word = option_and_then (λ n. slice_get p.ops n) (number_called names word)

-- the operation is known
abbrev pub name_faults : Option OpRules → CommandDecl → List SceneError
name_faults None c = Unknown c.name.span ∷ []
name_faults (Some op) c = []

-- there is an argument for each parameter
abbrev pub arity_faults : Option OpRules → CommandDecl → List SceneError
arity_faults None c = []
arity_faults (Some op) c = if length c.args == length op.params then [] else Arity c.name.span ∷ []

abbrev pub times_faults : CommandDecl → List SceneError
times_faults c = range_faults Times 1 most_commands c.times

-- the commands up to the last that this one stands for are few enough
abbrev pub total_faults : ℕ → CommandDecl → List SceneError
total_faults before c =
    if nat_le (before + c.times.value) most_commands then [] else OutOfRange Commands c.name.span ∷ []

-- the argument is small enough, and the refinement true of the arguments
abbrev pub argument_faults : SceneError → (ℕ → ℤ) → Claim → ℤ → List SceneError
argument_faults fault at refinement arg =
    if nat_le (unsigned_abs arg) largest_literal && truth refinement at then [] else fault ∷ []

-- the arguments from this parameter on
abbrev pub arguments_faults : ℕ → ℕ → (ℕ → ℤ) → ℕ → List Claim → List ℤ → List SceneError
arguments_faults session command at parameter [] args = []
arguments_faults session command at parameter (c ∷ cs) [] = []
arguments_faults session command at parameter (c ∷ cs) (arg ∷ args) =
    argument_faults (BadArgument session command parameter) at c arg ++ arguments_faults session command at (parameter + 1) cs args

abbrev pub call_faults : Option OpRules → ℕ → ℕ → List ℤ → List SceneError
call_faults None session command args = []
call_faults (Some op) session command args = arguments_faults session command (number_of_args args) 0 op.params args

abbrev pub command_faults : Rules → Names → ℕ → ℕ → ℕ → CommandDecl → List SceneError
command_faults p names session earlier command c =
    let op = op_called p names c.name.word in
    name_faults op c ++ (arity_faults op c ++ (times_faults c ++ (total_faults (earlier + command) c ++ call_faults op session command c.args)))

-- the commands from this number on
abbrev pub commands_faults : Rules → Names → ℕ → ℕ → ℕ → List CommandDecl → List SceneError
commands_faults p names session earlier command [] = []
commands_faults p names session earlier command (c ∷ cs) =
    command_faults p names session earlier command c ++ commands_faults p names session earlier (command + c.times.value) cs

-- ---- a session: the session of this number, behind so many commands of earlier sessions

abbrev pub count_faults : ℕ → SessionDecl → List SceneError
count_faults session s = if nat_lt session most_sessions then [] else OutOfRange Sessions s.span ∷ []

abbrev pub replica_faults : ℕ → ℕ → SessionDecl → List SceneError
replica_faults replicas session s = if nat_lt s.replica.value replicas then [] else NoSuchReplica session ∷ []

abbrev pub session_faults : Rules → Names → ℕ → ℕ → ℕ → SessionDecl → List SceneError
session_faults p names replicas session earlier s =
    count_faults session s ++ (replica_faults replicas session s ++ commands_faults p names session earlier 0 s.commands)

-- how many commands these stand for
abbrev pub times_in : List CommandDecl → ℕ
times_in [] = 0
times_in (c ∷ cs) = c.times.value + times_in cs

-- the sessions from this number on
abbrev pub sessions_faults : Rules → Names → ℕ → ℕ → ℕ → List SessionDecl → List SceneError
sessions_faults p names replicas session earlier [] = []
sessions_faults p names replicas session earlier (s ∷ ss) =
    session_faults p names replicas session earlier s ++ sessions_faults p names replicas (session + 1) (earlier + times_in s.commands) ss

-- ---- all of it

abbrev pub scene_faults : Rules → Names → SceneDecl → List SceneError
scene_faults p names s = head_faults s ++ sessions_faults p names s.replicas.value 0 0 s.sessions

abbrev pub first_of : List SceneError → Option SceneError
first_of [] = None
first_of (fault ∷ faults) = Some fault

-- this is the first of the faults, unless memory ran out
abbrev pub Refuses : List SceneError → SceneError → Type 0
Refuses faults NoMemory = Unit {0}
Refuses faults fault = first_of faults ≡ Some fault
