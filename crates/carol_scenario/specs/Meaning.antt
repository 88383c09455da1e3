-- What a scene stands for, over a program. It is total: a command of an unknown name calls operation
-- 0, of which nothing is claimed, since a scene with a fault isn't given.
use Rattle.std.specs.Prelude.{ℕ, List, map, replicate, unwrap_or, Option, bytes_eq, position}
use Rattle.std.specs.List.{flat_map}
use Rattle.carol_syntax.specs.declared.scenes.CommandDecl.{CommandDecl}
use Rattle.carol_syntax.specs.declared.scenes.SessionDecl.{SessionDecl}
use Rattle.carol_syntax.specs.declared.scenes.SceneDecl.{SceneDecl}
use Rattle.carol_program.specs.declared.names.Names.{Names}
use Rattle.carol_program.specs.declared.scenes.Command.{Command}
use Rattle.carol_program.specs.declared.scenes.SessionPlan.{SessionPlan}
use Rattle.carol_program.specs.declared.scenes.Scene.{Scene}

-- the number of the first operation of this name
abbrev pub number_called : Names → List ℕ → Option ℕ
number_called names word = position (λ op. bytes_eq word op.own) names.ops

abbrev pub command_meaning : Names → CommandDecl → Command
command_meaning names c = record { op = unwrap_or (number_called names c.name.word) 0; args = c.args }

-- the commands that one declaration stands for
abbrev pub repeated : Names → CommandDecl → List Command
repeated names c = replicate c.times.value (command_meaning names c)

abbrev pub session_meaning : Names → SessionDecl → SessionPlan
session_meaning names s = record { replica = s.replica.value; commands = flat_map (repeated names) s.commands }

abbrev pub scene_meaning : Names → SceneDecl → Scene
scene_meaning names s = record {
  replicas = s.replicas.value;
  tries = s.tries.value;
  workers = s.workers.value;
  gossipers = s.gossipers.value;
  sessions = map (session_meaning names) s.sessions;
}
