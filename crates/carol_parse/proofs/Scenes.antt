-- Scenes and scripts.
use Rattle.std.proofs.Common.{ℕ, List, Option, arith}
use Rattle.std.specs.Prelude.{Some, None, IfSome}
use Rattle.std.specs.List.{AllByRecursion}
use Rattle.carol_grammar.proofs.Says.{says_either, says_begins}
use Rattle.carol_grammar.proofs.Given.{hold_any, hold_gives, hold_both, hold_perhaps, hold_many, hold_behind, hold_before}
use Rattle.carol_syntax.specs.declared.places.Ident.{Ident}
use Rattle.carol_syntax.specs.declared.places.Num.{Num}
use Rattle.carol_syntax.specs.Shape.{IsLiteral, IsWhole, IsNumber, IsCommand, IsSession, IsScene, IsLine}
use Rattle.carol_syntax.specs.declared.kind.Kind.{Kind}
use Rattle.carol_grammar.specs.Rules.{some_ints, arguments, times_of, times, command, commands, session, sessions, setting, scene, pair, script_line, lines, script}
use Rattle.carol_parse.proofs.Holds.{Holds, hold_listed}
use Rattle.carol_parse.proofs.Terminals.{hold_name, hold_number, hold_num, hold_int}
use Rattle.carol_parse.proofs.ShapedPrograms.{all_listed}

times_small : (name : Ident) (o : Option Num) → IfSome o IsNumber → IsNumber (times_of name o)
times_small name None h = omega arith
times_small name (Some n) h = h

module _ {bytes : List ℕ} where
  hold_some_ints : Holds bytes some_ints (AllByRecursion IsWhole)
  unfolding some_ints
  hold_some_ints = hold_gives (hold_perhaps (says_begins (hold_listed hold_int))) (λ o h. all_listed IsWhole o h)

  hold_arguments : Holds bytes arguments (AllByRecursion IsWhole)
  unfolding arguments
  hold_arguments = hold_before (hold_behind hold_some_ints)

  hold_times : Holds bytes times (λ o. IfSome o IsNumber)
  unfolding times
  hold_times = hold_perhaps (hold_behind hold_num)

  hold_command : Holds bytes (command bytes) IsCommand
  unfolding command
  hold_command =
      hold_gives (hold_both hold_name (hold_both hold_arguments (hold_before hold_times)))
      (λ p h. (h.0, h.1.0, times_small p.0 p.1.1 h.1.1))

  hold_commands : Holds bytes (commands bytes) (AllByRecursion IsCommand)
  hold_commands = hold_many (says_begins hold_command)

  hold_session : Holds bytes (session bytes) IsSession
  unfolding session
  hold_session =
      hold_gives (hold_both hold_any (hold_both (hold_behind hold_num) (hold_before (hold_behind hold_commands)))) (λ p h. h.1)

  hold_sessions : Holds bytes (sessions bytes) (AllByRecursion IsSession)
  hold_sessions = hold_many (says_begins hold_session)

  hold_setting : (kind : Kind) → Holds bytes (setting kind) IsNumber
  hold_setting kind = hold_before (hold_behind hold_num)

  pub hold_scene : Holds bytes (scene bytes) IsScene
  unfolding scene
  hold_scene =
      hold_gives
      (hold_behind (hold_both (hold_setting _) (hold_both (hold_setting _) (hold_both (hold_setting _) (hold_both (hold_setting _)
      (hold_before hold_sessions))))))
      (λ p h. record { replicas = h.0; tries = h.1.0; workers = h.1.1.0; gossipers = h.1.1.1.0; sessions = h.1.1.1.1 })

  hold_pair : (kind : Kind) → Holds bytes (pair kind) (λ q. IsLiteral q.0 × IsLiteral q.1)
  hold_pair kind = hold_gives (hold_behind (hold_both hold_number (hold_before hold_number))) (λ p h. h)

  hold_line : Holds bytes script_line IsLine
  unfolding script_line
  hold_line =
      says_either (hold_gives (hold_behind (hold_before hold_number)) (λ l h. h))
      (says_either (hold_gives (hold_pair _) (λ p h. h))
      (says_either (hold_gives (hold_pair _) (λ p h. h)) (hold_gives (hold_pair _) (λ p h. h))))

  hold_lines : Holds bytes lines (AllByRecursion IsLine)
  hold_lines = hold_many (says_begins hold_line)

  pub hold_script : Holds bytes script (AllByRecursion IsLine)
  unfolding script
  hold_script = hold_before (hold_behind hold_lines)
