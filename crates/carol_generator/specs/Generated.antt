-- The file of the large inputs: a bank, and sixteen sessions over four replicas whose commands are
-- drawn one after another.
use Rattle.std.specs.Prelude.{ℕ, zero, suc, ◌+◌, ◌*◌, ◌%◌, ◌==◌, false, if◌then◌else◌, pos, List, [], ◌∷◌, ◌++◌, Some, None, map, codes}
use Rattle.carol_syntax.specs.declared.places.Ident.{Ident}
use Rattle.carol_syntax.specs.declared.places.Num.{Num}
use Rattle.carol_syntax.specs.declared.formulas.ValueKind.{ValueKind}
use Rattle.carol_syntax.specs.declared.formulas.ValueKind.TheVariants as way
use Rattle.carol_syntax.specs.declared.formulas.TermDecl.{TermDecl}
use Rattle.carol_syntax.specs.declared.formulas.Sign.TheVariants.{AtMost, AtLeast, Same}
use Rattle.carol_syntax.specs.declared.cells.FieldKind.TheVariants.{Counter}
use Rattle.carol_syntax.specs.declared.cells.CellDecl.TheVariants.{Field}
use Rattle.carol_syntax.specs.declared.bodies.Change.{Change}
use Rattle.carol_syntax.specs.declared.bodies.Change.TheVariants.{Add, Take}
use Rattle.carol_syntax.specs.declared.bodies.Statement.{Statement}
use Rattle.carol_syntax.specs.declared.bodies.Statement.TheVariants.{Query, Issue}
use Rattle.carol_syntax.specs.declared.scenes.CommandDecl.{CommandDecl}
use Rattle.carol_syntax.specs.declared.scenes.SessionDecl.{SessionDecl}
use Rattle.carol_syntax.specs.declared.scenes.SceneDecl.{SceneDecl}
use Rattle.carol_syntax.specs.Formulas.{And, Compare}
use Rattle.carol_syntax.specs.Bodies.{Return, If}
use Rattle.carol_syntax.specs.Files.{NamedFormula, OpTree, ProgramTree, FileTree}
use Rattle.carol_syntax.specs.Unplaced.{nowhere}
use Rattle.carol_print.specs.Pieces.{text_of}
use Rattle.carol_print.specs.Canonical.{canonical}

-- Names, numbers and terms; none of them has a place.

abbrev pub ident : List ℕ → Ident
ident word = record { word = word; span = nowhere }

abbrev pub num : ℕ → Num
num n = record { value = n; span = nowhere }

abbrev pub constant : ℕ → TermDecl
constant n = record { span = nowhere; products = record { minus = false; factor = Some n; value = None } ∷ [] }

abbrev pub value : ValueKind → List (List ℕ) → TermDecl
value kind words = record {
  span = nowhere;
  products = record {
    minus = false;
    factor = None;
    value = Some (record { span = nowhere; kind = kind; parts = map ident words });
  } ∷ [];
}

abbrev pub amount : TermDecl
amount = value way.Plain (codes "n" ∷ [])

abbrev pub outcome : TermDecl
outcome = value way.Outcome []

-- The program: the balance is at least 0, and a guard sees a balance that may have grown.

-- an amount from 1 to 1000
abbrev pub amount_param : NamedFormula
amount_param = record { name = ident (codes "n"); formula = And (Compare (constant 1) AtMost amount) (Compare amount AtMost (constant 1000)) }

abbrev pub change_balance : (TermDecl → Change) → Statement
change_balance change = Issue (record { path = record { parts = ident (codes "bal") ∷ [] }; change = change amount } ∷ [])

-- what is asked for is taken where there is as much, and else nothing
abbrev pub withdraw : OpTree
withdraw = record {
  name = ident (codes "withdraw");
  params = amount_param ∷ [];
  gives = And (Compare (constant 0) AtMost outcome) (Compare outcome AtMost amount);
  body = If (Query (ident (codes "v")) (ident (codes "low")) ∷ []) (Compare amount AtMost (value way.Plain (codes "v" ∷ codes "bal" ∷ [])))
      (Return (change_balance Take ∷ []) amount)
      (Return [] (constant 0));
}

abbrev pub deposit : OpTree
deposit = record {
  name = ident (codes "deposit");
  params = amount_param ∷ [];
  gives = Compare outcome Same amount;
  body = Return (change_balance Add ∷ []) amount;
}

abbrev pub bank : ProgramTree
bank = record {
  cells = Field (record { kind = Counter; name = ident (codes "bal"); start = pos 1000 }) ∷ [];
  invariant = Compare (value way.Plain (codes "bal" ∷ [])) AtLeast (constant 0);
  guards = record {
    name = ident (codes "low");
    formula = Compare (value way.Here (codes "bal" ∷ [])) AtMost (value way.There (codes "bal" ∷ []));
  } ∷ [];
  ops = withdraw ∷ deposit ∷ [];
}

-- The scene.

-- the number that is drawn after this one
abbrev pub next_number : ℕ → ℕ
next_number x = (75 * x + 74) % 65537

-- the number that is drawn with this count, where the first is drawn after n
unfoldable pub number_drawn : ℕ → ℕ → ℕ
number_drawn n zero = n
number_drawn n (suc count) = next_number (number_drawn n count)

-- the command that a number stands for
abbrev pub command_drawn : ℕ → CommandDecl
command_drawn x = record {
  name = ident (if x % 3 == 0 then codes "deposit" else codes "withdraw");
  args = pos (1 + x % 50) ∷ [];
  times = num 1;
}

-- so many commands after the first ones
unfoldable pub commands_drawn : ℕ → ℕ → ℕ → List CommandDecl
commands_drawn n first zero = []
commands_drawn n first (suc count) = commands_drawn n first count ++ command_drawn (number_drawn n (suc (first + count))) ∷ []

-- a session with n commands, which come after those of the sessions before it
abbrev pub session_drawn : ℕ → ℕ → SessionDecl
session_drawn n session = record { span = nowhere; replica = num (session % 4); commands = commands_drawn n (session * n) n }

-- so many sessions
unfoldable pub sessions_drawn : ℕ → ℕ → List SessionDecl
sessions_drawn n zero = []
sessions_drawn n (suc session) = sessions_drawn n session ++ session_drawn n session ∷ []

-- the scene with n commands in each session
abbrev pub scene_drawn : ℕ → SceneDecl
scene_drawn n = record { replicas = num 4; tries = num 4; workers = num 4; gossipers = num 1; sessions = sessions_drawn n 16 }

-- the file with this scene
abbrev pub generated_file : ℕ → FileTree
generated_file n = record { program = bank; scene = Some (scene_drawn n); script = None; tail = None }

-- The text of the large inputs.
unfoldable pub generated_text : ℕ → List ℕ
generated_text n = text_of (canonical (generated_file n))
