-- The grammar of the language, a rule at a time. The bytes are those of the whole text, of which a
-- token names a part; `tail` is the offset behind a transcript's first line.
use Rattle.std.specs.Prelude.{ℕ, ◌+◌, ◌-◌, Bool, true, false, ℤ, pos, neg_ℤ, List, [], ◌∷◌, ◌++◌, fold, take, drop, length, Option, Some, None, option_to_list}
use Rattle.carol_grammar.specs.Rule.{Rule, Grammar}
use Rattle.carol_grammar.specs.Rule.Rule.{token, both, gives, either, perhaps, many, begins, deeper}
use Rattle.carol_grammar.specs.Sentence.{IsSentence}
use Rattle.carol_grammar.specs.Reading.{Reading, reads_within, ended}
use Rattle.carol_syntax.specs.declared.places.Span.{Span}
use Rattle.carol_syntax.specs.declared.places.Ident.{Ident}
use Rattle.carol_syntax.specs.declared.places.Num.{Num}
use Rattle.carol_syntax.specs.declared.formulas.ValueKind.{ValueKind}
use Rattle.carol_syntax.specs.declared.formulas.ValueKind.TheVariants as way
use Rattle.carol_syntax.specs.declared.formulas.ValueDecl.{ValueDecl}
use Rattle.carol_syntax.specs.declared.formulas.ProductDecl.{ProductDecl}
use Rattle.carol_syntax.specs.declared.formulas.TermDecl.{TermDecl}
use Rattle.carol_syntax.specs.declared.formulas.Sign.{Sign}
use Rattle.carol_syntax.specs.declared.formulas.Sign.TheVariants as sign_of
use Rattle.carol_syntax.specs.declared.cells.FieldKind.{FieldKind}
use Rattle.carol_syntax.specs.declared.cells.FieldKind.TheVariants as field_kind_of
use Rattle.carol_syntax.specs.declared.cells.FieldDecl.{FieldDecl}
use Rattle.carol_syntax.specs.declared.cells.CellDecl.{CellDecl}
use Rattle.carol_syntax.specs.declared.cells.CellDecl.TheVariants as cell_of
use Rattle.carol_syntax.specs.declared.bodies.PathDecl.{PathDecl}
use Rattle.carol_syntax.specs.declared.bodies.Change.{Change}
use Rattle.carol_syntax.specs.declared.bodies.Change.TheVariants as change_of
use Rattle.carol_syntax.specs.declared.bodies.AtomDecl.{AtomDecl}
use Rattle.carol_syntax.specs.declared.bodies.Statement.{Statement}
use Rattle.carol_syntax.specs.declared.bodies.Statement.TheVariants as statement_of
use Rattle.carol_syntax.specs.declared.scenes.CommandDecl.{CommandDecl}
use Rattle.carol_syntax.specs.declared.scenes.SessionDecl.{SessionDecl}
use Rattle.carol_syntax.specs.declared.scenes.SceneDecl.{SceneDecl}
use Rattle.carol_syntax.specs.declared.scenes.ScriptLine.{ScriptLine}
use Rattle.carol_syntax.specs.declared.scenes.ScriptLine.TheVariants as line_of
use Rattle.carol_syntax.specs.Formulas.{FormulaTree, True, False, Not, And, Or, Compare}
use Rattle.carol_syntax.specs.Bodies.{BodyTree, Return, If}
use Rattle.carol_syntax.specs.Files.{NamedFormula, OpTree, ProgramTree, FileTree}
use Rattle.carol_syntax.specs.declared.kind.Kind.{Kind}
use Rattle.carol_syntax.specs.declared.kind.Kind.TheVariants as k
use Rattle.carol_syntax.specs.declared.lexeme.Lexeme.{Lexeme}
use Rattle.carol_grammar.specs.Terminals.{number_of, class_of, class_of_zero, class_of_one, class_of_more, sample}

-- The two rules that reach themselves: a literal of a formula, and the end of a body. The value of
-- an end is the body, once the statements before it are given.
pub data Knot : Type 0 where
  literal : Knot
  ending : Knot

abbrev pub KnotValue : Knot → Type 0
KnotValue literal = FormulaTree
KnotValue ending = List Statement → BodyTree

abbrev pub RuleOf : Type 0 → Type 1
RuleOf A = Rule Lexeme Knot KnotValue A

-- Terminals.

abbrev pub word : Kind → RuleOf Lexeme
word kind = token (number_of kind ∷ []) (λ l. l)

abbrev pub spelling : List ℕ → Lexeme → List ℕ
spelling bytes l = take (l.to - l.from) (drop l.from bytes)

unfoldable pub name : List ℕ → RuleOf Ident
name bytes = gives (λ l. record { word = spelling bytes l; span = l.span }) (word k.Name)

-- the numbers 0 and 1, and those that are greater
abbrev pub numbers : List ℕ
numbers = class_of_zero ∷ class_of_one ∷ class_of_more ∷ []

abbrev pub number : RuleOf Lexeme
number = token numbers (λ l. l)

unfoldable pub num : RuleOf Num
num = gives (λ l. record { value = l.value; span = l.span }) number

-- the numbers that aren't 0
abbrev pub positives : List ℕ
positives = class_of_one ∷ class_of_more ∷ []

abbrev pub positive : RuleOf Lexeme
positive = token positives (λ l. l)

-- the numbers that are at most 1
abbrev pub digits : List ℕ
digits = class_of_zero ∷ class_of_one ∷ []

abbrev pub digit : RuleOf Lexeme
digit = token digits (λ l. l)

-- a rule behind a word or a symbol, and one before it
abbrev pub behind_word : {A : Type 0} → Kind → RuleOf A → RuleOf A
behind_word kind r = gives (λ p. p.1) (both (word kind) r)

abbrev pub before_word : {A : Type 0} → RuleOf A → Kind → RuleOf A
before_word r kind = gives (λ p. p.0) (both r (word kind))

-- a rule whose sentences begin with a word or a symbol
abbrev pub led : {A : Type 0} → Kind → RuleOf A → RuleOf A
led kind r = begins (number_of kind ∷ []) r

-- one, and more behind commas
abbrev pub and_more : {A : Type 0} → RuleOf A → RuleOf (List A)
and_more r = many (behind_word k.Comma r)

abbrev pub listed : {A : Type 0} → RuleOf A → RuleOf (List A)
listed r = gives (λ p. p.0 ∷ p.1) (both r (and_more r))

-- Cells.

unfoldable pub int : RuleOf ℤ
int = either (gives (λ l. pos l.value) number) (gives (λ l. neg_ℤ (pos l.value)) (behind_word k.Minus positive))

unfoldable pub bit : RuleOf ℤ
bit = gives (λ l. pos l.value) digit

unfoldable pub whole_kind : RuleOf FieldKind
whole_kind = either (gives (λ l. field_kind_of.Counter) (word k.Counter)) (gives (λ l. field_kind_of.Peak) (word k.Peak))

unfoldable pub flag_field : List ℕ → RuleOf FieldDecl
flag_field bytes =
    gives (λ p. record { kind = field_kind_of.Flag; name = p.0; start = p.1 }) (behind_word k.Flag (both (name bytes) (before_word (behind_word k.Equals bit) k.Semicolon)))

unfoldable pub field : List ℕ → RuleOf FieldDecl
field bytes =
    either (led k.Flag (flag_field bytes))
    (gives (λ p. record { kind = p.0; name = p.1.0; start = p.1.1 }) (both whole_kind (both (name bytes) (before_word (behind_word k.Equals int) k.Semicolon))))

abbrev pub field_words : List ℕ
field_words = number_of k.Counter ∷ number_of k.Peak ∷ number_of k.Flag ∷ []

abbrev pub more_fields : List ℕ → RuleOf (List FieldDecl)
more_fields bytes = many (begins field_words (field bytes))

unfoldable pub set_cell : List ℕ → RuleOf CellDecl
set_cell bytes =
    gives (λ p. cell_of.Set p.0 p.1) (behind_word k.Set (both (name bytes) (before_word (before_word (behind_word k.OpeningBrace (listed (name bytes))) k.ClosingBrace) k.Semicolon)))

unfoldable pub record_cell : List ℕ → RuleOf CellDecl
record_cell bytes =
    gives (λ p. cell_of.Record p.0 p.1) (behind_word k.Record (both (name bytes) (before_word (behind_word k.OpeningBrace (gives (λ p. p.0 ∷ p.1) (both (field bytes) (more_fields bytes)))) k.ClosingBrace)))

unfoldable pub cell : List ℕ → RuleOf CellDecl
cell bytes = either (led k.Set (set_cell bytes)) (either (led k.Record (record_cell bytes)) (gives (λ f. cell_of.Field f) (field bytes)))

abbrev pub cell_words : List ℕ
cell_words = number_of k.Counter ∷ number_of k.Peak ∷ number_of k.Flag ∷ number_of k.Set ∷ number_of k.Record ∷ []

-- Terms.

unfoldable pub member : List ℕ → RuleOf (Option Ident)
member bytes = perhaps (behind_word k.Dot (name bytes))

unfoldable pub path : List ℕ → RuleOf PathDecl
path bytes = gives (λ p. record { parts = p.0 ∷ option_to_list p.1 }) (both (name bytes) (member bytes))

-- a value of a kind, at a place, with the names of a path
abbrev pub value_at : Span → ValueKind → PathDecl → ValueDecl
value_at span kind p = record { span = span; kind = kind; parts = p.parts }

unfoldable pub outcome_value : RuleOf ValueDecl
outcome_value = gives (λ l. record { span = l.span; kind = way.Outcome; parts = [] }) (word k.Result)

abbrev pub names_of : Option PathDecl → List Ident
names_of None = []
names_of (Some p) = p.parts

unfoldable pub dotted : List ℕ → RuleOf (Option PathDecl)
dotted bytes = perhaps (behind_word k.Dot (path bytes))

-- a name, and behind a dot a path
unfoldable pub plain_value : List ℕ → RuleOf ValueDecl
plain_value bytes =
    gives (λ p. record { span = p.0.span; kind = way.Plain; parts = p.0 ∷ names_of p.1 }) (both (name bytes) (dotted bytes))

abbrev pub side : Kind → ValueKind → List ℕ → RuleOf ValueDecl
side kind form bytes = gives (λ p. value_at p.0.span form p.1) (both (word kind) (behind_word k.Dot (path bytes)))

abbrev pub sized_side : Kind → ValueKind → List ℕ → RuleOf (ValueKind × PathDecl)
sized_side kind form bytes = gives (λ p. (form, p)) (behind_word kind (behind_word k.Dot (path bytes)))

-- what stands between the parentheses of a size
unfoldable pub sized : List ℕ → RuleOf (ValueKind × PathDecl)
sized bytes =
    either
    (sized_side k.Here way.SizeHere bytes)
    (either (sized_side k.There way.SizeThere bytes) (gives (λ p. (way.Size, p)) (path bytes)))

unfoldable pub size_value : List ℕ → RuleOf ValueDecl
size_value bytes =
    gives (λ p. value_at p.0.span p.1.0 p.1.1) (both (word k.Size) (before_word (behind_word k.Opening (sized bytes)) k.Closing))

unfoldable pub value : List ℕ → RuleOf ValueDecl
value bytes =
    either (led k.Result outcome_value)
    (either (side k.Here way.Here bytes)
    (either (side k.There way.There bytes)
    (either (led k.Size (size_value bytes)) (plain_value bytes))))

-- a product that is added, and the place of its first token
abbrev pub Placed : Type 0
Placed = Span × ProductDecl

unfoldable pub times_value : List ℕ → RuleOf (Option ValueDecl)
times_value bytes = perhaps (behind_word k.Star (value bytes))

unfoldable pub multiple : List ℕ → RuleOf Placed
multiple bytes =
    gives (λ p. (p.0.span, record { minus = false; factor = Some p.0.value; value = p.1 })) (both number (times_value bytes))

unfoldable pub product : List ℕ → RuleOf Placed
product bytes =
    either (begins numbers (multiple bytes)) (gives (λ v. (v.span, record { minus = false; factor = None; value = Some v })) (value bytes))

abbrev pub signed : Bool → ProductDecl → ProductDecl
signed minus p = record { minus = minus; factor = p.factor; value = p.value }

unfoldable pub next_product : List ℕ → RuleOf ProductDecl
next_product bytes =
    either (gives (λ p. signed false p.1) (behind_word k.Plus (product bytes))) (gives (λ p. signed true p.1) (behind_word k.Minus (product bytes)))

unfoldable pub first_product : List ℕ → RuleOf Placed
first_product bytes =
    either (gives (λ p. (p.0.span, signed true p.1.1)) (both (word k.Minus) (product bytes))) (product bytes)

abbrev pub signs : List ℕ
signs = number_of k.Plus ∷ number_of k.Minus ∷ []

abbrev pub more_products : List ℕ → RuleOf (List ProductDecl)
more_products bytes = many (begins signs (next_product bytes))

unfoldable pub term : List ℕ → RuleOf TermDecl
term bytes = gives (λ p. record { span = p.0.0; products = p.0.1 ∷ p.1 }) (both (first_product bytes) (more_products bytes))

-- Formulas.

abbrev pub sign_word : Kind → Sign → RuleOf Sign
sign_word kind sign = gives (λ l. sign) (word kind)

unfoldable pub sign : RuleOf Sign
sign =
    either (sign_word k.AtMost sign_of.AtMost)
    (either (sign_word k.Below sign_of.Below)
    (either (sign_word k.AtLeast sign_of.AtLeast)
    (either (sign_word k.Above sign_of.Above)
    (either (sign_word k.Equals sign_of.Same) (sign_word k.Differs sign_of.Differs)))))

unfoldable pub comparison : List ℕ → RuleOf FormulaTree
comparison bytes = gives (λ p. Compare p.0 p.1.0 p.1.1) (both (term bytes) (both sign (term bytes)))

-- a literal that no other stands in
unfoldable pub atom_literal : List ℕ → RuleOf FormulaTree
atom_literal bytes = either (gives (λ l. True) (word k.True)) (either (gives (λ l. False) (word k.False)) (comparison bytes))

abbrev pub more_literals : RuleOf (List FormulaTree)
more_literals = many (behind_word k.And (deeper literal))

unfoldable pub conjunction : RuleOf FormulaTree
conjunction = gives (λ p. fold And p.0 p.1) (both (deeper literal) more_literals)

abbrev pub more_conjunctions : RuleOf (List FormulaTree)
more_conjunctions = many (behind_word k.Or conjunction)

unfoldable pub formula : RuleOf FormulaTree
formula = gives (λ p. fold Or p.0 p.1) (both conjunction more_conjunctions)

unfoldable pub denial : RuleOf FormulaTree
denial = gives (λ f. Not f) (behind_word k.Not (deeper literal))

-- a literal that others stand in
unfoldable pub nested_literal : RuleOf FormulaTree
nested_literal =
    either (led k.Not denial) (before_word (behind_word k.Opening formula) k.Closing)

-- Bodies.

unfoldable pub change : List ℕ → RuleOf Change
change bytes =
    either (gives (λ t. change_of.Add t) (behind_word k.PlusEquals (term bytes)))
    (either (gives (λ t. change_of.Take t) (behind_word k.MinusEquals (term bytes)))
    (either (gives (λ t. change_of.Raise t) (behind_word k.Raise (term bytes)))
    (gives (λ l. change_of.Set) (word k.Set))))

unfoldable pub atom : List ℕ → RuleOf AtomDecl
atom bytes = gives (λ p. record { path = p.0; change = p.1 }) (both (path bytes) (change bytes))

unfoldable pub query : List ℕ → RuleOf Statement
query bytes =
    gives (λ p. statement_of.Query p.0 p.1) (behind_word k.Query (both (name bytes) (before_word (behind_word k.Under (name bytes)) k.Semicolon)))

unfoldable pub release : RuleOf Statement
release = gives (λ p. statement_of.Release) (both (word k.Release) (word k.Semicolon))

unfoldable pub binding : List ℕ → RuleOf Statement
binding bytes =
    gives (λ p. statement_of.Let p.0 p.1) (behind_word k.Let (both (name bytes) (before_word (behind_word k.Equals (term bytes)) k.Semicolon)))

unfoldable pub issue : List ℕ → RuleOf Statement
issue bytes = gives (λ p. statement_of.Issue p) (behind_word k.Issue (before_word (listed (atom bytes)) k.Semicolon))

unfoldable pub plain : List ℕ → RuleOf Statement
plain bytes = either (led k.Query (query bytes)) (either (led k.Release release) (either (led k.Let (binding bytes)) (issue bytes)))

abbrev pub plain_words : List ℕ
plain_words = number_of k.Query ∷ number_of k.Release ∷ number_of k.Let ∷ number_of k.Issue ∷ []

abbrev pub plains : List ℕ → RuleOf (List Statement)
plains bytes = many (begins plain_words (plain bytes))

unfoldable pub body : List ℕ → RuleOf BodyTree
body bytes =
    gives (λ p. p.1 p.0) (behind_word k.OpeningBrace (both (plains bytes) (before_word (deeper ending) k.ClosingBrace)))

unfoldable pub answer : List ℕ → RuleOf (List Statement → BodyTree)
answer bytes = gives (λ t. λ plain. Return plain t) (behind_word k.Return (before_word (term bytes) k.Semicolon))

unfoldable pub choice : List ℕ → RuleOf (List Statement → BodyTree)
choice bytes =
    gives (λ p. λ plain. If plain p.0 p.1.0 p.1.1) (behind_word k.If (both formula (both (body bytes) (behind_word k.Else (body bytes)))))

-- Programs.

unfoldable pub guard : List ℕ → RuleOf NamedFormula
guard bytes =
    gives (λ p. record { name = p.0; formula = p.1 }) (behind_word k.Guard (both (name bytes) (before_word (behind_word k.Colon formula) k.Semicolon)))

unfoldable pub param : List ℕ → RuleOf NamedFormula
param bytes = gives (λ p. record { name = p.0; formula = p.1 }) (both (name bytes) (behind_word k.Colon formula))

abbrev pub list_of : {A : Type 0} → Option (List A) → List A
list_of None = []
list_of (Some xs) = xs

unfoldable pub some_params : List ℕ → RuleOf (List NamedFormula)
some_params bytes = gives list_of (perhaps (led k.Name (listed (param bytes))))

unfoldable pub params : List ℕ → RuleOf (List NamedFormula)
params bytes = before_word (behind_word k.Opening (some_params bytes)) k.Closing

unfoldable pub op : List ℕ → RuleOf OpTree
op bytes =
    gives (λ p. record { name = p.0; params = p.1.0; gives = p.1.1.0; body = p.1.1.1 })
    (behind_word k.Op (both (name bytes) (both (params bytes) (both (behind_word k.Gives formula) (body bytes)))))

abbrev pub cells : List ℕ → RuleOf (List CellDecl)
cells bytes = many (begins cell_words (cell bytes))

abbrev pub guards : List ℕ → RuleOf (List NamedFormula)
guards bytes = many (begins (number_of k.Guard ∷ []) (guard bytes))

abbrev pub ops : List ℕ → RuleOf (List OpTree)
ops bytes = many (begins (number_of k.Op ∷ []) (op bytes))

unfoldable pub program : List ℕ → RuleOf ProgramTree
program bytes =
    gives (λ p. record { cells = p.0; invariant = p.1.0; guards = p.1.1.0; ops = p.1.1.1 })
    (behind_word k.Program (both (cells bytes) (both (before_word (behind_word k.Invariant formula) k.Semicolon) (both (guards bytes) (before_word (ops bytes) k.End)))))

-- Scenes and scripts.

abbrev pub int_tokens : List ℕ
int_tokens = number_of k.Minus ∷ numbers

unfoldable pub some_ints : RuleOf (List ℤ)
some_ints = gives list_of (perhaps (begins int_tokens (listed int)))

unfoldable pub arguments : RuleOf (List ℤ)
arguments = before_word (behind_word k.Opening some_ints) k.Closing

-- how often a command stands, which is once at its name's place where the text doesn't say
abbrev pub times_of : Ident → Option Num → Num
times_of name None = record { value = 1; span = name.span }
times_of name (Some n) = n

unfoldable pub times : RuleOf (Option Num)
times = perhaps (behind_word k.Times num)

unfoldable pub command : List ℕ → RuleOf CommandDecl
command bytes =
    gives (λ p. record { name = p.0; args = p.1.0; times = times_of p.0 p.1.1 })
    (both (name bytes) (both arguments (before_word times k.Semicolon)))

abbrev pub commands : List ℕ → RuleOf (List CommandDecl)
commands bytes = many (begins (number_of k.Name ∷ []) (command bytes))

unfoldable pub session : List ℕ → RuleOf SessionDecl
session bytes =
    gives (λ p. record { span = p.0.span; replica = p.1.0; commands = p.1.1 })
    (both (word k.Session) (both (behind_word k.At num) (before_word (behind_word k.OpeningBrace (commands bytes)) k.ClosingBrace)))

abbrev pub sessions : List ℕ → RuleOf (List SessionDecl)
sessions bytes = many (begins (number_of k.Session ∷ []) (session bytes))

abbrev pub setting : Kind → RuleOf Num
setting kind = before_word (behind_word kind num) k.Semicolon

unfoldable pub scene : List ℕ → RuleOf SceneDecl
scene bytes =
    gives (λ p. record { replicas = p.0; tries = p.1.0; workers = p.1.1.0; gossipers = p.1.1.1.0; sessions = p.1.1.1.1 })
    (behind_word k.Scene (both (setting k.Replicas) (both (setting k.Tries) (both (setting k.Workers) (both (setting k.Gossipers) (before_word (sessions bytes) k.End))))))

-- two replicas behind a word
abbrev pub pair : Kind → RuleOf (ℕ × ℕ)
pair kind = gives (λ p. (p.0.value, p.1.value)) (behind_word kind (both number (before_word number k.Semicolon)))

unfoldable pub script_line : RuleOf ScriptLine
script_line =
    either (gives (λ l. line_of.Go l.value) (behind_word k.Go (before_word number k.Semicolon)))
    (either (gives (λ p. line_of.Gossip p.0 p.1) (pair k.Gossip))
    (either (gives (λ p. line_of.Cut p.0 p.1) (pair k.Cut)) (gives (λ p. line_of.Join p.0 p.1) (pair k.Join))))

abbrev pub line_words : List ℕ
line_words = number_of k.Go ∷ number_of k.Gossip ∷ number_of k.Cut ∷ number_of k.Join ∷ []

abbrev pub lines : RuleOf (List ScriptLine)
lines = many (begins line_words script_line)

unfoldable pub script : RuleOf (List ScriptLine)
script = before_word (behind_word k.Script lines) k.End

-- what may stand behind a scene: a script, or a transcript
pub data Sequel : Type 0 where
  Scripted : List ScriptLine → Sequel
  Recorded : Sequel

unfoldable pub sequel : RuleOf Sequel
sequel = either (led k.Script (gives (λ s. Scripted s) script)) (gives (λ l. Recorded) (word k.Transcript))

unfoldable pub some_sequel : RuleOf (Option Sequel)
some_sequel = perhaps (begins (number_of k.Script ∷ number_of k.Transcript ∷ []) sequel)

unfoldable pub staged : List ℕ → RuleOf (SceneDecl × Option Sequel)
staged bytes = both (scene bytes) some_sequel

unfoldable pub some_stage : List ℕ → RuleOf (Option (SceneDecl × Option Sequel))
some_stage bytes = perhaps (led k.Scene (staged bytes))

abbrev pub with_sequel : ℕ → ProgramTree → SceneDecl → Option Sequel → FileTree
with_sequel tail program scene None = record { program = program; scene = Some scene; script = None; tail = None }
with_sequel tail program scene (Some (Scripted lines)) = record { program = program; scene = Some scene; script = Some lines; tail = None }
with_sequel tail program scene (Some Recorded) = record { program = program; scene = Some scene; script = None; tail = Some tail }

abbrev pub file_of : ℕ → ProgramTree → Option (SceneDecl × Option Sequel) → FileTree
file_of tail program None = record { program = program; scene = None; script = None; tail = None }
file_of tail program (Some s) = with_sequel tail program s.0 s.1

unfoldable pub file : List ℕ → ℕ → RuleOf FileTree
file bytes tail = gives (λ p. file_of tail p.0 p.1) (both (program bytes) (some_stage bytes))

-- The grammar.

abbrev pub value_starts : List ℕ
value_starts = number_of k.Result ∷ number_of k.Name ∷ number_of k.Here ∷ number_of k.There ∷ number_of k.Size ∷ []

abbrev pub literal_starts : List ℕ
literal_starts = number_of k.Not ∷ number_of k.Opening ∷ number_of k.True ∷ number_of k.False ∷ number_of k.Minus ∷ (numbers ++ value_starts)

abbrev pub starts_of : Knot → List ℕ
starts_of literal = literal_starts
starts_of ending = number_of k.Return ∷ number_of k.If ∷ []

-- a comparison goes on with what goes on in its right term
abbrev pub goes_of : Knot → List ℕ
goes_of literal = number_of k.Plus ∷ number_of k.Minus ∷ number_of k.Star ∷ number_of k.Dot ∷ []
goes_of ending = []

abbrev pub lowest_of : List ℕ → (v : Knot) → RuleOf (KnotValue v)
lowest_of bytes literal = atom_literal bytes
lowest_of bytes ending = answer bytes

abbrev pub further_of : List ℕ → (v : Knot) → RuleOf (KnotValue v)
further_of bytes literal = begins (number_of k.Not ∷ number_of k.Opening ∷ []) nested_literal
further_of bytes ending = led k.If (choice bytes)

abbrev pub carol : List ℕ → Grammar Lexeme Knot KnotValue
carol bytes = record {
  kind = class_of;
  sample = sample;
  starts = starts_of;
  goes = goes_of;
  lowest = lowest_of bytes;
  further = further_of bytes;
}

-- the tokens of a text are a file with this tree
abbrev pub IsFileOf : List ℕ → ℕ → List Lexeme → FileTree → Type 0
IsFileOf bytes tail ts f = IsSentence (carol bytes) (file bytes tail) ts f

-- what reading all the tokens gives
abbrev pub read_file : List ℕ → ℕ → List Lexeme → Reading Lexeme FileTree
read_file bytes tail ts = ended (reads_within (carol bytes) (length ts + 1) (length ts + 1) (file bytes tail) ts)
