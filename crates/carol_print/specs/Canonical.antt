-- The canonical text of a file, as pieces: each declaration, statement, session head, command and
-- line of a script stands on a line of its own.
use Rattle.std.specs.Prelude.{ℕ, suc, ℤ, pos, negsuc, Bool, true, false, ◌||◌, ◌==◌, List, [], ◌∷◌, ◌++◌, Option, Some, None, map, if◌then◌else◌}
use Rattle.std.specs.Fmt.{decimal}
use Rattle.carol_syntax.specs.declared.places.Ident.{Ident}
use Rattle.carol_syntax.specs.declared.places.Num.{Num}
use Rattle.carol_syntax.specs.declared.formulas.ValueKind.{ValueKind}
use Rattle.carol_syntax.specs.declared.formulas.ValueKind.TheVariants as way
use Rattle.carol_syntax.specs.declared.formulas.ValueDecl.{ValueDecl}
use Rattle.carol_syntax.specs.declared.formulas.ProductDecl.{ProductDecl}
use Rattle.carol_syntax.specs.declared.formulas.TermDecl.{TermDecl}
use Rattle.carol_syntax.specs.declared.formulas.Sign.{Sign}
use Rattle.carol_syntax.specs.declared.formulas.Sign.TheVariants as sign_of
use Rattle.carol_syntax.specs.declared.cells.FieldKind.{FieldKind}
use Rattle.carol_syntax.specs.declared.cells.FieldKind.TheVariants as field_kind_of
use Rattle.carol_syntax.specs.declared.cells.FieldDecl.{FieldDecl}
use Rattle.carol_syntax.specs.declared.cells.CellDecl.{CellDecl}
use Rattle.carol_syntax.specs.declared.cells.CellDecl.TheVariants as cell_of
use Rattle.carol_syntax.specs.declared.bodies.Change.{Change}
use Rattle.carol_syntax.specs.declared.bodies.Change.TheVariants as change_of
use Rattle.carol_syntax.specs.declared.bodies.AtomDecl.{AtomDecl}
use Rattle.carol_syntax.specs.declared.bodies.Statement.{Statement}
use Rattle.carol_syntax.specs.declared.bodies.Statement.TheVariants as statement_of
use Rattle.carol_syntax.specs.declared.scenes.CommandDecl.{CommandDecl}
use Rattle.carol_syntax.specs.declared.scenes.SessionDecl.{SessionDecl}
use Rattle.carol_syntax.specs.declared.scenes.SceneDecl.{SceneDecl}
use Rattle.carol_syntax.specs.declared.scenes.ScriptLine.{ScriptLine}
use Rattle.carol_syntax.specs.declared.scenes.ScriptLine.TheVariants as line_of
use Rattle.carol_syntax.specs.Formulas.{FormulaTree, True, False, Not, And, Or, Compare}
use Rattle.carol_syntax.specs.Bodies.{BodyTree, Return, If}
use Rattle.carol_syntax.specs.Files.{NamedFormula, OpTree, ProgramTree, FileTree}
use Rattle.carol_syntax.specs.declared.kind.Kind.{Kind}
use Rattle.carol_syntax.specs.declared.kind.Kind.TheVariants as k
use Rattle.carol_print.specs.Pieces.{Piece, Token, Space, Break, fixed}

abbrev pub Pieces : Type 0
Pieces = List Piece

-- Words and symbols; those that a text has often have a name.

abbrev pub semicolon : Piece
semicolon = fixed k.Semicolon

abbrev pub comma : Piece
comma = fixed k.Comma

abbrev pub colon : Piece
colon = fixed k.Colon

abbrev pub dot : Piece
dot = fixed k.Dot

abbrev pub opening : Piece
opening = fixed k.Opening

abbrev pub closing : Piece
closing = fixed k.Closing

abbrev pub opening_brace : Piece
opening_brace = fixed k.OpeningBrace

abbrev pub closing_brace : Piece
closing_brace = fixed k.ClosingBrace

abbrev pub equals : Piece
equals = fixed k.Equals

abbrev pub minus : Piece
minus = fixed k.Minus

abbrev pub name : Ident → Piece
name i = Token k.Name 0 i.word

abbrev pub only_name : Ident → Pieces
only_name i = name i ∷ []

abbrev pub number : ℕ → Piece
number n = Token k.Number n (decimal n)

abbrev pub int : ℤ → Pieces
int (pos n) = number n ∷ []
int (negsuc n) = minus ∷ number (suc n) ∷ []

-- each with a comma and a space before it
abbrev pub after_commas : List Pieces → Pieces
after_commas [] = []
after_commas (x ∷ xs) = comma ∷ Space ∷ (x ++ after_commas xs)

abbrev pub with_commas : List Pieces → Pieces
with_commas [] = []
with_commas (x ∷ xs) = x ++ after_commas xs

abbrev pub concat : List Pieces → Pieces
concat [] = []
concat (x ∷ xs) = x ++ concat xs

-- Terms.

abbrev pub after_dots : List Ident → Pieces
after_dots [] = []
after_dots (i ∷ more) = dot ∷ name i ∷ after_dots more

-- the names of a path, with dots between them
abbrev pub path : List Ident → Pieces
path [] = []
path (i ∷ more) = name i ∷ after_dots more

abbrev pub here : Piece
here = fixed k.Here

abbrev pub there : Piece
there = fixed k.There

abbrev pub sized : Pieces → Pieces
sized ps = fixed k.Size ∷ opening ∷ (ps ++ closing ∷ [])

abbrev pub value_as : ValueKind → List Ident → Pieces
value_as way.Outcome parts = fixed k.Result ∷ []
value_as way.Plain parts = path parts
value_as way.Here parts = here ∷ dot ∷ path parts
value_as way.There parts = there ∷ dot ∷ path parts
value_as way.Size parts = sized (path parts)
value_as way.SizeHere parts = sized (here ∷ dot ∷ path parts)
value_as way.SizeThere parts = sized (there ∷ dot ∷ path parts)

abbrev pub value : ValueDecl → Pieces
value v = value_as v.kind v.parts

-- a factor, a value, or both with a star between them
abbrev pub product_of : Option ℕ → Option ValueDecl → Pieces
product_of None None = []
product_of None (Some v) = value v
product_of (Some n) None = number n ∷ []
product_of (Some n) (Some v) = number n ∷ fixed k.Star ∷ value v

abbrev pub product : ProductDecl → Pieces
product p = product_of p.factor p.value

abbrev pub added_sign : Bool → Piece
added_sign true = minus
added_sign false = fixed k.Plus

-- the products behind the first one
abbrev pub more_products : List ProductDecl → Pieces
more_products [] = []
more_products (p ∷ ps) = Space ∷ added_sign p.minus ∷ Space ∷ (product p ++ more_products ps)

abbrev pub first_sign : Bool → Pieces
first_sign true = minus ∷ []
first_sign false = []

abbrev pub sum_of : List ProductDecl → Pieces
sum_of [] = []
sum_of (p ∷ ps) = first_sign p.minus ++ (product p ++ more_products ps)

abbrev pub term : TermDecl → Pieces
term t = sum_of t.products

-- Formulas.

abbrev pub sign : Sign → Piece
sign sign_of.AtMost = fixed k.AtMost
sign sign_of.Below = fixed k.Below
sign sign_of.AtLeast = fixed k.AtLeast
sign sign_of.Above = fixed k.Above
sign sign_of.Same = equals
sign sign_of.Differs = fixed k.Differs

abbrev pub is_either : FormulaTree → Bool
is_either (Or f g) = true
is_either _ = false

abbrev pub is_both : FormulaTree → Bool
is_both (And f g) = true
is_both _ = false

-- in parentheses, where they are needed
abbrev pub enclosed : Bool → Pieces → Pieces
enclosed true ps = opening ∷ (ps ++ closing ∷ [])
enclosed false ps = ps

abbrev pub formula : FormulaTree → Pieces
formula True = fixed k.True ∷ []
formula False = fixed k.False ∷ []
formula (Not f) = fixed k.Not ∷ Space ∷ enclosed (is_either f || is_both f) (formula f)
formula (And f g) = enclosed (is_either f) (formula f) ++ (Space ∷ fixed k.And ∷ Space ∷ enclosed (is_either g || is_both g) (formula g))
formula (Or f g) = formula f ++ (Space ∷ fixed k.Or ∷ Space ∷ enclosed (is_either g) (formula g))
formula (Compare left s right) = term left ++ (Space ∷ sign s ∷ Space ∷ term right)

-- Cells.

abbrev pub field_kind : FieldKind → Piece
field_kind field_kind_of.Counter = fixed k.Counter
field_kind field_kind_of.Peak = fixed k.Peak
field_kind field_kind_of.Flag = fixed k.Flag

abbrev pub field : FieldDecl → Pieces
field f = field_kind f.kind ∷ Space ∷ name f.name ∷ Space ∷ equals ∷ Space ∷ (int f.start ++ semicolon ∷ [])

abbrev pub fields : List FieldDecl → Pieces
fields [] = []
fields (f ∷ fs) = Space ∷ (field f ++ fields fs)

abbrev pub cell : CellDecl → Pieces
cell (cell_of.Field f) = field f ++ Break ∷ []
cell (cell_of.Set n members) =
    fixed k.Set ∷ Space ∷ name n ∷ Space ∷ opening_brace ∷ Space ∷ (with_commas (map only_name members) ++ Space ∷ closing_brace ∷ semicolon ∷ Break ∷ [])
cell (cell_of.Record n fs) =
    fixed k.Record ∷ Space ∷ name n ∷ Space ∷ opening_brace ∷ (fields fs ++ Space ∷ closing_brace ∷ Break ∷ [])

-- Bodies.

abbrev pub change : Change → Pieces
change (change_of.Add t) = fixed k.PlusEquals ∷ Space ∷ term t
change (change_of.Take t) = fixed k.MinusEquals ∷ Space ∷ term t
change (change_of.Raise t) = fixed k.Raise ∷ Space ∷ term t
change change_of.Set = fixed k.Set ∷ []

abbrev pub atom : AtomDecl → Pieces
atom a = path a.path.parts ++ Space ∷ change a.change

abbrev pub statement : Statement → Pieces
statement (statement_of.Query n g) = fixed k.Query ∷ Space ∷ name n ∷ Space ∷ fixed k.Under ∷ Space ∷ name g ∷ semicolon ∷ Break ∷ []
statement statement_of.Release = fixed k.Release ∷ semicolon ∷ Break ∷ []
statement (statement_of.Let n t) = fixed k.Let ∷ Space ∷ name n ∷ Space ∷ equals ∷ Space ∷ (term t ++ semicolon ∷ Break ∷ [])
statement (statement_of.Issue atoms) = fixed k.Issue ∷ Space ∷ (with_commas (map atom atoms) ++ semicolon ∷ Break ∷ [])

-- the lines between the braces of a body
abbrev pub inside : BodyTree → Pieces
inside (Return plain t) = concat (map statement plain) ++ (fixed k.Return ∷ Space ∷ (term t ++ semicolon ∷ Break ∷ []))
inside (If plain test first second) =
    concat (map statement plain)
    ++ (fixed k.If ∷ Space ∷ (formula test
    ++ (Space ∷ opening_brace ∷ Break ∷ (inside first
    ++ (closing_brace ∷ Space ∷ fixed k.Else ∷ Space ∷ opening_brace ∷ Break ∷ (inside second
    ++ (closing_brace ∷ Break ∷ [])))))))

-- Programs.

abbrev pub guard : NamedFormula → Pieces
guard g = fixed k.Guard ∷ Space ∷ name g.name ∷ colon ∷ Space ∷ (formula g.formula ++ semicolon ∷ Break ∷ [])

abbrev pub param : NamedFormula → Pieces
param p = name p.name ∷ colon ∷ Space ∷ formula p.formula

abbrev pub op : OpTree → Pieces
op o =
    fixed k.Op ∷ Space ∷ name o.name ∷ opening ∷ (with_commas (map param o.params)
    ++ (closing ∷ Space ∷ fixed k.Gives ∷ Space ∷ (formula o.gives
    ++ (Space ∷ opening_brace ∷ Break ∷ (inside o.body ++ (closing_brace ∷ Break ∷ []))))))

abbrev pub end : Pieces
end = fixed k.End ∷ Break ∷ []

abbrev pub program : ProgramTree → Pieces
program p =
    fixed k.Program ∷ Break ∷ (concat (map cell p.cells)
    ++ (fixed k.Invariant ∷ Space ∷ (formula p.invariant ++ (semicolon ∷ Break ∷ (concat (map guard p.guards)
    ++ (concat (map op p.ops) ++ end))))))

-- Scenes and scripts.

-- how often a command stands, where that isn't once
abbrev pub times : ℕ → Pieces
times n = if n == 1 then [] else Space ∷ fixed k.Times ∷ Space ∷ number n ∷ []

abbrev pub command : CommandDecl → Pieces
command c = name c.name ∷ opening ∷ (with_commas (map int c.args) ++ (closing ∷ (times c.times.value ++ (semicolon ∷ Break ∷ []))))

abbrev pub session : SessionDecl → Pieces
session s =
    fixed k.Session ∷ Space ∷ fixed k.At ∷ Space ∷ number s.replica.value ∷ Space ∷ opening_brace ∷ Break
    ∷ (concat (map command s.commands) ++ (closing_brace ∷ Break ∷ []))

abbrev pub setting : Kind → Num → Pieces
setting kind n = fixed kind ∷ Space ∷ number n.value ∷ semicolon ∷ Break ∷ []

abbrev pub scene : SceneDecl → Pieces
scene s =
    fixed k.Scene ∷ Break ∷ (setting k.Replicas s.replicas
    ++ (setting k.Tries s.tries ++ (setting k.Workers s.workers
    ++ (setting k.Gossipers s.gossipers ++ (concat (map session s.sessions) ++ end)))))

abbrev pub pair : Kind → ℕ → ℕ → Pieces
pair kind q r = fixed kind ∷ Space ∷ number q ∷ Space ∷ number r ∷ semicolon ∷ Break ∷ []

abbrev pub line : ScriptLine → Pieces
line (line_of.Go s) = fixed k.Go ∷ Space ∷ number s ∷ semicolon ∷ Break ∷ []
line (line_of.Gossip q r) = pair k.Gossip q r
line (line_of.Cut q r) = pair k.Cut q r
line (line_of.Join q r) = pair k.Join q r

abbrev pub script : List ScriptLine → Pieces
script lines = fixed k.Script ∷ Break ∷ (concat (map line lines) ++ end)

abbrev pub part_of : {A : Type 0} → (A → Pieces) → Option A → Pieces
part_of f None = []
part_of f (Some x) = f x

-- program, scene and script
abbrev pub canonical : FileTree → Pieces
canonical f = program f.program ++ (part_of scene f.scene ++ part_of script f.script)
