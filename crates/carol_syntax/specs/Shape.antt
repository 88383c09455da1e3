-- Which trees are trees of the grammar: names that are names, numbers within 10^12, and lists that
-- are as long as their rule wants.
use Rattle.std.specs.Prelude.{◌≡◌, ◌≤◌, ◌<◌, ◌⊎◌, ℕ, ◌+◌, ℤ, pos, negsuc, true, false, List, length, IsSome, IsNone, IfSome}
use Rattle.std.specs.List.{AllByRecursion}
use Rattle.carol_syntax.specs.declared.places.Ident.{Ident}
use Rattle.carol_syntax.specs.declared.places.Num.{Num}
use Rattle.carol_syntax.specs.declared.formulas.ValueKind.{ValueKind}
use Rattle.carol_syntax.specs.declared.formulas.ValueKind.TheVariants.{Outcome, Plain}
use Rattle.carol_syntax.specs.declared.formulas.ValueDecl.{ValueDecl}
use Rattle.carol_syntax.specs.declared.formulas.ProductDecl.{ProductDecl}
use Rattle.carol_syntax.specs.declared.formulas.TermDecl.{TermDecl}
use Rattle.carol_syntax.specs.declared.cells.FieldKind.{FieldKind}
use Rattle.carol_syntax.specs.declared.cells.FieldKind.TheVariants.{Flag}
use Rattle.carol_syntax.specs.declared.cells.FieldDecl.{FieldDecl}
use Rattle.carol_syntax.specs.declared.cells.CellDecl.{CellDecl}
use Rattle.carol_syntax.specs.declared.cells.CellDecl.TheVariants as cell
use Rattle.carol_syntax.specs.declared.bodies.PathDecl.{PathDecl}
use Rattle.carol_syntax.specs.declared.bodies.Change.{Change}
use Rattle.carol_syntax.specs.declared.bodies.Change.TheVariants as change
use Rattle.carol_syntax.specs.declared.bodies.AtomDecl.{AtomDecl}
use Rattle.carol_syntax.specs.declared.bodies.Statement.{Statement}
use Rattle.carol_syntax.specs.declared.bodies.Statement.TheVariants as statement
use Rattle.carol_syntax.specs.declared.scenes.CommandDecl.{CommandDecl}
use Rattle.carol_syntax.specs.declared.scenes.SessionDecl.{SessionDecl}
use Rattle.carol_syntax.specs.declared.scenes.SceneDecl.{SceneDecl}
use Rattle.carol_syntax.specs.declared.scenes.ScriptLine.{ScriptLine}
use Rattle.carol_syntax.specs.declared.scenes.ScriptLine.TheVariants.{Go, Gossip, Cut, Join}
use Rattle.carol_syntax.specs.Limits.{largest, longest_name}
use Rattle.carol_syntax.specs.Words.{is_word, is_keyword}
use Rattle.carol_syntax.specs.Formulas.{FormulaTree, True, False, Not, And, Or, Compare}
use Rattle.carol_syntax.specs.Bodies.{BodyTree, Return, If}
use Rattle.carol_syntax.specs.Files.{NamedFormula, OpTree, ProgramTree, FileTree}

abbrev pub IsLiteral : ℕ → Type 0
IsLiteral n = n ≤ largest

abbrev pub IsWhole : ℤ → Type 0
IsWhole (pos n) = IsLiteral n
IsWhole (negsuc n) = IsLiteral (n + 1)

abbrev pub IsName : Ident → Type 0
IsName i = (is_word i.word ≡ true) × (length i.word ≤ longest_name) × (is_keyword i.word ≡ false)

abbrev pub IsNumber : Num → Type 0
IsNumber n = IsLiteral n.value

abbrev pub AreSome : {X : Type 0} → (X → Type 0) → List X → Type 0
AreSome P xs = (0 < length xs) × AllByRecursion P xs

-- how many names a value of this kind has
abbrev pub HasParts : ValueKind → ℕ → Type 0
HasParts Outcome n = n ≡ 0
HasParts Plain n = (1 ≤ n) × (n ≤ 3)
HasParts _ n = (1 ≤ n) × (n ≤ 2)

abbrev pub IsValue : ValueDecl → Type 0
IsValue v = HasParts v.kind (length v.parts) × AllByRecursion IsName v.parts

-- a factor, a value or both
abbrev pub IsProduct : ProductDecl → Type 0
IsProduct p = IfSome p.factor IsLiteral × IfSome p.value IsValue × (IsSome p.factor ⊎ IsSome p.value)

abbrev pub IsTerm : TermDecl → Type 0
IsTerm t = AreSome IsProduct t.products

abbrev pub IsFormula : FormulaTree → Type 0
IsFormula True = Unit {0}
IsFormula False = Unit {0}
IsFormula (Not f) = IsFormula f
IsFormula (And f g) = IsFormula f × IsFormula g
IsFormula (Or f g) = IsFormula f × IsFormula g
IsFormula (Compare left sign right) = IsTerm left × IsTerm right

abbrev pub StartsAs : FieldKind → ℤ → Type 0
StartsAs Flag start = (start ≡ pos 0) ⊎ (start ≡ pos 1)
StartsAs _ start = IsWhole start

abbrev pub IsField : FieldDecl → Type 0
IsField f = IsName f.name × StartsAs f.kind f.start

abbrev pub IsCell : CellDecl → Type 0
IsCell (cell.Field f) = IsField f
IsCell (cell.Set name members) = IsName name × AreSome IsName members
IsCell (cell.Record name fields) = IsName name × AreSome IsField fields

abbrev pub IsPath : PathDecl → Type 0
IsPath p = (1 ≤ length p.parts) × (length p.parts ≤ 2) × AllByRecursion IsName p.parts

abbrev pub IsChange : Change → Type 0
IsChange (change.Add t) = IsTerm t
IsChange (change.Take t) = IsTerm t
IsChange (change.Raise t) = IsTerm t
IsChange change.Set = Unit {0}

abbrev pub IsAtom : AtomDecl → Type 0
IsAtom a = IsPath a.path × IsChange a.change

abbrev pub IsStatement : Statement → Type 0
IsStatement (statement.Query name guard) = IsName name × IsName guard
IsStatement statement.Release = Unit {0}
IsStatement (statement.Let name term) = IsName name × IsTerm term
IsStatement (statement.Issue atoms) = AreSome IsAtom atoms

abbrev pub IsBody : BodyTree → Type 0
IsBody (Return plain value) = AllByRecursion IsStatement plain × IsTerm value
IsBody (If plain test first second) = AllByRecursion IsStatement plain × IsFormula test × IsBody first × IsBody second

abbrev pub IsNamed : NamedFormula → Type 0
IsNamed n = IsName n.name × IsFormula n.formula

abbrev pub IsOp : OpTree → Type 0
IsOp o = IsName o.name × AllByRecursion IsNamed o.params × IsFormula o.gives × IsBody o.body

pub record IsProgram (p : ProgramTree) : Type 0 where
  pub cells : AllByRecursion IsCell p.cells
  pub invariant : IsFormula p.invariant
  pub guards : AllByRecursion IsNamed p.guards
  pub ops : AllByRecursion IsOp p.ops

abbrev pub IsCommand : CommandDecl → Type 0
IsCommand c = IsName c.name × AllByRecursion IsWhole c.args × IsNumber c.times

abbrev pub IsSession : SessionDecl → Type 0
IsSession s = IsNumber s.replica × AllByRecursion IsCommand s.commands

pub record IsScene (s : SceneDecl) : Type 0 where
  pub replicas : IsNumber s.replicas
  pub tries : IsNumber s.tries
  pub workers : IsNumber s.workers
  pub gossipers : IsNumber s.gossipers
  pub sessions : AllByRecursion IsSession s.sessions

abbrev pub IsLine : ScriptLine → Type 0
IsLine (Go s) = IsLiteral s
IsLine (Gossip q r) = IsLiteral q × IsLiteral r
IsLine (Cut q r) = IsLiteral q × IsLiteral r
IsLine (Join q r) = IsLiteral q × IsLiteral r

-- a script or a transcript stands only behind a scene, and not both of them
abbrev pub PartsFit : FileTree → Type 0
PartsFit f = (IsSome f.script → IsSome f.scene × IsNone f.tail) × (IsSome f.tail → IsSome f.scene)

pub record IsFile (f : FileTree) : Type 0 where
  pub program : IsProgram f.program
  pub scene : IfSome f.scene IsScene
  pub script : IfSome f.script (AllByRecursion IsLine)
  pub parts : PartsFit f
