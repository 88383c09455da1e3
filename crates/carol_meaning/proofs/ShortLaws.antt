-- What is as small as the limits of a text make it is short enough for its names to be resolved.
use Rattle.std.proofs.Common.{◌≤◌, arith}
use Rattle.carol_syntax.specs.declared.bodies.Change.{Change}
use Rattle.carol_syntax.specs.declared.bodies.Change.TheVariants.{Add, Take, Raise, Set}
use Rattle.carol_syntax.specs.declared.bodies.Statement.{Statement}
use Rattle.carol_syntax.specs.declared.bodies.Statement.TheVariants as statement
use Rattle.carol_syntax.specs.Formulas.{FormulaTree, True, False, Not, And, Or, Compare}
use Rattle.carol_syntax.specs.Bodies.{BodyTree, Return, If}
use Rattle.carol_syntax.specs.Files.{NamedFormula, OpTree, ProgramTree}
use Rattle.carol_syntax.specs.Size.{formula_size, node_count, IsSizedFormula, IsSizedChange, IsSizedAtom, IsSizedStatement, HasSizedParts, IsSizedNamed, IsSizedOp, IsSizedProgram}
use Rattle.carol_meaning.specs.Sizes.{HasShortTerms, IsShortFormula, IsShortChange, IsShortAtom, IsShortStatement, HasShortParts, IsShortNamed, IsShortOp, IsShortProgram}
use Rattle.carol_meaning.proofs.Lists.{All-each}

nodes-below : (f : FormulaTree) → node_count f ≤ formula_size f
nodes-below True = omega arith
nodes-below False = omega arith
nodes-below (Not f) = omega (arith, nodes-below f)
nodes-below (And f g) = omega (arith, nodes-below f, nodes-below g)
nodes-below (Or f g) = omega (arith, nodes-below f, nodes-below g)
nodes-below (Compare left sign right) = omega arith

short-terms : (f : FormulaTree) → formula_size f ≤ 256 → HasShortTerms f
short-terms True h = tt
short-terms False h = tt
short-terms (Not f) h = short-terms f (omega (arith, h))
short-terms (And f g) h = (short-terms f (omega (arith, h)), short-terms g (omega (arith, h)))
short-terms (Or f g) h = (short-terms f (omega (arith, h)), short-terms g (omega (arith, h)))
short-terms (Compare left sign right) h = (omega (arith, h), omega (arith, h))

short-formula : (f : FormulaTree) → IsSizedFormula f → IsShortFormula f
short-formula f h = (omega (arith, nodes-below f, h), short-terms f h)

short-change : (c : Change) → IsSizedChange c → IsShortChange c
short-change (Add t) h = h
short-change (Take t) h = h
short-change (Raise t) h = h
short-change Set h = tt

short-statement : (s : Statement) → IsSizedStatement s → IsShortStatement s
short-statement (statement.Query name guard) h = tt
short-statement statement.Release h = tt
short-statement (statement.Let name term) h = h
short-statement (statement.Issue atoms) h = All-each IsSizedAtom IsShortAtom (λ a k. short-change a.change k) atoms h.1

short-parts : (b : BodyTree) → HasSizedParts b → HasShortParts b
short-parts (Return plain value) h = (All-each IsSizedStatement IsShortStatement short-statement plain h.0, h.1)
short-parts (If plain test first second) h = (
  All-each IsSizedStatement IsShortStatement short-statement plain h.0,
  short-formula test h.1,
  short-parts first h.2,
  short-parts second h.3,
)

short-named : (n : NamedFormula) → IsSizedNamed n → IsShortNamed n
short-named n h = short-formula n.formula h

short-op : (o : OpTree) → IsSizedOp o → IsShortOp o
short-op o h = record {
  params = All-each IsSizedNamed IsShortNamed short-named o.params h.params.1;
  gives = short-formula o.gives h.gives;
  body = record { parts = short-parts o.body h.body.parts; shallow = h.body.shallow; short = h.body.short };
}

pub short-program : (p : ProgramTree) → IsSizedProgram p → IsShortProgram p
short-program p h = record {
  invariant = short-formula p.invariant h.invariant;
  guards = All-each IsSizedNamed IsShortNamed short-named p.guards h.guards.1;
  ops = All-each IsSizedOp IsShortOp short-op p.ops h.ops.1;
}
