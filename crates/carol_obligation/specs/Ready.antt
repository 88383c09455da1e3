-- When the walk can go on from a place: what stands there is right, and formulas stay small.
use Rattle.std.specs.Prelude.{ℕ, ◌+◌, ◌≤◌, List, length}
use Rattle.carol_formula.specs.Tree.{claim_of}
use Rattle.carol_program.specs.Limits.{most_statements, most_queries}
use Rattle.carol_program.specs.Bodies.{Body, last_number, queries_in}
use Rattle.carol_program.specs.Rules.{Rules, op_rules}
use Rattle.carol_program.specs.WellFormed.{setting_of, IsFitBody, IsOpOver, RisesFrom, SlotsFrom}
use Rattle.carol_formula.specs.Size.{nodes_of, IsLight}
use Rattle.carol_obligation.specs.declared.standing.Operation.{Operation}
use Rattle.carol_obligation.specs.declared.standing.Standing.{Standing}
use Rattle.carol_obligation.specs.declared.standing.At.{At}
use Rattle.carol_obligation.specs.Collected.{Point}
use Rattle.carol_obligation.specs.Budget.{reserve, cost, most_known}

abbrev pub point_of : Operation → Standing → Point
point_of of standing = record {
  op = op_rules of.op.now;
  number = of.number;
  known = claim_of standing.known;
  round = standing.round;
  asked = standing.asked;
}

-- the same of a place
abbrev pub point_at : At → Point
point_at at = point_of at.of at.standing.now

-- what is known is little enough, the round is one of an operation, and the operation is one of the program
pub record HasRoom (p : Rules) (at : Point) : Type 0 where
  pub op : IsOpOver p.shape (length p.guards) at.op
  pub round : at.round ≤ most_statements
  pub light : IsLight at.known
  pub few : nodes_of at.known ≤ most_known

-- the walk can go on there
pub record IsReady (p : Rules) (at : Point) (body : Body) : Type 0 where
  -- the slots of the queries that were made, and that of the next
  pub slots : List ℕ
  pub slot : ℕ
  pub op : IsOpOver p.shape (length p.guards) at.op
  pub fit : IsFitBody (setting_of p.shape (length p.guards) at.op) slots body
  pub rises : RisesFrom (at.round + 1) body
  pub few_statements : last_number body ≤ most_statements
  pub in_order : SlotsFrom slot body
  pub few_queries : slot + queries_in body ≤ most_queries
  pub light : IsLight at.known
  pub few : nodes_of at.known + reserve at.asked + cost body ≤ most_known
