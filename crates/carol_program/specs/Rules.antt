-- A program as plain data, without its names.
use Rattle.std.specs.Prelude.{List, map}
use Rattle.carol_store.specs.declared.shape.CellKind.{CellKind}
use Rattle.carol_store.specs.Kinds.{CellValue}
use Rattle.carol_formula.specs.Claim.{Claim}
use Rattle.carol_formula.specs.Tree.{claim_of}
use Rattle.carol_program.specs.declared.program.Guard.{Guard}
use Rattle.carol_program.specs.declared.program.Op.{Op}
use Rattle.carol_program.specs.declared.program.Program.{Program}
use Rattle.carol_program.specs.Bodies.{Body, body_of}

pub record OpRules : Type 0 where
  pub params : List Claim
  pub result : Claim
  pub body : Body

pub record Rules : Type 0 where
  pub shape : List CellKind
  pub initial : List CellValue
  pub invariant : Claim
  pub guards : List Claim
  pub ops : List OpRules

abbrev pub guard_claim : Guard → Claim
guard_claim g = claim_of g.formula

abbrev pub op_rules : Op → OpRules
op_rules o = record { params = map claim_of o.params; result = claim_of o.result; body = body_of o.body }

abbrev pub rules_in : Program → Rules
rules_in p = record {
  shape = p.shape;
  initial = p.initial;
  invariant = claim_of p.invariant;
  guards = map guard_claim p.guards;
  ops = map op_rules p.ops;
}
