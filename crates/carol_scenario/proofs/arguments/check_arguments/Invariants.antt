use Rattle.std.proofs.Common.{◌≡◌, map, drop}
use Rattle.std.specs.List.{AllByRecursion}
use Rattle.carol_formula.specs.Tree.{claim_of}
use Rattle.carol_formula.specs.Claim.{ClaimFits}
use Rattle.carol_program.specs.Variables.{number_of_args}
use Rattle.carol_scenario.specs.Faults.{arguments_faults}
use Rattle.carol_scenario.proofs.arguments.check_arguments.Given as goal

abbrev pub invariant-loop-refinement : goal.invariant-loop-refinement
invariant-loop-refinement l = record {
  number : l.parameter ≡ l.refinement-index;
  faults :
      arguments_faults l.session l.command (number_of_args l.args) l.parameter (map claim_of (drop l.refinement-index l.refinements)) l.left ≡
      arguments_faults l.session l.command (number_of_args l.args) 0 (map claim_of l.refinements) l.args;
  fit : AllByRecursion (λ c. ClaimFits c (number_of_args l.args)) (map claim_of (drop l.refinement-index l.refinements));
}
