use Rattle.std.proofs.Common.{arith, refl}
use Rattle.std.proofs.lemmas.List.{length-map}
use Rattle.carol_formula.specs.Tree.{claim_of}
use Rattle.std.proofs.lemmas.Result.{err_from_is_err_and}
use Rattle.carol_program.specs.Rules.{rules_in, op_rules}
use Rattle.carol_scenario.specs.Faults.{op_called}
use Rattle.carol_scenario.proofs.Commands.{Reaches, op_over, called_at, command_right, command_refused}
use Rattle.carol_scenario.proofs.calls.check_command.Goals as goal

pub check_call-requires : goal.check_call-requires
check_call-requires c =
    let ops = c.args.program.now.ops in
    let over =
    op_over _ _ ops c.in_ok-number.number c.index-as_slice-number.result c.requires.well_formed.rules.ops c.in_ok-number.ensures.number.1 (rw c.as_slice.ensures at c.index-as_slice-number.is)
    in record { few = omega (arith, length-map c.index-as_slice-number.result.params claim_of, over.few_params); fit = over.params }

pub returns-in_err-check_call-clause-wrong : goal.returns-in_err-check_call-clause-wrong
returns-in_err-check_call-clause-wrong c =
    let p = rules_in c.args.program.now in
    let names = c.args.program.now.names in
    let command = c.args.command.now in
    let called =
    called_at p names command.name.word c.args.program.now.ops c.in_ok-number.number c.index-as_slice-number.result refl c.in_ok-number.ensures.number.0 c.in_ok-number.ensures.number.1
    (rw c.as_slice.ensures at c.index-as_slice-number.is)
    in let reaches : Reaches (op_called p names command.name.word) _ command =
    record { name = c.in_ok-number.ensures.ok.0; arity = c.in_ok-number.ensures.ok.1; times = c.in_ok-number_within.ensures.ok.0; total = c.in_ok-check_total.ensures.ok.0 }
    in let e = err_from_is_err_and c.from_residual-in_err-check_call.result c.from_residual-in_err-check_call.ensures.1 in
    rw (e.1, e.2) (
    command_refused p names c.args.session c.args.earlier c.args.place command (op_rules c.index-as_slice-number.result) _ called reaches (rw c.as_slice-2.ensures at c.in_err-check_call.ensures.wrong)
    )

pub returns-clause-ok : goal.returns-clause-ok
returns-clause-ok c =
    let p = rules_in c.args.program.now in
    let names = c.args.program.now.names in
    let command = c.args.command.now in
    let called =
    called_at p names command.name.word c.args.program.now.ops c.in_ok-number.number c.index-as_slice-number.result refl c.in_ok-number.ensures.number.0 c.in_ok-number.ensures.number.1
    (rw c.as_slice.ensures at c.index-as_slice-number.is)
    in let reaches : Reaches (op_called p names command.name.word) _ command =
    record { name = c.in_ok-number.ensures.ok.0; arity = c.in_ok-number.ensures.ok.1; times = c.in_ok-number_within.ensures.ok.0; total = c.in_ok-check_total.ensures.ok.0 }
    in command_right p names c.args.session c.args.earlier c.args.place command (op_rules c.index-as_slice-number.result) called reaches (rw c.as_slice-2.ensures at c.in_ok-check_call.ensures.ok)
