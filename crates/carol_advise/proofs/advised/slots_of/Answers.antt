use Rattle.std.proofs.Common.{◌≡◌, ◌≤◌, length, ◌∙◌, ap, sym, arith}
use Rattle.carol_program.specs.declared.names.OpNames.{OpNames}
use Rattle.carol_program.specs.Bodies.{queries_in}
use Rattle.carol_program.specs.Limits.{most_queries}
use Rattle.carol_program.specs.Rules.{op_rules}
use Rattle.carol_advise.proofs.Standing.{few_there, name_there, queries_there}
use Rattle.carol_advise.proofs.advised.slots_of.Goals as goal

pub bounds-as_slice-number : goal.bounds-as_slice-number
bounds-as_slice-number c = name_there c.args.program.now c.args.op.now c.args.number c.requires.op c.as_slice.result.now c.requires.well_formed c.as_slice.ensures

pub overflow_cast-result : goal.overflow_cast-result
overflow_cast-result c =
    let name = c.index-as_slice-number.result in
    let count : length name.queries ≡ queries_in (op_rules c.args.op.now).body =
    queries_there c.args.program.now c.args.op.now c.args.number c.requires.op c.as_slice.result.now name c.requires.well_formed c.as_slice.ensures c.index-as_slice-number.is in
    let few : c.len.result ≤ most_queries = few_there c.args.program.now c.args.op.now c.args.number c.requires.op c.len.result c.requires.well_formed.rules (c.len.ensures ∙ (ap (λ (n : OpNames). length n.queries) (sym c.index-as_slice-number.is) ∙ count)) in
    omega (arith, few)

pub returns : goal.returns
returns c =
    let name = c.index-as_slice-number.result in
    let count : length name.queries ≡ queries_in (op_rules c.args.op.now).body =
    queries_there c.args.program.now c.args.op.now c.args.number c.requires.op c.as_slice.result.now name c.requires.well_formed c.as_slice.ensures c.index-as_slice-number.is in
    record {
      slots = c.len.ensures ∙ (ap (λ (n : OpNames). length n.queries) (sym c.index-as_slice-number.is) ∙ count);
      few = few_there c.args.program.now c.args.op.now c.args.number c.requires.op c.len.result c.requires.well_formed.rules (c.len.ensures ∙ (ap (λ (n : OpNames). length n.queries) (sym c.index-as_slice-number.is) ∙ count));
    }
