use Rattle.std.proofs.Common.{◌≡◌, ◌≤◌, ◌++◌, length, sym, subst}
use Rattle.std.specs.Prelude.{OnOk, Option, Some, None}
use Rattle.std.proofs.lemmas.List.{append-nil, length-map}
use Rattle.carol_formula.specs.Tree.{claim_of}
use Rattle.carol_program.specs.Limits.{most_params}
use Rattle.carol_program.specs.Rules.{OpRules, op_rules, rules_in}
use Rattle.carol_accept.specs.Lines.{statement_lines}
use Rattle.carol_accept.specs.Named.{variable_text}
use Rattle.carol_accept.proofs.Standing.{op_at, rules_at, stands_start}
use Rattle.carol_accept.proofs.lines.Shown.push_statement.Goals as goal

pub push_op-requires-clause-params : goal.push_op-requires-clause-params
push_op-requires-clause-params g c =
    let p = rules_in c.args.program.now in
    let at = rules_at c.args.program.now.ops c.args.op (Some c.in-Some.op.now) c.in-Some.ensures in
    let over = op_at p.shape (length p.guards) p.ops c.args.op (op_rules c.in-Some.op.now) c.requires.ops at in
    subst (λ n. n ≤ most_params) (length-map c.in-Some.op.now.params claim_of) over.few_params

pub push_op-requires-clause-body : goal.push_op-requires-clause-body
push_op-requires-clause-body g c =
    let p = rules_in c.args.program.now in
    let at = rules_at c.args.program.now.ops c.args.op (Some c.in-Some.op.now) c.in-Some.ensures in
    stands_start p.shape (length p.guards) (op_rules c.in-Some.op.now) (op_at p.shape (length p.guards) p.ops c.args.op (op_rules c.in-Some.op.now) c.requires.ops at)

pub returns-in-Some : goal.returns-in-Some
returns-in-Some g c =
    let p = rules_in c.args.program.now in
    let name = variable_text c.args.self.now.names.now c.args.self.now.place in
    let f = g.L.Lookup.numbers c.args.self.now.numbers.now in
    let at = rules_at c.args.program.now.ops c.args.op (Some c.in-Some.op.now) c.in-Some.ensures in
    let here = subst (λ ks. OnOk c.push_op.result (c.push_op.new.out.items ≡ c.args.out.now.items ++ statement_lines name f (length ks) c.args.number (Some (op_rules c.in-Some.op.now)))) c.kinds.ensures.kinds c.push_op.ensures in
    subst (λ (o : Option OpRules). OnOk c.push_op.result (c.push_op.new.out.items ≡ c.args.out.now.items ++ statement_lines name f (length p.shape) c.args.number o)) (sym at) here

pub returns-in-None : goal.returns-in-None
returns-in-None g c =
    let p = rules_in c.args.program.now in
    let name = variable_text c.args.self.now.names.now c.args.self.now.place in
    let f = g.L.Lookup.numbers c.args.self.now.numbers.now in
    let at = rules_at c.args.program.now.ops c.args.op None c.in-None.ensures in
    subst (λ (o : Option OpRules). c.args.out.now.items ≡ c.args.out.now.items ++ statement_lines name f (length p.shape) c.args.number o) (sym at) (sym (append-nil c.args.out.now.items))
