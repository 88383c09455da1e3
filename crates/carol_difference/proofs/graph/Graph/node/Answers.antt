use Rattle.std.proofs.Common.{◌≡◌, length, sym, ap, ◌∙◌, arith}
use Rattle.carol_difference.proofs.Table.{Grows-push, variable_at-last, table_push}
use Rattle.carol_difference.proofs.graph.Graph.node.Goals as goal

pub returns-in-Some-clause-node : goal.returns-in-Some-clause-node
returns-in-Some-clause-node c = c.requires.table.known c.args.variable c.in-Some.node.now (sym c.in-Some.ensures.value)

pub returns-clause-grows : goal.returns-clause-grows
returns-clause-grows c = rw c.in_ok-push.ensures.items (Grows-push c.args.self.now.variables.items c.args.variable)

pub returns-clause-node : goal.returns-clause-node
returns-clause-node c =
    let node : c.len-node.result ≡ length c.push.new.self.items = c.len-node.ensures ∙ c.push.new.self.ok.0 in
    let items = c.in_ok-push.ensures.items in
    (omega (arith, node), rw items (variable_at-last c.args.self.now.variables.items c.args.variable c.len-node.result (node ∙ ap length items)))

pub returns-clause-table : goal.returns-clause-table
returns-clause-table c =
    let node : c.len-node.result ≡ length c.push.new.self.items = c.len-node.ensures ∙ c.push.new.self.ok.0 in
    let items = c.in_ok-push.ensures.items in
    rw items (table_push c.args.self.now.numbers c.insert.new.self c.args.self.now.variables.items c.args.variable c.len-node.result c.requires.table (sym c.in_default.ensures.value) (node ∙ ap length items) c.in_ok-insert.ensures.updates.0)
