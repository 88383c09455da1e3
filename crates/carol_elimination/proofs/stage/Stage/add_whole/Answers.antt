use Rattle.std.proofs.Common.{rules, ◌≡◌, subst}
use Rattle.carol_elimination.specs.Entries.{rows_in}
use Rattle.carol_elimination.specs.Extends.{IsVerdict}
use Rattle.carol_elimination.specs.declared.stage.Verdict.TheVariants.{LeftOut}
use Rattle.carol_elimination.proofs.Extending.{extend_left_out}
use Rattle.carol_elimination.proofs.Adding.{added, made_derived}
use Rattle.carol_elimination.proofs.stage.Stage.add_whole.Goals as goal

pub returns-then-is_left_out-clause-extend : goal.returns-then-is_left_out-clause-extend
returns-then-is_left_out-clause-extend c =
    let left_out : c.verdict-verdict.result ≡ LeftOut = search rules in
    extend_left_out (rows_in c.args.arena.now c.args.self.now.rows.items) c.args.row (subst (IsVerdict (rows_in c.args.arena.now c.args.self.now.rows.items) c.args.row) left_out c.verdict-verdict.ensures)

pub returns-clause-inside : goal.returns-clause-inside
returns-clause-inside c = (added c.args.arena.now c.push.new.self c.args.self.now.rows.items c.put.new.self.rows.items c.verdict-verdict.result c.in_ok-at.at c.args.step c.args.row c.in_ok-at.ensures.ok c.in_ok-at.ensures.number c.in_ok-put.ensures c.requires c.verdict-verdict.ensures).0

pub returns-clause-extend : goal.returns-clause-extend
returns-clause-extend c = (added c.args.arena.now c.push.new.self c.args.self.now.rows.items c.put.new.self.rows.items c.verdict-verdict.result c.in_ok-at.at c.args.step c.args.row c.in_ok-at.ensures.ok c.in_ok-at.ensures.number c.in_ok-put.ensures c.requires c.verdict-verdict.ensures).1

pub returns-clause-derived : goal.returns-clause-derived
returns-clause-derived c = λ given h d. made_derived given c.args.arena.now c.push.new.self c.args.step c.args.row c.in_ok-at.ensures.ok h d
