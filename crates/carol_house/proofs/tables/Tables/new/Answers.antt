use Rattle.std.proofs.Common.{rules, ◌∙◌}
use Rattle.carol_program.specs.Rules.{rules_in}
use Rattle.carol_house.proofs.Starting.{tables_start}
use Rattle.carol_house.proofs.tables.Tables.new.Goals as goal

pub returns : goal.returns
returns c =
    let p = rules_in c.args.accepted.now.program
    in let kept = c.program-program.ensures.kept
    in tables_start p c.args.accepted.now.accords c.args.scene.now _ kept.well_formed.rules c.requires (record {
      machines = rw c.as_slice.ensures at c.in_ok-machines_of.ensures;
      grants = c.in_ok-new.ensures.none;
      grants_each = search rules;
      table = search rules;
      holding = c.in_ok-new-2.ensures.nothing;
      holding_each = c.in_ok-new-2.ensures.count;
      journal = search rules;
      locals = λ r inside. c.in_ok-new-3.ensures.locals r inside ∙ search rules;
      locals_each = c.in_ok-new-3.ensures.count;
      global = search rules;
      joined = c.new-5.ensures;
      settled = c.new-6.ensures;
    })
