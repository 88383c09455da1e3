use Rattle.std.proofs.Common.{◌≡◌, ◌∷◌, rules}
use Rattle.carol_resolve.specs.Heads.{with_heads}
use Rattle.carol_resolve.proofs.Branches.{plain_more, chain_more, behind_more}
use Rattle.carol_resolve.proofs.Places.{number_more}
use Rattle.carol_resolve.proofs.statements.statements.Goals as goal

pub loop-statement-preserved : goal.loop-statement-preserved
loop-statement-preserved c =
    let is : c.loop-statement.left.now ≡ c.in-Some.statement.now ∷ c.in-Some.more.now = search rules in
    record {
      faults = plain_more c.args.around.now c.loop-statement.at _ c.in-Some.statement.now _ _ _ _ _ is c.in_ok-statement.ensures.place c.in_ok-statement.ensures.faults c.loop-statement.invariant.faults;
      heads = λ last. chain_more c.args.around.now c.loop-statement.at _ c.in-Some.statement.now _ _ (with_heads c.loop-statement.heads.items) (with_heads c.statement.new.heads.items) last _ is c.in_ok-statement.ensures.place c.in_ok-statement.ensures.heads (c.loop-statement.invariant.heads last);
      place = behind_more c.args.around.now c.loop-statement.at _ _ c.in-Some.statement.now _ _ is c.in_ok-statement.ensures.place c.loop-statement.invariant.place;
      number = number_more c.args.around.now c.loop-statement.at _ c.in-Some.statement.now _ _ is c.in_ok-statement.ensures.place c.loop-statement.invariant.number;
      shape = search rules;
      sized = search rules;
    }
