use Rattle.std.proofs.Common.{◌≡◌, ◌∷◌, rules}
use Rattle.carol_resolve.proofs.Changes.{issue_more, parts_more}
use Rattle.carol_resolve.proofs.issues.issue.Goals as goal

pub loop-atom-preserved : goal.loop-atom-preserved
loop-atom-preserved c =
    let is : c.loop-atom.left.now ≡ c.in-Some.atom.now ∷ c.in-Some.more.now = search rules in
    record {
      faults = issue_more c.args.around.now c.args.at.now c.loop-atom.seen c.part.new.seen c.in-Some.atom.now _ _ _ _ _ is c.in_ok-part.ensures.faults c.in_ok-part.ensures.seen c.loop-atom.invariant.faults;
      parts = parts_more c.args.around.now c.args.at.now c.in-Some.atom.now _ _ c.in_ok-part.part c.loop-atom.parts _ _ is c.in_ok-part.ensures.part c.in_ok-push.ensures.ok c.loop-atom.invariant.parts;
      shape = search rules;
      sized = search rules;
    }
