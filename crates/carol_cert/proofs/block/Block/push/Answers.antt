use Rattle.std.proofs.Common.{◌≡◌, ◌+◌, suc, ap, ◌∙◌, subst, sym, arith}
use Rattle.std.specs.Prelude.{slice_set}
use Rattle.std.proofs.lemmas.List.{length-set}
use Rattle.carol_cert.specs.Proof.{proof_of}
use Rattle.carol_cert.specs.Left.{AreSides}
use Rattle.carol_cert.specs.Block.{branches, held}
use Rattle.carol_cert.proofs.Blocks.{branches_pushed, sides_pushed}
use Rattle.carol_cert.proofs.block.Block.push.Goals as goal

pub returns-clause-held : goal.returns-clause-held
returns-clause-held c =
    let b = c.args.self.now in
    let more : b.count + 1 ≡ suc b.count = omega arith in
    ap (λ n. branches n (slice_set b.bounds b.count c.args.bound) (slice_set b.trees b.count c.args.tree)) more
    ∙ branches_pushed b.count b.bounds b.trees c.args.bound c.args.tree (omega arith) (omega arith)

pub returns-clause-right : goal.returns-clause-right
returns-clause-right c = record {
  fits = omega arith;
  bounds = length-set c.args.self.now.bounds c.args.self.now.count c.args.bound ∙ c.requires.right.bounds;
  trees = length-set c.args.self.now.trees c.args.self.now.count c.args.tree ∙ c.requires.right.trees;
  sides = subst AreSides (sym (returns-clause-held c)) (sides_pushed (held c.args.self.now) c.args.bound (proof_of c.args.tree.now) c.requires.right.sides c.requires.side);
}
