use Rattle.std.proofs.Common.{◌-◌, subst, arith}
use Rattle.carol_cert.specs.Proof.{proof_of}
use Rattle.carol_cert.specs.Left.{AreSides, IsSide}
use Rattle.carol_cert.specs.Block.{branches}
use Rattle.carol_cert.proofs.Blocks.{branches_popped, sides_popped}
use Rattle.carol_cert.proofs.block.Block.pop.Goals as goal

pub returns-clause-held : goal.returns-clause-held
returns-clause-held c =
    let b = c.args.self.now in
    branches_popped b.count (b.count - 1) b.bounds b.trees c.index-bounds-last.result c.index-trees-last.result (omega arith) (omega arith) (omega arith) c.index-bounds-last.is c.index-trees-last.is

rest : (c : goal.After-index-trees-last) → AreSides (branches (c.args.self.now.count - 1) c.args.self.now.bounds c.args.self.now.trees) × IsSide c.index-bounds-last.result
rest c =
    let b = c.args.self.now in
    sides_popped (branches (b.count - 1) b.bounds b.trees) c.index-bounds-last.result (proof_of c.index-trees-last.result.now) (subst AreSides (returns-clause-held c) c.requires.sides)

pub returns-clause-room : goal.returns-clause-room
returns-clause-room c = (omega arith, (rest c).1)

pub returns-clause-right : goal.returns-clause-right
returns-clause-right c = record {
  fits = omega arith;
  bounds = c.requires.bounds;
  trees = c.requires.trees;
  sides = (rest c).0;
}
