use Rattle.std.proofs.Common.{subst, sym, arith}
use Rattle.carol_cert.specs.Place.{AreItems}
use Rattle.carol_cert.specs.Block.{held}
use Rattle.carol_cert.proofs.Blocks.{branches_bounds, items_of_sides}
use Rattle.carol_cert.proofs.block.Block.bounds.Goals as goal

pub returns-clause-value : goal.returns-clause-value
returns-clause-value c = branches_bounds c.args.self.now.count c.args.self.now.bounds c.args.self.now.trees (omega arith) (omega arith)

pub returns-clause-bounded : goal.returns-clause-bounded
returns-clause-bounded c = subst AreItems (sym (returns-clause-value c)) (items_of_sides (held c.args.self.now) c.requires.sides)
