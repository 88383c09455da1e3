use Rattle.carol_elimination.proofs.Combining.{inside_next, kept_more}
use Rattle.carol_elimination.specs.Entries.{rows_in}
use Rattle.carol_elimination.proofs.next.keep_all.Goals as goal

pub keep-requires-clause-known : goal.keep-requires-clause-known
keep-requires-clause-known c = inside_next c.args.arena.now c.args.rows.now c.loop-at.at-index c.requires.rows_inside c.loop-at-test.true

pub loop-at-preserved : goal.loop-at-preserved
loop-at-preserved c = record {
  inside = c.in_ok-keep.ensures.inside;
  extend = kept_more c.args.arena.now c.args.rows.now c.loop-at.at-index (rows_in c.args.arena.now c.args.stage.now.rows.items) (rows_in c.args.arena.now c.loop-at.stage.rows.items) (rows_in c.args.arena.now c.keep.new.self.rows.items) c.loop-at-test.true c.loop-at.invariant.extend c.in_ok-keep.ensures.extend;
}
