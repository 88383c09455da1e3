use Rattle.std.proofs.Common.{arith}
use Rattle.carol_holding.proofs.Held.{has_added}
use Rattle.carol_holding.proofs.row.Row.add.Goals as goal

pub returns-clause-each : goal.returns-clause-each
returns-clause-each c = λ i. rw (← c.self.view_is)
    (has_added c.self.inside.front c.first_unmarked-self-inside.result c.args.entry c.self.inside.marks.items c.mark.new.words.items c.self.invariant c.mark.ensures.each
    (rw (← c.deref.ensures.value) c.first_unmarked-self-inside.ensures.unmarked) (rw (← c.deref.ensures.value) c.first_unmarked-self-inside.ensures.marked)
    c.first_unmarked-self-inside.ensures.within (omega arith) i)
