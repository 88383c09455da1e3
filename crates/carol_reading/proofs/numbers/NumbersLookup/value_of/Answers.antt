use Rattle.std.proofs.Common.{sym, ◌∙◌}
use Rattle.carol_program.specs.Variables.{number_of_args}
use Rattle.carol_reading.proofs.Lookups.{through_slots, through_stores, with_queries-at}
use Rattle.carol_reading.proofs.numbers.NumbersLookup.value_of.Goals as goal

pub returns-in_default-split_first : goal.returns-in_default-split_first
returns-in_default-split_first c = sym (through_stores c.loop-slot.slots.now c.loop-slot.stores.now _ c.args.v c.in_default-split_first.ensures.cases) ∙ c.loop-slot.invariant ∙ sym (with_queries-at c.args.self.now.slots.now c.args.self.now.stores.now (number_of_args c.args.self.now.args.now) c.args.v)

pub returns : goal.returns
returns c = sym (through_slots c.loop-slot.slots.now c.loop-slot.stores.now _ c.args.v c.in_default.ensures.cases) ∙ c.loop-slot.invariant ∙ sym (with_queries-at c.args.self.now.slots.now c.args.self.now.stores.now (number_of_args c.args.self.now.args.now) c.args.v)
