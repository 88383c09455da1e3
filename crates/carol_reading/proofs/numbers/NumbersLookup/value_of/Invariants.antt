use Rattle.std.proofs.Common.{◌≡◌, length}
use Rattle.carol_program.specs.Variables.{number_of_args}
use Rattle.carol_reading.proofs.Lookups.{number_through}
use Rattle.carol_reading.proofs.numbers.NumbersLookup.value_of.Given as goal

abbrev pub invariant-loop-slot : goal.invariant-loop-slot
invariant-loop-slot l = number_through l.slots l.stores l.number l.v ≡ number_through l.self.slots.now l.self.stores.now (number_of_args l.self.args.now l.v) l.v

abbrev pub decreases-loop-slot : goal.decreases-loop-slot
decreases-loop-slot l = length l.slots
