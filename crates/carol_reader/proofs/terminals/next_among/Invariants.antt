use Rattle.std.proofs.Common.{◌≡◌, ◌≢◌, map, length}
use Rattle.std.specs.List.{AllByRecursion}
use Rattle.carol_grammar.specs.Reading.{next_in}
use Rattle.carol_syntax.specs.declared.kind.Kind.TheVariants as kinds
use Rattle.carol_grammar.specs.Terminals.{class_of, number_of}
use Rattle.carol_reader.proofs.terminals.next_among.Given as goal

abbrev pub invariant-loop-kind : goal.invariant-loop-kind
invariant-loop-kind l = AllByRecursion (λ kind. kind ≢ kinds.Number) l.rest × (next_in class_of (map number_of l.rest) l.tokens ≡ next_in class_of (map number_of l.among) l.tokens)

abbrev pub decreases-loop-kind : goal.decreases-loop-kind
decreases-loop-kind l = length l.rest
