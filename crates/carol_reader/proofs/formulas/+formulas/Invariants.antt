use Rattle.std.proofs.Common.{◌≡◌, ◌+◌, ◌-◌, ◌*◌, ◌∷◌, [], fold}
use Rattle.carol_grammar.specs.Rule.Rule.{deeper}
use Rattle.carol_grammar.specs.Reading.{read_many, next_in, giving}
use Rattle.carol_syntax.specs.Formulas.{formula_tree, And, Or}
use Rattle.carol_syntax.specs.declared.kind.Kind.TheVariants as k
use Rattle.carol_grammar.specs.Terminals.{class_of, number_of}
use Rattle.carol_grammar.specs.Rules as rules
use Rattle.carol_reader.specs.Reads.{read_by}
use Rattle.carol_reader.proofs.formulas.+formulas.Given as goal

abbrev pub decreases-literal : goal.decreases-literal
decreases-literal l = 6 * l.reader.now.depth

abbrev pub decreases-denial : goal.decreases-denial
decreases-denial l = 6 * l.reader.now.depth + 1

abbrev pub decreases-next_literal : goal.decreases-next_literal
decreases-next_literal l = 6 * l.reader.now.depth + 1

abbrev pub decreases-conjunction : goal.decreases-conjunction
decreases-conjunction l = 6 * l.reader.now.depth + 2

abbrev pub decreases-next_conjunction : goal.decreases-next_conjunction
decreases-next_conjunction l = 6 * l.reader.now.depth + 3

abbrev pub decreases-formula : goal.decreases-formula
decreases-formula l = 6 * l.reader.now.depth + 4

abbrev pub decreases-nested_literal : goal.decreases-nested_literal
decreases-nested_literal l = 6 * l.reader.now.depth + 5

abbrev pub invariant-conjunction-loop : goal.invariant-conjunction-loop
invariant-conjunction-loop l = giving (fold And (formula_tree l.whole)) (read_many (l.reader.count - l.counter) (next_in class_of (number_of k.And ∷ [])) (read_by l.reader (rules.behind_word k.And (deeper rules.literal))) l.rest) ≡ read_by l.reader rules.conjunction l.tokens

abbrev pub invariant-formula-loop : goal.invariant-formula-loop
invariant-formula-loop l = giving (fold Or (formula_tree l.whole)) (read_many (l.reader.count - l.counter) (next_in class_of (number_of k.Or ∷ [])) (read_by l.reader (rules.behind_word k.Or rules.conjunction)) l.rest) ≡ read_by l.reader rules.formula l.tokens
