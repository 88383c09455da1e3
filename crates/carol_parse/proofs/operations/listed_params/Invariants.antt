use Rattle.std.proofs.Common.{◌≡◌, ◌-◌, ◌∷◌, [], map}
use Rattle.carol_grammar.specs.Reading.{read_many, next_in, behind}
use Rattle.carol_syntax.specs.Files.{param_tree}
use Rattle.carol_syntax.specs.declared.kind.Kind.TheVariants as k
use Rattle.carol_grammar.specs.Terminals.{class_of, number_of}
use Rattle.carol_grammar.specs.Rules as rules
use Rattle.carol_reader.specs.Reads.{read_by}
use Rattle.carol_parse.proofs.operations.listed_params.Given as goal

abbrev pub invariant-loop : goal.invariant-loop
invariant-loop l = behind (map param_tree l.all) (read_many (l.reader.count - l.counter) (next_in class_of (number_of k.Comma ∷ [])) (read_by l.reader (rules.behind_word k.Comma (rules.param l.reader.bytes.now))) l.rest) ≡ read_by l.reader (rules.listed (rules.param l.reader.bytes.now)) l.tokens
