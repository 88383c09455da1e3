use Rattle.std.proofs.Common.{◌≡◌, true, ◌∷◌, []}
use Rattle.carol_grammar.specs.Reading.{next_in}
use Rattle.carol_syntax.specs.Files.{param_tree}
use Rattle.carol_syntax.specs.declared.kind.Kind.TheVariants as k
use Rattle.carol_grammar.specs.Terminals.{class_of, number_of}
use Rattle.carol_grammar.specs.Rules as rules
use Rattle.carol_reader.specs.Reads.{read_by}
use Rattle.carol_parse.proofs.Seen.{seen_on}
use Rattle.carol_parse.proofs.operations.listed_params.Goals as goal

pub loop-preserved : goal.loop-preserved
loop-preserved c =
    let e : next_in class_of (number_of k.Comma ∷ []) c.loop.rest.now ≡ true = cc in
    seen_on param_tree c.args.reader.now.count c.loop.counter (next_in class_of (number_of k.Comma ∷ [])) (read_by c.args.reader.now (rules.behind_word k.Comma (rules.param c.args.reader.now.bytes.now))) c.loop.all c.push-in-loop.new.self c.in_ok-one.one c.loop.rest.now c.in_ok-one.more.now (read_by c.args.reader.now (rules.listed (rules.param c.args.reader.now.bytes.now)) c.args.tokens.now) c.loop.invariant c.in_ok-push-2.ensures.ok c.loop-test.true e c.in_ok-one.ensures
