use Rattle.std.proofs.Common.{◌≡◌, true, ◌∷◌, []}
use Rattle.carol_grammar.specs.Reading.{next_in}
use Rattle.carol_syntax.specs.Files.{guard_tree}
use Rattle.carol_syntax.specs.declared.kind.Kind.TheVariants as k
use Rattle.carol_grammar.specs.Terminals.{class_of, number_of}
use Rattle.carol_grammar.specs.Rules as rules
use Rattle.carol_reader.specs.Reads.{read_by}
use Rattle.carol_parse.proofs.Seen.{seen_on}
use Rattle.carol_parse.proofs.guards.guards.Goals as goal

pub loop-preserved : goal.loop-preserved
loop-preserved c =
    let e : next_in class_of (number_of k.Guard ∷ []) c.loop.rest.now ≡ true = cc in
    seen_on guard_tree c.args.reader.now.count c.loop.counter (next_in class_of (number_of k.Guard ∷ [])) (read_by c.args.reader.now (rules.guard c.args.reader.now.bytes.now)) c.loop.all c.push.new.self c.in_ok-one.one c.loop.rest.now c.in_ok-one.more.now (read_by c.args.reader.now (rules.guards c.args.reader.now.bytes.now) c.args.tokens.now) c.loop.invariant c.in_ok-push.ensures.ok c.loop-test.true e c.in_ok-one.ensures
