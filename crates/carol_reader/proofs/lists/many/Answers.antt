use Rattle.std.proofs.Common.{◌≡◌, ◌∷◌, [], ◌++◌, ◌-◌, true, false, sym, ◌∙◌}
use Rattle.std.proofs.lemmas.Result.{err_from_is_err_and}
use Rattle.carol_grammar.specs.Reading.{next_in}
use Rattle.carol_grammar.proofs.Repeating.{many_on, many_over}
use Rattle.carol_grammar.specs.Terminals.{class_of}
use Rattle.carol_reader.proofs.Halting.{halts}
use Rattle.carol_reader.proofs.lists.many.Goals as goal

pub returns-then-not-begins : goal.returns-then-not-begins
returns-then-not-begins g c =
    let e : next_in class_of g.M.Member.starts c.loop.rest.now ≡ false = cc in
    sym c.loop.invariant ∙ many_over (c.args.reader.now.count - c.loop.counter) _ _ c.loop.all c.loop.rest.now e

pub returns-in_err-one : goal.returns-in_err-one
returns-in_err-one g c =
    let p = err_from_is_err_and c.from_residual.result c.from_residual.ensures.1 in
    let e : next_in class_of g.M.Member.starts c.loop.rest.now ≡ true = cc in
    rw (p.1, p.2) (halts _ c.args.reader.now.count c.loop.counter _ _ c.loop.all c.loop.rest.now _ c.loop.invariant c.loop-test.true e c.in_err-one.ensures)

pub loop-preserved : goal.loop-preserved
loop-preserved g c =
    let e : next_in class_of g.M.Member.starts c.loop.rest.now ≡ true = cc in
    let one = many_on c.args.reader.now.count c.loop.counter _ _ c.loop.all c.loop.rest.now c.in_ok-one.one c.in_ok-one.more.now c.loop-test.true e c.in_ok-one.ensures in
    let p : c.push.new.self ≡ c.loop.all ++ c.in_ok-one.one ∷ [] = c.in_ok-push.ensures.ok in
    rw p (sym one ∙ c.loop.invariant)
