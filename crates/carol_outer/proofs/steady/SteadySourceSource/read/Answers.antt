use Rattle.std.proofs.Common.{◌≡◌, take, drop, length, ap, ◌∙◌, arith, rules}
use Rattle.carol_outer.proofs.Pieces.{gives_front}
use Rattle.carol_outer.proofs.steady.SteadySourceSource.read.Goals as goal

pub returns-clause-gives : goal.returns-clause-gives
returns-clause-gives c =
    let into = c.copy_front-count.new.into in
    let n = c.copy_front-count.result in
    let rest : c.split_at.result.1.now ≡ drop c.self.inside.at c.self.inside.bytes.items = search rules in
    let long : length c.split_at.result.1.now ≡ length (drop c.self.inside.at c.self.inside.bytes.items) = ap length rest in
    let left : c.args.self.now ≡ drop c.self.inside.at c.self.inside.bytes.items = search rules in
    let (given, end) = gives_front c.self.inside.bytes.items into c.self.inside.at n (c.copy_front-count.ensures.front ∙ ap (take n) rest) (λ none room. omega arith) in
    (left ∙ given, end)
