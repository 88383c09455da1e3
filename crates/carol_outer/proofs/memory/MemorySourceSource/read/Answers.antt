use Rattle.std.proofs.Common.{◌≡◌, ◌≤◌, take, drop, length, min, ap, ◌∙◌, arith, rules}
use Rattle.std.proofs.lemmas.List.{take-take}
use Rattle.carol_outer.proofs.Pieces.{gives_front}
use Rattle.carol_outer.proofs.memory.MemorySourceSource.read.Goals as goal

pub returns-clause-gives : goal.returns-clause-gives
returns-clause-gives c =
    let into = c.copy_front-count.new.into in
    let n = c.copy_front-count.result in
    let m = c.min.result in
    let all = c.split_at.result.1.now in
    let rest : all ≡ drop c.self.inside.at c.self.inside.bytes.items = search rules in
    let part : c.split_at-2.result.0.now ≡ take m all = c.split_at-2.ensures.front in
    let count : n ≡ min (length c.split_at-2.result.0.now) (length into) = c.copy_front-count.ensures.count in
    let part_long : length c.split_at-2.result.0.now ≡ m = c.split_at-2.ensures.front_len in
    let within : n ≤ m = omega arith in
    let front : take n into ≡ take n (drop c.self.inside.at c.self.inside.bytes.items) =
    c.copy_front-count.ensures.front ∙ ap (take n) part ∙ take-take n m all within ∙ ap (take n) rest in
    let long : length all ≡ length (drop c.self.inside.at c.self.inside.bytes.items) = ap length rest in
    let left : c.args.self.now.rest ≡ drop c.self.inside.at c.self.inside.bytes.items = search rules in
    let (given, end) = gives_front c.self.inside.bytes.items into c.self.inside.at n front (λ none room. omega arith) in
    (left ∙ given, end)
