use Rattle.std.proofs.Common.{◌≡◌, ◌∙◌, sym, true, inl, inr, arith}
use Rattle.std.specs.Vec.{vec_len}
use Rattle.std.specs.Result.{is_ok}
use Rattle.std.proofs.lemmas.Bool.{cases_lt}
use Rattle.std.proofs.lemmas.List.{get_or_past}
use Rattle.carol_holding.proofs.Marked.{is_marked-same}
use Rattle.carol_holding.proofs.marks.lengthen.Goals as goal

pub returns-then-len-clause-each : goal.returns-then-len-clause-each
returns-then-len-clause-each c =
    let ok : is_ok c.resize.result ≡ true = c.resize.ensures.succeeds (omega arith)
    in let long : vec_len c.resize.new.self ≡ c.args.len = rw ok at c.resize.ensures.len
    in is_marked-same c.args.words.now.items c.resize.new.self.items (λ k. elim (cases_lt k c.len.result) [
      | inl before ↦ c.resize.ensures.by_index.0 k 0 (omega arith) (omega arith)
      | inr after ↦ elim (cases_lt k c.args.len) [
        | inl added ↦ c.resize.ensures.by_index.1 k 0 ok (omega arith) (omega arith) ∙ sym (get_or_past c.args.words.now.items k 0 (omega arith))
        | inr past ↦ get_or_past c.resize.new.self.items k 0 (omega arith) ∙ sym (get_or_past c.args.words.now.items k 0 (omega arith))
      ]
    ])
