use Rattle.std.proofs.Common.{eqb, ◌||◌, Bool, ◌∙◌, ap, arith}
use Rattle.std.proofs.lemmas.List.{get_or_read}
use Rattle.carol_holding.proofs.Marked.{is_marked-set}
use Rattle.carol_holding.proofs.marks.mark.Goals as goal

pub returns-clause-each : goal.returns-clause-each
returns-clause-each c = λ i.
    is_marked-set c.lengthen.new.words.items c.args.entry c.index_mut.result.now
    (get_or_read c.lengthen.new.words.items _ c.index_mut.result.now (omega arith) c.index_mut.ensures.value 0) (omega arith) i
    ∙ ap (λ (b : Bool). eqb c.args.entry i || b) (c.lengthen.ensures.each i)
