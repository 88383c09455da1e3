use Rattle.std.proofs.Common.{ap}
use Rattle.carol_reply.specs.declared.status.Status.TheVariants as status
use Rattle.carol_reply.specs.Reply.{answer_of}
use Rattle.carol_words_gen.proofs.Summed.{told_summed}
use Rattle.carol_words_gen.proofs.sum_house.Goals as goal

pub returns : goal.returns
returns c =
    let turned = c.in_ok-run_in_turns.ensures in
    told_summed c.bound_laws.ensures.short c.args.count c.args.house.now c.run_in_turns.new.house (answer_of (record { status = status.Ok; text = c.in_ok-summary.field-0 })) c.requires.empty turned.over turned.turns c.history-upheld.ensures.history c.history-upheld.ensures.upheld (ap (λ t. (status.Ok, t)) c.in_ok-summary.ensures)
