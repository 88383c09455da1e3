use Rattle.carol_advise_word.proofs.Open.{open_told}
use Rattle.carol_advise_word.proofs.word.advised.Goals as goal

pub returns-in-Err-Undecided : goal.returns-in-Err-Undecided
returns-in-Err-Undecided c =
    open_told c.args.kept.now c.args.number c.in-Err-Undecided.field-0 c.in-Err-Undecided.field-0-0 c.in-Err-Undecided.place c.in-Err-Undecided.why c.program-in-Err-Undecided.result.now c.in_ok-text-in-Err-Undecided.text.items
    c.in-Err-Undecided.field-0-is c.in-Err-Undecided.ensures.reason c.in-Err-Undecided.ensures.many.1 c.program-in-Err-Undecided.ensures.program c.in_ok-text-in-Err-Undecided.ensures
