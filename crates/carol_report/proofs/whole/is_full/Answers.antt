use Rattle.std.proofs.Common.{◌≡◌, length, ◌∙◌, sym, ap}
use Rattle.std.proofs.lemmas.List.{length-reverse}
use Rattle.carol_report.proofs.Done.{full_is}
use Rattle.carol_report.proofs.whole.is_full.Goals as goal

pub returns-then-history-eq-MOST_EVENTS : goal.returns-then-history-eq-MOST_EVENTS
returns-then-history-eq-MOST_EVENTS c =
    let past = c.args.house.now.history
    in let many : length past ≡ 131072 = sym (length-reverse past) ∙ sym (ap length c.history.ensures.events) ∙ c.if-history-eq-MOST_EVENTS.true
    in full_is c.args.house.now.scene past c.all_done.result many c.all_done.ensures
