use Rattle.std.proofs.Common.{drop, ap, ◌∙◌}
use Rattle.carol_house.specs.House.{rules_of}
use Rattle.carol_audit.proofs.Comparing.{false_in_report, report_long, same_report}
use Rattle.carol_audit.proofs.finding.false_line.Goals as goal

pub split_at-requires : goal.split_at-requires
split_at-requires c =
    let house = c.args.house.now
    in rw (c.as_slice.ensures.value, c.in_ok-text.ensures) (report_long (rules_of house) house.scene house.history)

pub returns-in-Some : goal.returns-in-Some
returns-in-Some c =
    let house = c.args.house.now
    in false_in_report (rules_of house) house.scene house.history c.split_at.result.1.now c.args.tail.now c.in-Some.number
    (c.split_at.ensures.back ∙ ap (drop 11) (c.as_slice.ensures.value ∙ c.in_ok-text.ensures)) c.in-Some.ensures.tells

pub returns : goal.returns
returns c =
    let house = c.args.house.now
    in same_report (rules_of house) house.scene house.history c.split_at.result.1.now c.args.tail.now
    (c.split_at.ensures.back ∙ ap (drop 11) (c.as_slice.ensures.value ∙ c.in_ok-text.ensures)) c.in-None.ensures.tells
