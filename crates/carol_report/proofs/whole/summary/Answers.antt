use Rattle.std.proofs.Common.{refl, ◌∙◌}
use Rattle.std.specs.String.{string_bytes}
use Rattle.carol_house.specs.House.{rules_of}
use Rattle.carol_report.proofs.Texts.{summary_joined}
use Rattle.carol_report.proofs.whole.summary.Goals as goal

pub returns : goal.returns
returns c =
    summary_joined (rules_of c.args.house.now) c.args.house.now.scene c.args.house.now.history
    (string_bytes c.new-out.result) (string_bytes c.writeln.new.self) (string_bytes c.push_results.new.out) (string_bytes c.writeln-2.new.self)
    (string_bytes c.push_stores.new.out) (string_bytes c.push_global-2.new.out) (string_bytes c.push_end.new.out)
    c.new-out.ensures.bytes c.in_ok-writeln.ensures.bytes c.in_ok-push_results.ensures c.in_ok-writeln-2.ensures.bytes c.in_ok-push_stores.ensures
    (c.in_ok-push_global.ensures ∙ rw c.global.ensures refl) c.in_ok-push_end.ensures
