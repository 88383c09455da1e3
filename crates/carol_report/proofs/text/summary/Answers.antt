use Rattle.std.proofs.Common.{length, refl, ◌∙◌, ap}
use Rattle.std.specs.String.{string_bytes}
use Rattle.std.proofs.lemmas.List.{length-reverse}
use Rattle.carol_house.specs.House.{rules_of}
use Rattle.carol_report.proofs.Counts.{summary_joined}
use Rattle.carol_report.proofs.text.summary.Goals as goal

pub returns : goal.returns
returns c =
    let house = c.args.house.now
    in rw c.into_bytes.ensures.value
    (summary_joined c.args.n (rules_of house) house.scene house.history
    c.commands_in-commands.result (length c.history.result.now) c.entries_in-entries.result c.refused_in-refused.result
    (string_bytes c.new-out.result) (string_bytes c.writeln.new.self) (string_bytes c.writeln-2.new.self) (string_bytes c.writeln-3.new.self)
    (string_bytes c.writeln-4.new.self) (string_bytes c.writeln-5.new.self) (string_bytes c.push_global-2.new.out) (string_bytes c.writeln-6.new.self)
    (c.commands_in-commands.ensures ∙ rw c.scene.ensures.scene refl) (ap length c.history.ensures.events ∙ length-reverse house.history) c.entries_in-entries.ensures c.refused_in-refused.ensures
    c.new-out.ensures.bytes c.in_ok-writeln.ensures.bytes c.in_ok-writeln-2.ensures.bytes c.in_ok-writeln-3.ensures.bytes c.in_ok-writeln-4.ensures.bytes c.in_ok-writeln-5.ensures.bytes
    (c.in_ok-push_global.ensures ∙ rw c.global.ensures refl) c.in_ok-writeln-6.ensures.bytes)
