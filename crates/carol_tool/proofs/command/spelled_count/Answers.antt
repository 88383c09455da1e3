use Rattle.std.proofs.Common.{◌≡◌, ◌∙◌, sym, ap, subst}
use Rattle.std.specs.Prelude.{IsOkAnd}
use Rattle.carol_tool.specs.Words.{spelled_count}
use Rattle.carol_tool.proofs.Words.{spelled_bad, spelled_more, spelled_whole, spelled_zero}
use Rattle.carol_tool.proofs.command.spelled_count.Goals as goal

pub returns-in-Ok : goal.returns-in-Ok
returns-in-Ok c =
    spelled_whole c.from.result c.args.text.now c.in-Ok.count c.in-Ok.rest.now c.in-Ok.ensures.found.0 c.in-Ok.ensures.found.1 c.in-Ok.ensures.only (sym c.is_empty.ensures ∙ c.if-is_empty.true) c.if-count-ge1.true
    ∙ ap (λ most. spelled_count most c.args.text.now) c.from.ensures

pub returns-in_default : goal.returns-in_default
returns-in_default c =
    spelled_more c.from.result c.args.text.now c.in-Ok.count c.in-Ok.rest.now c.in-Ok.ensures.only (sym c.is_empty.ensures ∙ c.if-is_empty.false)
    ∙ ap (λ most. spelled_count most c.args.text.now) c.from.ensures

pub returns-in_default-2 : goal.returns-in_default-2
returns-in_default-2 c =
    spelled_zero c.from.result c.args.text.now c.in-Ok.count c.in-Ok.rest.now c.in-Ok.ensures.only c.if-count-ge1.false
    ∙ ap (λ most. spelled_count most c.args.text.now) c.from.ensures

pub returns-in_default-3 : goal.returns-in_default-3
returns-in_default-3 c =
    spelled_bad c.from.result c.args.text.now (λ m more few ends is. subst (λ r. IsOkAnd r (λ x. (x.0 ≡ m) × (x.1.now ≡ more))) c.in_default.is (c.number.ensures.only m more few ends is))
    ∙ ap (λ most. spelled_count most c.args.text.now) c.from.ensures
