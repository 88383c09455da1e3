use Rattle.std.proofs.Common.{◌≡◌, Bool, rules, subst}
use Rattle.std.specs.Prelude.{Err, codes}
use Rattle.carol_grammar.specs.Outcome.{Means, Read}
use Rattle.carol_prepare.specs.Parts.{Nothing, PartsSay, with_script}
use Rattle.carol_prepare.proofs.Told.{err_map, told_err}
use Rattle.carol_reply.specs.Reply.{HaltSays}
use Rattle.carol_syntax.specs.Files.{FileTree}
use Rattle.carol_kept_run.specs.Asked.{HasScript, with_any_script}
use Rattle.carol_kept_run.proofs.Askings.{told_none, told_with}
use Rattle.carol_kept_run.proofs.ready.parts.Goals as goal

pub returns-then-branch-clause-told : goal.returns-then-branch-clause-told
returns-then-branch-clause-told c =
    err_map (HaltSays (PartsSay (codes "carol_kept") with_script Nothing c.args.bytes.now)) (HaltSays (PartsSay (codes "carol_kept") with_any_script Nothing c.args.bytes.now))
    (λ halt. told_with c.args.bytes.now (codes "carol_kept") halt (subst (λ (b : Bool). (file : FileTree) → Means c.args.bytes.now (Read file) → HasScript file b) c.if-branch.true c.in_ok-has_script.ensures)) c.take_script.result c.take_script.ensures.told

pub returns-in_err-placed-clause-told : goal.returns-in_err-placed-clause-told
returns-in_err-placed-clause-told c =
    let halt = c.in_err-placed.field-0.0 in
    let is : c.from_residual-in_err-placed.result ≡ Err halt = search rules in
    told_err (HaltSays (PartsSay (codes "carol_kept") with_any_script Nothing c.args.bytes.now)) halt c.from_residual-in_err-placed.result is
    (told_none c.args.bytes.now (codes "carol_kept") halt (subst (λ (b : Bool). (file : FileTree) → Means c.args.bytes.now (Read file) → HasScript file b) c.if-branch.false c.in_ok-has_script.ensures) c.in_err-placed.ensures.told)
