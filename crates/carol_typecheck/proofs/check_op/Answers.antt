use Rattle.std.proofs.Common.{[], ◌∷◌, Ok, sym, subst}
use Rattle.std.proofs.lemmas.List.{append-nil}
use Rattle.carol_program.specs.Rules.{op_rules, rules_in}
use Rattle.carol_obligation.specs.Places.{obligations_at, obligations_from}
use Rattle.carol_obligation.proofs.Spots.{AreOver}
use Rattle.carol_typecheck.specs.Formulas.{IsVerdictOn}
use Rattle.carol_typecheck.specs.Readings.{IsVerdictOver}
use Rattle.carol_typecheck.proofs.Meaning.{verdict_over, fails_where_bad}
use Rattle.carol_typecheck.proofs.check_op.Goals as goal

pub returns : goal.returns
returns c =
    let p = rules_in c.args.program.now in
    let op = op_rules c.args.op.now in
    let found = c.walk.new.collector.found in
    let start : IsVerdictOn [] c.new-judging.result.found = subst (IsVerdictOn []) (sym c.new-judging.ensures) tt in
    let told : IsVerdictOn (obligations_at p c.args.number op) found = c.in_ok-walk.ensures [] start in
    let whole : IsVerdictOn (obligations_from p c.args.number (op ∷ [])) found = subst (λ list. IsVerdictOn list found) (sym (append-nil (obligations_at p c.args.number op))) told in
    let over : AreOver p (op ∷ []) = (c.requires.op, tt) in
    let means : IsVerdictOver p c.args.number (op ∷ []) found = verdict_over p c.requires.rules c.args.number (op ∷ []) over (Ok found) whole in
    record { verdict = means; fails = λ failure good. fails_where_bad p c.requires.rules c.args.number (op ∷ []) over (Ok found) means failure (good, tt) }
