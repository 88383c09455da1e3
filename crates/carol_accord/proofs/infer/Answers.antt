use Rattle.std.proofs.Common.{◌≡◌, ◌*◌, length, sym, ◌∙◌, ap, subst}
use Rattle.std.proofs.lemmas.List.{length-map}
use Rattle.carol_program.specs.Accords.{row_length}
use Rattle.carol_program.specs.Preserving.{IsRight}
use Rattle.carol_program.specs.Rules.{rules_in, guard_claim}
use Rattle.carol_accord.specs.Inferred.{HasWitnesses}
use Rattle.carol_accord.proofs.Guarded.{length-all, all-reflexive, is_right, has_witnesses}
use Rattle.carol_accord.proofs.infer.Goals as goal

pub new-requires : goal.new-requires
new-requires c =
    let p = rules_in c.args.program.now
    in let all = c.in_ok-entries.ensures.ok
    in let count : length p.guards ≡ c.len-guards.result = length-map c.args.program.now.guards guard_claim ∙ sym c.len-guards.ensures
    in length-all p p.guards c.in_ok-entries.entries all ∙ ap (λ n. n * row_length p.shape) count

pub returns-clause-right : goal.returns-clause-right
returns-clause-right c =
    let p = rules_in c.args.program.now
    in let all = c.in_ok-entries.ensures.ok
    in let count : c.len-guards.result ≡ length p.guards = c.len-guards.ensures ∙ sym (length-map c.args.program.now.guards guard_claim)
    in subst (IsRight p) (sym c.new.ensures) (is_right p c.in_ok-entries.entries c.len-guards.result all count)

pub returns-clause-reflexive : goal.returns-clause-reflexive
returns-clause-reflexive c =
    let p = rules_in c.args.program.now
    in all-reflexive p p.guards c.in_ok-entries.entries c.in_ok-entries.ensures.ok

pub returns-clause-witnesses : goal.returns-clause-witnesses
returns-clause-witnesses c =
    let p = rules_in c.args.program.now
    in let all = c.in_ok-entries.ensures.ok
    in let count : c.len-guards.result ≡ length p.guards = c.len-guards.ensures ∙ sym (length-map c.args.program.now.guards guard_claim)
    in subst (HasWitnesses p.shape p.guards) (sym c.new.ensures) (has_witnesses p c.in_ok-entries.entries c.len-guards.result all count)
