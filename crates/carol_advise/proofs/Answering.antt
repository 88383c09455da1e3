-- What is answered for an operation's data is answered for its number.
use Rattle.std.proofs.Common.{◌≡◌, ◌<◌, ◌≤◌, ℕ, List, length, map, sym, ◌∙◌, ap, subst, arith, suc, refl, [], ◌∷◌}
use Rattle.std.specs.Prelude.{◌^◌, Result, Ok, Err, Some, IfOk, IfErr, slice_get}
use Rattle.carol_program.specs.declared.program.Guard.{Guard}
use Rattle.carol_program.specs.declared.program.Op.{Op}
use Rattle.carol_program.specs.declared.program.Program.{Program}
use Rattle.carol_program.specs.Accords.{Accords}
use Rattle.carol_program.specs.Bodies.{queries_in}
use Rattle.carol_program.specs.Rules.{OpRules, guard_claim, op_rules, rules_in}
use Rattle.carol_reading.specs.Good.{IsAccepted, IsGood}
use Rattle.carol_advise.specs.declared.answer.Advice.{Advice}
use Rattle.carol_advise.specs.declared.answer.AdviseError.{AdviseError}
use Rattle.carol_advise.specs.declared.answer.AdviseError.TheVariants.{TooMany, NoMemory}
use Rattle.carol_advise.specs.Advised.{HasTooManyFor, IsAdvice, IsAdviceFor, IsLeast, IsLeastFor, IsReason, IsReasonFor, kept_as}
use Rattle.carol_advise.proofs.Standing.{all_at, op_there, same_op}

guards_count : (guards : List Guard) → length (map guard_claim guards) ≡ length guards
guards_count [] = refl
guards_count (g ∷ guards) = ap suc (guards_count guards)

no_memory : (r : Result Advice AdviseError) → r ≡ Err NoMemory → r ≡ Err TooMany → ⊥
no_memory r e f = cc

module _ (program : Program) (table : Accords) (own : Op) (number : ℕ) (is : slice_get program.ops number ≡ Some own) where
  pub advice_for : (r : Result Advice AdviseError) → IfOk r (IsAdvice (rules_in program) table number (op_rules own)) → IfOk r (IsAdviceFor (kept_as program table) number)
  advice_for (Ok a) h = λ op there. subst (λ (o : OpRules). IsAdvice (rules_in program) table number o a) (same_op program.ops number own op is there) h
  advice_for (Err error) h = tt

  pub least_for : (r : Result Advice AdviseError) → IfOk r (IsLeast (rules_in program) table (op_rules own)) → IfOk r (IsLeastFor (kept_as program table) number)
  least_for (Ok a) h = λ op there. subst (λ (o : OpRules). IsLeast (rules_in program) table o a) (same_op program.ops number own op is there) h
  least_for (Err error) h = tt

  pub reason_for : (r : Result Advice AdviseError) → IfErr r (IsReason (rules_in program) table number (op_rules own)) → IfErr r (IsReasonFor (kept_as program table) number)
  reason_for (Ok a) h = tt
  reason_for (Err error) h = λ op there. subst (λ (o : OpRules). IsReason (rules_in program) table number o error) (same_op program.ops number own op is there) h

  pub good_there : IsAccepted (rules_in program) → IsGood (rules_in program) (op_rules own)
  good_there accepted = all_at (IsGood (rules_in program)) (map op_rules program.ops) number (op_rules own) accepted.good (op_there program.ops number own is)

  pub not_many : (guards slots : ℕ) → guards ≡ length program.guards → slots ≡ queries_in (op_rules own).body → guards ^ slots ≤ 4096 → HasTooManyFor (kept_as program table) number → ⊥
  not_many guards slots count same few many =
      let much : 4096 < length (map guard_claim program.guards) ^ queries_in (op_rules own).body = many (op_rules own) (op_there program.ops number own is) in
      let total : guards ^ slots ≡ length (map guard_claim program.guards) ^ queries_in (op_rules own).body =
      ap (λ n. n ^ slots) (count ∙ sym (guards_count program.guards)) ∙ ap (λ n. length (map guard_claim program.guards) ^ n) same in
      omega (arith, much, total, few)

  pub many_never : (guards slots : ℕ) (r : Result Advice AdviseError) → guards ≡ length program.guards → slots ≡ queries_in (op_rules own).body → guards ^ slots ≤ 4096 → (r ≡ Err TooMany → ⊥)
      → (r ≡ Err TooMany → HasTooManyFor (kept_as program table) number) × (HasTooManyFor (kept_as program table) number → r ≡ Err TooMany)
  many_never guards slots r count same few never = ((λ e. absurd (never e)), (λ many. absurd (not_many guards slots count same few many)))

  pub many_memory : (guards slots : ℕ) (r : Result Advice AdviseError) → guards ≡ length program.guards → slots ≡ queries_in (op_rules own).body → guards ^ slots ≤ 4096 → r ≡ Err NoMemory
      → (r ≡ Err TooMany → HasTooManyFor (kept_as program table) number) × (HasTooManyFor (kept_as program table) number → r ≡ Err TooMany)
  many_memory guards slots r count same few none = many_never guards slots r count same few (no_memory r none)
