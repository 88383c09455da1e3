-- What an accepted program has for the operation that is found.
use Rattle.std.proofs.Common.{◌≡◌, ◌<◌, ◌≤◌, ℕ, suc, List, [], ◌∷◌, length, map, refl, sym, ◌∙◌, ap, subst, inl, inr, arith}
use Rattle.std.specs.Prelude.{Option, Some, None, slice_get}
use Rattle.std.proofs.lemmas.Option.{slice_get_cases}
use Rattle.carol_program.specs.declared.program.Op.{Op}
use Rattle.carol_program.specs.declared.program.Program.{Program}
use Rattle.carol_program.specs.Limits.{most_ops, most_queries}
use Rattle.carol_program.specs.Rules.{OpRules, op_rules, rules_in}
use Rattle.carol_program.specs.WellFormed.{AreCalled, IsWellFormed}
use Rattle.carol_advise.specs.declared.answer.Advice.{Advice}
use Rattle.carol_advise.specs.Advised.{IsAdviceFor}
use Rattle.carol_reading.specs.Kept.{Kept, MayBeKept}
use Rattle.carol_advise.proofs.Standing.{called_count, op_there, over_there}

pub same_count : (program : Program) → IsWellFormed (rules_in program) program.names → length program.names.ops ≡ length (map op_rules program.ops)
same_count program well = sym (called_count (map op_rules program.ops) program.names.ops well.named.ops)

found_op : (ops : List Op) (number : ℕ) → number < length ops → (own : Op) × (slice_get ops number ≡ Some own)
found_op ops number low = elim (slice_get_cases ops number).1 [
  | inl h ↦ (h.0, h.2)
  | inr h ↦ absurd (omega (arith, h.0))
]

pub few_guards : (kept : Kept) (number : ℕ) (a : Advice) → MayBeKept kept.program kept.accords → number < length kept.program.ops → IsAdviceFor kept number a → length a.guards ≤ most_queries
few_guards kept number a may low is =
    let found = found_op kept.program.ops number low in
    let advice = is (op_rules found.0) (op_there kept.program.ops number found.0 found.1) in
    let over = over_there kept.program found.0 number found.1 may.well_formed.rules in
    omega (arith, advice.assigns.count, over.few_queries)

count_map : (ops : List Op) → length (map op_rules ops) ≡ length ops
count_map [] = refl
count_map (op ∷ ops) = ap suc (count_map ops)

pub few_ops : (kept : Kept) → MayBeKept kept.program kept.accords → length kept.program.names.ops ≤ most_ops
few_ops kept may =
    let same : length kept.program.names.ops ≡ length (map op_rules kept.program.ops) = same_count kept.program may.well_formed in
    let few : length (map op_rules kept.program.ops) ≤ most_ops = may.well_formed.rules.few_ops in
    omega (arith, same, few)

pub op_within : (kept : Kept) (number : ℕ) → MayBeKept kept.program kept.accords → number < length kept.program.names.ops → number < length kept.program.ops
op_within kept number may low =
    let same : length kept.program.names.ops ≡ length (map op_rules kept.program.ops) = same_count kept.program may.well_formed in
    let count : length (map op_rules kept.program.ops) ≡ length kept.program.ops = count_map kept.program.ops in
    omega (arith, same, count, low)
