-- That what `check` means is settled.
use Rattle.std.proofs.Common.{◌≡◌, List, ℕ, refl, sym, ◌∙◌, ap, subst, inl}
use Rattle.carol_accept.specs.Refusals.{IsKeptAs}
use Rattle.carol_accept.specs.Texts.{accord_text}
use Rattle.carol_prepare.specs.Parts.{HasProgram}
use Rattle.carol_prepare.specs.Verdicts.{IsToldRefused, VerdictSays}
use Rattle.carol_prepare.proofs.Refusals.{IsOfAccepted}
use Rattle.carol_prepare.proofs.Told.{program_said}
use Rattle.carol_prepare.proofs.Settled.{AreAlike, OneOutcome, program_agree, program_own, verdict_agree, verdict_own}
use Rattle.carol_program.specs.declared.program.Program.{Program}
use Rattle.carol_program.specs.Preserving.{IsRight}
use Rattle.carol_program.specs.Rules.{Rules, rules_in}
use Rattle.carol_reading.specs.Kept.{Kept}
use Rattle.carol_reply.specs.declared.halt.Halt.{Halt}
use Rattle.carol_reply.specs.declared.status.Status.TheVariants as status
use Rattle.carol_reply.specs.Reply.{HaltSays}
use Rattle.carol_reply.specs.Texts.{Answer}
use Rattle.carol_reply.proofs.Agreeing.{Agrees, IsSettled, agree_same, halt_map}
use Rattle.carol_words_check.specs.Check.{CheckSays, IsAccorded, check_meaning}
use Rattle.carol_words_check.proofs.Accorded.{IsWhole, accord_text-same}

accorded_own : (kept : Kept) (answer : Answer) → IsAccorded kept answer → IsOfAccepted answer.0
accorded_own kept answer h = subst (λ a. IsOfAccepted a.0) (sym h) tt

-- a table that is told is whole
whole_in : (program : Program) (kept : Kept) (p : Rules) → rules_in program ≡ p → IsKeptAs program kept → IsWhole p kept.accords
whole_in program kept p same is = record {
  right = subst (λ (r : Rules). IsRight r kept.accords) same is.may_be.right;
  whole = is.whole;
}

accorded_agree : (one two : Program) → AreAlike one two → (kept other : Kept) → IsKeptAs one kept → IsKeptAs two other
    → Agrees (Unit {0}) (IsAccorded kept) (IsAccorded other)
accorded_agree one two alike kept other is also a b h g =
    let text : accord_text kept ≡ accord_text other =
    accord_text-same kept other two.names (rules_in two)
    (ap (λ (x : Program). x.names) is.same ∙ alike.names) (ap rules_in is.same ∙ alike.rules)
    (ap (λ (x : Program). x.names) also.same) (ap rules_in also.same)
    (whole_in one kept (rules_in two) alike.rules is) (whole_in two other (rules_in two) refl also) in
    agree_same (Unit {0}) a b (h ∙ (ap (λ t. (status.Ok, t)) text ∙ sym g))

pub checks : OneOutcome → IsSettled check_meaning
checks once = record {
  own = program_own (VerdictSays IsAccorded) (verdict_own IsAccorded accorded_own);
  agree = program_agree once (Unit {0}) (VerdictSays IsAccorded)
      (λ one two alike. verdict_agree (Unit {0}) IsAccorded accorded_own one two alike (accorded_agree one two alike));
}

-- the program isn't accepted
pub not_accorded : (bytes : List ℕ) (program : Program) (halt : Halt) → HasProgram bytes program → HaltSays (IsToldRefused program) halt → HaltSays (CheckSays bytes) halt
not_accorded bytes program halt has = halt_map (IsToldRefused program) (CheckSays bytes) (λ answer h. program_said (VerdictSays IsAccorded) bytes program answer has (inl h)) halt
