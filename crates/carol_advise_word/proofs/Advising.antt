-- That what `advise` means is settled.
use Rattle.std.proofs.Common.{◌≡◌, List, ℕ, refl, sym, ◌∙◌, ap, subst, inl, inr}
use Rattle.std.specs.Prelude.{◌⊎◌, Option, Some, None}
use Rattle.carol_accept.specs.Refusals.{IsKeptAs}
use Rattle.carol_prepare.specs.Parts.{HasProgram}
use Rattle.carol_prepare.specs.Verdicts.{IsOfAccepted, IsToldRefused, VerdictSays}
use Rattle.carol_prepare.proofs.Refusals.{refusal_own, refusals_agree, refused_last}
use Rattle.carol_prepare.proofs.Settled.{AreAlike, OneOutcome, program_agree, program_own}
use Rattle.carol_prepare.proofs.Told.{program_said}
use Rattle.carol_program.specs.declared.names.Names.{Names}
use Rattle.carol_program.specs.declared.program.Program.{Program}
use Rattle.carol_program.specs.Rules.{Rules, rules_in}
use Rattle.carol_reading.specs.Good.{IsAccepted}
use Rattle.carol_reading.specs.Kept.{Kept}
use Rattle.carol_reply.specs.declared.halt.Halt.{Halt}
use Rattle.carol_reply.specs.declared.status.Status.TheVariants as status
use Rattle.carol_reply.specs.Meaning.{Agree, FixesStatus, FixesText, IsOwn}
use Rattle.carol_reply.specs.Reply.{HaltSays}
use Rattle.carol_reply.specs.Texts.{Answer}
use Rattle.carol_reply.proofs.Agreeing.{Agrees, AreOwn, IsSettled, agree_same, halt_map}
use Rattle.carol_advise_word.specs.declared.op_word.OpWord.{OpWord}
use Rattle.carol_advise_word.specs.Advise.{AdviseSays, FoundSays, IsToldAdvice, IsToldOpen, NameSays, OpSays, advise_meaning, many_answer, unknown_answer}
use Rattle.carol_advise_word.specs.Found.{op_named}
use Rattle.carol_advise_word.specs.OpWord.{word_of}

-- ---- statuses of the word's own

op_own : (kept : Kept) (number : ℕ) (answer : Answer) → OpSays kept number answer → IsOwn answer.0
op_own kept number answer (inl h) = subst (λ a. IsOwn a.0) (sym h.1) tt
op_own kept number answer (inr (inl h)) = subst (λ a. IsOwn a.0) (sym h.told) tt
op_own kept number answer (inr (inr h)) = subst (λ a. IsOwn a.0) (sym h.told) tt

found_own : (kept : Kept) (found : Option ℕ) (answer : Answer) → FoundSays kept found answer → IsOwn answer.0
found_own kept None answer h = subst (λ a. IsOwn a.0) (sym h) tt
found_own kept (Some number) answer h = op_own kept number answer h

pub verdict_own : (said : Kept → Answer → Type 0) → ((kept : Kept) → AreOwn (said kept)) → (program : Program) → AreOwn (VerdictSays said program)
verdict_own said own program answer (inl h) = refusal_own h.refused answer h.told
verdict_own said own program answer (inr h) = own h.kept answer h.says

-- ---- two answers agree

-- where nothing is fixed of one of them
free_left : (other answer : Answer) → (FixesStatus ⊥ other.0 → ⊥) → (FixesText ⊥ other.0 → ⊥) → Agree ⊥ other answer
free_left other answer never none = record {
  status = λ f g. absurd (never f);
  text = λ f same. absurd (none (subst (FixesText ⊥) (sym same) f));
}

free_right : (other answer : Answer) → (FixesStatus ⊥ answer.0 → ⊥) → (FixesText ⊥ answer.0 → ⊥) → Agree ⊥ other answer
free_right other answer never none = record {
  status = λ f g. absurd (never g);
  text = λ f same. absurd (none f);
}

pub agree_turned : (history : Type 0) (other answer : Answer) → Agree history answer other → Agree history other answer
agree_turned history other answer h = record {
  status = λ f g. sym (h.status g f);
  text = λ f same. sym (h.text (subst (FixesText history) (sym same) f) (sym same));
}

-- nothing is fixed of an answer that tells an advice, or that something is open
no_status : (answer : Answer) (text : List ℕ) → answer ≡ (status.Ok, text) → FixesStatus ⊥ answer.0 → ⊥
no_status answer text is f = subst (λ a. FixesStatus ⊥ a.0) is f

no_text : (answer : Answer) (text : List ℕ) → answer ≡ (status.Ok, text) → FixesText ⊥ answer.0 → ⊥
no_text answer text is f = subst (λ a. FixesText ⊥ a.0) is f

open_status : (answer : Answer) (text : List ℕ) → answer ≡ (status.Undecided, text) → FixesStatus ⊥ answer.0 → ⊥
open_status answer text is f = subst (λ a. FixesStatus ⊥ a.0) is f

open_text : (answer : Answer) (text : List ℕ) → answer ≡ (status.Undecided, text) → FixesText ⊥ answer.0 → ⊥
open_text answer text is f = subst (λ a. FixesText ⊥ a.0) is f

ops_agree : (kept also : Kept) (number : ℕ) (other answer : Answer) → OpSays kept number other → OpSays also number answer → Agree ⊥ other answer
ops_agree kept also number other answer (inl h) (inl g) = agree_same ⊥ other answer (h.1 ∙ sym g.1)
ops_agree kept also number other answer (inl h) (inr (inl g)) = free_right other answer (no_status answer _ g.told) (no_text answer _ g.told)
ops_agree kept also number other answer (inl h) (inr (inr g)) = free_right other answer (open_status answer _ g.told) (open_text answer _ g.told)
ops_agree kept also number other answer (inr (inl h)) g = free_left other answer (no_status other _ h.told) (no_text other _ h.told)
ops_agree kept also number other answer (inr (inr h)) g = free_left other answer (open_status other _ h.told) (open_text other _ h.told)

found_agree : (kept also : Kept) (found : Option ℕ) (other answer : Answer) → FoundSays kept found other → FoundSays also found answer → Agree ⊥ other answer
found_agree kept also None other answer h g = agree_same ⊥ other answer (h ∙ sym g)
found_agree kept also (Some number) other answer h g = ops_agree kept also number other answer h g

-- programs that are kept have the names of those that they are kept as
pub same_names : (one two : Program) → AreAlike one two → (kept also : Kept) → IsKeptAs one kept → IsKeptAs two also → kept.program.names ≡ also.program.names
same_names one two alike kept also is it =
    ap (λ (x : Program). x.names) is.same ∙ (alike.names ∙ ap (λ (x : Program). x.names) (sym it.same))

pub same_rules : (one two : Program) → AreAlike one two → (kept also : Kept) → IsKeptAs one kept → IsKeptAs two also → rules_in kept.program ≡ rules_in also.program
same_rules one two alike kept also is it = ap rules_in is.same ∙ (alike.rules ∙ ap rules_in (sym it.same))

names_agree : (name : List ℕ) (one two : Program) → AreAlike one two → (kept also : Kept) → IsKeptAs one kept → IsKeptAs two also → Agrees ⊥ (NameSays name kept) (NameSays name also)
names_agree name one two alike kept also is it other answer h g =
    found_agree kept also (op_named kept.program.names name) other answer h
    (subst (λ (n : Names). FoundSays also (op_named n name) answer) (sym (same_names one two alike kept also is it)) g)

pub is_accepted : (one two : Program) (kept : Kept) → rules_in one ≡ rules_in two → IsKeptAs one kept → IsAccepted (rules_in two)
is_accepted one two kept same h = subst IsAccepted same h.may_be.accepted

verdicts_agree : (name : List ℕ) (one two : Program) → AreAlike one two → Agrees ⊥ (VerdictSays (NameSays name) one) (VerdictSays (NameSays name) two)
verdicts_agree name one two alike other answer (inl h) (inl g) = refusals_agree ⊥ one two other answer h g
verdicts_agree name one two alike other answer (inl h) (inr g) =
    agree_turned ⊥ other answer (refused_last ⊥ one answer other h (is_accepted two one g.kept (sym alike.rules) g.is_kept))
verdicts_agree name one two alike other answer (inr h) (inl g) = refused_last ⊥ two other answer g (is_accepted one two h.kept alike.rules h.is_kept)
verdicts_agree name one two alike other answer (inr h) (inr g) = names_agree name one two alike h.kept g.kept h.is_kept g.is_kept other answer h.says g.says

pub settled : OneOutcome → (word : OpWord) → IsSettled (advise_meaning word)
settled once word = record {
  own = program_own (VerdictSays (NameSays (word_of word))) (verdict_own (NameSays (word_of word)) (λ kept. found_own kept (op_named kept.program.names (word_of word))));
  agree = program_agree once ⊥ (VerdictSays (NameSays (word_of word))) (verdicts_agree (word_of word));
}

-- ---- what is told on the way

-- the program isn't accepted
pub not_advised : (name bytes : List ℕ) (program : Program) (halt : Halt) → HasProgram bytes program → HaltSays (IsToldRefused program) halt → HaltSays (AdviseSays name bytes) halt
not_advised name bytes program halt has = halt_map (IsToldRefused program) (AdviseSays name bytes) (λ answer h. program_said (VerdictSays (NameSays name)) bytes program answer has (inl h)) halt

-- it is
pub kept_said : (name bytes : List ℕ) (program : Program) (kept : Kept) (answer : Answer) → HasProgram bytes program → IsKeptAs program kept → NameSays name kept answer → AdviseSays name bytes answer
kept_said name bytes program kept answer has is h =
    program_said (VerdictSays (NameSays name)) bytes program answer has (inr (record { kept = kept; is_kept = is; says = h }))
