-- What is told of programs that aren't accepted.
use Rattle.std.proofs.Common.{◌≡◌, sym, ◌∙◌, ap, subst, inl, inr}
use Rattle.std.specs.Prelude.{◌⊎◌, Some, None, IsSome}
use Rattle.carol_accept.specs.Refusals.{HandsBack, IsFault, IsRefusedFor}
use Rattle.carol_accept.specs.Verdicts.{HasRules}
use Rattle.carol_accept.specs.declared.refused.Refused.{Refused}
use Rattle.carol_accept.specs.declared.refused.Refused.TheVariants.{InitialFails, NotReflexive, Fails, Undecided, NoMemory}
use Rattle.carol_program.specs.declared.program.Program.{Program}
use Rattle.carol_program.specs.Rules.{rules_in}
use Rattle.carol_program.specs.WellFormed.{AreRules}
use Rattle.carol_reading.specs.Good.{IsAccepted}
use Rattle.carol_prepare.specs.Verdicts.{IsToldRefused, verdict_answer}
use Rattle.carol_reply.specs.Reply.{HaltSays, HaltTells}
use Rattle.carol_reply.specs.Meaning.{Agree, FixesStatus, FixesText, IsOwn}
use Rattle.carol_reply.specs.Texts.{Answer}
use Rattle.carol_reply.specs.declared.halt.Halt.{Halt}
use Rattle.carol_reply.specs.declared.status.Status.{Status}
use Rattle.carol_reply.specs.declared.status.Status.TheVariants as status
use Rattle.carol_reply.proofs.Agreeing.{halt_told}

-- a status of the command's own that it gives a program that is accepted
abbrev pub IsOfAccepted : Status → Type 0
IsOfAccepted status.Refused = ⊥
IsOfAccepted status.Undecided = ⊥
IsOfAccepted meant = IsOwn meant

pub accepted_own : (meant : Status) → IsOfAccepted meant → IsOwn meant
accepted_own status.Refused h = absurd h
accepted_own status.Undecided h = absurd h
accepted_own meant h = h

-- ---- what a refusal tells

answer_same : (a b : Answer) → Some a ≡ Some b → a ≡ b
answer_same a b e = cc

answer_none : (a : Answer) → None ≡ Some a → ⊥
answer_none a e = cc

-- a fault, or that something stays undecided
told_fault : (r : Refused) (a : Answer) → verdict_answer r ≡ Some a → ((a.0 ≡ status.Refused) × IsFault r) ⊎ (a.0 ≡ status.Undecided)
told_fault (InitialFails program) a e = inl (sym (ap (λ x. x.0) (answer_same _ a e)), tt)
told_fault (NotReflexive program guard at) a e = inl (sym (ap (λ x. x.0) (answer_same _ a e)), tt)
told_fault (Fails program place at) a e = inl (sym (ap (λ x. x.0) (answer_same _ a e)), tt)
told_fault (Undecided program place why) a e = inr (sym (ap (λ x. x.0) (answer_same _ a e)))
told_fault NoMemory a e = absurd (answer_none a e)

-- with a status of its own
pub refusal_own : (r : Refused) (a : Answer) → verdict_answer r ≡ Some a → IsOwn a.0
refusal_own r a e = elim (told_fault r a e) [
  | inl h ↦ subst IsOwn (sym h.0) tt
  | inr h ↦ subst IsOwn (sym h) tt
]

-- one that fixes the status tells a fault
fixed_fault : (history : Type 0) (r : Refused) (a : Answer) → verdict_answer r ≡ Some a → FixesStatus history a.0 → (a.0 ≡ status.Refused) × IsFault r
fixed_fault history r a e f = elim (told_fault r a e) [
  | inl h ↦ h
  | inr h ↦ absurd (subst (FixesStatus history) h f)
]

-- none fixes the text
loose_text : (history : Type 0) (r : Refused) (a : Answer) → verdict_answer r ≡ Some a → FixesText history a.0 → ⊥
loose_text history r a e f = elim (told_fault r a e) [
  | inl h ↦ subst (FixesText history) h.0 f
  | inr h ↦ subst (FixesText history) h f
]

-- none has the status of an accepted program
pub not_accepted : (r : Refused) (a : Answer) → verdict_answer r ≡ Some a → IsOfAccepted a.0 → ⊥
not_accepted r a e h = elim (told_fault r a e) [
  | inl g ↦ subst IsOfAccepted g.0 h
  | inr g ↦ subst IsOfAccepted g h
]

-- ---- answers agree

-- two refusals
pub refusals_agree : (history : Type 0) (p q : Program) (a b : Answer) → IsToldRefused p a → IsToldRefused q b → Agree history a b
refusals_agree history p q a b h g = record {
  status = λ f k. (fixed_fault history h.refused a h.told f).0 ∙ sym (fixed_fault history g.refused b g.told k).0;
  text = λ f s. absurd (loose_text history g.refused b g.told f);
}

-- a refusal of a program that is accepted, which tells no fault, and any other answer to it
pub refused_first : (history : Type 0) (p : Program) (a b : Answer) → IsToldRefused p a → IsAccepted (rules_in p) → IsOfAccepted b.0 → Agree history a b
refused_first history p a b h accepted own = record {
  status = λ f k. absurd (h.fault (fixed_fault history h.refused a h.told f).1 accepted);
  text = λ f s. absurd (not_accepted h.refused a h.told (subst IsOfAccepted (sym s) own));
}

pub refused_last : (history : Type 0) (p : Program) (a b : Answer) → IsToldRefused p b → IsAccepted (rules_in p) → Agree history a b
refused_last history p a b h accepted = record {
  status = λ f k. absurd (h.fault (fixed_fault history h.refused b h.told k).1 accepted);
  text = λ f s. absurd (loose_text history h.refused b h.told f);
}

-- ---- refusals that were made

pub told_refused : (program : Program) (refused : Refused) (halt : Halt) → HandsBack program refused
    → IsRefusedFor (rules_in program) refused → (IsFault refused → ¬ IsAccepted (rules_in program))
    → HaltTells (verdict_answer refused) halt → HaltSays (IsToldRefused program) halt
told_refused program refused halt back why fault =
    halt_told (verdict_answer refused) (IsToldRefused program)
    (λ answer told. record { refused = refused; back = back; why = why; fault = fault; told = told }) halt

-- a refusal that is no want of memory has its program
pub has_rules : (program : Program) (r : Refused) → AreRules (rules_in program) → HandsBack program r → IsSome (verdict_answer r) → HasRules r
has_rules program (InitialFails p) rules back some = subst (λ x. AreRules (rules_in x)) (sym back) rules
has_rules program (NotReflexive p guard at) rules back some = subst (λ x. AreRules (rules_in x)) (sym back) rules
has_rules program (Fails p place at) rules back some = subst (λ x. AreRules (rules_in x)) (sym back) rules
has_rules program (Undecided p place why) rules back some = subst (λ x. AreRules (rules_in x)) (sym back) rules
has_rules program NoMemory rules back some = cc
