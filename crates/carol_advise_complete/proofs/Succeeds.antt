-- That `advise` is done where nothing stands against its input.
use Rattle.std.proofs.Common.{◌≡◌, List, ℕ, sym, ◌∙◌, ap, subst, inl, inr}
use Rattle.std.specs.Prelude.{Option, Some, slice_get}
use Rattle.carol_advise.specs.Advised.{HasTooMany, IsOpen}
use Rattle.carol_advise_complete.specs.Law.{AdvisesSucceed, NothingOpenUnder}
use Rattle.carol_advise_word.specs.declared.op_word.OpWord.{OpWord}
use Rattle.carol_advise_word.specs.Advise.{FoundSays, NameSays, OpSays}
use Rattle.carol_advise_word.specs.Found.{op_named}
use Rattle.carol_advise_word.specs.OpWord.{word_of}
use Rattle.carol_complete.proofs.Passing.{file_said, names_said, verdict_said}
use Rattle.carol_meaning.specs.Programs.{names_of, rules_of}
use Rattle.carol_prepare.specs.Named.{NamesSay}
use Rattle.carol_prepare.specs.Verdicts.{VerdictSays}
use Rattle.carol_prepare.proofs.Settled.{OneOutcome}
use Rattle.carol_program.specs.declared.names.Names.{Names}
use Rattle.carol_program.specs.declared.program.Program.{Program}
use Rattle.carol_program.specs.Rules.{OpRules, Rules, rules_in}
use Rattle.carol_reading.specs.Kept.{Kept}
use Rattle.carol_reply.specs.declared.status.Status.TheVariants as status
use Rattle.carol_reply.specs.Texts.{Answer}

-- what is told of an accepted program is told of it as it was given
abbrev Beside : Program → (Kept → Answer → Type 0) → Kept → Answer → Type 0
Beside program said kept answer = (kept.program ≡ program) × said kept answer

beside : (said : Kept → Answer → Type 0) (program : Program) (answer : Answer) → VerdictSays said program answer
    → VerdictSays (Beside program said) program answer
beside said program answer (inl told) = inl told
beside said program answer (inr h) = inr (record { kept = h.kept; is_kept = h.is_kept; says = (h.is_kept.same, h.says) })

-- of an operation that can be asked under each assignment of guards an advice is told
advised : (p : Rules) (kept : Kept) (number : ℕ) (op : OpRules) (answer : Answer) → rules_in kept.program ≡ p → slice_get p.ops number ≡ Some op
    → ¬ HasTooMany p op → NothingOpenUnder p number op → OpSays kept number answer → answer.0 ≡ status.Ok
advised p kept number op answer same found few none (inl many) =
    absurd (few (subst (λ (r : Rules). (o : OpRules) → slice_get r.ops number ≡ Some o → HasTooMany r o) same many.0 op found))
advised p kept number op answer same found few none (inr (inl told)) = ap (λ (a : Answer). a.0) told.told
advised p kept number op answer same found few none (inr (inr told)) =
    let open_for = subst (λ (r : Rules). (o : OpRules) → slice_get r.ops number ≡ Some o → IsOpen r kept.accords number o told.guards told.place told.why) same told.is op found in
    absurd (none told.guards told.place told.why open_for.assigns open_for.doubtful)

-- the operation that the name is found to be is that of the program as it is written
found_said : (name : List ℕ) (kept : Kept) (names : Names) (number : ℕ) (answer : Answer) → kept.program.names ≡ names
    → op_named names name ≡ Some number → NameSays name kept answer → OpSays kept number answer
found_said name kept names number answer same named h =
    subst (λ (found : Option ℕ). FoundSays kept found answer) (ap (λ (n : Names). op_named n name) same ∙ named) h

pub advises_succeed : OneOutcome → AdvisesSucceed
advises_succeed once word bytes answer input says =
    let name : List ℕ = word_of word in
    let p : Rules = rules_of input.file.program in
    let told : NamesSay (VerdictSays (NameSays name)) input.file.program answer = file_said once (λ f. NamesSay (VerdictSays (NameSays name)) f.program) bytes input.file answer input.read says in
    let h = names_said (VerdictSays (NameSays name)) input.file.program answer input.passing.faultless told in
    let kept = verdict_said (Beside h.0 (NameSays name)) p h.0 answer input.passing.accepted input.passing.none_open h.1.rules (beside (NameSays name) h.0 answer h.2) in
    let names : kept.0.program.names ≡ names_of input.file.program = ap (λ (q : Program). q.names) kept.2.0 ∙ h.1.names in
    advised p kept.0 input.number input.op answer kept.1 input.found input.few input.none_open
    (found_said name kept.0 (names_of input.file.program) input.number answer names input.named kept.2.1)
