-- That what `audit` means is settled, and what is told of what was found.
use Rattle.std.proofs.Common.{◌≡◌, ◌≢◌, ◌≤◌, List, ◌++◌, ℕ, length, sym, ◌∙◌, ap, subst, inl, inr}
use Rattle.std.specs.Prelude.{None, Some, Result, Ok, Err, IfOk, codes, drop, take, ◌+◌}
use Rattle.std.specs.declared.alloc.AllocError.{AllocError}
use Rattle.carol_accept.specs.Refusals.{IsKeptAs}
use Rattle.carol_audit.specs.declared.error.TailError.{TailError}
use Rattle.carol_audit.specs.declared.error.TailError.TheVariants as tail_error
use Rattle.carol_audit.specs.declared.finding.Finding.{Finding}
use Rattle.carol_audit.specs.declared.finding.Finding.TheVariants.{Genuine, FalseEvent, FalseLine}
use Rattle.carol_audit.specs.Findings.{Finds, IsExact}
use Rattle.carol_audit.specs.Laws.{FindingsAreSingle}
use Rattle.carol_audit.specs.TailLaws.{FaultsAreSingle, ReadHasNoFault}
use Rattle.carol_audit.specs.Tails.{HasEvents, IsFault}
use Rattle.std.proofs.lemmas.List.{take-append-drop}
use Rattle.carol_event.specs.declared.event.Event.{Event}
use Rattle.carol_history.specs.declared.history.TheConstants.{MOST_EVENTS}
use Rattle.carol_history.specs.Runs.{Run}
use Rattle.carol_prepare.specs.Parts.{HasParts, with_tail}
use Rattle.carol_prepare.specs.Verdicts.{IsToldRefused}
use Rattle.carol_prepare.proofs.Refusals.{IsOfAccepted}
use Rattle.carol_prepare.proofs.Told.{parts_said}
use Rattle.carol_prepare.proofs.Settled.{AreAlike, OneOutcome, parts_agree, parts_own, verdict_agree, verdict_own}
use Rattle.carol_program.specs.declared.program.Program.{Program}
use Rattle.carol_program.specs.declared.scenes.Scene.{Scene}
use Rattle.carol_program.specs.Rules.{Rules, rules_in}
use Rattle.carol_program.specs.Scenes.{IsValidScene}
use Rattle.carol_reading.specs.Kept.{Kept, MayBeKept}
use Rattle.carol_reply.specs.declared.halt.Halt.{Halt}
use Rattle.carol_reply.specs.declared.reply.Reply.{Reply}
use Rattle.carol_reply.specs.Meaning.{IsOwn}
use Rattle.carol_reply.specs.Reply.{Ends, HaltSays, HaltTells, answer_of}
use Rattle.carol_reply.specs.Texts.{Answer}
use Rattle.carol_reply.proofs.Agreeing.{Agrees, AreOwn, IsSettled, agree_same, halt_map, halt_told}
use Rattle.carol_simulation.specs.Upheld.{MayRun, RunsUphold, Upheld}
use Rattle.carol_words_audit.specs.Audit.{AuditSays, IsAudited, IsOfTail, IsToldTail, OffsetSays, TailSays, audit_meaning, feeds_in, finding_answer, line_at, tail_answer}
use Rattle.carol_words.proofs.Opened.{ends_more}
use Rattle.carol_words.proofs.Alike.{same_rules}

-- ---- the events of a tail

answer_none : (a : Answer) → None ≡ Some a → ⊥
answer_none a e = cc

answer_same : (a b : Answer) → Some a ≡ Some b → a ≡ b
answer_same a b e = cc

tail_own : (error : TailError) (answer : Answer) → tail_answer error ≡ Some answer → IsOwn answer.0
tail_own (tail_error.Bad row column) answer told = subst (λ a. IsOwn a.0) (answer_same _ _ told) tt
tail_own tail_error.TooLarge answer told = subst (λ a. IsOwn a.0) (answer_same _ _ told) tt
tail_own tail_error.NoMemory answer told = absurd (answer_none answer told)

-- what is told is of a fault that is no want of memory
no_memory : (error : TailError) (answer : Answer) → tail_answer error ≡ Some answer → error ≢ tail_error.NoMemory
no_memory error answer told e = answer_none answer (sym (ap tail_answer e) ∙ told)

-- what holds of all tails and of what is found of them
pub record TailLaws : Type 0 where
  pub read : ReadHasNoFault
  pub faults : FaultsAreSingle
  pub found : FindingsAreSingle

told_alike : TailLaws → (tail : List ℕ) (first : ℕ) → Agrees (Unit {0}) (IsToldTail tail first) (IsToldTail tail first)
told_alike laws tail first a b h g =
    let same : h.error ≡ g.error = laws.faults tail first h.error g.error h.fault g.fault (no_memory h.error a h.told) (no_memory g.error b g.told) in
    agree_same (Unit {0}) a b (answer_same a b (sym h.told ∙ (ap tail_answer same ∙ g.told)))

not_both : {said : Program → Answer → Type 0} → TailLaws → (tail : List ℕ) (first : ℕ) (program : Program) (a b : Answer) → IsToldTail tail first a → IsOfTail said tail program b → ⊥
not_both laws tail first program a b h g = no_memory h.error a h.told (laws.read tail first g.events h.error g.has h.fault)

-- ---- what is found

found_accepted : (finding : Finding) → IsOfAccepted (finding_answer finding).0
found_accepted (Genuine count) = tt
found_accepted (FalseEvent number) = tt
found_accepted (FalseLine number) = tt

audited_own : (tail : List ℕ) (scene : Scene) (kept : Kept) (answer : Answer) → IsAudited tail kept scene answer → IsOfAccepted answer.0
audited_own tail scene kept answer h = subst (λ a. IsOfAccepted a.0) (sym h.told) (found_accepted h.finding)

audited_agree : FindingsAreSingle → (tail : List ℕ) (one two : Kept) (scene : Scene) → rules_in one.program ≡ rules_in two.program
    → Agrees (Unit {0}) (IsAudited tail one scene) (IsAudited tail two scene)
audited_agree single tail one two scene ruled other answer h g =
    let finds : Finds (rules_in one.program) scene tail g.finding = subst (λ (p : Rules). Finds p scene tail g.finding) (sym ruled) g.finds in
    let exact : IsExact (rules_in one.program) scene tail g.finding = subst (λ (p : Rules). IsExact p scene tail g.finding) (sym ruled) g.exact in
    let same : h.finding ≡ g.finding = single (rules_in one.program) scene tail h.finding g.finding h.finds h.exact finds exact in
    agree_same (Unit {0}) other answer (h.told ∙ (ap finding_answer same ∙ sym g.told))

pub tails_own : (tail : List ℕ) (first : ℕ) (program : Program) (scene : Scene) → AreOwn (TailSays tail first program scene)
tails_own tail first program scene answer (inl h) = tail_own h.error answer h.told
tails_own tail first program scene answer (inr h) = verdict_own (λ kept. IsAudited tail kept scene) (audited_own tail scene) program answer h.says

pub tails_agree : TailLaws → (tail : List ℕ) (first : ℕ) (one two : Program) → AreAlike one two → (scene : Scene)
    → Agrees (Unit {0}) (TailSays tail first one scene) (TailSays tail first two scene)
tails_agree laws tail first one two alike scene a b (inl h) (inl g) = told_alike laws tail first a b h g
tails_agree laws tail first one two alike scene a b (inl h) (inr g) = absurd (not_both laws tail first two a b h g)
tails_agree laws tail first one two alike scene a b (inr h) (inl g) = absurd (not_both laws tail first one b a g h)
tails_agree laws tail first one two alike scene a b (inr h) (inr g) =
    verdict_agree (Unit {0}) (λ kept. IsAudited tail kept scene) (audited_own tail scene) one two alike
    (λ kept other is also. audited_agree laws.found tail kept other scene (same_rules one two alike kept other is also)) a b h.says g.says

pub audits : OneOutcome → TailLaws → IsSettled audit_meaning
audits outcome laws = record {
  own = λ bytes. parts_own (codes "audit") with_tail (OffsetSays bytes)
      (λ offset program scene. tails_own (drop offset bytes) (line_at bytes offset) program scene) bytes;
  agree = λ bytes. parts_agree outcome (Unit {0}) (codes "audit") with_tail (OffsetSays bytes)
      (λ offset one two alike scene valid. tails_agree laws (drop offset bytes) (line_at bytes offset) one two alike scene) bytes;
}

-- ---- what is told

-- up to each event a history that the program can make upholds what it does
pub upheld_at : RunsUphold → (p : Rules) (scene : Scene) (past : List Event) → MayRun p scene → Run p scene past → length past ≤ MOST_EVENTS
    → (later : ℕ) → Upheld p scene (drop later past)
upheld_at law p scene past may run few later =
    let whole : take later past ++ drop later past ≡ past = take-append-drop later past in
    law p scene (take later past) (drop later past) may (rw whole run) (rw whole few)

kept_runs : (kept : Kept) (scene : Scene) → MayBeKept kept.program kept.accords → IsValidScene (rules_in kept.program) scene → MayRun (rules_in kept.program) scene
kept_runs kept scene may valid = record { rules = may.well_formed.rules; accepted = may.accepted; valid = valid }

pub told_found : RunsUphold → (tail : List ℕ) (kept : Kept) (scene : Scene) (finding : Finding) (r : Result Reply AllocError) → MayBeKept kept.program kept.accords
    → IsValidScene (rules_in kept.program) scene → Finds (rules_in kept.program) scene tail finding
    → IsExact (rules_in kept.program) scene tail finding → IfOk r (λ reply. answer_of reply ≡ finding_answer finding)
    → IfOk r (λ reply. IsAudited tail kept scene (answer_of reply))
told_found law tail kept scene finding (Ok reply) may valid finds exact h =
    record { finding = finding; finds = finds; exact = exact; upheld = λ past report. upheld_at law (rules_in kept.program) scene past (kept_runs kept scene may valid) report.run report.few; told = h }
told_found law tail kept scene finding (Err e) may valid finds exact h = tt

pub told_tail : (tail : List ℕ) (first : ℕ) (error : TailError) (halt : Halt) → IsFault tail first error → HaltTells (tail_answer error) halt → HaltSays (IsToldTail tail first) halt
told_tail tail first error halt fault =
    halt_told (tail_answer error) (IsToldTail tail first) (λ answer told. record { error = error; fault = fault; told = told }) halt

-- the tail's lines are bad
pub tail_before : (tail : List ℕ) (first : ℕ) (program : Program) (scene : Scene) (halt : Halt) → HaltSays (IsToldTail tail first) halt → HaltSays (TailSays tail first program scene) halt
tail_before tail first program scene halt = halt_map (IsToldTail tail first) (TailSays tail first program scene) (λ answer h. inl h) halt

-- the program isn't accepted
pub tail_refused : (tail : List ℕ) (first : ℕ) (program : Program) (scene : Scene) (events : List Event) (halt : Halt) → HasEvents tail events
    → HaltSays (IsToldRefused program) halt → HaltSays (TailSays tail first program scene) halt
tail_refused tail first program scene events halt has = halt_map (IsToldRefused program) (TailSays tail first program scene)
    (λ answer h. inr (record { events = events; has = has; says = inl h })) halt

-- it is, and this was found
pub tail_audited : (tail : List ℕ) (first : ℕ) (program : Program) (scene : Scene) (events : List Event) (kept : Kept) (answer : Answer) → HasEvents tail events
    → IsKeptAs program kept → IsAudited tail kept scene answer → TailSays tail first program scene answer
tail_audited tail first program scene events kept answer has is h = inr (record {
  events = events;
  has = has;
  says = inr (record { kept = kept; is_kept = is; says = h });
})

-- what is told of the tail is told of the bytes
pub tail_said : (bytes : List ℕ) (offset : ℕ) (front tail : List ℕ) (line : ℕ) (program : Program) (scene : Scene) (r : Result Reply Halt)
    → HasParts with_tail bytes offset program scene → front ≡ take offset bytes → tail ≡ drop offset bytes → line ≡ feeds_in front + 1
    → Ends (TailSays tail line program scene) r → Ends (AuditSays bytes) r
tail_said bytes offset front tail line program scene r has before behind counted =
    ends_more (TailSays tail line program scene) (AuditSays bytes)
    (λ answer h. parts_said (codes "audit") with_tail (OffsetSays bytes) bytes offset program scene answer has
    (subst (λ (n : ℕ). TailSays (drop offset bytes) n program scene answer) (counted ∙ ap (λ f. feeds_in f + 1) before)
    (subst (λ (t : List ℕ). TailSays t line program scene answer) behind h))) r
