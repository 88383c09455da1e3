-- That what `gen N` means is settled, and what is told of a house in which sessions went on in turn.
use Rattle.std.proofs.Common.{◌≡◌, ℕ, List, [], sym, ◌∙◌, ap, subst}
use Rattle.std.specs.Prelude.{Result}
use Rattle.carol_event.specs.declared.event.Event.{Event}
use Rattle.carol_house.specs.House.{House, IsHistory, IsOverSame, UpholdsAll, rules_of}
use Rattle.carol_prepare.specs.Parts.{HasParts, Nothing, PartsSay, scene_alone}
use Rattle.carol_prepare.proofs.Refusals.{IsOfAccepted}
use Rattle.carol_prepare.proofs.Told.{parts_before, parts_said}
use Rattle.carol_prepare.proofs.Settled.{OneOutcome, parts_agree, parts_own, verdict_agree, verdict_own}
use Rattle.carol_program.specs.declared.program.Program.{Program}
use Rattle.carol_program.specs.declared.scenes.Scene.{Scene}
use Rattle.carol_program.specs.Rules.{Rules, rules_in}
use Rattle.carol_reading.specs.Kept.{Kept}
use Rattle.carol_reply.specs.declared.halt.Halt.{Halt}
use Rattle.carol_reply.specs.declared.reply.Reply.{Reply}
use Rattle.carol_reply.specs.declared.status.Status.TheVariants as status
use Rattle.carol_reply.specs.Reply.{Ends, HaltSays}
use Rattle.carol_reply.specs.Texts.{Answer}
use Rattle.carol_reply.proofs.Agreeing.{Agrees, IsSettled, agree_same}
use Rattle.carol_report.specs.Laws.{TurnsMakeOne}
use Rattle.carol_report.specs.Summary.{summary_text}
use Rattle.carol_report.specs.Turns.{Turns}
use Rattle.carol_generator.specs.Generated.{generated_text}
use Rattle.carol_simulation.specs.Laws.{RunsAreShort}
use Rattle.carol_words_gen.specs.Gen.{GenSays, IsSummed, SceneSums, gen_meaning, gen_words}
use Rattle.carol_words.proofs.Opened.{ends_more}
use Rattle.carol_words.proofs.Alike.{same_rules}
use Rattle.carol_words_gen.proofs.Turned.{turns_short}

summed_own : (count : ℕ) (scene : Scene) (kept : Kept) (answer : Answer) → IsSummed count kept scene answer → IsOfAccepted answer.0
summed_own count scene kept answer h = subst (λ a. IsOfAccepted a.0) (sym h.told) tt

-- sessions that go on in turn make one history
summed_agree : TurnsMakeOne → (count : ℕ) (one two : Kept) (scene : Scene) → rules_in one.program ≡ rules_in two.program
    → Agrees (Unit {0}) (IsSummed count one scene) (IsSummed count two scene)
summed_agree once count one two scene ruled other answer h g =
    let turns : Turns (rules_in one.program) scene [] g.past = subst (λ (p : Rules). Turns p scene [] g.past) (sym ruled) g.turns in
    let same : h.past ≡ g.past = once (rules_in one.program) scene [] h.past g.past h.turns turns in
    agree_same (Unit {0}) other answer
    (h.told ∙ (ap (λ (past : List Event). (status.Ok, summary_text count (rules_in one.program) scene past)) same
    ∙ (ap (λ (p : Rules). (status.Ok, summary_text count p scene g.past)) ruled ∙ sym g.told)))

pub sums : OneOutcome → TurnsMakeOne → (count : ℕ) → IsSettled (gen_meaning count)
sums outcome once count = record {
  own = λ _. parts_own (gen_words count) scene_alone (SceneSums count)
      (λ none program scene. verdict_own (λ kept. IsSummed count kept scene) (summed_own count scene) program) (generated_text count);
  agree = λ _. parts_agree outcome (Unit {0}) (gen_words count) scene_alone (SceneSums count)
      (λ none one two alike scene valid. verdict_agree (Unit {0}) (λ kept. IsSummed count kept scene) (summed_own count scene) one two alike
      (λ kept other is also. summed_agree once count kept other scene (same_rules one two alike kept other is also))) (generated_text count);
}

-- what the house tells
pub told_summed : RunsAreShort → (count : ℕ) (old new : House) (answer : Answer) → old.history ≡ [] → IsOverSame old new
    → Turns (rules_of old) old.scene old.history new.history → IsHistory new → UpholdsAll new
    → answer ≡ (status.Ok, summary_text count (rules_of new) new.scene new.history) → IsSummed count old.kept old.scene answer
told_summed law count old new answer empty over turns is upheld told =
    subst (λ (k : Kept). IsSummed count k old.scene answer) over.kept (subst (λ (s : Scene). IsSummed count new.kept s answer) over.scene (record {
      past = new.history;
      turns = made;
      run = is.run;
      few = is.few;
      short = turns_short law (rules_of new) new.scene new.history is.may.valid is.run made;
      upheld = upheld;
      told = told;
    }))
  where
    made : Turns (rules_of new) new.scene [] new.history
    made = subst (λ (k : Kept). Turns (rules_in k.program) new.scene [] new.history) (sym over.kept)
        (subst (λ (s : Scene). Turns (rules_of old) s [] new.history) (sym over.scene)
        (subst (λ (past : List Event). Turns (rules_of old) old.scene past new.history) empty turns))

-- what is told of the text that was made is told of the number
pub gen_before : (count : ℕ) (word bytes : List ℕ) (halt : Halt) → word ≡ gen_words count → bytes ≡ generated_text count
    → HaltSays (PartsSay word scene_alone Nothing bytes) halt → HaltSays (GenSays count) halt
gen_before count word bytes halt named made h =
    parts_before (gen_words count) scene_alone (SceneSums count) (generated_text count) halt
    (subst (λ (w : List ℕ). HaltSays (PartsSay w scene_alone Nothing (generated_text count)) halt) named
    (subst (λ (b : List ℕ). HaltSays (PartsSay word scene_alone Nothing b) halt) made h))

pub gen_said : (count : ℕ) (bytes : List ℕ) (program : Program) (scene : Scene) (r : Result Reply Halt) → bytes ≡ generated_text count
    → HasParts scene_alone bytes tt program scene → Ends (SceneSums count tt program scene) r → Ends (GenSays count) r
gen_said count bytes program scene r made has =
    ends_more (SceneSums count tt program scene) (GenSays count)
    (λ answer h. parts_said (gen_words count) scene_alone (SceneSums count) (generated_text count) tt program scene answer
    (subst (λ (b : List ℕ). HasParts scene_alone b tt program scene) made has) h) r
