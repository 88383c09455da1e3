-- Nothing stands against the text that `gen` makes, so it succeeds.
use Rattle.std.proofs.Common.{◌≡◌, ℕ, refl, sym, ap, subst}
use Rattle.carol_bank.specs.Law.{BankIsAccepted}
use Rattle.carol_complete.specs.Inputs.{AnyScene, IsSceneInput, NothingOpen, scene_in}
use Rattle.carol_complete.proofs.Passing.{input_said, verdict_said}
use Rattle.carol_decide.specs.declared.answer.Why.{Why}
use Rattle.carol_gen.specs.Law.{GenIsOk, GeneratedIsInput}
use Rattle.carol_generator.specs.Generated.{bank, generated_text}
use Rattle.carol_generator.specs.Laws.{GeneratedIsFaultless, GeneratedIsRead, IsFaultless}
use Rattle.carol_grammar.specs.Outcome.{Means, Read}
use Rattle.carol_meaning.specs.Programs.{rules_of}
use Rattle.carol_prepare.specs.Parts.{scene_alone}
use Rattle.carol_prepare.proofs.Settled.{OneOutcome}
use Rattle.carol_program.specs.declared.places.Place.{Place}
use Rattle.carol_reading.specs.Good.{IsAccepted}
use Rattle.carol_reply.specs.Texts.{Answer}
use Rattle.carol_syntax.specs.Files.{FileTree}
use Rattle.carol_typecheck.specs.declared.verdict.Verdict.TheVariants as verdict
use Rattle.carol_words_gen.specs.Gen.{IsSummed, SceneSums, gen_words}

not_good : (place : Place) (why : Why) → verdict.Undecided place why ≡ verdict.Good → ⊥
not_good place why e = cc

bank_open : BankIsAccepted → NothingOpen (rules_of bank)
bank_open law = record {
  guards = law.accords;
  operations = λ place why h. not_good place why (law.verdict (verdict.Undecided place why) h);
}

of_file : BankIsAccepted → (count : ℕ) (file : FileTree) → Means (generated_text count) (Read file) → IsFaultless file → IsSceneInput (generated_text count)
of_file law count file read f = record {
  file = file;
  read = read;
  passing = record {
    faultless = f.named;
    accepted = subst IsAccepted (sym f.rules) law.accepted;
    none_open = subst NothingOpen (sym f.rules) (bank_open law);
  };
  written = f.scene;
  part = tt;
  taken = rw (f.stands, f.no_script, f.no_tail) refl;
  placed = f.placed;
  holds = tt;
}

pub generated_is_input : GeneratedIsRead → GeneratedIsFaultless → BankIsAccepted → GeneratedIsInput
generated_is_input read faultless law count few =
    let r = read count in
    of_file law count r.0 r.1 (faultless count few r.0 r.2)

pub succeeds : GeneratedIsInput → OneOutcome → GenIsOk
succeeds made once count few answer says =
    let input : IsSceneInput (generated_text count) = made count few in
    let h = input_said once (gen_words count) scene_alone AnyScene (SceneSums count) (generated_text count) answer input says in
    let kept = verdict_said (λ kept. IsSummed count kept (scene_in input.file.program input.written)) (rules_of input.file.program) h.0 answer
    input.passing.accepted input.passing.none_open h.1.rules h.2 in
    ap (λ (a : Answer). a.0) kept.2.told
