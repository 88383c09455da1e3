-- What `gen N` answers.
use Rattle.std.specs.Prelude.{◌≡◌, ◌≤◌, ℕ}
use Rattle.carol_complete.specs.Inputs.{IsSceneInput}
use Rattle.carol_generator.specs.Generated.{generated_text}
use Rattle.carol_reply.specs.declared.status.Status.TheVariants.{Ok}
use Rattle.carol_reply.specs.Texts.{Answer}
use Rattle.carol_words_gen.specs.Gen.{GenSays}

-- nothing stands against the text that is made
abbrev pub GeneratedIsInput : Type 0
GeneratedIsInput = (count : ℕ) → count ≤ 256 → IsSceneInput (generated_text count)

-- of the answers to the number that are right, each has the status of success
abbrev pub GenIsOk : Type 0
GenIsOk = (count : ℕ) → count ≤ 256 → (answer : Answer) → GenSays count answer → answer.0 ≡ Ok
