use Rattle.std.proofs.Common.{◌≡◌, rules}
use Rattle.std.specs.Prelude.{Err}
use Rattle.carol_generator.specs.Generated.{generated_text}
use Rattle.carol_words_gen.specs.Gen.{GenSays, gen_words}
use Rattle.carol_words.proofs.Opened.{ends_err}
use Rattle.carol_words_gen.proofs.Summed.{gen_before, gen_said}
use Rattle.carol_words_gen.proofs.history.Goals as goal

pub returns-in_err-placed : goal.returns-in_err-placed
returns-in_err-placed g c =
    let halt = c.in_err-placed.field-0.0 in
    let is : c.from_residual-in_err-placed.result ≡ Err halt = search rules in
    let made : c.deref.result.now ≡ generated_text c.args.count = search rules in
    let named : c.deref-2.result.now ≡ gen_words c.args.count = search rules in
    ends_err (GenSays c.args.count) halt c.from_residual-in_err-placed.result is
    (gen_before c.args.count c.deref-2.result.now c.deref.result.now halt named made c.in_err-placed.ensures.told)

pub returns : goal.returns
returns g c =
    let placed = c.in_ok-placed.placed in
    let made : c.deref.result.now ≡ generated_text c.args.count = search rules in
    gen_said c.args.count c.deref.result.now placed.program placed.scene c.sum_placed.result made c.in_ok-placed.ensures.parts c.sum_placed.ensures
