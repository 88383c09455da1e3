use Rattle.carol_print.specs.ReadBack.{SmallIsRead}
use Rattle.carol_generator.specs.Generated.{generated_file, generated_text}
use Rattle.carol_generator.specs.Laws.{GeneratedIsRead}
use Rattle.carol_generator.proofs.Formed.{file_formed, file_small}
use Rattle.carol_generator.proofs.laws.generated_is_read.Goals as goal

is_read : SmallIsRead → GeneratedIsRead
unfolding generated_text
is_read small n = small (generated_file n) (file_formed n) (file_small n)

pub returns : goal.returns
returns c = is_read c.small_is_read.ensures
