use Rattle.carol_picture.specs.Style.{style}
use Rattle.carol_picture.proofs.style.push_style.Goals as goal

pub returns : goal.returns
unfolding style
returns c = c.push_word.ensures
