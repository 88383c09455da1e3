use Rattle.std.specs.Prelude.{codes}
use Rattle.carol_picture.specs.Frame.{measures, size}
use Rattle.carol_picture.proofs.Appending.{two}
use Rattle.carol_picture.proofs.frame.push_size.Goals as goal

pub returns : goal.returns
unfolding size
returns c =
    two c.push_measures.result c.args.out.now.items c.push_word.new.out.items c.push_measures.new.out.items
    (codes "<svg xmlns='http://www.w3.org/2000/svg' xml:space='preserve'") (measures c.args.width c.args.height) c.in_ok-push_word.ensures c.push_measures.ensures
