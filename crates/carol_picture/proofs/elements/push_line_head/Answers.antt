use Rattle.std.specs.Prelude.{codes}
use Rattle.carol_picture.specs.Elements.{line_head}
use Rattle.carol_picture.proofs.Appending.{three}
use Rattle.carol_picture.proofs.elements.push_line_head.Goals as goal

pub returns : goal.returns
unfolding line_head
returns c =
    three c.push_word-3.result c.args.out.now.items c.push_word.new.out.items c.push_word-2.new.out.items c.push_word-3.new.out.items
    (codes "<polyline class='") c.args.class.now (codes "' points='") c.in_ok-push_word.ensures c.in_ok-push_word-2.ensures c.push_word-3.ensures
