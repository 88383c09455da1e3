use Rattle.std.proofs.Common.{take, ap, ◌∙◌}
use Rattle.carol_parse.proofs.Meant.{is_meant, is_only, is_shaped, is_sized}
use Rattle.carol_parse.proofs.text.parse.Goals as goal

pub returns-clause-means : goal.returns-clause-means
returns-clause-means c =
    is_meant c.told_means.ensures c.reading_answers.ensures c.args.bytes.now c.in_ok-text.text c.find_reach-reach.result c.in_ok-text.ensures.cut c.in_ok-text.ensures.ordered c.find_reach-reach.ensures.reaches c.tail.result c.split_at.result.0.now c.tell.result c.tail.ensures (c.split_at.ensures.front ∙ ap (take c.find_reach-reach.result.count) c.as_slice.ensures) (c.tell.ensures _ c.file.ensures)

pub returns-clause-only : goal.returns-clause-only
returns-clause-only c =
    is_only c.told_means.ensures c.reading_answers.ensures c.args.bytes.now c.in_ok-text.text c.find_reach-reach.result c.in_ok-text.ensures.cut c.in_ok-text.ensures.ordered c.find_reach-reach.ensures.reaches c.one_outcome.ensures c.tail.result c.split_at.result.0.now c.tell.result c.tail.ensures (c.split_at.ensures.front ∙ ap (take c.find_reach-reach.result.count) c.as_slice.ensures) (c.tell.ensures _ c.file.ensures)

pub returns-clause-shape : goal.returns-clause-shape
returns-clause-shape c = is_shaped c.text_is_shaped.ensures c.args.bytes.now c.tell.result (returns-clause-means c)

pub returns-clause-size : goal.returns-clause-size
returns-clause-size c = is_sized c.read_is_sized.ensures c.args.bytes.now c.in_ok-text.text c.in_ok-text.ensures.only c.in_ok-text.ensures.ordered c.in_ok-text.ensures.within c.tell.result (returns-clause-means c)
