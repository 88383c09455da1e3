use Rattle.std.proofs.Common.{List, [], ◌∷◌, ◌∙◌, subst, append_assoc}
use Rattle.std.proofs.lemmas.List.{append-nil}
use Rattle.carol_syntax.specs.declared.lexeme.Lexeme.{Lexeme}
use Rattle.carol_syntax.specs.Place.{start}
use Rattle.carol_syntax.specs.Cut.{Cut}
use Rattle.carol_syntax.specs.Cursor.{IsStep}
use Rattle.carol_syntax.proofs.Cutting.{cut_once, stand_more}
use Rattle.carol_syntax.proofs.lexeme.cut.Goals as goal

pub loop-lexeme-preserved : goal.loop-lexeme-preserved
loop-lexeme-preserved c =
    let step : IsStep c.loop-lexeme.here c.in-Some.lexeme c.in-Some.next = c.in-Some.ensures in
    record {
      rest = λ more stop end h. rw (c.in_ok-push.ensures.ok, append_assoc) (c.loop-lexeme.invariant.rest (c.in-Some.lexeme ∷ more) stop end (step.cut more stop end h));
      ordered = rw c.in_ok-push.ensures.ok (stand_more 0 c.loop-lexeme.list c.in-Some.lexeme c.loop-lexeme.here.at.offset c.in-Some.next.at.offset c.loop-lexeme.invariant.ordered step.from step.bytes step.to);
      sound = step.sound;
      offset = step.offset ∙ c.loop-lexeme.invariant.offset;
    }

pub returns-clause-cut : goal.returns-clause-cut
returns-clause-cut c =
    subst (λ (list : List Lexeme). Cut start c.args.bytes.now list c.stop_at-stop.result c.loop-lexeme.here.at) (append-nil c.loop-lexeme.list)
    (c.loop-lexeme.invariant.rest [] c.stop_at-stop.result c.loop-lexeme.here.at c.stop_at-stop.ensures.cut)

pub returns-clause-only : goal.returns-clause-only
returns-clause-only c = λ list stop end h. cut_once start c.args.bytes.now list c.loop-lexeme.list stop c.stop_at-stop.result end c.loop-lexeme.here.at h (returns-clause-cut c)
