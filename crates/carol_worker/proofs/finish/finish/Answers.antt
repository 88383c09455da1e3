use Rattle.std.proofs.Common.{ap, length, ◌∙◌}
use Rattle.carol_program.specs.declared.scenes.Scene.{Scene}
use Rattle.carol_worker.proofs.Going.{all_done, continues_more, done_one_more}
use Rattle.carol_worker.proofs.finish.finish.Goals as goal

pub returns-in-Full-clause-continues : goal.returns-in-Full-clause-continues
returns-in-Full-clause-continues c =
    continues_more _ _ _ c.loop-session.invariant.0 c.in_ok-finish_session.ensures.continues

pub loop-session-preserved : goal.loop-session-preserved
loop-session-preserved c =
    done_one_more _ _ _ _ c.loop-session.invariant c.in_ok-finish_session.ensures.continues
    (rw c.in-Done.is at c.in_ok-finish_session.ensures.through)

pub returns-clause-ended : goal.returns-clause-ended
returns-clause-ended c =
    all_done _ _ c.len-sessions.result _ (c.len-sessions.ensures ∙ ap (λ (s : Scene). length s.sessions) c.scene.ensures.scene) c.loop-session-test.false c.loop-session.invariant (c.history_laws.ensures.done _ _)
