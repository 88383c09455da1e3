use Rattle.carol_report.proofs.Turning.{turn_more}
use Rattle.carol_report.proofs.rounds.take_turns.Goals as goal

pub loop-session-preserved : goal.loop-session-preserved
loop-session-preserved c =
    turn_more c.args.house.now c.loop-session.session c.loop-session.house c.take_turn.new.house c.loop-session.invariant c.in_ok-take_turn.ensures.goes_on c.in_ok-take_turn.ensures.turn
