use Rattle.carol_report.proofs.Turning.{nearer, no_round, round_more, runs_out}
use Rattle.carol_report.proofs.rounds.run_in_turns.Goals as goal

pub loop-house-init : goal.loop-house-init
loop-house-init c = no_round c.args.steps c.args.house.now c.reserve.new.self c.in_ok-reserve.ensures.rests c.in_ok-reserve.ensures.room

pub loop-house-smaller : goal.loop-house-smaller
loop-house-smaller c = nearer c.loop-house.house c.take_turns.new.house c.is_over.result c.loop-house-test.true c.is_over.ensures.over c.is_over.ensures.few c.in_ok-take_turns.ensures.turns

pub loop-house-preserved : goal.loop-house-preserved
loop-house-preserved c = round_more c.args.steps c.args.house.now c.loop-house.house c.take_turns.new.house c.loop-house.invariant c.in_ok-take_turns.ensures.goes_on c.in_ok-take_turns.ensures.turns

pub returns : goal.returns
returns c = record {
  over = c.loop-house.invariant.over;
  turns = runs_out c.args.steps c.args.house.now c.loop-house.house c.loop-house.invariant (c.is_over.ensures.over.0 c.loop-house-test.false);
  room = c.loop-house.invariant.room;
}
