-- What is known of a session's acts, in the words of a machine that stands where they bring it.
use Rattle.std.proofs.Common.{◌≡◌, List, sym, ◌∙◌, subst}
use Rattle.std.specs.Prelude.{Some, slice_get}
use Rattle.std.proofs.lemmas.Option.{same_Some}
use Rattle.carol_store.specs.Kinds.{CellValue}
use Rattle.carol_program.specs.Rules.{Rules}
use Rattle.carol_program.specs.declared.scenes.Command.{Command}
use Rattle.carol_reading.specs.Good.{IsReading, MayLeave}
use Rattle.carol_reading.specs.Marks.{Mark}
use Rattle.carol_reading.specs.Walks.{IsWalkOf}
use Rattle.carol_history.specs.Acts.{Act, Place, attempt, marks, place}
use Rattle.carol_machine.specs.Feeds.{MayFollow}
use Rattle.carol_machine.specs.States.{SessionState, HasCommand, IsAt}
use Rattle.carol_machine.specs.Wishes.{IsUnder, StandsWell}
use Rattle.carol_machine.proofs.Wishing.{brings}

module _ (p : Rules) (m : SessionState) (done : List Act) (at : IsAt m done) where
  -- the command under way is the machine's
  pub present_there : (command : Command) → slice_get m.plan.commands (place m.tries done).command ≡ Some command → slice_get m.plan.commands m.at.command ≡ Some command
  present_there command e = subst (λ (q : Place). slice_get m.plan.commands q.command ≡ Some command) (sym at.place) e

  -- a mark that the session may leave may be fed
  pub may_follow : (mark : Mark) (way : IsUnder p m.plan m.tries done) → MayLeave p way.op way.command.args (marks (attempt done)) mark → MayFollow p m mark
  may_follow mark way leaves = record {
    command = way.command;
    op = way.op;
    before = marks (attempt done);
    present = present_there way.command way.present;
    found = way.found;
    brings = brings m done at;
    leaves = leaves;
  }

  pub has_command : IsUnder p m.plan m.tries done → HasCommand m
  has_command way = (way.command, present_there way.command way.present)

  -- an attempt with proper rounds is a walk with proper rounds
  pub stands_well : (way : IsUnder p m.plan m.tries done) (ended : List (List CellValue)) (current : List CellValue) → IsReading p way.op way.command.args (marks (attempt done)) ended current → StandsWell p m
  stands_well way ended current reading command e = subst (λ (c : Command). IsWalkOf p c m.walk) same (record {
    op = way.op;
    marks = marks (attempt done);
    ended = ended;
    current = current;
    found = way.found;
    brings = brings m done at;
    reading = reading;
  })
    where
      same : way.command ≡ command
      same = same_Some way.command command (sym (present_there way.command way.present) ∙ e)
