use Rattle.std.proofs.Common.{◌≡◌, ◌+◌, add-zero, arith}
use Rattle.std.specs.String.{string_bytes}
use Rattle.carol_generator.specs.Generated.{number_drawn}
use Rattle.carol_generator.proofs.Generating.{command_more, no_command, number_more}
use Rattle.carol_generator.proofs.generator.push_commands.Goals as goal

pub loop-init : goal.loop-init
loop-init c = (no_command c.args.n c.args.first (string_bytes c.args.text.now), rw add-zero c.requires.last, c.requires.low)

pub loop-preserved : goal.loop-preserved
loop-preserved c =
    let x = c.next_number-x.result
    in let drawn : x ≡ number_drawn c.args.n (c.args.first + c.loop.counter + 1) = number_more c.args.n (c.args.first + c.loop.counter) c.loop.x x c.loop.invariant.1 c.next_number-x.ensures.next
    in let text = command_more c.args.n c.args.first c.loop.counter x (string_bytes c.args.text.now) drawn
    in (rw (c.in_ok-push_command.ensures, c.loop.invariant.0) text, grind (arith, drawn), c.next_number-x.ensures.low)
