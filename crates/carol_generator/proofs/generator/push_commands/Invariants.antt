use Rattle.std.proofs.Common.{◌≡◌, ◌+◌, ◌<◌, ◌++◌}
use Rattle.std.specs.String.{string_bytes}
use Rattle.carol_generator.specs.Generated.{number_drawn}
use Rattle.carol_generator.specs.Layout.{commands_text}
use Rattle.carol_generator.proofs.generator.push_commands.Given as goal

abbrev pub invariant-loop : goal.invariant-loop
invariant-loop l =
    (string_bytes l.text ≡ string_bytes l.fn.text ++ commands_text l.n l.first l.counter)
    × (l.x ≡ number_drawn l.n (l.first + l.counter))
    × (l.x < 65537)
