use Rattle.std.proofs.Common.{◌≡◌, ◌*◌, ◌<◌, ◌++◌}
use Rattle.std.specs.String.{string_bytes}
use Rattle.carol_generator.specs.Generated.{number_drawn}
use Rattle.carol_generator.specs.Layout.{head_text, sessions_text}
use Rattle.carol_generator.proofs.generator.generate.Given as goal

abbrev pub invariant-loop-session : goal.invariant-loop-session
invariant-loop-session l =
    (string_bytes l.text ≡ head_text ++ sessions_text l.n l.session)
    × (l.last ≡ number_drawn l.n (l.session * l.n))
    × (l.last < 65537)
