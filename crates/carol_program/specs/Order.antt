-- The order of grants: by session, then by guard.
use Rattle.std.specs.Prelude.{◌≡◌, ◌⊎◌, ℕ, ◌<◌}

-- the first session and guard come before the second ones
abbrev pub IsBefore : ℕ → ℕ → ℕ → ℕ → Type 0
IsBefore s g session guard = (s < session) ⊎ ((s ≡ session) × (g < guard))
