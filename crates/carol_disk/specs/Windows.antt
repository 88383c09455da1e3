-- A window onto a file, which begins at a place of it.
use Rattle.std.specs.Prelude.{◌≡◌, ℕ, ◌+◌, ◌-◌, ◌<◌, List, length, take, drop, get_or}
use Rattle.carol_disk.specs.Disk.{written}

-- the window after bytes from a place on were laid over it, as far as it reaches
abbrev pub overlaid : List ℕ → ℕ → ℕ → List ℕ → List ℕ
overlaid window at place bytes =
    written window (place - at) (take (length window - (place - at)) (drop (at - place) bytes))

-- wherever the window and the file both reach, they agree
abbrev pub Agrees : ℕ → List ℕ → List ℕ → Type 0
Agrees at window file = (k d : ℕ) → k < length window → at + k < length file →
    get_or window k d ≡ get_or file (at + k) d
