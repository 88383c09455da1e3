-- What the bytes fix of the answers of `advise`, beyond what its meaning says.
use Rattle.std.specs.Prelude.{◌≡◌, List, ℕ}
use Rattle.carol_reply.specs.Meaning.{FixesStatus}
use Rattle.carol_reply.specs.Texts.{Answer}
use Rattle.carol_advise_word.specs.Advise.{AdviseSays}

-- two answers for the same name to the same bytes have the same status, unless one of them tells that
-- something stays undecided
abbrev pub StatusesAreFixed : Type 0
StatusesAreFixed =
    (name bytes : List ℕ) (one other : Answer) → AdviseSays name bytes one → AdviseSays name bytes other →
    FixesStatus (Unit {0}) one.0 → FixesStatus (Unit {0}) other.0 → one.0 ≡ other.0
