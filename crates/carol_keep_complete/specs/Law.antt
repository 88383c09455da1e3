-- That `keep K` is done where `step` is.
use Rattle.std.specs.Prelude.{◌≡◌, List, ℕ}
use Rattle.carol_complete.specs.Inputs.{IsStepInput}
use Rattle.carol_keep.specs.Keep.{KeepSays}
use Rattle.carol_reply.specs.declared.status.Status.TheVariants.{Ok}
use Rattle.carol_reply.specs.Texts.{Answer}

-- Of the answers that are right, wherever the disk stops, each has the status of success.
abbrev pub KeepsSucceed : Type 0
KeepsSucceed =
    (stop : ℕ) (bytes : List ℕ) (answer : Answer) → IsStepInput bytes →
    KeepSays stop bytes answer → answer.0 ≡ Ok
