-- What `check` means.
use Rattle.std.specs.Prelude.{◌≡◌, List, ℕ}
use Rattle.carol_accept.specs.Texts.{accord_text}
use Rattle.carol_prepare.specs.Parts.{ProgramSays}
use Rattle.carol_prepare.specs.Verdicts.{VerdictSays}
use Rattle.carol_reading.specs.Kept.{Kept}
use Rattle.carol_reply.specs.declared.status.Status.TheVariants as status
use Rattle.carol_reply.specs.Meaning.{Meaning}
use Rattle.carol_reply.specs.Texts.{Answer}

-- what the table of an accepted program has is told
abbrev pub IsAccorded : Kept → Answer → Type 0
IsAccorded kept answer = answer ≡ (status.Ok, accord_text kept)

-- the answer to the bytes: what stands behind the program of their file isn't looked at
abbrev pub CheckSays : List ℕ → Answer → Type 0
CheckSays bytes answer = ProgramSays (VerdictSays IsAccorded) bytes answer

abbrev pub check_meaning : Meaning
check_meaning = record { says = CheckSays; whole = Unit {0}; unread = ⊥; history = Unit {0} }
