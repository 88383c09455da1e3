-- How a word ends.
use Rattle.std.proofs.Common.{◌≡◌, sym, subst, inr}
use Rattle.std.specs.Prelude.{Result, Ok, Err, IsErrAnd}
use Rattle.carol_accept.specs.Refusals.{IsKeptAs}
use Rattle.carol_prepare.specs.Verdicts.{VerdictSays}
use Rattle.carol_program.specs.declared.program.Program.{Program}
use Rattle.carol_reading.specs.Kept.{Kept}
use Rattle.carol_reply.specs.declared.halt.Halt.{Halt}
use Rattle.carol_reply.specs.declared.halt.Halt.TheVariants.{NoMemory}
use Rattle.carol_reply.specs.declared.reply.Reply.{Reply}
use Rattle.carol_reply.specs.Reply.{Ends, HaltSays, answer_of}
use Rattle.carol_reply.specs.Texts.{Answer}
use Rattle.carol_reply.proofs.Agreeing.{halt_map}

-- the program is accepted, and this is said of it
pub kept_said : (said : Kept → Answer → Type 0) (program : Program) (kept same : Kept) (answer : Answer) → IsKeptAs program kept → same ≡ kept → said same answer → VerdictSays said program answer
kept_said said program kept same answer is_kept is says =
    inr (record { kept = kept; is_kept = is_kept; says = subst (λ (k : Kept). said k answer) is says })

-- it ends with what is told
pub ends_err : (said : Answer → Type 0) (halt : Halt) (r : Result Reply Halt) → r ≡ Err halt → HaltSays said halt → Ends said r
ends_err said halt r is h = subst (Ends said) (sym is) h

-- what is said of one thing is said of another
pub ends_more : (one two : Answer → Type 0) → ((answer : Answer) → one answer → two answer) → (r : Result Reply Halt) → Ends one r → Ends two r
ends_more one two to (Ok reply) h = to (answer_of reply) h
ends_more one two to (Err halt) h = halt_map one two to halt h

-- or for want of memory
pub ends_none : (said : Answer → Type 0) (r : Result Reply Halt) → IsErrAnd r (λ halt. halt ≡ NoMemory) → Ends said r
ends_none said (Ok reply) h = absurd h
ends_none said (Err halt) h = subst (HaltSays said) (sym h) tt
