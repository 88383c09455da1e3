-- What a word ends with.
use Rattle.std.proofs.Common.{◌≡◌, sym, subst}
use Rattle.std.specs.Prelude.{Result, Ok, Err, IsErrAnd}
use Rattle.carol_reply.specs.declared.halt.Halt.{Halt}
use Rattle.carol_reply.specs.declared.halt.Halt.TheVariants.{NoMemory}
use Rattle.carol_reply.specs.declared.reply.Reply.{Reply}
use Rattle.carol_reply.specs.Reply.{Ends, HaltSays, answer_of}
use Rattle.carol_reply.specs.Texts.{Answer}
use Rattle.carol_reply.proofs.Agreeing.{halt_map}

-- it ends with what is told
pub ends_err : (said : Answer → Type 0) (halt : Halt) (r : Result Reply Halt) → r ≡ Err halt → HaltSays said halt → Ends said r
ends_err said halt r is h = subst (Ends said) (sym is) h

-- what is said of one thing is said of another
pub ends_more : (one two : Answer → Type 0) → ((answer : Answer) → one answer → two answer) → (r : Result Reply Halt) → Ends one r → Ends two r
ends_more one two to (Ok reply) h = to (answer_of reply) h
ends_more one two to (Err halt) h = halt_map one two to halt h

-- or for want of memory
pub ends_none : (said : Answer → Type 0) (r : Result Reply Halt) → IsErrAnd r (λ halt. halt ≡ NoMemory) → Ends said r
ends_none said (Ok reply) h = absurd h
ends_none said (Err halt) h = subst (HaltSays said) (sym h) tt
