-- That what a word comes to is a reply, where all answers to the same bytes agree.
use Rattle.std.proofs.Common.{◌≡◌, List, ℕ, ap, subst}
use Rattle.std.specs.Prelude.{Option, Some, None, Result, Ok, Err, IfOk}
use Rattle.std.specs.declared.alloc.AllocError.{AllocError}
use Rattle.carol_reply.specs.declared.halt.Halt.{Halt}
use Rattle.carol_reply.specs.declared.halt.Halt.TheVariants.{Told, NoMemory}
use Rattle.carol_reply.specs.declared.line.Line.{Line}
use Rattle.carol_reply.specs.declared.line.Line.TheVariants as line
use Rattle.carol_reply.specs.declared.reply.Reply.{Reply}
use Rattle.carol_reply.specs.Meaning.{Agree, IsOwn, IsReply, Meaning}
use Rattle.carol_reply.specs.Reply.{Ends, HaltSays, HaltTells, answer_of, ending}
use Rattle.carol_reply.specs.Texts.{Answer, line_answer}

-- answers of this kind have statuses of the word's own
abbrev pub AreOwn : (Answer → Type 0) → Type 0
AreOwn said = (answer : Answer) → said answer → IsOwn answer.0

-- answers of the one kind agree with those of the other
abbrev pub Agrees : Type 0 → (Answer → Type 0) → (Answer → Type 0) → Type 0
Agrees history one two = (other answer : Answer) → one other → two answer → Agree history other answer

-- all that the word means does
pub record IsSettled (meaning : Meaning) : Type 0 where
  pub own : (bytes : List ℕ) → AreOwn (meaning.says bytes)
  pub agree : (bytes : List ℕ) → Agrees meaning.history (meaning.says bytes) (meaning.says bytes)

-- the same answer agrees
pub agree_same : (history : Type 0) (other answer : Answer) → other ≡ answer → Agree history other answer
agree_same history other answer e = record { status = λ f g. ap (λ a. a.0) e; text = λ f s. ap (λ a. a.1) e }

-- a line has a status of the word's own
pub line_own : (said : Line) → IsOwn (line_answer said).0
line_own (line.BadStatement bad) = tt
line_own said = tt

none_some : (a : Answer) → None ≡ Some a → ⊥
none_some a e = cc

some_same : (a b : Answer) → Some a ≡ Some b → a ≡ b
some_same a b e = cc

-- what is answered has the property
ended_says : (said : Answer → Type 0) (outcome : Result Reply Halt) (answer : Answer) → Ends said outcome → ending outcome ≡ Some answer → said answer
ended_says said (Ok reply) answer h e = subst said (some_same (answer_of reply) answer e) h
ended_says said (Err (Told reply)) answer h e = subst said (some_same (answer_of reply) answer e) h
ended_says said (Err NoMemory) answer h e = absurd (none_some answer e)

pub reply_of : (meaning : Meaning) (bytes : List ℕ) (outcome : Result Reply Halt) (r : Result Reply AllocError) → IsSettled meaning
    → Ends (meaning.says bytes) outcome → IfOk r (λ reply. ending outcome ≡ Some (answer_of reply)) → IfOk r (λ reply. IsReply meaning bytes (answer_of reply))
reply_of meaning bytes outcome (Ok reply) settled h e =
    let says : meaning.says bytes (answer_of reply) = ended_says (meaning.says bytes) outcome (answer_of reply) h e in
    record {
      own = settled.own bytes (answer_of reply) says;
      says = says;
      fixed = λ other p. settled.agree bytes other (answer_of reply) p says;
    }
reply_of meaning bytes outcome (Err e) settled h told = tt

-- what is told has what follows
pub halt_map : (one two : Answer → Type 0) → ((answer : Answer) → one answer → two answer) → (halt : Halt) → HaltSays one halt → HaltSays two halt
halt_map one two to (Told reply) h = to (answer_of reply) h
halt_map one two to NoMemory h = tt

-- and so has what is told, if it is this
pub halt_told : (said : Option Answer) (has : Answer → Type 0) → ((answer : Answer) → said ≡ Some answer → has answer) → (halt : Halt) → HaltTells said halt → HaltSays has halt
halt_told said has to (Told reply) h = to (answer_of reply) h
halt_told said has to NoMemory h = tt
