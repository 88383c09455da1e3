-- What a reply says, and what a word comes to.
use Rattle.std.specs.Prelude.{◌≡◌, Option, Some, None, Result, Ok, Err}
use Rattle.carol_reply.specs.declared.halt.Halt.{Halt}
use Rattle.carol_reply.specs.declared.halt.Halt.TheVariants.{Told, NoMemory}
use Rattle.carol_reply.specs.declared.reply.Reply.{Reply}
use Rattle.carol_reply.specs.declared.stop.Stop.{Stop}
use Rattle.carol_reply.specs.Texts.{Answer, stop_answer}

-- its status and its text
abbrev pub answer_of : Reply → Answer
answer_of reply = (reply.status, reply.text.items)

-- those of a word that was done, or of what kept it from being done
abbrev pub outcome_answer : Result Reply Stop → Answer
outcome_answer (Ok reply) = answer_of reply
outcome_answer (Err stop) = stop_answer stop

-- what is told has the property; want of memory tells nothing
abbrev pub HaltSays : (Answer → Type 0) → Halt → Type 0
HaltSays said (Told reply) = said (answer_of reply)
HaltSays said NoMemory = Unit {0}

-- this is told, unless memory ran out; where there is nothing to tell it did
abbrev pub HaltTells : Option Answer → Halt → Type 0
HaltTells said (Told reply) = said ≡ Some (answer_of reply)
HaltTells said NoMemory = Unit {0}

-- what is answered has it, be the word done or kept from going on
abbrev pub Ends : (Answer → Type 0) → Result Reply Halt → Type 0
Ends said (Ok reply) = said (answer_of reply)
Ends said (Err halt) = HaltSays said halt

-- what is answered
abbrev pub ending : Result Reply Halt → Option Answer
ending (Ok reply) = Some (answer_of reply)
ending (Err (Told reply)) = Some (answer_of reply)
ending (Err NoMemory) = None
