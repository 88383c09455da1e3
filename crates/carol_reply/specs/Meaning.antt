-- What a word of the command line means, and what a reply to it is.
use Rattle.std.specs.Prelude.{◌≡◌, List, ℕ}
use Rattle.carol_reply.specs.Texts.{Answer}
use Rattle.carol_reply.specs.declared.status.Status.{Status}
use Rattle.carol_reply.specs.declared.status.Status.TheVariants as status

-- The meaning of a word.
pub record Meaning : Type 1 where
  -- to the bytes of the input this is answered
  pub says : List ℕ → Answer → Type 0
  -- the input is read to its end, before anything is answered
  pub whole : Type 0
  -- none of it is read
  pub unread : Type 0
  -- the bytes fix what comes of an accepted program; a run may come to one history or another
  pub history : Type 0

-- a status that the word itself gives, once it has its input
abbrev pub IsOwn : Status → Type 0
IsOwn status.Usage = ⊥
IsOwn status.ReadFault = ⊥
IsOwn status.WriteFault = ⊥
IsOwn status.NoMemory = ⊥
IsOwn status.TooLong = ⊥
IsOwn meant = Unit {0}

-- of these statuses the bytes fix one, if they fix the history; where it is told that something
-- stays undecided, it might have been decided too
abbrev pub FixesStatus : Type 0 → Status → Type 0
FixesStatus history status.Undecided = ⊥
FixesStatus history status.Ok = history
FixesStatus history status.Full = history
FixesStatus history meant = Unit {0}

-- and the text, but for one that shows a witness, of which there may be others
abbrev pub FixesText : Type 0 → Status → Type 0
FixesText history status.Refused = ⊥
FixesText history status.Undecided = ⊥
FixesText history meant = FixesStatus history meant

-- Two answers to the same bytes: they have one status where the bytes fix both, and with one status
-- one text, where the bytes fix that.
pub record Agree (history : Type 0) (other answer : Answer) : Type 0 where
  pub status : FixesStatus history other.0 → FixesStatus history answer.0 → other.0 ≡ answer.0
  pub text : FixesText history answer.0 → other.0 ≡ answer.0 → other.1 ≡ answer.1

-- A reply to these bytes, which has a status of the word's own: it is what they mean, and what else
-- they mean agrees with it.
pub record IsReply (meaning : Meaning) (bytes : List ℕ) (answer : Answer) : Type 0 where
  pub own : IsOwn answer.0
  pub says : meaning.says bytes answer
  pub fixed : (other : Answer) → meaning.says bytes other → Agree meaning.history other answer
