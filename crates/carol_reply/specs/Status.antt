-- The numbers of the statuses.
use Rattle.std.specs.Prelude.{ℕ}
use Rattle.carol_reply.specs.declared.status.Status.{Status}
use Rattle.carol_reply.specs.declared.status.Status.TheVariants as status

abbrev pub number_of : Status → ℕ
number_of status.Ok = 0
number_of status.Refused = 1
number_of status.Text = 2
number_of status.Usage = 3
number_of status.ReadFault = 4
number_of status.WriteFault = 5
number_of status.NoMemory = 6
number_of status.Undecided = 7
number_of status.Full = 8
number_of status.FalseTranscript = 9
number_of status.Script = 10
number_of status.TooLong = 11
