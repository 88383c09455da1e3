-- What taking the first line of bytes gives.
use Rattle.std.specs.Prelude.{◌≡◌, ◌≢◌, ℕ, ◌+◌, ◌≤◌, List, codes, length, drop, Option, Some, None, Result, Ok, Err}
use Rattle.carol_event.specs.declared.error.LineError.{LineError}
use Rattle.carol_event.specs.declared.error.LineError.TheVariants as line_error
use Rattle.carol_event.specs.Faults.{IsBad}
use Rattle.carol_event.specs.Numbers.{HasNumbers}
use Rattle.carol_event.specs.Texts.{event_text}
use Rattle.carol_audit.specs.declared.error.TailError.{TailError}
use Rattle.carol_audit.specs.declared.error.TailError.TheVariants.{Bad, TooLarge, NoMemory}
use Rattle.carol_audit.specs.declared.first.Taken.{Taken}
use Rattle.carol_audit.specs.Tails.{IsBadFirst, IsCutAt, IsEventFirst, IsResultsFirst}

-- the line with this number is bad
abbrev pub IsFirstFault : List ℕ → ℕ → TailError → Type 0
IsFirstFault bytes number (Bad line column) = (line ≡ number) × IsBadFirst bytes column
IsFirstFault bytes number TooLarge = ⊥
IsFirstFault bytes number NoMemory = Unit {0}

-- the event of the first line, with the bytes of the line; or that this is `results`; or its fault
abbrev pub Finds : List ℕ → ℕ → Result (Option Taken) TailError → Type 0
Finds bytes number (Ok (Some taken)) =
    IsEventFirst bytes taken.event (drop taken.used bytes) × (taken.used ≤ length bytes)
Finds bytes number (Ok None) = IsResultsFirst bytes
Finds bytes number (Err error) = IsFirstFault bytes number error

-- the same of the line alone, which a line feed ends
abbrev pub IsLineFault : List ℕ → ℕ → TailError → Type 0
IsLineFault line number (Bad place column) =
    (place ≡ number) × IsBad line column
IsLineFault line number TooLarge = ⊥
IsLineFault line number NoMemory = Unit {0}

abbrev pub FindsInLine : List ℕ → ℕ → Result (Option Taken) TailError → Type 0
FindsInLine line number (Ok (Some taken)) =
    (line ≡ event_text taken.event) × HasNumbers taken.event × (taken.used ≡ length line + 1)
FindsInLine line number (Ok None) = line ≡ codes "results"
FindsInLine line number (Err error) = (line ≢ codes "results") × IsLineFault line number error

-- what is wrong with a line that no line feed ends
abbrev pub Cuts : List ℕ → ℕ → TailError → Type 0
Cuts line number (Bad place column) =
    (place ≡ number) × IsCutAt line column
Cuts line number TooLarge = ⊥
Cuts line number NoMemory = Unit {0}

-- the fault of a line with this number
abbrev pub fault_of : LineError → ℕ → TailError
fault_of (line_error.Bad column) number = Bad number column
fault_of line_error.NoMemory number = NoMemory
