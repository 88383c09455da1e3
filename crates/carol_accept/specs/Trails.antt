-- How a body comes to one of its statements.
use Rattle.std.specs.Prelude.{ℕ, ◌+◌, ◌==◌, if◌then◌else◌, [], ◌∷◌, ◌++◌, Option, Some, None}
use Rattle.carol_program.specs.Bodies.{Body, Query, Issue, Release, Branch, Return}
use Rattle.carol_obligation.specs.Ways.{Way, Asks, Puts, Frees, Tests}
use Rattle.carol_accept.specs.declared.trail.Trail.{Trail}

-- at the beginning of a body
abbrev pub start : Trail
start = record { asked = []; rounds = 0 }

-- behind a query, which belongs to the round that is open
abbrev pub behind_query : ℕ → Trail → Trail
behind_query slot t = record { asked = t.asked ++ record { slot = slot; round = t.rounds } ∷ []; rounds = t.rounds }

-- behind an issue or a release, which ends a round
abbrev pub behind_closing : Trail → Trail
behind_closing t = record { asked = t.asked; rounds = t.rounds + 1 }

-- along a way to a place
abbrev pub trail_of : Way → Trail
trail_of [] = start
trail_of (Asks guard slot ∷ way) = behind_query slot (trail_of way)
trail_of (Puts parts ∷ way) = behind_closing (trail_of way)
trail_of (Frees ∷ way) = behind_closing (trail_of way)
trail_of (Tests test side ∷ way) = trail_of way

abbrev pub number_of : Body → ℕ
number_of (Query number guard slot next) = number
number_of (Issue number parts next) = number
number_of (Release number next) = number
number_of (Branch number test first second) = number
number_of (Return number value) = number

-- the first of both, or else the second
abbrev pub or_else : Option Trail → Option Trail → Option Trail
or_else None other = other
or_else (Some t) other = Some t

-- the trail to the statement with this number, behind the trail to the body
abbrev pub trail_to : ℕ → Body → Trail → Option Trail
trail_to wanted (Query number guard slot next) t = if number == wanted then Some t else trail_to wanted next (behind_query slot t)
trail_to wanted (Issue number parts next) t = if number == wanted then Some t else trail_to wanted next (behind_closing t)
trail_to wanted (Release number next) t = if number == wanted then Some t else trail_to wanted next (behind_closing t)
trail_to wanted (Branch number test first second) t = if number == wanted then Some t else or_else (trail_to wanted first t) (trail_to wanted second t)
trail_to wanted (Return number value) t = if number == wanted then Some t else None
