-- The lines of the numbers that are shown at a place.
use Rattle.std.specs.Prelude.{ℕ, zero, suc, ◌+◌, ◌==◌, Bool, true, false, if◌then◌else◌, List, [], ◌∷◌, ◌++◌, codes, length, ℤ, Option, Some, None, slice_get}
use Rattle.std.specs.Fmt.{signed_decimal}
use Rattle.carol_program.specs.declared.names.Names.{Names}
use Rattle.carol_program.specs.declared.places.Place.{Place}
use Rattle.carol_program.specs.declared.places.Place.TheVariants.{Initial, Reflexive, Accord, Amount, Invariant, Outcome}
use Rattle.carol_program.specs.Rules.{Rules, OpRules}
use Rattle.carol_program.specs.Variables.{cell_variable, param_variable, query_variable}
use Rattle.carol_obligation.specs.Decoded.{round_variable}
use Rattle.carol_accept.specs.declared.trail.Asked.{Asked}
use Rattle.carol_accept.specs.declared.trail.Trail.{Trail}
use Rattle.carol_accept.specs.Named.{variable_text}
use Rattle.carol_accept.specs.Trails.{start, trail_to}

abbrev pub line_text : List ℕ → ℤ → List ℕ
line_text name number = name ++ (codes " = " ++ (signed_decimal number ++ 10 ∷ []))

-- the lines of so many variables from `named` on, with the numbers of those from `shown` on
abbrev pub numbers_text : (ℕ → List ℕ) → (ℕ → ℤ) → ℕ → ℕ → ℕ → List ℕ
numbers_text name f zero named shown = []
numbers_text name f (suc more) named shown = line_text (name named) (f shown) ++ numbers_text name f more (named + 1) (shown + 1)

-- the same, with their own numbers
abbrev pub own_text : (ℕ → List ℕ) → (ℕ → ℤ) → ℕ → ℕ → List ℕ
own_text name f count first = numbers_text name f count first first

-- the stores of queries
abbrev pub queries_text : (ℕ → List ℕ) → (ℕ → ℤ) → ℕ → List Asked → List ℕ
queries_text name f cells [] = []
queries_text name f cells (a ∷ more) = own_text name f cells (query_variable a.slot 0) ++ queries_text name f cells more

-- one of the queries belongs to the round
abbrev pub asks_in : ℕ → List Asked → Bool
asks_in round [] = false
asks_in round (a ∷ more) = if a.round == round then true else asks_in round more

-- the round whose numbers are shown for this one: where it has no query, it may have any store, and has
-- that of the round of the place
abbrev pub shown_for : Trail → ℕ → ℕ
shown_for t round = if asks_in round t.asked then round else t.rounds

-- the stores of so many rounds from this one on
abbrev pub rounds_text : (ℕ → List ℕ) → (ℕ → ℤ) → ℕ → Trail → ℕ → ℕ → List ℕ
rounds_text name f cells t zero round = []
rounds_text name f cells t (suc more) round =
    numbers_text name f cells (round_variable round 0) (round_variable (shown_for t round) 0) ++ rounds_text name f cells t more (round + 1)

-- the queries on the trail, and the rounds up to that of the place
abbrev pub trail_text : (ℕ → List ℕ) → (ℕ → ℤ) → ℕ → Option Trail → List ℕ
trail_text name f cells None = []
trail_text name f cells (Some t) = queries_text name f cells t.asked ++ rounds_text name f cells t (t.rounds + 1) 0

-- at a statement of an operation: its parameters, and what lies on the trail
abbrev pub statement_lines : (ℕ → List ℕ) → (ℕ → ℤ) → ℕ → ℕ → Option OpRules → List ℕ
statement_lines name f cells number None = []
statement_lines name f cells number (Some op) =
    own_text name f (length op.params) (param_variable 0) ++ trail_text name f cells (trail_to number op.body start)

abbrev pub op_lines : Rules → Names → Place → ℕ → ℕ → (ℕ → ℤ) → List ℕ
op_lines p names place op number f = statement_lines (variable_text names place) f (length p.shape) number (slice_get p.ops op)

-- the lines at a place: all cells, at one that is no operation's
unfoldable pub lines_text : Rules → Names → Place → (ℕ → ℤ) → List ℕ
lines_text p names Initial f = own_text (variable_text names Initial) f (length p.shape) (cell_variable 0)
lines_text p names (Reflexive guard) f = own_text (variable_text names (Reflexive guard)) f (length p.shape) (cell_variable 0)
lines_text p names (Accord guard cell up) f = own_text (variable_text names (Accord guard cell up)) f (length p.shape) (cell_variable 0)
lines_text p names (Amount op number atom) f = op_lines p names (Amount op number atom) op number f
lines_text p names (Invariant op number) f = op_lines p names (Invariant op number) op number f
lines_text p names (Outcome op number) f = op_lines p names (Outcome op number) op number f
