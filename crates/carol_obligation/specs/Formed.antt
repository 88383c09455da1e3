-- The formula of a place: false of exactly the numbers that are a breach there.
use Rattle.std.specs.Prelude.{ℕ, ◌+◌, ◌-◌, ◌==◌, nat_lt, Bool, if◌then◌else◌, List, [], ◌∷◌, pos, Option, Some, None, slice_get}
use Rattle.carol_store.specs.declared.shape.CellKind.{CellKind}
use Rattle.carol_store.specs.declared.shape.CellKind.TheVariants.{Counter, Peak, Flag}
use Rattle.carol_store.specs.declared.effect.TheConstants.{MOST_AMOUNT, MOST_TARGET}
use Rattle.carol_formula.specs.Linear.{Linear, constant_of, variable_of, sum_of}
use Rattle.carol_formula.specs.Claim.{Claim, True, False, Le, And, Or, Not}
use Rattle.carol_formula.specs.Named.{named_claim}
use Rattle.carol_program.specs.declared.steps.Part.{Part}
use Rattle.carol_program.specs.Rules.{Rules, OpRules}
use Rattle.carol_program.specs.Rows.{at_most, with_kinds}
use Rattle.carol_program.specs.Variables.{cell_variable, there_variable, result_variable, query_variable}
use Rattle.carol_reading.specs.Readings.{amount_for}
use Rattle.carol_obligation.specs.Ways.{Way, Asks, Puts, Frees, Tests, rounds_of, has_query}
use Rattle.carol_obligation.specs.Sites.{Ending, Amount, After, Gives, Site}
use Rattle.carol_obligation.specs.Decoded.{round_variable}

-- ---- what the variables of a program's formulas are at a place

-- a cell in the invariant is that of the store of a round
abbrev pub round_name : ℕ → ℕ → Linear
round_name round v = variable_of (round_variable round v)

-- in a guard `here` is the store of a query, and `there` that of a round
abbrev pub guard_name : ℕ → ℕ → ℕ → Linear
guard_name slot round v = if nat_lt v (there_variable 0) then variable_of (query_variable slot v) else variable_of (round_variable round (v - there_variable 0))

-- a cell after something is done to it in a round
abbrev pub done_name : ℕ → ℕ → Option CellKind → Linear → Linear
done_name round cell (Some Counter) amount = sum_of (variable_of (round_variable round cell)) amount
done_name round cell (Some Peak) amount = variable_of (cell_variable cell)
done_name round cell (Some Flag) amount = constant_of (pos 1)
done_name round cell None amount = variable_of (round_variable round cell)

abbrev pub cell_name : ℕ → ℕ → Option CellKind → Option Linear → Linear
cell_name round cell kind None = variable_of (round_variable round cell)
cell_name round cell kind (Some amount) = done_name round cell kind amount

-- a cell in the invariant is that of the store of a round after an issue of these parts
abbrev pub after_name : List CellKind → List Part → ℕ → ℕ → Linear
after_name kinds parts round cell = cell_name round cell (slice_get kinds cell) (amount_for cell parts)

-- the result is this value
abbrev pub result_name : Linear → ℕ → Linear
result_name value v = if v == result_variable then value else variable_of v

-- ---- what is known at a place, one conjunction

-- the store of a round is one of the shape, and the invariant is true of it
abbrev pub with_round : Rules → ℕ → Claim → Claim
with_round p round known = with_kinds p.shape (round_variable round 0) (And known (named_claim (round_name round) p.invariant))

abbrev pub guard_at : Rules → Option Claim → ℕ → ℕ → Claim → Claim
guard_at p None slot round known = False
guard_at p (Some guard) slot round known =
    with_kinds p.shape (query_variable slot 0) (And known (named_claim (guard_name slot round) guard))

-- the store of a query is one of the shape, and the guard is true of it and of the store of the round
abbrev pub with_query : Rules → ℕ → ℕ → ℕ → Claim → Claim
with_query p guard slot round known = guard_at p (slice_get p.guards guard) slot round known

-- the round is over; nothing needs to be known of one without a query
abbrev pub with_closing : Rules → Bool → ℕ → Claim → Claim
with_closing p asked round known = if asked then with_round p round known else known

abbrev pub with_test : Claim → Bool → Claim → Claim
with_test test side known = And known (if side then test else Not test)

abbrev pub with_all : List Claim → Claim → Claim
with_all [] known = known
with_all (c ∷ cs) known = with_all cs (And known c)

-- what is known at the end of the way, but for the round that is open there
abbrev pub known_along : Rules → OpRules → Way → Claim
known_along p op [] = with_all op.params True
known_along p op (Asks guard slot ∷ way) = with_query p guard slot (rounds_of way) (known_along p op way)
known_along p op (Puts parts ∷ way) = with_closing p (has_query way) (rounds_of way) (known_along p op way)
known_along p op (Frees ∷ way) = with_closing p (has_query way) (rounds_of way) (known_along p op way)
known_along p op (Tests test side ∷ way) = with_test test side (known_along p op way)

-- ---- what is asked there, and isn't so

-- the largest amount of such a cell, in absolute value
abbrev pub most_of : CellKind → ℕ
most_of Counter = MOST_AMOUNT
most_of Peak = MOST_TARGET
most_of Flag = 1

-- the amount is larger, or it is smaller than the least one
abbrev pub too_large : CellKind → Linear → Claim
too_large kind t =
    Or (at_most (constant_of (pos (most_of kind + 1))) t) (Le (sum_of t (constant_of (pos (most_of kind + 1)))))

-- the variable of a raised peak is the greater of the cell and the target
abbrev pub tie : ℕ → ℕ → Linear → Claim
tie round cell target =
    And (And (at_most (variable_of (round_variable round cell)) (variable_of (cell_variable cell))) (at_most target (variable_of (cell_variable cell))))
    (Or (at_most (variable_of (cell_variable cell)) (variable_of (round_variable round cell))) (at_most (variable_of (cell_variable cell)) target))

abbrev pub with_tie : ℕ → Part → Option CellKind → Claim → Claim
with_tie round part (Some Peak) known = And known (tie round part.cell part.amount)
with_tie round part (Some Counter) known = known
with_tie round part (Some Flag) known = known
with_tie round part None known = known

abbrev pub with_ties : List CellKind → ℕ → List Part → Claim → Claim
with_ties kinds round [] known = known
with_ties kinds round (part ∷ parts) known = with_ties kinds round parts (with_tie round part (slice_get kinds part.cell) known)

-- what is known in a round, and that what is asked isn't so
abbrev pub broken : Rules → OpRules → ℕ → Ending → Claim → Claim
broken p op round (Amount atom kind part) known = And known (too_large kind part.amount)
broken p op round (After parts) known =
    And (with_ties p.shape round parts known) (Not (named_claim (after_name p.shape parts round) p.invariant))
broken p op round (Gives value) known = And known (Not (named_claim (result_name value) op.result))

-- the formula of a place in a round, where this is known before the round
abbrev pub owed : Rules → OpRules → ℕ → Ending → Claim → Claim
owed p op round ending known = Not (broken p op round ending (with_round p round known))

abbrev pub obligation_at : Rules → OpRules → Site → Claim
obligation_at p op site = owed p op (rounds_of site.way) site.ending (known_along p op site.way)
