-- How many marks a body may leave: no more queries than it has, and no more marks than statements.
use Rattle.std.proofs.Common.{◌≡◌, ℕ, ◌+◌, ◌≤◌, ◌<◌, Bool, true, false, List, [], ◌∷◌, ◌++◌, length, length-append, refl, ap, arith}
use Rattle.std.specs.Prelude.{ℤ, MatchBool}
use Rattle.carol_store.specs.declared.shape.CellKind.{CellKind}
use Rattle.carol_store.specs.Kinds.{CellValue}
use Rattle.carol_formula.specs.Claim.{Claim, truth}
use Rattle.carol_program.specs.Bodies.{Body, Query, Issue, Release, Branch, Return, last_number, queries_in}
use Rattle.carol_program.specs.Limits.{most_queries, most_statements}
use Rattle.carol_program.specs.Rules.{Rules}
use Rattle.carol_program.specs.Variables.{number_of_args}
use Rattle.carol_program.specs.WellFormed.{AreRules, IsOpOver, RisesFrom}
use Rattle.carol_reading.specs.Marks.{Mark, Asked, Issued, Released, Returned, queried}
use Rattle.carol_reading.specs.Readings.{Reads, with_query}
use Rattle.carol_history.proofs.Actors.{at_place}
use Rattle.carol_machine.specs.Feeds.{MayFollow}
use Rattle.carol_machine.specs.States.{SessionState}

-- a body's last statement has no lower number than its first
rises_last : (low : ℕ) (body : Body) → RisesFrom low body → low ≤ last_number body
rises_last low (Query number guard slot next) h = omega (arith, h.0, rises_last (number + 1) next h.1)
rises_last low (Issue number parts next) h = omega (arith, h.0, rises_last (number + 1) next h.1)
rises_last low (Release number next) h = omega (arith, h.0, rises_last (number + 1) next h.1)
rises_last low (Branch number test first second) h =
    omega (arith, h.0, rises_last (number + 1) first h.1, rises_last (last_number first + 1) second h.2)
rises_last low (Return number value) h = h

-- the marks are few enough for a body whose statements are numbered from here on
record AreFew (body : Body) (low : ℕ) (before : List Mark) : Type 0 where
  queries : length (queried before) ≤ queries_in body
  statements : low + length before ≤ last_number body + 1

on_side : {A B C : Type 0} (t : Bool) → MatchBool t A B → (A → C) → (B → C) → C
on_side true h f g = f h
on_side false h f g = g h

in_first : (number : ℕ) (test : Claim) (first second : Body) (low : ℕ) (before : List Mark) → RisesFrom low (Branch number test first second) → AreFew first (number + 1) before → AreFew (Branch number test first second) low before
in_first number test first second low before h rest = record {
  queries = omega (arith, rest.queries);
  statements = omega (arith, h.0, rest.statements, rises_last (last_number first + 1) second h.2);
}

in_second : (number : ℕ) (test : Claim) (first second : Body) (low : ℕ) (before : List Mark) → RisesFrom low (Branch number test first second) → AreFew second (last_number first + 1) before → AreFew (Branch number test first second) low before
in_second number test first second low before h rest = record {
  queries = omega (arith, rest.queries);
  statements = omega (arith, h.0, rest.statements, rises_last (number + 1) first h.1);
}

few : (kinds : List CellKind) (body : Body) (f : ℕ → ℤ) (low : ℕ) (before : List Mark) → RisesFrom low body → Reads kinds body f before → AreFew body low before
few kinds body f low [] h r = record { queries = omega arith; statements = omega (arith, rises_last low body h) }
few kinds (Query number guard slot next) f low (Asked g x ∷ before) h r =
    let rest = few kinds next (with_query slot x f) (number + 1) before h.1 r.2
    in record { queries = omega (arith, rest.queries); statements = omega (arith, h.0, rest.statements) }
few kinds (Query number guard slot next) f low (Issued e ∷ before) h r = absurd r
few kinds (Query number guard slot next) f low (Released ∷ before) h r = absurd r
few kinds (Query number guard slot next) f low (Returned v ∷ before) h r = absurd r
few kinds (Issue number parts next) f low (Asked g x ∷ before) h r = absurd r
few kinds (Issue number parts next) f low (Issued e ∷ before) h r =
    let rest = few kinds next f (number + 1) before h.1 r.1
    in record { queries = rest.queries; statements = omega (arith, h.0, rest.statements) }
few kinds (Issue number parts next) f low (Released ∷ before) h r = absurd r
few kinds (Issue number parts next) f low (Returned v ∷ before) h r = absurd r
few kinds (Release number next) f low (Asked g x ∷ before) h r = absurd r
few kinds (Release number next) f low (Issued e ∷ before) h r = absurd r
few kinds (Release number next) f low (Released ∷ before) h r =
    let rest = few kinds next f (number + 1) before h.1 r
    in record { queries = rest.queries; statements = omega (arith, h.0, rest.statements) }
few kinds (Release number next) f low (Returned v ∷ before) h r = absurd r
few kinds (Branch number test first second) f low (m ∷ before) h r =
    on_side (truth test f) r
    (λ s. in_first number test first second low (m ∷ before) h (few kinds first f (number + 1) (m ∷ before) h.1 s))
    (λ s. in_second number test first second low (m ∷ before) h (few kinds second f (last_number first + 1) (m ∷ before) h.2 s))
few kinds (Return number value) f low (Asked g x ∷ before) h r = absurd r
few kinds (Return number value) f low (Issued e ∷ before) h r = absurd r
few kinds (Return number value) f low (Released ∷ before) h r = absurd r
few kinds (Return number value) f low (Returned v ∷ []) h r = record { queries = omega arith; statements = omega (arith, h) }
few kinds (Return number value) f low (Returned v ∷ m ∷ before) h r = absurd r

-- ---- where one more mark may follow

pub queried-append : (before later : List Mark) → queried (before ++ later) ≡ queried before ++ queried later
queried-append [] later = refl
queried-append (Asked g x ∷ before) later = ap (λ (xs : List (List CellValue)). x ∷ xs) (queried-append before later)
queried-append (Issued e ∷ before) later = queried-append before later
queried-append (Released ∷ before) later = queried-append before later
queried-append (Returned v ∷ before) later = queried-append before later

module _ (p : Rules) (rules : AreRules p) (m : SessionState) (mark : Mark) (may : MayFollow p m mark) where
  op_over : IsOpOver p.shape (length p.guards) may.op
  op_over = at_place (IsOpOver p.shape (length p.guards)) p.ops may.command.op may.op rules.ops may.found

  all_few : AreFew may.op.body 1 (may.before ++ mark ∷ [])
  all_few = few p.shape may.op.body (number_of_args may.command.args) 1 (may.before ++ mark ∷ []) op_over.numbers may.leaves

  -- there is room to count it
  pub room_to_count : m.walk.done < most_statements
  room_to_count = omega (arith, all_few.statements, op_over.few_statements, length-append may.before (mark ∷ []), may.brings.done)

  -- and for its store
  pub room_to_ask : length (queried (mark ∷ [])) ≡ 1 → length m.walk.stores < most_queries
  room_to_ask one = omega (arith, one, all_few.queries, op_over.few_queries, ap length (queried-append may.before (mark ∷ [])), length-append (queried may.before) (queried (mark ∷ [])), ap length may.brings.stores)
