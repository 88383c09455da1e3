-- What follows a statement of a body stands behind its trail.
use Rattle.std.proofs.Common.{◌≡◌, ℕ, zero, suc, ◌+◌, ◌≤◌, ◌<◌, eqb, Bool, true, false, cond, List, [], ◌∷◌, ◌++◌, subst, sym, ap, ◌∙◌, arith}
use Rattle.std.specs.Prelude.{Option, Some, None, slice_get, map, option_map}
use Rattle.std.specs.List.{AllByRecursion}
use Rattle.std.proofs.lemmas.List.{length_push}
use Rattle.std.proofs.lemmas.Option.{slice_get-map}
use Rattle.carol_store.specs.declared.shape.CellKind.{CellKind}
use Rattle.carol_formula.specs.Claim.{Claim}
use Rattle.carol_program.specs.declared.steps.Part.{Part}
use Rattle.carol_program.specs.declared.program.Op.{Op}
use Rattle.carol_program.specs.Bodies.{Body, Query, Issue, Release, Branch, Return, last_number, queries_in}
use Rattle.carol_program.specs.Limits.{most_queries}
use Rattle.carol_program.specs.Rules.{OpRules, op_rules}
use Rattle.carol_program.specs.WellFormed.{IsOpOver, RisesFrom}
use Rattle.carol_accept.specs.declared.trail.Asked.{Asked}
use Rattle.carol_accept.specs.declared.trail.Trail.{Trail}
use Rattle.carol_accept.specs.Fitting.{IsShort, IsShortTrail, StandsBehind}
use Rattle.carol_accept.specs.Trails.{behind_closing, behind_query, or_else, start, trail_to}

-- one more
all_push : {X : Type 0} (P : X → Type 0) (xs : List X) (x : X) → AllByRecursion P xs → P x → AllByRecursion P (xs ++ x ∷ [])
all_push P [] x h p = (p, tt)
all_push P (y ∷ xs) x h p = (h.0, all_push P xs x h.1 p)

-- the last number isn't below the first
pub rises_last : (low : ℕ) (b : Body) → RisesFrom low b → low ≤ last_number b
rises_last low (Query number guard slot next) h = let e = rises_last (number + 1) next h.1 in let f = h.0 in omega arith
rises_last low (Issue number parts next) h = let e = rises_last (number + 1) next h.1 in let f = h.0 in omega arith
rises_last low (Release number next) h = let e = rises_last (number + 1) next h.1 in let f = h.0 in omega arith
rises_last low (Branch number test first second) h =
    let f = h.0 in let e = rises_last (number + 1) first h.1 in let g = rises_last (last_number first + 1) second h.2 in omega arith
rises_last low (Return number value) h = h

-- there are not too many rounds
pub few_rounds : (t : Trail) (b : Body) → StandsBehind t b → t.rounds + 1 < 4294967295
few_rounds t b s =
    let last = rises_last s.low b s.numbers in let rounds = s.rounds in let most = s.few_statements in omega arith

-- ---- one statement on

pub stands_query : (t : Trail) (number guard slot : ℕ) (next : Body) → StandsBehind t (Query number guard slot next) → StandsBehind (behind_query slot t) next
stands_query t number guard slot next s =
    let rises = s.numbers.0 in let rounds = s.rounds in let is = s.in_order.0 in let few = s.few_queries in let queries = s.queries in let more = length_push t.asked (record { slot = slot; round = t.rounds }) in
    record {
      low = number + 1;
      slot = s.slot + 1;
      numbers = s.numbers.1;
      few_statements = s.few_statements;
      rounds = omega arith;
      in_order = s.in_order.1;
      few_queries = omega arith;
      queries = omega arith;
      slots = all_push (λ (a : Asked). a.slot < most_queries) t.asked (record { slot = slot; round = t.rounds }) s.slots (omega arith);
    }

pub stands_issue : (t : Trail) (number : ℕ) (parts : List Part) (next : Body) → StandsBehind t (Issue number parts next) → StandsBehind (behind_closing t) next
stands_issue t number parts next s =
    let rises = s.numbers.0 in let rounds = s.rounds in
    record {
      low = number + 1;
      slot = s.slot;
      numbers = s.numbers.1;
      few_statements = s.few_statements;
      rounds = omega arith;
      in_order = s.in_order;
      few_queries = s.few_queries;
      queries = s.queries;
      slots = s.slots;
    }

pub stands_release : (t : Trail) (number : ℕ) (next : Body) → StandsBehind t (Release number next) → StandsBehind (behind_closing t) next
stands_release t number next s =
    let rises = s.numbers.0 in let rounds = s.rounds in
    record {
      low = number + 1;
      slot = s.slot;
      numbers = s.numbers.1;
      few_statements = s.few_statements;
      rounds = omega arith;
      in_order = s.in_order;
      few_queries = s.few_queries;
      queries = s.queries;
      slots = s.slots;
    }

pub stands_first : (t : Trail) (number : ℕ) (test : Claim) (first second : Body) → StandsBehind t (Branch number test first second) → StandsBehind t first
stands_first t number test first second s =
    let rises = s.numbers.0 in let rounds = s.rounds in let last = rises_last (last_number first + 1) second s.numbers.2 in let most = s.few_statements in let few = s.few_queries in
    record {
      low = number + 1;
      slot = s.slot;
      numbers = s.numbers.1;
      few_statements = omega arith;
      rounds = omega arith;
      in_order = s.in_order.0;
      few_queries = omega arith;
      queries = s.queries;
      slots = s.slots;
    }

pub stands_second : (t : Trail) (number : ℕ) (test : Claim) (first second : Body) → StandsBehind t (Branch number test first second) → StandsBehind t second
stands_second t number test first second s =
    let rises = s.numbers.0 in let rounds = s.rounds in let last = rises_last (number + 1) first s.numbers.1 in let few = s.few_queries in let queries = s.queries in
    record {
      low = last_number first + 1;
      slot = s.slot + queries_in first;
      numbers = s.numbers.2;
      few_statements = s.few_statements;
      rounds = omega arith;
      in_order = s.in_order.1;
      few_queries = omega arith;
      queries = omega arith;
      slots = s.slots;
    }

-- ---- the body of an operation

pub stands_start : (kinds : List CellKind) (guards : ℕ) (op : OpRules) → IsOpOver kinds guards op → StandsBehind start op.body
stands_start kinds guards op over =
    let few = over.few_queries in
    record {
      low = 1;
      slot = 0;
      numbers = over.numbers;
      few_statements = over.few_statements;
      rounds = omega arith;
      in_order = over.slots;
      few_queries = omega arith;
      queries = omega arith;
      slots = tt;
    }

-- one of the operations
pub op_at : (kinds : List CellKind) (guards : ℕ) (ops : List OpRules) (i : ℕ) (op : OpRules) → AllByRecursion (IsOpOver kinds guards) ops → slice_get ops i ≡ Some op → IsOpOver kinds guards op
op_at kinds guards [] i op h e = absurd (nothing e)
  where
    nothing : None ≡ Some op → ⊥
    nothing q = cc
op_at kinds guards (o ∷ ops) zero op h e = subst (IsOpOver kinds guards) (first e) h.0
  where
    first : Some o ≡ Some op → o ≡ op
    first q = cc
op_at kinds guards (o ∷ ops) (suc i) op h e = op_at kinds guards ops i op h.1 e

-- what is looked up among a program's operations
pub rules_at : (ops : List Op) (i : ℕ) (o : Option Op) → o ≡ slice_get ops i → slice_get (map op_rules ops) i ≡ option_map op_rules o
rules_at ops i o e = slice_get-map op_rules ops i ∙ ap (option_map op_rules) (sym e)

-- ---- the trail that is found

short_now : (t : Trail) (b : Body) → StandsBehind t b → IsShort t
short_now t b s =
    let last = rises_last s.low b s.numbers in let rounds = s.rounds in let most = s.few_statements in
    record { slots = s.slots; rounds = omega arith }

either_short : (b : Bool) (t : Trail) (other : Option Trail) → IsShort t → IsShortTrail other → IsShortTrail (cond b (Some t) other)
either_short true t other h k = h
either_short false t other h k = k

else_short : (one other : Option Trail) → IsShortTrail one → IsShortTrail other → IsShortTrail (or_else one other)
else_short None other h k = k
else_short (Some t) other h k = h

-- it is short
pub short_trail : (wanted : ℕ) (b : Body) (t : Trail) → StandsBehind t b → IsShortTrail (trail_to wanted b t)
short_trail wanted (Query number guard slot next) t s =
    either_short (eqb number wanted) t (trail_to wanted next (behind_query slot t)) (short_now t (Query number guard slot next) s) (short_trail wanted next (behind_query slot t) (stands_query t number guard slot next s))
short_trail wanted (Issue number parts next) t s =
    either_short (eqb number wanted) t (trail_to wanted next (behind_closing t)) (short_now t (Issue number parts next) s) (short_trail wanted next (behind_closing t) (stands_issue t number parts next s))
short_trail wanted (Release number next) t s =
    either_short (eqb number wanted) t (trail_to wanted next (behind_closing t)) (short_now t (Release number next) s) (short_trail wanted next (behind_closing t) (stands_release t number next s))
short_trail wanted (Branch number test first second) t s =
    either_short (eqb number wanted) t (or_else (trail_to wanted first t) (trail_to wanted second t)) (short_now t (Branch number test first second) s)
    (else_short (trail_to wanted first t) (trail_to wanted second t) (short_trail wanted first t (stands_first t number test first second s)) (short_trail wanted second t (stands_second t number test first second s)))
short_trail wanted (Return number value) t s =
    either_short (eqb number wanted) t None (short_now t (Return number value) s) tt
