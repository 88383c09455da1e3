-- The walk goes on from each statement.
use Rattle.std.proofs.Common.{ℕ, ◌+◌, ◌*◌, ◌≤◌, ◌<◌, ◌≡◌, Bool, true, false, List, [], ◌∷◌, length, arith, sym, subst}
use Rattle.std.specs.Prelude.{max}
use Rattle.carol_formula.specs.Claim.{Claim, True, And}
use Rattle.carol_program.specs.declared.steps.Part.{Part}
use Rattle.carol_program.specs.Limits.{most_queries, most_statements}
use Rattle.carol_program.specs.Bodies.{Body, Query, Issue, Release, Branch, Return, last_number, queries_in, depth}
use Rattle.carol_program.specs.Rules.{Rules, OpRules}
use Rattle.carol_program.specs.Variables.{param_variables}
use Rattle.carol_program.specs.WellFormed.{setting_of, variables_in, AreRefinements, AreRules, IsFitBody, IsOpOver, RisesFrom, SlotsFrom}
use Rattle.carol_formula.specs.Size.{nodes_of}
use Rattle.carol_obligation.specs.Formed.{with_all, with_closing}
use Rattle.carol_obligation.specs.Budget.{reserve, cost, most_known, round_nodes}
use Rattle.carol_obligation.specs.Collected.{Point, behind_query, behind_closing, behind_test}
use Rattle.carol_obligation.specs.Ready.{HasRoom, IsReady}
use Rattle.carol_obligation.proofs.Sizes.{Grows, grows_and, light_claim, grows_query, grows_round, grows_test}

-- ---- statements' numbers

rises_lower : (low low' : ℕ) (b : Body) → low ≤ low' → RisesFrom low' b → RisesFrom low b
rises_lower low low' (Query number guard slot next) le h = (omega (arith, le, h.0), h.1)
rises_lower low low' (Issue number parts next) le h = (omega (arith, le, h.0), h.1)
rises_lower low low' (Release number next) le h = (omega (arith, le, h.0), h.1)
rises_lower low low' (Branch number test first second) le h = (omega (arith, le, h.0), h.1, h.2)
rises_lower low low' (Return number value) le h = omega (arith, le, h)

rises_last : (low : ℕ) (b : Body) → RisesFrom low b → low ≤ last_number b
rises_last low (Query number guard slot next) h = omega (arith, h.0, rises_last (number + 1) next h.1)
rises_last low (Issue number parts next) h = omega (arith, h.0, rises_last (number + 1) next h.1)
rises_last low (Release number next) h = omega (arith, h.0, rises_last (number + 1) next h.1)
rises_last low (Branch number test first second) h = omega (arith, h.0, rises_last (number + 1) first h.1, rises_last (last_number first + 1) second h.2)
rises_last low (Return number value) h = h

-- ---- what stands at a place

-- the round is one of an operation, and there is room for the formulas of the place
pub ready_room : (p : Rules) (at : Point) (b : Body) → IsReady p at b → HasRoom p at
ready_room p at b r = record {
  op = r.op;
  round = omega (arith, rises_last (at.round + 1) b r.rises, r.few_statements);
  light = r.light;
  few = omega (arith, r.few);
}

pub ready_slot : (p : Rules) (at : Point) (number guard slot : ℕ) (next : Body) → IsReady p at (Query number guard slot next) → slot < most_queries
ready_slot p at number guard slot next r = omega (arith, r.in_order.0, r.few_queries)

reserve_most : (b : Bool) → reserve b ≤ round_nodes
reserve_most true = omega arith
reserve_most false = omega arith

-- ---- behind each statement

pub ready_query : (p : Rules) (at : Point) (number guard slot : ℕ) (next : Body) → AreRules p → IsReady p at (Query number guard slot next) → IsReady p (behind_query p at guard slot) next
ready_query p at number guard slot next rules r =
    let room = ready_room p at (Query number guard slot next) r in
    let grows = grows_query p guard slot at.round at.known rules r.fit.0 (ready_slot p at number guard slot next r) room.round in
    record {
      slots = slot ∷ r.slots;
      slot = r.slot + 1;
      op = r.op;
      fit = r.fit.1;
      rises = rises_lower (at.round + 1) (number + 1) next (omega (arith, r.rises.0)) r.rises.1;
      few_statements = r.few_statements;
      in_order = r.in_order.1;
      few_queries = omega (arith, r.few_queries);
      light = grows.light r.light;
      few = omega (arith, grows.few, r.few);
    }

closing_grows : (p : Rules) (asked : Bool) (round : ℕ) (known : Claim) → AreRules p → round ≤ most_statements → Grows known (reserve asked) (with_closing p asked round known)
closing_grows p true round known rules le = grows_round p round known rules le
closing_grows p false round known rules le = record { light = λ l. l; few = omega arith }

pub ready_closing : (p : Rules) (at : Point) (number : ℕ) (next : Body) (slots : List ℕ) (slot : ℕ) → AreRules p → HasRoom p at → IsFitBody (setting_of p.shape (length p.guards) at.op) slots next → (at.round + 1 ≤ number) × RisesFrom (number + 1) next → last_number next ≤ most_statements → SlotsFrom slot next → slot + queries_in next ≤ most_queries → nodes_of at.known + reserve at.asked + cost next ≤ most_known → IsReady p (behind_closing p at) next
ready_closing p at number next slots slot rules room fit rises last order queries few =
    let grows = closing_grows p at.asked at.round at.known rules room.round in
    record {
      slots = slots;
      slot = slot;
      op = room.op;
      fit = fit;
      rises = rises_lower (at.round + 1 + 1) (number + 1) next (omega (arith, rises.0)) rises.1;
      few_statements = last;
      in_order = order;
      few_queries = queries;
      light = grows.light room.light;
      few = omega (arith, grows.few, few);
    }

pub ready_issue : (p : Rules) (at : Point) (number : ℕ) (parts : List Part) (next : Body) → AreRules p → IsReady p at (Issue number parts next) → IsReady p (behind_closing p at) next
ready_issue p at number parts next rules r = ready_closing p at number next r.slots r.slot rules (ready_room p at (Issue number parts next) r) r.fit.1 r.rises r.few_statements r.in_order r.few_queries r.few

pub ready_release : (p : Rules) (at : Point) (number : ℕ) (next : Body) → AreRules p → IsReady p at (Release number next) → IsReady p (behind_closing p at) next
ready_release p at number next rules r = ready_closing p at number next r.slots r.slot rules (ready_room p at (Release number next) r) r.fit r.rises r.few_statements r.in_order r.few_queries r.few

max_left : (m n : ℕ) → m ≤ max m n
max_left m n = omega arith

max_right : (m n : ℕ) → n ≤ max m n
max_right m n = omega arith

pub ready_first : (p : Rules) (at : Point) (number : ℕ) (test : Claim) (first second : Body) → IsReady p at (Branch number test first second) → IsReady p (behind_test at test true) first
ready_first p at number test first second r =
    let grows = grows_test test true at.known (variables_in (setting_of p.shape (length p.guards) at.op) r.slots) r.fit.0 in
    record {
      slots = r.slots;
      slot = r.slot;
      op = r.op;
      fit = r.fit.1;
      rises = rises_lower (at.round + 1) (number + 1) first (omega (arith, r.rises.0)) r.rises.1;
      few_statements = omega (arith, rises_last (last_number first + 1) second r.rises.2, r.few_statements);
      in_order = r.in_order.0;
      few_queries = omega (arith, r.few_queries);
      light = grows.light r.light;
      few = omega (arith, grows.few, r.few, max_left (cost first) (cost second));
    }

pub ready_second : (p : Rules) (at : Point) (number : ℕ) (test : Claim) (first second : Body) → IsReady p at (Branch number test first second) → IsReady p (behind_test at test false) second
ready_second p at number test first second r =
    let grows = grows_test test false at.known (variables_in (setting_of p.shape (length p.guards) at.op) r.slots) r.fit.0 in
    record {
      slots = r.slots;
      slot = r.slot + queries_in first;
      op = r.op;
      fit = r.fit.2;
      rises = rises_lower (at.round + 1) (last_number first + 1) second (omega (arith, rises_last (number + 1) first r.rises.1, r.rises.0)) r.rises.2;
      few_statements = r.few_statements;
      in_order = r.in_order.1;
      few_queries = omega (arith, r.few_queries);
      light = grows.light r.light;
      few = omega (arith, grows.few, r.few, max_right (cost first) (cost second));
    }

-- ---- at the start

pub grows_all : (cs : List Claim) (before : ℕ) (known : Claim) → AreRefinements before cs → Grows known (257 * length cs) (with_all cs known)
grows_all [] before known h = record { light = λ l. l; few = omega arith }
grows_all (c ∷ cs) before known h =
    let first = grows_and known c 256 (light_claim (param_variables (before + 1)) c h.0.terms) h.0.few in
    let more = grows_all cs (before + 1) (And known c) h.1 in
    record { light = λ l. more.light (first.light l); few = omega (arith, first.few, more.few) }

max_of : (m n k : ℕ) → m ≤ k → n ≤ k → max m n ≤ k
max_of m n k h g = omega arith

cost_few : (b : Body) → cost b ≤ (642 * queries_in b) + (258 * depth b)
cost_few (Query number guard slot next) = omega (arith, cost_few next)
cost_few (Issue number parts next) = cost_few next
cost_few (Release number next) = cost_few next
cost_few (Branch number test first second) = omega (arith, cost_few first, cost_few second, max_left (depth first) (depth second), max_right (depth first) (depth second), max_of (cost first) (cost second) ((642 * (queries_in first + queries_in second)) + (258 * max (depth first) (depth second))) (omega (arith, cost_few first, max_left (depth first) (depth second))) (omega (arith, cost_few second, max_right (depth first) (depth second))))
cost_few (Return number value) = omega arith

few_known : (nodes_known cost_body params queries deep : ℕ) → nodes_known ≤ 1 + 257 * params → cost_body ≤ (642 * queries) + (258 * deep) → params ≤ 16 → queries ≤ 8 → deep ≤ 64 → nodes_known + 0 + cost_body ≤ most_known
few_known nodes_known cost_body params queries deep h g k l m = omega arith

pub ready_start : (p : Rules) (op : OpRules) (number : ℕ) (known : Claim) → IsOpOver p.shape (length p.guards) op → known ≡ with_all op.params True → IsReady p (record { op = op; number = number; known = known; round = 0; asked = false }) op.body
ready_start p op number known over e = subst (λ k. IsReady p (record { op = op; number = number; known = k; round = 0; asked = false }) op.body) (sym e) (record {
  slots = [];
  slot = 0;
  op = over;
  fit = over.body;
  rises = over.numbers;
  few_statements = over.few_statements;
  in_order = over.slots;
  few_queries = omega (arith, over.few_queries);
  light = grows.light tt;
  few = few_known (nodes_of (with_all op.params True)) (cost op.body) (length op.params) (queries_in op.body) (depth op.body) grows.few (cost_few op.body) over.few_params over.few_queries over.shallow;
})
  where
    grows : Grows True (257 * length op.params) (with_all op.params True)
    grows = grows_all op.params 0 True over.params
