use Rattle.std.proofs.Common.{◌≡◌, ◌+◌, ◌≤◌, ◌^◌, ℕ, List, length, sym, subst, ap, ◌∙◌, arith}
use Rattle.std.specs.Prelude.{ℤ, unsigned_abs}
use Rattle.std.specs.List.{All}
use Rattle.carol_cert.specs.Steps.{Closes}
use Rattle.carol_difference.specs.declared.paths.Edge.{Edge}
use Rattle.carol_difference.specs.Edges.{IsAnswer, IsNegativeCycle, IsPotential, CannotBeMet}
use Rattle.carol_difference.specs.Rows.{claims_of}
use Rattle.carol_difference.specs.Evidence.{AreApart, GivesNumbers, sum_steps}
use Rattle.carol_difference.proofs.Table.{table_apart}
use Rattle.carol_difference.proofs.Models.{potentials_near, rows_met, cannot_be_true}
use Rattle.carol_difference.proofs.Sums.{cycle_closes}
use Rattle.carol_difference.proofs.decided.Goals as goal

pub valuation-requires-clause-apart : goal.valuation-requires-clause-apart
valuation-requires-clause-apart c =
    subst AreApart (sym c.deref-in-Potentials.ensures.value) (table_apart c.in_ok-graph.graph.numbers c.in_ok-graph.graph.variables.items c.in_ok-graph.ensures.table)

pub valuation-requires-clause-near : goal.valuation-requires-clause-near
valuation-requires-clause-near c =
    let length_is : c.len.result ≡ length c.in_ok-graph.graph.variables.items = c.len.ensures ∙ c.in_ok-graph.graph.variables.ok.0 in
    let few : c.len.result + 1 ≤ 2 ^ 30 + 1 = omega (arith, length_is, c.in_ok-graph.ensures.few, c.requires.count) in
    let answer = subst (IsAnswer (c.len.result + 1) c.deref.result.now) c.in-Potentials.is c.in_ok-values.ensures in
    let potential = subst (λ (edges : List Edge). IsPotential (c.len.result + 1) edges c.in-Potentials.values.items) c.deref.ensures.value answer in
    let near = potentials_near c.args.rows.now c.in_ok-graph.graph.numbers c.in_ok-graph.graph.variables.items c.in_ok-graph.graph.edges.items (c.len.result + 1) c.in-Potentials.values.items c.in_ok-graph.ensures c.requires.narrow few potential in
    subst (All (λ value. unsigned_abs value ≤ 2 ^ 123)) (sym c.deref-in-Potentials-2.ensures.value) near

pub returns-in-Potentials : goal.returns-in-Potentials
returns-in-Potentials c =
    let answer = subst (IsAnswer (c.len.result + 1) c.deref.result.now) c.in-Potentials.is c.in_ok-values.ensures in
    let potential = subst (λ (edges : List Edge). IsPotential (c.len.result + 1) edges c.in-Potentials.values.items) c.deref.ensures.value answer in
    let given = subst (λ (variables : List ℕ). GivesNumbers variables c.deref-in-Potentials-2.result.now (length variables) c.in_ok-valuation-in-Potentials.valuation) c.deref-in-Potentials.ensures.value c.in_ok-valuation-in-Potentials.ensures in
    let numbers = subst (λ (values : List ℤ). GivesNumbers c.in_ok-graph.graph.variables.items values (length c.in_ok-graph.graph.variables.items) c.in_ok-valuation-in-Potentials.valuation) c.deref-in-Potentials-2.ensures.value given in
    rows_met c.args.rows.now c.in_ok-graph.graph.numbers c.in_ok-graph.graph.variables.items c.in_ok-graph.graph.edges.items c.in-Potentials.values.items c.in_ok-valuation-in-Potentials.valuation c.in_ok-graph.ensures c.requires.differences c.requires.narrow potential.meets numbers

pub returns : goal.returns
returns c =
    let length_is : c.len.result ≡ length c.in_ok-graph.graph.variables.items = c.len.ensures ∙ c.in_ok-graph.graph.variables.ok.0 in
    let few : c.len.result + 1 ≤ 2 ^ 30 + 1 = omega (arith, length_is, c.in_ok-graph.ensures.few, c.requires.count) in
    let answer = subst (IsAnswer (c.len.result + 1) c.deref.result.now) c.in-Cycle.is c.in_ok-values.ensures in
    let cycle = subst (λ (edges : List Edge). IsNegativeCycle (c.len.result + 1) edges c.in-Cycle.numbers.items) c.deref.ensures.value answer.0 in
    let refuted = subst CannotBeMet c.deref.ensures.value answer.1 in
    let closes = cycle_closes c.args.rows.now c.in_ok-graph.graph.numbers c.in_ok-graph.graph.variables.items c.in_ok-graph.graph.edges.items (c.len.result + 1) c.in-Cycle.numbers.items c.in_ok-graph.ensures c.requires.narrow few cycle in
    let steps : c.in_ok-steps-in-Cycle.steps ≡ sum_steps c.in-Cycle.numbers.items = c.in_ok-steps-in-Cycle.ensures ∙ ap sum_steps c.deref-in-Cycle.ensures.value in
    (subst (Closes (claims_of c.args.rows.now)) (sym steps) closes, cannot_be_true c.args.rows.now c.in_ok-graph.graph.numbers c.in_ok-graph.graph.variables.items c.in_ok-graph.graph.edges.items c.in_ok-graph.ensures refuted)
