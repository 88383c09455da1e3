-- What stays so in the loops of the walk.
use Rattle.std.proofs.Common.{ℕ, ◌+◌, ◌≤◌, ◌≡◌, true, false, List, length, ap, ◌∙◌, sym, subst}
use Rattle.std.specs.Prelude.{Result, Ok, Err, OnOk}
use Rattle.carol_store.specs.declared.shape.CellKind.{CellKind}
use Rattle.carol_formula.specs.Claim.{Claim, And, Not}
use Rattle.carol_formula.specs.Linear.{Linear}
use Rattle.carol_formula.specs.Tree.{claim_of}
use Rattle.carol_formula.specs.declared.formula.Formula.{Formula}
use Rattle.carol_program.specs.Bodies.{Body, Query, Issue, Release, Branch, Return, body_of}
use Rattle.carol_program.specs.Limits.{most_cells}
use Rattle.carol_program.specs.declared.steps.Step.{Step, size-Step}
use Rattle.carol_program.specs.declared.places.Place.{Place}
use Rattle.carol_program.specs.Rules.{Rules, OpRules}
use Rattle.carol_formula.specs.Named.{named_claim}
use Rattle.carol_obligation.specs.Sites.{After}
use Rattle.carol_program.specs.declared.steps.Part.{Part}
use Rattle.carol_obligation.specs.Formed.{after_name, owed, with_round, with_ties}
use Rattle.carol_obligation.specs.Budget.{AreLightParts}
use Rattle.carol_obligation.specs.Collected.{Point, amounts_owed, issue_owed, collected, behind_query, behind_closing, behind_test}
use Rattle.carol_obligation.specs.Ready.{IsReady}
use Rattle.carol_obligation.specs.Passing.{Passes}
use Rattle.carol_obligation.proofs.Gathering.{Gathered, gathered_more, gathered_end}
use Rattle.carol_obligation.proofs.Steps.{ready_query, ready_release, ready_issue, ready_second}
use Rattle.carol_program.specs.WellFormed.{AreRules}

-- the ties from here on are those that are left
pub record Tying (kinds : List CellKind) (round : ℕ) (left : List Part) (known : Formula) (parts : List Part) (start : Formula) : Type 0 where
  pub same : with_ties kinds round left (claim_of known) ≡ with_ties kinds round parts (claim_of start)
  pub light : AreLightParts left

-- of the parts' amounts those from here on are left
pub record Amounting {S : Type 0} (holds : S → List (Place × Claim) → Type 0) (old now : S) (p : Rules) (at : Point) (number atom : ℕ) (left parts : List Part) : Type 0 where
  pub gathered : Gathered holds old now (amounts_owed p at number atom left) (amounts_owed p at number 1 parts)
  pub few : atom + length left ≤ most_cells + 1
  pub light : AreLightParts left

-- the formula of an invariant's place, where the kinds are those of the shape
pub after_owed : (p : Rules) (op : OpRules) (round : ℕ) (parts : List Part) (kinds : List CellKind) (known : Claim) → kinds ≡ p.shape → (f : Claim) → f ≡ Not (And (with_ties kinds round parts (with_round p round known)) (Not (named_claim (after_name kinds parts round) p.invariant))) → f ≡ owed p op round (After parts) known
after_owed p op round parts kinds known e f h = h ∙ ap (λ ks. Not (And (with_ties ks round parts (with_round p round known)) (Not (named_claim (after_name ks parts round) p.invariant)))) e

-- ---- one statement on

-- what is left from a statement on, and that the walk can go on there
pub record Left {S : Type 0} (holds : S → List (Place × Claim) → Type 0) (old now : S) (p : Rules) (at : Point) (left : Body) (all : List (Place × Claim)) : Type 0 where
  pub gathered : Gathered holds old now (collected p at left) all
  pub ready : IsReady p at left

-- the loop along a body's statements
pub record Walking {S : Type 0} (holds : S → List (Place × Claim) → Type 0) (old now : S) (p : Rules) (at : Point) (left : Step) (start : Point) (whole : Step) : Type 0 where
  pub here : Left holds old now p at (body_of left) (collected p start (body_of whole))
  pub part : size-Step left ≤ size-Step whole

pub left_query : {S : Type 0} (holds : S → List (Place × Claim) → Type 0) (old now : S) (p : Rules) (at new : Point) (all : List (Place × Claim)) (b : Body) (number guard slot : ℕ) (next : Body) → AreRules p → b ≡ Query number guard slot next → new ≡ behind_query p at guard slot → Left holds old now p at b all → Left holds old now p new next all
left_query holds old now p at new all b number guard slot next rules is e l =
    let here = subst (λ x. Left holds old now p at x all) is l in
    subst (λ x. Left holds old now p x next all) (sym e) (record { gathered = here.gathered; ready = ready_query p at number guard slot next rules here.ready })

pub left_release : {S : Type 0} (holds : S → List (Place × Claim) → Type 0) (old now : S) (p : Rules) (at new : Point) (all : List (Place × Claim)) (b : Body) (number : ℕ) (next : Body) → AreRules p → b ≡ Release number next → new ≡ behind_closing p at → Left holds old now p at b all → Left holds old now p new next all
left_release holds old now p at new all b number next rules is e l =
    let here = subst (λ x. Left holds old now p at x all) is l in
    subst (λ x. Left holds old now p x next all) (sym e) (record { gathered = here.gathered; ready = ready_release p at number next rules here.ready })

pub left_issue : {S : Type 0} (holds : S → List (Place × Claim) → Type 0) (old now then : S) (p : Rules) (at new : Point) (all : List (Place × Claim)) (b : Body) (number : ℕ) (parts : List Part) (next : Body) → AreRules p → b ≡ Issue number parts next → new ≡ behind_closing p at → Left holds old now p at b all → Passes holds now then (issue_owed p at number parts) → Left holds old then p new next all
left_issue holds old now then p at new all b number parts next rules is e l h =
    let here = subst (λ x. Left holds old now p at x all) is l in
    subst (λ x. Left holds old then p x next all) (sym e) (record {
      gathered = gathered_more holds old now then (issue_owed p at number parts) (collected p (behind_closing p at) next) all here.gathered h;
      ready = ready_issue p at number parts next rules here.ready;
    })

pub left_branch : {S : Type 0} (holds : S → List (Place × Claim) → Type 0) (old now then : S) (p : Rules) (at new : Point) (all : List (Place × Claim)) (b : Body) (number : ℕ) (test : Claim) (first second : Body) → b ≡ Branch number test first second → new ≡ behind_test at test false → Left holds old now p at b all → Passes holds now then (collected p (behind_test at test true) first) → Left holds old then p new second all
left_branch holds old now then p at new all b number test first second is e l h =
    let here = subst (λ x. Left holds old now p at x all) is l in
    subst (λ x. Left holds old then p x second all) (sym e) (record {
      gathered = gathered_more holds old now then (collected p (behind_test at test true) first) (collected p (behind_test at test false) second) all here.gathered h;
      ready = ready_second p at number test first second here.ready;
    })

pub left_return : {S A E : Type 0} (holds : S → List (Place × Claim) → Type 0) (old now then : S) (r : Result A E) (p : Rules) (at : Point) (all : List (Place × Claim)) (b : Body) (number : ℕ) (value : Linear) → b ≡ Return number value → Left holds old now p at b all → OnOk r (Passes holds now then (collected p at (Return number value))) → OnOk r (Passes holds old then all)
left_return holds old now then (Ok a) p at all b number value is l h =
    let here = subst (λ x. Left holds old now p at x all) is l in
    gathered_end holds old now then (collected p at (Return number value)) all here.gathered h
left_return holds old now then (Err e) p at all b number value is l h = tt
