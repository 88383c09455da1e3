-- The search for a statement along a body.
use Rattle.std.proofs.Common.{◌≡◌, ℕ, ◌≤◌, cond, List, ap, sym, subst, ◌∙◌}
use Rattle.std.specs.Prelude.{Option, Some, None}
use Rattle.std.proofs.lemmas.Bool.{eq-eqb, ne_eqb}
use Rattle.carol_formula.specs.Claim.{Claim}
use Rattle.carol_formula.specs.Linear.{Linear}
use Rattle.carol_program.specs.declared.steps.Part.{Part}
use Rattle.carol_program.specs.declared.steps.Step.{Step, size-Step}
use Rattle.carol_program.specs.Bodies.{Body, Query, Issue, Release, Branch, Return, body_of}
use Rattle.carol_accept.specs.declared.trail.Trail.{Trail}
use Rattle.carol_accept.specs.Fitting.{StandsBehind}
use Rattle.carol_accept.specs.Trails.{behind_closing, behind_query, number_of, or_else, trail_to}
use Rattle.carol_accept.proofs.Standing.{stands_query, stands_issue, stands_release, stands_second}

-- the search from here on finds what is to be found
pub record Left (wanted : ℕ) (t : Trail) (left : Body) (all : Option Trail) : Type 0 where
  pub same : trail_to wanted left t ≡ all
  pub stands : StandsBehind t left

-- the loop along a body's statements
pub record Going (wanted : ℕ) (t : Trail) (left : Step) (start : Trail) (whole : Step) : Type 0 where
  pub here : Left wanted t (body_of left) (trail_to wanted (body_of whole) start)
  pub part : size-Step left ≤ size-Step whole

-- the first statement is the wanted one
pub found_first : (wanted : ℕ) (t : Trail) (b : Body) → number_of b ≡ wanted → trail_to wanted b t ≡ Some t
found_first wanted t (Query number guard slot next) e = ap (λ x. cond x (Some t) (trail_to wanted next (behind_query slot t))) (eq-eqb number wanted e)
found_first wanted t (Issue number parts next) e = ap (λ x. cond x (Some t) (trail_to wanted next (behind_closing t))) (eq-eqb number wanted e)
found_first wanted t (Release number next) e = ap (λ x. cond x (Some t) (trail_to wanted next (behind_closing t))) (eq-eqb number wanted e)
found_first wanted t (Branch number test first second) e = ap (λ x. cond x (Some t) (or_else (trail_to wanted first t) (trail_to wanted second t))) (eq-eqb number wanted e)
found_first wanted t (Return number value) e = ap (λ x. cond x (Some t) None) (eq-eqb number wanted e)

pub found_here : (wanted n : ℕ) (t : Trail) (b : Body) (all : Option Trail) → n ≡ number_of b → n ≡ wanted → Left wanted t b all → Some t ≡ all
found_here wanted n t b all is e l = sym (found_first wanted t b (sym is ∙ e)) ∙ l.same

-- ---- one statement on

pub left_query : (wanted n : ℕ) (t new : Trail) (all : Option Trail) (b : Body) (number guard slot : ℕ) (next : Body) → b ≡ Query number guard slot next → n ≡ number_of b → (n ≡ wanted → ⊥) → new ≡ behind_query slot t → Left wanted t b all → Left wanted new next all
left_query wanted n t new all b number guard slot next is at ne e l =
    let here = subst (λ x. Left wanted t x all) is l in
    let other = ne_eqb number wanted (λ q. ne (at ∙ ap number_of is ∙ q)) in
    subst (λ x. Left wanted x next all) (sym e)
    (record { same = sym (ap (λ x. cond x (Some t) (trail_to wanted next (behind_query slot t))) other) ∙ here.same; stands = stands_query t number guard slot next here.stands })

pub left_issue : (wanted n : ℕ) (t new : Trail) (all : Option Trail) (b : Body) (number : ℕ) (parts : List Part) (next : Body) → b ≡ Issue number parts next → n ≡ number_of b → (n ≡ wanted → ⊥) → new ≡ behind_closing t → Left wanted t b all → Left wanted new next all
left_issue wanted n t new all b number parts next is at ne e l =
    let here = subst (λ x. Left wanted t x all) is l in
    let other = ne_eqb number wanted (λ q. ne (at ∙ ap number_of is ∙ q)) in
    subst (λ x. Left wanted x next all) (sym e)
    (record { same = sym (ap (λ x. cond x (Some t) (trail_to wanted next (behind_closing t))) other) ∙ here.same; stands = stands_issue t number parts next here.stands })

pub left_release : (wanted n : ℕ) (t new : Trail) (all : Option Trail) (b : Body) (number : ℕ) (next : Body) → b ≡ Release number next → n ≡ number_of b → (n ≡ wanted → ⊥) → new ≡ behind_closing t → Left wanted t b all → Left wanted new next all
left_release wanted n t new all b number next is at ne e l =
    let here = subst (λ x. Left wanted t x all) is l in
    let other = ne_eqb number wanted (λ q. ne (at ∙ ap number_of is ∙ q)) in
    subst (λ x. Left wanted x next all) (sym e)
    (record { same = sym (ap (λ x. cond x (Some t) (trail_to wanted next (behind_closing t))) other) ∙ here.same; stands = stands_release t number next here.stands })

-- the branch comes down to both of its sides
both_sides : (wanted n : ℕ) (t : Trail) (all : Option Trail) (b : Body) (number : ℕ) (test : Claim) (first second : Body) → b ≡ Branch number test first second → n ≡ number_of b → (n ≡ wanted → ⊥) → Left wanted t b all → or_else (trail_to wanted first t) (trail_to wanted second t) ≡ all
both_sides wanted n t all b number test first second is at ne l =
    let here = subst (λ x. Left wanted t x all) is l in
    let other = ne_eqb number wanted (λ q. ne (at ∙ ap number_of is ∙ q)) in
    sym (ap (λ x. cond x (Some t) (or_else (trail_to wanted first t) (trail_to wanted second t))) other) ∙ here.same

pub left_branch : (wanted n : ℕ) (t : Trail) (all : Option Trail) (b : Body) (number : ℕ) (test : Claim) (first second : Body) → b ≡ Branch number test first second → n ≡ number_of b → (n ≡ wanted → ⊥) → trail_to wanted first t ≡ None → Left wanted t b all → Left wanted t second all
left_branch wanted n t all b number test first second is at ne none l =
    record {
      same = sym (ap (λ x. or_else x (trail_to wanted second t)) none) ∙ both_sides wanted n t all b number test first second is at ne l;
      stands = stands_second t number test first second (subst (StandsBehind t) is l.stands);
    }

pub found_branch : (wanted n : ℕ) (t found : Trail) (all : Option Trail) (b : Body) (number : ℕ) (test : Claim) (first second : Body) → b ≡ Branch number test first second → n ≡ number_of b → (n ≡ wanted → ⊥) → trail_to wanted first t ≡ Some found → Left wanted t b all → Some found ≡ all
found_branch wanted n t found all b number test first second is at ne some l =
    sym (ap (λ x. or_else x (trail_to wanted second t)) some) ∙ both_sides wanted n t all b number test first second is at ne l

pub left_return : (wanted n : ℕ) (t : Trail) (all : Option Trail) (b : Body) (number : ℕ) (value : Linear) → b ≡ Return number value → n ≡ number_of b → (n ≡ wanted → ⊥) → Left wanted t b all → None ≡ all
left_return wanted n t all b number value is at ne l =
    let here = subst (λ x. Left wanted t x all) is l in
    let other = ne_eqb number wanted (λ q. ne (at ∙ ap number_of is ∙ q)) in
    sym (ap (λ x. cond x (Some t) None) other) ∙ here.same
