-- Trees that are put together under what was taken apart.
use Rattle.std.proofs.Common.{◌≡◌, ℕ, ◌+◌, ◌≤◌, Bool, true, false, List, [], ◌∷◌, ◌++◌, refl, sym, subst, arith}
use Rattle.std.specs.Prelude.{Option, Some, None, MatchOption, slice_get, slice_set, IsTrue, ◌||◌, pos, ◌+ℤ◌}
use Rattle.carol_cert.specs.Cases.{at_most_number, at_least_number}
use Rattle.std.proofs.lemmas.Bool.{false≢true}
use Rattle.carol_formula.specs.Claim.{Claim}
use Rattle.carol_cert.specs.Proof.{Proof, Absurd, Part, Split, Branch, Rows, Unclosed}
use Rattle.carol_cert.specs.Refutes.{sides_of, parts_at, sides_at, Refutes}
use Rattle.carol_cert.specs.Counts.{turns_of, has_gap, GoesRight}
use Rattle.carol_elimination.specs.Due.{BranchesAreDue}
use Rattle.carol_decide.specs.Sizes.{OfDifferences, AreOfDifferences}
use Rattle.carol_decide.specs.Finished.{IsFinished, IsOpen}
use Rattle.carol_decide.specs.Frames.{TakesJoined, TakesLow, TakesHigh}
use Rattle.carol_decide.proofs.Lists.{Each-set, Each-at, Each-push}
use Rattle.carol_decide.proofs.Way.{cases_in_positive, cases_parts, cases_sides, differences_inherited, there_parts, there_sides}

-- what holds of a pair holds where the pair is there
at_parts : (claims : List Claim) (at : ℕ) (whole : Claim) (next : List Claim) (N : Type 0) (P : List Claim → Type 0) (t : TakesJoined claims at whole next) → P next → MatchOption (parts_at claims at) N (λ p. P (slice_set claims at p.0 ++ p.1 ∷ []))
at_parts claims at whole next N P t h =
    subst (λ o. MatchOption o N (λ p. P (slice_set claims at p.0 ++ p.1 ∷ []))) (sym (there_parts claims at whole t.parts t.stands t.are_parts)) (subst P t.is h)

at_sides : (claims : List Claim) (at : ℕ) (whole : Claim) (p : Claim × Claim) (N : Type 0) (P : List Claim → Type 0) (Q : List Claim → Type 0) → slice_get claims at ≡ Some whole → sides_of whole ≡ Some p → P (slice_set claims at p.0) → Q (slice_set claims at p.1) → MatchOption (sides_at claims at) N (λ p. P (slice_set claims at p.0) × Q (slice_set claims at p.1))
at_sides claims at whole p N P Q stands e x y =
    subst (λ o. MatchOption o N (λ p. P (slice_set claims at p.0) × Q (slice_set claims at p.1))) (sym (there_sides claims at whole p stands e)) (x, y)

-- ---- finished trees

differences_parts : (claims : List Claim) (at : ℕ) (whole : Claim) (next : List Claim) → TakesJoined claims at whole next → AreOfDifferences claims → AreOfDifferences next
differences_parts claims at whole next t d =
    let both = differences_inherited.parts whole t.parts t.are_parts (Each-at OfDifferences claims at whole t.stands d) in
    subst AreOfDifferences (sym t.is) (Each-push OfDifferences (slice_set claims at t.parts.0) t.parts.1 (Each-set OfDifferences claims at t.parts.0 d both.0) both.1)

pub finished_parts : (claims : List Claim) (at : ℕ) (whole : Claim) (next : List Claim) (tree : Proof) → TakesJoined claims at whole next → IsFinished next tree → IsFinished claims (Part at tree)
finished_parts claims at whole next tree t h = record {
  refutes = at_parts claims at whole next ⊥ (Refutes tree) t h.refutes;
  due = at_parts claims at whole next (Unit {0}) (BranchesAreDue tree) t h.due;
  short = λ d. omega (arith, h.short (differences_parts claims at whole next t d), cases_parts claims at whole next t);
}

pub finished_sides : (claims : List Claim) (at : ℕ) (whole : Claim) (low : Proof) (next : List Claim) (high : Proof) → TakesHigh claims at whole low next → IsFinished next high → IsFinished claims (Split at low high)
finished_sides claims at whole low next high t h =
    let other : IsFinished (slice_set claims at t.sides.1) high = subst (λ c. IsFinished c high) t.is h in
    record {
      refutes = at_sides claims at whole t.sides ⊥ (Refutes low) (Refutes high) t.stands t.are_sides t.finished.refutes other.refutes;
      due = at_sides claims at whole t.sides (Unit {0}) (BranchesAreDue low) (BranchesAreDue high) t.stands t.are_sides t.finished.due other.due;
      short = λ d.
          let both = differences_inherited.sides whole t.sides t.are_sides (Each-at OfDifferences claims at whole t.stands d) in
          let first = t.finished.short (Each-set OfDifferences claims at t.sides.0 d both.0) in
          let second = other.short (Each-set OfDifferences claims at t.sides.1 d both.1) in
          omega (arith, first, second, cases_sides claims at whole t.sides t.stands t.are_sides);
    }

pub one_turn : (claims : List Claim) (tree : Proof) → Refutes tree claims → BranchesAreDue tree claims → turns_of tree ≡ 1 → IsFinished claims tree
one_turn claims tree h due e = record { refutes = h; due = due; short = λ d. omega (arith, e, cases_in_positive claims) }

-- what follows wherever a pair is there
from_pair : (o : Option (Claim × Claim)) (P : Claim × Claim → Type 0) (N : Type 0) → ((p : Claim × Claim) → P p → N) → MatchOption o ⊥ P → N
from_pair None P N f h = absurd h
from_pair (Some p) P N f h = f p h

-- a tree that refutes takes a turn
pub takes_turn : (claims : List Claim) (tree : Proof) → Refutes tree claims → 1 ≤ turns_of tree
takes_turn claims (Absurd at) h = omega arith
takes_turn claims (Part at rest) h =
    from_pair (parts_at claims at) (λ p. Refutes rest (slice_set claims at p.0 ++ p.1 ∷ [])) (1 ≤ turns_of rest) (λ p g. takes_turn (slice_set claims at p.0 ++ p.1 ∷ []) rest g) h
takes_turn claims (Split at left right) h =
    from_pair (sides_at claims at) (λ p. Refutes left (slice_set claims at p.0) × Refutes right (slice_set claims at p.1)) (1 ≤ turns_of left + turns_of right)
    (λ p g. let first = takes_turn (slice_set claims at p.0) left g.0 in omega arith) h
takes_turn claims (Branch v k low high) h = omega arith
takes_turn claims (Rows steps) h = omega arith
takes_turn claims Unclosed h = absurd h

-- ---- trees with a gap

-- what follows at a pair that is there
at_pair : (o : Option (Claim × Claim)) (P Q : Claim × Claim → Type 0) → ((p : Claim × Claim) → P p → Q p) → MatchOption o ⊥ P → MatchOption o ⊥ Q
at_pair None P Q f h = h
at_pair (Some p) P Q f h = f p h

goes_right : (tree : Proof) (claims : List Claim) → Refutes tree claims → GoesRight tree claims
goes_right (Absurd at) claims h = h
goes_right (Part at rest) claims h =
    at_pair (parts_at claims at) (λ p. Refutes rest (slice_set claims at p.0 ++ p.1 ∷ [])) (λ p. GoesRight rest (slice_set claims at p.0 ++ p.1 ∷ [])) (λ p g. goes_right rest (slice_set claims at p.0 ++ p.1 ∷ []) g) h
goes_right (Split at left right) claims h =
    at_pair (sides_at claims at) (λ p. Refutes left (slice_set claims at p.0) × Refutes right (slice_set claims at p.1)) (λ p. GoesRight left (slice_set claims at p.0) × GoesRight right (slice_set claims at p.1))
    (λ p g. (goes_right left (slice_set claims at p.0) g.0, goes_right right (slice_set claims at p.1) g.1)) h
goes_right (Branch v k low high) claims h = (h.0, h.1, goes_right low (claims ++ at_most_number v k ∷ []) h.2, goes_right high (claims ++ at_least_number v (k +ℤ pos 1) ∷ []) h.3)
goes_right (Rows steps) claims h = h
goes_right Unclosed claims h = absurd h

pub open_none : (claims : List Claim) → IsOpen claims Unclosed
open_none claims = record { unfinished = (tt, refl); due = tt }

pub open_parts : (claims : List Claim) (at : ℕ) (whole : Claim) (next : List Claim) (tree : Proof) → TakesJoined claims at whole next → IsOpen next tree → IsOpen claims (Part at tree)
open_parts claims at whole next tree t h = record {
  unfinished = (at_parts claims at whole next ⊥ (GoesRight tree) t h.unfinished.0, h.unfinished.1);
  due = at_parts claims at whole next (Unit {0}) (BranchesAreDue tree) t h.due;
}

some_gap : (a b : Bool) → IsTrue b → IsTrue (a || b)
some_gap true b h = refl
some_gap false b h = h

first_gap : (a b : Bool) → IsTrue a → IsTrue (a || b)
first_gap true b h = refl
first_gap false b h = absurd (false≢true h)

pub open_high : (claims : List Claim) (at : ℕ) (whole : Claim) (low : Proof) (next : List Claim) (high : Proof) → TakesHigh claims at whole low next → IsOpen next high → IsOpen claims (Split at low high)
open_high claims at whole low next high t h =
    let other : IsOpen (slice_set claims at t.sides.1) high = subst (λ c. IsOpen c high) t.is h in
    record {
      unfinished = (
        at_sides claims at whole t.sides ⊥ (GoesRight low) (GoesRight high) t.stands t.are_sides (goes_right low (slice_set claims at t.sides.0) t.finished.refutes) other.unfinished.0,
        some_gap (has_gap low) (has_gap high) other.unfinished.1,
      );
      due = at_sides claims at whole t.sides (Unit {0}) (BranchesAreDue low) (BranchesAreDue high) t.stands t.are_sides t.finished.due other.due;
    }

pub open_low : (claims : List Claim) (at : ℕ) (whole other : Claim) (next : List Claim) (low : Proof) → TakesLow claims at whole other next → IsOpen next low → IsOpen claims (Split at low Unclosed)
open_low claims at whole other next low t h =
    let side : IsOpen (slice_set claims at t.sides.0) low = subst (λ c. IsOpen c low) t.is h in
    record {
      unfinished = (
        at_sides claims at whole t.sides ⊥ (GoesRight low) (GoesRight Unclosed) t.stands t.are_sides side.unfinished.0 tt,
        first_gap (has_gap low) true side.unfinished.1,
      );
      due = at_sides claims at whole t.sides (Unit {0}) (BranchesAreDue low) (BranchesAreDue Unclosed) t.stands t.are_sides side.due tt;
    }
