-- From one place of a search to the next.
use Rattle.std.proofs.Common.{ℕ, ◌≡◌, ◌+◌, ◌<◌, Bool, true, false, List, [], ◌∷◌, ◌++◌, length, refl, sym, ◌∙◌, ap, subst, arith}
use Rattle.std.specs.Prelude.{Option, Some, None, ℤ, pos, ◌+ℤ◌, ◌||◌}
use Rattle.std.proofs.lemmas.Int.{to_z-of_z, fits_signed_from_abs}
use Rattle.std.specs.Int.{w128, cast_signed, cast_unsigned}
use Rattle.std.proofs.Math.Bool.{or_assoc}
use Rattle.carol_formula.specs.Bounds.{IsBelow, term_limit, value_limit}
use Rattle.carol_formula.specs.Linear.{Linear}
use Rattle.carol_formula.specs.Claim.{Claim, Le}
use Rattle.carol_cert.specs.declared.step.RowStep.{RowStep}
use Rattle.carol_cert.specs.declared.step.RowStep.TheVariants.{Given}
use Rattle.carol_cert.specs.Steps.{Closes}
use Rattle.carol_cert.specs.Proof.{Proof, Branch, Rows, Unclosed, proof_of}
use Rattle.carol_cert.specs.Counts.{turns_of, has_gap}
use Rattle.carol_cert.specs.declared.tree.Refutation.{Refutation}
use Rattle.carol_cert.proofs.Gaps.{no_gap}
use Rattle.carol_elimination.specs.Due.{IsDue, IsDueFor}
use Rattle.carol_elimination.specs.Stands.{Stand}
use Rattle.carol_elimination.proofs.Standing.{stand_refl}
use Rattle.carol_linear.specs.Names.{AreNamed}
use Rattle.carol_elimination.specs.Entries.{terms_of}
use Rattle.carol_linear.specs.Place.{Shows, with_rows, names_from}
use Rattle.carol_linear.specs.Path.{side_row, frame_row, frame_rows, low_turns, turns_on, low_gap, gap_on, low_waits, waiting_on, IsRight, LowIsRight, Branches, ArePath}
use Rattle.carol_linear.specs.Near.{row_with, name_with, Covers, near_rows, near_names, AreCovering}
use Rattle.carol_linear.specs.Answer.{IsRefuted, IsSpent}
use Rattle.carol_linear.specs.State.{Start, Begins, Extends, all_rows, claims_at, IsAt, IsUnder, Enters, Leaves, HasLeft, Stays, CloseAt, rank_of}
use Rattle.carol_linear.specs.declared.branch.Frame.{Frame}
use Rattle.carol_linear.specs.declared.state.State.{State}
use Rattle.carol_linear.proofs.Places.{shows_on, with_rows-push}
use Rattle.carol_linear.proofs.Near.{near_rows-push, near_names-push, covering_push, covering_front, covering_last, rows_back-with, names_back-with, near_named, near_stand}
use Rattle.carol_linear.proofs.Due.{due_on}
use Rattle.carol_linear.proofs.Paths.{or_false, frame_rows-push, turns_on-push, gap_on-push, waiting_on-push, path_push, path_front, path_last}

-- ---- the rows near the place

extends_enter : (start : Start) (old new : State) (f : Frame) → Extends start old → Enters old new f → Extends start new
extends_enter start old new f h e =
    let fs = old.frames.items in
    let names = near_names start.names start.claims fs in
    record {
      rows = e.adds.rows ∙ ap (row_with f.covered (frame_row f)) h.rows ∙ sym (ap (near_rows start.rows) e.frames ∙ near_rows-push start.rows fs f);
      names = e.adds.names
          ∙ ap (λ (k : ℕ). name_with f.covered (Given (k + length fs)) old.place.names.items) h.claims
          ∙ ap (name_with f.covered (Given (start.claims + length fs))) h.names
          ∙ sym (ap (near_names start.names start.claims) e.frames ∙ near_names-push start.names start.claims fs f);
      covering = subst (AreCovering start.rows start.names start.claims) (sym e.frames)
          (covering_push start.rows start.names start.claims fs f h.covering
          (subst (λ (rs : List Linear). Covers rs names (frame_row f) f.covered) h.rows (subst (λ (ns : List RowStep). Covers (terms_of old.place.rows.items) ns (frame_row f) f.covered) h.names e.adds.covers)));
      claims = e.keeps.claims ∙ h.claims;
    }

extends_leave : (start : Start) (old new : State) (f : Frame) → Extends start old → Leaves old new f → Extends start new
extends_leave start old new f h l =
    let fs = new.frames.items in
    let near = near_rows start.rows fs in
    let names = near_names start.names start.claims fs in
    let all = subst (AreCovering start.rows start.names start.claims) l.frames h.covering in
    let last = covering_last start.rows start.names start.claims fs f all in
    record {
      rows = ap terms_of l.rows ∙ rows_back-with f.covered old.place.rows.items near names (frame_row f) last (h.rows ∙ ap (near_rows start.rows) l.frames ∙ near_rows-push start.rows fs f);
      names = l.names ∙ names_back-with f.covered old.place.names.items names near (frame_row f) (Given (start.claims + length fs)) last (h.names ∙ ap (near_names start.names start.claims) l.frames ∙ near_names-push start.names start.claims fs f);
      covering = covering_front start.rows start.names start.claims fs f all;
      claims = l.keeps.claims ∙ h.claims;
    }

-- what is due near the place is due there
pub near_due : (start : Start) (s : State) (x : ℕ) (k : ℤ) → IsAt start s → IsDueFor (terms_of s.place.rows.items) x k → IsDueFor (all_rows start s) x k
near_due start s x k h due =
    let stand = near_stand start.rows start.rows start.names start.claims s.frames.items h.extends.covering (stand_refl start.rows) in
    due_on (terms_of s.place.rows.items) (all_rows start s) x k (subst (λ (rs : List Linear). Stand rs (all_rows start s)) (sym h.extends.rows) stand) due

-- steps that close the rows near the place close it
pub near_closes : (start : Start) (s : State) (steps : List RowStep) → IsAt start s → ((claims : List Claim) → AreNamed claims s.place.names.items (terms_of s.place.rows.items) → Closes claims steps) → CloseAt start s steps
near_closes start s steps h closes claims begins =
    let named = near_named claims start.names start.rows start.claims s.frames.items begins.named begins.counted in
    closes (claims_at claims s) (subst (AreNamed (claims_at claims s) s.place.names.items) (sym h.extends.rows) (subst (λ (ns : List RowStep). AreNamed (claims_at claims s) ns (near_rows start.rows s.frames.items)) (sym h.extends.names) named))

-- ---- all rows at the place

-- what the claims at the place of a search are
place_shows : (start : Start) (s : State) (claims : List Claim) → Begins start claims → Shows (claims_at claims s) (all_rows start s) (start.names ++ names_from start.claims (frame_rows s.frames.items)) (start.claims + length (frame_rows s.frames.items))
place_shows start s claims begins = shows_on claims start.rows start.names start.claims (frame_rows s.frames.items) begins

-- steps that close all rows at the place close it
pub whole_closes : (start : Start) (s : State) (rows : List Linear) (names : List RowStep) (steps : List RowStep) → IsAt start s → rows ≡ all_rows start s → names ≡ start.names ++ names_from s.claims (frame_rows s.frames.items) → ((claims : List Claim) → AreNamed claims names rows → Closes claims steps) → CloseAt start s steps
whole_closes start s rows names steps h r n closes claims begins =
    let named = (place_shows start s claims begins).named in
    let given = n ∙ ap (λ (k : ℕ). start.names ++ names_from k (frame_rows s.frames.items)) h.extends.claims in
    closes (claims_at claims s) (subst (AreNamed (claims_at claims s) names) (sym r) (subst (λ (ns : List RowStep). AreNamed (claims_at claims s) ns (all_rows start s)) (sym given) named))

with_more : (claims : List Claim) (old new : List Frame) (f : Frame) → new ≡ old ++ f ∷ [] → with_rows claims (frame_rows new) ≡ with_rows claims (frame_rows old) ++ Le (frame_row f) ∷ []
with_more claims old new f e = ap (λ (fs : List Frame). with_rows claims (frame_rows fs)) e ∙ ap (with_rows claims) (frame_rows-push old f) ∙ with_rows-push claims (frame_rows old) (frame_row f)

-- ---- leaves

or_true : (a : Bool) → true ≡ a || true
or_true true = refl
or_true false = refl

-- no turn is left
pub under_unclosed : (start : Start) (s : State) → IsAt start s → s.left ≡ 0 → IsUnder start (record s { has_gap = true }) Unclosed
under_unclosed start s h none = record {
  extends = record { rows = h.extends.rows; names = h.extends.names; covering = h.extends.covering; claims = h.extends.claims };
  turns = omega (arith, h.turns);
  gap = or_true (gap_on s.frames.items);
  spent = λ _. none;
  path = h.path;
  right = λ claims begins. record { goes = tt; due = tt };
}

-- a leaf takes a turn
pub under_closed : (start : Start) (s : State) (n : ℕ) (steps : List RowStep) → IsAt start s → s.left ≡ n + 1 → CloseAt start s steps → IsUnder start (record s { left = n }) (Rows steps)
under_closed start s n steps h more closes = record {
  extends = record { rows = h.extends.rows; names = h.extends.names; covering = h.extends.covering; claims = h.extends.claims };
  turns = omega (arith, h.turns, more);
  gap = h.gap ∙ sym (or_false (gap_on s.frames.items));
  spent = λ is. absurd (omega (arith, h.spent is, more));
  path = h.path;
  right = λ claims begins. record { goes = closes claims begins; due = tt };
}

-- ---- a branch more

below_value : (z : ℤ) → IsBelow term_limit z → IsBelow value_limit z
below_value z h = omega (arith, h)

low_first : (claims : List Claim) (x : ℕ) (k : ℤ) (low : Option Refutation) → low ≡ None → LowIsRight claims x k low
low_first claims x k low e = subst (LowIsRight claims x k) (sym e) tt

-- the low side of a branch that is due takes a turn
pub at_low : (start : Start) (s new : State) (n : ℕ) (f : Frame) → IsAt start s → s.left ≡ n + 1 → IsDueFor (all_rows start s) f.variable f.k → f.low ≡ None → Enters (record s { left = n }) new f → IsAt start new
at_low start s new n f h more due first e = record {
  extends = extends_enter start (record s { left = n }) new f (record { rows = h.extends.rows; names = h.extends.names; covering = h.extends.covering; claims = h.extends.claims }) e;
  turns = omega (arith, h.turns, more, ap turns_on e.frames, turns_on-push s.frames.items f, ap low_turns first, e.keeps.left);
  gap = e.keeps.has_gap ∙ h.gap ∙ sym (or_false (gap_on s.frames.items)) ∙ ap (λ (low : Option Refutation). gap_on s.frames.items || low_gap low) (sym first) ∙ sym (gap_on-push s.frames.items f) ∙ ap gap_on (sym e.frames);
  spent = λ is. absurd (omega (arith, h.spent (sym e.keeps.has_gap ∙ is), more));
  path = λ claims begins. subst (ArePath claims) (sym e.frames) (path_push claims s.frames.items f (h.path claims begins) (last claims begins));
}
  where
    last : (claims : List Claim) → Begins start claims → Branches (claims_at claims s) f
    last claims begins =
        let shows = place_shows start s claims begins in
        record {
          small = below_value f.k f.small;
          next_small = below_value (f.k +ℤ pos 1) f.next_small;
          due = record { rows = shows.plain; due = subst (λ (rs : List Linear). IsDueFor rs f.variable f.k) (sym shows.same) due };
          low = low_first (claims_at claims s) f.variable f.k f.low first;
        }

-- ---- a branch less

-- the tree of the low side waits for the high side
pub at_high : (start : Start) (s old new : State) (tree : Refutation) (f g : Frame) → IsUnder start s (proof_of tree) → Leaves s old f → f.low ≡ None → Enters old new g → g.variable ≡ f.variable → g.k ≡ f.k → g.low ≡ Some tree → IsAt start new
at_high start s old new tree f g h l first e v k second = record {
  extends = extends_enter start old new g (extends_leave start s old f h.extends l) e;
  turns = omega (arith, h.turns, ap turns_on l.frames, turns_on-push old.frames.items f, ap low_turns first, ap turns_on e.frames, turns_on-push old.frames.items g, ap low_turns second, e.keeps.left, l.keeps.left);
  gap = e.keeps.has_gap ∙ l.keeps.has_gap ∙ h.gap ∙ ap (λ (b : Bool). b || has_gap (proof_of tree)) (ap gap_on l.frames ∙ gap_on-push old.frames.items f ∙ ap (λ (low : Option Refutation). gap_on old.frames.items || low_gap low) first ∙ or_false (gap_on old.frames.items)) ∙ ap (λ (low : Option Refutation). gap_on old.frames.items || low_gap low) (sym second) ∙ sym (gap_on-push old.frames.items g) ∙ ap gap_on (sym e.frames);
  spent = λ is. e.keeps.left ∙ l.keeps.left ∙ h.spent (sym (e.keeps.has_gap ∙ l.keeps.has_gap) ∙ is);
  path = λ claims begins. subst (ArePath claims) (sym e.frames) (path_push claims old.frames.items g (path_front claims old.frames.items f (whole claims begins)) (last claims begins));
}
  where
    whole : (claims : List Claim) → Begins start claims → ArePath claims (old.frames.items ++ f ∷ [])
    whole claims begins = subst (ArePath claims) l.frames (h.path claims begins)

    low_side : (claims : List Claim) → Begins start claims → IsRight (claims_at claims old ++ Le (side_row f.variable f.k None) ∷ []) (proof_of tree)
    low_side claims begins = subst (λ (cs : List Claim). IsRight cs (proof_of tree)) (with_more claims old.frames.items s.frames.items f l.frames ∙ ap (λ (low : Option Refutation). claims_at claims old ++ Le (side_row f.variable f.k low) ∷ []) first) (h.right claims begins)

    last : (claims : List Claim) → Begins start claims → Branches (claims_at claims old) g
    last claims begins =
        let here = claims_at claims old in
        let was = path_last claims old.frames.items f (whole claims begins) in
        record {
          small = subst (IsBelow value_limit) (sym k) was.small;
          next_small = subst (λ (z : ℤ). IsBelow value_limit (z +ℤ pos 1)) (sym k) was.next_small;
          due = subst (λ (x : ℕ). IsDue here x g.k) (sym v) (subst (IsDue here f.variable) (sym k) was.due);
          low = subst (LowIsRight here g.variable g.k) (sym second) (subst (λ (x : ℕ). IsRight (here ++ Le (side_row x g.k None) ∷ []) (proof_of tree)) (sym v) (subst (λ (z : ℤ). IsRight (here ++ Le (side_row f.variable z None) ∷ []) (proof_of tree)) (sym k) (low_side claims begins)));
        }

-- the tree of the high side closes the branch
under_branch : (start : Start) (s old : State) (high whole : Proof) (low : Refutation) (f : Frame) → IsUnder start s high → Leaves s old f → f.low ≡ Some low → whole ≡ Branch f.variable f.k (proof_of low) high → IsUnder start old whole
under_branch start s old high whole low f h l second is = record {
  extends = extends_leave start s old f h.extends l;
  turns = omega (arith, h.turns, ap turns_on l.frames, turns_on-push old.frames.items f, ap low_turns second, l.keeps.left, ap turns_of is);
  gap = l.keeps.has_gap ∙ h.gap ∙ ap (λ (b : Bool). b || has_gap high) (ap gap_on l.frames ∙ gap_on-push old.frames.items f ∙ ap (λ (o : Option Refutation). gap_on old.frames.items || low_gap o) second) ∙ or_assoc (gap_on old.frames.items) (has_gap (proof_of low)) (has_gap high) ∙ ap (λ (t : Proof). gap_on old.frames.items || has_gap t) (sym is);
  spent = λ here. l.keeps.left ∙ h.spent (sym l.keeps.has_gap ∙ here);
  path = λ claims begins. path_front claims old.frames.items f (path claims begins);
  right = λ claims begins. subst (IsRight (claims_at claims old)) (sym is) (both claims begins);
}
  where
    path : (claims : List Claim) → Begins start claims → ArePath claims (old.frames.items ++ f ∷ [])
    path claims begins = subst (ArePath claims) l.frames (h.path claims begins)

    both : (claims : List Claim) → Begins start claims → IsRight (claims_at claims old) (Branch f.variable f.k (proof_of low) high)
    both claims begins =
        let here = claims_at claims old in
        let was = path_last claims old.frames.items f (path claims begins) in
        let first = subst (LowIsRight here f.variable f.k) second was.low in
        let last = subst (λ (cs : List Claim). IsRight cs high) (with_more claims old.frames.items s.frames.items f l.frames ∙ ap (λ (o : Option Refutation). here ++ Le (side_row f.variable f.k o) ∷ []) second) (h.right claims begins) in
        record {
          goes = (was.small, was.next_small, first.goes, last.goes);
          due = (was.due, first.due, last.due);
        }

-- no branch is left
pub under_stays : (start : Start) (s new : State) (tree : Proof) → IsUnder start s tree → Stays s new → IsUnder start new tree
under_stays start s new tree h e =
    let same : s.frames.items ≡ new.frames.items = e.before ∙ sym e.after in
    record {
      extends = record {
        rows = ap terms_of e.rows ∙ h.extends.rows ∙ ap (near_rows start.rows) same;
        names = e.names ∙ h.extends.names ∙ ap (near_names start.names start.claims) same;
        covering = subst (AreCovering start.rows start.names start.claims) same h.extends.covering;
        claims = e.keeps.claims ∙ h.extends.claims;
      };
      turns = omega (arith, h.turns, ap turns_on same, e.keeps.left);
      gap = e.keeps.has_gap ∙ h.gap ∙ ap (λ (fs : List Frame). gap_on fs || has_gap tree) same;
      spent = λ is. e.keeps.left ∙ h.spent (sym e.keeps.has_gap ∙ is);
      path = λ claims begins. subst (ArePath claims) same (h.path claims begins);
      right = λ claims begins. subst (λ (fs : List Frame). IsRight (with_rows claims (frame_rows fs)) tree) same (h.right claims begins);
    }

-- the number that is written and read back
pub frame_number : (f : Frame) → cast_signed w128 (cast_unsigned w128 f.k) ≡ f.k
frame_number f = to_z-of_z w128 f.k (fits_signed_from_abs w128 f.k (omega (arith, f.small)))

-- the tree of the high side closes the branch that was left
pub left_under : (s old : State) (f : Frame) (low : Refutation) (high whole : Proof) → HasLeft s old f → f.low ≡ Some low → whole ≡ Branch f.variable (cast_signed w128 (cast_unsigned w128 f.k)) (proof_of low) high → (start : Start) → IsUnder start s high → IsUnder start old whole
left_under s old f low high whole left second is start h =
    under_branch start s old high whole low left.last h left.leaves (sym left.same.low ∙ second)
    (is ∙ ap (λ (k : ℤ). Branch f.variable k (proof_of low) high) (frame_number f ∙ left.same.k) ∙ ap (λ (x : ℕ). Branch x left.last.k (proof_of low) high) left.same.variable)

-- ---- how much is left to do

-- a high side waits no longer
pub high_falls : (s old new : State) (tree : Refutation) (f g : Frame) → Leaves s old f → f.low ≡ None → Enters old new g → g.low ≡ Some tree → waiting_on new.frames.items + 1 ≡ waiting_on s.frames.items
high_falls s old new tree f g l first e second = omega (arith, ap waiting_on l.frames, waiting_on-push old.frames.items f, ap low_waits first, ap waiting_on e.frames, waiting_on-push old.frames.items g, ap low_waits second)

pub left_waits : (s old : State) (f : Frame) (low : Refutation) → HasLeft s old f → f.low ≡ Some low → waiting_on old.frames.items ≡ waiting_on s.frames.items
left_waits s old f low left second = omega (arith, ap waiting_on left.leaves.frames, waiting_on-push old.frames.items left.last, ap low_waits (sym left.same.low ∙ second))

pub low_falls : (s new : State) (n : ℕ) (f : Frame) → s.left ≡ n + 1 → f.low ≡ None → Enters (record s { left = n }) new f → rank_of new < rank_of s
low_falls s new n f more first e = omega (arith, more, ap waiting_on e.frames, waiting_on-push s.frames.items f, ap low_waits first, e.keeps.left)

-- ---- the end

whole_right : (start : Start) (s : State) (tree : Proof) (claims : List Claim) → IsUnder start s tree → s.frames.items ≡ [] → Begins start claims → IsRight claims tree
whole_right start s tree claims h none begins = subst (λ (fs : List Frame). IsRight (with_rows claims (frame_rows fs)) tree) none (h.right claims begins)

whole_gap : (start : Start) (s : State) (tree : Proof) → IsUnder start s tree → s.frames.items ≡ [] → s.has_gap ≡ has_gap tree
whole_gap start s tree h none = h.gap ∙ ap (λ (fs : List Frame). gap_on fs || has_gap tree) none

pub spent_end : (start : Start) (s : State) (tree : Proof) → IsUnder start s tree → s.frames.items ≡ [] → s.has_gap ≡ true → (claims : List Claim) → Begins start claims → IsSpent claims start.leaves tree
spent_end start s tree h none gap claims begins =
    let right = whole_right start s tree claims h none begins in
    record {
      unfinished = (right.goes, sym (whole_gap start s tree h none) ∙ gap);
      turns = omega (arith, h.turns, ap turns_on none, h.spent gap);
      due = right.due;
    }

pub refuted_end : (start : Start) (s : State) (tree : Proof) → IsUnder start s tree → s.frames.items ≡ [] → s.has_gap ≡ false → (claims : List Claim) → Begins start claims → IsRefuted claims start.leaves tree
refuted_end start s tree h none gap claims begins =
    let right = whole_right start s tree claims h none begins in
    record {
      refutes = (no_gap tree claims false right.goes (sym gap ∙ whole_gap start s tree h none)).0 refl;
      turns = omega (arith, h.turns, ap turns_on none);
      due = right.due;
    }
