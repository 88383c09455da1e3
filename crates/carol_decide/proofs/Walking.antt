-- From place to place.
use Rattle.std.proofs.Common.{◌≡◌, ℕ, zero, suc, ◌+◌, ◌-◌, ◌*◌, ◌<◌, ◌≤◌, List, [], ◌∷◌, ◌++◌, length, take, refl, sym, ◌∙◌, ap, subst, arith, length-append}
use Rattle.std.specs.Prelude.{Some, Ok, Err, Result, IfOk, slice_get, slice_set}
use Rattle.std.specs.List.{take-map}
use Rattle.std.proofs.Math.Seq.{take-append_seam}
use Rattle.std.proofs.Math.Nat.{mul-le-mul_right, add-mul}
use Rattle.std.proofs.lemmas.List.{map-set, map-append, length-map}
use Rattle.carol_formula.specs.Bounds.{narrow_limit}
use Rattle.carol_formula.specs.Claim.{Claim, False, HasNoNot, ClaimWithin, cases_of}
use Rattle.carol_cert.specs.Proof.{Proof, Absurd, Part, Split, Unclosed, proof_of}
use Rattle.carol_cert.specs.Refutes.{parts_of, sides_of}
use Rattle.carol_cert.specs.Counts.{turns_of}
use Rattle.carol_linear.specs.Answer.{IsSpent}
use Rattle.carol_decide.specs.Sizes.{weight_of, weight_in, OfDifferences, AreOfDifferences, AreReady}
use Rattle.carol_formula.specs.Size.{nodes_of}
use Rattle.carol_decide.specs.Finished.{IsFinished, IsOpen}
use Rattle.carol_decide.specs.Piece.{claim_of_piece, claims_in}
use Rattle.carol_decide.specs.Frames.{StandsAt, TakesHigh, Takes, Lead, frame_turns, turns_on}
use Rattle.carol_decide.specs.Table.{IsClosed}
use Rattle.carol_decide.specs.State.{IsRoot, IsAt, IsUnder, IsOpenUnder, IsAbove, rank_of}
use Rattle.carol_decide.specs.declared.piece.Piece.{Piece}
use Rattle.carol_decide.specs.declared.frame.Frame.{Frame}
use Rattle.carol_decide.specs.declared.frame.Frame.TheVariants.{Parts, Low, High}
use Rattle.carol_decide.specs.declared.walk.Walk.{Walk}
use Rattle.carol_cert.specs.declared.tree.Refutation.{Refutation}
use Rattle.carol_decide.proofs.Way.{Lead-push, EndsIn, Lead-pop, turns_on-push, ready_along, differences_along, lighter, no_heavier, cases_in_positive, cases_along}
use Rattle.carol_decide.proofs.Finishing.{finished_parts, finished_sides, one_turn, open_none, open_parts, open_high, open_low}
use Rattle.carol_decide.proofs.Forking.{weight_of-nodes, ready_from}
use Rattle.carol_decide.proofs.Lists.{length_light}

-- ---- lists

restored : (claims : List Claim) (at : ℕ) (c whole : Claim) → slice_get claims at ≡ Some whole → slice_set (slice_set claims at c) at whole ≡ claims
restored [] at c whole e = refl
restored (d ∷ claims) zero c whole e = let same : d ≡ whole = cc in ap (λ x. x ∷ claims) (sym same)
restored (d ∷ claims) (suc at) c whole e = ap (λ cs. d ∷ cs) (restored claims at c whole e)

overwritten : (claims : List Claim) (at : ℕ) (c d : Claim) → slice_set (slice_set claims at c) at d ≡ slice_set claims at d
overwritten [] at c d = refl
overwritten (b ∷ claims) zero c d = refl
overwritten (b ∷ claims) (suc at) c d = ap (λ cs. b ∷ cs) (overwritten claims at c d)

claims_in-set : (pieces : List Piece) (at : ℕ) (p : Piece) → claims_in (slice_set pieces at p) ≡ slice_set (claims_in pieces) at (claim_of_piece p)
claims_in-set pieces at p = map-set claim_of_piece pieces at p

-- all but the last of a list that ends in one more
front : (pieces : List Piece) (claims : List Claim) (c : Claim) → claims_in pieces ≡ claims ++ c ∷ [] → claims_in (take (length pieces - 1) pieces) ≡ claims
front pieces claims c e =
    let count : length pieces - 1 ≡ length claims = omega (arith, sym (length-map pieces claim_of_piece), ap length e, length-append claims (c ∷ [])) in
    sym (take-map claim_of_piece (length pieces - 1) pieces) ∙ ap (take (length pieces - 1)) e ∙ ap (λ n. take n (claims ++ c ∷ [])) count ∙ take-append_seam claims (c ∷ [])

-- ---- up

pub up_parts : (claim : Claim) (leaves : ℕ) (old new : Walk) (at : ℕ) (whole : Piece) (tree above : Proof) → old.frames.items ≡ new.frames.items ++ Parts at whole ∷ [] → new.pieces.items ≡ slice_set (take (length old.pieces.items - 1) old.pieces.items) at whole → new.left ≡ old.left → above ≡ Part at tree → IsUnder claim leaves old tree → IsUnder claim leaves new above
up_parts claim leaves old new at whole tree above frames pieces left e u =
    let end : EndsIn (claim ∷ []) new.frames.items (Parts at whole) (claims_in old.pieces.items) = Lead-pop (claim ∷ []) new.frames.items (Parts at whole) (claims_in old.pieces.items) (subst (λ fs. Lead (claim ∷ []) fs (claims_in old.pieces.items)) frames u.lead) in
    let there : claims_in new.pieces.items ≡ end.before =
    ap claims_in pieces ∙ claims_in-set (take (length old.pieces.items - 1) old.pieces.items) at whole
    ∙ ap (λ cs. slice_set cs at (claim_of_piece whole)) (front old.pieces.items (slice_set end.before at end.takes.parts.0) end.takes.parts.1 end.takes.is)
    ∙ restored end.before at end.takes.parts.0 (claim_of_piece whole) end.takes.stands
    in
    let finished : IsFinished end.before (Part at tree) = finished_parts end.before at (claim_of_piece whole) (claims_in old.pieces.items) tree end.takes u.finished in
    record {
      lead = subst (Lead (claim ∷ []) new.frames.items) (sym there) end.lead;
      finished = subst (λ cs. IsFinished cs above) (sym there) (subst (IsFinished end.before) (sym e) finished);
      turns = omega (arith, u.turns, ap turns_on frames, turns_on-push new.frames.items (Parts at whole), left, ap turns_of e);
    }

pub up_high : (claim : Claim) (leaves : ℕ) (old new : Walk) (at : ℕ) (whole : Piece) (low : Refutation) (tree above : Proof) → old.frames.items ≡ new.frames.items ++ High at whole low ∷ [] → new.pieces.items ≡ slice_set old.pieces.items at whole → new.left ≡ old.left → above ≡ Split at (proof_of low) tree → IsUnder claim leaves old tree → IsUnder claim leaves new above
up_high claim leaves old new at whole low tree above frames pieces left e u =
    let end : EndsIn (claim ∷ []) new.frames.items (High at whole low) (claims_in old.pieces.items) = Lead-pop (claim ∷ []) new.frames.items (High at whole low) (claims_in old.pieces.items) (subst (λ fs. Lead (claim ∷ []) fs (claims_in old.pieces.items)) frames u.lead) in
    let there : claims_in new.pieces.items ≡ end.before =
    ap claims_in pieces ∙ claims_in-set old.pieces.items at whole ∙ ap (λ cs. slice_set cs at (claim_of_piece whole)) end.takes.is
    ∙ restored end.before at end.takes.sides.1 (claim_of_piece whole) end.takes.stands
    in
    let finished : IsFinished end.before (Split at (proof_of low) tree) = finished_sides end.before at (claim_of_piece whole) (proof_of low) (claims_in old.pieces.items) tree end.takes u.finished in
    record {
      lead = subst (Lead (claim ∷ []) new.frames.items) (sym there) end.lead;
      finished = subst (λ cs. IsFinished cs above) (sym there) (subst (IsFinished end.before) (sym e) finished);
      turns = omega (arith, u.turns, ap turns_on frames, turns_on-push new.frames.items (High at whole low), left, ap turns_of e);
    }

-- the other side is next
pub up_low : (claim : Claim) (leaves : ℕ) (old new : Walk) (frames : List Frame) (at : ℕ) (whole other : Piece) (tree : Refutation) → old.frames.items ≡ frames ++ Low at whole other ∷ [] → new.frames.items ≡ frames ++ High at whole tree ∷ [] → new.pieces.items ≡ slice_set old.pieces.items at other → new.left ≡ old.left → IsUnder claim leaves old (proof_of tree) → IsAt claim leaves new
up_low claim leaves old new frames at whole other tree was is pieces left u =
    let end : EndsIn (claim ∷ []) frames (Low at whole other) (claims_in old.pieces.items) = Lead-pop (claim ∷ []) frames (Low at whole other) (claims_in old.pieces.items) (subst (λ fs. Lead (claim ∷ []) fs (claims_in old.pieces.items)) was u.lead) in
    let there : claims_in new.pieces.items ≡ slice_set end.before at end.takes.sides.1 =
    ap claims_in pieces ∙ claims_in-set old.pieces.items at other ∙ ap (λ cs. slice_set cs at (claim_of_piece other)) end.takes.is
    ∙ overwritten end.before at end.takes.sides.0 (claim_of_piece other) ∙ ap (slice_set end.before at) end.takes.waits
    in
    let takes : TakesHigh end.before at (claim_of_piece whole) (proof_of tree) (claims_in new.pieces.items) = record {
      stands = end.takes.stands;
      sides = end.takes.sides;
      are_sides = end.takes.are_sides;
      finished = subst (λ cs. IsFinished cs (proof_of tree)) end.takes.is u.finished;
      is = there;
    } in
    record {
      lead = subst (λ fs. Lead (claim ∷ []) fs (claims_in new.pieces.items)) (sym is) (Lead-push (claim ∷ []) frames end.before (claims_in new.pieces.items) (High at whole tree) end.lead takes);
      turns = omega (arith, u.turns, ap turns_on was, turns_on-push frames (Low at whole other), ap turns_on is, turns_on-push frames (High at whole tree), left);
    }

pub at_top : (claim : Claim) (leaves : ℕ) (w : Walk) (tree : Refutation) → w.frames.items ≡ [] → IsUnder claim leaves w (proof_of tree) → IsAbove claim leaves w (Some tree)
at_top claim leaves w tree none u =
    let same : claim ∷ [] ≡ claims_in w.pieces.items = subst (λ fs. Lead (claim ∷ []) fs (claims_in w.pieces.items)) none u.lead in
    (subst (λ cs. IsFinished cs (proof_of tree)) (sym same) u.finished, omega (arith, u.turns, ap turns_on none))

-- ---- up with an open tree

pub open_up_parts : (claim : Claim) (leaves : ℕ) (old new : List Frame) (at : ℕ) (whole : Piece) (tree above : Proof) → old ≡ new ++ Parts at whole ∷ [] → above ≡ Part at tree → IsOpenUnder claim leaves old tree → IsOpenUnder claim leaves new above
open_up_parts claim leaves old new at whole tree above frames e u =
    let end : EndsIn (claim ∷ []) new (Parts at whole) u.claims = Lead-pop (claim ∷ []) new (Parts at whole) u.claims (subst (λ fs. Lead (claim ∷ []) fs u.claims) frames u.lead) in
    record {
      claims = end.before;
      lead = end.lead;
      is_open = subst (IsOpen end.before) (sym e) (open_parts end.before at (claim_of_piece whole) u.claims tree end.takes u.is_open);
      turns = omega (arith, u.turns, ap turns_on frames, turns_on-push new (Parts at whole), ap turns_of e);
    }

pub open_up_high : (claim : Claim) (leaves : ℕ) (old new : List Frame) (at : ℕ) (whole : Piece) (low : Refutation) (tree above : Proof) → old ≡ new ++ High at whole low ∷ [] → above ≡ Split at (proof_of low) tree → IsOpenUnder claim leaves old tree → IsOpenUnder claim leaves new above
open_up_high claim leaves old new at whole low tree above frames e u =
    let end : EndsIn (claim ∷ []) new (High at whole low) u.claims = Lead-pop (claim ∷ []) new (High at whole low) u.claims (subst (λ fs. Lead (claim ∷ []) fs u.claims) frames u.lead) in
    record {
      claims = end.before;
      lead = end.lead;
      is_open = subst (IsOpen end.before) (sym e) (open_high end.before at (claim_of_piece whole) (proof_of low) u.claims tree end.takes u.is_open);
      turns = omega (arith, u.turns, ap turns_on frames, turns_on-push new (High at whole low), ap turns_of e);
    }

pub open_up_low : (claim : Claim) (leaves : ℕ) (old new : List Frame) (at : ℕ) (whole other : Piece) (tree above : Proof) → old ≡ new ++ Low at whole other ∷ [] → above ≡ Split at tree Unclosed → IsOpenUnder claim leaves old tree → IsOpenUnder claim leaves new above
open_up_low claim leaves old new at whole other tree above frames e u =
    let end : EndsIn (claim ∷ []) new (Low at whole other) u.claims = Lead-pop (claim ∷ []) new (Low at whole other) u.claims (subst (λ fs. Lead (claim ∷ []) fs u.claims) frames u.lead) in
    record {
      claims = end.before;
      lead = end.lead;
      is_open = subst (IsOpen end.before) (sym e) (open_low end.before at (claim_of_piece whole) (claim_of_piece other) u.claims tree end.takes u.is_open);
      turns = omega (arith, u.turns, ap turns_on frames, turns_on-push new (Low at whole other), ap turns_of e);
    }

pub open_at_top : (claim : Claim) (leaves : ℕ) (frames : List Frame) (tree : Proof) → frames ≡ [] → IsOpenUnder claim leaves frames tree → IsSpent (claim ∷ []) leaves tree
open_at_top claim leaves frames tree none u =
    let same : claim ∷ [] ≡ u.claims = subst (λ fs. Lead (claim ∷ []) fs u.claims) none u.lead in
    let there : IsOpen (claim ∷ []) tree = subst (λ cs. IsOpen cs tree) (sym same) u.is_open in
    record { unfinished = there.unfinished; turns = omega (arith, u.turns, ap turns_on none); due = there.due }

-- ---- what is left to do

pub less_left : (new old whole here there : ℕ) → new < old → here ≤ whole → new * (whole + 1) + here < old * (whole + 1) + there
less_left new old whole here there h l =
    let next : new + 1 ≤ old = omega arith in
    let more : (new + 1) * (whole + 1) ≤ old * (whole + 1) = mul-le-mul_right (whole + 1) next in
    omega (arith, more, add-mul new 1 (whole + 1))

pub rank_after_turn : (claim : Claim) (leaves : ℕ) (old new : Walk) → new.left < old.left → IsAt claim leaves new → rank_of (weight_of claim) new < rank_of (weight_of claim) old
rank_after_turn claim leaves old new h at_new =
    less_left new.left old.left (weight_of claim) (weight_in (claims_in new.pieces.items)) (weight_in (claims_in old.pieces.items)) h
    (omega (arith, no_heavier (claim ∷ []) new.frames.items (claims_in new.pieces.items) at_new.lead))

-- ---- down

pub down : (claim : Claim) (leaves : ℕ) (old new : Walk) (f : Frame) → new.frames.items ≡ old.frames.items ++ f ∷ [] → frame_turns f ≡ 0 → new.left ≡ old.left → Takes (claims_in old.pieces.items) f (claims_in new.pieces.items) → IsAt claim leaves old → IsAt claim leaves new × (rank_of (weight_of claim) new < rank_of (weight_of claim) old)
down claim leaves old new f frames none left t a = (
  record {
    lead = subst (λ fs. Lead (claim ∷ []) fs (claims_in new.pieces.items)) (sym frames) (Lead-push (claim ∷ []) old.frames.items (claims_in old.pieces.items) (claims_in new.pieces.items) f a.lead t);
    turns = omega (arith, a.turns, ap turns_on frames, turns_on-push old.frames.items f, none, left);
  },
  omega (arith, ap (λ n. n * (weight_of claim + 1)) left, lighter (claims_in old.pieces.items) f (claims_in new.pieces.items) t),
)

-- ---- at a place

pub few_pieces : (claim : Claim) (frames : List Frame) (pieces : List Piece) → IsRoot claim → Lead (claim ∷ []) frames (claims_in pieces) → length pieces ≤ 131072
few_pieces claim frames pieces root lead =
    omega (arith, length_light (claims_in pieces), no_heavier (claim ∷ []) frames (claims_in pieces) lead, root.light, length-map pieces claim_of_piece)

pub ready_at : (claim : Claim) (frames : List Frame) (claims : List Claim) → IsRoot claim → Lead (claim ∷ []) frames claims → AreReady claims
ready_at claim frames claims root lead = ready_along (claim ∷ []) frames claims lead (root.ready, tt)

pub under_after : (claim : Claim) (leaves : ℕ) (old new : Walk) (tree : Proof) (turns : ℕ) → new.frames.items ≡ old.frames.items → new.pieces.items ≡ old.pieces.items → new.left ≡ old.left - turns → IsAt claim leaves old → IsClosed (claims_in old.pieces.items) old.left tree turns → IsUnder claim leaves new tree
under_after claim leaves old new tree turns frames pieces left a h =
    let enough = h.enough in
    record {
      lead = subst (λ fs. Lead (claim ∷ []) fs (claims_in new.pieces.items)) (sym frames) (subst (λ ps. Lead (claim ∷ []) old.frames.items (claims_in ps)) (sym pieces) a.lead);
      finished = subst (λ ps. IsFinished (claims_in ps) tree) (sym pieces) h.finished;
      turns = omega (arith, a.turns, ap turns_on frames, left, h.count, enough);
    }

pub close_absurd : (claims : List Claim) (left at : ℕ) → slice_get claims at ≡ Some False → 1 ≤ left → IsClosed claims left (Absurd at) 1
close_absurd claims left at e some = record { finished = one_turn claims (Absurd at) e tt refl; count = refl; some = omega arith; enough = some }

-- a formula of differences has no place without a turn that is left
pub some_left : (claim : Claim) (leaves : ℕ) (w : Walk) → IsAt claim leaves w → w.left ≡ 0 → OfDifferences claim → cases_of claim ≤ leaves → ⊥
some_left claim leaves w a none d enough =
    absurd (omega (arith, a.turns, none, cases_along (claim ∷ []) w.frames.items (claims_in w.pieces.items) a.lead (d, tt), cases_in_positive (claims_in w.pieces.items)))

pub open_here : (claim : Claim) (leaves : ℕ) (w : Walk) → IsAt claim leaves w → w.left ≡ 0 → IsOpenUnder claim leaves w.frames.items Unclosed
open_here claim leaves w a none = record { claims = claims_in w.pieces.items; lead = a.lead; is_open = open_none (claims_in w.pieces.items); turns = omega (arith, a.turns, none) }

pub open_spent : (claim : Claim) (leaves : ℕ) (w : Walk) (tree : Proof) → IsAt claim leaves w → IsSpent (claims_in w.pieces.items) w.left tree → IsOpenUnder claim leaves w.frames.items tree
open_spent claim leaves w tree a h = record {
  claims = claims_in w.pieces.items;
  lead = a.lead;
  is_open = record { unfinished = h.unfinished; due = h.due };
  turns = omega (arith, a.turns, h.turns);
}

-- the formula isn't one of differences if the formulas at a place aren't
pub not_all : (claim : Claim) (leaves : ℕ) (w : Walk) → IsAt claim leaves w → ¬ AreOfDifferences (claims_in w.pieces.items) → ¬ OfDifferences claim
not_all claim leaves w a other d = other (differences_along (claim ∷ []) w.frames.items (claims_in w.pieces.items) a.lead (d, tt))

pub down_parts : (claim : Claim) (leaves : ℕ) (old new : Walk) (at : ℕ) (whole left right : Piece) → new.frames.items ≡ old.frames.items ++ Parts at whole ∷ [] → new.left ≡ old.left → new.pieces.items ≡ slice_set old.pieces.items at left ++ right ∷ [] → StandsAt (claims_in old.pieces.items) at (claim_of_piece whole) × (parts_of (claim_of_piece whole) ≡ Some (claim_of_piece left, claim_of_piece right)) → IsAt claim leaves old → IsAt claim leaves new × (rank_of (weight_of claim) new < rank_of (weight_of claim) old)
down_parts claim leaves old new at whole left right frames kept pieces next a =
    let there : claims_in new.pieces.items ≡ slice_set (claims_in old.pieces.items) at (claim_of_piece left) ++ claim_of_piece right ∷ [] =
    ap claims_in pieces ∙ map-append claim_of_piece (slice_set old.pieces.items at left) (right ∷ []) ∙ ap (λ cs. cs ++ claim_of_piece right ∷ []) (claims_in-set old.pieces.items at left)
    in
    down claim leaves old new (Parts at whole) frames refl kept (record { stands = next.0; parts = (claim_of_piece left, claim_of_piece right); are_parts = next.1; is = there }) a

pub down_low : (claim : Claim) (leaves : ℕ) (old new : Walk) (at : ℕ) (whole low high : Piece) → new.frames.items ≡ old.frames.items ++ Low at whole high ∷ [] → new.left ≡ old.left → new.pieces.items ≡ slice_set old.pieces.items at low → StandsAt (claims_in old.pieces.items) at (claim_of_piece whole) × (sides_of (claim_of_piece whole) ≡ Some (claim_of_piece low, claim_of_piece high)) → IsAt claim leaves old → IsAt claim leaves new × (rank_of (weight_of claim) new < rank_of (weight_of claim) old)
down_low claim leaves old new at whole low high frames kept pieces next a =
    down claim leaves old new (Low at whole high) frames refl kept
    (record { stands = next.0; sides = (claim_of_piece low, claim_of_piece high); are_sides = next.1; waits = refl; is = ap claims_in pieces ∙ claims_in-set old.pieces.items at low }) a

-- ---- the whole decision

pub root_from : (claim : Claim) → HasNoNot claim → ClaimWithin narrow_limit claim → nodes_of claim ≤ 65536 → IsRoot claim
root_from claim no_not narrow small = record { ready = ready_from claim no_not narrow; light = omega (arith, weight_of-nodes claim, small) }

pub if_ok : {A E : Type 0} (r : Result A E) (P Q : A → Type 0) → ((x : A) → P x → Q x) → IfOk r P → IfOk r Q
if_ok (Ok x) P Q f h = f x h
if_ok (Err e) P Q f h = tt

pub no_items : {A : Type 0} (xs : List A) → length xs ≡ 0 → xs ≡ []
no_items [] e = refl
no_items (x ∷ xs) e = absurd (omega arith)
