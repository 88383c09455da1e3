-- The way to a place, frame by frame.
use Rattle.std.proofs.Common.{◌≡◌, ℕ, ◌+◌, ◌*◌, ◌<◌, ◌≤◌, List, [], ◌∷◌, ◌++◌, length, refl, sym, ◌∙◌, ap, subst, arith, inl, inr}
use Rattle.std.specs.Prelude.{Some, slice_get, slice_set, ℤ}
use Rattle.std.specs.Option.{option_and_then}
use Rattle.std.proofs.Math.Nat.{mul_assoc, mul_comm, mul-pos, add-mul}
use Rattle.carol_formula.specs.Claim.{Claim, cases_of}
use Rattle.carol_cert.specs.Refutes.{parts_of, sides_of, parts_at, sides_at}
use Rattle.carol_elimination.specs.Due.{AreRows}
use Rattle.carol_decide.specs.Sizes.{Each, weight_in, cases_in, OfDifferences, AreOfDifferences, IsReady, AreReady}
use Rattle.carol_decide.specs.Makes.{Makes, MakesAll}
use Rattle.carol_decide.specs.Case as case
use Rattle.carol_decide.specs.Case.{Becomes, IsCaseOf}
use Rattle.carol_decide.specs.Piece.{claim_of_piece}
use Rattle.carol_decide.specs.Frames.{TakesJoined, Takes, Lead, frame_turns, turns_on}
use Rattle.carol_decide.specs.declared.frame.Frame.{Frame}
use Rattle.carol_decide.specs.declared.frame.Frame.TheVariants.{Parts, Low, High}
use Rattle.carol_decide.proofs.Forking.{have_parts, have_sides, cases_positive}
use Rattle.carol_decide.proofs.Lists.{Each-set, Each-unset, Each-at, Each-set_at, Each-push, Each-unpush, weight_in-set, weight_in-push, others, cases_in-push}

-- ---- longer and shorter ways

pub Lead-push : (claims : List Claim) (frames : List Frame) (last next : List Claim) (f : Frame) → Lead claims frames last → Takes last f next → Lead claims (frames ++ f ∷ []) next
Lead-push claims [] last next f h t = (next, subst (λ c. Takes c f next) (sym h) t, refl)
Lead-push claims (g ∷ frames) last next f h t = (h.0, h.1, Lead-push h.0 frames last next f h.2 t)

pub record EndsIn (claims : List Claim) (frames : List Frame) (f : Frame) (last : List Claim) : Type 0 where
  pub before : List Claim
  pub lead : Lead claims frames before
  pub takes : Takes before f last

pub Lead-pop : (claims : List Claim) (frames : List Frame) (f : Frame) (last : List Claim) → Lead claims (frames ++ f ∷ []) last → EndsIn claims frames f last
Lead-pop claims [] f last h = record { before = claims; lead = refl; takes = subst (Takes claims f) h.2 h.1 }
Lead-pop claims (g ∷ frames) f last h =
    let rest = Lead-pop h.0 frames f last h.2 in
    record { before = rest.before; lead = (h.0, h.1, rest.lead); takes = rest.takes }

pub turns_on-push : (frames : List Frame) (f : Frame) → turns_on (frames ++ f ∷ []) ≡ turns_on frames + frame_turns f
turns_on-push [] f = omega arith
turns_on-push (g ∷ frames) f = omega (arith, turns_on-push frames f)

-- ---- what is kept on the way

pub forth : (P : List Claim → Type 0) → ((claims : List Claim) (f : Frame) (next : List Claim) → Takes claims f next → P claims → P next) → (claims : List Claim) (frames : List Frame) (last : List Claim) → Lead claims frames last → P claims → P last
forth P step claims [] last h p = subst P h p
forth P step claims (f ∷ frames) last h p = forth P step h.0 frames last h.2 (step claims f h.0 h.1 p)

pub back : (P : List Claim → Type 0) → ((claims : List Claim) (f : Frame) (next : List Claim) → Takes claims f next → P next → P claims) → (claims : List Claim) (frames : List Frame) (last : List Claim) → Lead claims frames last → P last → P claims
back P step claims [] last h p = subst P (sym h) p
back P step claims (f ∷ frames) last h p = step claims f h.0 h.1 (back P step h.0 frames last h.2 p)

-- ---- what parts and sides have of the whole they have at a place

-- a property that parts and sides inherit
pub record IsInherited (P : Claim → Type 0) : Type 0 where
  pub parts : (whole : Claim) (p : Claim × Claim) → parts_of whole ≡ Some p → P whole → P p.0 × P p.1
  pub sides : (whole : Claim) (p : Claim × Claim) → sides_of whole ≡ Some p → P whole → P p.0 × P p.1

inherit : (P : Claim → Type 0) → IsInherited P → (claims : List Claim) (f : Frame) (next : List Claim) → Takes claims f next → Each P claims → Each P next
inherit P i claims (Parts at whole) next t h =
    let both = i.parts (claim_of_piece whole) t.parts t.are_parts (Each-at P claims at (claim_of_piece whole) t.stands h) in
    subst (Each P) (sym t.is) (Each-push P (slice_set claims at t.parts.0) t.parts.1 (Each-set P claims at t.parts.0 h both.0) both.1)
inherit P i claims (Low at whole other) next t h =
    let both = i.sides (claim_of_piece whole) t.sides t.are_sides (Each-at P claims at (claim_of_piece whole) t.stands h) in
    subst (Each P) (sym t.is) (Each-set P claims at t.sides.0 h both.0)
inherit P i claims (High at whole low) next t h =
    let both = i.sides (claim_of_piece whole) t.sides t.are_sides (Each-at P claims at (claim_of_piece whole) t.stands h) in
    subst (Each P) (sym t.is) (Each-set P claims at t.sides.1 h both.1)

ready_inherited : IsInherited IsReady
ready_inherited = record { parts = λ whole p e h. (have_parts whole p e).ready h; sides = λ whole p e h. (have_sides whole p e).ready h }

pub differences_inherited : IsInherited OfDifferences
differences_inherited = record { parts = λ whole p e h. (have_parts whole p e).differences h; sides = λ whole p e h. (have_sides whole p e).differences h }

pub ready_step : (claims : List Claim) (f : Frame) (next : List Claim) → Takes claims f next → AreReady claims → AreReady next
ready_step = inherit IsReady ready_inherited

pub differences_step : (claims : List Claim) (f : Frame) (next : List Claim) → Takes claims f next → AreOfDifferences claims → AreOfDifferences next
differences_step = inherit OfDifferences differences_inherited

pub ready_along : (claims : List Claim) (frames : List Frame) (last : List Claim) → Lead claims frames last → AreReady claims → AreReady last
ready_along = forth AreReady ready_step

pub differences_along : (claims : List Claim) (frames : List Frame) (last : List Claim) → Lead claims frames last → AreOfDifferences claims → AreOfDifferences last
differences_along = forth AreOfDifferences differences_step

-- ---- weights

pub lighter : (claims : List Claim) (f : Frame) (next : List Claim) → Takes claims f next → weight_in next < weight_in claims
lighter claims (Parts at whole) next t =
    let less = (have_parts (claim_of_piece whole) t.parts t.are_parts).lighter in
    omega (arith, ap weight_in t.is, weight_in-push (slice_set claims at t.parts.0) t.parts.1, weight_in-set claims at t.parts.0 (claim_of_piece whole) t.stands, less)
lighter claims (Low at whole other) next t =
    let less = (have_sides (claim_of_piece whole) t.sides t.are_sides).low_lighter in
    omega (arith, ap weight_in t.is, weight_in-set claims at t.sides.0 (claim_of_piece whole) t.stands, less)
lighter claims (High at whole low) next t =
    let less = (have_sides (claim_of_piece whole) t.sides t.are_sides).high_lighter in
    omega (arith, ap weight_in t.is, weight_in-set claims at t.sides.1 (claim_of_piece whole) t.stands, less)

pub no_heavier : (claims : List Claim) (frames : List Frame) (last : List Claim) → Lead claims frames last → weight_in last ≤ weight_in claims
no_heavier claims [] last h = omega (arith, ap weight_in h)
no_heavier claims (f ∷ frames) last h = omega (arith, lighter claims f h.0 h.1, no_heavier h.0 frames last h.2)

-- ---- cases

pub cases_in_positive : (claims : List Claim) → 0 < cases_in claims
cases_in_positive [] = omega arith
cases_in_positive (c ∷ claims) = mul-pos (cases_positive c) (cases_in_positive claims)

product_of_parts : (a b n : ℕ) → a * n * b ≡ a * b * n
product_of_parts a b n = mul_assoc a n b ∙ ap (λ k. a * k) (mul_comm n b) ∙ sym (mul_assoc a b n)

pub cases_parts : (claims : List Claim) (at : ℕ) (whole : Claim) (next : List Claim) → TakesJoined claims at whole next → cases_in next ≡ cases_in claims
cases_parts claims at whole next t =
    let o = others claims at whole t.stands in
    ap cases_in t.is ∙ cases_in-push (slice_set claims at t.parts.0) t.parts.1 ∙ ap (λ n. n * cases_of t.parts.1) (o.replaced t.parts.0)
    ∙ product_of_parts (cases_of t.parts.0) (cases_of t.parts.1) o.number
    ∙ ap (λ n. n * o.number) (sym (have_parts whole t.parts t.are_parts).cases) ∙ sym o.here

pub cases_sides : (claims : List Claim) (at : ℕ) (whole : Claim) (p : Claim × Claim) → slice_get claims at ≡ Some whole → sides_of whole ≡ Some p → cases_in (slice_set claims at p.0) + cases_in (slice_set claims at p.1) ≡ cases_in claims
cases_sides claims at whole p stands e =
    let o = others claims at whole stands in
    ap (λ n. n + cases_in (slice_set claims at p.1)) (o.replaced p.0) ∙ ap (λ n. cases_of p.0 * o.number + n) (o.replaced p.1)
    ∙ sym (add-mul (cases_of p.0) (cases_of p.1) o.number)
    ∙ ap (λ n. n * o.number) (sym (have_sides whole p e).cases) ∙ sym o.here

-- among differences the turns so far and the cases that are left are no more than all cases
step_cases : (claims : List Claim) (f : Frame) (next : List Claim) → Takes claims f next → AreOfDifferences claims → frame_turns f + cases_in next ≤ cases_in claims
step_cases claims (Parts at whole) next t d = omega (arith, cases_parts claims at (claim_of_piece whole) next t)
step_cases claims (Low at whole other) next t d = omega (arith, ap cases_in t.is, cases_sides claims at (claim_of_piece whole) t.sides t.stands t.are_sides)
step_cases claims (High at whole low) next t d =
    let both = differences_inherited.sides (claim_of_piece whole) t.sides t.are_sides (Each-at OfDifferences claims at (claim_of_piece whole) t.stands d) in
    let short = t.finished.short (Each-set OfDifferences claims at t.sides.0 d both.0) in
    omega (arith, ap cases_in t.is, cases_sides claims at (claim_of_piece whole) t.sides t.stands t.are_sides, short)

pub cases_along : (claims : List Claim) (frames : List Frame) (last : List Claim) → Lead claims frames last → AreOfDifferences claims → turns_on frames + cases_in last ≤ cases_in claims
cases_along claims [] last h d = omega (arith, ap cases_in h)
cases_along claims (f ∷ frames) last h d = omega (arith, step_cases claims f h.0 h.1 d, cases_along h.0 frames last h.2 (differences_step claims f h.0 h.1 d))

-- ---- numbers

made_step : (f : ℕ → ℤ) (claims : List Claim) (frame : Frame) (next : List Claim) → Takes claims frame next → MakesAll f next → MakesAll f claims
made_step f claims (Parts at whole) next t h =
    let halves = Each-unpush (Makes f) (slice_set claims at t.parts.0) t.parts.1 (subst (MakesAll f) t.is h) in
    let first = Each-set_at (Makes f) claims at t.parts.0 (claim_of_piece whole) t.stands halves.0 in
    Each-unset (Makes f) claims at t.parts.0 (claim_of_piece whole) t.stands halves.0 ((have_parts (claim_of_piece whole) t.parts t.are_parts).makes f first halves.1)
made_step f claims (Low at whole other) next t h =
    let side : MakesAll f (slice_set claims at t.sides.0) = subst (MakesAll f) t.is h in
    let first = Each-set_at (Makes f) claims at t.sides.0 (claim_of_piece whole) t.stands side in
    Each-unset (Makes f) claims at t.sides.0 (claim_of_piece whole) t.stands side ((have_sides (claim_of_piece whole) t.sides t.are_sides).makes_low f first)
made_step f claims (High at whole low) next t h =
    let side : MakesAll f (slice_set claims at t.sides.1) = subst (MakesAll f) t.is h in
    let first = Each-set_at (Makes f) claims at t.sides.1 (claim_of_piece whole) t.stands side in
    Each-unset (Makes f) claims at t.sides.1 (claim_of_piece whole) t.stands side ((have_sides (claim_of_piece whole) t.sides t.are_sides).makes_high f first)

pub made_along : (f : ℕ → ℤ) (claims : List Claim) (frames : List Frame) (last : List Claim) → Lead claims frames last → MakesAll f last → MakesAll f claims
made_along f = back (MakesAll f) (made_step f)

-- ---- a case

pub there_parts : (claims : List Claim) (at : ℕ) (whole : Claim) (p : Claim × Claim) → slice_get claims at ≡ Some whole → parts_of whole ≡ Some p → parts_at claims at ≡ Some p
there_parts claims at whole p stands e = ap (option_and_then parts_of) stands ∙ e

pub there_sides : (claims : List Claim) (at : ℕ) (whole : Claim) (p : Claim × Claim) → slice_get claims at ≡ Some whole → sides_of whole ≡ Some p → sides_at claims at ≡ Some p
there_sides claims at whole p stands e = ap (option_and_then sides_of) stands ∙ e

taken_apart : (claims : List Claim) (f : Frame) (next : List Claim) → Takes claims f next → case.TakesApart claims next
taken_apart claims (Parts at whole) next t = inl (record { at = at; parts = t.parts; there = there_parts claims at (claim_of_piece whole) t.parts t.stands t.are_parts; is = t.is })
taken_apart claims (Low at whole other) next t = inr (record { at = at; sides = t.sides; there = there_sides claims at (claim_of_piece whole) t.sides t.stands t.are_sides; is = inl t.is })
taken_apart claims (High at whole low) next t = inr (record { at = at; sides = t.sides; there = there_sides claims at (claim_of_piece whole) t.sides t.stands t.are_sides; is = inr t.is })

becomes : (claims : List Claim) (frames : List Frame) (last : List Claim) → Lead claims frames last → Becomes (length frames) claims last
becomes claims [] last h = h
becomes claims (f ∷ frames) last h = (h.0, taken_apart claims f h.0 h.1, becomes h.0 frames last h.2)

pub case_at_end : (claims : List Claim) (frames : List Frame) (last : List Claim) → Lead claims frames last → AreRows last → IsCaseOf claims last
case_at_end claims frames last h rows = record { steps = length frames; becomes = becomes claims frames last h; rows = rows }
