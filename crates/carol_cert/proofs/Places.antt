-- What a place stands for, change by change, and what it has at a number of a `u32`.
use Rattle.std.proofs.Common.{◌≡◌, ◌≢◌, ℕ, zero, suc, ◌<◌, ◌+◌, ◌^◌, List, [], ◌∷◌, length, get_or, map, ap, sym, ◌∙◌, subst, arith}
use Rattle.std.specs.Prelude.{Some, slice_get}
use Rattle.std.specs.Option.{option_map}
use Rattle.std.specs.Borrow.{Bor}
use Rattle.std.proofs.lemmas.Option.{slice_get-map}
use Rattle.carol_formula.specs.declared.formula.Formula.{Formula}
use Rattle.carol_formula.specs.Tree.{claim_of}
use Rattle.carol_cert.specs.declared.place.Item.{Item}
use Rattle.carol_cert.specs.declared.place.Place.{Place, fold-roll-Place}
use Rattle.carol_cert.specs.declared.place.Place.TheOpen.{Place-F}
use Rattle.carol_cert.specs.declared.place.Place.TheVariants as shape
use Rattle.carol_cert.specs.Place.{Changes, Root, More, Replaced, changes_at, changes_of, claims_after, claims_at, claim_of_item, AreItems, AreRight, IsItem, IsPlace}
use Rattle.carol_cert.proofs.Gets.{slice_get-front, slice_get-back, slice_get-set_same, slice_get-set_other}

pub changes_of-Root : (formulas : Bor (List Formula)) → changes_of (shape.Root formulas) ≡ Root (map claim_of formulas.now)
changes_of-Root formulas = ap changes_of (sym (shape.rolls-Root formulas)) ∙ fold-roll-Place Changes changes_at (Place-F.Root formulas)

pub changes_of-More : (number : ℕ) (items : Bor (List Item)) (before : Bor Place) → changes_of (shape.More number items before) ≡ More number items.now (changes_of before.now)
changes_of-More number items before =
    ap changes_of (sym (shape.rolls-More number items before)) ∙ fold-roll-Place Changes changes_at (Place-F.More number items before)

pub changes_of-Replaced : (number : ℕ) (item : Item) (before : Bor Place) → changes_of (shape.Replaced number item before) ≡ Replaced number item (changes_of before.now)
changes_of-Replaced number item before =
    ap changes_of (sym (shape.rolls-Replaced number item before)) ∙ fold-roll-Place Changes changes_at (Place-F.Replaced number item before)

-- ---- at a number of a `u32`

there : (number at k : ℕ) (items : List Item) (before : Changes) → at ≡ number + k → at < 2 ^ 32 → AreRight (More number items before) → slice_get (claims_after (More number items before)) at ≡ option_map claim_of_item (slice_get items k)
there number at k items before e small right =
    slice_get-back (claims_after before) (map claim_of_item items) at k (let h = right.0 in omega arith) ∙ slice_get-map claim_of_item items k

elsewhere : (number at : ℕ) (items : List Item) (before : Changes) → at < number → AreRight (More number items before) → slice_get (claims_after (More number items before)) at ≡ slice_get (claims_after before) at
elsewhere number at items before low right =
    slice_get-front (claims_after before) (map claim_of_item items) at (let h = right.0 in omega arith)

pub more_there : (place : Place) (number at k : ℕ) (items : Bor (List Item)) (before : Bor Place) → place ≡ shape.More number items before → at ≡ number + k → at < 2 ^ 32 → IsPlace place → slice_get (claims_at place) at ≡ option_map claim_of_item (slice_get items.now k)
more_there place number at k items before is e small right =
    let shown : changes_of place ≡ More number items.now (changes_of before.now) = ap changes_of is ∙ changes_of-More number items before in
    ap (λ changes. slice_get (claims_after changes) at) shown ∙ there number at k items.now (changes_of before.now) e small (subst AreRight shown right)

pub more_elsewhere : (place : Place) (number at : ℕ) (items : Bor (List Item)) (before : Bor Place) → place ≡ shape.More number items before → at < number → IsPlace place → slice_get (claims_at place) at ≡ slice_get (claims_at before.now) at
more_elsewhere place number at items before is low right =
    let shown : changes_of place ≡ More number items.now (changes_of before.now) = ap changes_of is ∙ changes_of-More number items before in
    ap (λ changes. slice_get (claims_after changes) at) shown ∙ elsewhere number at items.now (changes_of before.now) low (subst AreRight shown right)

pub more_right : (place : Place) (number : ℕ) (items : Bor (List Item)) (before : Bor Place) → place ≡ shape.More number items before → IsPlace place → AreItems items.now × IsPlace before.now
more_right place number items before is right =
    let shown : changes_of place ≡ More number items.now (changes_of before.now) = ap changes_of is ∙ changes_of-More number items before in
    let h = subst AreRight shown right in (h.1, h.2)

-- each of the items is one
pub item_of_items : (items : List Item) (k : ℕ) (other : Item) → AreItems items → k < length items → IsItem (get_or items k other)
item_of_items [] k other are h = absurd (omega arith)
item_of_items (item ∷ items) zero other are h = are.0
item_of_items (item ∷ items) (suc k) other are h = item_of_items items k other are.1 (omega arith)

pub replaced_there : (place : Place) (number at : ℕ) (item : Item) (before : Bor Place) → place ≡ shape.Replaced number item before → number ≡ at → IsPlace place → slice_get (claims_at place) at ≡ Some (claim_of_item item)
replaced_there place number at item before is e right =
    let shown : changes_of place ≡ Replaced number item (changes_of before.now) = ap changes_of is ∙ changes_of-Replaced number item before in
    let h = subst AreRight shown right in
    ap (λ changes. slice_get (claims_after changes) at) shown
    ∙ ap (slice_get (claims_after (Replaced number item (changes_of before.now)))) (sym e)
    ∙ slice_get-set_same (claims_at before.now) (claim_of_item item) number h.0

pub replaced_elsewhere : (place : Place) (number at : ℕ) (item : Item) (before : Bor Place) → place ≡ shape.Replaced number item before → number ≢ at → slice_get (claims_at place) at ≡ slice_get (claims_at before.now) at
replaced_elsewhere place number at item before is ne =
    let shown : changes_of place ≡ Replaced number item (changes_of before.now) = ap changes_of is ∙ changes_of-Replaced number item before in
    ap (λ changes. slice_get (claims_after changes) at) shown
    ∙ slice_get-set_other (claims_at before.now) (claim_of_item item) number at (λ e. ne (sym e))

pub replaced_right : (place : Place) (number : ℕ) (item : Item) (before : Bor Place) → place ≡ shape.Replaced number item before → IsPlace place → IsItem item × IsPlace before.now
replaced_right place number item before is right =
    let shown : changes_of place ≡ Replaced number item (changes_of before.now) = ap changes_of is ∙ changes_of-Replaced number item before in
    let h = subst AreRight shown right in (h.1, h.2)

pub root_at : (place : Place) (formulas : Bor (List Formula)) (at : ℕ) → place ≡ shape.Root formulas → slice_get (claims_at place) at ≡ option_map claim_of (slice_get formulas.now at)
root_at place formulas at is =
    ap (λ changes. slice_get (claims_after changes) at) (ap changes_of is ∙ changes_of-Root formulas) ∙ slice_get-map claim_of formulas.now at
