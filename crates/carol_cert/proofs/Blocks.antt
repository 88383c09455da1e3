-- The branches of a block, as one is added and as the lowest is taken away.
use Rattle.std.proofs.Common.{ℕ, zero, suc, ◌≡◌, ◌<◌, ◌≤◌, List, [], ◌∷◌, ◌++◌, length, take, get_or, map, refl, sym, ◌∙◌, ap, arith}
use Rattle.std.specs.Prelude.{slice_set}
use Rattle.std.specs.Borrow.{Bor}
use Rattle.carol_cert.specs.declared.place.Item.{Item}
use Rattle.carol_cert.specs.declared.place.Item.TheVariants.{Whole, Negative, Positive, AtMost, AtLeast}
use Rattle.carol_cert.specs.Place.{IsItem, AreItems}
use Rattle.carol_cert.specs.declared.tree.Refutation.{Refutation}
use Rattle.carol_cert.specs.Proof.{Proof, proof_of}
use Rattle.carol_cert.specs.Left.{bound_of, IsSide, AreSides}
use Rattle.carol_cert.specs.Block.{branches}

pub branches_pushed : (n : ℕ) (bounds : List Item) (trees : List (Bor Refutation)) (bound : Item) (tree : Bor Refutation) → n < length bounds → n < length trees → branches (suc n) (slice_set bounds n bound) (slice_set trees n tree) ≡ branches n bounds trees ++ (bound, proof_of tree.now) ∷ []
branches_pushed n [] trees bound tree h k = absurd (omega arith)
branches_pushed n (b ∷ bounds) [] bound tree h k = absurd (omega arith)
branches_pushed zero (b ∷ bounds) (t ∷ trees) bound tree h k = refl
branches_pushed (suc n) (b ∷ bounds) (t ∷ trees) bound tree h k = ap (λ bs. (b, proof_of t.now) ∷ bs) (branches_pushed n bounds trees bound tree (omega arith) (omega arith))

branches_split : (n : ℕ) (bounds : List Item) (trees : List (Bor Refutation)) (bound : Item) (tree : Bor Refutation) → n < length bounds → n < length trees → branches (suc n) bounds trees ≡ branches n bounds trees ++ (get_or bounds n bound, proof_of (get_or trees n tree).now) ∷ []
branches_split n [] trees bound tree h k = absurd (omega arith)
branches_split n (b ∷ bounds) [] bound tree h k = absurd (omega arith)
branches_split zero (b ∷ bounds) (t ∷ trees) bound tree h k = refl
branches_split (suc n) (b ∷ bounds) (t ∷ trees) bound tree h k = ap (λ bs. (b, proof_of t.now) ∷ bs) (branches_split n bounds trees bound tree (omega arith) (omega arith))

pub branches_popped : (count n : ℕ) (bounds : List Item) (trees : List (Bor Refutation)) (bound : Item) (tree : Bor Refutation) → count ≡ suc n → n < length bounds → n < length trees → bound ≡ get_or bounds n bound → tree ≡ get_or trees n tree → branches count bounds trees ≡ branches n bounds trees ++ (bound, proof_of tree.now) ∷ []
branches_popped count n bounds trees bound tree more h k first second =
    ap (λ m. branches m bounds trees) more
    ∙ branches_split n bounds trees bound tree h k
    ∙ ap (λ b. branches n bounds trees ++ (b, proof_of (get_or trees n tree).now) ∷ []) (sym first)
    ∙ ap (λ (t : Bor Refutation). branches n bounds trees ++ (bound, proof_of t.now) ∷ []) (sym second)

pub branches_bounds : (n : ℕ) (bounds : List Item) (trees : List (Bor Refutation)) → n ≤ length bounds → n ≤ length trees → take n bounds ≡ map bound_of (branches n bounds trees)
branches_bounds zero bounds trees h k = refl
branches_bounds (suc n) [] trees h k = absurd (omega arith)
branches_bounds (suc n) (b ∷ bounds) [] h k = absurd (omega arith)
branches_bounds (suc n) (b ∷ bounds) (t ∷ trees) h k = ap (λ bs. b ∷ bs) (branches_bounds n bounds trees (omega arith) (omega arith))

item_of_side : (bound : Item) → IsSide bound → IsItem bound
item_of_side (AtMost v k) h = h.0
item_of_side (AtLeast v k) h = h
item_of_side (Whole formula) h = h
item_of_side (Negative t) h = h
item_of_side (Positive t) h = h

pub items_of_sides : (bs : List (Item × Proof)) → AreSides bs → AreItems (map bound_of bs)
items_of_sides [] h = h
items_of_sides (b ∷ bs) h = (item_of_side b.0 h.0, items_of_sides bs h.1)

pub sides_pushed : (bs : List (Item × Proof)) (bound : Item) (tree : Proof) → AreSides bs → IsSide bound → AreSides (bs ++ (bound, tree) ∷ [])
sides_pushed [] bound tree h side = (side, h)
sides_pushed (b ∷ bs) bound tree h side = (h.0, sides_pushed bs bound tree h.1 side)

pub sides_popped : (bs : List (Item × Proof)) (bound : Item) (tree : Proof) → AreSides (bs ++ (bound, tree) ∷ []) → AreSides bs × IsSide bound
sides_popped [] bound tree h = (h.1, h.0)
sides_popped (b ∷ bs) bound tree h = let rest = sides_popped bs bound tree h.1 in ((h.0, rest.0), rest.1)
