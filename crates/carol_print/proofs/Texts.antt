-- The text of pieces, one list after the other.
use Rattle.std.proofs.Common.{Bool, true, false, ◌≡◌, ◌<◌, ℕ, suc, ◌+◌, length, drop, map, get_or, drop-cons, add-one, sym, ap, List, [], ◌∷◌, ◌++◌, refl, append_assoc}
use Rattle.carol_print.specs.Pieces.{Piece, text_of}
use Rattle.carol_print.specs.Canonical.{concat, after_commas, with_commas, enclosed, closing}
use Rattle.carol_print.proofs.LaidLists.{text_of_both}
use Rattle.carol_print.specs.Enclosing.{opened, closed}
use Rattle.std.proofs.lemmas.List.{append-nil}

pub item_at : {A : Type 0} (xs : List A) (i : ℕ) (x : A) → i < length xs → x ≡ get_or xs i x → drop i xs ≡ x ∷ drop (i + 1) xs
item_at xs i x lt is = rw (add-one, drop-cons xs i x) (ap (λ y. y ∷ drop (suc i) xs) (sym is))

-- one item more, of texts one behind the other
pub one_more : {A : Type 0} (f : A → List Piece) (xs : List A) (i : ℕ) (x : A) (out new whole : List ℕ) → i < length xs → x ≡ get_or xs i x → new ≡ out ++ text_of (f x) → out ++ text_of (concat (map f (drop i xs))) ≡ whole → new ++ text_of (concat (map f (drop (i + 1) xs))) ≡ whole
one_more f xs i x out new whole lt is made so_far =
    rw (made, append_assoc, ← text_of_both (f x) (concat (map f (drop (i + 1) xs)))) (rw (item_at xs i x lt is) at so_far)

-- one item more, behind a comma
pub comma_more : {A : Type 0} (f : A → List Piece) (xs : List A) (i : ℕ) (x : A) (out between new whole : List ℕ) → i < length xs → x ≡ get_or xs i x → between ≡ out ++ (44 ∷ 32 ∷ []) → new ≡ between ++ text_of (f x) → out ++ text_of (after_commas (map f (drop i xs))) ≡ whole → new ++ text_of (after_commas (map f (drop (i + 1) xs))) ≡ whole
comma_more f xs i x out between new whole lt is comma made so_far =
    rw (made, comma, append_assoc, append_assoc, ← text_of_both (f x) (after_commas (map f (drop (i + 1) xs)))) (rw (item_at xs i x lt is) at so_far)

-- the first item, before those behind commas
pub commas_begun : {A : Type 0} (f : A → List Piece) (xs more : List A) (x : A) (out new : List ℕ) → xs ≡ x ∷ more → new ≡ out ++ text_of (f x) → new ++ text_of (after_commas (map f more)) ≡ out ++ text_of (with_commas (map f xs))
commas_begun f xs more x out new split made = rw (split, made, append_assoc, text_of_both (f x) (after_commas (map f more))) refl

pub enclosed_text : (needed : Bool) (ps : List Piece) → text_of (enclosed needed ps) ≡ opened needed ++ (text_of ps ++ closed needed)
enclosed_text true ps = rw (text_of_both ps (closing ∷ [])) refl
enclosed_text false ps = sym (append-nil (text_of ps))

-- a map over a map
pub map_twice : {A B C : Type 0} (g : B → C) (f : A → B) (xs : List A) → map (λ x. g (f x)) xs ≡ map g (map f xs)
map_twice g f [] = refl
map_twice g f (x ∷ xs) = ap (λ ys. g (f x) ∷ ys) (map_twice g f xs)
