-- The text of a sum, product by product.
use Rattle.std.proofs.Common.{◌≡◌, ◌<◌, ℕ, ◌+◌, length, drop, get_or, List, ◌∷◌, ◌++◌, refl, append_assoc}
use Rattle.carol_syntax.specs.declared.formulas.ProductDecl.{ProductDecl}
use Rattle.carol_print.specs.Pieces.{Space, text_of}
use Rattle.carol_print.specs.Canonical.{first_sign, added_sign, product, more_products, sum_of}
use Rattle.carol_print.proofs.LaidLists.{text_of_both}
use Rattle.carol_print.proofs.Texts.{item_at}

-- the first product, before the others
pub sum_begun : (xs more : List ProductDecl) (x : ProductDecl) (out new : List ℕ) → xs ≡ x ∷ more → new ≡ out ++ text_of (first_sign x.minus ++ product x) → new ++ text_of (more_products more) ≡ out ++ text_of (sum_of xs)
sum_begun xs more x out new split made =
    rw (split, made, append_assoc, ← text_of_both (first_sign x.minus ++ product x) (more_products more), append_assoc) refl

-- one product more
pub product_more : (xs : List ProductDecl) (i : ℕ) (x : ProductDecl) (out new whole : List ℕ) → i < length xs → x ≡ get_or xs i x → new ≡ out ++ text_of (Space ∷ added_sign x.minus ∷ Space ∷ product x) → out ++ text_of (more_products (drop i xs)) ≡ whole → new ++ text_of (more_products (drop (i + 1) xs)) ≡ whole
product_more xs i x out new whole lt is made so_far =
    rw (made, append_assoc, ← text_of_both (Space ∷ added_sign x.minus ∷ Space ∷ product x) (more_products (drop (i + 1) xs))) (rw (item_at xs i x lt is) at so_far)
