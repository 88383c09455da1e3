-- What was given of the bytes that are left.
use Rattle.std.proofs.Common.{◌≡◌, ℕ, ◌+◌, ◌<◌, List, [], ◌++◌, length, take, drop, sym, ap, ◌∙◌, arith, take-append-drop, drop-drop, drop_of_length-le}

-- the front that was copied is what is gone; where that is nothing for want of bytes, nothing is left
pub gives_front : (all into : List ℕ) (at n : ℕ) → take n into ≡ take n (drop at all) → (n ≡ 0 → 0 < length into → length (drop at all) ≡ 0)
    → (drop at all ≡ take n into ++ drop (at + n) all) × (n ≡ 0 → 0 < length into → drop (at + n) all ≡ [])
gives_front all into at n front empty =
    let back : drop (at + n) all ≡ drop n (drop at all) = sym (drop-drop n at all) in (
      sym (take-append-drop n (drop at all)) ∙ ap (λ l. l ++ drop n (drop at all)) (sym front) ∙ ap (λ l. take n into ++ l) (sym back),
      λ none room. back ∙ drop_of_length-le (drop at all) {i = n} (let zero : length (drop at all) ≡ 0 = empty none room in omega arith),
    )
