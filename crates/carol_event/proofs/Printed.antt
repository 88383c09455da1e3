-- One part of a line after another.
use Rattle.std.proofs.Common.{◌≡◌, ℕ, ◌+◌, ◌<◌, suc, List, [], ◌∷◌, ◌++◌, length, take, drop, get_or, drop-cons, add-one, Some, Result, Ok, Err, ◌∙◌, ap, append_assoc, append-nil}
use Rattle.std.specs.Prelude.{slice_get, flat_map, IsErr}
use Rattle.std.proofs.lemmas.Bool.{false≢true}
use Rattle.std.proofs.lemmas.Grind.{flat_map-append}
use Rattle.std.proofs.lemmas.List.{take_more}
use Rattle.std.proofs.lemmas.Option.{slice_get_within, get_or_from_slice_get}
use Rattle.carol_event.specs.Pushes.{Appends}

-- the parts of a list, one further
pub parts_more : {X : Type 0} (part : X → List ℕ) (out : List ℕ) (xs : List X) (i : ℕ) (x : X) (whole : List ℕ) → slice_get xs i ≡ Some x → out ++ flat_map part (drop i xs) ≡ whole → (out ++ part x) ++ flat_map part (drop (i + 1) xs) ≡ whole
parts_more {X} part out xs i x whole at h =
    let inside : i < length xs = slice_get_within xs i x at
    in let here : drop i xs ≡ x ∷ drop (i + 1) xs = rw add-one (drop-cons xs i x inside ∙ ap (λ (y : X). y ∷ drop (suc i) xs) (get_or_from_slice_get xs i x x at))
    in append_assoc out (part x) (flat_map part (drop (i + 1) xs)) ∙ rw here at h

-- the front of a list, one part longer
pub parts_front : {X : Type 0} (part : X → List ℕ) (old out new : List ℕ) (xs : List X) (i : ℕ) (d : X) → i < length xs → out ≡ old ++ flat_map part (take i xs) → new ≡ out ++ part (get_or xs i d) → new ≡ old ++ flat_map part (take (i + 1) xs)
parts_front {X} part old out new xs i d inside so_far one =
    let more : flat_map part (take (i + 1) xs) ≡ flat_map part (take i xs) ++ part (get_or xs i d) = rw (take_more xs i d inside, flat_map-append part (take i xs) (get_or xs i d ∷ [])) (ap (λ (t : List ℕ). flat_map part (take i xs) ++ t) (append-nil (part (get_or xs i d))))
    in rw (more, one, so_far) (append_assoc old (flat_map part (take i xs)) (part (get_or xs i d)))

-- what stood there stays in front
pub front_kept : {T E : Type 0} (r : Result T E) (old front out more text new : List ℕ) → IsErr r → out ≡ old ++ front → new ≡ out ++ more → Appends r old text new
front_kept (Ok done) old front out more text new err so_far one = absurd (false≢true err)
front_kept (Err error) old front out more text new err so_far one = (front ++ more, rw (one, so_far) (append_assoc old front more))
