-- What the writes and cuts of a file with a gate may leave.
use Rattle.std.proofs.Common.{◌≡◌, ◌≤◌, ℕ, zero, suc, ◌+◌, min, List, [], ◌∷◌, ◌++◌, length, take, drop, get_or, refl, sym, ◌∙◌, ap, subst, inl, inr, arith, append_assoc, append-nil, length-append, take-append-drop}
use Rattle.std.proofs.lemmas.Bool.{cases_eq}
use Rattle.std.proofs.lemmas.List.{drop_at, take_all, drop_all, drop_more, take-append-le, drop-take, take-take}
use Rattle.carol_disk.specs.Disk.{CutBack, Torn, written}
use Rattle.carol_disk.specs.Gates.{EndsBehind, GrowsBy, IsShut}

-- what stands behind a shut gate does not matter
pub shut_more : (end more : List ℕ) → IsShut end → IsShut (end ++ more)
shut_more [] more shut = absurd shut
shut_more (gate ∷ end) more shut = shut

pub shut_first : (end : List ℕ) → IsShut end → IsShut (take 1 end)
shut_first [] shut = absurd shut
shut_first (gate ∷ end) shut = shut

-- a file with the front of one that ends with a shut gate
pub same_front : (file c : List ℕ) (gate : ℕ) → IsShut (drop gate file) → take (gate + 1) c ≡ take (gate + 1) file → gate + 1 ≤ length file → EndsBehind (take gate file) c
same_front file c gate shut same long = inl (
  take 1 (drop gate file) ++ drop (gate + 1) c,
  sym (take-append-drop (gate + 1) c)
      ∙ ap (λ (l : List ℕ). l ++ drop (gate + 1) c) (same ∙ split file gate)
      ∙ append_assoc (take gate file) (take 1 (drop gate file)) (drop (gate + 1) c),
  shut_more (take 1 (drop gate file)) (drop (gate + 1) c) (shut_first (drop gate file) shut),
)
  where
    split : (xs : List ℕ) (n : ℕ) → take (n + 1) xs ≡ take n xs ++ take 1 (drop n xs)
    split xs n =
        sym (take-append-drop n (take (n + 1) xs))
        ∙ ap (λ (l : List ℕ). l ++ drop n (take (n + 1) xs)) (take-take n (n + 1) xs (omega arith))
        ∙ ap (λ (l : List ℕ). take n xs ++ l) (drop-take n 1 xs)

module _ (file : List ℕ) (gate : ℕ) (long : length file ≡ gate + 1) (shut : IsShut (drop gate file)) where
  -- a write behind the gate leaves it shut
  pub torn_behind : (part c : List ℕ) → Torn (gate + 1) (gate + 1 + length part) file c → EndsBehind (take gate file) c
  torn_behind part c torn =
      let whole : min (gate + 1) (length file) ≡ gate + 1 = omega (arith, long) in
      same_front file c gate shut (ap (λ (n : ℕ). take n c) (sym whole) ∙ torn.before) (omega (arith, long))

  -- the file itself
  pub still : EndsBehind (take gate file) file
  still = same_front file file gate shut refl (omega (arith, long))

  -- the part is written, and the gate is shut
  abbrev pub staged : List ℕ → List ℕ
  staged part = file ++ part

  pub written_behind : (part : List ℕ) → written file (gate + 1) part ≡ staged part
  written_behind part =
      ap (λ (l : List ℕ). l ++ part ++ drop (gate + 1 + length part) file) (take_all (gate + 1) file (omega (arith, long)))
      ∙ ap (λ (l : List ℕ). file ++ part ++ l) (drop_all (gate + 1 + length part) file (omega (arith, long)))
      ∙ append-nil (file ++ part)

  front_staged : (part : List ℕ) → take gate (staged part) ≡ take gate file
  front_staged part = take-append-le gate file part (omega (arith, long))

  back_staged : (part : List ℕ) → drop (gate + 1) (staged part) ≡ part
  back_staged part = drop_at file part (gate + 1) long

  pub staged_ends : (part : List ℕ) → EndsBehind (take gate file) (staged part)
  staged_ends part = same_front file (staged part) gate shut (take-append-le (gate + 1) file part (omega (arith, long))) (omega (arith, long))

  -- opening the gate leaves the part whole, behind an open gate or a shut one
  pub torn_gate : (part c : List ℕ) → Torn gate (gate + 1) (staged part) c → GrowsBy (take gate file) part c
  torn_gate part c torn =
      let size : length (staged part) ≡ gate + 1 + length part = omega (arith, length-append file part, long) in
      let x = get_or c gate 0 in
      let low : min gate (length (staged part)) ≡ gate = omega (arith, size) in
      let front : take gate c ≡ take gate file = ap (λ (n : ℕ). take n c) (sym low) ∙ torn.before ∙ front_staged part in
      let rest : drop gate c ≡ x ∷ part = drop_more c gate 0 (omega (arith, size, torn.no_shorter)) ∙ ap (λ (l : List ℕ). x ∷ l) (torn.after ∙ back_staged part) in
      let whole : c ≡ take gate file ++ (x ∷ part) = sym (take-append-drop gate c) ∙ ap (λ (l : List ℕ). l ++ drop gate c) front ∙ ap (λ (l : List ℕ). take gate file ++ l) rest in
      elim (cases_eq x 1) [
        | inl is_open ↦ inr (whole ∙ ap (λ (n : ℕ). take gate file ++ (n ∷ part)) is_open)
        | inr other ↦ inl (inl (x ∷ part, whole, other))
      ]

  pub written_gate : (part : List ℕ) → written (staged part) gate (1 ∷ []) ≡ take gate file ++ 1 ∷ part
  written_gate part =
      ap (λ (l : List ℕ). l ++ (1 ∷ []) ++ drop (gate + 1) (staged part)) (front_staged part)
      ∙ ap (λ (l : List ℕ). take gate file ++ (1 ∷ []) ++ l) (back_staged part)
      ∙ append_assoc (take gate file) (1 ∷ []) part

-- a shut gate has a place in the file
pub shut_inside : (xs : List ℕ) (n : ℕ) → IsShut (drop n xs) → n + 1 ≤ length xs
shut_inside [] zero shut = absurd shut
shut_inside [] (suc n) shut = absurd shut
shut_inside (x ∷ xs) zero shut = omega arith
shut_inside (x ∷ xs) (suc n) shut = omega (arith, shut_inside xs n shut)

pub shut_taken : (file : List ℕ) (gate : ℕ) → IsShut (drop gate file) → IsShut (drop gate (take (gate + 1) file))
shut_taken file gate shut = subst IsShut (sym (drop-take gate 1 file)) (shut_first (drop gate file) shut)

-- a cut behind the gate leaves it
pub cut_behind : (file c : List ℕ) (gate : ℕ) → IsShut (drop gate file) → CutBack (gate + 1) file c → EndsBehind (take gate file) c
cut_behind file c gate shut cut =
    let inside = shut_inside file gate shut in
    let whole : min (gate + 1) (length file) ≡ gate + 1 = omega (arith, inside) in
    same_front file c gate shut (ap (λ (n : ℕ). take n c) (sym whole) ∙ cut.before) inside
