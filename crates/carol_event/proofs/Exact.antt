-- What a part of a line is read as is spelled so, and what is spelled so is read.
use Rattle.std.proofs.Common.{◌≡◌, ℕ, ◌≤◌, zero, suc, false, List, [], ◌∷◌, ◌++◌, length, Ok, Err, ℤ, refl, append_assoc, arith}
use Rattle.std.specs.Prelude.{codes, decimal, flat_map}
use Rattle.std.specs.Fmt.{signed_decimal}
use Rattle.carol_text.specs.Number.{starts_with_digit}
use Rattle.carol_text.specs.Reading.{Reading, ◌>>=◌, word_at}
use Rattle.carol_text.proofs.Laws.{bind_ok, ok_parts, word_takes, word_again, number_takes, number_again, integer_takes, integer_again}
use Rattle.carol_store.specs.declared.effect.Atom.{Atom}
use Rattle.carol_event.specs.Lines.{at_end, atom_at, both_at, items_at, number32_at, pair_at, value_at, wide_at}
use Rattle.carol_event.specs.Numbers.{Each, IsAtom, IsNumber, IsValue, IsWide}
use Rattle.carol_event.specs.Texts.{atom_text, pair_text}

pub record IsExact {X : Type 0} (fits : X → Type 0) (text : X → List ℕ) (read : List ℕ → Reading X) : Type 0 where
  pub takes : (bytes : List ℕ) (x : X) (rest : List ℕ) → read bytes ≡ Ok (x, rest) → fits x × (bytes ≡ text x ++ rest)
  pub again : (x : X) (rest : List ℕ) → fits x → starts_with_digit rest ≡ false → read (text x ++ rest) ≡ Ok (x, rest)

pub exact_number : IsExact IsNumber decimal number32_at
exact_number = record {
  takes = λ bytes n rest e. number_takes 4_294_967_295 bytes n rest (omega arith) e;
  again = λ n rest fits end. number_again 4_294_967_295 n rest (omega arith) fits end;
}

pub exact_value : IsExact IsValue signed_decimal value_at
exact_value = record {
  takes = λ bytes z rest e. integer_takes 9_223_372_036_854_775_808 9_223_372_036_854_775_807 bytes z rest (omega arith) (omega arith) e;
  again = λ z rest fits end. integer_again 9_223_372_036_854_775_808 9_223_372_036_854_775_807 z rest (omega arith) (omega arith) fits end;
}

pub exact_wide : IsExact IsWide signed_decimal wide_at
exact_wide = record {
  takes = λ bytes z rest e.
      integer_takes 170_141_183_460_469_231_731_687_303_715_884_105_728 170_141_183_460_469_231_731_687_303_715_884_105_727 bytes z rest (omega arith) (omega arith) e;
  again = λ z rest fits end.
      integer_again 170_141_183_460_469_231_731_687_303_715_884_105_728 170_141_183_460_469_231_731_687_303_715_884_105_727 z rest (omega arith) (omega arith) fits end;
}

module _ {X Y : Type 0} (fits_x : X → Type 0) (text_x : X → List ℕ) (read_x : List ℕ → Reading X) (fits_y : Y → Type 0) (text_y : Y → List ℕ) (read_y : List ℕ → Reading Y) (word : List ℕ) where
  both_take : IsExact fits_x text_x read_x → IsExact fits_y text_y read_y → (bytes : List ℕ) (p : X × Y) (rest : List ℕ) → both_at read_x word read_y bytes ≡ Ok (p, rest) → (fits_x p.0 × fits_y p.1) × (bytes ≡ (text_x p.0 ++ (word ++ text_y p.1)) ++ rest)
  both_take first second bytes p rest e =
      let one = bind_ok (read_x bytes) (λ x. word_at word x.1 >>= λ behind. read_y behind >>= λ y. Ok ((x.0, y.0), y.1)) (p, rest) e
      in let two = bind_ok (word_at word one.0.1) (λ behind. read_y behind >>= λ y. Ok ((one.0.0, y.0), y.1)) (p, rest) one.2
      in let three = bind_ok (read_y two.0) (λ y. Ok ((one.0.0, y.0), y.1)) (p, rest) two.2
      in let same = ok_parts (one.0.0, three.0.0) p three.0.1 rest three.2
      in let left = first.takes bytes one.0.0 one.0.1 one.1
      in let right = second.takes two.0 three.0.0 three.0.1 three.1
      in taken bytes one.0.1 two.0 three.0.1 rest one.0.0 three.0.0 p left.0 right.0 left.1 (word_takes word one.0.1 two.0 two.1) right.1 same.0 same.1
    where
      joined : (a b c d : List ℕ) → a ++ (b ++ (c ++ d)) ≡ (a ++ (b ++ c)) ++ d
      joined a b c d = simp append_assoc

      taken : (bytes one two three rest : List ℕ) (x : X) (y : Y) (p : X × Y) → fits_x x → fits_y y → bytes ≡ text_x x ++ one → one ≡ word ++ two → two ≡ text_y y ++ three → ◌≡◌ {A = X × Y} (x, y) p → three ≡ rest → (fits_x p.0 × fits_y p.1) × (bytes ≡ (text_x p.0 ++ (word ++ text_y p.1)) ++ rest)
      taken bytes one two three rest x y p fx fy a b c same_p same_rest = rw (← same_p, ← same_rest, a, b, c) ((fx, fy), joined (text_x x) word (text_y y) three)

  both_again : IsExact fits_x text_x read_x → IsExact fits_y text_y read_y → ((rest : List ℕ) → starts_with_digit (word ++ rest) ≡ false) → (p : X × Y) (rest : List ℕ) → fits_x p.0 × fits_y p.1 → starts_with_digit rest ≡ false → both_at read_x word read_y ((text_x p.0 ++ (word ++ text_y p.1)) ++ rest) ≡ Ok (p, rest)
  both_again first second stops p rest fits end =
      rw (joined (text_x p.0) word (text_y p.1) rest, first.again p.0 (word ++ (text_y p.1 ++ rest)) fits.0 (stops (text_y p.1 ++ rest)), word_again word (text_y p.1 ++ rest), second.again p.1 rest fits.1 end) refl
    where
      joined : (a b c d : List ℕ) → (a ++ (b ++ c)) ++ d ≡ a ++ (b ++ (c ++ d))
      joined a b c d = simp append_assoc

  pub exact_both : IsExact fits_x text_x read_x → IsExact fits_y text_y read_y → ((rest : List ℕ) → starts_with_digit (word ++ rest) ≡ false) → IsExact (λ (p : X × Y). fits_x p.0 × fits_y p.1) (λ (p : X × Y). text_x p.0 ++ (word ++ text_y p.1)) (both_at read_x word read_y)
  exact_both first second stops = record { takes = both_take first second; again = both_again first second stops }

pub exact_pair : IsExact (λ (p : ℕ × ℕ). IsNumber p.0 × IsNumber p.1) (λ (p : ℕ × ℕ). pair_text p.0 p.1) pair_at
exact_pair = exact_both IsNumber decimal number32_at IsNumber decimal number32_at (codes " ") exact_number exact_number (λ rest. refl)

exact_cell : IsExact (λ (p : ℕ × ℤ). IsNumber p.0 × IsValue p.1) (λ (p : ℕ × ℤ). decimal p.0 ++ (codes ":" ++ signed_decimal p.1)) (both_at number32_at (codes ":") value_at)
exact_cell = exact_both IsNumber decimal number32_at IsValue signed_decimal value_at (codes ":") exact_number exact_value (λ rest. refl)

taken : (bytes after rest : List ℕ) (p : ℕ × ℤ) (x : Atom) → (IsNumber p.0 × IsValue p.1) × (bytes ≡ (decimal p.0 ++ (codes ":" ++ signed_decimal p.1)) ++ after) → record { cell = p.0; value = p.1 } ≡ x → after ≡ rest → IsAtom x × (bytes ≡ atom_text x ++ rest)
taken bytes after rest p x h same_x same_rest = rw (← same_x, ← same_rest) h

pub exact_atom : IsExact IsAtom atom_text atom_at
exact_atom = record {
  takes = λ bytes x rest e.
      (let one = bind_ok (both_at number32_at (codes ":") value_at bytes) (λ p. Ok (record { cell = p.0.0; value = p.0.1 }, p.1)) (x, rest) e
      in let same = ok_parts (record { cell = one.0.0.0; value = one.0.0.1 }) x one.0.1 rest one.2
      in let t = exact_cell.takes bytes one.0.0 one.0.1 one.1
      in taken bytes one.0.1 rest one.0.0 x t same.0 same.1);
  again = λ x rest fits end. rw (exact_cell.again (x.cell, x.value) rest fits end) refl;
}

-- the end of a line
pub end_takes : {X : Type 0} (x : X) (y : X) (rest : List ℕ) → at_end x rest ≡ Ok y → (x ≡ y) × (rest ≡ [])
end_takes x y [] e = (cc, refl)
end_takes x y (c ∷ cs) e = absurd cc

-- items up to the end of a line
module _ {X : Type 0} (fits : X → Type 0) (text : X → List ℕ) (read : List ℕ → Reading X) where
  pub items_take : IsExact fits text read → (n : ℕ) (bytes : List ℕ) (xs : List X) → items_at read n bytes ≡ Ok xs → Each fits xs × (length xs ≤ n) × (bytes ≡ flat_map (λ x. codes " " ++ text x) xs)
  unfolding items_at
  items_take exact n [] [] e = (tt, omega arith, refl)
  items_take exact n [] (x ∷ xs) e = absurd cc
  items_take exact zero (c ∷ cs) xs e =
      let one = bind_ok (word_at (codes " ") (c ∷ cs)) (λ rest. Err (length rest)) xs e
      in absurd (let bad : Err (length one.0) ≡ Ok xs = one.2 in cc)
  items_take exact (suc n) (c ∷ cs) xs e =
      let one = bind_ok (word_at (codes " ") (c ∷ cs)) (λ rest. read rest >>= λ x. items_at read n x.1 >>= λ more. Ok (x.0 ∷ more)) xs e
      in let two = bind_ok (read one.0) (λ x. items_at read n x.1 >>= λ more. Ok (x.0 ∷ more)) xs one.2
      in let three = bind_ok (items_at read n two.0.1) (λ more. Ok (two.0.0 ∷ more)) xs two.2
      in let same : two.0.0 ∷ three.0 ≡ xs = cc
      in let t = exact.takes one.0 two.0.0 two.0.1 two.1
      in let more = items_take exact n two.0.1 three.0 three.1
      in taken (c ∷ cs) one.0 two.0.1 n two.0.0 three.0 xs t.0 more.0 more.1 (word_takes (codes " ") (c ∷ cs) one.0 one.1) t.1 more.2 same
    where
      taken : (bytes one two : List ℕ) (n : ℕ) (x : X) (more xs : List X) → fits x → Each fits more → length more ≤ n → bytes ≡ codes " " ++ one → one ≡ text x ++ two → two ≡ flat_map (λ x. codes " " ++ text x) more → x ∷ more ≡ xs → Each fits xs × (length xs ≤ suc n) × (bytes ≡ flat_map (λ x. codes " " ++ text x) xs)
      taken bytes one two n x more xs f each few a b c same = rw (← same, a, b, c) ((f, each), omega (arith, few), refl)

  pub items_again : IsExact fits text read → (n : ℕ) (xs : List X) → Each fits xs → length xs ≤ n → items_at read n (flat_map (λ x. codes " " ++ text x) xs) ≡ Ok xs
  unfolding items_at
  items_again exact n [] each few = refl
  items_again exact zero (x ∷ xs) each few = absurd (omega arith)
  items_again exact (suc n) (x ∷ xs) each few =
      let rest : List ℕ = flat_map (λ x. codes " " ++ text x) xs
      in let stops : starts_with_digit rest ≡ false = items_stop xs
      in rw (word_again (codes " ") (text x ++ rest), exact.again x rest each.0 stops, items_again exact n xs each.1 (omega arith)) refl
    where
      items_stop : (xs : List X) → starts_with_digit (flat_map (λ x. codes " " ++ text x) xs) ≡ false
      items_stop [] = refl
      items_stop (x ∷ xs) = refl
