-- One item of a line after another.
use Rattle.std.proofs.Common.{◌≡◌, ℕ, ◌+◌, ◌-◌, ◌<◌, ◌≤◌, zero, suc, List, [], ◌∷◌, ◌++◌, length, Result, Ok, Err, refl, sym, ◌∙◌, ap, append_assoc, append-nil, length-append, arith}
use Rattle.std.specs.Prelude.{codes}
use Rattle.carol_text.specs.Reading.{Reading, ◌>>=◌, word_at}
use Rattle.carol_event.specs.Lines.{items_at}

module _ {X : Type 0} where
  -- these items, and behind them those that reading gives
  pub behind : List X → Result (List X) ℕ → Result (List X) ℕ
  behind xs (Ok ys) = Ok (xs ++ ys)
  behind xs (Err left) = Err left

  pub behind_none : (r : Result (List X) ℕ) → behind [] r ≡ r
  unfolding behind
  behind_none (Ok ys) = refl
  behind_none (Err left) = refl

  -- at the end of the line
  pub items_end : (item : List ℕ → Reading X) (n : ℕ) (xs : List X) (left : List ℕ) (whole : Result (List X) ℕ) → length left ≡ 0 → behind xs (items_at item n left) ≡ whole → whole ≡ Ok xs
  unfolding behind items_at
  items_end item n xs [] whole h e = sym e ∙ ap (λ (ys : List X). Ok ys) (append-nil xs)
  items_end item n xs (c ∷ cs) whole h e = absurd (omega arith)

  -- no space comes next
  pub items_word : (item : List ℕ → Reading X) (n : ℕ) (xs : List X) (left : List ℕ) (bad : ℕ) (whole : Result (List X) ℕ) → 0 < length left → word_at (codes " ") left ≡ Err bad → behind xs (items_at item n left) ≡ whole → whole ≡ Err bad
  unfolding behind items_at
  items_word item n xs [] bad whole some word e = absurd (omega arith)
  items_word item zero xs (c ∷ cs) bad whole some word e = sym e ∙ rw word refl
  items_word item (suc n) xs (c ∷ cs) bad whole some word e = sym e ∙ rw word refl

  -- one item too many
  pub items_full : (item : List ℕ → Reading X) (n : ℕ) (xs : List X) (left rest : List ℕ) (whole : Result (List X) ℕ) → 0 < length left → n ≡ 0 → word_at (codes " ") left ≡ Ok rest → behind xs (items_at item n left) ≡ whole → whole ≡ Err (length rest)
  unfolding behind items_at
  items_full item n xs [] rest whole some full word e = absurd (omega arith)
  items_full item zero xs (c ∷ cs) rest whole some full word e = sym e ∙ rw word refl
  items_full item (suc n) xs (c ∷ cs) rest whole some full word e = absurd (omega arith)

  -- a bad item
  pub items_bad : (item : List ℕ → Reading X) (n : ℕ) (xs : List X) (left rest : List ℕ) (bad : ℕ) (whole : Result (List X) ℕ) → 0 < length left → 0 < n → word_at (codes " ") left ≡ Ok rest → item rest ≡ Err bad → behind xs (items_at item n left) ≡ whole → whole ≡ Err bad
  unfolding behind items_at
  items_bad item n xs [] rest bad whole some room word read e = absurd (omega arith)
  items_bad item zero xs (c ∷ cs) rest bad whole some room word read e = absurd (omega arith)
  items_bad item (suc n) xs (c ∷ cs) rest bad whole some room word read e = sym e ∙ rw (word, read) refl

  -- one more item
  pub items_more : (item : List ℕ → Reading X) (n : ℕ) (xs : List X) (left rest : List ℕ) (x : X) (after : List ℕ) → 0 < length left → 0 < n → word_at (codes " ") left ≡ Ok rest → item rest ≡ Ok (x, after) → behind xs (items_at item n left) ≡ behind (xs ++ x ∷ []) (items_at item (n - 1) after)
  unfolding behind items_at
  items_more item n xs [] rest x after some room word read = absurd (omega arith)
  items_more item zero xs (c ∷ cs) rest x after some room word read = absurd (omega arith)
  items_more item (suc n) xs (c ∷ cs) rest x after some room word read =
      let back : suc n - 1 ≡ n = omega arith
      in rw (word, read, back) (moved (items_at item n after))
    where
      moved : (r : Result (List X) ℕ) → behind xs (r >>= λ more. Ok (x ∷ more)) ≡ behind (xs ++ x ∷ []) r
      moved (Ok more) = ap (λ (ys : List X). Ok ys) (sym (append_assoc xs (x ∷ []) more))
      moved (Err left) = refl

  -- one more item in a loop that has room for sixteen
  pub items_next : (item : List ℕ → Reading X) (xs ys : List X) (left rest : List ℕ) (x : X) (after : List ℕ) (whole : Result (List X) ℕ) → ys ≡ xs ++ x ∷ [] → 0 < length left → 0 < 16 - length xs → word_at (codes " ") left ≡ Ok rest → item rest ≡ Ok (x, after) → behind xs (items_at item (16 - length xs) left) ≡ whole → (behind ys (items_at item (16 - length ys) after) ≡ whole) × (length ys ≤ 16)
  items_next item xs ys left rest x after whole are some room word read e =
      let longer : length ys ≡ length xs + 1 = ap length are ∙ length-append xs (x ∷ [])
      in let less : 16 - length ys ≡ 16 - length xs - 1 = omega arith
      in (rw (less, are) (sym (items_more item (16 - length xs) xs left rest x after some room word read) ∙ e), omega arith)
