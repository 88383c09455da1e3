-- The entries that are chosen from a list, and what they come to.
use Rattle.std.proofs.Common.{◌≡◌, ◌≢◌, ℕ, ◌+◌, ◌<◌, ◌≤◌, zero, suc, Bool, true, false, cond, List, [], ◌∷◌, ◌++◌, length, Some, refl, ap, add-zero, arith}
use Rattle.std.specs.Prelude.{slice_get}
use Rattle.carol_store.specs.Actions.{Commutes, act_all, chosen_from}
use Rattle.carol_store.proofs.Actions.{act_all-first}

module _ {E : Type 0} where
  -- two choices that agree on the entries
  pub chosen_from-same : (f g : ℕ → Bool) (k : ℕ) (es : List E) → ((i : ℕ) → k ≤ i → i < k + length es → f i ≡ g i) → chosen_from f k es ≡ chosen_from g k es
  chosen_from-same f g k [] h = refl
  chosen_from-same f g k (e ∷ es) h =
      let rest : chosen_from f (k + 1) es ≡ chosen_from g (k + 1) es = chosen_from-same f g (k + 1) es (λ i low high. h i (omega arith) (omega arith))
      in let here : f k ≡ g k = h k (omega arith) (omega arith)
      in rw (here, rest) refl

  -- all are chosen
  pub chosen_from-all : (f : ℕ → Bool) (k : ℕ) (es : List E) → ((i : ℕ) → k ≤ i → i < k + length es → f i ≡ true) → chosen_from f k es ≡ es
  chosen_from-all f k [] h = refl
  chosen_from-all f k (e ∷ es) h =
      let rest : chosen_from f (k + 1) es ≡ es = chosen_from-all f (k + 1) es (λ i low high. h i (omega arith) (omega arith))
      in let here : f k ≡ true = h k (omega arith) (omega arith)
      in rw (here, rest) refl

  -- one more entry
  pub chosen_from-push : (f : ℕ → Bool) (k : ℕ) (es : List E) (last : E) → chosen_from f k (es ++ last ∷ []) ≡ chosen_from f k es ++ cond (f (k + length es)) (last ∷ []) []
  chosen_from-push f k [] last = rw add-zero refl
  chosen_from-push f k (e ∷ es) last =
      let q : k + 1 + length es ≡ k + suc (length es) = omega arith
      in let rest : chosen_from f (k + 1) (es ++ last ∷ []) ≡ chosen_from f (k + 1) es ++ cond (f (k + suc (length es))) (last ∷ []) [] = rw (← q) (chosen_from-push f (k + 1) es last)
      in push_at (f k) _ _ _ rest
    where
      push_at : (b : Bool) (xs ys zs : List E) → xs ≡ ys ++ zs → cond b (e ∷ xs) xs ≡ cond b (e ∷ ys) ys ++ zs
      push_at true xs ys zs q = ap (λ (r : List E). e ∷ r) q
      push_at false xs ys zs q = q

module _ {E S : Type 0} where
  -- one more entry is chosen, which comes to the same as if it came last
  pub act_all-chosen : (act : E → S → S) → Commutes act → (f g : ℕ → Bool) (k j : ℕ) (es : List E) (e : E) (s : S) → slice_get es j ≡ Some e → f (k + j) ≡ false → g (k + j) ≡ true → ((i : ℕ) → i ≢ k + j → g i ≡ f i) → act_all act (chosen_from g k es) s ≡ act e (act_all act (chosen_from f k es) s)
  act_all-chosen act commute f g k j [] e s at off on others = cc
  act_all-chosen act commute f g k zero (x ∷ xs) e s at off on others =
      let is : x ≡ e = cc
      in let no : f k ≡ false = rw add-zero at off
      in let yes : g k ≡ true = rw add-zero at on
      in let rest : chosen_from g (k + 1) xs ≡ chosen_from f (k + 1) xs = chosen_from-same g f (k + 1) xs (λ i low high. others i (omega arith))
      in rw (yes, no, rest, ← is) (act_all-first act commute x (chosen_from f (k + 1) xs) s)
  act_all-chosen act commute f g k (suc j) (x ∷ xs) e s at off on others =
      let q : k + suc j ≡ k + 1 + j = omega arith
      in let off' : f (k + 1 + j) ≡ false = rw q at off
      in let on' : g (k + 1 + j) ≡ true = rw q at on
      in let here : g k ≡ f k = others k (omega arith)
      in let rest : (y : S) → act_all act (chosen_from g (k + 1) xs) y ≡ act e (act_all act (chosen_from f (k + 1) xs) y) =
      λ y. act_all-chosen act commute f g (k + 1) j xs e y at off' on' (λ i ne. others i (omega arith))
      in rw here (chosen_at (f k) _ _ rest)
    where
      chosen_at : (b : Bool) (G F : List E) → ((y : S) → act_all act G y ≡ act e (act_all act F y)) → act_all act (cond b (x ∷ G) G) s ≡ act e (act_all act (cond b (x ∷ F) F) s)
      chosen_at true G F rest = rest (act x s)
      chosen_at false G F rest = rest s
