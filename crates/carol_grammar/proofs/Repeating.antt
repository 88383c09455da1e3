use Rattle.std.proofs.Common.{◌≡◌, ℕ, zero, suc, ◌+◌, ◌-◌, ◌<◌, Bool, true, false, cond, List, [], ◌∷◌, ◌++◌, refl, sym, ◌∙◌, ap, arith, append_assoc}
use Rattle.std.proofs.lemmas.List.{append-nil}
use Rattle.carol_grammar.specs.Reading.{Reading, onward, giving, read_many, behind}
use Rattle.carol_grammar.specs.Reading.Reading.{got, stuck}

-- A loop that reads one value after another: at any turn the values so far and what is still read
-- are the whole.

behind_one : {T A : Type 0} (front : List A) (v : A) (z : Reading T (List A)) → behind front (giving (λ vs. v ∷ vs) z) ≡ behind (front ++ v ∷ []) z
behind_one front v (got vs rest) = ap (λ z. got z rest) (sym (append_assoc front (v ∷ []) vs))
behind_one front v (stuck rest) = refl

one_turn : {T A : Type 0} (m : ℕ) (more : List T → Bool) (r : List T → Reading T A) (front : List A) (ts : List T) (z : Reading T A) → more ts ≡ true → r ts ≡ z → behind front (read_many (suc m) more r ts) ≡ behind front (onward z (λ v rest. giving (λ vs. v ∷ vs) (read_many m more r rest)))
one_turn m more r front ts z h e =
    ap (λ b. behind front (cond b (onward (r ts) (λ v rest. giving (λ vs. v ∷ vs) (read_many m more r rest))) (got [] ts))) h
    ∙ ap (λ b. behind front (onward b (λ v rest. giving (λ vs. v ∷ vs) (read_many m more r rest)))) e

left_over : (n i : ℕ) → i < n → n - i ≡ suc (n - (i + 1))
left_over n i h = omega arith

pub many_on : {T A : Type 0} (n i : ℕ) (more : List T → Bool) (r : List T → Reading T A) (front : List A) (ts : List T) (v : A) (mid : List T) → i < n → more ts ≡ true → r ts ≡ got v mid → behind front (read_many (n - i) more r ts) ≡ behind (front ++ v ∷ []) (read_many (n - (i + 1)) more r mid)
many_on n i more r front ts v mid h b e =
    ap (λ m. behind front (read_many m more r ts)) (left_over n i h) ∙ one_turn (n - (i + 1)) more r front ts (got v mid) b e ∙ behind_one front v (read_many (n - (i + 1)) more r mid)

pub many_stuck : {T A : Type 0} (n i : ℕ) (more : List T → Bool) (r : List T → Reading T A) (front : List A) (ts rest : List T) → i < n → more ts ≡ true → r ts ≡ stuck rest → behind front (read_many (n - i) more r ts) ≡ stuck rest
many_stuck n i more r front ts rest h b e =
    ap (λ m. behind front (read_many m more r ts)) (left_over n i h) ∙ one_turn (n - (i + 1)) more r front ts (stuck rest) b e

pub many_over : {T A : Type 0} (m : ℕ) (more : List T → Bool) (r : List T → Reading T A) (front : List A) (ts : List T) → more ts ≡ false → behind front (read_many m more r ts) ≡ got front ts
many_over zero more r front ts b = ap (λ z. got z ts) (append-nil front)
many_over (suc m) more r front ts b =
    ap (λ c. behind front (cond c (onward (r ts) (λ v rest. giving (λ vs. v ∷ vs) (read_many m more r rest))) (got [] ts))) b ∙ ap (λ z. got z ts) (append-nil front)
