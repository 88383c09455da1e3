-- A loop that reads one member after another and puts each to what is there: at any turn what is
-- there, with what is still read, is the whole.
use Rattle.std.proofs.Common.{◌≡◌, ℕ, suc, ◌+◌, ◌-◌, ◌<◌, Bool, true, cond, List, [], ◌∷◌, fold, refl, ◌∙◌, ap, arith}
use Rattle.carol_grammar.specs.Reading.{Reading, onward, giving, read_many}
use Rattle.carol_grammar.specs.Reading.Reading.{got, stuck}
use Rattle.carol_syntax.specs.declared.lexeme.Lexeme.{Lexeme}

module _ {A : Type 0} (f : A → A → A) where
  along : (v w : A) (z : Reading Lexeme (List A)) → giving (fold f v) (giving (λ ws. w ∷ ws) z) ≡ giving (fold f (f v w)) z
  along v w (got vs rest) = refl
  along v w (stuck rest) = refl

  one_turn : (m : ℕ) (more : List Lexeme → Bool) (r : List Lexeme → Reading Lexeme A) (v : A) (ts : List Lexeme) (z : Reading Lexeme A) → more ts ≡ true → r ts ≡ z → giving (fold f v) (read_many (suc m) more r ts) ≡ giving (fold f v) (onward z (λ w rest. giving (λ ws. w ∷ ws) (read_many m more r rest)))
  one_turn m more r v ts z h e =
      ap (λ b. giving (fold f v) (cond b (onward (r ts) (λ w rest. giving (λ ws. w ∷ ws) (read_many m more r rest))) (got [] ts))) h
      ∙ ap (λ b. giving (fold f v) (onward b (λ w rest. giving (λ ws. w ∷ ws) (read_many m more r rest)))) e

  pub fold_on : (n i : ℕ) (more : List Lexeme → Bool) (r : List Lexeme → Reading Lexeme A) (v : A) (ts : List Lexeme) (w : A) (mid : List Lexeme) → i < n → more ts ≡ true → r ts ≡ got w mid → giving (fold f v) (read_many (n - i) more r ts) ≡ giving (fold f (f v w)) (read_many (n - (i + 1)) more r mid)
  fold_on n i more r v ts w mid h b e =
      let left : n - i ≡ suc (n - (i + 1)) = omega arith in
      ap (λ m. giving (fold f v) (read_many m more r ts)) left ∙ one_turn (n - (i + 1)) more r v ts (got w mid) b e ∙ along v w (read_many (n - (i + 1)) more r mid)
