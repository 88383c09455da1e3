-- A loop that reads one member after another, whose trees are seen as plain data: at any turn what
-- is there, with what is still read, is the whole.
use Rattle.std.proofs.Common.{◌≡◌, ℕ, ◌+◌, ◌-◌, ◌<◌, Bool, true, List, [], ◌∷◌, ◌++◌, map, refl, sym, ◌∙◌, ap}
use Rattle.carol_grammar.specs.Reading.{Reading, read_many, behind}
use Rattle.carol_grammar.specs.Reading.Reading.{got}
use Rattle.carol_grammar.proofs.Repeating.{many_on}
use Rattle.carol_syntax.specs.declared.lexeme.Lexeme.{Lexeme}

map_one : {X A : Type 0} (view : X → A) (xs : List X) (x : X) → map view (xs ++ x ∷ []) ≡ map view xs ++ view x ∷ []
map_one view [] x = refl
map_one view (y ∷ xs) x = ap (λ zs. view y ∷ zs) (map_one view xs x)

module _ {X A : Type 0} (view : X → A) where
  -- one turn
  pub seen_on : (n i : ℕ) (more : List Lexeme → Bool) (r : List Lexeme → Reading Lexeme A) (all new : List X) (x : X) (ts mid : List Lexeme) (whole : Reading Lexeme (List A)) → behind (map view all) (read_many (n - i) more r ts) ≡ whole → new ≡ all ++ x ∷ [] → i < n → more ts ≡ true → r ts ≡ got (view x) mid → behind (map view new) (read_many (n - (i + 1)) more r mid) ≡ whole
  seen_on n i more r all new x ts mid whole inv e h b got_one =
      ap (λ xs. behind (map view xs) (read_many (n - (i + 1)) more r mid)) e
      ∙ ap (λ zs. behind zs (read_many (n - (i + 1)) more r mid)) (map_one view all x)
      ∙ sym (many_on n i more r (map view all) ts (view x) mid h b got_one)
      ∙ inv
