-- The end of a body at a level: a choice, whose bodies are a level deeper, or a return.
use Rattle.std.proofs.Common.{◌≡◌, ℕ, zero, suc, true, false, cond, List, [], ◌∷◌, refl, ◌∙◌, ap, arith, ◌⊎◌, inl, inr}
use Rattle.carol_grammar.specs.Reading.{Reading, reads, reads_deep, reads_within, next_in}
use Rattle.carol_syntax.specs.declared.lexeme.Lexeme.{Lexeme}
use Rattle.carol_syntax.specs.declared.kind.Kind.TheVariants as k
use Rattle.carol_grammar.specs.Terminals.{class_of, number_of}
use Rattle.carol_grammar.specs.Rules.{Knot, KnotValue, carol, ending, starts_of, answer, choice, term, first_product, next_product, product, multiple, times_value, value, plain_value, dotted, path, member, name, size_value, sized, outcome_value}

-- what stands a level deeper doesn't count
flat : (bytes : List ℕ) (n : ℕ) (deep other : (v : Knot) → List Lexeme → Reading Lexeme (KnotValue v)) (ts : List Lexeme) → reads class_of starts_of n deep (answer bytes) ts ≡ reads class_of starts_of n other (answer bytes) ts
unfolding answer term first_product next_product product multiple times_value value plain_value dotted path member name size_value sized outcome_value
flat bytes n deep other ts = refl

pub ending_above : (bytes : List ℕ) (n d m : ℕ) (ts : List Lexeme) → d ≡ suc m → next_in class_of (number_of k.If ∷ []) ts ≡ true → reads_deep (carol bytes) n d ending ts ≡ reads_within (carol bytes) n m (choice bytes) ts
ending_above bytes n d m ts h e =
    ap (λ x. reads_deep (carol bytes) n x ending ts) h
    ∙ ap (λ b. cond b (reads_within (carol bytes) n m (choice bytes) ts) (reads_within (carol bytes) n m (answer bytes) ts)) e

pub ending_plain : (bytes : List ℕ) (n d : ℕ) (ts : List Lexeme) → (d ≡ 0) ⊎ (next_in class_of (number_of k.If ∷ []) ts ≡ false) → reads_deep (carol bytes) n d ending ts ≡ reads_within (carol bytes) n d (answer bytes) ts
ending_plain bytes n zero ts h = flat bytes n (λ w us. Reading.stuck us) (reads_deep (carol bytes) n zero) ts
ending_plain bytes n (suc d) ts (inl h) = absurd (omega arith)
ending_plain bytes n (suc d) ts (inr h) =
    ap (λ b. cond b (reads_within (carol bytes) n d (choice bytes) ts) (reads_within (carol bytes) n d (answer bytes) ts)) h
    ∙ flat bytes n (reads_deep (carol bytes) n d) (reads_deep (carol bytes) n (suc d)) ts
