-- A literal at a level: one that others stand in, a level deeper, or one that no other stands in.
use Rattle.std.proofs.Common.{◌≡◌, ℕ, zero, suc, true, false, cond, List, [], ◌∷◌, refl, ◌∙◌, ap, arith, ◌⊎◌, inl, inr}
use Rattle.carol_grammar.specs.Reading.{Reading, reads, reads_deep, reads_within, next_in}
use Rattle.carol_syntax.specs.declared.lexeme.Lexeme.{Lexeme}
use Rattle.carol_syntax.specs.declared.kind.Kind.TheVariants as k
use Rattle.carol_grammar.specs.Terminals.{class_of, number_of}
use Rattle.carol_grammar.specs.Rules.{Knot, KnotValue, carol, literal, starts_of, atom_literal, nested_literal, comparison, term, first_product, next_product, product, multiple, times_value, value, plain_value, dotted, path, member, name, size_value, sized, outcome_value, sign}

-- what stands a level deeper doesn't count
flat : (bytes : List ℕ) (n : ℕ) (deep other : (v : Knot) → List Lexeme → Reading Lexeme (KnotValue v)) (ts : List Lexeme) → reads class_of starts_of n deep (atom_literal bytes) ts ≡ reads class_of starts_of n other (atom_literal bytes) ts
unfolding atom_literal comparison term first_product next_product product multiple times_value value plain_value dotted path member name size_value sized outcome_value sign
flat bytes n deep other ts = refl

abbrev opens : List ℕ
opens = number_of k.Not ∷ number_of k.Opening ∷ []

pub literal_above : (bytes : List ℕ) (n d m : ℕ) (ts : List Lexeme) → d ≡ suc m → next_in class_of opens ts ≡ true → reads_deep (carol bytes) n d literal ts ≡ reads_within (carol bytes) n m nested_literal ts
literal_above bytes n d m ts h e =
    ap (λ x. reads_deep (carol bytes) n x literal ts) h
    ∙ ap (λ b. cond b (reads_within (carol bytes) n m nested_literal ts) (reads_within (carol bytes) n m (atom_literal bytes) ts)) e

pub literal_plain : (bytes : List ℕ) (n d : ℕ) (ts : List Lexeme) → (d ≡ 0) ⊎ (next_in class_of opens ts ≡ false) → reads_deep (carol bytes) n d literal ts ≡ reads_within (carol bytes) n d (atom_literal bytes) ts
literal_plain bytes n zero ts h = flat bytes n (λ w us. Reading.stuck us) (reads_deep (carol bytes) n zero) ts
literal_plain bytes n (suc d) ts (inl h) = absurd (omega arith)
literal_plain bytes n (suc d) ts (inr h) =
    ap (λ b. cond b (reads_within (carol bytes) n d nested_literal ts) (reads_within (carol bytes) n d (atom_literal bytes) ts)) h
    ∙ flat bytes n (reads_deep (carol bytes) n d) (reads_deep (carol bytes) n (suc d)) ts
