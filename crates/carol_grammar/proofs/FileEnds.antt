-- A file has a word `end`.
use Rattle.std.proofs.Common.{◌≡◌, ℕ, zero, suc, Bool, true, false, ◌||◌, cond, eqb, nat_le, List, [], ◌∷◌, ◌++◌, refl, sym, ◌∙◌, ap, append_assoc}
use Rattle.carol_syntax.specs.Files.{FileTree}
use Rattle.carol_syntax.specs.declared.kind.Kind.{Kind}
use Rattle.carol_syntax.specs.declared.kind.Kind.TheVariants as k
use Rattle.carol_syntax.specs.declared.lexeme.Lexeme.{Lexeme}
use Rattle.carol_syntax.specs.Limits.{largest}
use Rattle.carol_grammar.specs.Terminals.{number_of, class_of, numeral, class_of_more, class_of_none}
use Rattle.carol_grammar.specs.Rules.{file, program, IsFileOf}
use Rattle.carol_grammar.specs.Limits.{is_end}

-- one of the tokens is the word
abbrev pub HasEnd : List Lexeme → Type 0
HasEnd ts = (front : List Lexeme) × (t : Lexeme) × (more : List Lexeme) × (ts ≡ front ++ t ∷ more) × (is_end t.kind ≡ true)

end_left : (ts xs ys : List Lexeme) → ts ≡ xs ++ ys → HasEnd xs → HasEnd ts
end_left ts xs ys e h = (h.0, h.1, h.2 ++ ys, e ∙ ap (λ z. z ++ ys) h.3 ∙ append_assoc h.0 (h.1 ∷ h.2) ys, h.4)

end_right : (ts xs ys : List Lexeme) → ts ≡ xs ++ ys → HasEnd ys → HasEnd ts
end_right ts xs ys e h = (xs ++ h.0, h.1, h.2, e ∙ ap (λ z. xs ++ z) h.3 ∙ sym (append_assoc xs h.0 (h.1 ∷ h.2)), h.4)

no_numeral : (n : ℕ) → eqb (numeral n) (number_of k.End) ≡ false
unfolding number_of
no_numeral zero = refl
no_numeral (suc zero) = refl
no_numeral (suc (suc n)) = of_test (nat_le (suc (suc n)) largest)
  where
    of_test : (b : Bool) → eqb (cond b class_of_more class_of_none) (number_of k.End) ≡ false
    of_test true = refl
    of_test false = refl

kind_is_end : (kind : Kind) (value : ℕ) → eqb (cond (eqb (number_of kind) (number_of k.Number)) (numeral value) (number_of kind)) (number_of k.End) ≡ true → is_end kind ≡ true
unfolding number_of is_end
kind_is_end k.End value h = refl
kind_is_end k.Number value h = let n = no_numeral value in cc (n, h)
kind_is_end _ value h = cc

class_is_end : (t : Lexeme) → (eqb (class_of t) (number_of k.End) || false) ≡ true → is_end t.kind ≡ true
unfolding class_of
class_is_end t h = kind_is_end t.kind t.value (sym (or_false_right (eqb (class_of t) (number_of k.End))) ∙ h)
  where
    or_false_right : (b : Bool) → (b || false) ≡ b
    or_false_right true = refl
    or_false_right false = refl

pub file_has_end : (bytes : List ℕ) (tail : ℕ) (ts : List Lexeme) (f : FileTree) → IsFileOf bytes tail ts f → HasEnd ts
unfolding file program
file_has_end bytes tail ts f (n, s) =
    let parts = s.1 in
    let led = parts.3.1.1 in
    let cells = led.4 in
    let invariant = cells.4 in
    let guards = invariant.4 in
    let ops = guards.4.1 in
    let last = ops.4 in
    let here : HasEnd ops.1 = ([], last.0, [], last.1, class_is_end last.0 last.2) in
    end_left ts parts.0 parts.1 parts.2
    (end_right parts.0 led.0 led.1 led.2
    (end_right led.1 cells.0 cells.1 cells.2
    (end_right cells.1 invariant.0 invariant.1 invariant.2
    (end_right invariant.1 guards.0 guards.1 guards.2
    (end_right guards.1 ops.0 ops.1 ops.2 here)))))
