-- A name or a number begins with no `=`.
use Rattle.std.proofs.Common.{◌≡◌, ℕ, Bool, true, false, List, [], ◌∷◌, ◌++◌, refl, sym, ◌∙◌, ap, arith}
use Rattle.std.specs.Prelude.{not, ◌==◌, Option, Some, None}
use Rattle.std.proofs.lemmas.Grind.{common_steps}
use Rattle.carol_syntax.specs.declared.kind.Kind.{Kind}
use Rattle.carol_syntax.specs.declared.kind.Kind.TheVariants as k
use Rattle.carol_syntax.specs.declared.found.Found.{Found}
use Rattle.carol_syntax.specs.First.{first_token}
use Rattle.carol_print.specs.Pieces.{IsSpelled, ends_before}

-- the kind that was found, if any
abbrev kind_found : Option Found → Kind
kind_found None = k.Equals
kind_found (Some found) = found.kind

found_none : kind_found (first_token []) ≡ k.Equals
unfolding first_token
found_none = refl

found_equals : (s : List ℕ) → kind_found (first_token (61 ∷ s)) ≡ k.Equals
unfolding first_token
found_equals s = refl

is_equals : (b : ℕ) → (b == 61) ≡ true → b ≡ 61
is_equals b h = grind (arith, common_steps)

along : (b : ℕ) (s : List ℕ) (kind : Kind) → kind_found (first_token (b ∷ s)) ≡ kind → (kind ≡ k.Equals → ⊥) → (v : Bool) → (b == 61) ≡ v → not v ≡ true
along b s kind h other true e =
    let same : kind_found (first_token (b ∷ s)) ≡ kind_found (first_token (61 ∷ s)) = ap (λ n. kind_found (first_token (n ∷ s))) (is_equals b e) in
    absurd (other (sym h ∙ same ∙ found_equals s))
along b s kind h other false e = refl

unequal : (kind : Kind) (value : ℕ) (s bytes : List ℕ) → (kind ≡ k.Equals → ⊥) → IsSpelled kind value s → ends_before k.Minus (s ++ bytes) ≡ true
unequal kind value [] bytes other h = absurd (other (sym (ap kind_found h) ∙ found_none))
unequal kind value (b ∷ s) bytes other h = along b s kind (ap kind_found h) other (b == 61) refl

pub unequal_name : (s bytes : List ℕ) → IsSpelled k.Name 0 s → ends_before k.Minus (s ++ bytes) ≡ true
unequal_name s bytes h = unequal k.Name 0 s bytes (λ (e : k.Name ≡ k.Equals). cc) h

pub unequal_number : (n : ℕ) (s bytes : List ℕ) → IsSpelled k.Number n s → ends_before k.Minus (s ++ bytes) ≡ true
unequal_number n s bytes h = unequal k.Number n s bytes (λ (e : k.Number ≡ k.Equals). cc) h
