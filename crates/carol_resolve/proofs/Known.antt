-- Which names a scope knows.
use Rattle.std.proofs.Common.{◌≡◌, ℕ, ◌+◌, Bool, true, false, ◌||◌, sym, List, [], ◌∷◌, ◌++◌, map, Option, Some, None, refl, ap, ◌∙◌}
use Rattle.std.specs.Prelude.{is_some, if◌then◌else◌}
use Rattle.std.specs.Str.{bytes_eq}
use Rattle.std.proofs.Math.Bool.{or-false, or_assoc}
use Rattle.std.proofs.lemmas.Slice.Eq.{bytes_eq-Decides}
use Rattle.carol_syntax.specs.declared.places.Ident.{Ident}
use Rattle.carol_syntax.specs.Files.{NamedFormula}
use Rattle.carol_meaning.specs.declared.meaning.Meaning.{Meaning}
use Rattle.carol_meaning.specs.declared.meaning.Meaning.TheVariants.{Parameter, Elsewhere}
use Rattle.carol_meaning.specs.Declarations.{is_among}
use Rattle.carol_meaning.specs.Scopes.{Scope, meaning_of, unless_known, declared}
use Rattle.carol_meaning.specs.Operations.{with_params, with_queries}
use Rattle.carol_meaning.specs.Stores.{words}

-- the scope has a meaning for the word
abbrev pub is_known : List ℕ → Scope → Bool
is_known word scope = is_some (meaning_of word scope)

only-known : (b : Bool) (m : Meaning) → is_some (if b then Some m else None) ≡ b
only-known true m = refl
only-known false m = refl

before-known : (b c : Bool) (m : Meaning) (rest whole : Option Meaning) → is_some whole ≡ (is_some rest || c) → is_some (if b then Some m else whole) ≡ (is_some (if b then Some m else rest) || c)
before-known true c m rest whole h = refl
before-known false c m rest whole h = h

appended-known : (word name : List ℕ) (m : Meaning) (scope : Scope) → is_known word (scope ++ (name, m) ∷ []) ≡ (is_known word scope || bytes_eq word name)
appended-known word name m [] = only-known (bytes_eq word name) m
appended-known word name m (e ∷ es) =
    before-known (bytes_eq word e.0) (bytes_eq word name) e.1 (meaning_of word es) (meaning_of word (es ++ (name, m) ∷ [])) (appended-known word name m es)

-- a name that is known already
same-known : (b : Bool) (word name : List ℕ) (scope : Scope) → (b ≡ true → word ≡ name) → is_known name scope ≡ true → is_known word scope ≡ (is_known word scope || b)
same-known false word name scope same known = sym (or-false (is_known word scope))
same-known true word name scope same known =
    let here : is_known word scope ≡ true = ap (λ w. is_known w scope) (same refl) ∙ known in
    here ∙ sym (ap (λ k. k || true) here)

unless-known : (o : Option Meaning) (b : Bool) (word : List ℕ) (wider scope : Scope) → is_known word wider ≡ (is_known word scope || b) → (is_some o ≡ true → is_known word scope ≡ (is_known word scope || b)) → is_known word (unless_known o wider scope) ≡ (is_known word scope || b)
unless-known None b word wider scope fresh again = fresh
unless-known (Some m) b word wider scope fresh again = again refl

-- one name more is known
declared-known : (word name : List ℕ) (m : Meaning) (scope : Scope) → is_known word (declared name m scope) ≡ (is_known word scope || bytes_eq word name)
declared-known word name m scope =
    unless-known (meaning_of name scope) (bytes_eq word name) word (scope ++ (name, m) ∷ []) scope
    (appended-known word name m scope)
    (same-known (bytes_eq word name) word name scope (bytes_eq-Decides word name).0)

-- behind parameters their names are known, and what was known before
params-known : (word : List ℕ) (n : ℕ) (scope : Scope) (ps : List NamedFormula) → is_known word (with_params n scope ps) ≡ (is_known word scope || is_among word (words (map (λ p. p.name) ps)))
params-known word n scope [] = sym (or-false (is_known word scope))
params-known word n scope (p ∷ ps) =
    params-known word (n + 1) (declared p.name.word (Parameter n) scope) ps ∙
    ap (λ b. b || is_among word (words (map (λ q. q.name) ps))) (declared-known word p.name.word (Parameter n) scope) ∙
    or_assoc (is_known word scope) (bytes_eq word p.name.word) (is_among word (words (map (λ q. q.name) ps)))

-- one query more
pub query-more : (params : List NamedFormula) (known scope new whole : Scope) (name : Ident) (here on : List Ident) → here ≡ name ∷ on → known ≡ with_params 0 [] params → new ≡ (if is_known name.word known then scope else declared name.word Elsewhere scope) → with_queries (words (map (λ p. p.name) params)) scope here ≡ whole → with_queries (words (map (λ p. p.name) params)) new on ≡ whole
query-more params known scope new whole name here on is all made so_far =
    ap (λ s. with_queries (words (map (λ p. p.name) params)) s on)
    (made ∙ ap (λ b. if b then scope else declared name.word Elsewhere scope) (ap (is_known name.word) all ∙ params-known name.word 0 [] params)) ∙
    ap (with_queries (words (map (λ p. p.name) params)) scope) (sym is) ∙
    so_far
