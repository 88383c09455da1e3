-- The variables of rows, added from the last row to the first.
use Rattle.std.proofs.Common.{ℕ, ◌≡◌, List, [], ◌∷◌, ◌++◌, refl, ◌∙◌, ap, arith}
use Rattle.std.specs.Prelude.{ℤ}
use Rattle.std.specs.BTreeSet.{insert_key}
use Rattle.std.specs.Ordering.{nat_cmp}
use Rattle.std.proofs.lemmas.Bool.Decides.{nat_tests}
use Rattle.carol_formula.specs.Linear.{Linear}
use Rattle.carol_formula.specs.declared.term.Row.{Row}
use Rattle.carol_elimination.specs.Stage.{with_variable, with_pairs, variables}
use Rattle.carol_elimination.specs.Entries.{terms_of}
use Rattle.carol_elimination.proofs.Extending.{map-push}

-- the variables of the rows, added to others
abbrev pub with_rows : List Linear → List ℕ → List ℕ
with_rows [] vs = vs
with_rows (r ∷ rows) vs = with_pairs r.pairs (with_rows rows vs)

pub with_pairs-push : (ps : List (ℕ × ℤ)) (p : ℕ × ℤ) (vs : List ℕ) → with_pairs (ps ++ p ∷ []) vs ≡ with_pairs ps (with_variable p.0 vs)
with_pairs-push [] p vs = refl
with_pairs-push (q ∷ ps) p vs = ap (with_variable q.0) (with_pairs-push ps p vs)

with_rows-push : (rows : List Linear) (r : Linear) (vs : List ℕ) → with_rows (rows ++ r ∷ []) vs ≡ with_rows rows (with_pairs r.pairs vs)
with_rows-push [] r vs = refl
with_rows-push (s ∷ rows) r vs = ap (with_pairs s.pairs) (with_rows-push rows r vs)

pub with_terms-push : (rows : List Row) (r : Row) (vs : List ℕ) → with_rows (terms_of (rows ++ r ∷ [])) vs ≡ with_rows (terms_of rows) (with_pairs r.0.pairs vs)
with_terms-push rows r vs = ap (λ (rs : List Linear). with_rows rs vs) (map-push (λ (s : Row). s.0) rows r) ∙ with_rows-push (terms_of rows) r.0 vs

pub variables-with_rows : (rows : List Linear) → with_rows rows [] ≡ variables rows
variables-with_rows [] = refl
variables-with_rows (r ∷ rows) = ap (with_pairs r.pairs) (variables-with_rows rows)

pub insert_key-is : (ks : List ℕ) (v : ℕ) → insert_key nat_cmp ks v ≡ with_variable v ks
insert_key-is [] v = refl
insert_key-is (k ∷ ks) v = grind (arith, nat_tests, insert_key-is ks v)
