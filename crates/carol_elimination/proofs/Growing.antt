-- Rows that are added after others.
use Rattle.std.proofs.Common.{ℕ, ◌<◌, ◌≡◌, List, [], ◌∷◌, ◌++◌, length, refl, sym, ◌∙◌, ap, arith}
use Rattle.std.proofs.lemmas.List.{get_or_append_left, get_or_push, length-map, length_push}
use Rattle.std.specs.Prelude.{pos}
use Rattle.carol_formula.specs.Linear.{Linear, constant_of}
use Rattle.carol_cert.specs.declared.step.RowStep.{RowStep}
use Rattle.carol_elimination.specs.Derived.{row_at}
use Rattle.carol_elimination.specs.Entries.{rows_of, row_in, AreInside, rows_in, Grow}

pub rows_of-push : (entries : List (RowStep × Linear)) (e : RowStep × Linear) → rows_of (entries ++ e ∷ []) ≡ rows_of entries ++ e.1 ∷ []
rows_of-push [] e = refl
rows_of-push (f ∷ entries) e = ap (λ rs. f.1 ∷ rs) (rows_of-push entries e)

pub length-rows_of : (entries : List (RowStep × Linear)) → length (rows_of entries) ≡ length entries
length-rows_of entries = length-map entries (λ e. e.1)

pub row_in-before : (entries : List (RowStep × Linear)) (e : RowStep × Linear) (k : ℕ) → k < length entries → row_in (entries ++ e ∷ []) k ≡ row_in entries k
row_in-before entries e k h = ap (λ (rs : List Linear). row_at rs k) (rows_of-push entries e) ∙ get_or_append_left (rows_of entries) (e.1 ∷ []) (constant_of (pos 0)) k (omega (arith, length-rows_of entries))

pub row_in-last : (entries : List (RowStep × Linear)) (e : RowStep × Linear) (k : ℕ) → k ≡ length entries → row_in (entries ++ e ∷ []) k ≡ e.1
row_in-last entries e k h = ap (λ (rs : List Linear). row_at rs k) (rows_of-push entries e) ∙ get_or_push (rows_of entries) e.1 (constant_of (pos 0)) k (length-rows_of entries ∙ sym h)

pub grow_refl : (entries : List (RowStep × Linear)) → Grow entries entries
grow_refl entries = record { longer = omega arith; same = λ k h. refl }

pub grow_trans : (old some new : List (RowStep × Linear)) → Grow old some → Grow some new → Grow old new
grow_trans old some new g h = record {
  longer = let a = g.longer in let b = h.longer in omega arith;
  same = λ k l. let a = g.longer in h.same k (omega arith) ∙ g.same k l;
}

pub grow_push : (entries : List (RowStep × Linear)) (e : RowStep × Linear) → Grow entries (entries ++ e ∷ [])
grow_push entries e = record { longer = omega (arith, length_push entries e); same = λ k h. row_in-before entries e k h }

pub inside_grow : (old new : List (RowStep × Linear)) (ks : List ℕ) → Grow old new → AreInside old ks → AreInside new ks
inside_grow old new [] g h = tt
inside_grow old new (k ∷ ks) g h = (let a = g.longer in omega (arith, h.0), inside_grow old new ks g h.1)

pub rows_in_grow : (old new : List (RowStep × Linear)) (ks : List ℕ) → Grow old new → AreInside old ks → rows_in new ks ≡ rows_in old ks
rows_in_grow old new [] g h = refl
rows_in_grow old new (k ∷ ks) g h = ap (λ r. r ∷ rows_in new ks) (g.same k h.0) ∙ ap (λ rs. row_in old k ∷ rs) (rows_in_grow old new ks g h.1)
