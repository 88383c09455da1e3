-- An operation under other guards is one over the same cells and guards, and under its own it is itself.
use Rattle.std.proofs.Common.{◌≡◌, ◌<◌, ◌≤◌, ◌+◌, ℕ, List, [], ◌∷◌, ◌++◌, length, get_or, refl, sym, ◌∙◌, ap, subst, arith, append_assoc, length-append}
use Rattle.std.specs.Prelude.{max}
use Rattle.std.specs.List.{AllByRecursion}
use Rattle.std.proofs.Math.Seq.{get_or-append_seam}
use Rattle.carol_store.specs.declared.shape.CellKind.{CellKind}
use Rattle.carol_program.specs.Bodies.{Body, Query, Issue, Release, Branch, Return, queries_in, last_number, depth}
use Rattle.carol_program.specs.Rules.{OpRules}
use Rattle.carol_program.specs.Limits.{most_depth, most_queries, most_statements}
use Rattle.carol_program.specs.WellFormed.{IsFitBody, IsOpOver, RisesFrom, Setting, SlotsFrom, setting_of}
use Rattle.carol_advise_guards.specs.Under.{Assigns, IsAssignment, guarded, guards_in, op_under}
use Rattle.carol_advise_guards.proofs.Lists.{all-append, at_or}

-- ---- what doesn't look at guards

pub queries-same : (gs : List ℕ) (body : Body) → queries_in (guarded gs body) ≡ queries_in body
queries-same gs (Query number guard slot next) = ap (λ n. n + 1) (queries-same gs next)
queries-same gs (Issue number parts next) = queries-same gs next
queries-same gs (Release number next) = queries-same gs next
queries-same gs (Branch number test first second) = ap (λ n. n + queries_in (guarded gs second)) (queries-same gs first) ∙ ap (λ n. queries_in first + n) (queries-same gs second)
queries-same gs (Return number value) = refl

last-same : (gs : List ℕ) (body : Body) → last_number (guarded gs body) ≡ last_number body
last-same gs (Query number guard slot next) = last-same gs next
last-same gs (Issue number parts next) = last-same gs next
last-same gs (Release number next) = last-same gs next
last-same gs (Branch number test first second) = last-same gs second
last-same gs (Return number value) = refl

depth-same : (gs : List ℕ) (body : Body) → depth (guarded gs body) ≡ depth body
depth-same gs (Query number guard slot next) = depth-same gs next
depth-same gs (Issue number parts next) = depth-same gs next
depth-same gs (Release number next) = depth-same gs next
depth-same gs (Branch number test first second) = ap (λ n. max n (depth (guarded gs second)) + 1) (depth-same gs first) ∙ ap (λ n. max (depth first) n + 1) (depth-same gs second)
depth-same gs (Return number value) = refl

rises : (gs : List ℕ) (low : ℕ) (body : Body) → RisesFrom low body → RisesFrom low (guarded gs body)
rises gs low (Query number guard slot next) h = (h.0, rises gs (number + 1) next h.1)
rises gs low (Issue number parts next) h = (h.0, rises gs (number + 1) next h.1)
rises gs low (Release number next) h = (h.0, rises gs (number + 1) next h.1)
rises gs low (Branch number test first second) h =
    (h.0, rises gs (number + 1) first h.1, subst (λ n. RisesFrom (n + 1) (guarded gs second)) (sym (last-same gs first)) (rises gs (last_number first + 1) second h.2))
rises gs low (Return number value) h = h

in_order : (gs : List ℕ) (low : ℕ) (body : Body) → SlotsFrom low body → SlotsFrom low (guarded gs body)
in_order gs low (Query number guard slot next) h = (h.0, in_order gs (low + 1) next h.1)
in_order gs low (Issue number parts next) h = in_order gs low next h
in_order gs low (Release number next) h = in_order gs low next h
in_order gs low (Branch number test first second) h =
    (in_order gs low first h.0, subst (λ n. SlotsFrom (low + n) (guarded gs second)) (sym (queries-same gs first)) (in_order gs (low + queries_in first) second h.1))
in_order gs low (Return number value) h = h

-- ---- guards that are declared

fits : (s : Setting) (gs slots : List ℕ) (body : Body) → AllByRecursion (λ g. g < s.guards) gs → IsFitBody s slots body → IsFitBody s slots (guarded gs body)
fits s gs slots (Query number guard slot next) all h = (at_or (λ g. g < s.guards) gs slot guard all h.0, fits s gs (slot ∷ slots) next all h.1)
fits s gs slots (Issue number parts next) all h = (h.0, fits s gs slots next all h.1)
fits s gs slots (Release number next) all h = fits s gs slots next all h
fits s gs slots (Branch number test first second) all h = (h.0, fits s gs slots first all h.1, fits s gs slots second all h.2)
fits s gs slots (Return number value) all h = h

pub stays_over : (kinds : List CellKind) (guards : ℕ) (op : OpRules) (gs : List ℕ) → IsOpOver kinds guards op → Assigns guards op gs → IsOpOver kinds guards (op_under gs op)
stays_over kinds guards op gs over assigns = record {
  few_params = over.few_params;
  params = over.params;
  result = over.result;
  body = fits (setting_of kinds guards op) gs [] op.body assigns.declared over.body;
  numbers = rises gs 1 op.body over.numbers;
  few_statements = subst (λ n. n ≤ most_statements) (sym (last-same gs op.body)) over.few_statements;
  slots = in_order gs 0 op.body over.slots;
  few_queries = subst (λ n. n ≤ most_queries) (sym (queries-same gs op.body)) over.few_queries;
  shallow = subst (λ n. n ≤ most_depth) (sym (depth-same gs op.body)) over.shallow;
}

-- ---- its own guards

own-count : (body : Body) → length (guards_in body) ≡ queries_in body
own-count (Query number guard slot next) = let e = own-count next in omega (arith, e)
own-count (Issue number parts next) = own-count next
own-count (Release number next) = own-count next
own-count (Branch number test first second) = let e = own-count first in let f = own-count second in omega (arith, e, f, length-append (guards_in first) (guards_in second))
own-count (Return number value) = refl

own-declared : (s : Setting) (slots : List ℕ) (body : Body) → IsFitBody s slots body → AllByRecursion (λ g. g < s.guards) (guards_in body)
own-declared s slots (Query number guard slot next) h = (h.0, own-declared s (slot ∷ slots) next h.1)
own-declared s slots (Issue number parts next) h = own-declared s slots next h.1
own-declared s slots (Release number next) h = own-declared s slots next h
own-declared s slots (Branch number test first second) h =
    all-append (λ g. g < s.guards) (guards_in first) (guards_in second) (own-declared s slots first h.1) (own-declared s slots second h.2)
own-declared s slots (Return number value) h = tt

pub own_assigns : (kinds : List CellKind) (guards : ℕ) (op : OpRules) → IsOpOver kinds guards op → Assigns guards op (guards_in op.body)
own_assigns kinds guards op over = record {
  count = own-count op.body;
  declared = own-declared (setting_of kinds guards op) [] op.body over.body;
}

-- among the guards of a longer list
own_among : (before behind : List ℕ) (body : Body) → SlotsFrom (length before) body → guarded (before ++ (guards_in body ++ behind)) body ≡ body
own_among before behind (Query number guard slot next) h =
    let longer : SlotsFrom (length (before ++ guard ∷ [])) next = subst (λ n. SlotsFrom n next) (sym (length-append before (guard ∷ []))) h.1 in
    let same : guarded (before ++ (guard ∷ (guards_in next ++ behind))) next ≡ next =
    subst (λ gs. guarded gs next ≡ next) (append_assoc before (guard ∷ []) (guards_in next ++ behind)) (own_among (before ++ guard ∷ []) behind next longer) in
    let own : get_or (before ++ (guard ∷ (guards_in next ++ behind))) slot guard ≡ guard =
    subst (λ k. get_or (before ++ (guard ∷ (guards_in next ++ behind))) k guard ≡ guard) (sym h.0) (get_or-append_seam before guard (guards_in next ++ behind) guard) in
    ap (λ g. Query number g slot (guarded (before ++ (guard ∷ (guards_in next ++ behind))) next)) own ∙ ap (Query number guard slot) same
own_among before behind (Issue number parts next) h = ap (Issue number parts) (own_among before behind next h)
own_among before behind (Release number next) h = ap (Release number) (own_among before behind next h)
own_among before behind (Branch number test first second) h =
    let left = own_among before (guards_in second ++ behind) first h.0 in
    let low : SlotsFrom (length (before ++ guards_in first)) second =
    subst (λ n. SlotsFrom n second) (ap (λ n. length before + n) (sym (own-count first)) ∙ sym (length-append before (guards_in first))) h.1 in
    let right : guarded (before ++ (guards_in first ++ (guards_in second ++ behind))) second ≡ second =
    subst (λ gs. guarded gs second ≡ second) (append_assoc before (guards_in first) (guards_in second ++ behind)) (own_among (before ++ guards_in first) behind second low) in
    subst (λ gs. guarded (before ++ gs) (Branch number test first second) ≡ Branch number test first second) (sym (append_assoc (guards_in first) (guards_in second) behind))
    (ap (λ b. Branch number test b (guarded (before ++ (guards_in first ++ (guards_in second ++ behind))) second)) left ∙ ap (Branch number test first) right)
own_among before behind (Return number value) h = refl

append_none : (xs : List ℕ) → xs ++ [] ≡ xs
append_none [] = refl
append_none (x ∷ xs) = ap (λ ys. x ∷ ys) (append_none xs)

abbrev with_body : OpRules → Body → OpRules
with_body op b = record { params = op.params; result = op.result; body = b }

pub own_same : (kinds : List CellKind) (guards : ℕ) (op : OpRules) → IsOpOver kinds guards op → op_under (guards_in op.body) op ≡ op
own_same kinds guards op over =
    let same : guarded (guards_in op.body) op.body ≡ op.body =
    subst (λ gs. guarded gs op.body ≡ op.body) (append_none (guards_in op.body)) (own_among [] [] op.body over.slots) in
    ap (with_body op) same
