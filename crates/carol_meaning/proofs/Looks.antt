-- The ways to look a value up: over one store, over two, and in an operation by its scope.
use Rattle.std.proofs.Common.{◌≡◌, ℕ, zero, suc, ◌+◌, Bool, true, false, List, [], ◌∷◌, ◌++◌, length, arith, refl}
use Rattle.std.specs.Prelude.{Option, Some, None, IfSome}
use Rattle.std.specs.List.{AllByRecursion, flat_map}
use Rattle.std.specs.Str.{bytes_eq}
use Rattle.std.proofs.lemmas.Option.{slice_get_within}
use Rattle.carol_store.specs.declared.shape.CellKind.{CellKind}
use Rattle.carol_formula.specs.Linear.{Linear}
use Rattle.carol_syntax.specs.declared.places.Ident.{Ident}
use Rattle.carol_syntax.specs.declared.cells.CellDecl.{CellDecl}
use Rattle.carol_syntax.specs.declared.formulas.ValueDecl.{ValueDecl}
use Rattle.carol_syntax.specs.declared.formulas.ValueKind.{ValueKind}
use Rattle.carol_syntax.specs.declared.formulas.ValueKind.TheVariants.{Outcome, Plain, Here, There, Size, SizeHere, SizeThere}
use Rattle.carol_program.specs.Variables.{cell_variable, there_variable, param_variable, result_variable, query_variable, IsAmong, AreAmong}
use Rattle.carol_meaning.specs.declared.named.Named.{Named}
use Rattle.carol_meaning.specs.declared.named.Named.TheVariants.{Cell, Members, Missing}
use Rattle.carol_meaning.specs.declared.meaning.Meaning.{Meaning}
use Rattle.carol_meaning.specs.declared.meaning.Meaning.TheVariants.{Parameter, Queried, Bound, Elsewhere}
use Rattle.carol_meaning.specs.Cells.{kinds_in, named}
use Rattle.carol_meaning.specs.Stores.{words, ones, cell_value, set_value, no_value, path_named, look_one, in_invariant, look_two, in_guard}
use Rattle.carol_meaning.specs.Scopes.{Scope, meaning_of, unless_known, declared, bound_value, plain_value, size_value, look_plain, look_size, look_in, in_scope}
use Rattle.carol_meaning.proofs.Lists.{All-append, either-way}
use Rattle.carol_meaning.proofs.Among.{Widens, HaveRange, AreAmong-wider}
use Rattle.carol_meaning.proofs.Terms.{IsFoundIn, LooksIn}
use Rattle.carol_meaning.proofs.Cells.{IsNamedIn, named-in}

-- ---- what names stand for

-- the variables that the name stands for lie in the ranges, where stores have so many cells
abbrev pub IsMeaningIn : List (ℕ × ℕ) → ℕ → Meaning → Type 0
IsMeaningIn ranges cells (Parameter number) = IsAmong ranges (param_variable number)
IsMeaningIn ranges cells (Queried slot) = HaveRange ranges (query_variable slot 0) cells
IsMeaningIn ranges cells (Bound term) = IfSome term (λ t. AreAmong ranges t.pairs)
IsMeaningIn ranges cells Elsewhere = Unit {0}

abbrev pub AreMeaningsIn : List (ℕ × ℕ) → ℕ → Scope → Type 0
AreMeaningsIn ranges cells scope = AllByRecursion (λ e. IsMeaningIn ranges cells e.1) scope

meaning-wider : (some more : List (ℕ × ℕ)) (cells : ℕ) → Widens some more → (m : Meaning) → IsMeaningIn some cells m → IsMeaningIn more cells m
meaning-wider some more cells wider (Parameter number) h = wider (param_variable number) h
meaning-wider some more cells wider (Queried slot) h = λ v l k. wider v (h v l k)
meaning-wider some more cells wider (Bound None) h = tt
meaning-wider some more cells wider (Bound (Some t)) h = AreAmong-wider some more wider t.pairs h
meaning-wider some more cells wider Elsewhere h = tt

pub meanings-wider : (some more : List (ℕ × ℕ)) (cells : ℕ) → Widens some more → (scope : Scope) → AreMeaningsIn some cells scope → AreMeaningsIn more cells scope
meanings-wider some more cells wider [] h = tt
meanings-wider some more cells wider (e ∷ es) h = (meaning-wider some more cells wider e.1 h.0, meanings-wider some more cells wider es h.1)

unless-in : (ranges : List (ℕ × ℕ)) (cells : ℕ) (known : Option Meaning) (wider scope : Scope) → AreMeaningsIn ranges cells wider → AreMeaningsIn ranges cells scope → AreMeaningsIn ranges cells (unless_known known wider scope)
unless-in ranges cells None wider scope h k = h
unless-in ranges cells (Some m) wider scope h k = k

pub declared-in : (ranges : List (ℕ × ℕ)) (cells : ℕ) (word : List ℕ) (m : Meaning) (scope : Scope) → IsMeaningIn ranges cells m → AreMeaningsIn ranges cells scope → AreMeaningsIn ranges cells (declared word m scope)
declared-in ranges cells word m scope h k =
    unless-in ranges cells (meaning_of word scope) (scope ++ (word, m) ∷ []) scope (All-append (λ e. IsMeaningIn ranges cells e.1) scope ((word, m) ∷ []) k (h, tt)) k

known-in : (ranges : List (ℕ × ℕ)) (cells : ℕ) (word : List ℕ) (scope : Scope) → AreMeaningsIn ranges cells scope → IfSome (meaning_of word scope) (IsMeaningIn ranges cells)
known-in ranges cells word [] h = tt
known-in ranges cells word (e ∷ es) h = either-way (λ o. IfSome o (IsMeaningIn ranges cells)) (bytes_eq word e.0) (Some e.1) (meaning_of word es) h.0 (known-in ranges cells word es h.1)

-- ---- cells and sets

module _ (ranges : List (ℕ × ℕ)) where
  cell-found : (kinds : List CellKind) (base : ℕ) (v : ValueDecl) (found : Named) → HaveRange ranges base (length kinds) → IsNamedIn kinds found → IsFoundIn ranges (cell_value base v found)
  cell-found kinds base v (Cell number kind) range h = (range (base + number) (omega arith) (omega (arith, slice_get_within kinds number kind h)), tt)
  cell-found kinds base v _ range h = tt

  ones-among : (first count : ℕ) → HaveRange ranges first count → AreAmong ranges (ones first count)
  ones-among first zero range = tt
  ones-among first (suc count) range = (range first (omega arith) (omega arith), ones-among (first + 1) count (λ v h k. range v (omega (arith, h)) (omega (arith, k))))

  set-found : (kinds : List CellKind) (base : ℕ) (v : ValueDecl) (found : Named) → HaveRange ranges base (length kinds) → IsNamedIn kinds found → IsFoundIn ranges (set_value base v found)
  set-found kinds base v (Members first count) range h = ones-among (base + first) count (λ w l k. range w (omega (arith, l)) (omega (arith, k, h)))
  set-found kinds base v _ range h = tt

  none-found : (v : ValueDecl) (found : Named) → IsFoundIn ranges (no_value v found)
  none-found v Missing = tt
  none-found v _ = tt

  bound-found : (term : Option Linear) → IfSome term (λ t. AreAmong ranges t.pairs) → IsFoundIn ranges (bound_value term)
  bound-found None h = tt
  bound-found (Some t) h = h

module _ (ranges : List (ℕ × ℕ)) (cells : List CellDecl) where
  abbrev count : ℕ
  count = length (flat_map kinds_in cells)

  cell-at : (base : ℕ) (v : ValueDecl) (path : List (List ℕ)) → HaveRange ranges base count → IsFoundIn ranges (cell_value base v (named cells path))
  cell-at base v path range = cell-found ranges (flat_map kinds_in cells) base v (named cells path) range (named-in cells path)

  set-at : (base : ℕ) (v : ValueDecl) (path : List (List ℕ)) → HaveRange ranges base count → IsFoundIn ranges (set_value base v (named cells path))
  set-at base v path range = set-found ranges (flat_map kinds_in cells) base v (named cells path) range (named-in cells path)

  -- ---- in the invariant and in guards

  one-found : HaveRange ranges (cell_variable 0) count → (kind : ValueKind) (v : ValueDecl) → IsFoundIn ranges (look_one cells kind v)
  one-found range Plain v = cell-at (cell_variable 0) v (words v.parts) range
  one-found range Size v = set-at (cell_variable 0) v (words v.parts) range
  one-found range _ v = tt

  pub invariant-looks : HaveRange ranges (cell_variable 0) count → LooksIn ranges (in_invariant cells)
  invariant-looks range v = one-found range v.kind v

  two-found : HaveRange ranges (cell_variable 0) count → HaveRange ranges (there_variable 0) count → (kind : ValueKind) (v : ValueDecl) → IsFoundIn ranges (look_two cells kind v)
  two-found here there Here v = cell-at (cell_variable 0) v (words v.parts) here
  two-found here there There v = cell-at (there_variable 0) v (words v.parts) there
  two-found here there SizeHere v = set-at (cell_variable 0) v (words v.parts) here
  two-found here there SizeThere v = set-at (there_variable 0) v (words v.parts) there
  two-found here there Plain v = none-found ranges v (path_named cells v)
  two-found here there _ v = tt

  pub guard-looks : HaveRange ranges (cell_variable 0) count → HaveRange ranges (there_variable 0) count → LooksIn ranges (in_guard cells)
  guard-looks here there v = two-found here there v.kind v

  -- ---- in an operation

  plain-found : (v : ValueDecl) (rest : List Ident) (known : Option Meaning) → IfSome known (IsMeaningIn ranges count) → IsFoundIn ranges (plain_value cells v rest known)
  plain-found v rest None h = tt
  plain-found v [] (Some (Parameter number)) h = (h, tt)
  plain-found v (i ∷ more) (Some (Queried slot)) h = cell-at (query_variable slot 0) v (words (i ∷ more)) h
  plain-found v [] (Some (Bound term)) h = bound-found ranges term h
  plain-found v _ (Some _) h = tt

  size-found : (v : ValueDecl) (rest : List Ident) (known : Option Meaning) → IfSome known (IsMeaningIn ranges count) → IsFoundIn ranges (size_value cells v rest known)
  size-found v rest None h = tt
  size-found v (i ∷ more) (Some (Queried slot)) h = set-at (query_variable slot 0) v (words (i ∷ more)) h
  size-found v [] (Some (Queried slot)) h = tt
  size-found v _ (Some _) h = tt

  module _ (scope : Scope) (meanings : AreMeaningsIn ranges count scope) where
    look-plain-found : (v : ValueDecl) (parts : List Ident) → IsFoundIn ranges (look_plain cells scope v parts)
    look-plain-found v [] = tt
    look-plain-found v (i ∷ rest) = plain-found v rest (meaning_of i.word scope) (known-in ranges count i.word scope meanings)

    look-size-found : (v : ValueDecl) (parts : List Ident) → IsFoundIn ranges (look_size cells scope v parts)
    look-size-found v [] = tt
    look-size-found v (i ∷ rest) = size-found v rest (meaning_of i.word scope) (known-in ranges count i.word scope meanings)

    look-in-found : (outcome : Bool) → (outcome ≡ true → IsAmong ranges result_variable) → (kind : ValueKind) (v : ValueDecl) → IsFoundIn ranges (look_in cells outcome scope kind v)
    look-in-found outcome result Plain v = look-plain-found v v.parts
    look-in-found outcome result Size v = look-size-found v v.parts
    look-in-found true result Outcome v = (result refl, tt)
    look-in-found _ result _ v = tt

    pub scope-looks : LooksIn ranges (in_scope cells false scope)
    scope-looks v = look-in-found false (λ e. cc) v.kind v

    -- with the variable of the result
    pub outcome-looks : IsAmong ranges result_variable → LooksIn ranges (in_scope cells true scope)
    outcome-looks result v = look-in-found true (λ e. result) v.kind v
