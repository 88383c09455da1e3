-- Terms count their products at most, and formulas their nodes as they are printed.
use Rattle.std.proofs.Common.{◌≡◌, ℕ, ◌+◌, ◌≤◌, Bool, true, false, List, [], ◌∷◌, ◌++◌, Option, length, refl, ◌∙◌, arith}
use Rattle.std.specs.Prelude.{Some, None, ◌||◌}
use Rattle.carol_syntax.specs.declared.places.Ident.{Ident}
use Rattle.carol_syntax.specs.declared.formulas.ValueKind.{ValueKind}
use Rattle.carol_syntax.specs.declared.formulas.ValueKind.TheVariants as way
use Rattle.carol_syntax.specs.declared.formulas.ValueDecl.{ValueDecl}
use Rattle.carol_syntax.specs.declared.formulas.ProductDecl.{ProductDecl}
use Rattle.carol_syntax.specs.declared.formulas.TermDecl.{TermDecl}
use Rattle.carol_syntax.specs.declared.formulas.Sign.{Sign}
use Rattle.carol_syntax.specs.declared.formulas.Sign.TheVariants as sign_of
use Rattle.carol_syntax.specs.Formulas.{FormulaTree, True, False, Not, And, Or, Compare}
use Rattle.carol_syntax.specs.declared.kind.Kind.{Kind}
use Rattle.carol_syntax.specs.declared.kind.Kind.TheVariants as k
use Rattle.carol_grammar.specs.declared.counting.Counts.{Counts}
use Rattle.carol_grammar.specs.Limits.{begins_value}
use Rattle.carol_grammar.specs.Counts.{counts_with}
use Rattle.carol_print.specs.Pieces.{fixed}
use Rattle.carol_print.specs.Pieces.Piece.{Token, Space}
use Rattle.carol_print.specs.Canonical.{Pieces, number, dot, after_dots, path, here, there, sized, value_as, value, product_of, product, added_sign, more_products, first_sign, sum_of, term, sign, is_either, is_both, enclosed, closing, formula}
use Rattle.std.specs.Fmt.{decimal}
use Rattle.carol_print.specs.Small.{enclosed_size, printed_size}
use Rattle.carol_print.proofs.Counting.{over, Along, along_both, along_end, along_more, Near, is_flat, is_silent, is_opener, near_one, near_silent, near_opener, near_size, spare, one_at_most}

-- from any counts on, the pieces add at most so many nodes
pub record Grows (m : ℕ) (ps : Pieces) : Type 0 where
  pub along : (c : Counts) → Along (Near c m) c ps

near_self : (c : Counts) (m : ℕ) → Near c m c
near_self c m = record { nodes = omega arith; depth = refl; lines = refl }

near_more : {c d : Counts} → Near c (0 + 1) d → Near c 1 d
near_more h = record { nodes = omega (arith, h.nodes); depth = h.depth; lines = h.lines }

pub grows_none : Grows 0 []
grows_none = record { along = λ c. near_self c 0 }

pub grows_both : {m n : ℕ} {ps qs : Pieces} → Grows m ps → Grows n qs → Grows (m + n) (ps ++ qs)
grows_both {m = m} {n = n} {ps = ps} {qs = qs} p q = record {
  along = λ c.
      let e : Near c m (over c ps) = along_end (Near c m) c ps (p.along c) in
      along_both (Near c (m + n)) c ps qs
      (along_more (Near c m) (Near c (m + n)) (λ d h. record { nodes = omega (arith, h.nodes); depth = h.depth; lines = h.lines }) c ps (p.along c))
      (along_more (Near (over c ps) n) (Near c (m + n)) (λ d h. record { nodes = omega (arith, h.nodes, e.nodes); depth = h.depth ∙ e.depth; lines = h.lines ∙ e.lines }) (over c ps) qs (q.along (over c ps)));
}

pub grows_more : {m n : ℕ} {ps : Pieces} → m ≤ n → Grows m ps → Grows n ps
grows_more {m = m} {n = n} {ps = ps} l p = record {
  along = λ c. along_more (Near c m) (Near c n) (λ d h. record { nodes = omega (arith, h.nodes); depth = h.depth; lines = h.lines }) c ps (p.along c);
}

pub grows_space : {m : ℕ} {ps : Pieces} → Grows m ps → Grows m (Space ∷ ps)
grows_space p = record { along = p.along }

-- a token before pieces: one that counts, and one that never does
pub grows_token : {n : ℕ} {ps : Pieces} (kind : Kind) (v : ℕ) (spelled : List ℕ) → is_flat kind ≡ true → Grows n ps → Grows (1 + n) (Token kind v spelled ∷ ps)
grows_token {n = n} {ps = ps} kind v spelled flat p =
    grows_both {m = 1} {n = n} {ps = Token kind v spelled ∷ []} {qs = ps} (record { along = λ c. (near_self c 1, near_counted c) }) p
  where
    near_counted : (c : Counts) → Near c 1 (counts_with c kind)
    near_counted c = let h = near_one c c 0 kind flat (near_self c 0) in record { nodes = omega (arith, h.nodes); depth = h.depth; lines = h.lines }

pub grows_silent : {n : ℕ} {ps : Pieces} (kind : Kind) (v : ℕ) (spelled : List ℕ) → is_silent kind ≡ true → Grows n ps → Grows n (Token kind v spelled ∷ ps)
grows_silent {n = n} {ps = ps} kind v spelled silent p =
    grows_more (omega arith) (grows_both {m = 0} {n = n} {ps = Token kind v spelled ∷ []} {qs = ps} (record { along = λ c. (near_self c 0, near_silent c c 0 kind silent (near_self c 0)) }) p)

-- Values.

-- a value from the counts d on, seen from c
abbrev Room : Counts → ℕ → Counts → Type 0
Room c m d = d.nodes + spare d ≤ c.nodes + m

no_more : (c : Counts) (m : ℕ) (d : Counts) → begins_value d.last d.second ≡ false → Near c m d → Room c m d
no_more c m d e h = rw e (omega (arith, h.nodes))

dots_in : (c : Counts) (m : ℕ) (d : Counts) (more : List Ident) → Near c m d → Along (Near c m) d (after_dots more)
unfolding begins_value
dots_in c m d [] h = h
dots_in c m d (i ∷ more) h =
    let a : Near c m (counts_with d k.Dot) = near_silent c d m k.Dot refl h in
    let b : Near c m (counts_with (counts_with d k.Dot) k.Name) = near_opener c (counts_with d k.Dot) m k.Name refl (no_more c m (counts_with d k.Dot) refl a) a in
    (h, (a, dots_in c m (counts_with (counts_with d k.Dot) k.Name) more b))

path_in : (c : Counts) (m : ℕ) (d : Counts) (parts : List Ident) → Room c m d → Near c m d → Along (Near c m) d (path parts)
path_in c m d [] room h = h
path_in c m d (i ∷ more) room h = (h, dots_in c m (counts_with d k.Name) more (near_opener c d m k.Name refl room h))

-- behind a first token and a dot
side_in : (c : Counts) (m : ℕ) (d : Counts) (kind : Kind) (parts : List Ident) → is_opener kind ≡ true → Room c m d → Near c m d → Along (Near c m) (counts_with d kind) (dot ∷ path parts)
unfolding begins_value
side_in c m d kind parts o room h =
    let a : Near c m (counts_with d kind) = near_opener c d m kind o room h in
    let b : Near c m (counts_with (counts_with d kind) k.Dot) = near_silent c (counts_with d kind) m k.Dot refl a in
    (a, path_in c m (counts_with (counts_with d kind) k.Dot) parts (no_more c m (counts_with (counts_with d kind) k.Dot) refl b) b)

-- the counts behind `size` and its parenthesis
abbrev size_opened : Counts → Counts
size_opened d = counts_with (counts_with d k.Size) k.Opening

sized_in : (c : Counts) (m : ℕ) (d : Counts) (ps : Pieces) → Room c m d → Near c m d
    → (Room c m (size_opened d) → Near c m (size_opened d) → Along (Near c m) (size_opened d) ps) → Along (Near c m) d (sized ps)
unfolding begins_value
sized_in c m d ps room h inner =
    let a : Near c m (counts_with d k.Size) = near_opener c d m k.Size refl room h in
    let b : Near c m (size_opened d) = near_size c (counts_with d k.Size) m refl a in
    let i : Along (Near c m) (size_opened d) ps = inner (no_more c m (size_opened d) refl b) b in
    let e : Near c m (over (size_opened d) ps) = along_end (Near c m) (size_opened d) ps i in
    (h, (a, along_both (Near c m) (size_opened d) ps (closing ∷ []) i (e, near_silent c (over (size_opened d) ps) m k.Closing refl e)))

value_in : (c : Counts) (m : ℕ) (d : Counts) (kind : ValueKind) (parts : List Ident) → Room c m d → Near c m d → Along (Near c m) d (value_as kind parts)
value_in c m d way.Outcome parts room h = (h, near_opener c d m k.Result refl room h)
value_in c m d way.Plain parts room h = path_in c m d parts room h
value_in c m d way.Here parts room h = (h, side_in c m d k.Here parts refl room h)
value_in c m d way.There parts room h = (h, side_in c m d k.There parts refl room h)
value_in c m d way.Size parts room h = sized_in c m d (path parts) room h (λ r n. path_in c m (size_opened d) parts r n)
value_in c m d way.SizeHere parts room h =
    sized_in c m d (here ∷ dot ∷ path parts) room h (λ r n. (n, side_in c m (size_opened d) k.Here parts refl r n))
value_in c m d way.SizeThere parts room h =
    sized_in c m d (there ∷ dot ∷ path parts) room h (λ r n. (n, side_in c m (size_opened d) k.There parts refl r n))

grows_value : (v : ValueDecl) → Grows 1 (value v)
grows_value v = record { along = λ c. value_in c 1 c v.kind v.parts (omega (arith, one_at_most (begins_value c.last c.second))) (near_self c 1) }

pub grows_path : (parts : List Ident) → Grows 1 (path parts)
grows_path parts = record { along = λ c. path_in c 1 c parts (omega (arith, one_at_most (begins_value c.last c.second))) (near_self c 1) }

-- Terms.

starred : (n : ℕ) (v : ValueDecl) (c : Counts) → Along (Near c 1) c (number n ∷ fixed k.Star ∷ value v)
unfolding begins_value
starred n v c =
    let d : Counts = counts_with c k.Number in
    let a : Near c 1 d = near_more (near_one c c 0 k.Number refl (near_self c 0)) in
    let b : Near c 1 (counts_with d k.Star) = near_silent c d 1 k.Star refl a in
    (near_self c 1, (a, value_in c 1 (counts_with d k.Star) v.kind v.parts (no_more c 1 (counts_with d k.Star) refl b) b))

grows_factor : (factor : Option ℕ) (v : Option ValueDecl) → Grows 1 (product_of factor v)
grows_factor None None = grows_more (omega arith) grows_none
grows_factor None (Some v) = grows_value v
grows_factor (Some n) None = grows_more (omega arith) (grows_token k.Number n (decimal n) refl grows_none)
grows_factor (Some n) (Some v) = record { along = starred n v }

grows_product : (p : ProductDecl) → Grows 1 (product p)
grows_product p = grows_factor p.factor p.value

added_before : {n : ℕ} {ps : Pieces} (b : Bool) → Grows n ps → Grows n (added_sign b ∷ ps)
added_before true p = grows_silent k.Minus 0 _ refl p
added_before false p = grows_silent k.Plus 0 _ refl p

grows_products : (ps : List ProductDecl) → Grows (length ps) (more_products ps)
grows_products [] = grows_none
grows_products (p ∷ ps) =
    grows_more (omega arith) (grows_space (added_before p.minus (grows_space (grows_both (grows_product p) (grows_products ps)))))

grows_first : (b : Bool) → Grows 0 (first_sign b)
grows_first true = grows_silent k.Minus 0 _ refl grows_none
grows_first false = grows_none

grows_sum : (ps : List ProductDecl) → Grows (length ps) (sum_of ps)
grows_sum [] = grows_none
grows_sum (p ∷ ps) = grows_more (omega arith) (grows_both (grows_first p.minus) (grows_both (grows_product p) (grows_products ps)))

pub grows_term : (t : TermDecl) → Grows (length t.products) (term t)
grows_term t = grows_sum t.products

-- Formulas.

grows_enclosed : {n : ℕ} {ps : Pieces} (b : Bool) → Grows n ps → Grows (enclosed_size b n) (enclosed b ps)
grows_enclosed true p = grows_token k.Opening 0 _ refl (grows_more (omega arith) (grows_both p (grows_silent k.Closing 0 _ refl grows_none)))
grows_enclosed false p = p

compared : {n : ℕ} {ps : Pieces} (s : Sign) → Grows n ps → Grows (1 + n) (sign s ∷ ps)
compared sign_of.AtMost p = grows_token k.AtMost 0 _ refl p
compared sign_of.Below p = grows_token k.Below 0 _ refl p
compared sign_of.AtLeast p = grows_token k.AtLeast 0 _ refl p
compared sign_of.Above p = grows_token k.Above 0 _ refl p
compared sign_of.Same p = grows_token k.Equals 0 _ refl p
compared sign_of.Differs p = grows_token k.Differs 0 _ refl p

pub grows_formula : (f : FormulaTree) → Grows (printed_size f) (formula f)
grows_formula True = grows_token k.True 0 _ refl grows_none
grows_formula False = grows_token k.False 0 _ refl grows_none
grows_formula (Not f) = grows_token k.Not 0 _ refl (grows_space (grows_enclosed (is_either f || is_both f) (grows_formula f)))
grows_formula (And f g) =
    grows_both (grows_enclosed (is_either f) (grows_formula f))
    (grows_space (grows_token k.And 0 _ refl (grows_space (grows_enclosed (is_either g || is_both g) (grows_formula g)))))
grows_formula (Or f g) = grows_both (grows_formula f) (grows_space (grows_token k.Or 0 _ refl (grows_space (grows_enclosed (is_either g) (grows_formula g)))))
grows_formula (Compare left s right) = grows_both (grows_term left) (grows_space (compared s (grows_space (grows_term right))))
