-- The cells that are declared: what a path names among them, how many there are, and how they start.
use Rattle.std.proofs.Common.{◌≡◌, ℕ, zero, suc, ◌+◌, ◌<◌, ◌≤◌, inl, List, [], ◌∷◌, ◌++◌, map, length, arith, refl, sym, ◌∙◌, subst, length-append, append_assoc}
use Rattle.std.specs.Prelude.{ℤ, pos, negsuc, unsigned_abs, Option, Some, None, IfSome, slice_get, codes}
use Rattle.std.specs.List.{AllByRecursion, flat_map}
use Rattle.std.specs.Str.{bytes_eq}
use Rattle.std.proofs.lemmas.List.{length-map}
use Rattle.std.proofs.lemmas.Option.{IfSome_then}
use Rattle.carol_store.specs.declared.shape.CellKind.{CellKind}
use Rattle.carol_store.specs.declared.shape.CellKind.TheVariants as cell_kind
use Rattle.carol_store.specs.Kinds.{MayHold}
use Rattle.carol_store.specs.Stores.{IsStore}
use Rattle.carol_syntax.specs.declared.places.Ident.{Ident}
use Rattle.carol_syntax.specs.declared.cells.FieldKind.{FieldKind}
use Rattle.carol_syntax.specs.declared.cells.FieldKind.TheVariants.{Counter, Peak, Flag}
use Rattle.carol_syntax.specs.declared.cells.FieldDecl.{FieldDecl}
use Rattle.carol_syntax.specs.declared.cells.CellDecl.{CellDecl}
use Rattle.carol_syntax.specs.declared.cells.CellDecl.TheVariants.{Field, Set, Record}
use Rattle.carol_syntax.specs.Shape.{IsName, IsWhole, StartsAs, IsField, IsCell}
use Rattle.carol_syntax.specs.Size.{cell_count}
use Rattle.carol_program.specs.Limits.{longest_path, most_cells, largest_literal}
use Rattle.carol_program.specs.WellFormed.{StartsSmall, StartSmall}
use Rattle.carol_meaning.specs.declared.named.Named.{Named}
use Rattle.carol_meaning.specs.declared.named.Named.TheVariants.{Cell, Members, Missing, Misused}
use Rattle.carol_meaning.specs.Declarations.{too_many, place_from, place_of}
use Rattle.carol_meaning.specs.Cells.{kind_of, name_of, cell_names, member, field_kind_at, field, inside, named_after, named, kinds_in, starts_in, titles_in, dotted, cell_faults}
use Rattle.carol_meaning.proofs.Lists.{no_part, few, All-append, All-map, either-way, same_lengths, at-left, at-right}

-- ---- what a path names

-- a cell is one of these and has its kind, and the cells of a set are among them
abbrev pub IsNamedIn : List CellKind → Named → Type 0
IsNamedIn kinds (Cell number kind) = slice_get kinds number ≡ Some kind
IsNamedIn kinds (Members first count) = first + count ≤ length kinds
IsNamedIn kinds Missing = Unit {0}
IsNamedIn kinds Misused = Unit {0}

-- a place among names that are numbered from `n` on is one of them
place_from-within : (n : ℕ) (word : List ℕ) (names : List Ident) → IfSome (place_from n word names) (λ i. i < n + length names)
place_from-within n word [] = tt
place_from-within n word (i ∷ names) = either-way (λ o. IfSome o (λ k. k < n + suc (length names))) (bytes_eq word i.word) (Some n) (place_from (n + 1) word names) (omega arith)
    (IfSome_then (place_from (n + 1) word names) (place_from-within (n + 1) word names) (λ k h. omega (arith, h)))

pub place_of-within : (word : List ℕ) (names : List Ident) → IfSome (place_of word names) (λ i. i < length names)
place_of-within word names = IfSome_then (place_from 0 word names) (place_from-within 0 word names) (λ k h. omega (arith, h))

-- all kinds of a set are flags
flag-at : {A : Type 0} (items : List A) (i : ℕ) → i < length items → slice_get (map (λ m. cell_kind.Flag) items) i ≡ Some cell_kind.Flag
flag-at [] i h = absurd (omega arith)
flag-at (m ∷ items) zero h = refl
flag-at (m ∷ items) (suc i) h = flag-at items i (omega (arith, h))

kind-at : (fields : List FieldDecl) (i : ℕ) → i < length fields → slice_get (map (λ f. kind_of f.kind) fields) i ≡ Some (field_kind_at (slice_get fields i))
kind-at [] i h = absurd (omega arith)
kind-at (f ∷ fields) zero h = refl
kind-at (f ∷ fields) (suc i) h = kind-at fields i (omega (arith, h))

-- the cells of a declaration stand behind others and before more
behind : (prior own more : List CellKind) (i : ℕ) (kind : CellKind) → slice_get own i ≡ Some kind → slice_get (prior ++ (own ++ more)) (length prior + i) ≡ Some kind
behind prior own more i kind h = at-right prior (own ++ more) i ∙ at-left own more i kind h

member-in : (prior more : List CellKind) (members : List Ident) (place : Option ℕ) (rest : List (List ℕ)) → IfSome place (λ i. i < length members) → IsNamedIn (prior ++ (map (λ m. cell_kind.Flag) members ++ more)) (member (length prior) place rest)
member-in prior more members None rest h = tt
member-in prior more members (Some i) [] h = behind prior (map (λ m. cell_kind.Flag) members) more i cell_kind.Flag (flag-at members i h)
member-in prior more members (Some i) (word ∷ rest) h = tt

field-in : (prior more : List CellKind) (fields : List FieldDecl) (place : Option ℕ) (rest : List (List ℕ)) → IfSome place (λ i. i < length fields) → IsNamedIn (prior ++ (map (λ f. kind_of f.kind) fields ++ more)) (field (length prior) fields place rest)
field-in prior more fields None rest h = tt
field-in prior more fields (Some i) [] h = behind prior (map (λ f. kind_of f.kind) fields) more i (field_kind_at (slice_get fields i)) (kind-at fields i h)
field-in prior more fields (Some i) (word ∷ rest) h = tt

fields-within : (word : List ℕ) (fields : List FieldDecl) → IfSome (place_of word (map (λ f. f.name) fields)) (λ i. i < length fields)
fields-within word fields = subst (λ n. IfSome (place_of word (map (λ f. f.name) fields)) (λ i. i < n)) (length-map fields (λ f. f.name)) (place_of-within word (map (λ f. f.name) fields))

inside-in : (prior more : List CellKind) (d : CellDecl) (rest : List (List ℕ)) → IsNamedIn (prior ++ (kinds_in d ++ more)) (inside (length prior) d rest)
inside-in prior more (Field f) [] = rw (← plus_zero) (behind prior (kind_of f.kind ∷ []) more 0 (kind_of f.kind) refl)
  where
    plus_zero : length prior + 0 ≡ length prior
    plus_zero = omega arith
inside-in prior more (Field f) (word ∷ rest) = tt
inside-in prior more (Set name members) [] = omega (arith, length-append prior (map (λ m. cell_kind.Flag) members ++ more), length-append (map (λ m. cell_kind.Flag) members) more, length-map members (λ m. cell_kind.Flag))
inside-in prior more (Set name members) (word ∷ rest) = member-in prior more members (place_of word members) rest (place_of-within word members)
inside-in prior more (Record name fields) [] = tt
inside-in prior more (Record name fields) (word ∷ rest) = field-in prior more fields (place_of word (map (λ f. f.name) fields)) rest (fields-within word fields)

-- a declaration has as many cells as kinds
kinds-count : (d : CellDecl) → length (kinds_in d) ≡ cell_count d
kinds-count (Field f) = refl
kinds-count (Set name members) = length-map members (λ m. cell_kind.Flag)
kinds-count (Record name fields) = length-map fields (λ f. kind_of f.kind)

named_after-in : (prior : List CellKind) (ds : List CellDecl) (word : List ℕ) (rest : List (List ℕ)) → IsNamedIn (prior ++ flat_map kinds_in ds) (named_after (length prior) ds word rest)
named_after-in prior [] word rest = tt
named_after-in prior (d ∷ ds) word rest =
    either-way (IsNamedIn (prior ++ (kinds_in d ++ flat_map kinds_in ds))) (bytes_eq word (name_of d).word) (inside (length prior) d rest) (named_after (length prior + cell_count d) ds word rest)
    (inside-in prior (flat_map kinds_in ds) d rest)
    (subst (λ n. IsNamedIn (prior ++ (kinds_in d ++ flat_map kinds_in ds)) (named_after n ds word rest)) counted
    (subst (λ ks. IsNamedIn ks (named_after (length (prior ++ kinds_in d)) ds word rest)) (append_assoc prior (kinds_in d) (flat_map kinds_in ds)) (named_after-in (prior ++ kinds_in d) ds word rest)))
  where
    counted : length (prior ++ kinds_in d) ≡ length prior + cell_count d
    counted = omega (arith, length-append prior (kinds_in d), kinds-count d)

pub named-in : (ds : List CellDecl) (path : List (List ℕ)) → IsNamedIn (flat_map kinds_in ds) (named ds path)
named-in ds [] = tt
named-in ds (word ∷ rest) = named_after-in [] ds word rest

-- ---- how many there are

kinds-names : (d : CellDecl) → length (kinds_in d) ≡ length (cell_names d)
kinds-names (Field f) = refl
kinds-names (Set name members) = length-map members (λ m. cell_kind.Flag)
kinds-names (Record name fields) = length-map fields (λ f. kind_of f.kind) ∙ sym (length-map fields (λ f. f.name))

titles-kinds : (d : CellDecl) → length (titles_in d) ≡ length (kinds_in d)
titles-kinds (Field f) = refl
titles-kinds (Set name members) = length-map members (dotted name) ∙ sym (length-map members (λ m. cell_kind.Flag))
titles-kinds (Record name fields) = length-map fields (λ f. dotted name f.name) ∙ sym (length-map fields (λ f. kind_of f.kind))

pub few-cells : (ds : List CellDecl) → cell_faults ds ≡ [] → length (flat_map kinds_in ds) ≤ most_cells
few-cells ds h =
    let none : too_many most_cells (flat_map cell_names ds) ≡ [] = search no_part in
    omega (arith, few most_cells (flat_map cell_names ds) none, same_lengths kinds_in cell_names kinds-names ds)

pub cell-titles : (ds : List CellDecl) → length (flat_map titles_in ds) ≡ length (flat_map kinds_in ds)
cell-titles ds = same_lengths titles_in kinds_in titles-kinds ds

-- ---- how long their names are

-- a set's or a record's name, and one inside it
dotted-short : (group i : Ident) → IsName group → IsName i → length (dotted group i) ≤ longest_path
dotted-short group i h k =
    let whole : length (dotted group i) ≡ length (group.word ++ codes ".") + length i.word = length-append (group.word ++ codes ".") i.word in
    let rest : length (group.word ++ codes ".") ≡ length group.word + length (codes ".") = length-append group.word (codes ".") in
    let point : length (codes ".") ≡ 1 = refl in
    omega (arith, whole, rest, point, h.1, k.1)

abbrev AreShortPaths : List (List ℕ) → Type 0
AreShortPaths names = AllByRecursion (λ name. length name ≤ longest_path) names

titles-short : (d : CellDecl) → IsCell d → AreShortPaths (titles_in d)
titles-short (Field f) h = (omega (arith, h.0.1), tt)
titles-short (Set name members) h = All-map IsName (λ title. length title ≤ longest_path) (dotted name) (λ m named. dotted-short name m h.0 named) members h.1.1
titles-short (Record name fields) h = All-map IsField (λ title. length title ≤ longest_path) (λ f. dotted name f.name) (λ f named. dotted-short name f.name h.0 named.0) fields h.1.1

pub short-titles : (ds : List CellDecl) → AllByRecursion IsCell ds → AreShortPaths (flat_map titles_in ds)
short-titles [] h = tt
short-titles (d ∷ ds) h = All-append (λ title. length title ≤ longest_path) (titles_in d) (flat_map titles_in ds) (titles-short d h.0) (short-titles ds h.1)

-- ---- how they start

-- a store of these cells that starts as a program's may
abbrev pub MayStart : List CellKind → List ℤ → Type 0
MayStart kinds values = IsStore kinds values × StartSmall kinds values

may-start-append : (ks : List CellKind) (vs : List ℤ) (ls : List CellKind) (ws : List ℤ) → MayStart ks vs → MayStart ls ws → MayStart (ks ++ ls) (vs ++ ws)
may-start-append [] [] ls ws a b = b
may-start-append [] (v ∷ vs) ls ws a b = absurd a.0
may-start-append (k ∷ ks) [] ls ws a b = absurd a.0
may-start-append (k ∷ ks) (v ∷ vs) ls ws a b =
    let rest = may-start-append ks vs ls ws (a.0.1, a.1.1) b in
    ((a.0.0, rest.0), (a.1.0, rest.1))

whole-small : (z : ℤ) → IsWhole z → unsigned_abs z ≤ largest_literal
whole-small (pos n) h = h
whole-small (negsuc n) h = omega (arith, h)

start-in : (kind : FieldKind) (start : ℤ) → StartsAs kind start → MayHold (kind_of kind) start × StartsSmall (kind_of kind) start
start-in Counter start h = (tt, whole-small start h)
start-in Peak start h = (tt, whole-small start h)
start-in Flag start h = (h, tt)

members-start : (members : List Ident) → MayStart (map (λ m. cell_kind.Flag) members) (map (λ m. pos 0) members)
members-start [] = (tt, tt)
members-start (m ∷ members) =
    let rest = members-start members in
    ((inl refl, rest.0), (tt, rest.1))

fields-start : (fields : List FieldDecl) → AllByRecursion IsField fields → MayStart (map (λ f. kind_of f.kind) fields) (map (λ f. f.start) fields)
fields-start [] h = (tt, tt)
fields-start (f ∷ fields) h =
    let one = start-in f.kind f.start h.0.1 in
    let rest = fields-start fields h.1 in
    ((one.0, rest.0), (one.1, rest.1))

cell-starts : (d : CellDecl) → IsCell d → MayStart (kinds_in d) (starts_in d)
cell-starts (Field f) h =
    let one = start-in f.kind f.start h.1 in
    ((one.0, tt), (one.1, tt))
cell-starts (Set name members) h = members-start members
cell-starts (Record name fields) h = fields-start fields h.1.1

pub cells-start : (ds : List CellDecl) → AllByRecursion IsCell ds → MayStart (flat_map kinds_in ds) (flat_map starts_in ds)
cells-start [] h = (tt, tt)
cells-start (d ∷ ds) h = may-start-append (kinds_in d) (starts_in d) (flat_map kinds_in ds) (flat_map starts_in ds) (cell-starts d h.0) (cells-start ds h.1)
