-- Declarations of cells.
use Rattle.std.proofs.Common.{◌≡◌, ℕ, ◌<◌, List, [], ◌∷◌, ℤ, refl, arith}
use Rattle.std.specs.Prelude.{map}
use Rattle.std.specs.List.{AllByRecursion}
use Rattle.carol_syntax.specs.declared.places.Ident.{Ident}
use Rattle.carol_syntax.specs.declared.cells.FieldKind.{FieldKind}
use Rattle.carol_syntax.specs.declared.cells.FieldKind.TheVariants as field_kind_of
use Rattle.carol_syntax.specs.declared.cells.FieldDecl.{FieldDecl}
use Rattle.carol_syntax.specs.declared.cells.CellDecl.{CellDecl}
use Rattle.carol_syntax.specs.declared.cells.CellDecl.TheVariants as cell_of
use Rattle.carol_syntax.specs.Unplaced.{unplaced_name, unplaced_field, unplaced_cell}
use Rattle.carol_syntax.specs.Shape.{IsWhole, IsName, StartsAs, IsField, IsCell, AreSome}
use Rattle.carol_grammar.specs.Rule.Rule.{both, gives}
use Rattle.carol_grammar.specs.Rules.{RuleOf, name, whole_kind, flag_field, field, more_fields, listed, set_cell, record_cell, cell}
use Rattle.carol_print.specs.Pieces.{Piece}
use Rattle.carol_print.specs.Canonical as text
use Rattle.carol_print.proofs.Reached.{Same, Reaches, onto, onto-append, reach_word, reach_gives, reach_both, reach_left, reach_right, reach_begins, reach_behind, reach_before, reach_end, reach_more}
use Rattle.carol_print.proofs.ReadLists.{reach_listed}
use Rattle.carol_print.proofs.Terminals.{reach_name, reach_int, reach_bit}

abbrev field_of : FieldKind → Ident → ℤ → FieldDecl
field_of kind n z = record { kind = kind; name = n; start = z }

-- a field and more behind it
abbrev some_fields : List ℕ → RuleOf (List FieldDecl)
some_fields bytes = gives (λ p. p.0 ∷ p.1) (both (field bytes) (more_fields bytes))

module _ {bytes : List ℕ} where
  reach_flag : (n : Ident) (z : ℤ) {us : List Piece} → StartsAs field_kind_of.Flag z
      → Reaches bytes (field bytes) (onto (text.field (field_of field_kind_of.Flag n z)) us) us
      (Same unplaced_field (field_of field_kind_of.Flag n z))
  unfolding field flag_field
  reach_flag n z h =
      simp onto-append (reach_left (reach_begins (reach_gives
      (reach_behind refl (reach_both (reach_name n) (reach_before refl (reach_behind refl (reach_bit z h))))) (λ y e. cc))))

  reach_counter : (n : Ident) (z : ℤ) {us : List Piece} → IsWhole z
      → Reaches bytes (field bytes) (onto (text.field (field_of field_kind_of.Counter n z)) us) us
      (Same unplaced_field (field_of field_kind_of.Counter n z))
  unfolding field whole_kind
  reach_counter n z h =
      simp onto-append (reach_right (reach_gives (reach_both (reach_left
      (reach_gives {Q = λ y. y ≡ field_kind_of.Counter} (reach_word refl) (λ l e. refl)))
      (reach_both (reach_name n) (reach_before refl (reach_behind refl (reach_int z h))))) (λ y e. cc)))

  reach_peak : (n : Ident) (z : ℤ) {us : List Piece} → IsWhole z
      → Reaches bytes (field bytes) (onto (text.field (field_of field_kind_of.Peak n z)) us) us
      (Same unplaced_field (field_of field_kind_of.Peak n z))
  unfolding field whole_kind
  reach_peak n z h =
      simp onto-append (reach_right (reach_gives (reach_both (reach_right
      (reach_gives {Q = λ y. y ≡ field_kind_of.Peak} (reach_word refl) (λ l e. refl)))
      (reach_both (reach_name n) (reach_before refl (reach_behind refl (reach_int z h))))) (λ y e. cc)))

  field_as : (kind : FieldKind) (n : Ident) (z : ℤ) {us : List Piece} → StartsAs kind z
      → Reaches bytes (field bytes) (onto (text.field (field_of kind n z)) us) us (Same unplaced_field (field_of kind n z))
  field_as field_kind_of.Counter n z h = reach_counter n z h
  field_as field_kind_of.Peak n z h = reach_peak n z h
  field_as field_kind_of.Flag n z h = reach_flag n z h

  reach_field : (f : FieldDecl) {us : List Piece} → IsField f
      → Reaches bytes (field bytes) (onto (text.field f) us) us (Same unplaced_field f)
  reach_field f h = field_as f.kind f.name f.start h.1

  reach_fields : (fs : List FieldDecl) {us : List Piece} → AllByRecursion IsField fs
      → Reaches bytes (more_fields bytes) (onto (text.fields fs) us) us (Same (map unplaced_field) fs)
  reach_fields [] h = reach_end refl
  reach_fields (f ∷ fs) h = simp onto-append (reach_more (reach_begins (reach_field f h.0)) (reach_fields fs h.1) (λ y ys e es. cc))

  reach_names : (names : List Ident) {us : List Piece} → AreSome IsName names
      → Reaches bytes (listed (name bytes)) (onto (text.with_commas (map text.only_name names)) us) us (Same (map unplaced_name) names)
  reach_names = reach_listed (name bytes) text.only_name IsName unplaced_name (λ i us h. reach_name i)

  reach_some_fields : (fs : List FieldDecl) {us : List Piece} → AreSome IsField fs
      → Reaches bytes (some_fields bytes) (onto (text.fields fs) us) us (Same (map unplaced_field) fs)
  reach_some_fields [] h = let no_items : 0 < 0 = h.0 in absurd (omega arith)
  reach_some_fields (f ∷ fs) h = simp onto-append (reach_gives (reach_both (reach_field f h.1.0) (reach_fields fs h.1.1)) (λ y e. cc))

  pub reach_cell : (c : CellDecl) {us : List Piece} → IsCell c
      → Reaches bytes (cell bytes) (onto (text.cell c) us) us (Same unplaced_cell c)
  unfolding cell set_cell record_cell
  reach_cell (cell_of.Field f) h = simp onto-append (reach_right (reach_right (reach_gives (reach_field f h) (λ y e. cc))))
  reach_cell (cell_of.Set n names) h =
      simp onto-append (reach_left (reach_begins (reach_gives
      (reach_behind refl (reach_both (reach_name n) (reach_before refl (reach_before refl (reach_behind refl (reach_names names h.1))))))
      (λ y e. cc))))
  reach_cell (cell_of.Record n fs) h =
      simp onto-append (reach_right (reach_left (reach_begins
      (reach_gives (reach_behind refl (reach_both (reach_name n) (reach_before refl (reach_behind refl (reach_some_fields fs h.1)))))
      (λ y e. cc)))))
