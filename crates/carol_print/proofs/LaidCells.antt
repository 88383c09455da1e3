-- Cells stand by themselves.
use Rattle.std.proofs.Common.{ℕ, List, [], ◌∷◌, refl, map, inl, inr, arith, sym, subst}
use Rattle.std.specs.Prelude.{ℤ}
use Rattle.std.specs.List.{AllByRecursion}
use Rattle.carol_syntax.specs.declared.cells.FieldKind.{FieldKind}
use Rattle.carol_syntax.specs.declared.cells.FieldKind.TheVariants as kind_of
use Rattle.carol_syntax.specs.declared.cells.FieldDecl.{FieldDecl}
use Rattle.carol_syntax.specs.declared.cells.CellDecl.{CellDecl}
use Rattle.carol_syntax.specs.declared.cells.CellDecl.TheVariants as cell_of
use Rattle.carol_syntax.specs.Shape.{IsName, IsWhole, StartsAs, IsField, IsCell}
use Rattle.carol_syntax.specs.declared.kind.Kind.TheVariants as k
use Rattle.carol_print.specs.Pieces.{Space, Break, AreLaidBefore}
use Rattle.carol_print.specs.Canonical.{Pieces, semicolon, closing_brace, only_name, with_commas, int, field_kind, field, fields, cell}
use Rattle.carol_print.proofs.Standing.{Stands, any_kind, soft_both, stands_both, named, with_commas_fit}
use Rattle.carol_print.proofs.LaidTerms.{name_fits, int_fits}
use Rattle.carol_print.proofs.Fixed.{fixed_spelled}

starts_whole : (kind : FieldKind) (start : ℤ) → StartsAs kind start → IsWhole start
starts_whole kind_of.Counter start h = h
starts_whole kind_of.Peak start h = h
starts_whole kind_of.Flag start (inl e) = subst IsWhole (sym e) (omega arith)
starts_whole kind_of.Flag start (inr e) = subst IsWhole (sym e) (omega arith)

-- nothing lengthens a semicolon
pub ended : Stands (semicolon ∷ [])
ended bytes = (fixed_spelled k.Semicolon refl, refl, any_kind k.Semicolon (λ _. refl) bytes, tt)

kind_laid : (kind : FieldKind) (rest : Pieces) (bytes : List ℕ) → AreLaidBefore bytes rest → AreLaidBefore bytes (field_kind kind ∷ Space ∷ rest)
kind_laid kind_of.Counter rest bytes h = (fixed_spelled k.Counter refl, refl, refl, h)
kind_laid kind_of.Peak rest bytes h = (fixed_spelled k.Peak refl, refl, refl, h)
kind_laid kind_of.Flag rest bytes h = (fixed_spelled k.Flag refl, refl, refl, h)

field_stands : (f : FieldDecl) → IsField f → Stands (field f)
field_stands f h bytes =
    kind_laid f.kind _ bytes (
      named f.name h.0,
      refl,
      refl,
      (
        fixed_spelled k.Equals refl,
        refl,
        refl,
        soft_both (int f.start) (semicolon ∷ []) bytes (int_fits f.start (starts_whole f.kind f.start h.1)) refl (ended bytes),
      ),
    )

fields_stand : (fs : List FieldDecl) → AllByRecursion IsField fs → Stands (fields fs)
fields_stand [] h bytes = tt
fields_stand (f ∷ fs) h bytes = stands_both (field f) (fields fs) bytes (field_stands f h.0) (fields_stand fs h.1 bytes)

pub cell_stands : (c : CellDecl) → IsCell c → Stands (cell c)
cell_stands (cell_of.Field f) h bytes = stands_both (field f) (Break ∷ []) bytes (field_stands f h) tt
cell_stands (cell_of.Set n members) h bytes = (
  fixed_spelled k.Set refl,
  refl,
  refl,
  (
    named n h.0,
    refl,
    refl,
    (
      fixed_spelled k.OpeningBrace refl,
      refl,
      refl,
      soft_both (with_commas (map only_name members)) (Space ∷ closing_brace ∷ semicolon ∷ Break ∷ []) bytes
          (with_commas_fit IsName only_name (name_fits) members h.1.1) refl
          (fixed_spelled k.ClosingBrace refl, refl, refl, (fixed_spelled k.Semicolon refl, refl, refl, tt)),
    ),
  ),
)
cell_stands (cell_of.Record n fs) h bytes = (
  fixed_spelled k.Record refl,
  refl,
  refl,
  (
    named n h.0,
    refl,
    refl,
    (
      fixed_spelled k.OpeningBrace refl,
      refl,
      any_kind k.OpeningBrace (λ _. refl) _,
      stands_both (fields fs) (Space ∷ closing_brace ∷ Break ∷ []) bytes (fields_stand fs h.1.1) (fixed_spelled k.ClosingBrace refl, refl, refl, tt),
    ),
  ),
)
