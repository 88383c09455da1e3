-- A canonical text is read back as the tree that it was made of.
use Rattle.std.proofs.Common.{◌≡◌, ℕ, List, refl, subst}
use Rattle.carol_syntax.specs.Files.{FileTree}
use Rattle.carol_syntax.specs.Unplaced.{SameButPlaces}
use Rattle.carol_syntax.specs.Shape.{IsFile}
use Rattle.carol_syntax.specs.declared.lexeme.Stop.TheVariants as stop_of
use Rattle.carol_syntax.specs.declared.place.Place.{Place}
use Rattle.carol_print.specs.Pieces.{Piece, text_of, AreLaidOut, CutAgain}
use Rattle.carol_print.specs.Canonical.{canonical}
use Rattle.carol_grammar.specs.Outcome.{Outcome, Read, Bad, Large, IsText, IsBadAt, Means}
use Rattle.carol_print.specs.Spelled.{without_tail, CanonicalIsRead}
use Rattle.carol_print.specs.ReadBack.{IsTextOf, IsBack, IsReadBack, SmallIsRead}

module _ (laid : (f : FileTree) → IsFile f → AreLaidOut (canonical f)) (again : (ps : List Piece) → AreLaidOut ps → CutAgain ps) (read : CanonicalIsRead) where
  pub text_is_file : (f : FileTree) → IsFile f → IsTextOf (text_of (canonical f)) f
  text_is_file f h =
      let c = again (canonical f) (laid f h) in
      let g = read f h (text_of (canonical f)) 0 c.0 c.3 in
      (g.0, (record { list = c.0; stop = stop_of.End; end = c.1 }, c.2, record { whole = refl; file = g.1 }), g.2)

  module _ (one_text : (bytes : List ℕ) (f g : FileTree) → IsText bytes f → IsText bytes g → f ≡ g) (none_bad : (bytes : List ℕ) (f : FileTree) (at : Place) → IsText bytes f → IsBadAt bytes at → ⊥) (one_outcome : (bytes : List ℕ) (one other : Outcome) → Means bytes one → Means bytes other → one ≡ other) (small : SmallIsRead) where
    back_from : (f : FileTree) → IsFile f → IsTextOf (text_of (canonical f)) f → (o : Outcome) → Means (text_of (canonical f)) o → IsBack f o
    back_from f h t (Read g) m = subst (λ z. SameButPlaces z (without_tail f)) (one_text (text_of (canonical f)) t.0 g t.1 (m.0, m.1, m.2.text)) t.2
    back_from f h t (Bad line column) m = none_bad (text_of (canonical f)) t.0 m.2.at t.1 (m.0, m.1, m.2.bad)
    back_from f h t (Large limit) m = λ s.
        let r = small f h s in
        let e : Read r.0 ≡ Large limit = one_outcome (text_of (canonical f)) (Read r.0) (Large limit) r.1 m in
        cc

    pub text_is_read_back : (f : FileTree) → IsFile f → IsReadBack (text_of (canonical f)) f
    text_is_read_back f h = back_from f h (text_is_file f h)
