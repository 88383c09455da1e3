-- Formulas fit before what lengthens no token.
use Rattle.std.proofs.Common.{ℕ, Bool, true, false, List, ◌∷◌, refl}
use Rattle.std.specs.Prelude.{◌||◌}
use Rattle.carol_syntax.specs.declared.formulas.Sign.{Sign}
use Rattle.carol_syntax.specs.declared.formulas.Sign.TheVariants as sign_of
use Rattle.carol_syntax.specs.Formulas.{FormulaTree, True, False, Not, And, Or, Compare}
use Rattle.carol_syntax.specs.Shape.{IsFormula}
use Rattle.carol_syntax.specs.declared.kind.Kind.TheVariants as k
use Rattle.carol_print.specs.Pieces.{Space, AreLaidBefore}
use Rattle.carol_print.specs.Canonical.{Pieces, sign, term, is_either, is_both, enclosed, formula}
use Rattle.carol_print.proofs.Standing.{Fits, soft_kind, soft_both}
use Rattle.carol_print.proofs.LaidTerms.{opened, term_fits}
use Rattle.carol_print.proofs.Fixed.{fixed_spelled}

enclosed_fits : (b : Bool) (ps : Pieces) → Fits ps → Fits (enclosed b ps)
enclosed_fits true ps fits bytes soft = opened ps fits bytes soft
enclosed_fits false ps fits bytes soft = fits bytes soft

sign_laid : (s : Sign) (rest : Pieces) (bytes : List ℕ) → AreLaidBefore bytes rest → AreLaidBefore bytes (sign s ∷ Space ∷ rest)
sign_laid sign_of.AtMost rest bytes h = (fixed_spelled k.AtMost refl, refl, refl, h)
sign_laid sign_of.Below rest bytes h = (fixed_spelled k.Below refl, refl, refl, h)
sign_laid sign_of.AtLeast rest bytes h = (fixed_spelled k.AtLeast refl, refl, refl, h)
sign_laid sign_of.Above rest bytes h = (fixed_spelled k.Above refl, refl, refl, h)
sign_laid sign_of.Same rest bytes h = (fixed_spelled k.Equals refl, refl, refl, h)
sign_laid sign_of.Differs rest bytes h = (fixed_spelled k.Differs refl, refl, refl, h)

pub formula_fits : (f : FormulaTree) → IsFormula f → Fits (formula f)
formula_fits True h bytes soft = (fixed_spelled k.True refl, refl, soft_kind k.True (λ _. refl) bytes soft, tt)
formula_fits False h bytes soft = (fixed_spelled k.False refl, refl, soft_kind k.False (λ _. refl) bytes soft, tt)
formula_fits (Not f) h bytes soft =
    (fixed_spelled k.Not refl, refl, refl, enclosed_fits (is_either f || is_both f) (formula f) (formula_fits f h) bytes soft)
formula_fits (And f g) h bytes soft =
    soft_both (enclosed (is_either f) (formula f)) _ bytes
    (enclosed_fits (is_either f) (formula f) (formula_fits f h.0)) refl
    (fixed_spelled k.And refl, refl, refl, enclosed_fits (is_either g || is_both g) (formula g) (formula_fits g h.1) bytes soft)
formula_fits (Or f g) h bytes soft =
    soft_both (formula f) _ bytes
    (formula_fits f h.0) refl
    (fixed_spelled k.Or refl, refl, refl, enclosed_fits (is_either g) (formula g) (formula_fits g h.1) bytes soft)
formula_fits (Compare left s right) h bytes soft =
    soft_both (term left) (Space ∷ sign s ∷ Space ∷ term right) bytes (term_fits left h.0) refl
    (sign_laid s (term right) bytes (term_fits right h.1 bytes soft))
