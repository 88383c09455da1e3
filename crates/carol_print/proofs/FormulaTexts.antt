-- The text of a formula, part by part.
use Rattle.std.proofs.Common.{◌≡◌, ℕ, Bool, List, [], ◌∷◌, ◌++◌, append_assoc}
use Rattle.std.specs.Prelude.{OnOk, Result, Ok, Err, codes, ◌||◌}
use Rattle.carol_syntax.specs.declared.formulas.TermDecl.{TermDecl}
use Rattle.carol_syntax.specs.declared.formulas.Sign.{Sign}
use Rattle.carol_syntax.specs.declared.formulas.Sign.TheVariants as way
use Rattle.carol_syntax.specs.Formulas.{FormulaTree, Not, And, Or, Compare}
use Rattle.carol_print.specs.Pieces.{Space, text_of}
use Rattle.carol_print.specs.Canonical.{is_either, is_both, formula, sign, term}
use Rattle.carol_print.specs.Enclosing.{opened, closed}
use Rattle.carol_print.proofs.LaidLists.{text_of_both}
use Rattle.carol_print.proofs.Texts.{enclosed_text}

denial_text : (f : FormulaTree) (out : List ℕ) → (out ++ codes "not " ++ opened (is_either f || is_both f) ++ text_of (formula f)) ++ closed (is_either f || is_both f) ≡ out ++ text_of (formula (Not f))
denial_text f out = simp (append_assoc, enclosed_text)

both_text : (f g : FormulaTree) (out : List ℕ) → (out ++ opened (is_either f) ++ text_of (formula f) ++ closed (is_either f) ++ codes " and " ++ opened (is_either g || is_both g) ++ text_of (formula g)) ++ closed (is_either g || is_both g) ≡ out ++ text_of (formula (And f g))
both_text f g out = simp (append_assoc, text_of_both, enclosed_text)

either_text : (f g : FormulaTree) (out : List ℕ) → (out ++ text_of (formula f) ++ codes " or " ++ opened (is_either g) ++ text_of (formula g)) ++ closed (is_either g) ≡ out ++ text_of (formula (Or f g))
either_text f g out = simp (append_assoc, text_of_both, enclosed_text)

comparison_text : (left right : TermDecl) (s : Sign) (out : List ℕ) → (out ++ text_of (term left) ++ text_of (Space ∷ sign s ∷ Space ∷ [])) ++ text_of (term right) ≡ out ++ text_of (formula (Compare left s right))
comparison_text left right s out =
    elim s as (λ v. (out ++ text_of (term left) ++ text_of (Space ∷ sign v ∷ Space ∷ [])) ++ text_of (term right) ≡ out ++ text_of (term left ++ (Space ∷ sign v ∷ Space ∷ term right))) [
      | way.AtMost ↦ simp (append_assoc, text_of_both)
      | way.Below ↦ simp (append_assoc, text_of_both)
      | way.AtLeast ↦ simp (append_assoc, text_of_both)
      | way.Above ↦ simp (append_assoc, text_of_both)
      | way.Same ↦ simp (append_assoc, text_of_both)
      | way.Differs ↦ simp (append_assoc, text_of_both)
    ]

-- what holds of an Ok follows from what is known of it
pub on_ok : {P Q : Type 0} {T E : Type 0} (r : Result T E) → OnOk r P → (P → Q) → OnOk r Q
on_ok (Ok x) h f = f h
on_ok (Err e) h f = tt

-- a denial, once its parts are appended one by one
pub denial_done : (t f : FormulaTree) (b : Bool) (o0 o1 o2 o3 o4 : List ℕ) → t ≡ Not f → b ≡ (is_either f || is_both f) → o1 ≡ o0 ++ codes "not " → o2 ≡ o1 ++ opened b → o3 ≡ o2 ++ text_of (formula f) → o4 ≡ o3 ++ closed b → o4 ≡ o0 ++ text_of (formula t)
denial_done t f b o0 o1 o2 o3 o4 et eb e1 e2 e3 e4 = rw (e4, e3, e2, e1, eb, et) (denial_text f o0)

-- an `and`
pub both_done : (t f g : FormulaTree) (b d : Bool) (o0 o1 o2 o3 o4 o5 o6 o7 : List ℕ) → t ≡ And f g → b ≡ is_either f → d ≡ (is_either g || is_both g) → o1 ≡ o0 ++ opened b → o2 ≡ o1 ++ text_of (formula f) → o3 ≡ o2 ++ closed b → o4 ≡ o3 ++ codes " and " → o5 ≡ o4 ++ opened d → o6 ≡ o5 ++ text_of (formula g) → o7 ≡ o6 ++ closed d → o7 ≡ o0 ++ text_of (formula t)
both_done t f g b d o0 o1 o2 o3 o4 o5 o6 o7 et eb ed e1 e2 e3 e4 e5 e6 e7 =
    rw (e7, e6, e5, e4, e3, e2, e1, eb, ed, et) (both_text f g o0)

-- an `or`
pub either_done : (t f g : FormulaTree) (b : Bool) (o0 o1 o2 o3 o4 o5 : List ℕ) → t ≡ Or f g → b ≡ is_either g → o1 ≡ o0 ++ text_of (formula f) → o2 ≡ o1 ++ codes " or " → o3 ≡ o2 ++ opened b → o4 ≡ o3 ++ text_of (formula g) → o5 ≡ o4 ++ closed b → o5 ≡ o0 ++ text_of (formula t)
either_done t f g b o0 o1 o2 o3 o4 o5 et eb e1 e2 e3 e4 e5 =
    rw (e5, e4, e3, e2, e1, eb, et) (either_text f g o0)

-- a comparison
pub comparison_done : (t : FormulaTree) (left right : TermDecl) (s : Sign) (o0 o1 o2 o3 : List ℕ) → t ≡ Compare left s right → o1 ≡ o0 ++ text_of (term left) → o2 ≡ o1 ++ text_of (Space ∷ sign s ∷ Space ∷ []) → o3 ≡ o2 ++ text_of (term right) → o3 ≡ o0 ++ text_of (formula t)
comparison_done t left right s o0 o1 o2 o3 et e1 e2 e3 = rw (e3, e2, e1, et) (comparison_text left right s o0)
