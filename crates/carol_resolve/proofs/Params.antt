-- One item more, and one parameter more.
use Rattle.std.proofs.Common.{◌≡◌, ◌<◌, ℕ, ◌+◌, get_or, length, drop, false, List, [], ◌∷◌, ◌++◌, map, Option, ap, sym, ◌∙◌, append_assoc, subst}
use Rattle.std.specs.List.{AllByRecursion}
use Rattle.std.proofs.lemmas.List.{map-append}
use Rattle.carol_formula.specs.declared.formula.Formula.{Formula}
use Rattle.carol_formula.specs.Claim.{Claim}
use Rattle.carol_formula.specs.Tree.{claim_of}
use Rattle.carol_syntax.specs.Files.{NamedFormula}
use Rattle.carol_meaning.specs.declared.fault.Fault.{Fault}
use Rattle.carol_meaning.specs.declared.meaning.Meaning.TheVariants.{Parameter}
use Rattle.carol_meaning.specs.Faults.{earliest}
use Rattle.carol_meaning.specs.Terms.{formula_meaning, formula_faults}
use Rattle.carol_meaning.specs.Scopes.{Scope, declared, in_scope}
use Rattle.carol_meaning.specs.Bodies.{Around}
use Rattle.carol_meaning.specs.Operations.{with_params, refinement_faults, refinements}
use Rattle.carol_names.proofs.NameLaws.{item_at, earliest-append}

-- an item's tree before those of the items behind it
pub tree_at : {A B : Type 0} (tree : A → B) (xs : List A) (i : ℕ) (x : A) → i < length xs → x ≡ get_or xs i x → map tree (drop i xs) ≡ tree x ∷ map tree (drop (i + 1) xs)
tree_at tree xs i x lt is = ap (map tree) (item_at xs i x lt is)

-- what holds of a first item and of those behind it
pub here_and_on : {B : Type 0} (P : B → Type 0) (y : B) (here on : List B) → here ≡ y ∷ on → AllByRecursion P here → P y × AllByRecursion P on
here_and_on {B} P y here on is all = subst (λ (ys : List B). AllByRecursion P ys) is all

pub scope-more : (n : ℕ) (scope new whole : Scope) (p : NamedFormula) (here on : List NamedFormula) → here ≡ p ∷ on → new ≡ declared p.name.word (Parameter n) scope → with_params n scope here ≡ whole → with_params (n + 1) new on ≡ whole
scope-more n scope new whole p here on is made so_far =
    ap (λ s. with_params (n + 1) s on) made ∙ ap (with_params n scope) (sym is) ∙ so_far

pub faults-more : (around : Around) (n : ℕ) (scope new : Scope) (kept now whole : Option Fault) (p : NamedFormula) (here on : List NamedFormula) → here ≡ p ∷ on → new ≡ declared p.name.word (Parameter n) scope → now ≡ earliest kept (formula_faults (in_scope around.cells false new) p.formula) → earliest kept (refinement_faults around n scope here) ≡ whole → earliest now (refinement_faults around (n + 1) new on) ≡ whole
faults-more around n scope new kept now whole p here on is made noted so_far =
    ap (λ k. earliest k (refinement_faults around (n + 1) new on)) noted ∙
    sym (earliest-append kept (formula_faults (in_scope around.cells false new) p.formula) (refinement_faults around (n + 1) new on)) ∙
    ap (λ s. earliest kept (formula_faults (in_scope around.cells false s) p.formula ++ refinement_faults around (n + 1) s on)) made ∙
    ap (λ ps. earliest kept (refinement_faults around n scope ps)) (sym is) ∙
    so_far

pub meaning-more : (around : Around) (n : ℕ) (scope new : Scope) (done now : List Formula) (f : Formula) (whole : List Claim) (p : NamedFormula) (here on : List NamedFormula) → here ≡ p ∷ on → new ≡ declared p.name.word (Parameter n) scope → now ≡ done ++ f ∷ [] → claim_of f ≡ formula_meaning (in_scope around.cells false new) p.formula → map claim_of done ++ refinements around n scope here ≡ whole → map claim_of now ++ refinements around (n + 1) new on ≡ whole
meaning-more around n scope new done now f whole p here on is made pushed meant so_far =
    ap (λ cs. cs ++ refinements around (n + 1) new on) (ap (map claim_of) pushed ∙ map-append claim_of done (f ∷ [])) ∙
    append_assoc (map claim_of done) (claim_of f ∷ []) (refinements around (n + 1) new on) ∙
    ap (λ d. map claim_of done ++ d ∷ refinements around (n + 1) new on) meant ∙
    ap (λ s. map claim_of done ++ formula_meaning (in_scope around.cells false s) p.formula ∷ refinements around (n + 1) s on) made ∙
    ap (λ ps. map claim_of done ++ refinements around n scope ps) (sym is) ∙
    so_far
