use Rattle.std.proofs.Common.{◌≡◌, ◌<◌, ◌∙◌, ◌++◌, ◌∷◌, [], List, length, refl, sym, ap, subst, arith}
use Rattle.std.proofs.lemmas.List.{length-map}
use Rattle.carol_formula.specs.Bounds.{term_limit}
use Rattle.carol_formula.specs.Linear.{Linear}
use Rattle.carol_formula.specs.Numbers.{number_at}
use Rattle.carol_formula.specs.Value.{FitsWithin}
use Rattle.carol_formula.specs.declared.term.Row.{Row}
use Rattle.carol_cert.specs.declared.step.RowStep.{RowStep}
use Rattle.carol_cert.specs.declared.step.RowStep.TheVariants.{Given}
use Rattle.carol_elimination.specs.Derived.{row_at}
use Rattle.carol_elimination.specs.Entries.{terms_of}
use Rattle.carol_elimination.proofs.Eliminating.{given_row}
use Rattle.carol_elimination.proofs.Reaching.{given_at}
use Rattle.carol_elimination.proofs.choice.given_far.Goals as goal

pub returns : goal.returns
returns c =
    let row : c.in_ok-copy.field-0 ≡ row_at (terms_of c.args.given.now) c.args.at = c.in_ok-copy.ensures.0 ∙ ap (λ (r : Row). r.0) (sym c.index-given-at.is) ∙ sym (given_row c.args.given.now c.args.at c.index-given-at.result c.requires.known c.index-given-at.is) in
    let few : c.args.at < length (terms_of c.args.given.now) = omega (arith, c.requires.known, length-map c.args.given.now (λ (r : Row). r.0)) in
    let steps = c.in_ok-push.ensures.ok ∙ ap (λ (steps : List RowStep). steps ++ Given c.args.at ∷ []) c.new-steps.ensures in
    record {
      derived = given_at (terms_of c.args.given.now) c.args.at c.args.at c.push.new.self c.in_ok-copy.field-0 refl few steps row;
      far = λ fits. c.requires.far (subst (λ (r : Linear). FitsWithin term_limit r (number_at c.args.values)) row fits);
      numbers = c.requires.chosen;
    }
