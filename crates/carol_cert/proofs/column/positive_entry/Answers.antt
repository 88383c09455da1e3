use Rattle.std.proofs.Common.{◌∙◌, rules}
use Rattle.std.proofs.lemmas.Int.{to_z-of_z}
use Rattle.std.specs.Prelude.{FitsSigned}
use Rattle.std.specs.Int.{w128}
use Rattle.carol_cert.proofs.Products.{entry_of-above_zero}
use Rattle.carol_cert.proofs.column.positive_entry.Goals as goal

pub returns-in-Coefficient-clause-value : goal.returns-in-Coefficient-clause-value
returns-in-Coefficient-clause-value c =
    let fits : FitsSigned w128 c.turned_entry.result = search rules in
    to_z-of_z w128 c.turned_entry.result fits ∙ c.turned_entry.ensures.value ∙ entry_of-above_zero _ _ c.args.term.now c.in-Coefficient.is
