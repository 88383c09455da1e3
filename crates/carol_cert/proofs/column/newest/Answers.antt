use Rattle.std.proofs.Common.{sym, ap, ◌∙◌, rules}
use Rattle.std.proofs.lemmas.Int.{to_z-of_z}
use Rattle.std.specs.Prelude.{FitsSigned}
use Rattle.std.specs.Int.{w128}
use Rattle.carol_cert.specs.Columns.{last_number}
use Rattle.carol_cert.specs.Numbers.{numbers_of}
use Rattle.carol_cert.proofs.Chains.{last_number-push}
use Rattle.carol_cert.proofs.column.newest.Goals as goal

pub returns-in-More : goal.returns-in-More
returns-in-More c =
    let fits : FitsSigned w128 c.in-More.number = search rules in
    to_z-of_z w128 c.in-More.number fits ∙ sym (last_number-push (numbers_of c.in-More.field-1.now) c.in-More.number) ∙ sym (ap (λ chain. last_number (numbers_of chain)) c.in-More.is)
