use Rattle.std.proofs.Common.{rules}
use Rattle.carol_formula.specs.Numbers.{number_at}
use Rattle.carol_program.specs.Rules.{rules_in}
use Rattle.carol_accord.specs.Inferred.{IsNotReflexive}
use Rattle.carol_accept.proofs.Refusing.{not_reflexive}
use Rattle.carol_accept.proofs.check.accept.Goals as goal

pub returns-in-Err-NotReflexive-clause-fault : goal.returns-in-Err-NotReflexive-clause-fault
returns-in-Err-NotReflexive-clause-fault g c =
    let p = rules_in c.args.program in
    let fails : IsNotReflexive p c.in-Err-NotReflexive.guard (number_at c.in-Err-NotReflexive.at) = search rules in
    λ fault accepted. not_reflexive p c.in-Err-NotReflexive.guard (number_at c.in-Err-NotReflexive.at) fails accepted
