use Rattle.std.proofs.Common.{Option, sym, ◌∙◌, ap, subst}
use Rattle.std.specs.Prelude.{IfSome}
use Rattle.carol_meaning.specs.declared.meaning.Meaning.{Meaning}
use Rattle.carol_meaning.specs.Scopes.{meaning_of}
use Rattle.carol_resolve.specs.Scoped.{IsSafe}
use Rattle.carol_resolve.proofs.Entries.{lookup-scope, meaning-safe, copied-safe}
use Rattle.carol_resolve.proofs.scope.Scope.look.Goals as goal

pub returns-clause-meaning : goal.returns-clause-meaning
returns-clause-meaning c =
    c.get.ensures.value ∙ lookup-scope (λ k. k.now) c.args.word.now c.self.inside.names.entries ∙ ap (meaning_of c.args.word.now) c.self.view_is

pub returns-clause-safe : goal.returns-clause-safe
returns-clause-safe c =
    copied-safe c.get.result
    (subst (λ (o : Option Meaning). IfSome o IsSafe) (sym (c.get.ensures.value ∙ lookup-scope (λ k. k.now) c.args.word.now c.self.inside.names.entries))
    (meaning-safe c.args.word.now _ c.self.invariant))
