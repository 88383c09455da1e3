use Rattle.std.proofs.Common.{sym, ◌∙◌, ap, subst, List, ℕ, take}
use Rattle.carol_meaning.specs.declared.meaning.Meaning.{Meaning}
use Rattle.carol_resolve.specs.Scoped.{AreSafe}
use Rattle.carol_resolve.proofs.Entries.{taken-entries}
use Rattle.carol_resolve.proofs.Scopes.{safe-take}
use Rattle.carol_resolve.proofs.scope.Scope.truncate.Goals as goal

pub invariant_of-self : goal.invariant_of-self
invariant_of-self c =
    subst (λ (scope : List (List ℕ × Meaning)). AreSafe scope)
    (sym (taken-entries (λ k. k.now) c.args.len c.self.inside.names.entries c.truncate.new.self.entries c.truncate.ensures.entries))
    (safe-take c.args.len _ c.self.invariant)

pub returns : goal.returns
returns c =
    taken-entries (λ k. k.now) c.args.len c.self.inside.names.entries c.truncate.new.self.entries c.truncate.ensures.entries ∙
    ap (take c.args.len) c.self.view_is
