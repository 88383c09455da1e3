use Rattle.std.proofs.Common.{sym, ◌∙◌, ap, subst, List, ℕ}
use Rattle.std.specs.Prelude.{is_some}
use Rattle.std.specs.Str.{bytes_eq}
use Rattle.indexmap.proofs.CallerLemmas.{insert_entry-new}
use Rattle.carol_meaning.specs.declared.meaning.Meaning.{Meaning}
use Rattle.carol_meaning.specs.Scopes.{meaning_of}
use Rattle.carol_resolve.specs.Scoped.{AreSafe}
use Rattle.carol_resolve.proofs.Entries.{lookup-scope, known, none-of, more-entries, declared-entries, safe-append}
use Rattle.carol_resolve.proofs.scope.Scope.declare.Goals as goal

pub returns-then-contains_key : goal.returns-then-contains_key
returns-then-contains_key c =
    sym (known (meaning_of c.args.word.now c.args.self.now) _ c.args.self.now
    (c.if-contains_key.ensures ∙ ap is_some (lookup-scope (λ k. k.now) c.args.word.now c.self.inside.names.entries ∙ ap (meaning_of c.args.word.now) c.self.view_is)))

pub invariant_of-self-2 : goal.invariant_of-self-2
invariant_of-self-2 c =
    subst (λ (scope : List (List ℕ × Meaning)). AreSafe scope)
    (sym (more-entries (λ k. k.now) c.self.inside.names.entries c.insert.new.self.entries c.args.word c.args.meaning
    (c.in_ok-insert.ensures.entries ∙ insert_entry-new (λ x y. bytes_eq x.now y.now) c.self.inside.names c.args.word c.args.meaning (none-of _ c.if-contains_key.ensures))))
    (safe-append _ c.args.word.now c.args.meaning c.self.invariant c.requires)

pub returns : goal.returns
returns c =
    rw (← c.self.view_is)
    (declared-entries (λ k. k.now) c.self.inside.names.entries c.insert.new.self.entries c.args.word c.args.meaning
    (c.in_ok-insert.ensures.entries ∙ insert_entry-new (λ x y. bytes_eq x.now y.now) c.self.inside.names c.args.word c.args.meaning (none-of _ c.if-contains_key.ensures))
    c.if-contains_key.ensures)
