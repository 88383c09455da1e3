use Rattle.std.proofs.Common.{ap, sym, not, ◌∙◌}
use Rattle.carol_names.proofs.NameLaws.{among-keys, insert-keys}
use Rattle.carol_names.proofs.declared.Words.add.Goals as goal

pub returns-clause-fresh : goal.returns-clause-fresh
returns-clause-fresh c = rw (← c.self.view_is) (c.in_ok-fresh.ensures.added ∙ ap not (among-keys (λ k. k.now) c.args.word.now c.self.inside.set.keys))

pub returns-clause-added : goal.returns-clause-added
returns-clause-added c = rw (← c.self.view_is, c.in_ok-fresh.ensures.keys) (insert-keys (λ k. k.now) c.args.word c.self.inside.set.keys)
