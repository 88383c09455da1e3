use Rattle.std.proofs.Common.{◌≡◌, [], ◌∷◌, ◌++◌, length, rules, refl, ap, ◌∙◌}
use Rattle.carol_replica.specs.Entries.{Journal}
use Rattle.carol_replica.specs.declared.journal.Row.{Row}
use Rattle.carol_replica.proofs.Keeping.{rows_more}
use Rattle.carol_replica.proofs.journal.Journal.append.Goals as goal

pub returns-clause-entries : goal.returns-clause-entries
returns-clause-entries c =
    let s = c.self.inside
    in let row : Row = record { start = c.len-start.result; len = length c.args.atoms.now }
    in let grown : c.extend_from_slice.new.self.items ≡ s.atoms.items ++ c.args.atoms.now = let said = c.extend_from_slice.ensures.items in rw c.unwrap.ensures at said
    in let last : row ≡ record { start = length s.atoms.items; len = length c.args.atoms.now } = let at : c.len-start.result ≡ length s.atoms.items = search rules in rw at refl
    in rw (c.push_reserved.ensures.items, grown)
    (rows_more s.atoms.items c.args.atoms.now s.rows.items row last c.self.invariant.inside ∙ ap (λ (j : Journal). j.entries ++ c.args.atoms.now ∷ []) c.self.view_is)
