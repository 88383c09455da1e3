use Rattle.std.proofs.Common.{◌≡◌, ◌≤◌, ◌+◌, false, length, ◌∙◌, ap, arith}
use Rattle.carol_vault.specs.Vaults.{Vaulted}
use Rattle.carol_vault.proofs.Keepings.{gate_small, vault_open}
use Rattle.carol_vault.proofs.vault.Vault.keep.Goals as goal

pub commit-requires-clause-room : goal.commit-requires-clause-room
commit-requires-clause-room g c =
    let opened : c.self.inside.closed ≡ false = ap (λ (v : Vaulted g.row.D.Denot). v.closed) c.self.view_is ∙ c.requires.open in
    let small : c.self.inside.gate ≤ 119537664 =
    gate_small c.event_numbers.ensures c.self.inside.house c.prepare.new.house c.self.inside.gate c.history-history.ensures.history c.in_ok-body.ensures.ready.2.history
    (c.self.invariant.ready opened).gate_is in
    omega (arith, small)

pub overflow_add-self : goal.overflow_add-self
overflow_add-self g c =
    let opened : c.self.inside.closed ≡ false = ap (λ (v : Vaulted g.row.D.Denot). v.closed) c.self.view_is ∙ c.requires.open in
    let small : c.self.inside.gate ≤ 119537664 =
    gate_small c.event_numbers.ensures c.self.inside.house c.prepare.new.house c.self.inside.gate c.history-history.ensures.history c.in_ok-body.ensures.ready.2.history
    (c.self.invariant.ready opened).gate_is in
    omega (arith, small, ap length c.as_slice-part.ensures.value, c.in_ok-body.ensures.small)

pub invariant_of-self-in-Ok : goal.invariant_of-self-in-Ok
invariant_of-self-in-Ok g c =
    vault_open g.D.Disk.seen g.D.Disk.kept g.D.Disk.may_leave c.commit.new.disk c.commit.new.house c.self.inside.closed (c.self.inside.gate + length c.as_slice-part.result.now)
    (ap (λ (v : Vaulted g.row.D.Denot). v.closed) c.self.view_is ∙ c.requires.open) c.in-Ok.ensures.ready
