use Rattle.std.proofs.Common.{false, refl}
use Rattle.carol_vault.proofs.Keepings.{vault_open}
use Rattle.carol_vault.proofs.vault.Vault.open.Goals as goal

pub invariant_of-result : goal.invariant_of-result
invariant_of-result g c =
    vault_open g.D.Disk.seen g.D.Disk.kept g.D.Disk.may_leave c.begin.new.disk c.in-Ok.begun.house false c.in-Ok.begun.gate refl c.in-Ok.ensures.ready
