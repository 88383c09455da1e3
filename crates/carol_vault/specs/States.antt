-- How a vault keeps itself.
use Rattle.std.specs.Prelude.{◌≡◌, ℕ, false, List}
use Rattle.carol_vault.specs.Vaults.{IsKept, IsReady, Vaulted, acknowledged}

-- the disk keeps what is acknowledged, and is ready as long as no call answered Fault
pub record IsVault {D : Type 0} (seen kept : D → List ℕ) (may_leave : D → List ℕ → Type 0)
    (v : Vaulted D) (gate : ℕ) : Type 0 where
  pub keeps : IsKept kept may_leave (acknowledged v) v.disk v.house
  pub ready : v.closed ≡ false → IsReady seen kept may_leave v.disk v.house gate
