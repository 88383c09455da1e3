-- What opening a vault comes to.
use Rattle.std.specs.Prelude.{◌≡◌, ℕ, List, length, nat_le, if◌then◌else◌, Result, Ok, Err}
use Rattle.carol_program.specs.Rules.{Rules, rules_in}
use Rattle.carol_program.specs.declared.scenes.Scene.{Scene}
use Rattle.carol_reading.specs.Kept.{Kept}
use Rattle.carol_event.specs.declared.event.Event.{Event}
use Rattle.carol_house.specs.House.{House}
use Rattle.carol_vault.specs.declared.error.OpenCause.{OpenCause}
use Rattle.carol_vault.specs.declared.error.OpenCause.TheVariants.{Fault, Damaged, Illegal, NoMemory}
use Rattle.carol_vault.specs.Finding.{IsDamaged, IsIllegal, IsSound}
use Rattle.carol_vault.specs.declared.error.OpenFailed.{OpenFailed}
use Rattle.carol_vault.specs.Vaults.{Vaulted, events_of}
use Rattle.carol_vault_image.specs.Records.{Shows}

-- the house is over the program and the scene, and its history is the one that the file keeps
pub record Opens (kept : Kept) (scene : Scene) (file : List ℕ) (house : House) : Type 0 where
  pub kept_is : house.kept ≡ kept
  pub scene_is : house.scene ≡ scene
  pub sound : IsSound (rules_in kept.program) scene file (events_of house)

-- why a file was not opened; what a Fault or want of memory comes of is no matter of the file
abbrev pub IsCause : Rules → Scene → List ℕ → OpenCause → Type 0
IsCause p scene file Fault = Unit {0}
IsCause p scene file (Damaged at) = IsDamaged file at
IsCause p scene file (Illegal number) = IsIllegal p scene file number
IsCause p scene file NoMemory = Unit {0}

-- where the file keeps a history, the other shows it
abbrev pub StandsFor : Rules → Scene → List ℕ → List ℕ → Type 0
StandsFor p scene file other =
    (events : List Event) → IsSound p scene file events → Shows other events

-- how many calls it takes to open a file: the more where its first byte is to be written
abbrev pub calls_to_open : List ℕ → ℕ
calls_to_open file = if nat_le (length file) 1 then 5 else 3

-- the disk of the vault, or the one that is handed back
abbrev pub disk_of : {D : Type 0} → Result (Vaulted D) (OpenFailed D) → D
disk_of (Ok vault) = vault.disk
disk_of (Err failed) = failed.disk
