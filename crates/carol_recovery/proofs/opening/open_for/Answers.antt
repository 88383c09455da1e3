use Rattle.std.proofs.Common.{◌∙◌}
use Rattle.carol_disk.specs.Tapes.{kept_after, seen_of}
use Rattle.carol_vault.specs.Opening.{disk_of}
use Rattle.carol_recovery.proofs.Copied.{kept_copied}
use Rattle.carol_recovery.proofs.opening.open_for.Goals as goal

pub returns-clause-kept : goal.returns-clause-kept
returns-clause-kept c =
    let after = disk_of c.open.result in
    kept_copied c.args.house.now.kept c.in-Ok.accepted c.args.house.now.scene c.in-Ok-copy.scene (kept_after after.first after.past) (kept_after c.args.disk.first c.args.disk.past) (seen_of c.args.disk)
    (c.in-Ok.ensures ∙ c.accepted.ensures) (c.in-Ok-copy.ensures ∙ c.scene.ensures.scene) c.open.ensures.kept
