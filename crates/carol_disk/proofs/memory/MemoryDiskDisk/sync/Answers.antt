use Rattle.std.proofs.Common.{◌≡◌, rules}
use Rattle.carol_disk.specs.declared.call.Call.TheVariants.{Synced}
use Rattle.carol_disk.specs.Tapes.{after}
use Rattle.carol_disk.proofs.Syncing.{sync_leaves}
use Rattle.carol_disk.proofs.memory.MemoryDiskDisk.sync.Goals as goal

pub returns-clause-crash : goal.returns-clause-crash
returns-clause-crash c =
    let noted : c.note_sync.new.self ≡ after c.args.self.now Synced = search rules in
    sync_leaves c.args.self.now c.note_sync.new.self noted
