use Rattle.std.proofs.Common.{◌∙◌, arith}
use Rattle.carol_vault_image.proofs.Readings.{short_none}
use Rattle.carol_vault.specs.Vaults.{events_of}
use Rattle.carol_vault.proofs.Openings.{front_of, kept_either}
use Rattle.carol_vault.proofs.open.finish.Goals as goal

pub settle-requires-clause-begins : goal.settle-requires-clause-begins
settle-requires-clause-begins g c = λ short.
    c.requires.place ∙ short_none (g.D.Disk.seen c.args.disk.now) (events_of c.args.house.now) c.requires.sound.end c.requires.sound.read.are (omega (arith, short, c.requires.size))

pub returns-clause-kept : goal.returns-clause-kept
returns-clause-kept g c =
    kept_either (g.D.Disk.seen c.args.disk.now) (g.D.Disk.seen c.settle.new.disk) (g.D.Disk.kept c.args.disk.now) (g.D.Disk.kept c.settle.new.disk) (events_of c.args.house.now) c.args.gate
    c.settle.result (front_of (g.D.Disk.seen c.args.disk.now) (events_of c.args.house.now) c.requires.sound.end c.args.gate c.requires.sound.read c.requires.place)
    c.settle.ensures.front c.settle.ensures.shut c.settle.ensures.kept c.settle.ensures.unkept
