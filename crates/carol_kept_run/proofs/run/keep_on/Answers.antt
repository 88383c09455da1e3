use Rattle.carol_kept_run.proofs.Playings.{kept_says}
use Rattle.carol_kept_run.proofs.run.keep_on.Goals as goal

pub returns-in-Ok-clause-says : goal.returns-in-Ok-clause-says
returns-in-Ok-clause-says g c =
    kept_says c.args.ready.accepted c.args.ready.scene c.args.ready.script (g.D.Disk.seen c.args.disk) c.in-Ok.vault.house c.play.new.vault.house
    (g.K.Sink.taken c.args.sink.now) (g.K.Sink.taken c.play.new.sink) c.play.result c.in-Ok.ensures.ok.0 c.as_slice.result.now c.as_slice.ensures c.play.ensures.goes_on c.play.ensures.told
