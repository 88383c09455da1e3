use Rattle.carol_obligation.proofs.Spots.{kept_pushed}
use Rattle.carol_obligation.proofs.list.KeeperCollector.take.Goals as goal

pub returns : goal.returns
returns c = kept_pushed c.push.result c.args.self.now.list c.push.new.self (record { place = c.args.place; formula = c.args.formula }) c.requires.formula c.push.ensures.ok
