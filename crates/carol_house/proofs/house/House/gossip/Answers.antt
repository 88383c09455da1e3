use Rattle.std.proofs.lemmas.Result.{err_from_is_err_and}
use Rattle.carol_house.proofs.Moving.{can_gossip, gossip_fails}
use Rattle.carol_house.proofs.house.House.gossip.Goals as goal

pub returns-in_err-make_way-in-Delivered-clause-err : goal.returns-in_err-make_way-in-Delivered-clause-err
returns-in_err-make_way-in-Delivered-clause-err c =
    let old = c.args.self.now
    in let p = err_from_is_err_and c.from_residual.result c.from_residual.ensures.1
    in rw (p.1, p.2) (gossip_fails old c.args.from c.args.to c.in_err-make_way-in-Delivered.field-0.0 c.make_way.new.self (can_gossip old c.args.from c.args.to c.in-Delivered.entry c.in-Delivered.ensures) c.in_err-make_way-in-Delivered.ensures.err)
