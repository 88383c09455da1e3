use Rattle.std.proofs.Common.{◌∷◌, length, ap, arith}
use Rattle.std.proofs.lemmas.List.{length-reverse}
use Rattle.carol_house.specs.House.{rules_of}
use Rattle.carol_vault.proofs.keeping.prepare.Goals as goal

pub record_body-requires : goal.record_body-requires
record_body-requires c =
    let house = c.args.house.now in
    let is = c.history.ensures.history in
    (c.event_numbers.ensures (rules_of house) house.scene (c.args.event.now ∷ house.history) is.may (c.requires, is.run)
    (omega (arith, c.if-history-ge-MOST_EVENTS.false, ap length c.history.ensures.events, length-reverse house.history))).0
