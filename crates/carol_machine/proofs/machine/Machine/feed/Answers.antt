use Rattle.std.proofs.Common.{subst, refl}
use Rattle.carol_program.specs.Rules.{rules_in}
use Rattle.carol_machine.specs.Feeds.{IsActOf, MayBeFed}
use Rattle.carol_machine.specs.declared.fed.Fed.{Fed}
use Rattle.carol_machine.specs.declared.fed.Fed.TheVariants as fed
use Rattle.carol_reading.specs.Marks.{Asked, Issued, Released}
use Rattle.std.proofs.lemmas.Option.{slice_get_within}
use Rattle.carol_machine.proofs.Counting.{room_to_count, room_to_ask}
use Rattle.carol_machine.proofs.Standing.{queried_one, issued, released}
use Rattle.carol_machine.proofs.machine.Machine.feed.Goals as goal

pub query-requires-clause-few : goal.query-requires-clause-few
query-requires-clause-few c =
    let may : MayBeFed (rules_in c.args.accepted.now.program) c.args.self.now (fed.Queried c.in-Queried.store) = subst (MayBeFed (rules_in c.args.accepted.now.program) c.args.self.now) c.in-Queried.is c.requires
    in room_to_ask (rules_in c.args.accepted.now.program) c.program-program.ensures.kept.well_formed.rules c.args.self.now (Asked may.0 c.in-Queried.store) may.1 refl

pub query-requires-clause-done : goal.query-requires-clause-done
query-requires-clause-done c =
    let may : MayBeFed (rules_in c.args.accepted.now.program) c.args.self.now (fed.Queried c.in-Queried.store) = subst (MayBeFed (rules_in c.args.accepted.now.program) c.args.self.now) c.in-Queried.is c.requires
    in room_to_count (rules_in c.args.accepted.now.program) c.program-program.ensures.kept.well_formed.rules c.args.self.now (Asked may.0 c.in-Queried.store) may.1

pub close-requires : goal.close-requires
close-requires c =
    let may : MayBeFed (rules_in c.args.accepted.now.program) c.args.self.now fed.Issued = subst (MayBeFed (rules_in c.args.accepted.now.program) c.args.self.now) c.in-Issued.is c.requires
    in room_to_count (rules_in c.args.accepted.now.program) c.program-program.ensures.kept.well_formed.rules c.args.self.now (Issued may.0) may.1

pub close-requires-in-Released : goal.close-requires-in-Released
close-requires-in-Released c =
    let may : MayBeFed (rules_in c.args.accepted.now.program) c.args.self.now fed.Released = subst (MayBeFed (rules_in c.args.accepted.now.program) c.args.self.now) c.in-Released.is c.requires
    in room_to_count (rules_in c.args.accepted.now.program) c.program-program.ensures.kept.well_formed.rules c.args.self.now Released may

pub finish-requires : goal.finish-requires
finish-requires c =
    let may : MayBeFed (rules_in c.args.accepted.now.program) c.args.self.now (fed.Returned c.in-Returned.value) = subst (MayBeFed (rules_in c.args.accepted.now.program) c.args.self.now) c.in-Returned.is c.requires
    in slice_get_within c.args.self.now.plan.commands c.args.self.now.at.command may.command may.present

pub refuse-requires : goal.refuse-requires
refuse-requires c =
    let may : MayBeFed (rules_in c.args.accepted.now.program) c.args.self.now (fed.Refused c.in-Refused.cause) = subst (MayBeFed (rules_in c.args.accepted.now.program) c.args.self.now) c.in-Refused.is c.requires
    in slice_get_within c.args.self.now.plan.commands c.args.self.now.at.command may.0 may.1

pub returns-in-Queried-clause-stands : goal.returns-in-Queried-clause-stands
returns-in-Queried-clause-stands c act done is at = rw c.query.ensures (queried_one c.args.self.now c.in-Queried.store act done (subst (λ (f : Fed). IsActOf f act) c.in-Queried.is is) at)

pub returns-in-Issued-clause-stands : goal.returns-in-Issued-clause-stands
returns-in-Issued-clause-stands c act done is at = rw c.close.ensures (issued c.args.self.now act done (subst (λ (f : Fed). IsActOf f act) c.in-Issued.is is) at)

pub returns-in-Released-clause-stands : goal.returns-in-Released-clause-stands
returns-in-Released-clause-stands c act done is at = rw c.close-in-Released.ensures (released c.args.self.now act done (subst (λ (f : Fed). IsActOf f act) c.in-Released.is is) at)
