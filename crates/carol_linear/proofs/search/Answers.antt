use Rattle.std.proofs.Common.{refl, subst}
use Rattle.carol_elimination.specs.Entries.{terms_of}
use Rattle.carol_linear.specs.State.{Start, IsNext}
use Rattle.carol_linear.proofs.search.Goals as goal

pub returns-in-Some : goal.returns-in-Some
returns-in-Some c list named plain same counted =
    let start : Start = record { rows = terms_of c.args.rows.now; names = c.args.names.now; claims = c.args.claims; leaves = c.args.leaves } in
    let next = subst (IsNext start c.step.new.self) c.in-Some.is (c.in_ok-answer.ensures.next start refl refl c.loop-state.invariant) in
    next list (record { named = named; plain = plain; same = same; counted = counted })

pub loop-state-preserved : goal.loop-state-preserved
loop-state-preserved c =
    let start : Start = record { rows = terms_of c.args.rows.now; names = c.args.names.now; claims = c.args.claims; leaves = c.args.leaves } in
    subst (IsNext start c.step.new.self) c.in_default.is (c.in_ok-answer.ensures.next start refl refl c.loop-state.invariant)
