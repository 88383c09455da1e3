use Rattle.std.proofs.Common.{◌≡◌, []}
use Rattle.carol_program.specs.Rules.{rules_in}
use Rattle.carol_scenario.specs.Faults.{sessions_faults}
use Rattle.carol_scenario.proofs.Firsts.{none_of}
use Rattle.carol_scenario.proofs.Valid.{valid_scene}
use Rattle.carol_scenario.proofs.scenes.scene.Goals as goal

pub returns-clause-valid : goal.returns-clause-valid
returns-clause-valid c =
    let p = rules_in c.args.program.now in
    let names = c.args.program.now.names in
    let file = c.args.file.now in
    let sessions : sessions_faults p names file.replicas.value 0 0 file.sessions ≡ [] = rw (c.as_slice.ensures, c.in_ok-replicas.ensures.ok.1) at c.in_ok-sessions.ensures.none in
    let heads = none_of _ _ c.in_ok-replicas.ensures.ok.0 (none_of _ _ c.in_ok-tries.ensures.ok.0 (none_of _ _ c.in_ok-workers.ensures.ok.0 c.in_ok-gossipers.ensures.ok.0)) in
    valid_scene p names file _ (none_of _ _ heads sessions) c.in_ok-replicas.ensures.ok.1 c.in_ok-tries.ensures.ok.1 c.in_ok-workers.ensures.ok.1 c.in_ok-gossipers.ensures.ok.1
    (rw c.as_slice.ensures at c.in_ok-sessions.ensures.made)
