-- A house may go to another thread.
use Rattle.std.proofs.Common.{rules}
use denote.Param.Send.{IsSend, sendable}
use Rattle.std.proofs.Crossing.{crosses}
use Rattle.sqlite_items.proofs.boxed.Boxed.TheSendSync.{the_send as boxed_send}
use Rattle.sqlite_items.proofs.items.Items.TheSendSync.{the_send as items_send}
use Rattle.carol_store.proofs.shape.Shape.TheSendSync.{the_send as shape_send}
use Rattle.carol_store.proofs.store.Store.TheSendSync.{the_send as store_send}
use Rattle.carol_formula.proofs.boxed.Boxed.TheSendSync.{the_send as formula_boxed_send}
use Rattle.carol_formula.proofs.formula.Formula.TheLaws.TheKnot.{crosses as formula_crosses}
use Rattle.carol_formula.proofs.term.Term.TheSendSync.{the_send as term_send}
use Rattle.carol_program.proofs.accords.AccordTable.TheSendSync.{the_send as table_send}
use Rattle.carol_program.proofs.names.Name.TheSendSync.{the_send as name_send}
use Rattle.carol_program.proofs.names.OpNames.TheSendSync.{the_send as op_names_send}
use Rattle.carol_program.proofs.scenes.SessionPlan.TheSendSync.{the_send as plan_send}
use Rattle.carol_program.proofs.steps.Part.TheSendSync.{the_send as part_send}
use Rattle.carol_program.proofs.steps.Step.TheLaws.TheKnot.{crosses as step_crosses}
use Rattle.carol_program.specs.contracts.names.Names as names
use Rattle.carol_program.specs.contracts.program.Guard as guard
use Rattle.carol_program.specs.contracts.program.Op as op
use Rattle.carol_program.specs.contracts.program.Program as program
use Rattle.carol_program.specs.contracts.scenes.Scene as scene
use Rattle.carol_reading.specs.contracts.accepted.Accepted as accepted
use Rattle.carol_event.proofs.event.Event.TheSendSync.{the_send as event_send}
use Rattle.carol_machine.proofs.machine.Machine.TheSendSync.{the_send as machine_send}
use Rattle.carol_grant.proofs.grants.Grants.TheSendSync.{the_send as grants_send}
use Rattle.carol_holding.proofs.holding.Holding.TheSendSync.{the_send as holding_send}
use Rattle.carol_replica.proofs.journal.Journal.TheSendSync.{the_send as journal_send}
use Rattle.carol_replica.proofs.replicas.Replicas.TheSendSync.{the_send as replicas_send}
use Rattle.carol_house.proofs.links.Links.TheSendSync.{the_send as links_send}
use Rattle.carol_house.proofs.settled.Settled.TheSendSync.{the_send as settled_send}
use Rattle.carol_house.specs.contracts.house.House as house
use Rattle.carol_house.specs.contracts.tables.Tables as tables

ruleset parts = (rules, sendable, crosses, formula_crosses, step_crosses, boxed_send, items_send, shape_send, store_send, formula_boxed_send, term_send, part_send)

guard_send : IsSend guard.the_row
guard_send = search parts depth 20

op_send : IsSend op.the_row
op_send = search parts depth 20

names_send : IsSend (names.the_field).row
names_send = search (sendable, items_send, name_send, op_names_send) depth 20

program_send : IsSend (program.the_field).row
program_send = search (parts, guard_send, op_send, names_send) depth 20

accepted_send : IsSend accepted.the_row
accepted_send = search (sendable, program_send, table_send) depth 20

scene_send : IsSend (scene.the_field).row
scene_send = search (rules, sendable, items_send, plan_send) depth 20

tables_send : IsSend (tables.the_field).row
tables_send = search (rules, sendable, crosses, machine_send, grants_send, holding_send, journal_send, replicas_send, links_send, settled_send) depth 20

pub house_send : IsSend house.the_row
house_send = search (sendable, crosses, accepted_send, scene_send, event_send, tables_send) depth 20
