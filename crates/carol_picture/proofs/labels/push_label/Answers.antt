use Rattle.std.specs.Prelude.{codes, []}
use Rattle.carol_picture.specs.Labels.{atoms_text, cause_label, label, session_text}
use Rattle.carol_picture.specs.Texts.{named, numbered}
use Rattle.carol_picture.proofs.Appending.{three, two}
use Rattle.carol_picture.proofs.labels.push_label.Goals as goal

pub returns-in_ok-push_session-in-Grant : goal.returns-in_ok-push_session-in-Grant
unfolding label
returns-in_ok-push_session-in-Grant c =
    let names = c.args.program.now.names in
    let said = rw c.as_slice-guards.ensures at c.push_named.ensures in
    rw c.in-Grant.is
    (two c.push_named.result c.args.out.now.items c.push_session.new.out.items c.push_named.new.out.items
    (session_text c.in-Grant.session (codes " is granted ")) (named [] names.guards c.in-Grant.guard) c.in_ok-push_session-in-Grant.ensures said)

pub returns-in_ok-push_numbered-in-Issue : goal.returns-in_ok-push_numbered-in-Issue
unfolding label
returns-in_ok-push_numbered-in-Issue c =
    let names = c.args.program.now.names in
    let counted = rw c.from.ensures at c.in_ok-push_numbered-in-Issue.ensures in
    let said = rw (c.as_slice.ensures, c.as_slice-in-Issue.ensures.items) at c.push_atoms.ensures in
    rw c.in-Issue.is
    (three c.push_atoms.result c.args.out.now.items c.push_session-in-Issue.new.out.items c.push_numbered.new.out.items c.push_atoms.new.out.items
    (session_text c.in-Issue.session (codes " issues entry ")) (numbered [] c.in-Issue.entry) (atoms_text names.cells c.args.program.now.shape c.in-Issue.effect)
    c.in_ok-push_session-in-Issue.ensures counted said)

pub returns-in_ok-push_session-in-Refuse : goal.returns-in_ok-push_session-in-Refuse
unfolding label
returns-in_ok-push_session-in-Refuse c =
    rw c.in-Refuse.is
    (two c.push_cause.result c.args.out.now.items c.push_session-in-Refuse.new.out.items c.push_cause.new.out.items
    (session_text c.in-Refuse.session (codes " is refused: ")) (cause_label c.args.program.now.names c.in-Refuse.cause) c.in_ok-push_session-in-Refuse.ensures c.push_cause.ensures)

pub returns-in_ok-push_numbered-in-Deliver-2 : goal.returns-in_ok-push_numbered-in-Deliver-2
unfolding label
returns-in_ok-push_numbered-in-Deliver-2 c =
    let entry = rw c.from-in-Deliver.ensures at c.in_ok-push_numbered-in-Deliver.ensures in
    let source = rw c.from-in-Deliver-2.ensures at c.in_ok-push_numbered-in-Deliver-2.ensures in
    let target = rw c.from-in-Deliver-3.ensures at c.push_numbered-in-Deliver-3.ensures in
    rw c.in-Deliver.is
    (three c.push_numbered-in-Deliver-3.result c.args.out.now.items c.push_numbered-in-Deliver.new.out.items
    c.push_numbered-in-Deliver-2.new.out.items c.push_numbered-in-Deliver-3.new.out.items (numbered (codes "entry ") c.in-Deliver.entry)
    (numbered (codes " from replica ") c.in-Deliver.source) (numbered (codes " to replica ") c.in-Deliver.target) entry source target)
