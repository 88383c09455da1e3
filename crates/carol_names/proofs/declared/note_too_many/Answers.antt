use Rattle.std.proofs.Common.{ap, ◌∙◌, sym}
use Rattle.std.proofs.lemmas.Option.{slice_get-map}
use Rattle.carol_names.proofs.declared.note_too_many.Goals as goal

pub returns-in_ok-note_name : goal.returns-in_ok-note_name
returns-in_ok-note_name g c = rw (slice_get-map g.T.Declares.ident c.args.items.now c.args.most, ← c.in-Some.ensures, ← c.ident.ensures) c.in_ok-note_name.ensures
