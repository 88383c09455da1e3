use Rattle.std.proofs.Common.{◌≡◌, get_or, set, sym, ap, subst}
use Rattle.carol_cert.specs.declared.step.RowStep.{RowStep}
use Rattle.carol_formula.specs.declared.term.Row.{Row}
use Rattle.carol_linear.proofs.Near.{exchanged}
use Rattle.carol_linear.proofs.place.Place.exchange.Goals as goal

pub returns : goal.returns
returns c =
    let rows = c.args.self.now.rows.items in
    let names = c.args.self.now.names.items in
    let i = c.args.place in
    exchanged c.args.self.now _ i c.args.row c.replace.result c.args.name c.replace-was.result (ap (set rows i) c.replace.ensures.after) (ap (set names i) c.replace-was.ensures.after) c.requires.known c.requires.named
    (subst (λ (r : Row). r ≡ get_or rows i r) (sym c.replace.ensures.value) c.index_mut-2.ensures.value)
    (subst (λ (name : RowStep). name ≡ get_or names i name) (sym c.replace-was.ensures.value) c.index_mut.ensures.value)
    c.requires.tighter
