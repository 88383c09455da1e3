use Rattle.std.proofs.Common.{◌≡◌, ◌<◌, ◌≤◌, length, sym, subst}
use Rattle.carol_program.specs.declared.program.Program.{Program}
use Rattle.carol_program.specs.Limits.{most_ops}
use Rattle.carol_advise_word.proofs.Finding.{few_ops, op_within}
use Rattle.carol_advise_word.proofs.word.named.Goals as goal

pub op_named-requires : goal.op_named-requires
op_named-requires c = subst (λ (p : Program). length p.names.ops ≤ most_ops) (sym c.program.ensures.program) (few_ops c.args.kept.now c.program.ensures.kept)

pub advised-requires : goal.advised-requires
advised-requires c =
    let low : c.in-Some.number < length c.args.kept.now.program.names.ops = subst (λ (p : Program). c.in-Some.number < length p.names.ops) c.program.ensures.program c.in-Some.ensures.within in
    op_within c.args.kept.now c.in-Some.number c.program.ensures.kept low
