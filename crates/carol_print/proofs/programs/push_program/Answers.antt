use Rattle.carol_syntax.specs.Files.{program_tree, guard_tree, op_tree}
use Rattle.carol_print.specs.Canonical.{guard, op}
use Rattle.carol_print.proofs.Texts.{map_twice}
use Rattle.carol_print.proofs.Parts.{program_text}
use Rattle.carol_print.proofs.programs.push_program.Goals as goal

pub returns : goal.returns
returns c =
    rw (c.in_ok-push_text-4.ensures, c.in_ok-push_all-3.ensures, c.as_slice-3.ensures, c.in_ok-push_all-2.ensures, c.as_slice-2.ensures, c.in_ok-push_text-3.ensures, c.in_ok-push_formula.ensures, c.in_ok-push_text-2.ensures, c.in_ok-push_all.ensures, c.as_slice.ensures, c.in_ok-push_text.ensures, map_twice guard guard_tree c.args.program.now.guards, map_twice op op_tree c.args.program.now.ops)
    (program_text (program_tree c.args.program.now) c.args.out.now.items)
