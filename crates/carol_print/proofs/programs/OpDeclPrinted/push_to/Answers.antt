use Rattle.carol_syntax.specs.Files.{op_tree, param_tree}
use Rattle.carol_print.specs.Canonical.{param}
use Rattle.carol_print.proofs.Texts.{map_twice}
use Rattle.carol_print.proofs.Parts.{op_text}
use Rattle.carol_print.proofs.programs.OpDeclPrinted.push_to.Goals as goal

pub returns : goal.returns
returns c =
    rw (c.in_ok-push_text-5.ensures, c.in_ok-push_inside.ensures, c.in_ok-push_text-4.ensures, c.in_ok-push_formula.ensures, c.in_ok-push_text-3.ensures, c.in_ok-push_with_commas.ensures, c.as_slice.ensures, c.in_ok-push_text-2.ensures, c.in_ok-push_to.ensures, c.in_ok-push_text.ensures, map_twice param param_tree c.args.self.now.params)
    (op_text (op_tree c.args.self.now) c.args.out.now.items)
