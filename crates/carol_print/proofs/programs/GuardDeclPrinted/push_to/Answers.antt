use Rattle.carol_syntax.specs.Files.{guard_tree}
use Rattle.carol_print.proofs.Parts.{guard_text}
use Rattle.carol_print.proofs.programs.GuardDeclPrinted.push_to.Goals as goal

pub returns : goal.returns
returns c =
    rw (c.in_ok-push_text-3.ensures, c.in_ok-push_formula.ensures, c.in_ok-push_text-2.ensures, c.in_ok-push_to.ensures, c.in_ok-push_text.ensures)
    (guard_text (guard_tree c.args.self.now) c.args.out.now.items)
