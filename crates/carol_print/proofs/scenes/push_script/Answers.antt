use Rattle.carol_print.proofs.Parts.{script_text}
use Rattle.carol_print.proofs.scenes.push_script.Goals as goal

pub returns : goal.returns
returns c =
    rw (c.in_ok-push_text-2.ensures, c.in_ok-push_all.ensures, c.in_ok-push_text.ensures) (script_text c.args.lines.now c.args.out.now.items)
