use Rattle.carol_syntax.specs.Files.{file_tree}
use Rattle.carol_print.proofs.Parts.{file_text}
use Rattle.carol_print.proofs.whole.push_file.Goals as goal

pub returns : goal.returns
returns c =
    rw (c.in_ok-push_script_part.ensures, c.in_ok-push_scene_part.ensures, c.in_ok-push_program.ensures) (file_text (file_tree c.args.file.now) c.args.out.now.items)
