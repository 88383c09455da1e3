use Rattle.carol_print.proofs.Parts.{scene_text}
use Rattle.carol_print.proofs.scenes.push_scene.Goals as goal

pub returns : goal.returns
returns c =
    rw (c.in_ok-push_text-2.ensures, c.in_ok-push_all.ensures, c.as_slice.ensures, c.in_ok-push_setting-4.ensures, c.in_ok-push_setting-3.ensures, c.in_ok-push_setting-2.ensures, c.in_ok-push_setting.ensures, c.in_ok-push_text.ensures)
    (scene_text c.args.scene.now c.args.out.now.items)
