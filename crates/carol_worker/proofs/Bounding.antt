-- How long the history of a run scene is, and that nobody is refused behind an entry in it.
use Rattle.std.proofs.Common.{◌≤◌, ◌+◌, length, sym, subst, ap, arith}
use Rattle.carol_simulation.specs.Laws.{NobodyIsBehind, RunsAreShort}
use Rattle.carol_history.specs.Bounds.{HasNoCut, HasNoneBehind, links, most_events}
use Rattle.carol_program.specs.Rules.{Rules, rules_in}
use Rattle.carol_program.specs.declared.scenes.Scene.{Scene}
use Rattle.carol_reading.specs.Kept.{Kept}
use Rattle.carol_house.specs.House.{House, IsHistory, IsOverSame, rules_of}
use Rattle.carol_worker.specs.Running.{Continues}
use Rattle.carol_worker.proofs.Going.{links_before, no_cut_before}

-- what holds over a house's program and scene holds over those of one that is over the same
same_scene : (P : Rules → Scene → Type 0) (start house : House) → IsOverSame start house → P (rules_of house) house.scene → P (rules_of start) start.scene
same_scene P start house over holds =
    subst (λ (k : Kept). P (rules_in k.program) start.scene) over.kept
    (subst (λ (s : Scene). P (rules_of house) s) over.scene holds)

pub is_short : (old new : House) → RunsAreShort → Continues old new → IsHistory new → length new.history ≤ most_events (rules_of old) old.scene + links old.history
is_short old new law goes history =
    let short : length new.history ≤ most_events (rules_of new) new.scene + links new.history = law (rules_of new) new.scene new.history history.may.valid history.run in
    let here : length new.history ≤ most_events (rules_of old) old.scene + links new.history = same_scene (λ p s. length new.history ≤ most_events p s + links new.history) old new goes.over short in
    omega (arith, ap links goes.history, links_before goes.later old.history goes.unlinked)

pub is_reached : (old new : House) → NobodyIsBehind → Continues old new → IsHistory new → HasNoCut old.history → HasNoneBehind new.history
is_reached old new law goes history uncut =
    law (rules_of new) new.scene new.history history.may.valid history.run
    (subst HasNoCut (sym goes.history) (no_cut_before goes.later old.history goes.unlinked uncut))
