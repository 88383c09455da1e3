-- A script on a vault, one statement after the other.
use Rattle.std.proofs.Common.{◌≡◌, ◌≤◌, ◌<◌, ℕ, ◌+◌, zero, suc, false, List, [], ◌∷◌, ◌++◌, length, take, drop, get_or, drop-cons, inl, inr, refl, sym, ◌∙◌, ap, subst, arith, add-one}
use Rattle.std.specs.Prelude.{Option, Some, None, reverse, Result, Ok, Err, IfOk, OnOk}
use Rattle.std.proofs.lemmas.List.{take_all, take-append-drop}
use Rattle.carol_disk.specs.Disk.{LeavesOnly}
use Rattle.carol_disk.proofs.Moments.{then, weaker}
use Rattle.carol_event.specs.declared.event.Event.{Event}
use Rattle.carol_history.specs.declared.script.BadStatement.{BadStatement}
use Rattle.carol_history.specs.declared.script.ScriptCause.{ScriptCause}
use Rattle.carol_history.specs.declared.script.Statement.{Statement}
use Rattle.carol_history.specs.Scripts.{ComesTo, Fails, Gives, Scripted}
use Rattle.carol_house.specs.House.{House, IsOverSame, rules_of}
use Rattle.carol_program.specs.Rules.{Rules}
use Rattle.carol_program.specs.declared.scenes.Scene.{Scene}
use Rattle.carol_reading.specs.Kept.{Kept}
use Rattle.carol_reply.specs.declared.reply.Reply.{Reply}
use Rattle.carol_reply.specs.Reply.{answer_of}
use Rattle.carol_report.specs.Plays.{Plays}
use Rattle.carol_vault.specs.Opening.{Opens}
use Rattle.carol_house.specs.Moves.{IsFull}
use Rattle.carol_vault.specs.Vaults.{Holds, Vaulted, acknowledged}
use Rattle.carol_kept_run.specs.declared.ending.Broken.{Broken}
use Rattle.carol_kept_run.specs.declared.ending.Broken.TheVariants as broken
use Rattle.carol_kept_run.specs.declared.ending.Made.TheVariants as made
use Rattle.carol_kept_run.specs.Going.{FailsToYield, Fills, GoesOn, HasEvent, IsLater, KeptSays, Yields}
use Rattle.carol_kept_run.specs.Telling.{Tells, TellsLatest, TellsLatestPart, TellsPart, acknowledged_part}
use Rattle.carol_kept_run.proofs.Growth.{holds_later, later_more, later_same, later_self, open_part, part_more, part_whole, tells_more}

-- what a script has come to without a bad statement
abbrev so_far : List Event → Scripted
so_far history = record { history = history; bad = None }

not_bad : (one other : List Event) (bad : BadStatement) → so_far one ≡ record { history = other; bad = Some bad } → ⊥
not_bad one other bad e = none_some (ap (λ (s : Scripted). s.bad) e)
  where
    none_some : None ≡ Some bad → ⊥
    none_some e = cc

-- a front that gave an event each, and the rest behind it
comes_then : (p : Rules) (scene : Scene) (front rest : List Statement) (number : ℕ) (past mid : List Event) (end : Scripted) → ComesTo p scene number front past (so_far mid)
    → ComesTo p scene (number + length front) rest mid end → ComesTo p scene number (front ++ rest) past end
comes_then p scene [] rest number past mid end here next =
    subst (λ (l : List Event). ComesTo p scene number rest l end) (ap (λ (s : Scripted). s.history) here) (subst (λ (n : ℕ). ComesTo p scene n rest mid end) same next)
  where
    same : number + 0 ≡ number
    same = omega arith
comes_then p scene (line ∷ front) rest number past mid end (inl (given, gives, more)) next =
    inl (given, gives, comes_then p scene front rest (number + 1) (given ∷ past) mid end more (subst (λ (n : ℕ). ComesTo p scene n rest mid end) same next))
  where
    same : number + suc (length front) ≡ number + 1 + length front
    same = omega arith
comes_then p scene (line ∷ front) rest number past mid end (inr (cause, fails, is)) next = absurd (not_bad mid past _ is)

-- the first statements gave an event each, and the house has their history
pub record Playing (first : House) (lines : List Statement) (index : ℕ) (now : House) : Type 0 where
  pub over : IsOverSame first now
  pub comes : ComesTo (rules_of first) first.scene 1 (take index lines) first.history (so_far now.history)

pub starts : (first : House) (lines : List Statement) → Playing first lines 0 first
starts first lines = record { over = record { kept = refl; scene = refl }; comes = refl }

over_both : (first now new : House) → IsOverSame first now → IsOverSame now new → IsOverSame first new
over_both first now new one other = record { kept = other.kept ∙ one.kept; scene = other.scene ∙ one.scene }

-- what is said of the house as it is now is said of the first one's program and scene
of_first : (P : Rules → Scene → Type 0) (first now : House) → IsOverSame first now → P (rules_of now) now.scene → P (rules_of first) first.scene
of_first P first now over h = rw (over.kept, over.scene) at h

front_more : (lines : List Statement) (index : ℕ) (line : Statement) (more : List Statement) → drop index lines ≡ line ∷ more → take (index + 1) lines ≡ take index lines ++ line ∷ []
front_more [] zero line more is = absurd (none is)
  where
    none : [] ≡ line ∷ more → ⊥
    none e = cc
front_more [] (suc index) line more is = absurd (none is)
  where
    none : [] ≡ line ∷ more → ⊥
    none e = cc
front_more (first ∷ lines) zero line more is = ap (λ (l : List Statement). take 1 l) is
front_more (first ∷ lines) (suc index) line more is =
    subst (λ (n : ℕ). take n (first ∷ lines) ≡ first ∷ (take index lines ++ line ∷ [])) same (ap (λ (l : List Statement). first ∷ l) (front_more lines index line more is))
  where
    same : suc (index + 1) ≡ suc index + 1
    same = omega arith

-- one statement more gave an event
pub goes_on : (first : House) (lines : List Statement) (index : ℕ) (line : Statement) (more : List Statement) (now new : House) (given : Event) → Playing first lines index now
    → drop index lines ≡ line ∷ more → Gives (rules_of now) now.scene line given now.history → IsOverSame now new → new.history ≡ given ∷ now.history
    → Playing first lines (index + 1) new
goes_on first lines index line more now new given h here gives over grown = record {
  over = over_both first now new h.over over;
  comes = subst (λ (l : List Statement). ComesTo (rules_of first) first.scene 1 l first.history (so_far new.history)) (sym (front_more lines index line more here))
      (comes_then (rules_of first) first.scene (take index lines) (line ∷ []) 1 first.history now.history (so_far new.history) h.comes
      (inl (given, of_first (λ p scene. Gives p scene line given now.history) first now h.over gives, ap so_far grown)));
}

whole : (lines : List Statement) (index : ℕ) (line : Statement) (more : List Statement) → drop index lines ≡ line ∷ more → lines ≡ take index lines ++ line ∷ more
whole lines index line more here = sym (take-append-drop index lines) ∙ ap (λ (l : List Statement). take index lines ++ l) here

inside : (lines : List Statement) (index : ℕ) (line : Statement) (more : List Statement) → drop index lines ≡ line ∷ more → length (take index lines) ≡ index
inside [] zero line more here = refl
inside [] (suc index) line more here = absurd (none here)
  where
    none : [] ≡ line ∷ more → ⊥
    none e = cc
inside (first ∷ lines) zero line more here = refl
inside (first ∷ lines) (suc index) line more here = ap suc (inside lines index line more here)

-- the next one gave none
pub stops : (first : House) (lines : List Statement) (index number : ℕ) (line : Statement) (more : List Statement) (now : House) (cause : ScriptCause) → Playing first lines index now
    → drop index lines ≡ line ∷ more → number ≡ index + 1 → Fails now.scene line cause now.history → Plays first lines now (Some (record { number = number; cause = cause }))
stops first lines index number line more now cause h here is fails = record {
  over = h.over;
  script = subst (λ (l : List Statement). ComesTo (rules_of first) first.scene 1 l first.history (record { history = now.history; bad = Some (record { number = number; cause = cause }) }))
      (sym (whole lines index line more here))
      (comes_then (rules_of first) first.scene (take index lines) (line ∷ more) 1 first.history now.history _ h.comes
      (inr (cause, of_first (λ p scene. Fails scene line cause now.history) first now h.over fails, ap (λ (n : ℕ). record { history = now.history; bad = Some (record { number = n; cause = cause }) }) same)));
}
  where
    same : number ≡ 1 + length (take index lines)
    same = omega (arith, is, inside lines index line more here)

-- all gave one
pub plays_all : (first : House) (lines : List Statement) (index : ℕ) (now : House) → Playing first lines index now → length lines ≤ index → Plays first lines now None
plays_all first lines index now h le = record {
  over = h.over;
  script = subst (λ (l : List Statement). ComesTo (rules_of first) first.scene 1 l first.history (so_far now.history)) (take_all index lines le) h.comes;
}

-- the next one found a full history
pub fills : (first : House) (lines : List Statement) (index : ℕ) (line : Statement) (more : List Statement) (now : House) → Playing first lines index now → drop index lines ≡ line ∷ more
    → HasEvent now line → IsFull now → Fills first lines index now
fills first lines index line more now h here gives full = record {
  plays = record { over = h.over; script = h.comes };
  line = line;
  more = more;
  next = here;
  gives = gives;
  full = full;
}

-- ---- what a crash leaves

module _ {D : Type 0} (moment : D → ℕ) (left_since : D → ℕ → List ℕ → Type 0) where
  -- one part after the other, while the history grows
  pub crash_more : (old mid new : D) (least more : ℕ) (now later : House) → least ≤ more → IsLater now.history later.history → LeavesOnly moment left_since old mid (Holds least now)
      → LeavesOnly moment left_since mid new (Holds more later) → LeavesOnly moment left_since old new (Holds least later)
  crash_more old mid new least more now later le grown first second =
      then moment left_since old mid new (Holds least later)
      (weaker moment left_since old mid (Holds least now) (Holds least later) (λ c h. holds_later least least now later c (omega arith) grown h) first)
      (weaker moment left_since mid new (Holds more later) (Holds least later) (λ c h. holds_later least more later later c le (later_self later.history) h) second)

-- what holds while a script is carried out on a vault, of which the first statements gave an event
-- each: their lines were told, and each moment left a front of the history
pub record Keeping {D K : Type 0} (moment : D → ℕ) (left_since : D → ℕ → List ℕ → Type 0) (disk_faults : D → ℕ) (taken : K → Option (List ℕ)) (sink_faults : K → ℕ)
    (first : Vaulted D) (lines : List Statement) (index : ℕ) (sink_first sink_now : K) (now : Vaulted D) : Type 0 where
  pub stays_open : now.closed ≡ false
  pub playing : Playing first.house lines index now.house
  pub tells : Tells first.house.history now.house.history (taken sink_first) (taken sink_now)
  pub any_moment : LeavesOnly moment left_since first.disk now.disk (Holds (acknowledged first) now.house)
  pub disk_counted : disk_faults first.disk ≤ disk_faults now.disk
  pub sink_counted : sink_faults sink_first ≤ sink_faults sink_now

pub tells_later : (old new : List Event) (before after : Option (List ℕ)) → Tells old new before after → IsLater old new
tells_later old new before after tells = (reverse tells.events, tells.come)

-- ---- a statement on a vault

module _ {D : Type 0} where
  -- where it broke off, what was acknowledged is what had come before
  kept_part : (now new : Vaulted D) (line : Statement) (error : Broken) → now.closed ≡ false → FailsToYield now line error new → acknowledged_part new ≡ now.house.history
  kept_part now new line broken.Disk is_open (given, gives, falters) = rw falters.closes (ap (λ (l : List Event). drop 1 l) falters.enters.history)
  kept_part now new line broken.Sink is_open h = absurd h
  kept_part now new line broken.NoMemory is_open (event, waits) = rw (waits.closed ∙ is_open) waits.house.history

  pub fails_later : (now new : Vaulted D) (line : Statement) (error : Broken) → FailsToYield now line error new → IsLater now.house.history new.house.history
  fails_later now new line broken.Disk (given, gives, falters) = later_more now.house.history new.house.history given falters.enters.history
  fails_later now new line broken.Sink h = absurd h
  fails_later now new line broken.NoMemory (event, waits) = later_same now.house.history new.house.history waits.house.history

  pub part_kept : (first now new : Vaulted D) (line : Statement) (error : Broken) (before after : Option (List ℕ)) → now.closed ≡ false → FailsToYield now line error new
      → Tells first.house.history now.house.history before after → TellsPart first.house.history (acknowledged_part new) before after
  part_kept first now new line error before after is_open fails tells =
      subst (λ (l : List Event). TellsPart first.house.history l before after) (sym (kept_part now new line error is_open fails))
      (part_whole first.house.history now.house.history before after tells)

  pub yields_later : (now new : Vaulted D) (line : Statement) → Yields now line made.Event new → IsLater now.house.history new.house.history
  yields_later now new line ((given, gives, over, grown), stays) = later_more now.house.history new.house.history given grown

  -- its event came, and its line was told in part
  pub part_told : (first now new : Vaulted D) (house : House) (line : Statement) (before after last : Option (List ℕ)) → Yields now line made.Event new → house ≡ new.house
      → Tells first.house.history now.house.history before after → TellsLatestPart house.history after last → TellsPart first.house.history (acknowledged_part new) before last
  part_told first now new house line before after last ((given, gives, over, grown), stays) same tells told =
      let part : TellsLatestPart (given ∷ now.house.history) after last
      = subst (λ (l : List Event). TellsLatestPart l after last) (ap (λ (h : House). h.history) same ∙ grown) told in
      subst (λ (l : List Event). TellsPart first.house.history l before last) (sym (open_part new stays))
      (part_more first.house.history now.house.history new.house.history given before after last part.0 tells grown part.1)

  -- or whole
  pub tells_told : (first now new : Vaulted D) (house : House) (line : Statement) (before after last : Option (List ℕ)) → Yields now line made.Event new → house ≡ new.house
      → Tells first.house.history now.house.history before after → TellsLatest house.history after last → Tells first.house.history new.house.history before last
  tells_told first now new house line before after last ((given, gives, over, grown), stays) same tells told =
      let whole : TellsLatest (given ∷ now.house.history) after last
      = subst (λ (l : List Event). TellsLatest l after last) (ap (λ (h : House). h.history) same ∙ grown) told in
      tells_more first.house.history now.house.history new.house.history given before after last tells grown whole

  -- nothing came
  pub part_same : (first now new : Vaulted D) (before after : Option (List ℕ)) → now.closed ≡ false → new ≡ now → Tells first.house.history now.house.history before after
      → TellsPart first.house.history (acknowledged_part new) before after
  part_same first now new before after is_open same tells =
      subst (λ (l : List Event). TellsPart first.house.history l before after) (sym (ap acknowledged_part same ∙ open_part now is_open))
      (part_whole first.house.history now.house.history before after tells)

  pub same_part : (first now new : Vaulted D) (before after : Option (List ℕ)) (line : Statement) (cause : ScriptCause) → now.closed ≡ false → Yields now line (made.Silent cause) new
      → Tells first.house.history now.house.history before after → TellsPart first.house.history (acknowledged_part new) before after
  same_part first now new before after line cause is_open (fails, same) tells = part_same first now new before after is_open same tells

  pub full_part : (first now new : Vaulted D) (before after : Option (List ℕ)) (line : Statement) → now.closed ≡ false → Yields now line made.Full new
      → Tells first.house.history now.house.history before after → TellsPart first.house.history (acknowledged_part new) before after
  full_part first now new before after line is_open (event, full, same) tells = part_same first now new before after is_open same tells

  pub playing_more : (first now new : Vaulted D) (lines : List Statement) (index : ℕ) (blank : Statement) → index < length lines → Playing first.house lines index now.house
      → Yields now (get_or lines index blank) made.Event new → Playing first.house lines (index + 1) new.house
  playing_more first now new lines index blank inside playing ((given, gives, over, grown), stays) =
      goes_on first.house lines index (get_or lines index blank) _ now.house new.house given playing (drop-cons lines index blank inside) gives over grown

  pub plays_bad : (first now new : Vaulted D) (lines : List Statement) (index : ℕ) (blank : Statement) (cause : ScriptCause) → index < length lines → Playing first.house lines index now.house
      → Yields now (get_or lines index blank) (made.Silent cause) new → Plays first.house lines new.house (Some (record { number = index + 1; cause = cause }))
  plays_bad first now new lines index blank cause inside playing (fails, same) =
      subst (λ (v : Vaulted D). Plays first.house lines v.house (Some (record { number = index + 1; cause = cause }))) (sym same)
      (stops first.house lines index (index + 1) (get_or lines index blank) _ now.house cause playing (drop-cons lines index blank inside) refl fails)

-- ---- a whole run on a file

pub kept_says : (kept : Kept) (scene : Scene) (lines : List Statement) (file : List ℕ) (old new : House) (before after : Option (List ℕ)) (r : Result Reply Broken) → Opens kept scene file old
    → (given : List Statement) → given ≡ lines → IfOk r (λ reply. GoesOn old given new (answer_of reply)) → OnOk r (Tells old.history new.history before after) → IfOk r (λ reply. KeptSays kept scene lines file before after (answer_of reply))
kept_says kept scene lines file old new before after (Err error) opens given is goes tells = tt
kept_says kept scene lines file old new before after (Ok reply) opens given is goes tells =
    inr (inr (record { old = old; opens = opens; new = new; goes_on = subst (λ (l : List Statement). GoesOn old l new (answer_of reply)) is goes; tells = tells }))
