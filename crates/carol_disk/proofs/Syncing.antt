-- What a sync keeps, and what a crash leaves then.
use Rattle.std.proofs.Common.{◌≡◌, ◌≢◌, List, [], ◌∷◌, ◌++◌, ℕ, None, false, length, reverse, refl, sym, ◌∙◌, ap, subst, arith}
use Rattle.std.proofs.lemmas.List.{reverse-append}
use Rattle.carol_disk.specs.declared.call.Call.{Call}
use Rattle.carol_disk.specs.declared.call.Call.TheVariants.{Wrote, Cut, Synced}
use Rattle.carol_disk.specs.Disk.{Only}
use Rattle.carol_disk.specs.Laws.{seen_may_stay}
use Rattle.carol_disk.specs.Tapes.{ArePlaced, IsTape, MayLeave, Tape, after, kept_after, seen_after, synced_part, tape_of}

-- a sync adds nothing to what a crash may leave
pub sync_leaves : (old new : Tape) → new ≡ after old Synced → (c : List ℕ) → MayLeave new.first new.past c → MayLeave old.first old.past c
sync_leaves old new is c left =
    let now : MayLeave old.first (Synced ∷ old.past) c = subst (λ (t : Tape). MayLeave t.first t.past c) is left in
    subst (MayLeave old.first old.past) (sym now) (seen_may_stay old.first old.past)

-- a call that is no sync
pub synced_part-other : (call : Call) (past : List Call) → call ≢ Synced → synced_part (call ∷ past) ≡ synced_part past
synced_part-other (Wrote at place bytes) past other = refl
synced_part-other (Cut end) past other = refl
synced_part-other Synced past other = absurd (other refl)

pub synced_part-last : (before : List Call) (call : Call) → call ≢ Synced → synced_part (reverse (before ++ call ∷ [])) ≡ synced_part (reverse before)
synced_part-last before call other = ap synced_part (reverse-append before (call ∷ [])) ∙ synced_part-other call (reverse before) other

pub seen-synced_part : (first : List ℕ) (past : List Call) → seen_after first (synced_part past) ≡ kept_after first past
seen-synced_part first [] = refl
seen-synced_part first (Wrote at place bytes ∷ past) = seen-synced_part first past
seen-synced_part first (Cut end ∷ past) = seen-synced_part first past
seen-synced_part first (Synced ∷ past) = refl

pub kept-synced_part : (first : List ℕ) (past : List Call) → kept_after first (synced_part past) ≡ kept_after first past
kept-synced_part first [] = refl
kept-synced_part first (Wrote at place bytes ∷ past) = kept-synced_part first past
kept-synced_part first (Cut end ∷ past) = kept-synced_part first past
kept-synced_part first (Synced ∷ past) = refl

pub only-synced_part : (first : List ℕ) (past : List Call) → Only (seen_after first (synced_part past)) (MayLeave first (synced_part past))
only-synced_part first [] c left = left
only-synced_part first (Wrote at place bytes ∷ past) c left = only-synced_part first past c left
only-synced_part first (Cut end ∷ past) c left = only-synced_part first past c left
only-synced_part first (Synced ∷ past) c left = left

pub placed-synced_part : (first : List ℕ) (past : List Call) → ArePlaced first past → ArePlaced first (synced_part past)
placed-synced_part first [] placed = placed
placed-synced_part first (Wrote at place bytes ∷ past) placed = placed-synced_part first past placed.1
placed-synced_part first (Cut end ∷ past) placed = placed-synced_part first past placed
placed-synced_part first (Synced ∷ past) placed = placed

-- a disk that a crash left
pub crashed : (first : List ℕ) (calls past : List Call) (safe : ℕ) → reverse calls ≡ synced_part past → safe ≡ length (kept_after first past) → ArePlaced first past → IsTape (tape_of first calls None 0 false) safe safe
crashed first calls past safe left safe_is placed = record {
  size_is = safe_is ∙ ap length (sym (seen-synced_part first past) ∙ ap (λ (l : List Call). seen_after first l) (sym left));
  safe_is = safe_is ∙ ap length (sym (kept-synced_part first past) ∙ ap (λ (l : List Call). kept_after first l) (sym left));
  placed = subst (ArePlaced first) (sym left) (placed-synced_part first past placed);
  within = tt;
  stopped = λ none failed. absurd (omega (arith, failed));
}
