-- A disk in memory: what it began with, and its calls that succeeded, the latest first.
use Rattle.std.specs.Prelude.{◌≡◌, ◌⊎◌, ℕ, ◌+◌, ◌≤◌, suc, min, Bool, true, false, List, [], ◌∷◌, length, take, reverse, Option, Some, None, Result, Ok, Err}
use Rattle.carol_outer.specs.Faults.{one_more}
use Rattle.carol_disk.specs.declared.call.Call.{Call}
use Rattle.carol_disk.specs.declared.call.Call.TheVariants.{Wrote, Cut, Synced}
use Rattle.carol_disk.specs.Disk.{written, Torn, CutBack}

-- A disk in memory as a caller sees it.
pub record Tape : Type 0 where
  -- the bytes that it was made with
  pub first : List ℕ
  -- the calls that succeeded, the latest first
  pub past : List Call
  -- how many calls succeed at most, where it is to stop
  pub stop : Option ℕ
  -- how many calls failed
  pub failures : ℕ
  -- whether one of them found no memory
  pub starved : Bool

-- what a read gives after these calls
abbrev pub seen_after : List ℕ → List Call → List ℕ
seen_after first [] = first
seen_after first (Wrote at place bytes ∷ past) = written (seen_after first past) at bytes
seen_after first (Cut end ∷ past) = take end (seen_after first past)
seen_after first (Synced ∷ past) = seen_after first past

-- what it gave at the last sync
abbrev pub kept_after : List ℕ → List Call → List ℕ
kept_after first [] = first
kept_after first (Wrote at place bytes ∷ past) = kept_after first past
kept_after first (Cut end ∷ past) = kept_after first past
kept_after first (Synced ∷ past) = seen_after first past

-- the calls up to the last sync
abbrev pub synced_part : List Call → List Call
synced_part [] = []
synced_part (Wrote at place bytes ∷ past) = synced_part past
synced_part (Cut end ∷ past) = synced_part past
synced_part (Synced ∷ past) = Synced ∷ past

-- what a crash after these calls may leave: all that the calls since the last sync may have torn
abbrev pub MayLeave : List ℕ → List Call → List ℕ → Type 0
MayLeave first [] c = c ≡ first
MayLeave first (Wrote at place bytes ∷ past) c =
    (d : List ℕ) × MayLeave first past d × Torn at (at + length bytes) d c
MayLeave first (Cut end ∷ past) c = (d : List ℕ) × MayLeave first past d × CutBack end d c
MayLeave first (Synced ∷ past) c = c ≡ seen_after first past

-- what a crash at one of the moments from this one on may have left
abbrev pub LeftSince : List ℕ → ℕ → List Call → List ℕ → Type 0
LeftSince first t [] c = (t ≤ 0) × (c ≡ first)
LeftSince first t (call ∷ past) c =
    ((t ≤ suc (length past)) × MayLeave first (call ∷ past) c) ⊎ LeftSince first t past c

abbrev pub seen_of : Tape → List ℕ
seen_of t = seen_after t.first t.past

-- the disk after one more call
abbrev pub after : Tape → Call → Tape
after t call = record t { past = call ∷ t.past }

-- the disk after one more failure, for want of memory or not
abbrev pub failing : Tape → Tape
failing t = record t { failures = one_more t.failures }

abbrev pub starving : Tape → Tape
starving t = record t { failures = one_more t.failures; starved = true }

-- all calls fail from now on
abbrev pub IsAtStop : Option ℕ → ℕ → Type 0
IsAtStop (Some stop) made = stop ≤ made
IsAtStop None made = ⊥

-- no more calls than may were made
abbrev pub IsWithin : Option ℕ → ℕ → Type 0
IsWithin (Some stop) made = made ≤ stop
IsWithin None made = Unit {0}

-- what a call does: it is noted; or the disk had stopped, or had no memory, and it did nothing
abbrev pub Makes : {T E : Type 0} → Tape → Call → Result T E → Tape → Type 0
Makes old call (Ok done) new = (new ≡ after old call) × (IsAtStop old.stop (length old.past) → ⊥)
Makes old call (Err error) new =
    (IsAtStop old.stop (length old.past) × (new ≡ failing old)) ⊎ (new ≡ starving old)

-- each write was noted with the place from which on it stands
abbrev pub ArePlaced : List ℕ → List Call → Type 0
ArePlaced first [] = Unit {0}
ArePlaced first (Wrote at place bytes ∷ past) =
    (place ≡ min at (length (seen_after first past))) × ArePlaced first past
ArePlaced first (Cut end ∷ past) = ArePlaced first past
ArePlaced first (Synced ∷ past) = ArePlaced first past

-- how a disk in memory keeps itself: its sizes now and at the last sync are at hand, and it fails
-- by stopping, or for want of memory
pub record IsTape (t : Tape) (size safe : ℕ) : Type 0 where
  pub size_is : size ≡ length (seen_after t.first t.past)
  pub safe_is : safe ≡ length (kept_after t.first t.past)
  pub placed : ArePlaced t.first t.past
  pub within : IsWithin t.stop (length t.past)
  pub stopped : t.starved ≡ false → 1 ≤ t.failures → t.stop ≡ Some (length t.past)

abbrev pub tape_of : List ℕ → List Call → Option ℕ → ℕ → Bool → Tape
tape_of first calls stop failures starved =
    record { first = first; past = reverse calls; stop = stop; failures = failures; starved = starved }
