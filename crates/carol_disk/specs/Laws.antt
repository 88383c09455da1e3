-- The laws of a disk in memory.
use Rattle.std.specs.Prelude.{◌≡◌, ◌≤◌, ℕ, ◌+◌, ◌-◌, suc, min, List, [], ◌∷◌, ◌++◌, length, take, drop, refl}
use Rattle.std.proofs.Common.{inl, inr, sym, ◌∙◌, ap, arith, length-append, length-take, length-drop}
use Rattle.std.proofs.lemmas.List.{take_at, drop_at, drop_all, take_all, append_assoc}
use Rattle.std.proofs.lemmas.Bool.{cases_lt}
use Rattle.carol_disk.specs.declared.call.Call.{Call}
use Rattle.carol_disk.specs.declared.call.Call.TheVariants.{Wrote, Cut, Synced}
use Rattle.carol_disk.specs.Disk.{written, Torn, CutBack}
use Rattle.carol_disk.specs.Tapes.{seen_after, MayLeave, LeftSince}

pub length-written : (file : List ℕ) (at : ℕ) (bytes : List ℕ) →
    length (written file at bytes) ≡ min at (length file) + length bytes + (length file - (at + length bytes))
length-written file at bytes = omega (arith, length-append (take at file ++ bytes) (drop (at + length bytes) file), length-append (take at file) bytes, length-take at file, length-drop (at + length bytes) file)

-- behind a write all stays
after_written : (file : List ℕ) (at : ℕ) (bytes : List ℕ) → drop (at + length bytes) (written file at bytes) ≡ drop (at + length bytes) file
after_written file at bytes = elim (cases_lt at (length file)) [
  | inl inside ↦ drop_at (take at file ++ bytes) (drop (at + length bytes) file) (at + length bytes) (omega (arith, length-append (take at file) bytes, length-take at file, inside))
  | inr beyond ↦ drop_all (at + length bytes) (written file at bytes) (omega (arith, length-written file at bytes, beyond)) ∙ sym (drop_all (at + length bytes) file (omega (arith, beyond)))
]

-- a write that was made whole is one that may come of a torn one
pub torn_written : (file : List ℕ) (at : ℕ) (bytes : List ℕ) → Torn at (at + length bytes) file (written file at bytes)
torn_written file at bytes = record {
  before = ap (λ (l : List ℕ). take (min at (length file)) l) (append_assoc (take at file) bytes (drop (at + length bytes) file))
      ∙ take_at (take at file) (bytes ++ drop (at + length bytes) file) (min at (length file)) (length-take at file);
  after = after_written file at bytes;
  no_shorter = omega (arith, length-written file at bytes);
  no_longer = omega (arith, length-written file at bytes);
}

pub cut_back_taken : (file : List ℕ) (end : ℕ) → CutBack end file (take end file)
cut_back_taken file end = record {
  before = take_all (min end (length file)) (take end file) (omega (arith, length-take end file));
  no_shorter = omega (arith, length-take end file);
  no_longer = omega (arith, length-take end file);
}

pub seen_may_stay : (first : List ℕ) (past : List Call) → MayLeave first past (seen_after first past)
seen_may_stay first [] = refl
seen_may_stay first (Wrote at place bytes ∷ past) = (seen_after first past, seen_may_stay first past, torn_written (seen_after first past) at bytes)
seen_may_stay first (Cut end ∷ past) = (seen_after first past, seen_may_stay first past, cut_back_taken (seen_after first past) end)
seen_may_stay first (Synced ∷ past) = refl

pub counts_now : (first : List ℕ) (past : List Call) (t : ℕ) (c : List ℕ) → t ≤ length past → MayLeave first past c → LeftSince first t past c
counts_now first [] t c le now = (le, now)
counts_now first (call ∷ past) t c le now = inl (le, now)

-- nothing was left since a moment that is still to come
none_later : (first : List ℕ) (past : List Call) (t : ℕ) (c : List ℕ) → suc (length past) ≤ t → LeftSince first t past c → ⊥
none_later first [] t c later (le, is) = omega arith
none_later first (call ∷ past) t c later (inl (le, now)) = omega arith
none_later first (call ∷ past) t c later (inr left) = none_later first past t c (omega arith) left

pub only_now : (first : List ℕ) (past : List Call) (c : List ℕ) → LeftSince first (length past) past c → MayLeave first past c
only_now first [] c (le, is) = is
only_now first (call ∷ past) c (inl (le, now)) = now
only_now first (call ∷ past) c (inr left) = absurd (none_later first past (suc (length past)) c (omega arith) left)
