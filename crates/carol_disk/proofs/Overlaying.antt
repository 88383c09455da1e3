-- A window keeps agreeing with the file while calls are laid over it.
use Rattle.std.proofs.Common.{◌≡◌, ◌<◌, ◌≤◌, ℕ, ◌+◌, ◌-◌, min, List, [], ◌∷◌, ◌++◌, length, take, drop, get_or, reverse, refl, sym, ◌∙◌, ap, subst, inl, inr, arith, length-take, length-drop, append_assoc}
use Rattle.std.proofs.lemmas.List.{get_or_append_left, get_or-append_right, get_or-take, get_or-drop, append-nil, same_lists, reverse-append, take_more, take-append-drop, take_all, drop_all}
use Rattle.std.proofs.lemmas.Bool.{cases_lt}
use Rattle.carol_disk.specs.declared.call.Call.{Call}
use Rattle.carol_disk.specs.declared.call.Call.TheVariants.{Wrote, Cut, Synced}
use Rattle.carol_disk.specs.Disk.{written}
use Rattle.carol_disk.specs.Laws.{length-written}
use Rattle.carol_disk.specs.Tapes.{ArePlaced, seen_after}
use Rattle.carol_disk.specs.Windows.{Agrees, overlaid}

-- a write beyond the end stands at the end
pub written-min : (file : List ℕ) (at : ℕ) (bytes : List ℕ) → written file (min at (length file)) bytes ≡ written file at bytes
written-min file at bytes = elim (cases_lt at (length file)) [
  | inl inside ↦ let same : min at (length file) ≡ at = omega (arith, inside) in ap (λ (n : ℕ). written file n bytes) same
  | inr beyond ↦
      let same : min at (length file) ≡ length file = omega (arith, beyond) in
      ap (λ (n : ℕ). written file n bytes) same
      ∙ ap (λ (l : List ℕ). l ++ bytes ++ drop (length file + length bytes) file) (take_all (length file) file (omega arith) ∙ sym (take_all at file beyond))
      ∙ ap (λ (l : List ℕ). take at file ++ bytes ++ l) (drop_all (length file + length bytes) file (omega arith) ∙ sym (drop_all (at + length bytes) file (omega (arith, beyond))))
]

-- in front of a write all stays
get_or-written_front : (file : List ℕ) (at : ℕ) (bytes : List ℕ) (k d : ℕ) → k < at → k < length file → get_or (written file at bytes) k d ≡ get_or file k d
get_or-written_front file at bytes k d before there =
    ap (λ (l : List ℕ). get_or l k d) (append_assoc (take at file) bytes (drop (at + length bytes) file))
    ∙ get_or_append_left (take at file) (bytes ++ drop (at + length bytes) file) d k (omega (arith, length-take at file, before, there))
    ∙ get_or-take at file k d before

module _ (file : List ℕ) (at : ℕ) (bytes : List ℕ) (inside : at ≤ length file) where
  front : length (take at file) ≡ at
  front = omega (arith, length-take at file, inside)

  split : written file at bytes ≡ take at file ++ (bytes ++ drop (at + length bytes) file)
  split = append_assoc (take at file) bytes (drop (at + length bytes) file)

  get_or-written_in : (k d : ℕ) → at ≤ k → k - at < length bytes → get_or (written file at bytes) k d ≡ get_or bytes (k - at) d
  get_or-written_in k d behind within =
      ap (λ (l : List ℕ). get_or l k d) split
      ∙ get_or-append_right (take at file) (bytes ++ drop (at + length bytes) file) at k d front behind
      ∙ get_or_append_left bytes (drop (at + length bytes) file) d (k - at) within

  get_or-written_after : (k d : ℕ) → at + length bytes ≤ k → get_or (written file at bytes) k d ≡ get_or file k d
  get_or-written_after k d behind =
      let place : at + length bytes + (k - at - length bytes) ≡ k = omega (arith, behind) in
      ap (λ (l : List ℕ). get_or l k d) split
      ∙ get_or-append_right (take at file) (bytes ++ drop (at + length bytes) file) at k d front (omega (arith, behind))
      ∙ get_or-append_right bytes (drop (at + length bytes) file) (length bytes) (k - at) d refl (omega (arith, behind))
      ∙ get_or-drop (at + length bytes) file (k - at - length bytes) d
      ∙ ap (λ (n : ℕ). get_or file n d) place

pub length-overlaid : (window : List ℕ) (at place : ℕ) (bytes : List ℕ) → length (overlaid window at place bytes) ≡ length window
length-overlaid window at place bytes =
    omega (arith, length-written window (place - at) (take (length window - (place - at)) (drop (at - place) bytes)), length-take (length window - (place - at)) (drop (at - place) bytes))

module _ (at place : ℕ) (window file bytes : List ℕ) (inside : place ≤ length file) (agrees : Agrees at window file) where
  abbrev low : ℕ
  low = place - at

  abbrev part : List ℕ
  part = take (length window - low) (drop (at - place) bytes)

  long : length part ≡ min (length window - low) (length bytes - (at - place))
  long = length-take (length window - low) (drop (at - place) bytes) ∙ ap (λ (n : ℕ). min (length window - low) n) (length-drop (at - place) bytes)

  pub agrees_written : Agrees at (overlaid window at place bytes) (written file place bytes)
  agrees_written k d reached there =
      let in_window : k < length window = omega (arith, reached, length-overlaid window at place bytes) in
      elim (cases_lt low (length window)) [
        | inr beyond ↦ untouched k d in_window (omega (arith, in_window, beyond))
        | inl within ↦ elim (cases_lt k low) [
          | inl before ↦ untouched k d in_window before
          | inr behind ↦ elim (cases_lt (at + k) (place + length bytes)) [
            | inl covered ↦
                get_or-written_in window low part (omega (arith, within)) k d behind (omega (arith, long, covered, in_window, behind))
                ∙ get_or-take (length window - low) (drop (at - place) bytes) (k - low) d (omega (arith, in_window, behind))
                ∙ get_or-drop (at - place) bytes (k - low) d
                ∙ ap (λ (n : ℕ). get_or bytes n d) (same_place behind)
                ∙ sym (get_or-written_in file place bytes inside (at + k) d (omega (arith, behind)) (omega (arith, covered, behind)))
            | inr past ↦
                let old : at + k < length file = omega (arith, there, past, length-written file place bytes) in
                get_or-written_after window low part (omega (arith, within)) k d (omega (arith, long, past, behind))
                ∙ agrees k d in_window old
                ∙ sym (get_or-written_after file place bytes inside (at + k) d past)
          ]
        ]
      ]
    where
      same_place : low ≤ k → at - place + (k - low) ≡ at + k - place
      same_place behind = omega (arith, behind)

      untouched : (k d : ℕ) → k < length window → k < low → get_or (overlaid window at place bytes) k d ≡ get_or (written file place bytes) (at + k) d
      untouched k d in_window before =
          get_or-written_front window low part k d before in_window
          ∙ agrees k d in_window (omega (arith, before, inside))
          ∙ sym (get_or-written_front file place bytes (at + k) d (omega (arith, before)) (omega (arith, before, inside)))

-- the window over what the disk was made with
pub agrees_first : (at : ℕ) (window first : List ℕ) → Agrees at (overlaid window at 0 first) first
agrees_first at window first =
    subst (Agrees at (overlaid window at 0 first)) (ap (λ (l : List ℕ). first ++ l) (drop_all (0 + length first) [] (omega arith)) ∙ append-nil first) (agrees_written at 0 window [] first (omega arith) (λ k d reached none. absurd (omega (arith, none))))

-- one call more
pub agrees_after : (at : ℕ) (window first : List ℕ) (past : List Call) (place_at place : ℕ) (bytes : List ℕ)
    → ArePlaced first (Wrote place_at place bytes ∷ past) → Agrees at window (seen_after first past) → Agrees at (overlaid window at place bytes) (seen_after first (Wrote place_at place bytes ∷ past))
agrees_after at window first past place_at place bytes placed agrees =
    subst (Agrees at (overlaid window at place bytes)) (ap (λ (n : ℕ). written (seen_after first past) n bytes) placed.0 ∙ written-min (seen_after first past) place_at bytes)
    (agrees_written at place window (seen_after first past) bytes (omega (arith, placed.0)) agrees)

pub agrees_cut : (at : ℕ) (window file : List ℕ) (end : ℕ) → Agrees at window file → Agrees at window (take end file)
agrees_cut at window file end agrees k d reached there =
    agrees k d reached (omega (arith, there, length-take end file)) ∙ sym (get_or-take end file (at + k) d (omega (arith, there, length-take end file)))

-- earlier calls are placed too
pub placed_before : (first : List ℕ) (later past : List Call) → ArePlaced first (later ++ past) → ArePlaced first past
placed_before first [] past placed = placed
placed_before first (Wrote at place bytes ∷ later) past placed = placed_before first later past placed.1
placed_before first (Cut end ∷ later) past placed = placed_before first later past placed
placed_before first (Synced ∷ later) past placed = placed_before first later past placed

-- a window that agrees and that the file reaches is a part of it
pub agrees_whole : (at : ℕ) (window file : List ℕ) → length window ≤ length file - at → Agrees at window file → window ≡ take (length window) (drop at file)
agrees_whole at window file within agrees =
    let long : length (take (length window) (drop at file)) ≡ length window = omega (arith, length-take (length window) (drop at file), length-drop at file, within) in
    same_lists window (take (length window) (drop at file)) (sym long)
    (λ k d reached. agrees k d reached (omega (arith, reached, within)) ∙ sym (get_or-drop at file k d) ∙ sym (get_or-take (length window) (drop at file) k d reached))

-- the calls so far, with one more
past_more : (calls : List Call) (i : ℕ) (call : Call) → i < length calls → call ≡ get_or calls i call → reverse (take (i + 1) calls) ≡ call ∷ reverse (take i calls)
past_more calls i call more is = ap reverse (take_more calls i call more) ∙ reverse-append (take i calls) (get_or calls i call ∷ []) ∙ ap (λ (c : Call). c ∷ reverse (take i calls)) (sym is)

placed_front : (first : List ℕ) (calls : List Call) (i : ℕ) → ArePlaced first (reverse calls) → ArePlaced first (reverse (take i calls))
placed_front first calls i placed =
    placed_before first (reverse (drop i calls)) (reverse (take i calls))
    (subst (ArePlaced first) (ap reverse (sym (take-append-drop i calls)) ∙ reverse-append (take i calls) (drop i calls)) placed)

pub step_write : (at : ℕ) (window first : List ℕ) (calls : List Call) (i : ℕ) (call : Call) (place_at place : ℕ) (bytes : List ℕ)
    → i < length calls → call ≡ get_or calls i call → call ≡ Wrote place_at place bytes → ArePlaced first (reverse calls)
    → Agrees at window (seen_after first (reverse (take i calls))) → Agrees at (overlaid window at place bytes) (seen_after first (reverse (take (i + 1) calls)))
step_write at window first calls i call place_at place bytes more is wrote placed agrees =
    let past = reverse (take i calls) in
    let next : reverse (take (i + 1) calls) ≡ Wrote place_at place bytes ∷ past = past_more calls i call more is ∙ ap (λ (c : Call). c ∷ past) wrote in
    subst (λ (l : List Call). Agrees at (overlaid window at place bytes) (seen_after first l)) (sym next)
    (agrees_after at window first past place_at place bytes (subst (ArePlaced first) next (placed_front first calls (i + 1) placed)) agrees)

agrees_other : (at : ℕ) (window first : List ℕ) (call : Call) (past : List Call) → ((place_at place : ℕ) (bytes : List ℕ) → call ≡ Wrote place_at place bytes → ⊥)
    → Agrees at window (seen_after first past) → Agrees at window (seen_after first (call ∷ past))
agrees_other at window first (Wrote place_at place bytes) past other agrees = absurd (other place_at place bytes refl)
agrees_other at window first (Cut end) past other agrees = agrees_cut at window (seen_after first past) end agrees
agrees_other at window first Synced past other agrees = agrees

pub step_other : (at : ℕ) (window first : List ℕ) (calls : List Call) (i : ℕ) (call : Call) → ((place_at place : ℕ) (bytes : List ℕ) → call ≡ Wrote place_at place bytes → ⊥)
    → i < length calls → call ≡ get_or calls i call → Agrees at window (seen_after first (reverse (take i calls))) → Agrees at window (seen_after first (reverse (take (i + 1) calls)))
step_other at window first calls i call other more is agrees =
    subst (λ (l : List Call). Agrees at window (seen_after first l)) (sym (past_more calls i call more is)) (agrees_other at window first call (reverse (take i calls)) other agrees)
