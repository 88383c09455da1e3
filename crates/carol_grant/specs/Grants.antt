-- The live grants of guards to sessions, how a grant and a close change them, and which of them
-- bars an effect.
use Rattle.std.specs.Prelude.{◌≡◌, ◌≢◌, ℕ, ◌==◌, Bool, true, false, not, ◌&&◌, ◌||◌, List, [], length, Option, Some, None, get_or}
use Rattle.carol_store.specs.declared.effect.Atom.{Atom}
use Rattle.carol_program.specs.Accords.{Accords, entry_of}
use Rattle.carol_program.specs.Admitting.{admits, is_yes}
use Rattle.carol_program.specs.Order.{IsBefore}
use Rattle.carol_grant.specs.Counts.{count_rows}

-- the accords of the guards, and for each session and guard whether the guard is granted to it
pub record Grants : Type 0 where
  pub accords : Accords
  pub live : List (List Bool)

-- the guard is granted to the session; out of range nothing is
abbrev pub is_granted : Grants → ℕ → ℕ → Bool
is_granted h session guard = get_or (get_or h.live session []) guard false

-- the guard is granted to the session, and all else is as it was
pub record GrantsOne (old : Grants) (session guard : ℕ) (new : Grants) : Type 0 where
  pub each : (s g : ℕ) → is_granted new s g
      ≡ (((session == s) && (guard == g)) || is_granted old s g)
  pub accords : new.accords ≡ old.accords
  pub count : length new.live ≡ length old.live

-- no guard is granted to the session any more, and all else is as it was
pub record Closes (old : Grants) (session : ℕ) (new : Grants) : Type 0 where
  pub each : (s g : ℕ) → is_granted new s g ≡ (not (session == s) && is_granted old s g)
  pub accords : new.accords ≡ old.accords
  pub count : length new.live ≡ length old.live

-- the guard's accord lacks the way
abbrev pub lacks : Accords → ℕ → Bool → ℕ → Bool
lacks accords cell up guard = not (is_yes (entry_of accords guard cell up))

-- how many live grants there are whose accord lacks the way
abbrev pub bars : Grants → ℕ → Bool → ℕ
bars h cell up = count_rows (lacks h.accords cell up) h.live

-- the lowest live grant of another session whose guard does not pass the test
pub record IsLowestBar
    (h : Grants) (session : ℕ) (passes : ℕ → Bool) (holder guard : ℕ) : Type 0 where
  pub other : holder ≢ session
  pub live : is_granted h holder guard ≡ true
  pub barring : passes guard ≡ false
  pub lowest : (s g : ℕ) → s ≢ session → is_granted h s g ≡ true → IsBefore s g holder guard →
      passes g ≡ true

-- the lowest bar for the session; none where each guard that others have live passes the test
abbrev pub IsLowest : Grants → ℕ → (ℕ → Bool) → Option (ℕ × ℕ) → Type 0
IsLowest h session passes None =
    (s g : ℕ) → s ≢ session → is_granted h s g ≡ true → passes g ≡ true
IsLowest h session passes (Some bar) = IsLowestBar h session passes bar.0 bar.1

-- the lowest live grant of another session whose accord lacks the effect, if there is one
abbrev pub IsBarredBy : Grants → ℕ → List Atom → Option (ℕ × ℕ) → Type 0
IsBarredBy h session effect bar = IsLowest h session (λ guard. admits h.accords guard effect) bar
