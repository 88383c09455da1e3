-- The bank takes each command that is drawn.
use Rattle.std.proofs.Common.{◌≡◌, ℕ, zero, suc, ◌+◌, ◌*◌, ◌%◌, ◌<◌, ◌≤◌, Bool, eqb, cond, true, false, List, [], ◌∷◌, ◌++◌, length, length-append, map, refl, sym, ◌∙◌, ap, subst, arith}
use Rattle.std.specs.Prelude.{codes, ℤ, pos, negsuc, ◌+ℤ◌, ◌*ℤ◌, nat_le, nat_lt, ◌≤ℤ◌}
use Rattle.std.specs.List.{AllByRecursion}
use Rattle.std.proofs.lemmas.Bool.Decides.{nat_tests}
use Rattle.std.proofs.lemmas.Int.{ints}
use Rattle.std.proofs.lemmas.List.{map-append, length-map}
use Rattle.std.proofs.lemmas.Nat.{mod_below}
use Rattle.carol_syntax.specs.declared.places.Span.{Span}
use Rattle.carol_syntax.specs.declared.scenes.CommandDecl.{CommandDecl}
use Rattle.carol_syntax.specs.declared.scenes.SessionDecl.{SessionDecl}
use Rattle.carol_syntax.specs.declared.scenes.SceneDecl.{SceneDecl}
use Rattle.carol_syntax.specs.Unplaced.{unplaced_command, unplaced_session, unplaced_scene}
use Rattle.carol_formula.specs.Claim.{is_at_most_zero}
use Rattle.carol_formula.proofs.Claims.{is_at_most_zero_from}
use Rattle.carol_program.specs.Limits.{most_commands, most_sessions, largest_literal}
use Rattle.carol_meaning.specs.Programs.{rules_of, names_of}
use Rattle.carol_scenario.specs.Faults.{command_faults, commands_faults, session_faults, sessions_faults, scene_faults, times_in}
use Rattle.carol_generator.specs.Generated.{bank, number_drawn, command_drawn, commands_drawn, session_drawn, sessions_drawn, scene_drawn}

-- a command of the bank with such an amount, wherever it stands
abbrev asked : List ℕ → ℕ → Span → Span → CommandDecl
asked word amount at times_at = record {
  name = record { word = word; span = at };
  args = pos amount ∷ [];
  times = record { value = 1; span = times_at };
}

-- an amount from 1 to 1000, as the refinement says it
abbrev over_one : ℕ → ℤ
over_one amount = ((negsuc 0 *ℤ pos amount) +ℤ pos 0) +ℤ pos 1

abbrev under_most : ℕ → ℤ
under_most amount = ((pos 1 *ℤ pos amount) +ℤ pos 0) +ℤ negsuc 999

over_one_low : (amount : ℕ) → 1 ≤ amount → over_one amount ≤ℤ pos 0
over_one_low amount some = omega (arith, ints)

under_most_low : (amount : ℕ) → amount ≤ 50 → under_most amount ≤ℤ pos 0
under_most_low amount low = omega (arith, ints)

-- nothing is wrong with it
module _ (amount : ℕ) (some : 1 ≤ amount) (low : amount ≤ 50) (session earlier command : ℕ) (room : (earlier + command) + 1 ≤ most_commands) (at times_at : Span) where
  few : nat_le ((earlier + command) + 1) most_commands ≡ true
  few = grind (arith, nat_tests)

  small : nat_le amount largest_literal ≡ true
  small = grind (arith, nat_tests)

  first : is_at_most_zero (over_one amount) ≡ true
  first = is_at_most_zero_from (over_one amount) (over_one_low amount some)

  second : is_at_most_zero (under_most amount) ≡ true
  second = is_at_most_zero_from (under_most amount) (under_most_low amount low)

  deposit_taken : command_faults (rules_of bank) (names_of bank) session earlier command (asked (codes "deposit") amount at times_at) ≡ []
  deposit_taken = rw (few, small, first, second) refl

  withdraw_taken : command_faults (rules_of bank) (names_of bank) session earlier command (asked (codes "withdraw") amount at times_at) ≡ []
  withdraw_taken = rw (few, small, first, second) refl

word_taken : (b : Bool) (amount : ℕ) → 1 ≤ amount → amount ≤ 50 → (session earlier command : ℕ) → (earlier + command) + 1 ≤ most_commands → (at times_at : Span)
    → command_faults (rules_of bank) (names_of bank) session earlier command (asked (cond b (codes "deposit") (codes "withdraw")) amount at times_at) ≡ []
word_taken true amount some low session earlier command room at times_at = deposit_taken amount some low session earlier command room at times_at
word_taken false amount some low session earlier command room at times_at = withdraw_taken amount some low session earlier command room at times_at

-- Commands that were drawn, wherever they stand.

abbrev pub IsDrawn : CommandDecl → Type 0
IsDrawn c = (x : ℕ) × (unplaced_command c ≡ command_drawn x)

-- what is drawn, at the places of a command
abbrev again : CommandDecl → CommandDecl → CommandDecl
again c u = record {
  name = record { word = u.name.word; span = c.name.span };
  args = u.args;
  times = record { value = u.times.value; span = c.times.span };
}

command_taken : (c : CommandDecl) → IsDrawn c → (session earlier command : ℕ) → (earlier + command) + 1 ≤ most_commands → command_faults (rules_of bank) (names_of bank) session earlier command c ≡ []
command_taken c (x, e) session earlier command room =
    let same : c ≡ again c (command_drawn x) = ap (again c) e in
    let low : x % 50 < 50 = mod_below x 50 (omega arith) in
    subst (λ z. command_faults (rules_of bank) (names_of bank) session earlier command z ≡ []) (sym same)
    (word_taken (eqb (x % 3) 0) (1 + x % 50) (omega arith) (omega arith) session earlier command room c.name.span c.times.span)

command_once : (c : CommandDecl) → IsDrawn c → c.times.value ≡ 1
command_once c (x, e) = ap (λ (u : CommandDecl). u.times.value) e

pub times_counted : (cs : List CommandDecl) → AllByRecursion IsDrawn cs → times_in cs ≡ length cs
times_counted [] d = refl
times_counted (c ∷ cs) d = omega (arith, command_once c d.0, times_counted cs d.1)

pub commands_taken : (session earlier command : ℕ) (cs : List CommandDecl) → AllByRecursion IsDrawn cs → (earlier + command) + length cs ≤ most_commands → commands_faults (rules_of bank) (names_of bank) session earlier command cs ≡ []
commands_taken session earlier command [] d room = refl
commands_taken session earlier command (c ∷ cs) d room =
    rw (command_taken c d.0 session earlier command (omega arith))
    (commands_taken session earlier (command + c.times.value) cs d.1 (omega (arith, command_once c d.0)))

all_more : {A : Type 0} (P : A → Type 0) (xs : List A) (y : A) → AllByRecursion P xs → P y → AllByRecursion P (xs ++ y ∷ [])
all_more P [] y h p = (p, tt)
all_more P (x ∷ xs) y h p = (h.0, all_more P xs y h.1 p)

all_of_map : {A B : Type 0} (P : B → Type 0) (f : A → B) (xs : List A) → AllByRecursion P (map f xs) → AllByRecursion (λ x. P (f x)) xs
all_of_map P f [] h = tt
all_of_map P f (x ∷ xs) h = (h.0, all_of_map P f xs h.1)

abbrev IsOne : CommandDecl → Type 0
IsOne u = (x : ℕ) × (u ≡ command_drawn x)

ones_drawn : (n first count : ℕ) → AllByRecursion IsOne (commands_drawn n first count)
unfolding commands_drawn
ones_drawn n first zero = tt
ones_drawn n first (suc count) =
    all_more IsOne (commands_drawn n first count) (command_drawn (number_drawn n (suc (first + count)))) (ones_drawn n first count) (number_drawn n (suc (first + count)), refl)

count_drawn : (n first count : ℕ) → length (commands_drawn n first count) ≡ count
unfolding commands_drawn
count_drawn n first zero = refl
count_drawn n first (suc count) =
    omega (arith, length-append (commands_drawn n first count) (command_drawn (number_drawn n (suc (first + count))) ∷ []), count_drawn n first count)

-- what is drawn has no places
commands_unplaced : (n first count : ℕ) → map unplaced_command (commands_drawn n first count) ≡ commands_drawn n first count
unfolding commands_drawn
commands_unplaced n first zero = refl
commands_unplaced n first (suc count) =
    map-append unplaced_command (commands_drawn n first count) (command_drawn (number_drawn n (suc (first + count))) ∷ [])
    ∙ ap (λ z. z ++ command_drawn (number_drawn n (suc (first + count))) ∷ []) (commands_unplaced n first count)

-- Sessions.

abbrev IsDrawnSession : ℕ → SessionDecl → Type 0
IsDrawnSession n s = (i : ℕ) × (unplaced_session s ≡ session_drawn n i)

session_commands : (n : ℕ) (s : SessionDecl) → IsDrawnSession n s → AllByRecursion IsDrawn s.commands × (length s.commands ≡ n)
session_commands n s (i, e) =
    let m : map unplaced_command s.commands ≡ commands_drawn n (i * n) n = ap (λ (u : SessionDecl). u.commands) e in (
      all_of_map IsOne unplaced_command s.commands (subst (AllByRecursion IsOne) (sym m) (ones_drawn n (i * n) n)),
      sym (length-map s.commands unplaced_command) ∙ ap length m ∙ count_drawn n (i * n) n,
    )

session_taken : (n : ℕ) (s : SessionDecl) → IsDrawnSession n s → (session earlier : ℕ) → session < most_sessions → earlier + n ≤ most_commands → session_faults (rules_of bank) (names_of bank) 4 session earlier s ≡ []
session_taken n s d session earlier few room =
    let cs = session_commands n s d in
    let replica : s.replica.value ≡ d.0 % 4 = ap (λ (u : SessionDecl). u.replica.value) d.1 in
    let low : d.0 % 4 < 4 = mod_below d.0 4 (omega arith) in
    let one : nat_lt session most_sessions ≡ true = grind (arith, nat_tests) in
    let two : nat_lt s.replica.value 4 ≡ true = grind (arith, nat_tests) in
    rw (one, two) (commands_taken session earlier 0 s.commands cs.0 (omega (arith, cs.1)))

sessions_taken : (n : ℕ) (ss : List SessionDecl) → AllByRecursion (IsDrawnSession n) ss → (session earlier : ℕ) → session + length ss ≤ most_sessions → earlier + length ss * n ≤ most_commands → sessions_faults (rules_of bank) (names_of bank) 4 session earlier ss ≡ []
sessions_taken n [] d session earlier few room = refl
sessions_taken n (s ∷ ss) d session earlier few room =
    let cs = session_commands n s d.0 in
    let times : times_in s.commands ≡ n = times_counted s.commands cs.0 ∙ cs.1 in
    rw (session_taken n s d.0 session earlier (omega arith) (omega arith), times) (sessions_taken n ss d.1 (session + 1) (earlier + n) (omega arith) (omega arith))

abbrev IsOneSession : ℕ → SessionDecl → Type 0
IsOneSession n u = (i : ℕ) × (u ≡ session_drawn n i)

sessions_ones : (n s : ℕ) → AllByRecursion (IsOneSession n) (sessions_drawn n s)
unfolding sessions_drawn
sessions_ones n zero = tt
sessions_ones n (suc s) = all_more (IsOneSession n) (sessions_drawn n s) (session_drawn n s) (sessions_ones n s) (s, refl)

sessions_count : (n s : ℕ) → length (sessions_drawn n s) ≡ s
unfolding sessions_drawn
sessions_count n zero = refl
sessions_count n (suc s) = omega (arith, length-append (sessions_drawn n s) (session_drawn n s ∷ []), sessions_count n s)

session_unplaced : (n i : ℕ) → unplaced_session (session_drawn n i) ≡ session_drawn n i
session_unplaced n i = ap (λ z. record (session_drawn n i) { commands = z }) (commands_unplaced n (i * n) n)

sessions_unplaced : (n s : ℕ) → map unplaced_session (sessions_drawn n s) ≡ sessions_drawn n s
unfolding sessions_drawn
sessions_unplaced n zero = refl
sessions_unplaced n (suc s) =
    map-append unplaced_session (sessions_drawn n s) (session_drawn n s ∷ [])
    ∙ rw (sessions_unplaced n s, session_unplaced n s) refl

-- nothing is wrong with a scene that was drawn, wherever its parts stand
pub scene_taken : (n : ℕ) (s : SceneDecl) → n ≤ 256 → unplaced_scene s ≡ unplaced_scene (scene_drawn n) → scene_faults (rules_of bank) (names_of bank) s ≡ []
scene_taken n s few e =
    let m : map unplaced_session s.sessions ≡ sessions_drawn n 16 = ap (λ (u : SceneDecl). u.sessions) e ∙ sessions_unplaced n 16 in
    let drawn : AllByRecursion (IsDrawnSession n) s.sessions = all_of_map (IsOneSession n) unplaced_session s.sessions (subst (AllByRecursion (IsOneSession n)) (sym m) (sessions_ones n 16)) in
    let count : length s.sessions ≡ 16 = sym (length-map s.sessions unplaced_session) ∙ ap length m ∙ sessions_count n 16 in
    let replicas : s.replicas.value ≡ 4 = ap (λ (u : SceneDecl). u.replicas.value) e in
    let tries : s.tries.value ≡ 4 = ap (λ (u : SceneDecl). u.tries.value) e in
    let workers : s.workers.value ≡ 4 = ap (λ (u : SceneDecl). u.workers.value) e in
    let gossipers : s.gossipers.value ≡ 1 = ap (λ (u : SceneDecl). u.gossipers.value) e in
    rw (replicas, tries, workers, gossipers) (sessions_taken n s.sessions drawn 0 0 (omega (arith, count)) (rw count (omega arith)))
