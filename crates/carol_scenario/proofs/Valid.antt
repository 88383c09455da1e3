-- A scene with no fault is valid.
use Rattle.std.proofs.Common.{◌≡◌, ◌<◌, ◌≤◌, ℕ, zero, suc, ◌+◌, Bool, true, false, List, [], ◌∷◌, ◌++◌, length, map, replicate, refl, sym, subst, arith}
use Rattle.std.specs.Prelude.{Some, None, Option, slice_get, option_and_then, unwrap_or, ℤ, ◌&&◌, ◌==◌, nat_le, nat_lt, if◌then◌else◌, unsigned_abs}
use Rattle.std.specs.List.{AllByRecursion, flat_map}
use Rattle.std.proofs.lemmas.List.{length-replicate, length-append}
use Rattle.std.proofs.lemmas.Bool.Decides.{nat_tests}
use Rattle.carol_formula.specs.Claim.{Claim, truth}
use Rattle.carol_syntax.specs.declared.places.Num.{Num}
use Rattle.carol_syntax.specs.declared.scenes.CommandDecl.{CommandDecl}
use Rattle.carol_syntax.specs.declared.scenes.SessionDecl.{SessionDecl}
use Rattle.carol_syntax.specs.declared.scenes.SceneDecl.{SceneDecl}
use Rattle.carol_program.specs.declared.names.Names.{Names}
use Rattle.carol_program.specs.declared.scenes.Scene.{Scene}
use Rattle.carol_program.specs.Limits.{largest_literal, most_commands, most_sessions}
use Rattle.carol_program.specs.Rules.{OpRules, Rules}
use Rattle.carol_program.specs.Variables.{number_of_args}
use Rattle.carol_program.specs.Scenes.{AreArgumentsOf, IsCommandOf, IsPlanOf, commands_in, IsValidScene}
use Rattle.carol_scenario.specs.declared.error.SceneLimit.{SceneLimit}
use Rattle.carol_scenario.specs.declared.error.SceneLimit.TheVariants.{Replicas, Tries, Workers}
use Rattle.carol_scenario.specs.declared.error.SceneError.{SceneError}
use Rattle.carol_scenario.specs.Meaning.{number_called, command_meaning, repeated, session_meaning, scene_meaning}
use Rattle.carol_scenario.specs.Faults.{range_faults, head_faults, op_called, name_faults, arity_faults, times_faults, total_faults, argument_faults, arguments_faults, call_faults, command_faults, commands_faults, count_faults, replica_faults, session_faults, sessions_faults, times_in, scene_faults}
use Rattle.carol_scenario.proofs.Firsts.{none_of_former, none_of_latter}

-- ---- one rule

-- nothing is wrong where the test is true
passed : (b : Bool) (fault : SceneError) → (if b then [] else fault ∷ []) ≡ [] → b ≡ true
passed true fault h = refl
passed false fault h = absurd cc

record IsWithin (least most n : ℕ) : Type 0 where
  low : least ≤ n
  high : n ≤ most

is_within : (least most n : ℕ) → nat_le least n && nat_le n most ≡ true → IsWithin least most n
is_within least most n h = record { low = grind (arith, nat_tests); high = grind (arith, nat_tests) }

within : (limit : SceneLimit) (least most : ℕ) (n : Num) → range_faults limit least most n ≡ [] → IsWithin least most n.value
within limit least most n h = is_within least most n.value (passed _ _ h)

at_most : (m n : ℕ) (fault : SceneError) → (if nat_le m n then [] else fault ∷ []) ≡ [] → m ≤ n
at_most m n fault h = let test : nat_le m n ≡ true = passed _ _ h in grind (arith, nat_tests)

below : (m n : ℕ) (fault : SceneError) → (if nat_lt m n then [] else fault ∷ []) ≡ [] → m < n
below m n fault h = let test : nat_lt m n ≡ true = passed _ _ h in grind (arith, nat_tests)

same_length : (m n : ℕ) (fault : SceneError) → (if m == n then [] else fault ∷ []) ≡ [] → m ≡ n
same_length m n fault h = let test : (m == n) ≡ true = passed _ _ h in grind (arith, nat_tests)

-- ---- arguments

both_true : (a b : Bool) → a && b ≡ true → (a ≡ true) × (b ≡ true)
both_true true true h = (refl, refl)
both_true true false h = absurd cc
both_true false b h = absurd cc

small_argument : (fault : SceneError) (at : ℕ → ℤ) (c : Claim) (arg : ℤ) → argument_faults fault at c arg ≡ [] → unsigned_abs arg ≤ largest_literal
small_argument fault at c arg h = let test : nat_le (unsigned_abs arg) largest_literal ≡ true = (both_true _ (truth c at) (passed _ fault h)).0 in grind (arith, nat_tests)

true_argument : (fault : SceneError) (at : ℕ → ℤ) (c : Claim) (arg : ℤ) → argument_faults fault at c arg ≡ [] → truth c at ≡ true
true_argument fault at c arg h = (both_true (nat_le (unsigned_abs arg) largest_literal) _ (passed _ fault h)).1

small_arguments : (session command : ℕ) (at : ℕ → ℤ) (parameter : ℕ) (cs : List Claim) (args : List ℤ) → length args ≡ length cs → arguments_faults session command at parameter cs args ≡ [] → AllByRecursion (λ arg. unsigned_abs arg ≤ largest_literal) args
small_arguments session command at parameter cs [] count h = tt
small_arguments session command at parameter [] (arg ∷ args) count h = absurd cc
small_arguments session command at parameter (c ∷ cs) (arg ∷ args) count h =
    (small_argument _ at c arg (none_of_former _ _ h), small_arguments session command at (parameter + 1) cs args (cc) (none_of_latter (argument_faults _ at c arg) _ h))

true_arguments : (session command : ℕ) (at : ℕ → ℤ) (parameter : ℕ) (cs : List Claim) (args : List ℤ) → length args ≡ length cs → arguments_faults session command at parameter cs args ≡ [] → AllByRecursion (λ c. truth c at ≡ true) cs
true_arguments session command at parameter [] args count h = tt
true_arguments session command at parameter (c ∷ cs) [] count h = absurd cc
true_arguments session command at parameter (c ∷ cs) (arg ∷ args) count h =
    (true_argument _ at c arg (none_of_former _ _ h), true_arguments session command at (parameter + 1) cs args (cc) (none_of_latter (argument_faults _ at c arg) _ h))

-- ---- a command

called_right : (called : Option OpRules) (session command : ℕ) (c : CommandDecl) → name_faults called c ≡ [] → arity_faults called c ≡ [] → call_faults called session command c.args ≡ [] → AreArgumentsOf called c.args
called_right None session command c name arity right = absurd cc
called_right (Some op) session command c name arity right =
    let count = same_length (length c.args) (length op.params) _ arity in
    record { count = count; small = small_arguments session command (number_of_args c.args) 0 op.params c.args count right; meet = true_arguments session command (number_of_args c.args) 0 op.params c.args count right }

number_right : (p : Rules) (number : Option ℕ) (session command : ℕ) (c : CommandDecl) → name_faults (option_and_then (λ n. slice_get p.ops n) number) c ≡ [] → arity_faults (option_and_then (λ n. slice_get p.ops n) number) c ≡ [] → call_faults (option_and_then (λ n. slice_get p.ops n) number) session command c.args ≡ [] → AreArgumentsOf (slice_get p.ops (unwrap_or number 0)) c.args
number_right p None session command c name arity right = absurd cc
number_right p (Some n) session command c name arity right = called_right (slice_get p.ops n) session command c name arity right

-- nothing is wrong with a command: it may be called, and the commands up to it are few enough
record IsRight (p : Rules) (names : Names) (before : ℕ) (c : CommandDecl) : Type 0 where
  call : IsCommandOf p (command_meaning names c)
  few : before + c.times.value ≤ most_commands

command_is_right : (p : Rules) (names : Names) (session earlier command : ℕ) (c : CommandDecl) → command_faults p names session earlier command c ≡ [] → IsRight p names (earlier + command) c
command_is_right p names session earlier command c h =
    let called = op_called p names c.name.word in
    let name = none_of_former (name_faults called c) _ h in
    let h1 = none_of_latter (name_faults called c) _ h in
    let arity = none_of_former (arity_faults called c) _ h1 in
    let h2 = none_of_latter (arity_faults called c) _ h1 in
    let h3 = none_of_latter (times_faults c) _ h2 in
    let total = none_of_former (total_faults (earlier + command) c) _ h3 in
    let right = none_of_latter (total_faults (earlier + command) c) _ h3 in
    record { call = number_right p (number_called names c.name.word) session command c name arity right; few = at_most _ _ _ total }

-- ---- the commands of a session

all_append : {A : Type 0} (P : A → Type 0) (xs ys : List A) → AllByRecursion P xs → AllByRecursion P ys → AllByRecursion P (xs ++ ys)
all_append P [] ys h k = k
all_append P (x ∷ xs) ys h k = (h.0, all_append P xs ys h.1 k)

all_replicate : {A : Type 0} (P : A → Type 0) (n : ℕ) (x : A) → P x → AllByRecursion P (replicate n x)
all_replicate P zero x h = tt
all_replicate P (suc n) x h = (h, all_replicate P n x h)

commands_right : (p : Rules) (names : Names) (session earlier command : ℕ) (cs : List CommandDecl) → commands_faults p names session earlier command cs ≡ [] → AllByRecursion (IsCommandOf p) (flat_map (repeated names) cs)
commands_right p names session earlier command [] h = tt
commands_right p names session earlier command (c ∷ cs) h =
    let right = command_is_right p names session earlier command c (none_of_former _ _ h) in
    all_append (IsCommandOf p) (repeated names c) (flat_map (repeated names) cs) (all_replicate (IsCommandOf p) c.times.value (command_meaning names c) right.call)
    (commands_right p names session earlier (command + c.times.value) cs (none_of_latter (command_faults p names session earlier command c) _ h))

commands_few : (p : Rules) (names : Names) (session earlier command : ℕ) (cs : List CommandDecl) → commands_faults p names session earlier command cs ≡ [] → earlier + command ≤ most_commands → earlier + command + times_in cs ≤ most_commands
commands_few p names session earlier command [] h few = omega (arith, few)
commands_few p names session earlier command (c ∷ cs) h few =
    let right = command_is_right p names session earlier command c (none_of_former _ _ h) in
    let more = commands_few p names session earlier (command + c.times.value) cs (none_of_latter (command_faults p names session earlier command c) _ h) (omega (arith, right.few)) in
    omega (arith, more)

length-repeated : (names : Names) (cs : List CommandDecl) → length (flat_map (repeated names) cs) ≡ times_in cs
length-repeated names [] = refl
length-repeated names (c ∷ cs) =
    omega (arith, length-append (repeated names c) (flat_map (repeated names) cs), length-replicate c.times.value (command_meaning names c), length-repeated names cs)

-- ---- sessions

-- nothing is wrong with a session: it can be run, and the sessions and the commands up to it are few enough
record IsFit (p : Rules) (names : Names) (replicas session earlier : ℕ) (s : SessionDecl) : Type 0 where
  plan : IsPlanOf p replicas (session_meaning names s)
  few_sessions : session < most_sessions
  few_commands : earlier ≤ most_commands → earlier + length (session_meaning names s).commands ≤ most_commands
  count : length (session_meaning names s).commands ≡ times_in s.commands

session_is_fit : (p : Rules) (names : Names) (replicas session earlier : ℕ) (s : SessionDecl) → session_faults p names replicas session earlier s ≡ [] → IsFit p names replicas session earlier s
session_is_fit p names replicas session earlier s h =
    let count = none_of_former (count_faults session s) _ h in
    let h1 = none_of_latter (count_faults session s) _ h in
    let replica = none_of_former (replica_faults replicas session s) _ h1 in
    let commands = none_of_latter (replica_faults replicas session s) _ h1 in
    let made = length-repeated names s.commands in
    record {
      plan = (below s.replica.value replicas _ replica, commands_right p names session earlier 0 s.commands commands);
      few_sessions = below session most_sessions _ count;
      few_commands = λ few. let all = commands_few p names session earlier 0 s.commands commands (omega (arith, few)) in omega (arith, all, made);
      count = made;
    }

sessions_right : (p : Rules) (names : Names) (replicas session earlier : ℕ) (ss : List SessionDecl) → sessions_faults p names replicas session earlier ss ≡ [] → AllByRecursion (IsPlanOf p replicas) (map (session_meaning names) ss)
sessions_right p names replicas session earlier [] h = tt
sessions_right p names replicas session earlier (s ∷ ss) h =
    let fit = session_is_fit p names replicas session earlier s (none_of_former _ _ h) in
    (fit.plan, sessions_right p names replicas (session + 1) (earlier + times_in s.commands) ss (none_of_latter (session_faults p names replicas session earlier s) _ h))

few_sessions : (p : Rules) (names : Names) (replicas session earlier : ℕ) (ss : List SessionDecl) → sessions_faults p names replicas session earlier ss ≡ [] → session ≤ most_sessions → session + length (map (session_meaning names) ss) ≤ most_sessions
few_sessions p names replicas session earlier [] h few = omega (arith, few)
few_sessions p names replicas session earlier (s ∷ ss) h few =
    let fit = session_is_fit p names replicas session earlier s (none_of_former _ _ h) in
    let more = few_sessions p names replicas (session + 1) (earlier + times_in s.commands) ss (none_of_latter (session_faults p names replicas session earlier s) _ h) (omega (arith, fit.few_sessions)) in
    omega (arith, more)

few_commands : (p : Rules) (names : Names) (replicas session earlier : ℕ) (ss : List SessionDecl) → sessions_faults p names replicas session earlier ss ≡ [] → earlier ≤ most_commands → earlier + commands_in (map (session_meaning names) ss) ≤ most_commands
few_commands p names replicas session earlier [] h few = omega (arith, few)
few_commands p names replicas session earlier (s ∷ ss) h few =
    let fit = session_is_fit p names replicas session earlier s (none_of_former _ _ h) in
    let more = few_commands p names replicas (session + 1) (earlier + times_in s.commands) ss (none_of_latter (session_faults p names replicas session earlier s) _ h) (omega (arith, fit.few_commands few, fit.count)) in
    omega (arith, more, fit.count)

-- ---- a scene

valid : (p : Rules) (names : Names) (s : SceneDecl) → scene_faults p names s ≡ [] → IsValidScene p (scene_meaning names s)
valid p names s h =
    let heads = none_of_former (head_faults s) _ h in
    let sessions = none_of_latter (head_faults s) _ h in
    let replicas = within _ 1 8 s.replicas (none_of_former (range_faults Replicas 1 8 s.replicas) _ heads) in
    let h1 = none_of_latter (range_faults Replicas 1 8 s.replicas) _ heads in
    let tries = within _ 1 16 s.tries (none_of_former (range_faults Tries 1 16 s.tries) _ h1) in
    let h2 = none_of_latter (range_faults Tries 1 16 s.tries) _ h1 in
    let workers = within _ 1 16 s.workers (none_of_former (range_faults Workers 1 16 s.workers) _ h2) in
    let gossipers = within _ 0 8 s.gossipers (none_of_latter (range_faults Workers 1 16 s.workers) _ h2) in
    let few_plans = few_sessions p names s.replicas.value 0 0 s.sessions sessions (omega arith) in
    let few_calls = few_commands p names s.replicas.value 0 0 s.sessions sessions (omega arith) in
    record {
      some_replica = replicas.low;
      few_replicas = replicas.high;
      some_try = tries.low;
      few_tries = tries.high;
      some_worker = workers.low;
      few_workers = workers.high;
      few_gossipers = gossipers.high;
      few_sessions = omega (arith, few_plans);
      few_commands = omega (arith, few_calls);
      sessions = sessions_right p names s.replicas.value 0 0 s.sessions sessions;
    }

same_scene : (names : Names) (d : SceneDecl) (s : Scene) → s.replicas ≡ d.replicas.value → s.tries ≡ d.tries.value → s.workers ≡ d.workers.value → s.gossipers ≡ d.gossipers.value → s.sessions ≡ map (session_meaning names) d.sessions → s ≡ scene_meaning names d
same_scene names d s replicas tries workers gossipers sessions =
    let whole : Scene = record { replicas = s.replicas; tries = s.tries; workers = s.workers; gossipers = s.gossipers; sessions = s.sessions } in
    let same : whole ≡ scene_meaning names d = cc in
    same

-- what the declaration says is valid
pub valid_scene : (p : Rules) (names : Names) (d : SceneDecl) (s : Scene) → scene_faults p names d ≡ [] → s.replicas ≡ d.replicas.value → s.tries ≡ d.tries.value → s.workers ≡ d.workers.value → s.gossipers ≡ d.gossipers.value → s.sessions ≡ map (session_meaning names) d.sessions → IsValidScene p s
valid_scene p names d s none replicas tries workers gossipers sessions = subst (IsValidScene p) (sym (same_scene names d s replicas tries workers gossipers sessions)) (valid p names d none)
