-- A file is found to be one thing.
use Rattle.std.proofs.Common.{◌≡◌, ◌≤◌, ◌<◌, ℕ, suc, ◌+◌, ◌-◌, List, [], ◌∷◌, ◌++◌, length, take, drop, sym, ◌∙◌, ap, subst, inl, inr, arith, append_assoc, length-append, length-take}
use Rattle.std.specs.Prelude.{reverse}
use Rattle.std.proofs.lemmas.List.{take-append-drop, length-reverse, reverse-reverse}
use Rattle.carol_program.specs.Rules.{Rules}
use Rattle.carol_program.specs.declared.scenes.Scene.{Scene}
use Rattle.carol_event.specs.declared.event.Event.{Event}
use Rattle.carol_event.specs.Numbers.{Each, HasNumbers}
use Rattle.carol_history.specs.declared.history.TheConstants.{MOST_EVENTS}
use Rattle.carol_history.specs.Runs.{Run}
use Rattle.carol_audit.specs.Fitting.{NumbersFit}
use Rattle.carol_audit.specs.Rulings.{IsFirstFalse}
use Rattle.carol_audit.proofs.OneFinding.{one_event}
use Rattle.carol_audit.proofs.Single.{none_false}
use Rattle.carol_vault_image.specs.Records.{IsRead, records}
use Rattle.carol_vault_image.proofs.Keeping.{each-reverse, shown_reading}
use Rattle.carol_vault_image.proofs.Readings.{one_reading}
use Rattle.carol_vault.specs.Finding.{Sound, Damaged, Illegal, IsClosed, IsFirstIllegal, IsOpen}
use Rattle.carol_vault.specs.Laws.{FindingsAreSingle, ShownIsSound}

-- no end is both
closed_or_open : (file end : List ℕ) → IsClosed file end → 1 < length file → IsOpen end → ⊥
closed_or_open file [] (inl shut) long broken = shut
closed_or_open file (gate ∷ more) (inl shut) long broken = shut broken
closed_or_open file end (inr short) long broken = absurd (omega (arith, short, long))

-- a front of a list that goes on behind a part
take_behind : (xs ys : List Event) (k : ℕ) → take (length xs + k) (xs ++ ys) ≡ xs ++ take k ys
take_behind [] ys k = let same : 0 + k ≡ k = omega arith in ap (λ (n : ℕ). take n ys) same
take_behind (x ∷ xs) ys k =
    let more : length (x ∷ xs) + k ≡ suc (length xs + k) = omega arith in
    ap (λ (n : ℕ). take n (x ∷ (xs ++ ys))) more ∙ ap (λ (l : List Event). x ∷ l) (take_behind xs ys k)

-- the first false event of a list is that of a front which has it
first_within : (p : Rules) (scene : Scene) (events : List Event) (most number : ℕ) → number ≤ most → IsFirstFalse p scene events number → IsFirstFalse p scene (take most events) number
first_within p scene events most number few first =
    let left = most - number in
    let place : most ≡ length (first.before ++ first.event ∷ []) + left = omega (arith, first.counted, few, length-append first.before (first.event ∷ [])) in
    let split : events ≡ (first.before ++ first.event ∷ []) ++ first.after = first.are ∙ sym (append_assoc first.before (first.event ∷ []) first.after) in
    record {
      before = first.before;
      event = first.event;
      after = take left first.after;
      are = ap (λ (l : List Event). take most l) split
          ∙ ap (λ (n : ℕ). take n ((first.before ++ first.event ∷ []) ++ first.after)) place
          ∙ take_behind (first.before ++ first.event ∷ []) first.after left
          ∙ append_assoc first.before (first.event ∷ []) (take left first.after);
      counted = first.counted;
      run = first.run;
      illegal = first.illegal;
    }

-- and the other way round
pub first_front : (p : Rules) (scene : Scene) (events : List Event) (most number : ℕ) → IsFirstFalse p scene (take most events) number → IsFirstFalse p scene events number
first_front p scene events most number first = record {
  before = first.before;
  event = first.event;
  after = first.after ++ drop most events;
  are = sym (take-append-drop most events) ∙ ap (λ (l : List Event). l ++ drop most events) first.are ∙ append_assoc first.before (first.event ∷ first.after) (drop most events);
  counted = first.counted;
  run = first.run;
  illegal = first.illegal;
}

pub first_few : (p : Rules) (scene : Scene) (events : List Event) (most number : ℕ) → IsFirstFalse p scene (take most events) number → number ≤ most
first_few p scene events most number first =
    omega (arith, first.counted, ap length first.are, length-append first.before (first.event ∷ first.after), length-take most events)

-- a run has no false event
no_false : (p : Rules) (scene : Scene) (events : List Event) (number : ℕ) → Run p scene (reverse events) → IsFirstFalse p scene events number → ⊥
no_false p scene events number run first =
    none_false p scene (reverse events) number run (subst (λ (l : List Event). IsFirstFalse p scene l number) (sym (reverse-reverse events)) first)

one_illegal : (p : Rules) (scene : Scene) (events : List Event) (one other : ℕ) → IsFirstIllegal p scene events one → IsFirstIllegal p scene events other → one ≡ other
one_illegal p scene events one other (inl (first, few)) (inl (second, also)) = one_event p scene events one other first second
one_illegal p scene events one other (inl (first, few)) (inr (is, more, run)) = absurd (no_false p scene (take MOST_EVENTS events) one run (first_within p scene events MOST_EVENTS one few first))
one_illegal p scene events one other (inr (is, more, run)) (inl (second, also)) = absurd (no_false p scene (take MOST_EVENTS events) other run (first_within p scene events MOST_EVENTS other also second))
one_illegal p scene events one other (inr (is, more, run)) (inr (also, _, _)) = is ∙ sym also

sound_is_legal : (p : Rules) (scene : Scene) (events : List Event) (number : ℕ) → Run p scene (reverse events) → length events ≤ MOST_EVENTS → IsFirstIllegal p scene events number → ⊥
sound_is_legal p scene events number run few (inl (first, _)) = no_false p scene events number run first
sound_is_legal p scene events number run few (inr (is, more, _)) = absurd (omega (arith, few, more))

-- two readings of a file end alike
same_end : (file : List ℕ) (events others : List Event) (end rest : List ℕ) → IsRead file events end → IsRead file others rest → IsClosed file end → 1 < length file → IsOpen rest → ⊥
same_end file events others end rest read again closed long broken =
    closed_or_open file end closed long (subst IsOpen (sym (one_reading file events others end rest read again).1) broken)

pub findings_are_single : FindingsAreSingle
findings_are_single p scene file (Sound events) (Sound others) one other = ap Sound (one_reading file events others one.end other.end one.read other.read).0
findings_are_single p scene file (Sound events) (Damaged at) one other = absurd (same_end file events other.events one.end other.end one.read other.read one.closed other.long other.broken)
findings_are_single p scene file (Sound events) (Illegal number) one other =
    absurd (sound_is_legal p scene events number one.run one.few
    (subst (λ (l : List Event). IsFirstIllegal p scene l number) (sym (one_reading file events other.events one.end other.end one.read other.read).0) other.first))
findings_are_single p scene file (Damaged at) (Sound others) one other = absurd (same_end file others one.events other.end one.end other.read one.read other.closed one.long one.broken)
findings_are_single p scene file (Damaged at) (Damaged place) one other =
    ap Damaged (one.at_is ∙ ap (λ (l : List Event). length (records l)) (one_reading file one.events other.events one.end other.end one.read other.read).0 ∙ sym other.at_is)
findings_are_single p scene file (Damaged at) (Illegal number) one other = absurd (same_end file other.events one.events other.end one.end other.read one.read other.closed one.long one.broken)
findings_are_single p scene file (Illegal number) (Sound others) one other =
    absurd (sound_is_legal p scene others number other.run other.few
    (subst (λ (l : List Event). IsFirstIllegal p scene l number) (one_reading file one.events others one.end other.end one.read other.read).0 one.first))
findings_are_single p scene file (Illegal number) (Damaged at) one other = absurd (same_end file one.events other.events one.end other.end one.read other.read one.closed other.long other.broken)
findings_are_single p scene file (Illegal number) (Illegal second) one other =
    ap Illegal (one_illegal p scene other.events number second
    (subst (λ (l : List Event). IsFirstIllegal p scene l number) (one_reading file one.events other.events one.end other.end one.read other.read).0 one.first) other.first)

-- what a file shows is found
pub shown_is_sound : NumbersFit → ShownIsSound
shown_is_sound fit p scene file events may run few shows =
    let numbers : Each HasNumbers events =
    subst (Each HasNumbers) (reverse-reverse events) (each-reverse (reverse events) (fit p scene (reverse events) may run (omega (arith, few, length-reverse events)))) in
    let read = shown_reading file events numbers shows in
    record { end = read.0; read = read.1; closed = read.2; run = run; few = few }
