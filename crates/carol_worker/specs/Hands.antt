-- The rule of the queue from which sessions are taken: each number goes to one taker at most.
use Rattle.std.specs.Prelude.{◌≡◌, ◌≤◌, ◌<◌, ◌+◌, ◌==◌, ℕ, true, false, List, [], ◌∷◌, ◌++◌, length, nat_lt, count_by, if◌then◌else◌}
use Rattle.std.specs.List.{sum_by}
use mathlib.Core.Option.{some}
use lib.ListN.{get_elem?}
use Rattle.carol_worker.specs.declared.rule.Hand.{Hand}

-- the pass that puts the numbers from 0 in, after so many, while there is no other
abbrev pub maker : ℕ → Hand
maker count = record { makes = true; alone = true; count = count; taken = [] }

-- a pass that only takes, once so many were put in
abbrev pub taker : ℕ → Hand
taker count = record { makes = false; alone = false; count = count; taken = [] }

-- there is another pass from now on
abbrev pub with_other : Hand → Hand
with_other hand =
    record { makes = hand.makes; alone = false; count = hand.count; taken = hand.taken }

-- one more number was put in
abbrev pub with_put : Hand → Hand
with_put hand =
    record { makes = hand.makes; alone = hand.alone; count = hand.count + 1; taken = hand.taken }

-- the number was taken
abbrev pub with_taken : Hand → ℕ → Hand
with_taken hand number = record {
  makes = hand.makes;
  alone = hand.alone;
  count = hand.count;
  taken = hand.taken ++ number ∷ [];
}

-- how often the number stands in the list
abbrev pub times : ℕ → List ℕ → ℕ
times number numbers = count_by (λ n. n == number) numbers

-- how often it stands in the lists of all passes
abbrev pub times_taken : ℕ → List Hand → ℕ
times_taken number hands = sum_by (λ hand. times number hand.taken) hands

-- once for a number below the count, and for no other
abbrev pub once_below : ℕ → ℕ → ℕ
once_below count number = if nat_lt number count then 1 else 0

-- the maker is the pass with this number, and put so many in
pub record IsDealt (maker count : ℕ) (items : List ℕ) (hands : List Hand) : Type 0 where
  -- each number below the count stands once in the queue and the lists together, and no other does
  pub once : (number : ℕ) →
      times number items + times_taken number hands ≡ once_below count number
  pub short : length items ≤ count
  pub makes : (pass : ℕ) (hand : Hand) → get_elem? hands pass ≡ some hand → hand.makes ≡ true →
      (pass ≡ maker) × (hand.count ≡ count)
  -- what a pass knows to be put in was put in
  pub counts : (pass : ℕ) (hand : Hand) → get_elem? hands pass ≡ some hand → hand.count ≤ count
  pub alone : (pass : ℕ) (hand : Hand) → get_elem? hands pass ≡ some hand → hand.alone ≡ true →
      length hands ≡ 1

-- the rule, over what the queue holds and what each pass knows
abbrev pub Dealt : List ℕ → List Hand → Type 0
Dealt items hands = (maker : ℕ) × (count : ℕ) × IsDealt maker count items hands

-- the maker put a number in
abbrev pub Put : Hand → ℕ → Hand → Type 0
Put old number new = new ≡ with_put old

-- the pass took a number that it didn't have
abbrev pub Took : Hand → ℕ → Hand → Type 0
Took old number new = (times number old.taken ≡ 0) × (new ≡ with_taken old number)

-- what the maker learns: the queue is no longer than the count
abbrev pub IsShort : Hand → List ℕ → Type 0
IsShort hand items = length items ≤ hand.count

-- each number below the count stands once in the list
abbrev pub HasAll : ℕ → List ℕ → Type 0
HasAll count numbers = (number : ℕ) → number < count → times number numbers ≡ 1

-- what each pass learns: no number stands twice in the queue and its list, and if there is no other
-- pass, each that was put in stands there
pub record HasRest (hand : Hand) (items : List ℕ) : Type 0 where
  pub once : (number : ℕ) → times number (items ++ hand.taken) ≤ 1
  pub all : hand.alone ≡ true → HasAll hand.count (items ++ hand.taken)
