-- Each kind of step on the roster's queue keeps its rule.
use Rattle.std.proofs.Common.{◌≡◌, ◌≢◌, ◌≤◌, ◌<◌, ◌+◌, ◌==◌, ℕ, zero, suc, true, List, [], ◌∷◌, ◌++◌, length, length-append, length-set, Option, None, Some, MatchOption, IfNone, IfSome, if◌then◌else◌, set, refl, sym, ◌∙◌, true≢false, ap, subst, ⊎_elim, arith}
use Rattle.std.proofs.lemmas.Bool.Decides.{nat_tests}
use Rattle.std.proofs.lemmas.List.Sums.{sum_by-append, sum_by-cons, sum_by_push}
use Rattle.std.specs.List.{sum_by}
use mathlib.Core.Option.{some, some-injective, some-ne-none}
use lib.ListN.{get_elem?}
use Rattle.atomic_table.specs.Seated.{TableId}
use Rattle.crossbeam_queue.specs.Fifo.{Forks, Held, Learns, Pops, Pushes}
use Rattle.crossbeam_queue.proofs.Lists.{at_set, at_snoc}
use Rattle.carol_worker.specs.declared.rule.Hand.{Hand}
use Rattle.carol_worker.specs.Rosters.{HasEnough, IsOf, Roster, Taker, taker_of, with_session}
use Rattle.carol_worker.specs.Hands.{Dealt, HasRest, IsShort, Put, Took, maker, once_below, taker, times, times_taken, with_other, with_put, with_taken}

-- a sum over all passes once one of them is another
sum_set : (f : Hand → ℕ) (hands : List Hand) (pass : ℕ) (old new : Hand) → get_elem? hands pass ≡ some old → sum_by f (set hands pass new) + f old ≡ sum_by f hands + f new
sum_set f [] pass old new at = absurd (some-ne-none old (sym at))
sum_set f (x ∷ xs) zero old new at =
    omega (arith, sum_by-cons f new xs, sum_by-cons f x xs, ap f (some-injective x old at))
sum_set f (x ∷ xs) (suc i) old new at =
    omega (arith, sum_by-cons f x (set xs i new), sum_by-cons f x xs, sum_set f xs i old new at)

-- what one pass took is among what all took
taken_by_one : (number : ℕ) (hands : List Hand) (pass : ℕ) (hand : Hand) → get_elem? hands pass ≡ some hand → times number hand.taken ≤ times_taken number hands
taken_by_one number [] pass hand at = absurd (some-ne-none hand (sym at))
taken_by_one number (x ∷ xs) zero hand at =
    let f : Hand → ℕ = λ h. times number h.taken
    in omega (arith, sum_by-cons f x xs, ap f (some-injective x hand at))
taken_by_one number (x ∷ xs) (suc i) hand at =
    omega (arith, sum_by-cons (λ (h : Hand). times number h.taken) x xs, taken_by_one number xs i hand at)

-- what stands in a list is short of its end
within : (hands : List Hand) (pass : ℕ) (hand : Hand) → get_elem? hands pass ≡ some hand → pass < length hands
within [] pass hand at = absurd (some-ne-none hand (sym at))
within (x ∷ xs) zero hand at = omega arith
within (x ∷ xs) (suc i) hand at = omega (arith, within xs i hand at)

-- of one list what all took is what the one pass took
taken_alone : (number : ℕ) (hands : List Hand) (pass : ℕ) (hand : Hand) → get_elem? hands pass ≡ some hand → length hands ≡ 1 → times_taken number hands ≡ times number hand.taken
taken_alone number [] pass hand at one = absurd (omega (arith, one))
taken_alone number (x ∷ []) zero hand at one =
    let f : Hand → ℕ = λ h. times number h.taken
    in omega (arith, sum_by-cons f x [], ap f (some-injective x hand at))
taken_alone number (x ∷ []) (suc i) hand at one = absurd (some-ne-none hand (sym at))
taken_alone number (x ∷ y ∷ xs) pass hand at one = absurd (omega (arith, one))

-- once where the two numbers are one
abbrev hit : ℕ → ℕ → ℕ
hit number n = if n == number then 1 else 0

-- a number that is put in at the count stood nowhere
put_once : (number count here taken : ℕ) → here + taken ≡ once_below count number → (here + hit number count) + taken ≡ once_below (count + 1) number
put_once number count here taken once = grind (arith, nat_tests)

once_at_most : (number count : ℕ) → once_below count number ≤ 1
once_at_most number count = grind (arith, nat_tests)

once_if_below : (number count : ℕ) → number < count → once_below count number ≡ 1
once_if_below number count below = grind (arith, nat_tests)

self_once : (number : ℕ) → hit number number ≡ 1
self_once number = grind (arith, nat_tests)

times_put : (number : ℕ) (numbers : List ℕ) (n : ℕ) → times number (numbers ++ n ∷ []) ≡ times number numbers + hit number n
times_put number numbers n = sum_by_push (hit number) numbers n

times_front : (number n : ℕ) (numbers : List ℕ) → times number (n ∷ numbers) ≡ hit number n + times number numbers
times_front number n numbers = sum_by-cons (hit number) n numbers

times_both : (number : ℕ) (numbers more : List ℕ) → times number (numbers ++ more) ≡ times number numbers + times number more
times_both number numbers more = sum_by-append (hit number) numbers more

taken_set : (number : ℕ) (hands : List Hand) (pass : ℕ) (old new : Hand) → get_elem? hands pass ≡ some old → times_taken number (set hands pass new) + times number old.taken ≡ times_taken number hands + times number new.taken
taken_set number hands pass old new at = sum_set (λ h. times number h.taken) hands pass old new at

-- the first pass, before anything was put in
pub begins : Dealt [] (maker 0 ∷ [])
begins = (
  0,
  0,
  record {
    once = λ number. grind (arith, nat_tests);
    short = omega arith;
    makes = only;
    counts = λ pass hand at. omega (arith, none pass hand at);
    alone = λ pass hand at alone. refl;
  },
)
  where
    only : (pass : ℕ) (hand : Hand) → get_elem? (maker 0 ∷ []) pass ≡ some hand → hand.makes ≡ true → (pass ≡ 0) × (hand.count ≡ 0)
    only zero hand at makes = (refl, sym (ap (λ (h : Hand). h.count) (some-injective (maker 0) hand at)))
    only (suc pass) hand at makes = absurd (some-ne-none hand (sym at))

    none : (pass : ℕ) (hand : Hand) → get_elem? (maker 0 ∷ []) pass ≡ some hand → hand.count ≡ 0
    none zero hand at = sym (ap (λ (h : Hand). h.count) (some-injective (maker 0) hand at))
    none (suc pass) hand at = absurd (some-ne-none hand (sym at))

-- where one pass is another, and has company if it had, a pass that is alone is so still
stays_alone : (hands : List Hand) (pass : ℕ) (v w : Hand) → get_elem? hands pass ≡ some v → w.alone ≡ v.alone
    → ((j : ℕ) (h : Hand) → get_elem? hands j ≡ some h → h.alone ≡ true → length hands ≡ 1)
    → (j : ℕ) (h : Hand) → get_elem? (set hands pass w) j ≡ some h → h.alone ≡ true → length (set hands pass w) ≡ 1
stays_alone hands pass v w at same alone j h here is = length-set hands pass w ∙ ⊎_elim
    (λ (e : (j ≡ pass) × (w ≡ h)). alone pass v at (sym same ∙ (ap (λ (u : Hand). u.alone) e.1 ∙ is)))
    (λ (e : (j ≢ pass) × (get_elem? hands j ≡ some h)). alone j h e.1 is)
    (at_set hands pass j w h here)

-- a push by the maker
pub puts : (room pass : ℕ) (v : Hand) (x : ℕ) → v.makes ≡ true → x ≡ v.count → Pushes Dealt room pass v x (Put v x)
puts room pass v x makes is items hands space dealt at =
    let d = dealt.2 in
    let mine = d.makes pass v at makes in
    let w : Hand = with_put v in (
      w,
      (
        dealt.0,
        dealt.1 + 1,
        record {
          once = λ number.
              let set = taken_set number hands pass v w at in
              let put = times_put number items x in
              let next = put_once number dealt.1 (times number items) (times_taken number hands) (d.once number) in
              let same : x ≡ dealt.1 = is ∙ mine.1 in
              omega (arith, ap (hit number) same);
          short = omega (arith, length-append items (x ∷ []), d.short);
          makes = λ j h here yes. ⊎_elim
              (λ (e : (j ≡ pass) × (w ≡ h)). (e.0 ∙ mine.0, sym (ap (λ (u : Hand). u.count) e.1) ∙ ap (λ k. k + 1) mine.1))
              (λ (e : (j ≢ pass) × (get_elem? hands j ≡ some h)). absurd (e.0 ((d.makes j h e.1 yes).0 ∙ sym mine.0)))
              (at_set hands pass j w h here);
          counts = λ j h here. ⊎_elim
              (λ (e : (j ≡ pass) × (w ≡ h)). omega (arith, ap (λ (u : Hand). u.count) e.1, mine.1))
              (λ (e : (j ≢ pass) × (get_elem? hands j ≡ some h)). omega (arith, d.counts j h e.1))
              (at_set hands pass j w h here);
          alone = stays_alone hands pass v w at refl d.alone;
        },
      ),
      refl,
    )

-- a pop that gives a number to a pass
pub takes : (pass : ℕ) (v : Hand) → Pops Dealt pass v (Took v)
takes pass v x items hands dealt at =
    let d = dealt.2 in
    let w : Hand = with_taken v x in (
      w,
      (
        dealt.0,
        dealt.1,
        record {
          once = λ number.
              let set = taken_set number hands pass v w at in
              let put = times_put number v.taken x in
              let front = times_front number x items in
              omega (arith, d.once number);
          short = omega (arith, d.short);
          makes = λ j h here yes. ⊎_elim
              (λ (e : (j ≡ pass) × (w ≡ h)).
              let mine = d.makes pass v at (ap (λ (u : Hand). u.makes) e.1 ∙ yes)
              in (e.0 ∙ mine.0, sym (ap (λ (u : Hand). u.count) e.1) ∙ mine.1))
              (λ (e : (j ≢ pass) × (get_elem? hands j ≡ some h)). d.makes j h e.1 yes)
              (at_set hands pass j w h here);
          counts = λ j h here. ⊎_elim
              (λ (e : (j ≡ pass) × (w ≡ h)). omega (arith, ap (λ (u : Hand). u.count) e.1, d.counts pass v at))
              (λ (e : (j ≢ pass) × (get_elem? hands j ≡ some h)). d.counts j h e.1)
              (at_set hands pass j w h here);
          alone = stays_alone hands pass v w at refl d.alone;
        },
      ),
      (
        (let front = times_front x x items
            in omega (arith, d.once x, once_at_most x dealt.1, self_once x, taken_by_one x hands pass v at)),
        refl,
      ),
    )

-- a new pass, with an empty list, beside the one that it is made of
pub joins : (pass : ℕ) (v : Hand) → Forks Dealt pass v (with_other v) (taker v.count)
joins pass v items hands dealt at =
    let d = dealt.2 in
    let w : Hand = with_other v in
    let new : Hand = taker v.count in (
      dealt.0,
      dealt.1,
      record {
        once = λ number.
            omega (arith, d.once number, taken_set number hands pass v w at, sum_by_push (λ (h : Hand). times number h.taken) (set hands pass w) new);
        short = d.short;
        makes = λ j h here yes. ⊎_elim
            (λ (e : get_elem? (set hands pass w) j ≡ some h). ⊎_elim
            (λ (f : (j ≡ pass) × (w ≡ h)).
            let mine = d.makes pass v at (ap (λ (u : Hand). u.makes) f.1 ∙ yes)
            in (f.0 ∙ mine.0, sym (ap (λ (u : Hand). u.count) f.1) ∙ mine.1))
            (λ (f : (j ≢ pass) × (get_elem? hands j ≡ some h)). d.makes j h f.1 yes)
            (at_set hands pass j w h e))
            (λ (e : new ≡ h). absurd (true≢false (sym (ap (λ (u : Hand). u.makes) e ∙ yes))))
            (at_snoc (set hands pass w) new h j here);
        counts = λ j h here. ⊎_elim
            (λ (e : get_elem? (set hands pass w) j ≡ some h). ⊎_elim
            (λ (f : (j ≡ pass) × (w ≡ h)). omega (arith, ap (λ (u : Hand). u.count) f.1, d.counts pass v at))
            (λ (f : (j ≢ pass) × (get_elem? hands j ≡ some h)). d.counts j h f.1)
            (at_set hands pass j w h e))
            (λ (e : new ≡ h). omega (arith, ap (λ (u : Hand). u.count) e, d.counts pass v at))
            (at_snoc (set hands pass w) new h j here);
        alone = λ j h here yes. ⊎_elim
            (λ (e : get_elem? (set hands pass w) j ≡ some h). ⊎_elim
            (λ (f : (j ≡ pass) × (w ≡ h)). absurd (true≢false (sym (ap (λ (u : Hand). u.alone) f.1 ∙ yes))))
            (λ (f : (j ≢ pass) × (get_elem? hands j ≡ some h)). absurd (f.0 (omega (arith, d.alone j h f.1 yes, within hands j h f.1, within hands pass v at))))
            (at_set hands pass j w h e))
            (λ (e : new ≡ h). absurd (true≢false (sym (ap (λ (u : Hand). u.alone) e ∙ yes))))
            (at_snoc (set hands pass w) new h j here);
      },
    )

-- what the maker sees of a queue that is full
pub sees_short : (pass : ℕ) (v : Hand) → v.makes ≡ true → Learns Dealt pass v (IsShort v)
sees_short pass v makes items hands dealt at =
    omega (arith, dealt.2.short, (dealt.2.makes pass v at makes).1)

-- what a pass sees of a queue
pub sees_rest : (pass : ℕ) (v : Hand) → Learns Dealt pass v (HasRest v)
sees_rest pass v items hands dealt at = record {
  once = λ number.
      omega (arith, dealt.2.once number, once_at_most number dealt.1, taken_by_one number hands pass v at, times_both number items v.taken);
  all = λ alone number below.
      omega (arith, dealt.2.once number, times_both number items v.taken, taken_alone number hands pass v at (dealt.2.alone pass v at alone), once_if_below number dealt.1 (omega (arith, below, dealt.2.counts pass v at)));
}

-- what is known where the queue was empty
rest_of_none : (hand : Hand) (items : List ℕ) → length items ≡ 0 → HasRest hand items → HasRest hand []
rest_of_none hand [] none rest = rest
rest_of_none hand (x ∷ items) none rest = absurd (omega (arith, none))

-- ---- what a pop tells of a taker

same_taker : (table again : TableId) (old new : Hand) (before : Taker) → taker_of table old ≡ before → again ≡ table → new ≡ old → taker_of again new ≡ before
same_taker table again old new before is same unmoved =
    ap (λ t. taker_of t new) same ∙ ap (λ h. taker_of table h) unmoved ∙ is

enough_of : (table : TableId) (old : Hand) → HasRest old [] → HasEnough (taker_of table old)
enough_of table old rest = record { once = rest.once; all = rest.all }

more_of : (table again : TableId) (old new : Hand) (number : ℕ) → again ≡ table → Took old number new → (times number (taker_of table old).taken ≡ 0) × (taker_of again new ≡ with_session (taker_of table old) number)
more_of table again old new number same took = (took.0, ap (λ t. taker_of t new) same ∙ ap (λ h. taker_of table h) took.1)

-- where nothing was found
pub found_none : (found : Option ℕ) (table again : TableId) (old new : Hand) (B : ℕ → Type 0) (before : Taker) → taker_of table old ≡ before → again ≡ table → MatchOption found ((new ≡ old) × Held 0 (HasRest old)) B → IfNone found ((taker_of again new ≡ before) × HasEnough before)
found_none None table again old new B before is same told = (
  same_taker table again old new before is same told.0,
  subst (λ (t : Taker). HasEnough t) is (enough_of table old (rest_of_none old told.1.0 told.1.1 told.1.2)),
)
found_none (Some number) table again old new B before is same told = tt

-- where a number was found
pub found_some : (found : Option ℕ) (table again : TableId) (old new : Hand) (A : Type 0) (before : Taker) → taker_of table old ≡ before → again ≡ table → MatchOption found A (λ number. Took old number new) → IfSome found (λ number. (times number before.taken ≡ 0) × (taker_of again new ≡ with_session before number))
found_some None table again old new A before is same told = tt
found_some (Some number) table again old new A before is same told =
    subst (λ (t : Taker). (times number t.taken ≡ 0) × (taker_of again new ≡ with_session t number)) is
    (more_of table again old new number same told)

-- whatever was found
pub found_of : (found : Option ℕ) (table again : TableId) (old new : Hand) (fact : List ℕ → Type 0) (before : Taker) (roster : Roster) → taker_of table old ≡ before → again ≡ table → MatchOption found ((new ≡ old) × Held 0 fact) (λ number. Took old number new) → IsOf roster before → IsOf roster (taker_of again new)
found_of None table again old new fact before roster is same told of =
    subst (λ (t : Taker). IsOf roster t) (sym (same_taker table again old new before is same told.0)) of
found_of (Some number) table again old new fact before roster is same told of =
    let was : IsOf roster (taker_of table old) = subst (λ (t : Taker). IsOf roster t) (sym is) of
    in record { table = same ∙ was.table; count = ap (λ (h : Hand). h.count) told.1 ∙ was.count }
