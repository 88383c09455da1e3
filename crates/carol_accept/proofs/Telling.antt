-- The lines at a place tell whether the numbers are a breach there.
use Rattle.std.proofs.Common.{◌≡◌, ℕ, zero, suc, ◌+◌, ◌≤◌, ◌^◌, Bool, true, false, cond, eqb, List, [], ◌∷◌, ◌++◌, length, refl, sym, ◌∙◌, ap, subst, append_assoc, arith}
use Rattle.std.specs.Prelude.{ℤ, map, Option, Some, slice_get}
use Rattle.std.specs.List.{AllByRecursion}
use Rattle.std.proofs.lemmas.Bool.{eq-eqb}
use Rattle.std.proofs.lemmas.List.{append-nil}
use Rattle.carol_formula.specs.Bounds.{AreNear}
use Rattle.carol_program.specs.declared.names.Names.{Names}
use Rattle.carol_program.specs.declared.places.Place.{Place}
use Rattle.carol_program.specs.Rules.{Rules, OpRules}
use Rattle.carol_program.specs.Variables.{query_variable}
use Rattle.carol_program.specs.WellFormed.{IsOpOver}
use Rattle.carol_obligation.specs.Ways.{Way, Asks, Puts, Frees, Tests, rounds_of, has_query}
use Rattle.carol_obligation.specs.Sites.{Ending, Amount, After, Gives, Site}
use Rattle.carol_obligation.specs.Decoded.{round_variable}
use Rattle.carol_obligation.specs.Breaches.{HasTies, IsBreach}
use Rattle.carol_obligation.specs.Places.{place_of, sites_of}
use Rattle.carol_obligation.specs.Spots.{Spot, spot_at, spots_from}
use Rattle.carol_obligation.proofs.Alike.{IsFitSite, SameAlong, SameFrom, breach_as, fit_sites}
use Rattle.carol_obligation.proofs.Each.{all-append, all-map, all_both}
use Rattle.carol_obligation.proofs.Spots.{AreOver}
use Rattle.carol_accept.specs.declared.trail.Asked.{Asked}
use Rattle.carol_accept.specs.declared.trail.Trail.{Trail}
use Rattle.carol_accept.specs.Trails.{start, trail_of, trail_to}
use Rattle.carol_accept.specs.Lines.{asks_in, lines_text, own_text, rounds_text, shown_for, statement_lines, trail_text}
use Rattle.carol_accept.specs.LineLaws.{IsToldByLines, IsTrailed, LinesTell, TrailsAreWays}
use Rattle.carol_accept.specs.Named.{variable_text}
use Rattle.carol_accept.proofs.Decoding.{numbers_parts, queries_parts, rounds_parts}
use Rattle.carol_accept.proofs.Trailing.{Found, found_sites}

-- ---- the trail of a way

rounds_same : (way : Way) → (trail_of way).rounds ≡ rounds_of way
rounds_same [] = refl
rounds_same (Asks guard slot ∷ way) = rounds_same way
rounds_same (Puts parts ∷ way) = ap (λ (n : ℕ). n + 1) (rounds_same way)
rounds_same (Frees ∷ way) = ap (λ (n : ℕ). n + 1) (rounds_same way)
rounds_same (Tests test side ∷ way) = rounds_same way

asked_among : (round : ℕ) (xs : List Asked) (a : Asked) (ys : List Asked) → a.round ≡ round → asks_in round (xs ++ a ∷ ys) ≡ true
asked_among round [] a ys e = ap (λ (b : Bool). cond b true (asks_in round ys)) (eq-eqb a.round round e)
asked_among round (x ∷ xs) a ys e = either (eqb x.round round) (asks_in round (xs ++ a ∷ ys)) (asked_among round xs a ys e)
  where
    either : (b other : Bool) → other ≡ true → cond b true other ≡ true
    either true other h = refl
    either false other h = h

-- where the round that is open has a query, it is among those of the trail
asks_open : (way : Way) (more : List Asked) → has_query way ≡ true → asks_in (rounds_of way) ((trail_of way).asked ++ more) ≡ true
asks_open [] more h = absurd cc
asks_open (Asks guard slot ∷ way) more h =
    let a : Asked = record { slot = slot; round = (trail_of way).rounds }
    in ap (asks_in (rounds_of way)) (append_assoc (trail_of way).asked (a ∷ []) more) ∙ asked_among (rounds_of way) (trail_of way).asked a more (rounds_same way)
asks_open (Puts parts ∷ way) more h = absurd cc
asks_open (Frees ∷ way) more h = absurd cc
asks_open (Tests test side ∷ way) more h = asks_open way more h

all-there : {A : Type 0} (P : A → Type 0) (xs : List A) (y : A) (ys : List A) → AllByRecursion P (xs ++ y ∷ ys) → P y
all-there P [] y ys h = h.0
all-there P (x ∷ xs) y ys h = all-there P xs y ys h.1

-- ---- the numbers that are shown are those along the way

module _ (cells top : ℕ) (f g : ℕ → ℤ) (all : List Asked) (asked : AllByRecursion (λ (a : Asked). SameFrom f g (query_variable a.slot 0) cells) all) (rounds : (r : ℕ) → r ≤ top → asks_in r all ≡ true → SameFrom f g (round_variable r 0) cells) where
  same_along : (way : Way) (more : List Asked) → rounds_of way ≤ top → (trail_of way).asked ++ more ≡ all → SameAlong cells f g way
  same_along [] more low e = tt
  same_along (Asks guard slot ∷ way) more low e =
      let a : Asked = record { slot = slot; round = (trail_of way).rounds }
      in let whole : (trail_of way).asked ++ a ∷ more ≡ all = sym (append_assoc (trail_of way).asked (a ∷ []) more) ∙ e
      in (all-there _ (trail_of way).asked a more (subst (AllByRecursion (λ (x : Asked). SameFrom f g (query_variable x.slot 0) cells)) (sym whole) asked), same_along way (a ∷ more) low whole)
  same_along (Puts parts ∷ way) more low e =
      (λ h. rounds (rounds_of way) (omega (arith, low)) (ap (asks_in (rounds_of way)) (sym e) ∙ asks_open way more h), same_along way more (omega (arith, low)) e)
  same_along (Frees ∷ way) more low e =
      (λ h. rounds (rounds_of way) (omega (arith, low)) (ap (asks_in (rounds_of way)) (sym e) ∙ asks_open way more h), same_along way more (omega (arith, low)) e)
  same_along (Tests test side ∷ way) more low e = same_along way more low e

shown-own : (t : Trail) (r : ℕ) → asks_in r t.asked ≡ true → shown_for t r ≡ r
shown-own t r h = ap (λ (b : Bool). cond b r t.rounds) h

shown-last : (t : Trail) → shown_for t t.rounds ≡ t.rounds
shown-last t = either (asks_in t.rounds t.asked) t.rounds
  where
    either : (b : Bool) (n : ℕ) → cond b n n ≡ n
    either true n = refl
    either false n = refl

-- ---- one place

module _ (p : Rules) (names : Names) (place : Place) (op : OpRules) (site : Site) (f g : ℕ → ℤ) (near_f : AreNear (2 ^ 127) f) (near_g : AreNear (2 ^ 127) g) (fit : IsFitSite p.shape (length op.params) site) where
  abbrev t : Trail
  t = trail_of site.way

  abbrev cells : ℕ
  cells = length p.shape

  abbrev name : ℕ → List ℕ
  name = variable_text names place

  told_by : (ties : HasTies p.shape site.way site.ending g) → own_text name f (length op.params) 32 ++ trail_text name f cells (Some t) ≡ own_text name g (length op.params) 32 ++ trail_text name g cells (Some t) → IsBreach p op site f → IsBreach p op site g
  told_by ties e =
      let params = numbers_parts name f g near_f near_g (length op.params) 32 32 _ _ e
      in let queries = queries_parts name f g near_f near_g cells t.asked (rounds_text name f cells t (t.rounds + 1) 0) (rounds_text name g cells t (t.rounds + 1) 0) params.1
      in let rounds = rounds_parts name f g near_f near_g cells t (t.rounds + 1) 0 queries.1
      in let own : (r : ℕ) → r ≤ rounds_of site.way → asks_in r t.asked ≡ true → SameFrom f g (round_variable r 0) cells =
      λ r low h. subst (λ (n : ℕ). SameFrom f g (round_variable n 0) cells) (shown-own t r h) (rounds r (omega arith) (omega (arith, low, rounds_same site.way)))
      in let open_round : SameFrom f g (round_variable (rounds_of site.way) 0) cells =
      subst (λ (n : ℕ). SameFrom f g (round_variable n 0) cells) (shown-last t ∙ rounds_same site.way) (rounds t.rounds (omega arith) (omega arith))
      in breach_as p op site f g fit params.0 (same_along cells (rounds_of site.way) f g t.asked queries.0 own site.way [] (omega arith) (append-nil t.asked)) open_round ties

lines_at : (p : Rules) (names : Names) (number n : ℕ) (ending : Ending) (f : ℕ → ℤ) → lines_text p names (place_of number n ending) f ≡ statement_lines (variable_text names (place_of number n ending)) f (length p.shape) n (slice_get p.ops number)
unfolding lines_text
lines_at p names number n (Amount atom kind part) f = refl
lines_at p names number n (After parts) f = refl
lines_at p names number n (Gives value) f = refl

lines_there : (p : Rules) (names : Names) (number : ℕ) (op : OpRules) (site : Site) (f : ℕ → ℤ) → slice_get p.ops number ≡ Some op → trail_to site.number op.body start ≡ Some (trail_of site.way) →
    lines_text p names (place_of number site.number site.ending) f ≡ own_text (variable_text names (place_of number site.number site.ending)) f (length op.params) 32 ++ trail_text (variable_text names (place_of number site.number site.ending)) f (length p.shape) (Some (trail_of site.way))
lines_there p names number op site f at trail =
    let name : ℕ → List ℕ = variable_text names (place_of number site.number site.ending)
    in lines_at p names number site.number site.ending f
    ∙ ap (statement_lines name f (length p.shape) site.number) at
    ∙ ap (λ (o : Option Trail). own_text name f (length op.params) 32 ++ trail_text name f (length p.shape) o) trail

told_site : (p : Rules) (names : Names) (number : ℕ) (op : OpRules) → slice_get p.ops number ≡ Some op → (site : Site) → IsFitSite p.shape (length op.params) site → Found 1 op.body start site → IsToldByLines p names (spot_at number op site)
told_site p names number op at site fit found f g shown_f shown_g e =
    let place = place_of number site.number site.ending
    in let same = sym (lines_there p names number op site f at found.trail) ∙ e ∙ lines_there p names number op site g at found.trail
    in (
      told_by p names place op site f g shown_f.near shown_g.near fit shown_g.ties same,
      told_by p names place op site g f shown_g.near shown_f.near fit shown_f.ties (sym same),
    )

-- ---- all places

all_two : {A : Type 0} (P Q R : A → Type 0) → ((x : A) → P x → Q x → R x) → (xs : List A) → AllByRecursion P xs → AllByRecursion Q xs → AllByRecursion R xs
all_two P Q R h [] p q = tt
all_two P Q R h (x ∷ xs) p q = (h x p.0 q.0, all_two P Q R h xs p.1 q.1)

-- what holds of the places of each operation holds of those of all
over_spots : (p : Rules) (P : Spot → Type 0) → ((number : ℕ) (op : OpRules) → slice_get p.ops number ≡ Some op → IsOpOver p.shape (length p.guards) op → AllByRecursion (λ site. P (spot_at number op site)) (sites_of p op)) →
    (number : ℕ) (ops : List OpRules) → AreOver p ops → ((i : ℕ) → slice_get p.ops (number + i) ≡ slice_get ops i) → AllByRecursion P (spots_from p number ops)
over_spots p P each number [] over at = tt
over_spots p P each number (op ∷ ops) over at =
    let here : slice_get p.ops number ≡ Some op = ap (slice_get p.ops) (omega arith) ∙ at zero
    in all-append P (map (spot_at number op) (sites_of p op)) (spots_from p (number + 1) ops)
    (all-map P (spot_at number op) (sites_of p op) (each number op here over.0))
    (over_spots p P each (number + 1) ops over.1 (λ i. ap (slice_get p.ops) (omega arith) ∙ at (suc i)))

pub trails_are_ways : TrailsAreWays
trails_are_ways p rules =
    over_spots p IsTrailed (λ number op at over. all_both _ _ (λ site (found : Found 1 op.body start site). found.trail) (sites_of p op) (found_sites p.shape 1 op.body [] over.numbers))
    0 p.ops rules.ops (λ i. ap (slice_get p.ops) (omega arith))

pub lines_tell : LinesTell
lines_tell p names rules =
    over_spots p (IsToldByLines p names)
    (λ number op at over. all_two _ _ _ (told_site p names number op at) (sites_of p op) (fit_sites p.shape (length op.params) (length p.guards) op.body [] over.body tt) (found_sites p.shape 1 op.body [] over.numbers))
    0 p.ops rules.ops (λ i. ap (slice_get p.ops) (omega arith))
