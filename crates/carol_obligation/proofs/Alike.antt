-- Numbers that are the same wherever a place's way looks are breaches of the place alike.
use Rattle.std.proofs.Common.{◌≡◌, ℕ, zero, suc, ◌+◌, ◌-◌, ◌<◌, ◌≤◌, Bool, true, false, inl, inr, List, [], ◌∷◌, ◌++◌, length, refl, sym, ◌∙◌, ap, subst, arith}
use Rattle.std.specs.Prelude.{ℤ, if◌then◌else◌, map, Option, Some, None, slice_get}
use Rattle.std.specs.List.{AllByRecursion}
use Rattle.carol_store.specs.declared.shape.CellKind.{CellKind}
use Rattle.carol_store.specs.declared.shape.CellKind.TheVariants.{Counter, Peak, Flag}
use Rattle.carol_store.specs.declared.effect.Atom.{Atom}
use Rattle.carol_store.specs.Kinds.{CellValue, IsAmount, value_of}
use Rattle.carol_store.specs.Stores.{apply}
use Rattle.carol_formula.specs.Claim.{truth}
use Rattle.carol_formula.specs.Value.{value_at, set_at}
use Rattle.carol_program.specs.declared.steps.Part.{Part}
use Rattle.carol_program.specs.Bodies.{Body, Query, Issue, Release, Branch, Return}
use Rattle.carol_program.specs.Rules.{Rules, OpRules}
use Rattle.carol_program.specs.Variables.{IsAmong, number_in, number_of_args, param_variable, query_variable, result_variable, store_at}
use Rattle.carol_program.specs.WellFormed.{IsFitBody, IsFormulaOver, IsPartOver, IsTermOver}
use Rattle.carol_reading.specs.Marks.{Mark, Asked, Issued, Released}
use Rattle.carol_reading.specs.Readings.{effect_of}
use Rattle.carol_reading.specs.Good.{IsReading}
use Rattle.carol_obligation.specs.Ways.{Way, Asks, Puts, Frees, Tests, rounds_of, has_query}
use Rattle.carol_obligation.specs.Sites.{Ending, Amount, After, Gives, Site, amount_site, amount_sites, sites}
use Rattle.carol_obligation.specs.Decoded.{round_variable, args_from, args_at, marks_at, open_at, closed_at, ended_at, TestsGo}
use Rattle.carol_obligation.specs.Breaches.{after_at, HasTies, Breaks, IsReadingAlong, IsBreach}
use Rattle.carol_obligation.proofs.Agreeing.{AgreeOn, effect_of-same, truth-same, value_at-same}
use Rattle.carol_obligation.proofs.Each.{all-append}
use Rattle.carol_obligation.proofs.Seen.{ranges_of, slots_of}

-- ---- what a place's way and ending name is there

abbrev pub IsFitWay : List CellKind → ℕ → Way → Type 0
IsFitWay kinds params [] = Unit {0}
IsFitWay kinds params (Asks guard slot ∷ way) = IsFitWay kinds params way
IsFitWay kinds params (Puts parts ∷ way) = AllByRecursion (IsPartOver kinds (ranges_of kinds params way)) parts × IsFitWay kinds params way
IsFitWay kinds params (Frees ∷ way) = IsFitWay kinds params way
IsFitWay kinds params (Tests test side ∷ way) = IsFormulaOver (ranges_of kinds params way) test × IsFitWay kinds params way

abbrev pub IsFitEnding : List CellKind → ℕ → Way → Ending → Type 0
IsFitEnding kinds params way (Amount atom kind part) = IsTermOver (ranges_of kinds params way) part.amount
IsFitEnding kinds params way (After parts) = AllByRecursion (IsPartOver kinds (ranges_of kinds params way)) parts
IsFitEnding kinds params way (Gives value) = IsTermOver (ranges_of kinds params way) value

abbrev pub IsFitSite : List CellKind → ℕ → Site → Type 0
IsFitSite kinds params s = IsFitWay kinds params s.way × IsFitEnding kinds params s.way s.ending

module _ (kinds : List CellKind) (params : ℕ) where
  fit_amount : (way : Way) (n atom : ℕ) (part : Part) (kind : Option CellKind) → IsFitWay kinds params way → IsPartOver kinds (ranges_of kinds params way) part → AllByRecursion (IsFitSite kinds params) (amount_site way n atom part kind)
  fit_amount way n atom part None w h = tt
  fit_amount way n atom part (Some Flag) w h = tt
  fit_amount way n atom part (Some Counter) w h = ((w, h.1), tt)
  fit_amount way n atom part (Some Peak) w h = ((w, h.1), tt)

  fit_amounts : (way : Way) (n atom : ℕ) (parts : List Part) → IsFitWay kinds params way → AllByRecursion (IsPartOver kinds (ranges_of kinds params way)) parts → AllByRecursion (IsFitSite kinds params) (amount_sites kinds way n atom parts)
  fit_amounts way n atom [] w h = tt
  fit_amounts way n atom (part ∷ parts) w h =
      all-append (IsFitSite kinds params) (amount_site way n atom part (slice_get kinds part.cell)) (amount_sites kinds way n (atom + 1) parts)
      (fit_amount way n atom part (slice_get kinds part.cell) w h.0) (fit_amounts way n (atom + 1) parts w h.1)

  pub fit_sites : (guards : ℕ) (body : Body) (way : Way) → IsFitBody (record { kinds = kinds; guards = guards; params = params }) (slots_of way) body → IsFitWay kinds params way → AllByRecursion (IsFitSite kinds params) (sites kinds body way)
  fit_sites guards (Query n guard slot next) way h w = fit_sites guards next (Asks guard slot ∷ way) h.1 w
  fit_sites guards (Issue n parts next) way h w =
      all-append (IsFitSite kinds params) (amount_sites kinds way n 1 parts) (record { way = way; number = n; ending = After parts } ∷ sites kinds next (Puts parts ∷ way))
      (fit_amounts way n 1 parts w h.0.1) ((w, h.0.1), fit_sites guards next (Puts parts ∷ way) h.1 (h.0.1, w))
  fit_sites guards (Release n next) way h w = fit_sites guards next (Frees ∷ way) h w
  fit_sites guards (Branch n test first second) way h w =
      all-append (IsFitSite kinds params) (sites kinds first (Tests test true ∷ way)) (sites kinds second (Tests test false ∷ way))
      (fit_sites guards first (Tests test true ∷ way) h.1 (h.0, w)) (fit_sites guards second (Tests test false ∷ way) h.2 (h.0, w))
  fit_sites guards (Return n value) way h w = ((w, h), tt)

-- ---- the same numbers

-- so many variables from this one on have the same numbers
abbrev pub SameFrom : (ℕ → ℤ) → (ℕ → ℤ) → ℕ → ℕ → Type 0
SameFrom f g first count = (i : ℕ) → i < count → f (first + i) ≡ g (first + i)

-- so have the stores of the queries on the way, and of the rounds with a query that are over
abbrev pub SameAlong : ℕ → (ℕ → ℤ) → (ℕ → ℤ) → Way → Type 0
SameAlong cells f g [] = Unit {0}
SameAlong cells f g (Asks guard slot ∷ way) = SameFrom f g (query_variable slot 0) cells × SameAlong cells f g way
SameAlong cells f g (Puts parts ∷ way) = (has_query way ≡ true → SameFrom f g (round_variable (rounds_of way) 0) cells) × SameAlong cells f g way
SameAlong cells f g (Frees ∷ way) = (has_query way ≡ true → SameFrom f g (round_variable (rounds_of way) 0) cells) × SameAlong cells f g way
SameAlong cells f g (Tests test side ∷ way) = SameAlong cells f g way

either-as : {X : Type 0} (b : Bool) (x y x' y' : X) → (b ≡ true → x ≡ x') → y ≡ y' → (if b then x else y) ≡ (if b then x' else y')
either-as true x y x' y' h k = h refl
either-as false x y x' y' h k = k

module _ (f g : ℕ → ℤ) where
  store_at-as : (kinds : List CellKind) (base : ℕ) → SameFrom f g base (length kinds) → store_at kinds base f ≡ store_at kinds base g
  store_at-as [] base h = refl
  store_at-as (kind ∷ kinds) base h =
      let first : f base ≡ g base = ap f (omega arith) ∙ h zero (omega arith) ∙ ap g (omega arith)
      in let more : store_at kinds (base + 1) f ≡ store_at kinds (base + 1) g = store_at-as kinds (base + 1) (λ i lt. ap f (omega arith) ∙ h (suc i) (omega arith) ∙ ap g (omega arith))
      in ap (λ (z : ℤ). value_of kind z ∷ store_at kinds (base + 1) f) first ∙ ap (λ (zs : List CellValue). value_of kind (g base) ∷ zs) more

  args_from-as : (param n : ℕ) → ((i : ℕ) → i < n → f (32 + (param + i)) ≡ g (32 + (param + i))) → args_from param n f ≡ args_from param n g
  args_from-as param zero h = refl
  args_from-as param (suc n) h =
      let first : f (param_variable param) ≡ g (param_variable param) = ap f (omega arith) ∙ h zero (omega arith) ∙ ap g (omega arith)
      in let more : args_from (param + 1) n f ≡ args_from (param + 1) n g = args_from-as (param + 1) n (λ i lt. ap f (omega arith) ∙ h (suc i) (omega arith) ∙ ap g (omega arith))
      in ap (λ (z : ℤ). z ∷ args_from (param + 1) n f) first ∙ ap (λ (zs : List ℤ). g (param_variable param) ∷ zs) more

  -- in a range of variables
  ranged : (first count v : ℕ) → SameFrom f g first count → (first ≤ v) × (v < first + count) → f v ≡ g v
  ranged first count v h among = ap f (omega (arith, among.0)) ∙ h (v - first) (omega (arith, among.0, among.1)) ∙ ap g (omega (arith, among.0))

  agree_slots : (cells : ℕ) (way : Way) → SameAlong cells f g way → (v : ℕ) → IsAmong (map (λ slot. (query_variable slot 0, cells)) (slots_of way)) v → f v ≡ g v
  agree_slots cells [] h v among = absurd among
  agree_slots cells (Asks guard slot ∷ way) h v (inl here) = ranged (query_variable slot 0) cells v h.0 here
  agree_slots cells (Asks guard slot ∷ way) h v (inr more) = agree_slots cells way h.1 v more
  agree_slots cells (Puts parts ∷ way) h v among = agree_slots cells way h.1 v among
  agree_slots cells (Frees ∷ way) h v among = agree_slots cells way h.1 v among
  agree_slots cells (Tests test side ∷ way) h v among = agree_slots cells way h v among

-- ---- along a way

module _ (kinds : List CellKind) (params : ℕ) (f g : ℕ → ℤ) (same_params : SameFrom f g 32 params) where
  agree_along : (way : Way) → SameAlong (length kinds) f g way → AgreeOn (ranges_of kinds params way) f g
  agree_along way h v (inl here) = ranged f g 32 params v same_params here
  agree_along way h v (inr more) = agree_slots f g (length kinds) way h v more

  marks_as : (way : Way) → IsFitWay kinds params way → SameAlong (length kinds) f g way → marks_at kinds way f ≡ marks_at kinds way g
  marks_as [] w h = refl
  marks_as (Asks guard slot ∷ way) w h =
      ap (λ (ms : List Mark). ms ++ Asked guard (store_at kinds (query_variable slot 0) f) ∷ []) (marks_as way w h.1)
      ∙ ap (λ (store : List CellValue). marks_at kinds way g ++ Asked guard store ∷ []) (store_at-as f g kinds (query_variable slot 0) h.0)
  marks_as (Puts parts ∷ way) w h =
      ap (λ (ms : List Mark). ms ++ Issued (effect_of kinds parts f) ∷ []) (marks_as way w.1 h.1)
      ∙ ap (λ (effect : List Atom). marks_at kinds way g ++ Issued effect ∷ []) (effect_of-same (ranges_of kinds params way) f g (agree_along way h.1) kinds parts w.0)
  marks_as (Frees ∷ way) w h = ap (λ (ms : List Mark). ms ++ Released ∷ []) (marks_as way w h.1)
  marks_as (Tests test side ∷ way) w h = marks_as way w.1 h

  closed_as : (way : Way) (current other : List CellValue) → current ≡ other → (has_query way ≡ true → SameFrom f g (round_variable (rounds_of way) 0) (length kinds)) → closed_at kinds way f current ≡ closed_at kinds way g other
  closed_as way current other e h = either-as (has_query way) (open_at kinds way f) current (open_at kinds way g) other (λ asked. store_at-as f g kinds (round_variable (rounds_of way) 0) (h asked)) e

  ended_as : (way : Way) (current other : List CellValue) → current ≡ other → SameAlong (length kinds) f g way → ended_at kinds way f current ≡ ended_at kinds way g other
  ended_as [] current other e h = refl
  ended_as (Asks guard slot ∷ way) current other e h = ended_as way current other e h.1
  ended_as (Puts parts ∷ way) current other e h =
      ap (λ (es : List (List CellValue)). es ++ closed_at kinds way f current ∷ []) (ended_as way current other e h.1)
      ∙ ap (λ (c : List CellValue). ended_at kinds way g other ++ c ∷ []) (closed_as way current other e h.0)
  ended_as (Frees ∷ way) current other e h =
      ap (λ (es : List (List CellValue)). es ++ closed_at kinds way f current ∷ []) (ended_as way current other e h.1)
      ∙ ap (λ (c : List CellValue). ended_at kinds way g other ++ c ∷ []) (closed_as way current other e h.0)
  ended_as (Tests test side ∷ way) current other e h = ended_as way current other e h

  tests_as : (way : Way) → IsFitWay kinds params way → SameAlong (length kinds) f g way → TestsGo way f → TestsGo way g
  tests_as [] w h t = tt
  tests_as (Asks guard slot ∷ way) w h t = tests_as way w h.1 t
  tests_as (Puts parts ∷ way) w h t = tests_as way w.1 h.1 t
  tests_as (Frees ∷ way) w h t = tests_as way w h.1 t
  tests_as (Tests test side ∷ way) w h t =
      (sym (truth-same (ranges_of kinds params way) f g (agree_along way h) test w.0.terms) ∙ t.0, tests_as way w.1 h t.1)

-- ---- a breach

reading_as : (p : Rules) (op : OpRules) (args args' : List ℤ) (marks marks' : List Mark) (ended ended' : List (List CellValue)) (current current' : List CellValue) → args ≡ args' → marks ≡ marks' → ended ≡ ended' → current ≡ current' → IsReading p op args marks ended current → IsReading p op args' marks' ended' current'
reading_as p op args args' marks marks' ended ended' current current' a m e c h =
    let one : IsReading p op args' marks ended current = subst (λ (x : List ℤ). IsReading p op x marks ended current) a h
    in let two : IsReading p op args' marks' ended current = subst (λ (x : List Mark). IsReading p op args' x ended current) m one
    in let three : IsReading p op args' marks' ended' current = subst (λ (x : List (List CellValue)). IsReading p op args' marks' x current) e two
    in subst (IsReading p op args' marks' ended') c three

module _ (p : Rules) (op : OpRules) (way : Way) (f g : ℕ → ℤ) (same_params : SameFrom f g 32 (length op.params)) (along : SameAlong (length p.shape) f g way) (here : SameFrom f g (round_variable (rounds_of way) 0) (length p.shape)) where
  agree : AgreeOn (ranges_of p.shape (length op.params) way) f g
  agree = agree_along p.shape (length op.params) f g same_params way along

  args_as : args_at (length op.params) f ≡ args_at (length op.params) g
  args_as = args_from-as f g 0 (length op.params) (λ i lt. ap f (omega arith) ∙ same_params i lt ∙ ap g (omega arith))

  open_as : open_at p.shape way f ≡ open_at p.shape way g
  open_as = store_at-as f g p.shape (round_variable (rounds_of way) 0) here

  along_as : IsFitWay p.shape (length op.params) way → IsReadingAlong p op way f → IsReadingAlong p op way g
  along_as w r = record {
    reading = reading_as p op _ _ _ _ _ _ _ _ args_as (marks_as p.shape (length op.params) f g same_params way w along) (ended_as p.shape (length op.params) f g same_params way _ _ open_as along) open_as r.reading;
    tests = tests_as p.shape (length op.params) f g same_params way w along r.tests;
  }

  after_as : (parts : List Part) → AllByRecursion (IsPartOver p.shape (ranges_of p.shape (length op.params) way)) parts → after_at p.shape way parts f ≡ after_at p.shape way parts g
  after_as parts over =
      ap (λ (effect : List Atom). apply p.shape effect (open_at p.shape way f)) (effect_of-same (ranges_of p.shape (length op.params) way) f g agree p.shape parts over)
      ∙ ap (λ (store : List CellValue). apply p.shape (effect_of p.shape parts g) store) open_as

  breaks_as : (ending : Ending) → IsFitEnding p.shape (length op.params) way ending → HasTies p.shape way ending g → Breaks p op way ending f → Breaks p op way ending g
  breaks_as (Amount atom kind part) fit ties b = λ fits. b (subst (IsAmount kind) (sym (value_at-same (ranges_of p.shape (length op.params) way) f g agree part.amount fit)) fits)
  breaks_as (After parts) fit ties b = (ties, subst (λ (store : List CellValue). truth p.invariant (number_in store) ≡ false) (after_as parts fit) b.1)
  breaks_as (Gives value) fit ties b =
      let given : truth op.result (set_at result_variable (value_at value g) (number_of_args (args_at (length op.params) f))) ≡ false =
      subst (λ (z : ℤ). truth op.result (set_at result_variable z (number_of_args (args_at (length op.params) f))) ≡ false) (value_at-same (ranges_of p.shape (length op.params) way) f g agree value fit) b
      in subst (λ (args : List ℤ). truth op.result (set_at result_variable (value_at value g) (number_of_args args)) ≡ false) args_as given

pub breach_as : (p : Rules) (op : OpRules) (site : Site) (f g : ℕ → ℤ) → IsFitSite p.shape (length op.params) site → SameFrom f g 32 (length op.params) → SameAlong (length p.shape) f g site.way → SameFrom f g (round_variable (rounds_of site.way) 0) (length p.shape) → HasTies p.shape site.way site.ending g → IsBreach p op site f → IsBreach p op site g
breach_as p op site f g fit same_params along here ties breach = record {
  reading = along_as p op site.way f g same_params along here fit.0 breach.reading;
  breaks = breaks_as p op site.way f g same_params along here site.ending fit.1 ties breach.breaks;
}
