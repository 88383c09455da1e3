-- One guard after another, with the entries of its steps.
use Rattle.std.proofs.Common.{◌≡◌, ℕ, zero, suc, ◌+◌, ◌*◌, inl, inr, List, [], ◌∷◌, ◌++◌, length, arith, refl, sym, ◌∙◌, ap, subst, append_assoc, append-nil, length-append}
use Rattle.std.specs.Prelude.{map, Some, slice_get}
use Rattle.std.specs.List.{AllByRecursion}
use Rattle.std.proofs.lemmas.Bool.{false≢true}
use Rattle.carol_store.specs.declared.direction.Direction.{Direction}
use Rattle.carol_formula.specs.Claim.{Claim}
use Rattle.carol_formula.specs.Numbers.{number_at}
use Rattle.carol_program.specs.declared.accords.Entry.{Entry}
use Rattle.carol_program.specs.declared.accords.Entry.TheVariants.{Yes, No}
use Rattle.carol_program.specs.declared.places.Place.TheVariants.{Initial, Reflexive, Accord, Amount, Invariant, Outcome}
use Rattle.carol_program.specs.declared.program.Guard.{Guard}
use Rattle.carol_program.specs.Accords.{Accords, HasWay, row_length, place_of}
use Rattle.carol_program.specs.Preserving.{Preserves, IsRight}
use Rattle.carol_program.specs.Rules.{Rules, guard_claim}
use Rattle.carol_program.specs.Variables.{guard_variables}
use Rattle.carol_program.specs.WellFormed.{AreRules, IsFormulaOver}
use Rattle.carol_reading.specs.Good.{IsReflexive}
use Rattle.carol_accord.specs.declared.error.AccordError.{AccordError}
use Rattle.carol_accord.specs.declared.error.AccordError.TheVariants.{NotReflexive, Undecided, NoMemory}
use Rattle.carol_accord.specs.Inferred.{IsSettled, IsDecided, ComesTo, ComesToStep, IsStepReason, step_of, steps_of, FailsReflexive, StaysUndecided, HasWitnesses}
use Rattle.carol_accord.specs.Parts.{IsGuard, IsEntry, AreEntries, IsAccord, AreAll, StopsStep, Stops}
use Rattle.carol_accord.proofs.Listed.{all-at, length-steps, step-place}

-- ---- lists

all-snoc : {A : Type 0} (P : A → Type 0) (xs : List A) (y : A) → AllByRecursion P xs → P y → AllByRecursion P (xs ++ y ∷ [])
all-snoc P [] y h k = (k, tt)
all-snoc P (x ∷ xs) y h k = (h.0, all-snoc P xs y h.1 k)

found-left : {A : Type 0} (xs ys : List A) (i : ℕ) (x : A) → slice_get xs i ≡ Some x → slice_get (xs ++ ys) i ≡ Some x
found-left [] ys i x h = cc
found-left (z ∷ xs) ys zero x h = h
found-left (z ∷ xs) ys (suc i) x h = found-left xs ys i x h

found-right : {A : Type 0} (xs ys : List A) (n i : ℕ) → n ≡ length xs + i → slice_get (xs ++ ys) n ≡ slice_get ys i
found-right [] ys n i e = ap (slice_get ys) (omega arith)
found-right (z ∷ xs) ys zero i e = absurd (omega arith)
found-right (z ∷ xs) ys (suc n) i e = found-right xs ys n i (omega arith)

split-more : {A : Type 0} (xs ys : List A) (left : List A) (y : A) (whole : List A) → whole ≡ xs ++ left → left ≡ y ∷ ys → whole ≡ (xs ++ y ∷ []) ++ ys
split-more xs ys left y whole e f = e ∙ ap (λ (zs : List _). xs ++ zs) f ∙ sym (append_assoc xs (y ∷ []) ys)

-- ---- the entries of one guard

module _ (p : Rules) (guard : Claim) where
  pub record Deciding (left : List Direction) (entries : List Entry) : Type 0 where
    pub reflexive : IsReflexive p guard
    pub earlier : List Direction
    pub whole : steps_of p.shape ≡ earlier ++ left
    pub right : AreEntries p.shape guard earlier entries

  entries-snoc : (steps : List Direction) (entries : List Entry) (step : Direction) (entry : Entry) → AreEntries p.shape guard steps entries → IsEntry p.shape guard step entry → AreEntries p.shape guard (steps ++ step ∷ []) (entries ++ entry ∷ [])
  entries-snoc [] [] step entry h k = (k, tt)
  entries-snoc [] (e ∷ es) step entry h k = absurd h
  entries-snoc (d ∷ ds) [] step entry h k = absurd h
  entries-snoc (d ∷ ds) (e ∷ es) step entry h k = (h.0, entries-snoc ds es step entry h.1 k)

  settled-entry : (step : Direction) (entry : Entry) → IsEntry p.shape guard step entry → IsSettled p.shape guard step
  settled-entry step Yes h = inl h
  settled-entry step (No at) h = inr (number_at at, h)

  settled-entries : (steps : List Direction) (entries : List Entry) → AreEntries p.shape guard steps entries → AllByRecursion (IsSettled p.shape guard) steps
  settled-entries [] entries h = tt
  settled-entries (d ∷ ds) [] h = absurd h
  settled-entries (d ∷ ds) (e ∷ es) h = (settled-entry d e h.0, settled-entries ds es h.1)

  pub deciding_step : {left : List Direction} {entries : List Entry} (step : Direction) (entry : Entry) (more : List Direction) → Deciding left entries → left ≡ step ∷ more → IsEntry p.shape guard step entry → Deciding more (entries ++ entry ∷ [])
  deciding_step {left = left} {entries = entries} step entry more d e h = record {
    reflexive = d.reflexive;
    earlier = d.earlier ++ step ∷ [];
    whole = split-more d.earlier more left step (steps_of p.shape) d.whole e;
    right = entries-snoc d.earlier entries step entry d.right h;
  }

  pub comes_to_step : {left : List Direction} {entries : List Entry} (step : Direction) (more : List Direction) → Deciding left entries → left ≡ step ∷ more → ComesToStep p guard step
  comes_to_step {entries = entries} step more d e = record {
    reflexive = d.reflexive;
    earlier = d.earlier;
    later = more;
    order = d.whole ∙ ap (λ (ds : List Direction). d.earlier ++ ds) e;
    settled = settled-entries d.earlier entries d.right;
  }

  -- ---- what stops the work at the guard

  pub stops_step : (number : ℕ) (step : Direction) (error : AccordError) → ComesToStep p guard step → StopsStep p number guard step error → Stops p number guard error
  stops_step number step NoMemory k h = tt
  stops_step number step (NotReflexive n at) k h = absurd h
  stops_step number step (Undecided (Accord n cell up) why) k h = (
    h.0,
    subst (λ (d : Direction). ComesToStep p guard d) (sym h.1) k,
    subst (λ (d : Direction). IsStepReason p.shape guard d why) (sym h.1) h.2,
  )
  stops_step number step (Undecided Initial why) k h = absurd h
  stops_step number step (Undecided (Reflexive n) why) k h = absurd h
  stops_step number step (Undecided (Amount op n atom) why) k h = absurd h
  stops_step number step (Undecided (Invariant op n) why) k h = absurd h
  stops_step number step (Undecided (Outcome op n) why) k h = absurd h

  pub fails_reflexive : (number : ℕ) (error : AccordError) → ComesTo p number guard → Stops p number guard error → FailsReflexive p error
  fails_reflexive number NoMemory k h = tt
  fails_reflexive number (NotReflexive n at) k h = record { guard = guard; first = subst (λ (m : ℕ). ComesTo p m guard) (sym h.0) k; breaks = h.1 }
  fails_reflexive number (Undecided place why) k h = tt

  pub stays_undecided : (number : ℕ) (error : AccordError) → ComesTo p number guard → Stops p number guard error → StaysUndecided p error
  stays_undecided number NoMemory k h = tt
  stays_undecided number (NotReflexive n at) k h = tt
  stays_undecided number (Undecided (Reflexive n) why) k h = record { guard = guard; first = subst (λ (m : ℕ). ComesTo p m guard) (sym h.0) k; reason = h.1 }
  stays_undecided number (Undecided (Accord n cell up) why) k h = record { guard = guard; first = subst (λ (m : ℕ). ComesTo p m guard) (sym h.0) k; first_step = h.1; reason = h.2 }
  stays_undecided number (Undecided Initial why) k h = absurd h
  stays_undecided number (Undecided (Amount op n atom) why) k h = absurd h
  stays_undecided number (Undecided (Invariant op n) why) k h = absurd h
  stays_undecided number (Undecided (Outcome op n) why) k h = absurd h

  -- ---- its entries in the table

  length-entries : (steps : List Direction) (entries : List Entry) → AreEntries p.shape guard steps entries → length entries ≡ length steps
  length-entries [] [] h = refl
  length-entries [] (e ∷ es) h = absurd h
  length-entries (d ∷ ds) [] h = absurd h
  length-entries (d ∷ ds) (e ∷ es) h = ap suc (length-entries ds es h.1)

  abbrev pub FoundAt : List Entry → ℕ → Direction → Type 0
  FoundAt entries i step = (entry : Entry) × ((slice_get entries i ≡ Some entry) × IsEntry p.shape guard step entry)

  entry-found : (steps : List Direction) (entries : List Entry) (i : ℕ) (step : Direction) → AreEntries p.shape guard steps entries → slice_get steps i ≡ Some step → FoundAt entries i step
  entry-found [] entries i step h at = cc
  entry-found (d ∷ ds) [] i step h at = absurd h
  entry-found (d ∷ ds) (e ∷ es) zero step h at =
      let same : d ≡ step = cc
      in (e, (refl, subst (λ (s : Direction). IsEntry p.shape guard s e) same h.0))
  entry-found (d ∷ ds) (e ∷ es) (suc i) step h at = entry-found ds es i step h.1 at

  own-found : (own : List Entry) → IsAccord p guard own → (step : Direction) → HasWay p.shape step.cell step.up → FoundAt own (place_of p.shape step.cell step.up) step
  own-found own a step w = entry-found (steps_of p.shape) own (place_of p.shape step.cell step.up) step a.entries_are
      (step-place 0 p.shape step.cell step.up w ∙ ap (λ (cell : ℕ). Some (step_of cell step.up)) (omega arith))

  length-own : (own : List Entry) → IsAccord p guard own → length own ≡ row_length p.shape
  length-own own a = length-entries (steps_of p.shape) own a.entries_are ∙ length-steps 0 p.shape

-- ---- all guards

decided-accord : (p : Rules) (guard : Claim) (own : List Entry) → IsAccord p guard own → IsDecided p guard
decided-accord p guard own a = record { reflexive = a.reflexive; steps = settled-entries p guard (steps_of p.shape) own a.entries_are }

module _ (p : Rules) where
  pub record Progress (left : List Guard) (number : ℕ) (entries : List Entry) : Type 0 where
    pub earlier : List Claim
    pub whole : p.guards ≡ earlier ++ map guard_claim left
    pub number_is : length earlier ≡ number
    pub decided : AllByRecursion (IsDecided p) earlier
    pub right : AreAll p earlier entries

  all-more : (guards : List Claim) (entries own : List Entry) (guard : Claim) → AreAll p guards entries → IsAccord p guard own → AreAll p (guards ++ guard ∷ []) (entries ++ own)
  all-more [] entries own guard h a = (own, ([], (ap (λ (es : List Entry). es ++ own) h ∙ sym (append-nil own), a, refl)))
  all-more (g ∷ guards) entries own guard h a =
      let rest = h.1.0
      in let split = h.1.1
      in (h.0, (rest ++ own, (ap (λ (es : List Entry). es ++ own) split.0 ∙ append_assoc h.0 rest own, split.1, all-more guards rest own guard split.2 a)))

  -- the guard that comes next
  at-left : {left : List Guard} {number : ℕ} {entries : List Entry} (guard : Guard) (more : List Guard) → left ≡ guard ∷ more → (d : Progress left number entries) → p.guards ≡ d.earlier ++ guard_claim guard ∷ map guard_claim more
  at-left guard more e d = d.whole ∙ ap (λ (gs : List Guard). d.earlier ++ map guard_claim gs) e

  pub next-guard : AreRules p → {left : List Guard} {number : ℕ} {entries : List Entry} (guard : Guard) (more : List Guard) → Progress left number entries → left ≡ guard ∷ more → IsGuard p.shape (guard_claim guard)
  next-guard rules guard more d e = record {
    few = rules.few_cells;
    over = all-at (IsFormulaOver (guard_variables p.shape)) d.earlier (guard_claim guard) (map guard_claim more) (subst (λ (gs : List Claim). AllByRecursion (IsFormulaOver (guard_variables p.shape)) gs) (at-left guard more e d) rules.guards);
  }

  pub comes_to : {left : List Guard} {number : ℕ} {entries : List Entry} (guard : Guard) (more : List Guard) → Progress left number entries → left ≡ guard ∷ more → ComesTo p number (guard_claim guard)
  comes_to guard more d e = record {
    earlier = d.earlier;
    later = map guard_claim more;
    order = at-left guard more e d;
    number_is = d.number_is;
    decided = d.decided;
  }

  pub progress_step : {left : List Guard} {number : ℕ} {entries : List Entry} (guard : Guard) (more : List Guard) (own : List Entry) → Progress left number entries → left ≡ guard ∷ more → IsAccord p (guard_claim guard) own → Progress more (number + 1) (entries ++ own)
  progress_step {entries = entries} guard more own d e a = record {
    earlier = d.earlier ++ guard_claim guard ∷ [];
    whole = at-left guard more e d ∙ sym (append_assoc d.earlier (guard_claim guard ∷ []) (map guard_claim more));
    number_is = longer d.earlier (guard_claim guard) d.number_is;
    decided = all-snoc (IsDecided p) d.earlier (guard_claim guard) d.decided (decided-accord p (guard_claim guard) own a);
    right = all-more d.earlier entries own (guard_claim guard) d.right a;
  }
    where
      longer : {n : ℕ} (xs : List Claim) (x : Claim) → length xs ≡ n → length (xs ++ x ∷ []) ≡ n + 1
      longer xs x h = omega (arith, length-append xs (x ∷ []))

  -- ---- the table

  pub length-all : (guards : List Claim) (entries : List Entry) → AreAll p guards entries → length entries ≡ length guards * row_length p.shape
  length-all [] entries h = omega (arith, ap length h)
  length-all (g ∷ guards) entries h =
      let split = h.1.1
      in omega (arith, ap length split.0, length-append h.0 h.1.0, length-own p g h.0 split.1, length-all guards h.1.0 split.2)

  all-found : (guards : List Claim) (entries : List Entry) → AreAll p guards entries → (number : ℕ) (guard : Claim) (step : Direction) → slice_get guards number ≡ Some guard → HasWay p.shape step.cell step.up → FoundAt p guard entries (number * row_length p.shape + place_of p.shape step.cell step.up) step
  all-found [] entries h number guard step at w = cc
  all-found (g ∷ guards) entries h zero guard step at w =
      let split = h.1.1
      in let same : g ≡ guard = cc
      in let own = own-found p g h.0 split.1 step w
      in (
        own.0,
        (
          ap (λ (es : List Entry). slice_get es (0 * row_length p.shape + place_of p.shape step.cell step.up)) split.0 ∙ ap (slice_get (h.0 ++ h.1.0)) (omega arith) ∙ found-left h.0 h.1.0 (place_of p.shape step.cell step.up) own.0 own.1.0,
          subst (λ (c : Claim). IsEntry p.shape c step own.0) same own.1.1,
        ),
      )
  all-found (g ∷ guards) entries h (suc number) guard step at w =
      let split = h.1.1
      in let more = all-found guards h.1.0 split.2 number guard step at w
      in (
        more.0,
        (
          ap (λ (es : List Entry). slice_get es (suc number * row_length p.shape + place_of p.shape step.cell step.up)) split.0
              ∙ found-right h.0 h.1.0 (suc number * row_length p.shape + place_of p.shape step.cell step.up) (number * row_length p.shape + place_of p.shape step.cell step.up) (omega (arith, length-own p g h.0 split.1)) ∙ more.1.0,
          more.1.1,
        ),
      )

  pub all-reflexive : (guards : List Claim) (entries : List Entry) → AreAll p guards entries → AllByRecursion (IsReflexive p) guards
  all-reflexive [] entries h = tt
  all-reflexive (g ∷ guards) entries h = (h.1.1.1.reflexive, all-reflexive guards h.1.0 h.1.1.2)

  -- a kept step has the entry Yes
  kept-is-yes : (guard : Claim) (step : Direction) (entry : Entry) → IsEntry p.shape guard step entry → Preserves p.shape guard step → entry ≡ Yes
  kept-is-yes guard step Yes h k = refl
  kept-is-yes guard step (No at) h k = let kept = k.keeps _ _ h.here h.there h.before in absurd (false≢true (sym h.after ∙ kept))

  module _ (entries : List Entry) (count : ℕ) (all : AreAll p p.guards entries) (same : count ≡ length p.guards) where
    abbrev table : Accords
    table = record { kinds = p.shape; guards = count; entries = entries }

    pub is_right : IsRight p table
    is_right = record {
      same_kinds = refl;
      same_guards = same;
      each = λ number guard step at w.
          let found = all-found p.guards entries all number guard step at w
          in (
            λ yes. let is_yes : found.0 ≡ Yes = cc (found.1.0, yes) in subst (λ (e : Entry). IsEntry p.shape guard step e) is_yes found.1.1,
            λ kept. found.1.0 ∙ ap (λ (e : Entry). Some e) (kept-is-yes guard step found.0 found.1.1 kept),
          );
    }

    pub has_witnesses : HasWitnesses p.shape p.guards table
    has_witnesses = record {
      each = λ number guard step at is w no_entry.
          let found = all-found p.guards entries all number guard step is w
          in let is_no : found.0 ≡ No at = cc (found.1.0, no_entry) in subst (λ (e : Entry). IsEntry p.shape guard step e) is_no found.1.1;
    }
