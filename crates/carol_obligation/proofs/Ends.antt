-- What a reading leaves last is as it is asked, where the statement that leaves it has no breach.
use Rattle.std.proofs.Common.{◌≡◌, ℕ, ◌+◌, ◌≤◌, false, true, List, [], ◌∷◌, length, arith, sym, ◌∙◌, ap, subst}
use Rattle.std.specs.Prelude.{ℤ, Some, slice_get, unsigned_abs}
use Rattle.std.specs.List.{AllByRecursion}
use Rattle.std.proofs.Math.Logic.{⊎_elim}
use Rattle.std.proofs.lemmas.Bool.{cases_lt, true_from_ne_false}
use Rattle.carol_store.specs.declared.shape.CellKind.{CellKind}
use Rattle.carol_store.specs.declared.shape.CellKind.TheVariants.{Counter, Peak, Flag}
use Rattle.carol_store.specs.declared.effect.Atom.{Atom}
use Rattle.carol_store.specs.declared.effect.TheConstants.{MOST_AMOUNT, MOST_TARGET}
use Rattle.carol_store.specs.Effects.{AreAtomsOf}
use Rattle.carol_store.specs.Kinds.{CellValue}
use Rattle.carol_store.specs.Stores.{apply}
use Rattle.carol_formula.specs.Claim.{truth}
use Rattle.carol_formula.specs.Linear.{Linear}
use Rattle.carol_formula.specs.Value.{value_at, set_at}
use Rattle.carol_program.specs.declared.steps.Part.{Part}
use Rattle.carol_program.specs.Bodies.{Body, Query, Issue, Release, Return}
use Rattle.carol_program.specs.Rules.{Rules, OpRules}
use Rattle.carol_program.specs.Variables.{number_in, number_of_args, result_variable}
use Rattle.carol_program.specs.WellFormed.{IsDoneTo, IsPartOver}
use Rattle.carol_reading.specs.Marks.{Mark, Asked, Issued, Released, Returned}
use Rattle.carol_reading.specs.Readings.{Reads, effect_of}
use Rattle.carol_reading.specs.Rounds.{IsSound, MeetsInvariant}
use Rattle.carol_obligation.specs.Ways.{Way}
use Rattle.carol_obligation.specs.Sites.{amount_site, amount_sites}
use Rattle.carol_obligation.specs.Decoded.{args_at}
use Rattle.carol_obligation.specs.Breaches.{IsReadingAlong, AreTied, after_at}
use Rattle.carol_obligation.specs.GoodLaw.{HasNoBreach}
use Rattle.carol_obligation.proofs.Agreeing.{value_at-same, effect_of-same}
use Rattle.carol_obligation.proofs.Each.{all-first, all-second}
use Rattle.carol_obligation.proofs.Parts.{done-within}
use Rattle.carol_obligation.proofs.Amounts.{IsFine, done-kind, amount-at_kind, effect-fine}
use Rattle.carol_obligation.proofs.Going.{Stands, issue-amounts, issue-after, Course, Goes, Promise, goes-itself, reading-along}
use Rattle.carol_obligation.proofs.Seen.{seen, seen-same, ranges_of}
use Rattle.carol_obligation.proofs.Settling.{with_cells, cells-keep, cells-at}

-- what is asked of a mark that is left last
abbrev pub IsAsAsked : {p : Rules} {op : OpRules} → Course p op → Mark → Type 0
IsAsAsked c (Asked guard store) = Unit {0}
IsAsAsked {p = p} c (Issued effect) = AreAtomsOf p.shape effect × MeetsInvariant p (apply p.shape effect c.current)
IsAsAsked c Released = Unit {0}
IsAsAsked {op = op} c (Returned value) = truth op.result (set_at result_variable value (number_of_args c.args)) ≡ true

-- ---- amounts

not-larger : (n most : ℕ) → ¬ ¬ (n ≤ most) → n ≤ most
not-larger n most h = ⊎_elim (λ lt. absurd (h (λ le. omega (arith, lt, le)))) (λ le. le) (cases_lt most n)

module _ {p : Rules} {op : OpRules} {way : Way} {f : ℕ → ℤ} (along : IsReadingAlong p op way f) (number : ℕ) where
  fine-kind : (atom : ℕ) (part : Part) (kind : CellKind) → slice_get p.shape part.cell ≡ Some kind → IsDoneTo kind part.amount → AllByRecursion (HasNoBreach p op) (amount_site way number atom part (Some kind)) → IsFine p.shape f part
  fine-kind atom part Counter e done safe = amount-at_kind p.shape part.cell Counter (value_at part.amount f) e (not-larger (unsigned_abs (value_at part.amount f)) MOST_AMOUNT (λ larger. safe.0 f (record { reading = along; breaks = larger })))
  fine-kind atom part Peak e done safe = amount-at_kind p.shape part.cell Peak (value_at part.amount f) e (not-larger (unsigned_abs (value_at part.amount f)) MOST_TARGET (λ larger. safe.0 f (record { reading = along; breaks = larger })))
  fine-kind atom part Flag e done safe = amount-at_kind p.shape part.cell Flag (value_at part.amount f) e (ap (λ (t : Linear). value_at t f) done)

  fine-parts : (ranges : List (ℕ × ℕ)) (atom : ℕ) (parts : List Part) → AllByRecursion (IsPartOver p.shape ranges) parts → AllByRecursion (HasNoBreach p op) (amount_sites p.shape way number atom parts) → AllByRecursion (IsFine p.shape f) parts
  fine-parts ranges atom [] over safe = tt
  fine-parts ranges atom (part ∷ parts) over safe =
      let found = done-kind p.shape part.cell part.amount over.0.0 in
      let own = all-first (HasNoBreach p op) (amount_site way number atom part (slice_get p.shape part.cell)) (amount_sites p.shape way number (atom + 1) parts) safe in (
        fine-kind atom part found.0 found.1 found.2 (subst (λ o. AllByRecursion (HasNoBreach p op) (amount_site way number atom part o)) found.1 own),
        fine-parts ranges (atom + 1) parts over.1 (all-second (HasNoBreach p op) (amount_site way number atom part (slice_get p.shape part.cell)) (amount_sites p.shape way number (atom + 1) parts) safe),
      )

all-tied : (kinds : List CellKind) (ranges : List (ℕ × ℕ)) (after : List CellValue) (f : ℕ → ℤ) (parts : List Part) → length kinds ≤ 16 → AllByRecursion (IsPartOver kinds ranges) parts → AreTied kinds after parts (with_cells after f)
all-tied kinds ranges after f [] few over = tt
all-tied kinds ranges after f (part ∷ parts) few over = ((λ _. cells-at after f part.cell (omega (arith, few, done-within kinds part.cell part.amount over.0.0))), all-tied kinds ranges after f parts few over.1)

-- what the effect of an issue is that the body reads, among numbers that it sees
pub effect-is : (p : Rules) (op : OpRules) (way : Way) (f : ℕ → ℤ) (parts : List Part) {e : List Atom} → AllByRecursion (IsPartOver p.shape (ranges_of p.shape (length op.params) way)) parts → e ≡ effect_of p.shape parts (seen p.shape (length op.params) way f) → effect_of p.shape parts f ≡ e
effect-is p op way f parts over is = sym (is ∙ effect_of-same (ranges_of p.shape (length op.params) way) (seen p.shape (length op.params) way f) f (seen-same p.shape (length op.params) f way) p.shape parts over)

-- ---- the last statement

-- nothing is asked of a query, nor of a release
pub query-last : {p : Rules} {op : OpRules} (c : Course p op) (mark : Mark) (number guard slot : ℕ) (next : Body) (f : ℕ → ℤ) → Reads p.shape (Query number guard slot next) f (mark ∷ []) → IsAsAsked c mark
query-last c (Asked n x) number guard slot next f r = tt
query-last c _ number guard slot next f r = absurd r

pub release-last : {p : Rules} {op : OpRules} (c : Course p op) (mark : Mark) (number : ℕ) (next : Body) (f : ℕ → ℤ) → Reads p.shape (Release number next) f (mark ∷ []) → IsAsAsked c mark
release-last c Released number next f r = tt
release-last c _ number next f r = absurd r

module _ {p : Rules} {op : OpRules} {c : Course p op} {way : Way} {low number : ℕ} {f : ℕ → ℤ} (sound : IsSound p c.current) (promise : Promise c way low [] [] f) where
  module _ {parts : List Part} {next : Body} (s : Stands p op way low (Issue number parts next)) where
    issued-last : (e : List Atom) → ((g : ℕ → ℤ) → Goes c way [] [] g → effect_of p.shape parts g ≡ e) → IsAsAsked c (Issued e)
    issued-last e same = (
      subst (AreAtomsOf p.shape) (same f (goes-itself promise)) (effect-fine p.shape f parts (fine-parts (reading-along sound (goes-itself promise)) number (ranges_of p.shape (length op.params) way) 1 parts s.fit.0.1 (issue-amounts s))),
      true_from_ne_false (truth p.invariant (number_in after)) (λ h. (issue-after s).0 g (record {
        reading = reading-along sound goes;
        breaks = (
          subst (λ a. AreTied p.shape a parts g) after-is (all-tied p.shape (ranges_of p.shape (length op.params) way) after f parts c.rules.few_cells s.fit.0.1),
          subst (λ a. truth p.invariant (number_in a) ≡ false) after-is h,
        );
      })),
    )
      where
        -- the cells' own variables have the numbers after the effect, so that raised peaks are tied
        after : List CellValue
        after = apply p.shape e c.current

        g : ℕ → ℤ
        g = with_cells after f

        goes : Goes c way [] [] g
        goes = promise.goes g (cells-keep after f)

        after-is : after ≡ after_at p.shape way parts g
        after-is = ap (λ (d : List Atom). apply p.shape d c.current) (sym (same g goes)) ∙ ap (apply p.shape (effect_of p.shape parts g)) (sym goes.own)

    pub issue-last : (mark : Mark) → ((g : ℕ → ℤ) → Goes c way [] [] g → Reads p.shape (Issue number parts next) (seen p.shape (length op.params) way g) (mark ∷ [])) → IsAsAsked c mark
    issue-last (Issued e) reads = issued-last e (λ g goes. effect-is p op way g parts s.fit.0.1 (reads g goes).0)
    issue-last _ reads = absurd (reads f (goes-itself promise))

  module _ {value : Linear} (s : Stands p op way low (Return number value)) where
    returned-last : (v : ℤ) → v ≡ value_at value f → IsAsAsked c (Returned v)
    returned-last v is = true_from_ne_false (truth op.result (set_at result_variable v (number_of_args c.args))) (λ h. s.safe.0 f (record {
      reading = reading-along sound (goes-itself promise);
      breaks = subst (λ (z : ℤ). truth op.result (set_at result_variable z (number_of_args (args_at (length op.params) f))) ≡ false) is
          (subst (λ xs. truth op.result (set_at result_variable v (number_of_args xs)) ≡ false) (sym (goes-itself promise).args) h);
    }))

    pub return-last : (mark : Mark) → Reads p.shape (Return number value) (seen p.shape (length op.params) way f) (mark ∷ []) → IsAsAsked c mark
    return-last (Returned v) r = returned-last v (r ∙ value_at-same (ranges_of p.shape (length op.params) way) (seen p.shape (length op.params) way f) f (seen-same p.shape (length op.params) f way) value s.fit)
    return-last _ r = absurd r
