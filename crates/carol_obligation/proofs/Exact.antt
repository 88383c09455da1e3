-- The formula of each place of an operation is false of exactly the breaches there.
use Rattle.std.proofs.Common.{ℕ, ◌+◌, true, false, List, [], ◌∷◌, length}
use Rattle.std.specs.Prelude.{ℤ, Option, Some, None, slice_get}
use Rattle.std.specs.List.{AllByRecursion}
use Rattle.carol_store.specs.declared.shape.CellKind.{CellKind}
use Rattle.carol_store.specs.declared.shape.CellKind.TheVariants.{Counter, Peak, Flag}
use Rattle.carol_formula.specs.Claim.{truth}
use Rattle.carol_formula.specs.Linear.{Linear}
use Rattle.carol_formula.specs.Value.{value_at, set_at}
use Rattle.carol_program.specs.declared.steps.Part.{Part}
use Rattle.carol_program.specs.Bodies.{Body, Query, Issue, Release, Branch, Return}
use Rattle.carol_program.specs.Rules.{Rules, OpRules}
use Rattle.carol_program.specs.Variables.{invariant_variables, number_in, number_of_args, result_variable}
use Rattle.carol_program.specs.WellFormed.{AreRules, IsOpOver, AreParts, IsFitBody, setting_of}
use Rattle.carol_obligation.specs.Ways.{Way, Puts, Tests, rounds_of}
use Rattle.carol_obligation.specs.Sites.{Ending, Amount, After, Gives, Site, amount_site, amount_sites, sites}
use Rattle.carol_obligation.specs.Decoded.{args_at}
use Rattle.carol_obligation.specs.Breaches.{after_at, Breaks, IsReadingAlong}
use Rattle.carol_obligation.specs.Formed.{after_name, with_round, known_along, broken}
use Rattle.carol_obligation.proofs.Each.{all-append}
use Rattle.carol_obligation.proofs.Parts.{each-found}
use Rattle.carol_obligation.proofs.Seen.{slots_of, ranges_of}
use Rattle.carol_obligation.specs.TruthLaw.{IsExact, FormulasAreExact}
use Rattle.carol_obligation.proofs.Equivalences.{chain}
use Rattle.carol_obligation.proofs.TruthForms.{denied, Says, says-so, says-and, says-then, says-not}
use Rattle.carol_obligation.proofs.Numbers.{truth-named, truth-result}
use Rattle.carol_obligation.proofs.KnownLaws.{says-round, says-known}
use Rattle.carol_obligation.proofs.Follows.{Follows, follows_start, follows_query, follows_issue, follows_release, follows_side}
use Rattle.carol_obligation.proofs.Readings.{known-reading}
use Rattle.carol_obligation.proofs.Effects.{after-agrees}
use Rattle.carol_obligation.proofs.OwedLaws.{says-too_large, says-ties}

module _ (p : Rules) (op : OpRules) (rules : AreRules p) (over : IsOpOver p.shape (length p.guards) op) where
  abbrev AreExact : List Site → Type 0
  AreExact places = AllByRecursion (IsExact p op) places

  abbrev FollowsTo : Way → Body → Type 0
  FollowsTo way body = Follows p.shape (length op.params) op.body way body

  -- ---- a place

  module _ (way : Way) (number : ℕ) (body : Body) (l : FollowsTo way body) where
    abbrev site_at : Ending → Site
    site_at ending = record { way = way; number = number; ending = ending }

    reading : (f : ℕ → ℤ) → Says (with_round p (rounds_of way) (known_along p op way)) f (IsReadingAlong p op way f)
    reading f = says-so (says-round p rules f (rounds_of way) (says-known p rules f op over.params way)) (known-reading p op way body f l)

    -- a reading that has what is asked not so
    exact-site : (ending : Ending) → ((f : ℕ → ℤ) → Says (broken p op (rounds_of way) ending (with_round p (rounds_of way) (known_along p op way))) f (IsReadingAlong p op way f × Breaks p op way ending f)) → IsExact p op (site_at ending)
    exact-site ending says f = chain (denied (truth (broken p op (rounds_of way) ending (with_round p (rounds_of way) (known_along p op way))) f))
        (chain (says f).is (λ h. record { reading = h.0; breaks = h.1 }, λ b. (b.reading, b.breaks)))

    exact-gives : (value : Linear) → IsExact p op (site_at (Gives value))
    exact-gives value = exact-site (Gives value) (λ f. says-and (reading f)
        (says-not (truth op.result (set_at result_variable (value_at value f) (number_of_args (args_at (length op.params) f)))) (truth-result f p.shape (length op.params) over.few_params value op.result over.result)))

    exact-amount : (atom : ℕ) (part : Part) (kind : Option CellKind) → AreExact (amount_site way number atom part kind)
    exact-amount atom part None = tt
    exact-amount atom part (Some Flag) = tt
    exact-amount atom part (Some Counter) = (exact-site (Amount atom Counter part) (λ f. says-and (reading f) (says-too_large f Counter part.amount)), tt)
    exact-amount atom part (Some Peak) = (exact-site (Amount atom Peak part) (λ f. says-and (reading f) (says-too_large f Peak part.amount)), tt)

    exact-amounts : (atom : ℕ) (parts : List Part) → AreExact (amount_sites p.shape way number atom parts)
    exact-amounts atom [] = tt
    exact-amounts atom (part ∷ parts) = all-append (IsExact p op) (amount_site way number atom part (slice_get p.shape part.cell)) (amount_sites p.shape way number (atom + 1) parts)
        (exact-amount atom part (slice_get p.shape part.cell)) (exact-amounts (atom + 1) parts)

    exact-after : (parts : List Part) → AreParts (setting_of p.shape (length p.guards) op) (slots_of way) parts → IsExact p op (site_at (After parts))
    exact-after parts fit = exact-site (After parts) (λ f. says-so (says-then
        (says-ties f p.shape (ranges_of p.shape (length op.params) way) parts (rounds_of way) parts fit.1 (each-found parts fit.2) (reading f))
        (λ h. says-not (truth p.invariant (number_in (after_at p.shape way parts f)))
        (truth-named f (invariant_variables p.shape) (after_name p.shape parts (rounds_of way)) _ p.invariant (after-agrees p.shape f parts (rounds_of way) h.1) rules.invariant)))
        (λ h. (h.0.0, (h.0.1, h.1)), λ h. ((h.0, h.1.0), h.1.1)))

  -- ---- a body

  exact-body : (body : Body) (way : Way) → IsFitBody (setting_of p.shape (length p.guards) op) (slots_of way) body → FollowsTo way body → AreExact (sites p.shape body way)
  exact-body (Query number guard slot next) way fit l = exact-body next _ fit.1 (follows_query p.shape (length op.params) op.body way number guard slot next l)
  exact-body (Issue number parts next) way fit l = all-append (IsExact p op) (amount_sites p.shape way number 1 parts) _ (exact-amounts way number (Issue number parts next) l 1 parts)
      (exact-after way number (Issue number parts next) l parts fit.0, exact-body next (Puts parts ∷ way) fit.1 (follows_issue p.shape (length op.params) op.body way number parts next fit.0.1 l))
  exact-body (Release number next) way fit l = exact-body next _ fit (follows_release p.shape (length op.params) op.body way number next l)
  exact-body (Branch number test first second) way fit l = all-append (IsExact p op) (sites p.shape first (Tests test true ∷ way)) (sites p.shape second (Tests test false ∷ way))
      (exact-body first (Tests test true ∷ way) fit.1 (follows_side p.shape (length op.params) op.body way true number test first second fit.0 l))
      (exact-body second (Tests test false ∷ way) fit.2 (follows_side p.shape (length op.params) op.body way false number test first second fit.0 l))
  exact-body (Return number value) way fit l = (exact-gives way number (Return number value) l value, tt)

pub formulas_are_exact : FormulasAreExact
formulas_are_exact p op rules over = exact-body p op rules over op.body [] over.body (follows_start p.shape (length op.params) op.body)
