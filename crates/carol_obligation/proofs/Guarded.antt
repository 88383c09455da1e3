-- A good operation has no breach.
use Rattle.std.proofs.Common.{◌≡◌, ℕ, ◌+◌, true, false, List, [], ◌∷◌, length, append-nil, refl, sym, subst}
use Rattle.std.specs.Prelude.{ℤ, Option, Some, None, slice_get}
use Rattle.std.specs.List.{AllByRecursion}
use Rattle.std.proofs.lemmas.Bool.{both_ways}
use Rattle.carol_store.specs.declared.shape.CellKind.{CellKind}
use Rattle.carol_store.specs.declared.shape.CellKind.TheVariants.{Counter, Peak, Flag}
use Rattle.carol_store.specs.Effects.{AreAtomsOf}
use Rattle.carol_formula.specs.Linear.{Linear}
use Rattle.carol_formula.specs.Value.{value_at}
use Rattle.carol_program.specs.declared.steps.Part.{Part}
use Rattle.carol_program.specs.Bodies.{Body, Query, Issue, Release, Branch, Return}
use Rattle.carol_program.specs.Rules.{Rules, OpRules}
use Rattle.carol_program.specs.Variables.{number_of_args}
use Rattle.carol_program.specs.WellFormed.{AreParts, IsFitBody, IsOpOver, IsTermOver, setting_of}
use Rattle.carol_reading.specs.Good.{IsGood, MayLeave}
use Rattle.carol_reading.specs.Marks.{Mark, Issued, Returned}
use Rattle.carol_reading.specs.Readings.{Reads, effect_of}
use Rattle.carol_reading.proofs.Following.{stops}
use Rattle.carol_obligation.specs.Ways.{Way, Asks, Puts, Frees, Tests}
use Rattle.carol_obligation.specs.Sites.{After, Gives, Site, amount_site, amount_sites, sites}
use Rattle.carol_obligation.specs.Decoded.{args_at, marks_at}
use Rattle.carol_obligation.specs.Breaches.{IsReadingAlong}
use Rattle.carol_obligation.specs.Places.{sites_of}
use Rattle.carol_obligation.specs.GoodLaw.{HasNoBreach}
use Rattle.carol_obligation.proofs.Agreeing.{value_at-same, effect_of-same}
use Rattle.carol_obligation.proofs.Seen.{seen, seen-same, slots_of, ranges_of}
use Rattle.carol_obligation.proofs.Follows.{Follows, follows_start, follows_query, follows_issue, follows_release, follows_side}
use Rattle.carol_obligation.proofs.Each.{all-append}
use Rattle.carol_obligation.proofs.Amounts.{IsFine, amount-of_kind, parts-fine}

module _ (p : Rules) (op : OpRules) (good : IsGood p op) where
  abbrev AreSafe : List Site → Type 0
  AreSafe places = AllByRecursion (HasNoBreach p op) places

  abbrev FollowsTo : Way → Body → Type 0
  FollowsTo way body = Follows p.shape (length op.params) op.body way body

  abbrev seen_at : Way → (ℕ → ℤ) → ℕ → ℤ
  seen_at way f = seen p.shape (length op.params) way f

  abbrev ranges : Way → List (ℕ × ℕ)
  ranges way = ranges_of p.shape (length op.params) way

  may-leave : (way : Way) (body : Body) (f : ℕ → ℤ) (mark : Mark) → FollowsTo way body → IsReadingAlong p op way f → Reads p.shape body (seen_at way f) (mark ∷ []) → MayLeave p op (args_at (length op.params) f) (marks_at p.shape way f) mark
  may-leave way body f mark l r reads = (l.reads f (mark ∷ []) r.tests).1 (((l.reads f [] r.tests).0 (subst (Reads p.shape op.body (number_of_args (args_at (length op.params) f))) (sym (append-nil (marks_at p.shape way f))) r.reading.reads)).0, reads)

  -- ---- an issue

  module _ (way : Way) (number : ℕ) (parts : List Part) (next : Body) (fit : AreParts (setting_of p.shape (length p.guards) op) (slots_of way) parts) (l : FollowsTo way (Issue number parts next)) where
    may-issue : (f : ℕ → ℤ) → IsReadingAlong p op way f → MayLeave p op (args_at (length op.params) f) (marks_at p.shape way f) (Issued (effect_of p.shape parts f))
    may-issue f r = may-leave way (Issue number parts next) f (Issued (effect_of p.shape parts f)) l r
        (sym (effect_of-same (ranges way) (seen_at way f) f (seen-same p.shape (length op.params) f way) p.shape parts fit.1), stops p.shape next (seen_at way f))

    fits-along : (f : ℕ → ℤ) → IsReadingAlong p op way f → AreAtomsOf p.shape (effect_of p.shape parts f)
    fits-along f r = good.fits _ _ _ _ _ r.reading (may-issue f r)

    after-safe : HasNoBreach p op (record { way = way; number = number; ending = After parts })
    after-safe f b = both_ways _ b.breaks.1 (good.keeps _ _ _ _ _ b.reading.reading (may-issue f b.reading))

    one-safe : (atom : ℕ) (part : Part) (kind : Option CellKind) → slice_get p.shape part.cell ≡ kind → ((f : ℕ → ℤ) → IsReadingAlong p op way f → IsFine p.shape f part) → AreSafe (amount_site way number atom part kind)
    one-safe atom part None e fine = tt
    one-safe atom part (Some Flag) e fine = tt
    one-safe atom part (Some Counter) e fine = ((λ f b. b.breaks (amount-of_kind p.shape part.cell Counter (value_at part.amount f) e (fine f b.reading))), tt)
    one-safe atom part (Some Peak) e fine = ((λ f b. b.breaks (amount-of_kind p.shape part.cell Peak (value_at part.amount f) e (fine f b.reading))), tt)

    amounts-safe : (atom : ℕ) (ps : List Part) → AllByRecursion (λ part. (f : ℕ → ℤ) → AreAtomsOf p.shape (effect_of p.shape parts f) → IsFine p.shape f part) ps → AreSafe (amount_sites p.shape way number atom ps)
    amounts-safe atom [] h = tt
    amounts-safe atom (part ∷ ps) h = all-append (HasNoBreach p op) (amount_site way number atom part (slice_get p.shape part.cell)) (amount_sites p.shape way number (atom + 1) ps)
        (one-safe atom part (slice_get p.shape part.cell) refl (λ f r. h.0 f (fits-along f r)))
        (amounts-safe (atom + 1) ps h.1)

    issue-safe : AreSafe (sites p.shape next (Puts parts ∷ way)) → AreSafe (sites p.shape (Issue number parts next) way)
    issue-safe rest = all-append (HasNoBreach p op) (amount_sites p.shape way number 1 parts) _ (amounts-safe 1 parts (parts-fine p.shape (ranges way) parts fit.1 fit.2)) (after-safe, rest)

  -- ---- a body

  gives-safe : (way : Way) (number : ℕ) (value : Linear) → IsTermOver (ranges way) value → FollowsTo way (Return number value) → HasNoBreach p op (record { way = way; number = number; ending = Gives value })
  gives-safe way number value fit l f b = both_ways _ b.breaks (good.answers _ _ _ _ _ b.reading.reading
      (may-leave way (Return number value) f (Returned (value_at value f)) l b.reading (sym (value_at-same (ranges way) (seen_at way f) f (seen-same p.shape (length op.params) f way) value fit))))

  body-safe : (body : Body) (way : Way) → IsFitBody (setting_of p.shape (length p.guards) op) (slots_of way) body → FollowsTo way body → AreSafe (sites p.shape body way)
  body-safe (Query number guard slot next) way fit l = body-safe next (Asks guard slot ∷ way) fit.1 (follows_query p.shape (length op.params) op.body way number guard slot next l)
  body-safe (Issue number parts next) way fit l = issue-safe way number parts next fit.0 l (body-safe next (Puts parts ∷ way) fit.1 (follows_issue p.shape (length op.params) op.body way number parts next fit.0.1 l))
  body-safe (Release number next) way fit l = body-safe next (Frees ∷ way) fit (follows_release p.shape (length op.params) op.body way number next l)
  body-safe (Branch number test first second) way fit l = all-append (HasNoBreach p op) (sites p.shape first (Tests test true ∷ way)) (sites p.shape second (Tests test false ∷ way))
      (body-safe first (Tests test true ∷ way) fit.1 (follows_side p.shape (length op.params) op.body way true number test first second fit.0 l))
      (body-safe second (Tests test false ∷ way) fit.2 (follows_side p.shape (length op.params) op.body way false number test first second fit.0 l))
  body-safe (Return number value) way fit l = (gives-safe way number value fit l, tt)

  pub good-safe : IsOpOver p.shape (length p.guards) op → AllByRecursion (HasNoBreach p op) (sites_of p op)
  good-safe h = body-safe op.body [] h.body (follows_start p.shape (length op.params) op.body)
