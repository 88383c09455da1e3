-- A body that stands behind a way: the whole body reads the marks of the way and others exactly where
-- the stores on the way are ones of the shape, and this body reads the others.
use Rattle.std.proofs.Common.{◌≡◌, ℕ, Bool, true, false, List, [], ◌∷◌, ◌++◌, refl, sym, subst}
use Rattle.std.specs.Prelude.{◌↔◌, ℤ, if◌then◌else◌, MatchBool}
use Rattle.std.proofs.lemmas.List.{append_assoc}
use Rattle.std.proofs.lemmas.Bool.{MatchBool-at_true, MatchBool-at_false}
use Rattle.std.specs.List.{AllByRecursion}
use Rattle.carol_store.specs.declared.shape.CellKind.{CellKind}
use Rattle.carol_store.specs.Stores.{IsStore}
use Rattle.carol_formula.specs.Claim.{Claim, truth}
use Rattle.carol_program.specs.declared.steps.Part.{Part}
use Rattle.carol_program.specs.Bodies.{Body, Query, Issue, Release, Branch}
use Rattle.carol_program.specs.Variables.{number_of_args, query_variable, store_at}
use Rattle.carol_program.specs.WellFormed.{IsPartOver, IsFormulaOver}
use Rattle.carol_reading.specs.Marks.{Mark, Asked, Issued, Released}
use Rattle.carol_reading.specs.Readings.{Reads, effect_of}
use Rattle.carol_reading.proofs.Following.{stops}
use Rattle.carol_obligation.specs.Ways.{Way, Asks, Puts, Frees, Tests}
use Rattle.carol_obligation.specs.Decoded.{args_at, marks_at, TestsGo}
use Rattle.carol_obligation.proofs.Agreeing.{effect_of-same, truth-same}
use Rattle.carol_obligation.proofs.Seen.{seen, seen-same, ranges_of}
use Rattle.carol_obligation.proofs.Equivalences.{same, chain, both, swapped}

-- the store of each query is one of the shape
abbrev pub AreShaped : List CellKind → Way → (ℕ → ℤ) → Type 0
AreShaped kinds [] f = Unit {0}
AreShaped kinds (Asks guard slot ∷ way) f = IsStore kinds (store_at kinds (query_variable slot 0) f) × AreShaped kinds way f
AreShaped kinds (Puts parts ∷ way) f = AreShaped kinds way f
AreShaped kinds (Frees ∷ way) f = AreShaped kinds way f
AreShaped kinds (Tests test side ∷ way) f = AreShaped kinds way f

module _ (kinds : List CellKind) (number : ℕ) (test : Claim) (first second : Body) (f : ℕ → ℤ) where
  -- a branch reads what the side reads to which its test goes
  into-side : (side : Bool) (marks : List Mark) → truth test f ≡ side → Reads kinds (Branch number test first second) f marks → Reads kinds (if side then first else second) f marks
  into-side side [] e r = stops kinds (if side then first else second) f
  into-side true (m ∷ marks) e r = MatchBool-at_true _ _ e r
  into-side false (m ∷ marks) e r = MatchBool-at_false _ _ e r

  from-side : (side : Bool) (marks : List Mark) → truth test f ≡ side → Reads kinds (if side then first else second) f marks → Reads kinds (Branch number test first second) f marks
  from-side side [] e r = tt
  from-side true (m ∷ marks) e r = subst (λ b. MatchBool b (Reads kinds first f (m ∷ marks)) (Reads kinds second f (m ∷ marks))) (sym e) r
  from-side false (m ∷ marks) e r = subst (λ b. MatchBool b (Reads kinds first f (m ∷ marks)) (Reads kinds second f (m ∷ marks))) (sym e) r

module _ (kinds : List CellKind) (params : ℕ) (whole : Body) where
  -- the whole body reads the marks of the way, and these behind them
  abbrev pub ReadsBehind : Way → (ℕ → ℤ) → List Mark → Type 0
  ReadsBehind way f marks = Reads kinds whole (number_of_args (args_at params f)) (marks_at kinds way f ++ marks)

  -- behind the way the body stands
  pub record Follows (way : Way) (body : Body) : Type 0 where
    pub reads : (f : ℕ → ℤ) (marks : List Mark) → TestsGo way f → ReadsBehind way f marks ↔ (AreShaped kinds way f × Reads kinds body (seen kinds params way f) marks)

  pub follows_start : Follows [] whole
  follows_start = record { reads = λ f marks t. (λ r. (tt, r), λ h. h.1) }

  module _ (way : Way) where
    -- one mark more on the way
    moved : (f : ℕ → ℤ) (mark : Mark) (marks : List Mark) → Reads kinds whole (number_of_args (args_at params f)) ((marks_at kinds way f ++ mark ∷ []) ++ marks) ↔ ReadsBehind way f (mark ∷ marks)
    moved f mark marks = (
      subst (Reads kinds whole (number_of_args (args_at params f))) (append_assoc (marks_at kinds way f) (mark ∷ []) marks),
      subst (Reads kinds whole (number_of_args (args_at params f))) (sym (append_assoc (marks_at kinds way f) (mark ∷ []) marks)),
    )

    pub follows_query : (number guard slot : ℕ) (next : Body) → Follows way (Query number guard slot next) → Follows (Asks guard slot ∷ way) next
    follows_query number guard slot next l = record {
      reads = λ f marks t.
          let mark = Asked guard (store_at kinds (query_variable slot 0) f) in
          chain (moved f mark marks) (chain (l.reads f (mark ∷ marks) t) (λ h. ((h.1.1, h.0), h.1.2), λ h. (h.0.1, (refl, h.0.0, h.1))));
    }

    pub follows_issue : (number : ℕ) (parts : List Part) (next : Body) → AllByRecursion (IsPartOver kinds (ranges_of kinds params way)) parts → Follows way (Issue number parts next) → Follows (Puts parts ∷ way) next
    follows_issue number parts next fit l = record {
      reads = λ f marks t.
          let mark = Issued (effect_of kinds parts f) in
          let is = sym (effect_of-same (ranges_of kinds params way) (seen kinds params way f) f (seen-same kinds params f way) kinds parts fit) in
          chain (moved f mark marks) (chain (l.reads f (mark ∷ marks) t) (λ h. (h.0, h.1.1), λ h. (h.0, (is, h.1))));
    }

    pub follows_release : (number : ℕ) (next : Body) → Follows way (Release number next) → Follows (Frees ∷ way) next
    follows_release number next l = record { reads = λ f marks t. chain (moved f Released marks) (l.reads f (Released ∷ marks) t) }

    pub follows_side : (side : Bool) (number : ℕ) (test : Claim) (first second : Body) → IsFormulaOver (ranges_of kinds params way) test → Follows way (Branch number test first second) → Follows (Tests test side ∷ way) (if side then first else second)
    follows_side side number test first second fit l = record {
      reads = λ f marks t.
          let goes = (swapped (truth test (seen kinds params way f)) (truth test f) side (truth-same (ranges_of kinds params way) (seen kinds params way f) f (seen-same kinds params f way) test fit.terms)).1 t.0 in
          chain (l.reads f marks t.1) (both (same (AreShaped kinds way f))
          (into-side kinds number test first second (seen kinds params way f) side marks goes, from-side kinds number test first second (seen kinds params way f) side marks goes));
    }
