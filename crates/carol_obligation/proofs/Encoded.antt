-- An operation without a breach is good: numbers are found for each reading, from the outside in.
use Rattle.std.proofs.Common.{◌≡◌, ℕ, ◌+◌, true, false, List, [], ◌∷◌, ◌++◌, length, arith}
use Rattle.std.specs.Prelude.{ℤ, slice_get}
use Rattle.std.specs.List.{AllByRecursion}
use Rattle.std.proofs.Math.Logic.{⊎_elim}
use Rattle.std.proofs.lemmas.Bool.{cases_Bool}
use Rattle.carol_store.specs.declared.shape.CellKind.{CellKind}
use Rattle.carol_store.specs.Kinds.{CellValue}
use Rattle.carol_store.proofs.Cells.{length-IsStore}
use Rattle.carol_formula.specs.Claim.{truth}
use Rattle.carol_formula.specs.Linear.{Linear}
use Rattle.carol_program.specs.Bodies.{Body, Query, Issue, Release, Branch, Return, queries_in}
use Rattle.carol_program.specs.Rules.{Rules, OpRules}
use Rattle.carol_program.specs.WellFormed.{AreRules, IsOpOver}
use Rattle.carol_reading.specs.Good.{IsGood}
use Rattle.carol_reading.specs.Marks.{Mark, Asked, Issued, Released, Returned}
use Rattle.carol_reading.specs.Readings.{Reads}
use Rattle.carol_reading.specs.Rounds.{GuardsIn, IsProper}
use Rattle.carol_obligation.specs.Ways.{Way}
use Rattle.carol_obligation.specs.Places.{sites_of}
use Rattle.carol_obligation.specs.GoodLaw.{HasNoBreach}
use Rattle.carol_obligation.proofs.Ends.{IsAsAsked, effect-is, query-last, issue-last, release-last, return-last}
use Rattle.carol_obligation.proofs.Going.{Stands, stands_start, stands_query, stands_issue, stands_release, stands_first, stands_second, Course, Promise, goes-itself, reads-left, promise-query, promise-test, promise-issue, promise-release, first-long, promise-start}
use Rattle.carol_obligation.proofs.GoodRounds.{first_of}
use Rattle.carol_obligation.proofs.Seen.{seen}
use Rattle.carol_obligation.proofs.Settling.{keeps-fewer}

asked-first : (p : Rules) (guard : ℕ) (x : List CellValue) (left : List Mark) (rounds : List (List CellValue)) (current : List CellValue) → IsProper p (Asked guard x ∷ left) rounds current → GuardsIn (slice_get p.guards guard) x (first_of rounds current) × IsProper p left rounds current
asked-first p guard x left [] current h = h
asked-first p guard x left (y ∷ rounds) current h = h

-- nothing follows what is returned
nothing-follows : (kinds : List CellKind) (number : ℕ) (value : Linear) (f : ℕ → ℤ) (m next : Mark) (left : List Mark) → ¬ Reads kinds (Return number value) f (m ∷ (left ++ next ∷ []))
nothing-follows kinds number value f (Returned v) next [] r = r
nothing-follows kinds number value f (Returned v) next (l ∷ left) r = r
nothing-follows kinds number value f _ next left r = r

module _ {p : Rules} {op : OpRules} {c : Course p op} where
  reads-here : {way : Way} {low : ℕ} {body : Body} {left : List Mark} {rounds : List (List CellValue)} {f : ℕ → ℤ} → Stands p op way low body → Promise c way low left rounds f → Reads p.shape body (seen p.shape (length op.params) way f) (left ++ c.mark ∷ [])
  reads-here s promise = reads-left s (goes-itself promise)

  leaves-well : (body : Body) (left : List Mark) (rounds : List (List CellValue)) {way : Way} {low : ℕ} {f : ℕ → ℤ} → Stands p op way low body → IsProper p left rounds c.current → Promise c way low left rounds f → IsAsAsked c c.mark
  leaves-well (Query number guard slot next) [] rounds {way = way} {f = f} s proper promise = query-last c c.mark number guard slot next (seen p.shape (length op.params) way f) (reads-here s promise)
  leaves-well (Query number guard slot next) (Asked n x ∷ left) rounds s proper promise =
      let r = reads-here s promise in
      let first = asked-first p n x left rounds c.current proper in
      leaves-well next left rounds (stands_query s) first.1 (promise-query guard slot s.slots.0 (omega (arith, s.room)) r.0 (length-IsStore p.shape x r.1) first.0 promise)
  leaves-well (Query number guard slot next) (m ∷ left) rounds s proper promise = absurd (reads-here s promise)
  leaves-well (Issue number parts next) [] [] s sound promise = issue-last sound promise s c.mark (λ g goes. reads-left s goes)
  leaves-well (Issue number parts next) [] (y ∷ rounds) s proper promise = absurd proper
  leaves-well (Issue number parts next) (Issued e ∷ left) [] s proper promise = absurd proper
  leaves-well (Issue number parts next) (Issued e ∷ left) (y ∷ rounds) {way = way} s proper promise =
      leaves-well next left rounds (stands_issue s) proper.1
      (promise-issue (omega (arith, s.room)) proper.0 (first-long p left rounds c.current proper.1) parts (λ g goes. effect-is p op way g parts s.fit.0.1 (reads-left s goes).0) promise)
  leaves-well (Issue number parts next) (m ∷ left) rounds s proper promise = absurd (reads-here s promise)
  leaves-well (Release number next) [] rounds {way = way} {f = f} s proper promise = release-last c c.mark number next (seen p.shape (length op.params) way f) (reads-here s promise)
  leaves-well (Release number next) (Released ∷ left) [] s proper promise = absurd proper
  leaves-well (Release number next) (Released ∷ left) (y ∷ rounds) s proper promise =
      leaves-well next left rounds (stands_release s) proper.1 (promise-release (omega (arith, s.room)) proper.0 (first-long p left rounds c.current proper.1) promise)
  leaves-well (Release number next) (m ∷ left) rounds s proper promise = absurd (reads-here s promise)
  leaves-well (Branch number test first second) left rounds {low = low} {f = f} s proper promise = ⊎_elim
      (λ (e : truth test f ≡ true). leaves-well first left rounds (stands_first s) proper (promise-test true s.below s.fit.0 e promise))
      (λ (e : truth test f ≡ false). leaves-well second left rounds (stands_second s) proper
      (record { goes = λ g keeps. (promise-test false s.below s.fit.0 e promise).goes g (keeps-fewer (low + queries_in first) (omega arith) keeps) }))
      (cases_Bool (truth test f))
  leaves-well (Return number value) [] [] s sound promise = return-last sound promise s c.mark (reads-here s promise)
  leaves-well (Return number value) [] (y ∷ rounds) s proper promise = absurd proper
  leaves-well (Return number value) (m ∷ left) rounds {way = way} {f = f} s proper promise = absurd (nothing-follows p.shape number value (seen p.shape (length op.params) way f) m c.mark left (reads-here s promise))

well-left : {p : Rules} {op : OpRules} (c : Course p op) → AllByRecursion (HasNoBreach p op) (sites_of p op) → IsAsAsked c c.mark
well-left {p = p} {op = op} c safe = leaves-well op.body c.marks c.ended (stands_start p op c.over safe) c.reading.proper (promise-start c)

pub safe-good : (p : Rules) (op : OpRules) → AreRules p → IsOpOver p.shape (length p.guards) op → AllByRecursion (HasNoBreach p op) (sites_of p op) → IsGood p op
safe-good p op rules over safe = record {
  fits = λ args marks effect ended current reading may. (well-left (record { args = args; marks = marks; ended = ended; current = current; mark = Issued effect; rules = rules; over = over; reading = reading; may = may }) safe).0;
  keeps = λ args marks effect ended current reading may. (well-left (record { args = args; marks = marks; ended = ended; current = current; mark = Issued effect; rules = rules; over = over; reading = reading; may = may }) safe).1;
  answers = λ args marks value ended current reading may. well-left (record { args = args; marks = marks; ended = ended; current = current; mark = Returned value; rules = rules; over = over; reading = reading; may = may }) safe;
}
