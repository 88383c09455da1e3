-- What is known at the end of a way is that the numbers stand for a reading along it.
use Rattle.std.proofs.Common.{◌≡◌, ℕ, zero, suc, ◌+◌, [], length, append-nil, refl, sym, ap, subst}
use Rattle.std.specs.Prelude.{◌↔◌, ℤ}
use Rattle.carol_program.specs.Bodies.{Body}
use Rattle.carol_program.specs.Rules.{Rules, OpRules}
use Rattle.carol_program.specs.Variables.{number_of_args}
use Rattle.carol_reading.specs.Readings.{Reads}
use Rattle.carol_reading.specs.Rounds.{IsSound}
use Rattle.carol_reading.proofs.Following.{stops}
use Rattle.carol_obligation.specs.Ways.{Way}
use Rattle.carol_obligation.specs.Decoded.{args_from, args_at, marks_at, open_at, TestsGo}
use Rattle.carol_obligation.specs.Breaches.{IsReadingAlong}
use Rattle.carol_obligation.proofs.Equivalences.{chain}
use Rattle.carol_obligation.proofs.Seen.{seen}
use Rattle.carol_obligation.proofs.Follows.{AreShaped, Follows}
use Rattle.carol_obligation.proofs.Rounds.{rounds-forth, rounds-back}
use Rattle.carol_obligation.proofs.KnownLaws.{IsKnown}

length-args_from : (param more : ℕ) (f : ℕ → ℤ) → length (args_from param more f) ≡ more
length-args_from param zero f = refl
length-args_from param (suc more) f = ap suc (length-args_from (param + 1) more f)

module _ (p : Rules) (op : OpRules) (way : Way) (body : Body) (f : ℕ → ℤ) (l : Follows p.shape (length op.params) op.body way body) where
  -- the whole body reads the marks of the way
  reads-way : TestsGo way f → Reads p.shape op.body (number_of_args (args_at (length op.params) f)) (marks_at p.shape way f) ↔ AreShaped p.shape way f
  reads-way t = chain
      (subst (Reads p.shape op.body (number_of_args (args_at (length op.params) f))) (sym (append-nil (marks_at p.shape way f))), subst (Reads p.shape op.body (number_of_args (args_at (length op.params) f))) (append-nil (marks_at p.shape way f)))
      (chain (l.reads f [] t) (λ h. h.0, λ h. (h, stops p.shape body (seen p.shape (length op.params) way f))))

  -- what is known at the end of a way, and that its open round is sound, is a reading along it
  pub known-reading : (IsKnown p op way f × IsSound p (open_at p.shape way f)) ↔ IsReadingAlong p op way f
  known-reading = (reading, known)
    where
      reading : IsKnown p op way f × IsSound p (open_at p.shape way f) → IsReadingAlong p op way f
      reading h = record {
        reading = record {
          meet = record { count = length-args_from 0 (length op.params) f; all = h.0.0 };
          reads = (reads-way h.0.1).1 h.0.2;
          proper = rounds-back p f (open_at p.shape way f) h.1 way (open_at p.shape way f) (λ _. refl) h.1 h.0.3;
        };
        tests = h.0.1;
      }

      known : IsReadingAlong p op way f → IsKnown p op way f × IsSound p (open_at p.shape way f)
      known r =
          let rounds = rounds-forth p f (open_at p.shape way f) way (open_at p.shape way f) (λ _. refl) r.reading.proper in
          ((r.reading.meet.all, r.tests, (reads-way r.tests).0 r.reading.reads, rounds.1), rounds.0)
