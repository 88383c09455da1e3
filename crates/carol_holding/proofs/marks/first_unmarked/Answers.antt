use Rattle.std.proofs.Common.{◌≡◌, ◌*◌, ◌<◌, length, true, inl, inr, sym, ◌∙◌, subst, ℕ, arith}
use Rattle.std.proofs.lemmas.Bool.{cases_eq}
use Rattle.carol_holding.specs.Marked.{is_marked}
use Rattle.carol_holding.proofs.Marked.{marked_within}
use Rattle.carol_holding.proofs.marks.first_unmarked.Goals as goal

pub loop-at-smaller : goal.loop-at-smaller
loop-at-smaller c =
    let inside : c.loop-at.at < 64 * length c.args.words.now = marked_within c.args.words.now c.loop-at.at (sym c.is_marked.ensures ∙ c.loop-at-test.true)
    in omega arith

pub loop-at-preserved : goal.loop-at-preserved
loop-at-preserved c =
    let marked : is_marked c.args.words.now c.loop-at.at ≡ true = sym c.is_marked.ensures ∙ c.loop-at-test.true
    in let inside : c.loop-at.at < 64 * length c.args.words.now = marked_within c.args.words.now c.loop-at.at marked
    in record {
      marked = λ i from low. elim (cases_eq c.loop-at.at i) [
        | inl same ↦ subst (λ (x : ℕ). is_marked c.args.words.now x ≡ true) same marked
        | inr apart ↦ c.loop-at.invariant.marked i from (omega arith)
      ];
      least = omega arith;
      within = omega arith;
    }
