-- One part of a report after another.
use Rattle.std.proofs.Common.{◌≡◌, ℕ, ◌+◌, ◌-◌, ◌<◌, suc, List, [], ◌++◌, ◌∙◌, append_assoc, arith}
use Rattle.std.specs.Prelude.{codes, flat_map}
use Rattle.std.specs.List.{range_with_len}
use Rattle.carol_program.specs.Rules.{Rules}
use Rattle.carol_program.specs.declared.scenes.Scene.{Scene}
use Rattle.carol_event.specs.declared.event.Event.{Event}
use Rattle.carol_history.specs.Journals.{global}
use Rattle.carol_report.specs.Report.{end_line, global_line, line_feed, results_text, stores_text, summary_text}

-- lines that go over numbers, one further
pub numbers_more : (line : ℕ → List ℕ) (out : List ℕ) (k n : ℕ) (whole : List ℕ) → k < n → out ++ flat_map line (range_with_len k (n - k)) ≡ whole → (out ++ line k) ++ flat_map line (range_with_len (k + 1) (n - (k + 1))) ≡ whole
numbers_more line out k n whole inside h =
    let here : n - k ≡ suc (n - (k + 1)) = omega arith
    in append_assoc out (line k) (flat_map line (range_with_len (k + 1) (n - (k + 1)))) ∙ rw here at h

-- parts that were appended one after another
joined : (r c t s g e : List ℕ) → ((((([] ++ r) ++ c) ++ t) ++ s) ++ g) ++ e ≡ r ++ (c ++ (t ++ (s ++ (g ++ e))))
joined r c t s g e = simp append_assoc

-- the text after each part of a summary
pub summary_joined : (p : Rules) (scene : Scene) (past : List Event) (b0 b1 b2 b3 b4 b5 b6 : List ℕ) → b0 ≡ [] → b1 ≡ b0 ++ (codes "results" ++ line_feed) → b2 ≡ b1 ++ results_text scene past → b3 ≡ b2 ++ (codes "stores" ++ line_feed) → b4 ≡ b3 ++ stores_text p scene past → b5 ≡ b4 ++ global_line (global p past) → b6 ≡ b5 ++ end_line scene past → b6 ≡ summary_text p scene past
unfolding summary_text
summary_joined p scene past b0 b1 b2 b3 b4 b5 b6 h0 h1 h2 h3 h4 h5 h6 =
    rw (h6, h5, h4, h3, h2, h1, h0) (joined (codes "results" ++ line_feed) (results_text scene past) (codes "stores" ++ line_feed) (stores_text p scene past) (global_line (global p past)) (end_line scene past))
