-- What is found at a place, said of the start of the search.
use Rattle.std.proofs.Common.{ℕ, ◌≡◌, List, ◌++◌, sym, ap, subst}
use Rattle.std.specs.Prelude.{ℤ}
use Rattle.carol_formula.specs.Linear.{Linear}
use Rattle.carol_formula.specs.Numbers.{number_at}
use Rattle.carol_formula.specs.Claim.{Claim}
use Rattle.carol_formula.specs.declared.term.Row.{Row}
use Rattle.carol_elimination.specs.Due.{ComeFromDue}
use Rattle.carol_elimination.specs.Reasons.{IsWidePair}
use Rattle.carol_elimination.proofs.Rows.{among_left}
use Rattle.carol_elimination.specs.Entries.{terms_of}
use Rattle.carol_elimination.specs.Choosing.{AreMet}
use Rattle.carol_elimination.specs.Choosing.{IsFar as IsFarRow}
use Rattle.carol_linear.specs.Path.{frame_rows}
use Rattle.carol_linear.specs.Answer.{IsDerived, IsWide, IsFar}
use Rattle.carol_linear.specs.State.{Start, Begins, all_rows, IsAt}
use Rattle.carol_linear.specs.declared.answer.Wide.{Wide}
use Rattle.carol_linear.specs.declared.answer.Far.{Far}
use Rattle.carol_linear.specs.declared.state.State.{State}
use Rattle.carol_linear.proofs.Paths.{path_due}

pub met_end : (start : Start) (s : State) (f : ℕ → ℤ) → AreMet f (all_rows start s) → AreMet f start.rows
met_end start s f met r among = met r (among_left r start.rows (frame_rows s.frames.items) among)

branches_due : (start : Start) (s : State) (claims : List Claim) (branches : List Row) → IsAt start s → Begins start claims → terms_of branches ≡ frame_rows s.frames.items → ComeFromDue start.rows (terms_of branches)
branches_due start s claims branches h begins e = subst (ComeFromDue start.rows) (sym e) (path_due claims start.rows s.frames.items begins.same (h.path claims begins))

rows_whole : (start : Start) (s : State) (branches : List Row) → terms_of branches ≡ frame_rows s.frames.items → all_rows start s ≡ start.rows ++ terms_of branches
rows_whole start s branches e = ap (λ (rs : List Linear). start.rows ++ rs) (sym e)

pub wide_end : (start : Start) (s : State) (claims : List Claim) (w : Wide) → IsAt start s → Begins start claims → terms_of w.branches ≡ frame_rows s.frames.items → IsDerived (all_rows start s) w.upper → IsDerived (all_rows start s) w.lower → IsWidePair w.variable w.upper.row.0 w.lower.row.0 → IsWide start.rows w
wide_end start s claims w h begins e upper lower wide =
    let whole = rows_whole start s w.branches e in
    record {
      branches = branches_due start s claims w.branches h begins e;
      upper = subst (λ (rs : List Linear). IsDerived rs w.upper) whole upper;
      lower = subst (λ (rs : List Linear). IsDerived rs w.lower) whole lower;
      wide = wide;
    }

pub far_end : (start : Start) (s : State) (claims : List Claim) (f : Far) → IsAt start s → Begins start claims → terms_of f.branches ≡ frame_rows s.frames.items → IsFarRow (all_rows start s) f.row.steps f.row.row.0 (number_at f.values) → IsFar start.rows f
far_end start s claims f h begins e far = record {
  branches = branches_due start s claims f.branches h begins e;
  far = subst (λ (rs : List Linear). IsFarRow rs f.row.steps f.row.row.0 (number_at f.values)) (rows_whole start s f.branches e) far;
}
