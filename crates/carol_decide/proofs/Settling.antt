-- What is found at a place.
use Rattle.std.proofs.Common.{◌≡◌, ℕ, ◌≤◌, List, [], ◌∷◌, length, map, refl, sym, ◌∙◌, ap, subst, arith}
use Rattle.std.specs.Prelude.{ℤ}
use Rattle.std.specs.List.{All}
use Rattle.carol_formula.specs.Linear.{Linear}
use Rattle.carol_formula.specs.Claim.{Claim, Le}
use Rattle.carol_formula.specs.declared.term.Row.{Row}
use Rattle.carol_cert.specs.Proof.{Proof, Rows, proof_at, proof_of}
use Rattle.carol_cert.specs.declared.tree.Refutation.{fold-roll-Refutation}
use Rattle.carol_cert.specs.declared.tree.Refutation.TheOpen.{Refutation-F}
use Rattle.carol_cert.specs.declared.tree.Refutation.TheVariants as shape
use Rattle.carol_cert.specs.Counts.{turns_of}
use Rattle.carol_cert.specs.Steps.{Closes}
use Rattle.carol_cert.specs.declared.step.RowStep.{RowStep}
use Rattle.carol_difference.specs.Rows.{IsDifference, claims_of}
use Rattle.carol_difference.specs.Decision.{IsMet as IsMetRow}
use Rattle.carol_elimination.specs.Due.{rows_at, AreRows}
use Rattle.carol_elimination.specs.Entries.{terms_of}
use Rattle.carol_linear.specs.Names.{AreNamed}
use Rattle.carol_elimination.specs.Choosing.{AreMet}
use Rattle.carol_linear.specs.Answer.{IsRefuted, IsSpent, IsWide, IsFar, IsAnswer}
use Rattle.carol_linear.specs.declared.answer.RowsAnswer.{RowsAnswer}
use Rattle.carol_linear.specs.declared.answer.Wide.{Wide as WideReason}
use Rattle.carol_linear.specs.declared.answer.Far.{Far as FarReason}
use Rattle.carol_decide.specs.Sizes.{AreOfDifferences}
use Rattle.carol_decide.specs.Makes.{Makes}
use Rattle.carol_decide.specs.Answer.{IsWideCase, IsFarCase}
use Rattle.carol_decide.specs.Frames.{Lead}
use Rattle.carol_decide.specs.Table.{IsTableOf, IsClosed}
use Rattle.carol_decide.specs.declared.frame.Frame.{Frame}
use Rattle.carol_decide.specs.declared.table.Table.{Table}
use Rattle.carol_decide.proofs.Way.{made_along, case_at_end}
use Rattle.carol_decide.proofs.Meeting.{made_from_rows, met_rows}
use Rattle.carol_decide.proofs.Finishing.{one_turn, takes_turn}

-- the claims of the rows are those of their terms
pub claims_of-terms : (rows : List Row) → claims_of rows ≡ map Le (terms_of rows)
claims_of-terms [] = refl
claims_of-terms (row ∷ rows) = ap (λ cs. Le row.0 ∷ cs) (claims_of-terms rows)

-- ---- a leaf

proof_of-Rows : (steps : List RowStep) → proof_of (shape.Rows steps) ≡ Rows steps
proof_of-Rows steps = ap proof_of (sym (shape.rolls-Rows steps)) ∙ fold-roll-Refutation Proof proof_at (Refutation-F.Rows steps)

pub leaf_closes : (claims : List Claim) (left : ℕ) (t : Table) (names steps : List RowStep) (given : List RowStep) → names ≡ t.names.items → IsTableOf claims t → Closes (map Le (terms_of t.rows.items)) given → ((cs : List Claim) (rows : List Linear) → AreNamed cs names rows → Closes (map Le rows) given → Closes cs steps) → 1 ≤ left → IsClosed claims left (proof_of (shape.Rows steps)) 1
leaf_closes claims left t names steps given e table closes leaf some = subst (λ tree. IsClosed claims left tree 1) (sym (proof_of-Rows steps)) (record {
  finished = one_turn claims (Rows steps) (leaf claims (terms_of t.rows.items) (subst (λ ns. AreNamed claims ns (terms_of t.rows.items)) (sym e) table.named) closes) tt refl;
  count = refl;
  some = omega arith;
  enough = some;
})

-- ---- a case

pub model_makes : (f : ℕ → ℤ) (claim : Claim) (frames : List Frame) (claims : List Claim) (t : Table) → IsTableOf claims t → AreRows claims → Lead (claim ∷ []) frames claims → AreMet f (terms_of t.rows.items) → Makes f claim
model_makes f claim frames claims t table rows lead met =
    (made_along f (claim ∷ []) frames claims lead (made_from_rows f claims rows (subst (AreMet f) (sym table.same) met))).0

pub differences_make : (f : ℕ → ℤ) (claim : Claim) (frames : List Frame) (claims : List Claim) (t : Table) → IsTableOf claims t → AreRows claims → Lead (claim ∷ []) frames claims → All (IsMetRow f) t.rows.items → Makes f claim
differences_make f claim frames claims t table rows lead met = model_makes f claim frames claims t table rows lead (met_rows f t.rows.items met)

pub search_closes : (claims : List Claim) (left turns : ℕ) (t : Table) (tree : Proof) → IsTableOf claims t → ¬ All IsDifference t.rows.items → IsRefuted claims left tree → turns ≡ turns_of tree → IsClosed claims left tree turns
search_closes claims left turns t tree table other h e = record {
  finished = record { refutes = h.refutes; due = h.due; short = λ d. absurd (other (table.differences d)) };
  count = e;
  some = omega (arith, e, takes_turn claims tree h.refutes);
  enough = omega (arith, e, h.turns);
}

pub wide_case : (claim : Claim) (frames : List Frame) (claims : List Claim) (t : Table) (w : WideReason) → IsTableOf claims t → ¬ All IsDifference t.rows.items → AreRows claims → Lead (claim ∷ []) frames claims → IsWide (terms_of t.rows.items) w → IsWideCase claim w × ¬ AreOfDifferences claims
wide_case claim frames claims t w table other rows lead h = (
  record { case = claims; is_case = case_at_end (claim ∷ []) frames claims lead rows; wide = subst (λ rs. IsWide rs w) (sym table.same) h },
  λ d. other (table.differences d),
)

pub far_case : (claim : Claim) (frames : List Frame) (claims : List Claim) (t : Table) (f : FarReason) → IsTableOf claims t → ¬ All IsDifference t.rows.items → AreRows claims → Lead (claim ∷ []) frames claims → IsFar (terms_of t.rows.items) f → IsFarCase claim f × ¬ AreOfDifferences claims
far_case claim frames claims t f table other rows lead h = (
  record { case = claims; is_case = case_at_end (claim ∷ []) frames claims lead rows; far = subst (λ rs. IsFar rs f) (sym table.same) h },
  λ d. other (table.differences d),
)

-- steps that close rows of differences close the rows of the table
pub closes_terms : (rows : List Row) (steps : List RowStep) → Closes (claims_of rows) steps → Closes (map Le (terms_of rows)) steps
closes_terms rows steps h = subst (λ cs. Closes cs steps) (claims_of-terms rows) h

-- what the search answers for the claims of the table
pub found_by_search : (claims : List Claim) (t : Table) (rows : List Row) (names : List RowStep) (count left : ℕ) (answer : RowsAnswer) → rows ≡ t.rows.items → names ≡ t.names.items → IsTableOf claims t → AreRows claims → length claims ≡ count → ((list : List Claim) → AreNamed list names (terms_of rows) → AreRows list → rows_at list ≡ terms_of rows → length list ≡ count → IsAnswer list (terms_of rows) left answer) → IsAnswer claims (terms_of t.rows.items) left answer
found_by_search claims t rows names count left answer e f table plain l search_says =
    let terms : terms_of rows ≡ terms_of t.rows.items = ap terms_of e in
    let named : AreNamed claims names (terms_of rows) = subst (λ ns. AreNamed claims ns (terms_of rows)) (sym f) (subst (AreNamed claims t.names.items) (sym terms) table.named) in
    subst (λ ts. IsAnswer claims ts left answer) terms (search_says claims named plain (table.same ∙ sym terms) l)

pub spent_here : (claims : List Claim) (left : ℕ) (t : Table) (tree : Proof) → IsTableOf claims t → ¬ All IsDifference t.rows.items → IsSpent claims left tree → IsSpent claims left tree × ¬ AreOfDifferences claims
spent_here claims left t tree table other h = (h, λ d. other (table.differences d))
