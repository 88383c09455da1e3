-- What may follow the marks of a reading is what the operation does next.
use Rattle.std.proofs.Common.{ℕ, refl, subst, ◌≡◌, Bool, true, false, List, [], ◌∷◌, ◌++◌, length}
use Rattle.std.specs.Prelude.{◌↔◌, ℤ, if◌then◌else◌, MatchBool, Option}
use Rattle.carol_store.specs.declared.shape.CellKind.{CellKind}
use Rattle.carol_store.specs.Stores.{IsStore}
use Rattle.carol_formula.specs.Claim.{truth}
use Rattle.carol_program.specs.Bodies.{Body, Query, Issue, Release, Branch, Return}
use Rattle.carol_reading.specs.Marks.{Mark, Asked, Issued, Released, Returned, queried, HasNotReturned}
use Rattle.carol_reading.specs.Readings.{Reads, with_query}
use Rattle.carol_reading.specs.Nexts.{next_of, Suits}
use Rattle.carol_reading.specs.declared.action.Action.{Action}

same : (A : Type 0) → A ↔ A
same A = (λ x. x, λ x. x)

-- a body may stop anywhere
pub stops : (kinds : List CellKind) (body : Body) (f : ℕ → ℤ) → Reads kinds body f []
stops kinds (Query number guard slot next) f = tt
stops kinds (Issue number parts next) f = tt
stops kinds (Release number next) f = tt
stops kinds (Branch number test first second) f = tt
stops kinds (Return number value) f = tt

-- the side of a branch that the test names
branched : (kinds : List CellKind) (b : Bool) (first second : Type 0) (next other : Option Action) (mark : Mark) → (b ≡ true → first ↔ Suits kinds next mark) → (b ≡ false → second ↔ Suits kinds other mark) → MatchBool b first second ↔ Suits kinds (if b then next else other) mark
branched kinds true first second next other mark h g = h refl
branched kinds false first second next other mark h g = g refl

-- the mark that follows marks which a body reads is one of those that what it does next may leave
pub following : (kinds : List CellKind) (body : Body) (f : ℕ → ℤ) (marks : List Mark) → Reads kinds body f marks → HasNotReturned marks → (mark : Mark) → Reads kinds body f (marks ++ mark ∷ []) ↔ Suits kinds (next_of kinds body f (queried marks) (length marks)) mark
following kinds (Query number guard slot next) f [] r n (Asked g x) = (λ h. (h.0, h.1), λ h. (h.0, h.1, stops kinds next (with_query slot x f)))
following kinds (Query number guard slot next) f [] r n (Issued e) = same ⊥
following kinds (Query number guard slot next) f [] r n Released = same ⊥
following kinds (Query number guard slot next) f [] r n (Returned v) = same ⊥
following kinds (Query number guard slot next) f (Asked g x ∷ marks) r n mark = after (following kinds next (with_query slot x f) marks r.2 n mark)
  where
    after : Reads kinds next (with_query slot x f) (marks ++ mark ∷ []) ↔ Suits kinds (next_of kinds next (with_query slot x f) (queried marks) (length marks)) mark → ((g ≡ guard) × IsStore kinds x × Reads kinds next (with_query slot x f) (marks ++ mark ∷ [])) ↔ Suits kinds (next_of kinds next (with_query slot x f) (queried marks) (length marks)) mark
    after h = (λ a. h.0 a.2, λ b. (r.0, r.1, h.1 b))
following kinds (Query number guard slot next) f (Issued e ∷ marks) r n mark = absurd r
following kinds (Query number guard slot next) f (Released ∷ marks) r n mark = absurd r
following kinds (Query number guard slot next) f (Returned v ∷ marks) r n mark = absurd r
following kinds (Issue number parts next) f [] r n (Asked g x) = same ⊥
following kinds (Issue number parts next) f [] r n (Issued e) = (λ h. h.0, λ h. (h, stops kinds next f))
following kinds (Issue number parts next) f [] r n Released = same ⊥
following kinds (Issue number parts next) f [] r n (Returned v) = same ⊥
following kinds (Issue number parts next) f (Asked g x ∷ marks) r n mark = absurd r
following kinds (Issue number parts next) f (Issued e ∷ marks) r n mark = let h = following kinds next f marks r.1 n mark in (λ a. h.0 a.1, λ b. (r.0, h.1 b))
following kinds (Issue number parts next) f (Released ∷ marks) r n mark = absurd r
following kinds (Issue number parts next) f (Returned v ∷ marks) r n mark = absurd r
following kinds (Release number next) f [] r n (Asked g x) = same ⊥
following kinds (Release number next) f [] r n (Issued e) = same ⊥
following kinds (Release number next) f [] r n Released = (λ _. tt, λ _. stops kinds next f)
following kinds (Release number next) f [] r n (Returned v) = same ⊥
following kinds (Release number next) f (Asked g x ∷ marks) r n mark = absurd r
following kinds (Release number next) f (Issued e ∷ marks) r n mark = absurd r
following kinds (Release number next) f (Released ∷ marks) r n mark = following kinds next f marks r n mark
following kinds (Release number next) f (Returned v ∷ marks) r n mark = absurd r
following kinds (Branch number test first second) f [] r n mark = branched kinds (truth test f) _ _ _ _ mark (λ _. following kinds first f [] (stops kinds first f) n mark) (λ _. following kinds second f [] (stops kinds second f) n mark)
following kinds (Branch number test first second) f (m ∷ marks) r n mark = branched kinds (truth test f) _ _ _ _ mark (λ e. following kinds first f (m ∷ marks) (subst (λ b. MatchBool b (Reads kinds first f (m ∷ marks)) (Reads kinds second f (m ∷ marks))) e r) n mark) (λ e. following kinds second f (m ∷ marks) (subst (λ b. MatchBool b (Reads kinds first f (m ∷ marks)) (Reads kinds second f (m ∷ marks))) e r) n mark)
following kinds (Return number value) f [] r n (Asked g x) = same ⊥
following kinds (Return number value) f [] r n (Issued e) = same ⊥
following kinds (Return number value) f [] r n Released = same ⊥
following kinds (Return number value) f [] r n (Returned v) = (λ h. h, λ h. h)
following kinds (Return number value) f (Asked g x ∷ marks) r n mark = absurd r
following kinds (Return number value) f (Issued e ∷ marks) r n mark = absurd r
following kinds (Return number value) f (Released ∷ marks) r n mark = absurd r
following kinds (Return number value) f (Returned v ∷ marks) r n mark = absurd n
