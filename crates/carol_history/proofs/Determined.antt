-- Marks leave at most one thing to do next, but for the store that a query gets.
use Rattle.std.proofs.Common.{◌≡◌, ℕ, Bool, true, false, List, [], ◌∷◌, ◌++◌, ℤ, sym, subst, ◌∙◌}
use Rattle.std.specs.Prelude.{MatchBool, Some, slice_get}
use Rattle.std.proofs.lemmas.Option.{same_Some}
use Rattle.carol_store.specs.declared.shape.CellKind.{CellKind}
use Rattle.carol_formula.specs.Claim.{truth}
use Rattle.carol_program.specs.Bodies.{Body, Query, Issue, Release, Branch, Return}
use Rattle.carol_program.specs.Rules.{OpRules, Rules}
use Rattle.carol_program.specs.Variables.{number_of_args}
use Rattle.carol_program.specs.declared.scenes.Command.{Command}
use Rattle.carol_program.specs.declared.scenes.Scene.{Scene}
use Rattle.carol_program.specs.declared.scenes.SessionPlan.{SessionPlan}
use Rattle.carol_reading.specs.Marks.{Mark, Asked, Issued, Released, Returned}
use Rattle.carol_reading.specs.Readings.{Reads, with_query}
use Rattle.carol_event.specs.declared.event.Event.{Event}
use Rattle.carol_history.specs.Acts.{Next, UnderWay, acts, attempt, marks, place}

-- the same but for the store
abbrev pub SameMark : Mark → Mark → Type 0
SameMark (Asked g x) (Asked h y) = g ≡ h
SameMark (Issued d) (Issued e) = d ≡ e
SameMark Released Released = Unit {0}
SameMark (Returned v) (Returned w) = v ≡ w
SameMark one other = ⊥

on_both : {A B C D E : Type 0} (t : Bool) → MatchBool t A B → MatchBool t C D → (A → C → E) → (B → D → E) → E
on_both true h i f g = f h i
on_both false h i f g = g h i

-- the first marks that a body may leave
first_mark : (kinds : List CellKind) (body : Body) (f : ℕ → ℤ) (one other : Mark) → Reads kinds body f (one ∷ []) → Reads kinds body f (other ∷ []) → SameMark one other
first_mark kinds (Branch number test first second) f one other r s =
    on_both (truth test f) r s (first_mark kinds first f one other) (first_mark kinds second f one other)
first_mark kinds (Query number guard slot next) f (Asked g x) (Asked h y) r s = cc (r.0, s.0)
first_mark kinds (Query number guard slot next) f (Asked g x) (Issued e) r s = absurd s
first_mark kinds (Query number guard slot next) f (Asked g x) Released r s = absurd s
first_mark kinds (Query number guard slot next) f (Asked g x) (Returned w) r s = absurd s
first_mark kinds (Query number guard slot next) f (Issued d) other r s = absurd r
first_mark kinds (Query number guard slot next) f Released other r s = absurd r
first_mark kinds (Query number guard slot next) f (Returned v) other r s = absurd r
first_mark kinds (Issue number parts next) f (Asked g x) other r s = absurd r
first_mark kinds (Issue number parts next) f (Issued d) (Asked h y) r s = absurd s
first_mark kinds (Issue number parts next) f (Issued d) (Issued e) r s = cc (r.0, s.0)
first_mark kinds (Issue number parts next) f (Issued d) Released r s = absurd s
first_mark kinds (Issue number parts next) f (Issued d) (Returned w) r s = absurd s
first_mark kinds (Issue number parts next) f Released other r s = absurd r
first_mark kinds (Issue number parts next) f (Returned v) other r s = absurd r
first_mark kinds (Release number next) f (Asked g x) other r s = absurd r
first_mark kinds (Release number next) f (Issued d) other r s = absurd r
first_mark kinds (Release number next) f Released (Asked h y) r s = absurd s
first_mark kinds (Release number next) f Released (Issued e) r s = absurd s
first_mark kinds (Release number next) f Released Released r s = tt
first_mark kinds (Release number next) f Released (Returned w) r s = absurd s
first_mark kinds (Release number next) f (Returned v) other r s = absurd r
first_mark kinds (Return number value) f (Asked g x) other r s = absurd r
first_mark kinds (Return number value) f (Issued d) other r s = absurd r
first_mark kinds (Return number value) f Released other r s = absurd r
first_mark kinds (Return number value) f (Returned v) (Asked h y) r s = absurd s
first_mark kinds (Return number value) f (Returned v) (Issued e) r s = absurd s
first_mark kinds (Return number value) f (Returned v) Released r s = absurd s
first_mark kinds (Return number value) f (Returned v) (Returned w) r s = cc (r, s)

pub same_mark : (kinds : List CellKind) (body : Body) (f : ℕ → ℤ) (before : List Mark) (one other : Mark) → Reads kinds body f (before ++ one ∷ []) → Reads kinds body f (before ++ other ∷ []) → SameMark one other
same_mark kinds body f [] one other r s = first_mark kinds body f one other r s
same_mark kinds (Branch number test first second) f (m ∷ before) one other r s =
    on_both (truth test f) r s (same_mark kinds first f (m ∷ before) one other) (same_mark kinds second f (m ∷ before) one other)
same_mark kinds (Query number guard slot next) f (Asked g x ∷ before) one other r s = same_mark kinds next (with_query slot x f) before one other r.2 s.2
same_mark kinds (Query number guard slot next) f (Issued e ∷ before) one other r s = absurd r
same_mark kinds (Query number guard slot next) f (Released ∷ before) one other r s = absurd r
same_mark kinds (Query number guard slot next) f (Returned v ∷ before) one other r s = absurd r
same_mark kinds (Issue number parts next) f (Asked g x ∷ before) one other r s = absurd r
same_mark kinds (Issue number parts next) f (Issued e ∷ before) one other r s = same_mark kinds next f before one other r.1 s.1
same_mark kinds (Issue number parts next) f (Released ∷ before) one other r s = absurd r
same_mark kinds (Issue number parts next) f (Returned v ∷ before) one other r s = absurd r
same_mark kinds (Release number next) f (Asked g x ∷ before) one other r s = absurd r
same_mark kinds (Release number next) f (Issued e ∷ before) one other r s = absurd r
same_mark kinds (Release number next) f (Released ∷ before) one other r s = same_mark kinds next f before one other r s
same_mark kinds (Release number next) f (Returned v ∷ before) one other r s = absurd r
same_mark kinds (Return number value) f (Asked g x ∷ before) one other r s = absurd r
same_mark kinds (Return number value) f (Issued e ∷ before) one other r s = absurd r
same_mark kinds (Return number value) f (Released ∷ before) one other r s = absurd r
same_mark kinds (Return number value) f (Returned v ∷ []) one other r s = absurd r
same_mark kinds (Return number value) f (Returned v ∷ m ∷ before) one other r s = absurd r

-- a session has one plan
pub same_plan : (scene : Scene) (session : ℕ) (past : List Event) (one other : UnderWay scene session past) → one.plan ≡ other.plan
same_plan scene session past one other = same_Some one.plan other.plan (sym one.planned ∙ other.planned)

-- what a session may leave next
pub same_next : (p : Rules) (scene : Scene) (session : ℕ) (past : List Event) (one other : Mark) → Next p scene session one past → Next p scene session other past → SameMark one other
same_next p scene session past one other a b =
    let n : ℕ = (place scene.tries (acts session past)).command
    in let present : slice_get b.way.plan.commands n ≡ Some a.way.command = subst (λ (q : SessionPlan). slice_get q.commands n ≡ Some a.way.command) (same_plan scene session past a.way b.way) a.way.present
    in let same : a.way.command ≡ b.way.command = same_Some a.way.command b.way.command (sym present ∙ b.way.present)
    in let found : slice_get p.ops b.way.command.op ≡ Some a.op = subst (λ (c : Command). slice_get p.ops c.op ≡ Some a.op) same a.found
    in let same_op : a.op ≡ b.op = same_Some a.op b.op (sym found ∙ b.found)
    in let read : Reads p.shape a.op.body (number_of_args b.way.command.args) (marks (attempt (acts session past)) ++ one ∷ []) = subst (λ (c : Command). Reads p.shape a.op.body (number_of_args c.args) (marks (attempt (acts session past)) ++ one ∷ [])) same a.reads
    in same_mark p.shape b.op.body (number_of_args b.way.command.args) (marks (attempt (acts session past))) one other
    (subst (λ (o : OpRules). Reads p.shape o.body (number_of_args b.way.command.args) (marks (attempt (acts session past)) ++ one ∷ [])) same_op read) b.reads
