-- The obligations that the walk makes are those of the places.
use Rattle.std.proofs.Common.{◌≡◌, ℕ, ◌+◌, true, false, List, [], ◌∷◌, ◌++◌, refl, sym, ◌∙◌, ap, subst}
use Rattle.std.specs.Prelude.{map, Option, Some, None, slice_get}
use Rattle.std.proofs.lemmas.List.{append_assoc, map-append}
use Rattle.carol_store.specs.declared.shape.CellKind.{CellKind}
use Rattle.carol_store.specs.declared.shape.CellKind.TheVariants.{Counter, Peak, Flag}
use Rattle.carol_formula.specs.Claim.{Claim, True}
use Rattle.carol_program.specs.declared.places.Place.{Place}
use Rattle.carol_program.specs.declared.steps.Part.{Part}
use Rattle.carol_program.specs.Bodies.{Body, Query, Issue, Release, Branch, Return}
use Rattle.carol_program.specs.Rules.{Rules, OpRules}
use Rattle.carol_obligation.specs.Ways.{Way, Asks, Puts, Frees, Tests, rounds_of, has_query}
use Rattle.carol_obligation.specs.Sites.{After, Site, amount_site, amount_sites, sites}
use Rattle.carol_obligation.specs.Formed.{known_along, with_all}
use Rattle.carol_obligation.specs.Places.{obligation_of, obligations_at}
use Rattle.carol_obligation.specs.Collected.{Point, amount_owed, amounts_owed, collected}
use Rattle.carol_obligation.specs.Passing.{Passes}

-- where a body begins to which the way leads
abbrev point_along : Rules → OpRules → ℕ → Way → Point
point_along p op number way = record { op = op; number = number; known = known_along p op way; round = rounds_of way; asked = has_query way }

one_amount : (p : Rules) (op : OpRules) (number n atom : ℕ) (way : Way) (part : Part) (kind : Option CellKind) →
    amount_owed p (point_along p op number way) n atom part kind ≡ map (obligation_of p number op) (amount_site way n atom part kind)
one_amount p op number n atom way part None = refl
one_amount p op number n atom way part (Some Flag) = refl
one_amount p op number n atom way part (Some Counter) = refl
one_amount p op number n atom way part (Some Peak) = refl

all_amounts : (p : Rules) (op : OpRules) (number n atom : ℕ) (way : Way) (parts : List Part) →
    amounts_owed p (point_along p op number way) n atom parts ≡ map (obligation_of p number op) (amount_sites p.shape way n atom parts)
all_amounts p op number n atom way [] = refl
all_amounts p op number n atom way (part ∷ parts) =
    let f = obligation_of p number op in
    let first = amount_site way n atom part (slice_get p.shape part.cell) in
    let more = amount_sites p.shape way n (atom + 1) parts in
    ap (λ xs. xs ++ amounts_owed p (point_along p op number way) n (atom + 1) parts) (one_amount p op number n atom way part (slice_get p.shape part.cell))
    ∙ (ap (λ ys. map f first ++ ys) (all_amounts p op number n (atom + 1) way parts) ∙ sym (map-append f first more))

-- the obligations of a body are those of its places
pub collected-sites : (p : Rules) (op : OpRules) (number : ℕ) (b : Body) (way : Way) →
    collected p (point_along p op number way) b ≡ map (obligation_of p number op) (sites p.shape b way)
collected-sites p op number (Query n guard slot next) way = collected-sites p op number next (Asks guard slot ∷ way)
collected-sites p op number (Issue n parts next) way =
    let f = obligation_of p number op in
    let at = point_along p op number way in
    let amounts = amount_sites p.shape way n 1 parts in
    let here : Site = record { way = way; number = n; ending = After parts } in
    let more = sites p.shape next (Puts parts ∷ way) in
    append_assoc (amounts_owed p at n 1 parts) (f here ∷ []) (collected p (point_along p op number (Puts parts ∷ way)) next)
    ∙ (ap (λ xs. xs ++ f here ∷ collected p (point_along p op number (Puts parts ∷ way)) next) (all_amounts p op number n 1 way parts)
    ∙ (ap (λ ys. map f amounts ++ f here ∷ ys) (collected-sites p op number next (Puts parts ∷ way)) ∙ sym (map-append f amounts (here ∷ more))))
collected-sites p op number (Release n next) way = collected-sites p op number next (Frees ∷ way)
collected-sites p op number (Branch n test first second) way =
    let f = obligation_of p number op in
    ap (λ xs. xs ++ collected p (point_along p op number (Tests test false ∷ way)) second) (collected-sites p op number first (Tests test true ∷ way))
    ∙ (ap (λ ys. map f (sites p.shape first (Tests test true ∷ way)) ++ ys) (collected-sites p op number second (Tests test false ∷ way))
    ∙ sym (map-append f (sites p.shape first (Tests test true ∷ way)) (sites p.shape second (Tests test false ∷ way))))
collected-sites p op number (Return n value) way = refl

-- what a whole operation's walk hands over
pub whole_owed : {S : Type 0} (holds : S → List (Place × Claim) → Type 0) (old new : S) (p : Rules) (op : OpRules) (number : ℕ) (known : Claim) → known ≡ with_all op.params True →
    Passes holds old new (collected p (record { op = op; number = number; known = known; round = 0; asked = false }) op.body) → Passes holds old new (obligations_at p number op)
whole_owed holds old new p op number known e h =
    subst (Passes holds old new) (collected-sites p op number op.body []) (subst (λ k. Passes holds old new (collected p (record { op = op; number = number; known = k; round = 0; asked = false }) op.body)) e h)
