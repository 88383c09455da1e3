-- A collector that is handed one list after another.
use Rattle.std.proofs.Common.{◌≡◌, List, [], ◌∷◌, ◌++◌, refl, sym, ◌∙◌, subst}
use Rattle.std.specs.Prelude.{Result, Ok, Err, OnOk}
use Rattle.std.proofs.lemmas.List.{append_assoc, append-nil}
use Rattle.carol_formula.specs.Claim.{Claim}
use Rattle.carol_program.specs.declared.places.Place.{Place}
use Rattle.carol_obligation.specs.Passing.{Passes}

-- of all that is to be handed over, the rest is left
abbrev pub Gathered : {S : Type 0} → (S → List (Place × Claim) → Type 0) → S → S → List (Place × Claim) → List (Place × Claim) → Type 0
Gathered holds old now rest all =
    (taken : List (Place × Claim)) → holds old taken → (mid : List (Place × Claim)) × holds now mid × (mid ++ rest ≡ taken ++ all)

pub gathered_start : {S : Type 0} (holds : S → List (Place × Claim) → Type 0) (s : S) (all : List (Place × Claim)) → Gathered holds s s all all
gathered_start holds s all taken h = (taken, h, refl)

pub gathered_more : {S : Type 0} (holds : S → List (Place × Claim) → Type 0) (old now new : S) (added rest all : List (Place × Claim)) → Gathered holds old now (added ++ rest) all → Passes holds now new added → Gathered holds old new rest all
gathered_more holds old now new added rest all g h taken t =
    let m = g taken t in
    (m.0 ++ added, h m.0 m.1, append_assoc m.0 added rest ∙ m.2)

pub gathered_end : {S : Type 0} (holds : S → List (Place × Claim) → Type 0) (old now new : S) (rest all : List (Place × Claim)) → Gathered holds old now rest all → Passes holds now new rest → Passes holds old new all
gathered_end holds old now new rest all g h taken t =
    let m = g taken t in
    subst (holds new) m.2 (h m.0 m.1)

-- nothing is handed over
pub passes_none : {S : Type 0} (holds : S → List (Place × Claim) → Type 0) (s : S) → Passes holds s s []
passes_none holds s taken h = subst (holds s) (sym (append-nil taken)) h

-- the same formula in other words
pub passed_as : {S A E : Type 0} (holds : S → List (Place × Claim) → Type 0) (old new : S) (r : Result A E) (place : Place) (f g : Claim) → f ≡ g → OnOk r (Passes holds old new ((place, f) ∷ [])) → OnOk r (Passes holds old new ((place, g) ∷ []))
passed_as holds old new r place f g e h = subst (λ x. OnOk r (Passes holds old new ((place, x) ∷ []))) e h

-- one list behind another
pub passed_then : {S A E : Type 0} (holds : S → List (Place × Claim) → Type 0) (old mid new : S) (r : Result A E) (first second : List (Place × Claim)) → Passes holds old mid first → OnOk r (Passes holds mid new second) → OnOk r (Passes holds old new (first ++ second))
passed_then holds old mid new (Ok a) first second g h = λ taken t. subst (holds new) (append_assoc taken first second) (h (taken ++ first) (g taken t))
passed_then holds old mid new (Err e) first second g h = tt
