-- Lists that are gone through: one item more.
use Rattle.std.proofs.Common.{◌≡◌, List, [], ◌∷◌, ◌++◌, map, ap, sym, ◌∙◌, append_assoc}
use Rattle.std.specs.Prelude.{Option}
use Rattle.std.specs.List.{flat_map}
use Rattle.std.proofs.lemmas.List.{map-append}
use Rattle.carol_meaning.specs.declared.fault.Fault.{Fault}
use Rattle.carol_meaning.specs.Faults.{earliest}
use Rattle.carol_names.proofs.NameLaws.{earliest-append}

-- the faults of one item more
pub faults-on : {B : Type 0} (f : B → List Fault) (y : B) (here on : List B) (kept now whole : Option Fault) → here ≡ y ∷ on → now ≡ earliest kept (f y) → earliest kept (flat_map f here) ≡ whole → earliest now (flat_map f on) ≡ whole
faults-on f y here on kept now whole is noted so_far =
    ap (λ k. earliest k (flat_map f on)) noted ∙
    sym (earliest-append kept (f y) (flat_map f on)) ∙
    ap (λ ys. earliest kept (flat_map f ys)) (sym is) ∙
    so_far

-- the meaning of one item more
pub items-on : {B C : Type 0} (m : B → C) (y : B) (here on : List B) (done now whole : List C) (c : C) → here ≡ y ∷ on → now ≡ done ++ c ∷ [] → c ≡ m y → done ++ map m here ≡ whole → now ++ map m on ≡ whole
items-on m y here on done now whole c is pushed meant so_far =
    ap (λ cs. cs ++ map m on) pushed ∙
    append_assoc done (c ∷ []) (map m on) ∙
    ap (λ d. done ++ d ∷ map m on) meant ∙
    ap (λ ys. done ++ map m ys) (sym is) ∙
    so_far

-- the same, where items are kept that have this view
pub views-on : {B C R : Type 0} (m : B → C) (view : R → C) (y : B) (here on : List B) (done now : List R) (whole : List C) (r : R) → here ≡ y ∷ on → now ≡ done ++ r ∷ [] → view r ≡ m y → map view done ++ map m here ≡ whole → map view now ++ map m on ≡ whole
views-on m view y here on done now whole r is pushed meant so_far =
    items-on m y here on (map view done) (map view now) whole (view r) is (ap (map view) pushed ∙ map-append view done (r ∷ [])) meant so_far
