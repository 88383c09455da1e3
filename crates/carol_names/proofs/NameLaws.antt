-- Words in a set, names that stand twice, and the earliest of faults.
use Rattle.std.proofs.Common.{◌≡◌, ◌<◌, ℕ, suc, ◌+◌, add-one, drop-cons, sym, get_or, length, drop, Bool, true, false, ◌||◌, List, [], ◌∷◌, ◌++◌, map, Option, Some, None, refl, ap, ◌∙◌}
use Rattle.std.proofs.lemmas.List.{map-append}
use Rattle.std.specs.Prelude.{if◌then◌else◌}
use Rattle.std.specs.List.{list_any, flat_map}
use Rattle.std.specs.Str.{bytes_eq}
use Rattle.indexmap.specs.IndexSet.{insert_key}
use Rattle.carol_meaning.specs.declared.fault.Fault.{Fault}
use Rattle.carol_meaning.specs.Faults.{earlier, earliest}
use Rattle.carol_meaning.specs.Declarations.{is_among}

-- what is kept of two lists of faults, one after the other
pub earliest-append : (kept : Option Fault) (fs gs : List Fault) → earliest kept (fs ++ gs) ≡ earliest (earliest kept fs) gs
earliest-append kept [] gs = refl
earliest-append kept (f ∷ fs) gs = earliest-append (earlier kept f) fs gs

-- keys that stand for words, looked through
pub among-keys : {A : Type 0} (now : A → List ℕ) (word : List ℕ) (keys : List A) → list_any (λ k. bytes_eq word (now k)) keys ≡ is_among word (map now keys)
among-keys now word [] = refl
among-keys now word (k ∷ ks) = ap (λ b. bytes_eq word (now k) || b) (among-keys now word ks)

if-map : {A : Type 0} (now : A → List ℕ) (b : Bool) (keys : List A) (key : A) → map now (if b then keys else keys ++ key ∷ []) ≡ (if b then map now keys else map now keys ++ now key ∷ [])
if-map now true keys key = refl
if-map now false keys key = map-append now keys (key ∷ [])

-- keys that stand for words, one more added
pub insert-keys : {A : Type 0} (now : A → List ℕ) (key : A) (keys : List A) → map now (insert_key (λ x y. bytes_eq (now x) (now y)) keys key) ≡ (if is_among (now key) (map now keys) then map now keys else map now keys ++ now key ∷ [])
insert-keys now key keys = if-map now (list_any (λ k. bytes_eq (now key) (now k)) keys) keys key ∙ ap (λ b. if b then map now keys else map now keys ++ now key ∷ []) (among-keys now (now key) keys)

-- an item of a list before what follows it
pub item_at : {A : Type 0} (xs : List A) (i : ℕ) (x : A) → i < length xs → x ≡ get_or xs i x → drop i xs ≡ x ∷ drop (i + 1) xs
item_at xs i x lt is = rw (add-one i, drop-cons xs i x lt, ← is) refl

-- the faults of one item more
pub faults_more : {A : Type 0} (f : A → List Fault) (xs : List A) (i : ℕ) (x : A) (kept new whole : Option Fault) → i < length xs → x ≡ get_or xs i x → new ≡ earliest kept (f x) → earliest kept (flat_map f (drop i xs)) ≡ whole → earliest new (flat_map f (drop (i + 1) xs)) ≡ whole
faults_more f xs i x kept new whole lt is made so_far =
    rw (made, ← earliest-append kept (f x) (flat_map f (drop (i + 1) xs))) (rw (item_at xs i x lt is) at so_far)

-- the faults of two parts, and of three
pub earliest-two : (kept one two : Option Fault) (fs gs : List Fault) → one ≡ earliest kept fs → two ≡ earliest one gs → two ≡ earliest kept (fs ++ gs)
earliest-two kept one two fs gs h k = rw (earliest-append kept fs gs, ← h) k

pub earliest-three : (kept one two three : Option Fault) (fs gs hs : List Fault) → one ≡ earliest kept fs → two ≡ earliest one gs → three ≡ earliest two hs → three ≡ earliest kept (fs ++ (gs ++ hs))
earliest-three kept one two three fs gs hs h k l = earliest-two kept one three fs (gs ++ hs) h (earliest-two one two three gs hs k l)

pub ruleset appended = (earliest-append)
