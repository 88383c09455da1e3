-- The first of the faults of two parts.
use Rattle.std.proofs.Common.{◌≡◌, ◌<◌, ℕ, ◌+◌, List, [], ◌∷◌, ◌++◌, length, get_or, drop, add-one, drop-cons, refl}
use Rattle.std.specs.Prelude.{Some}
use Rattle.carol_scenario.specs.declared.error.SceneError.{SceneError}
use Rattle.carol_scenario.specs.declared.error.SceneError.TheVariants.{OutOfRange, Unknown, Arity, NoSuchReplica, BadArgument, NoMemory}
use Rattle.carol_scenario.specs.Faults.{first_of, Refuses}

-- nothing is wrong with two parts where nothing is wrong with each
pub none_of : (xs ys : List SceneError) → xs ≡ [] → ys ≡ [] → xs ++ ys ≡ []
none_of xs ys none h = rw none h

pub none_of_former : (xs ys : List SceneError) → xs ++ ys ≡ [] → xs ≡ []
none_of_former [] ys h = refl
none_of_former (x ∷ xs) ys h = absurd cc

pub none_of_latter : (xs ys : List SceneError) → xs ++ ys ≡ [] → ys ≡ []
none_of_latter [] ys h = h
none_of_latter (x ∷ xs) ys h = absurd cc

first_more : (xs ys : List SceneError) (e : SceneError) → first_of xs ≡ Some e → first_of (xs ++ ys) ≡ Some e
first_more [] ys e h = absurd cc
first_more (x ∷ xs) ys e h = h

-- what refuses the former part refuses both
pub refuses_more : (xs ys : List SceneError) (e : SceneError) → Refuses xs e → Refuses (xs ++ ys) e
refuses_more xs ys (OutOfRange limit span) h = first_more xs ys _ h
refuses_more xs ys (Unknown span) h = first_more xs ys _ h
refuses_more xs ys (Arity span) h = first_more xs ys _ h
refuses_more xs ys (NoSuchReplica session) h = first_more xs ys _ h
refuses_more xs ys (BadArgument session command parameter) h = first_more xs ys _ h
refuses_more xs ys NoMemory h = tt

-- what refuses the latter part refuses both, where nothing is wrong with the former
pub refuses_behind : (xs ys : List SceneError) (e : SceneError) → xs ≡ [] → Refuses ys e → Refuses (xs ++ ys) e
refuses_behind xs ys e none h = rw none h

-- an item of a list before what follows it
pub item_at : {A : Type 0} (xs : List A) (i : ℕ) (x : A) → i < length xs → x ≡ get_or xs i x → drop i xs ≡ x ∷ drop (i + 1) xs
item_at xs i x lt is = rw (add-one i, drop-cons xs i x lt, ← is) refl
