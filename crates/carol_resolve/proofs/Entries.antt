-- Entries of a map of names, as a scope.
use Rattle.std.proofs.Common.{Bor, ◌≡◌, ℕ, Bool, true, false, List, [], ◌∷◌, ◌++◌, map, take, Option, Some, None, refl, ap, ◌∙◌, sym}
use Rattle.std.specs.Prelude.{is_some, if◌then◌else◌, IfSome}
use Rattle.std.specs.Str.{bytes_eq}
use Rattle.std.specs.Map.{lookup}
use Rattle.std.specs.Option.{option_copied}
use Rattle.std.proofs.lemmas.Bool.{false≢true}
use Rattle.std.proofs.lemmas.List.{map-append, take-map}
use Rattle.carol_meaning.specs.declared.meaning.Meaning.{Meaning}
use Rattle.carol_meaning.specs.Scopes.{meaning_of, unless_known, declared}
use Rattle.carol_resolve.specs.Scoped.{IsSafe, AreSafe}

-- a look-up in the entries is one in the scope
pub lookup-scope : {K : Type 0} (now : K → List ℕ) (word : List ℕ) (entries : List (K × Meaning)) → lookup (λ k. bytes_eq word (now k)) entries ≡ meaning_of word (map (λ e. (now e.0, e.1)) entries)
lookup-scope now word [] = refl
lookup-scope now word (e ∷ es) = ap (λ rest. if bytes_eq word (now e.0) then Some e.1 else rest) (lookup-scope now word es)

if-safe : (b : Bool) (m : Meaning) (rest : Option Meaning) → IsSafe m → IfSome rest IsSafe → IfSome (if b then Some m else rest) IsSafe
if-safe true m rest h k = h
if-safe false m rest h k = k

-- what is looked up is safe
pub meaning-safe : (word : List ℕ) (scope : List (List ℕ × Meaning)) → AreSafe scope → IfSome (meaning_of word scope) IsSafe
meaning-safe word [] h = tt
meaning-safe word (e ∷ es) h = if-safe (bytes_eq word e.0) e.1 (meaning_of word es) h.0 (meaning-safe word es h.1)

pub safe-append : (scope : List (List ℕ × Meaning)) (word : List ℕ) (m : Meaning) → AreSafe scope → IsSafe m → AreSafe (scope ++ (word, m) ∷ [])
safe-append [] word m h k = (k, tt)
safe-append (e ∷ es) word m h k = (h.0, safe-append es word m h.1 k)

-- a name that is there
pub known : (o : Option Meaning) (wider scope : List (List ℕ × Meaning)) → true ≡ is_some o → unless_known o wider scope ≡ scope
known None wider scope h = absurd (false≢true (sym h))
known (Some m) wider scope h = refl

-- a name that is not there
pub fresh : (o : Option Meaning) (wider scope : List (List ℕ × Meaning)) → false ≡ is_some o → unless_known o wider scope ≡ wider
fresh None wider scope h = refl
fresh (Some m) wider scope h = absurd (false≢true h)

pub none-of : {X : Type 0} (o : Option X) → false ≡ is_some o → o ≡ None
none-of None h = refl
none-of (Some x) h = absurd (false≢true h)

-- an entry of the map, as one of a scope
abbrev pub as_entry : {K : Type 0} → (K → List ℕ) → K × Meaning → List ℕ × Meaning
as_entry now e = (now e.0, e.1)

-- one entry more, as a scope
pub more-entries : {K : Type 0} (now : K → List ℕ) (entries new : List (K × Meaning)) (k : K) (m : Meaning) → new ≡ entries ++ (k, m) ∷ [] → map (as_entry now) new ≡ map (as_entry now) entries ++ (now k, m) ∷ []
more-entries now entries new k m made = rw made (map-append (as_entry now) entries ((k, m) ∷ []))

pub declared-entries : {K : Type 0} (now : K → List ℕ) (entries new : List (K × Meaning)) (k : K) (m : Meaning) → new ≡ entries ++ (k, m) ∷ [] → false ≡ is_some (lookup (λ x. bytes_eq (now k) (now x)) entries) → map (as_entry now) new ≡ declared (now k) m (map (as_entry now) entries)
declared-entries now entries new k m made none =
    more-entries now entries new k m made ∙
    sym (fresh (meaning_of (now k) (map (as_entry now) entries)) (map (as_entry now) entries ++ (now k, m) ∷ []) (map (as_entry now) entries) (none ∙ ap is_some (lookup-scope now (now k) entries)))

pub copied-safe : (o : Option (Bor Meaning)) → IfSome (option_copied o) IsSafe → IfSome o (λ m. IsSafe m.now)
copied-safe None h = tt
copied-safe (Some m) h = h

-- the first entries, as a scope
pub taken-entries : {K : Type 0} (now : K → List ℕ) (n : ℕ) (entries new : List (K × Meaning)) → new ≡ take n entries → map (as_entry now) new ≡ take n (map (as_entry now) entries)
taken-entries now n entries new is = rw is (sym (take-map (as_entry now) n entries))
