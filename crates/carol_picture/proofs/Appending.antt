-- Texts that are appended one after another.
use Rattle.std.proofs.Common.{◌≡◌, ℕ, List, ◌++◌, ◌∙◌, append_assoc}
use Rattle.std.specs.Prelude.{Result, Ok, Err, OnOk}

two_end : (old mid new a b : List ℕ) → mid ≡ old ++ a → new ≡ mid ++ b → new ≡ old ++ (a ++ b)
two_end old mid new a b first second = second ∙ (rw first (append_assoc old a b))

-- two of them
pub two : {T E : Type 0} (r : Result T E) (old mid new a b : List ℕ) → mid ≡ old ++ a → OnOk r (new ≡ mid ++ b) → OnOk r (new ≡ old ++ (a ++ b))
two (Ok t) old mid new a b first second = two_end old mid new a b first second
two (Err e) old mid new a b first second = tt

-- three of them
pub three : {T E : Type 0} (r : Result T E) (old mid next new a b c : List ℕ) → mid ≡ old ++ a → next ≡ mid ++ b → OnOk r (new ≡ next ++ c) → OnOk r (new ≡ old ++ (a ++ (b ++ c)))
three r old mid next new a b c first second third = two r old mid new a (b ++ c) first (two r mid next new b c second third)
