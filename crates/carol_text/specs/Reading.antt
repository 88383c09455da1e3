-- Reading a text from its front, on lists of bytes.
use Rattle.std.specs.Prelude.{◌≡◌, ℕ, suc, List, [], ◌∷◌, length, Result, Ok, Err, ◌==◌, if◌then◌else◌}
use Rattle.carol_text.specs.declared.bad_byte.BadByte.{BadByte}

-- What reading gives: a value and the bytes after it, or how many bytes are left from the first bad
-- one on.
abbrev pub Reading : Type 0 → Type 0
Reading X = Result (X × List ℕ) ℕ

-- The second reading goes on from what the first gave.
infixl 10 ◌>>=◌
abbrev pub ◌>>=◌ : {X Y : Type 0} → Result X ℕ → (X → Result Y ℕ) → Result Y ℕ
(Ok x) >>= f = f x
(Err left) >>= f = Err left

-- What a function returned, its value seen through `view`, is what reading on lists gives.
abbrev pub Reads : {X Y : Type 0} → (X → Y) → Result X BadByte → Result Y ℕ → Type 0
Reads view (Ok x) reading = reading ≡ Ok (view x)
Reads view (Err e) reading = reading ≡ Err e.left

-- The bytes after a fixed word. The first byte that differs from it is bad.
unfoldable pub word_at : List ℕ → List ℕ → Result (List ℕ) ℕ
word_at [] bytes = Ok bytes
word_at (w ∷ ws) [] = Err 0
word_at (w ∷ ws) (b ∷ bs) = if b == w then word_at ws bs else Err (suc (length bs))
