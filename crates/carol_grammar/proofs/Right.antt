use Rattle.std.proofs.Common.{◌≡◌, ℕ, Bool, true, false, List, [], ◌∷◌, ◌++◌}
use Rattle.carol_grammar.specs.Sets.{has, within}
use Rattle.carol_grammar.specs.Reading.{Reading, next_in}
use Rattle.carol_grammar.specs.Reading.Reading.{got, stuck}
use Rattle.carol_grammar.proofs.SetLemmas.{has-within, next_within}

-- A reading of lists is right for a language: its sentences begin with the kinds of begin, go on
-- with those of goes, and are empty only where empty says so.
pub record Right {T A : Type 0} (kind : T → ℕ) (L : List T → A → Type 0) (r : List T → Reading T A) (begin goes : List ℕ) (empty : Bool) : Type 0 where
  pub sound : (ts : List T) (v : A) (rest : List T) → r ts ≡ got v rest → (front : List T) × (ts ≡ front ++ rest) × L front v
  pub complete : (front : List T) (v : A) (rest : List T) → L front v → next_in kind goes rest ≡ false → r (front ++ rest) ≡ got v rest
  pub viable : (ts rest : List T) → r ts ≡ stuck rest → (front : List T) × (ts ≡ front ++ rest) × (more : List T) × (v : A) × L (front ++ more) v
  pub begins : (t : T) (ts : List T) (v : A) → L (t ∷ ts) v → has begin (kind t) ≡ true
  pub filled : (v : A) → L [] v → empty ≡ true
  pub some : (ts : List T) × (v : A) × L ts v

-- a sentence that isn't empty opens with one of the kinds
pub opens : {T A : Type 0} (kind : T → ℕ) (L : List T → A → Type 0) (r : List T → Reading T A) (b g : List ℕ) (d : Bool) → Right kind L r b g d → d ≡ false → (x rest : List T) (v : A) → L x v → next_in kind b (x ++ rest) ≡ true
opens kind L r b g d R e [] rest v l = let h : d ≡ true = R.filled v l in cc
opens kind L r b g d R e (t ∷ x) rest v l = R.begins t x v l

-- the same with larger sets
pub widen : {T A : Type 0} (kind : T → ℕ) (L : List T → A → Type 0) (r : List T → Reading T A) (b g b' g' : List ℕ) (d : Bool) → Right kind L r b g d → within b b' ≡ true → within g g' ≡ true → Right kind L r b' g' d
widen kind L r b g b' g' d R wb wg = record {
  sound = R.sound;
  complete = λ front v rest l h. R.complete front v rest l (next_within kind g g' rest wg h);
  viable = R.viable;
  begins = λ t ts v l. has-within b b' (kind t) wb (R.begins t ts v l);
  filled = R.filled;
  some = R.some;
}
