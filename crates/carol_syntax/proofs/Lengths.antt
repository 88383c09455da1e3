-- Keywords of another length than a word's make no difference to what it is.
use Rattle.std.proofs.Common.{◌≡◌, ◌≢◌, ℕ, Bool, true, false, eqb, cond, length, List, [], ◌∷◌, refl, sym, ◌∙◌, ap, arith}
use Rattle.std.specs.Str.{bytes_eq}
use Rattle.std.proofs.lemmas.Bool.{cond-false}
use Rattle.std.proofs.lemmas.Bool.Decides.{nat_tests}
use Rattle.std.proofs.lemmas.Slice.Eq.{bytes_eq-Decides}
use Rattle.carol_syntax.specs.declared.kind.Kind.{Kind}
use Rattle.carol_syntax.specs.Keywords.{kind_in, keyword_kinds, of_length}

differ : (xs ys : List ℕ) → eqb (length xs) (length ys) ≡ false → (b : Bool) → bytes_eq xs ys ≡ b → b ≡ false
differ xs ys e true f =
    let same : length xs ≡ length ys = ap length ((bytes_eq-Decides xs ys).0 f) in
    grind (arith, nat_tests)
differ xs ys e false f = refl

-- whether the entry has the length or not
kept : (entry : List ℕ × Kind) (few all : List (List ℕ × Kind)) (word : List ℕ) (b : Bool) → eqb (length entry.0) (length word) ≡ b → kind_in few word ≡ kind_in all word → kind_in (cond b (entry ∷ few) few) word ≡ cond (bytes_eq entry.0 word) entry.1 (kind_in all word)
unfolding kind_in
kept entry few all word true e h = ap (λ z. cond (bytes_eq entry.0 word) entry.1 z) h
kept entry few all word false e h = h ∙ sym (cond-false (bytes_eq entry.0 word) entry.1 (kind_in all word) (differ entry.0 word e (bytes_eq entry.0 word) refl))

pub only_length : (entries : List (List ℕ × Kind)) (word : List ℕ) → kind_in (of_length (length word) entries) word ≡ kind_in entries word
unfolding kind_in of_length
only_length [] word = refl
only_length (entry ∷ entries) word = kept entry (of_length (length word) entries) entries word (eqb (length entry.0) (length word)) refl (only_length entries word)

apart : (n m : ℕ) → n ≢ m → eqb m n ≡ false
apart n m h = grind (arith, nat_tests)

-- no keyword has another length than these
pub no_others : (n : ℕ) → n ≢ 2 → n ≢ 3 → n ≢ 4 → n ≢ 5 → n ≢ 6 → n ≢ 7 → n ≢ 8 → n ≢ 9 → n ≢ 10 → [] ≡ of_length n keyword_kinds
unfolding of_length
no_others n h2 h3 h4 h5 h6 h7 h8 h9 h10 = rw (apart n 2 h2, apart n 3 h3, apart n 4 h4, apart n 5 h5, apart n 6 h6, apart n 7 h7, apart n 8 h8, apart n 9 h9, apart n 10 h10) refl
