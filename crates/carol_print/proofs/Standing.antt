-- Pieces that stand by themselves, whatever comes behind them, or whatever lengthens no token.
use Rattle.std.proofs.Common.{◌≡◌, ℕ, Bool, true, false, List, [], ◌∷◌, ◌++◌, refl, ◌∙◌, map}
use Rattle.std.specs.Prelude.{not, ◌&&◌, ◌==◌}
use Rattle.std.specs.List.{AllByRecursion}
use Rattle.carol_syntax.specs.declared.places.Ident.{Ident}
use Rattle.carol_syntax.specs.Words.{is_word_byte}
use Rattle.carol_syntax.specs.Shape.{IsName}
use Rattle.carol_syntax.specs.declared.kind.Kind.{Kind}
use Rattle.carol_syntax.specs.declared.kind.Kind.TheVariants as k
use Rattle.carol_print.specs.Pieces.{text_of, IsSpelled, AreLaidBefore, ends, ends_before}
use Rattle.carol_print.specs.Canonical.{Pieces, after_commas, with_commas, concat}
use Rattle.carol_print.proofs.Fixed.{fixed_spelled}
use Rattle.carol_print.proofs.Words.{name_spelled}
use Rattle.carol_print.proofs.LaidLists.{laid_before_both}

-- the bytes lengthen no token
abbrev pub are_soft : List ℕ → Bool
are_soft [] = true
are_soft (b ∷ bytes) = not (is_word_byte b) && not (b == 61)

-- laid out whatever stands behind
abbrev pub Stands : Pieces → Type 0
Stands ps = (bytes : List ℕ) → AreLaidBefore bytes ps

-- laid out before what lengthens no token
abbrev pub Fits : Pieces → Type 0
Fits ps = (bytes : List ℕ) → are_soft bytes ≡ true → AreLaidBefore bytes ps

abbrev pub AllFit : {A : Type 0} → (A → Type 0) → (A → Pieces) → Type 0
AllFit {A} P f = (a : A) → P a → Fits (f a)

abbrev pub AllStand : {A : Type 0} → (A → Type 0) → (A → Pieces) → Type 0
AllStand {A} P f = (a : A) → P a → Stands (f a)

pub soft_kind : (kind : Kind) → ((b : ℕ) → ends kind b ≡ not (is_word_byte b)) → (bytes : List ℕ) → are_soft bytes ≡ true → ends_before kind bytes ≡ true
soft_kind kind e [] h = refl
soft_kind kind e (b ∷ bytes) h =
    e b ∙ elim (is_word_byte b) as (λ v. (not v && not (b == 61)) ≡ true → not v ≡ true) [ true ↦ λ d. d | false ↦ λ _. refl ] h

pub any_kind : (kind : Kind) → ((b : ℕ) → ends kind b ≡ true) → (bytes : List ℕ) → ends_before kind bytes ≡ true
any_kind kind e [] = refl
any_kind kind e (b ∷ bytes) = e b

pub soft_both : (first second : Pieces) (bytes : List ℕ) → Fits first → are_soft (text_of second ++ bytes) ≡ true → AreLaidBefore bytes second → AreLaidBefore bytes (first ++ second)
soft_both first second bytes fits soft more = laid_before_both bytes first second (fits (text_of second ++ bytes) soft) more

pub stands_both : (first second : Pieces) (bytes : List ℕ) → Stands first → AreLaidBefore bytes second → AreLaidBefore bytes (first ++ second)
stands_both first second bytes stands more = laid_before_both bytes first second (stands (text_of second ++ bytes)) more

pub named : (i : Ident) → IsName i → IsSpelled k.Name 0 i.word
named i h = name_spelled i.word h.0 h.1 h.2

after_commas_fit : {A : Type 0} (P : A → Type 0) (f : A → Pieces) → AllFit P f → (xs : List A) → AllByRecursion P xs → Fits (after_commas (map f xs))
after_commas_fit P f one [] h bytes soft = tt
after_commas_fit P f one (x ∷ []) h bytes soft =
    (fixed_spelled k.Comma refl, refl, refl, soft_both (f x) [] bytes (one x h.0) soft tt)
after_commas_fit P f one (x ∷ y ∷ xs) h bytes soft =
    (fixed_spelled k.Comma refl, refl, refl, soft_both (f x) (after_commas (map f (y ∷ xs))) bytes (one x h.0) refl (after_commas_fit P f one (y ∷ xs) h.1 bytes soft))

pub with_commas_fit : {A : Type 0} (P : A → Type 0) (f : A → Pieces) → AllFit P f → (xs : List A) → AllByRecursion P xs → Fits (with_commas (map f xs))
with_commas_fit P f one [] h bytes soft = tt
with_commas_fit P f one (x ∷ []) h bytes soft = soft_both (f x) [] bytes (one x h.0) soft tt
with_commas_fit P f one (x ∷ y ∷ xs) h bytes soft =
    soft_both (f x) (after_commas (map f (y ∷ xs))) bytes (one x h.0) refl (after_commas_fit P f one (y ∷ xs) h.1 bytes soft)

pub rows_stand : {A : Type 0} (P : A → Type 0) (f : A → Pieces) → AllStand P f → (xs : List A) → AllByRecursion P xs → Stands (concat (map f xs))
rows_stand P f one [] h bytes = tt
rows_stand P f one (x ∷ xs) h bytes = stands_both (f x) (concat (map f xs)) bytes (one x h.0) (rows_stand P f one xs h.1 bytes)
