-- The first fault of a program is one line.
use Rattle.std.proofs.Common.{◌≡◌, ℕ, zero, suc, Bool, false, List, [], ◌∷◌, ◌++◌, refl, sym, ◌∙◌, ap, subst, arith}
use Rattle.std.specs.Prelude.{nat_lt, ◌==◌, ◌&&◌, ◌||◌}
use Rattle.std.specs.List.{AllByRecursion}
use Rattle.std.proofs.lemmas.Bool.Decides.{nat_tests}
use Rattle.carol_meaning.specs.declared.fault.NameKind.{NameKind}
use Rattle.carol_meaning.specs.declared.fault.NameKind.TheVariants.{Twice, Unknown, WrongKind, TooMany, TooWide}
use Rattle.carol_meaning.specs.declared.fault.Fault.{Fault}
use Rattle.carol_meaning.specs.Faults.{IsFirst, IsOf, is_before, rank}
use Rattle.carol_reply.specs.declared.line.Line.TheVariants as line
use Rattle.carol_prepare.specs.Named.{name_line}

-- the kind with a rank
kind_of : ℕ → NameKind
kind_of zero = Twice
kind_of (suc zero) = Unknown
kind_of (suc (suc zero)) = WrongKind
kind_of (suc (suc (suc zero))) = TooMany
kind_of (suc (suc (suc (suc n)))) = TooWide

kind_of-rank : (k : NameKind) → kind_of (rank k) ≡ k
unfolding kind_of
kind_of-rank Twice = refl
kind_of-rank Unknown = refl
kind_of-rank WrongKind = refl
kind_of-rank TooMany = refl
kind_of-rank TooWide = refl

rank-same : (k l : NameKind) → rank k ≡ rank l → k ≡ l
rank-same k l e = sym (kind_of-rank k) ∙ (ap kind_of e ∙ kind_of-rank l)

abbrev before : (a b c d m n : ℕ) → Bool
before a b c d m n = nat_lt a b || (a == b && (nat_lt c d || (c == d && nat_lt m n)))

same_line : (a b c d m n : ℕ) → before a b c d m n ≡ false → before b a d c n m ≡ false → a ≡ b
same_line a b c d m n h g = grind (arith, nat_tests)

same_column : (a b c d m n : ℕ) → a ≡ b → before a b c d m n ≡ false → before b a d c n m ≡ false → c ≡ d
same_column a b c d m n e h g = grind (arith, nat_tests)

same_rank : (a b c d m n : ℕ) → a ≡ b → c ≡ d → before a b c d m n ≡ false → before b a d c n m ≡ false → m ≡ n
same_rank a b c d m n e f h g = grind (arith, nat_tests)

all_in : {A : Type 0} (P : A → Type 0) (before after : List A) (x : A) → AllByRecursion P (before ++ x ∷ after) → P x
all_in P [] after x h = h.0
all_in P (y ∷ ys) after x h = all_in P ys after x h.1

-- what is of the list has what each of it has
of_all : (P : Fault → Type 0) (f : Fault) (fs : List Fault) → IsOf f fs → AllByRecursion P fs → P f
of_all P f fs of h = all_in P of.0 of.1 f (subst (AllByRecursion P) of.2 h)

pub first_none : (f : Fault) → IsFirst f [] → ⊥
first_none f h = none h.is_of.0 h.is_of.1 h.is_of.2
  where
    none : (before after : List Fault) → [] ≡ before ++ f ∷ after → ⊥
    none [] after e = grind arith
    none (g ∷ before) after e = grind arith

pub first_line : (f g : Fault) (fs : List Fault) → IsFirst f fs → IsFirst g fs → name_line f ≡ name_line g
first_line f g fs h k =
    let late = of_all (λ x. is_before x g ≡ false) f fs h.is_of k.first in
    let early = of_all (λ x. is_before x f ≡ false) g fs k.is_of h.first in
    let row = same_line f.span.line g.span.line f.span.column g.span.column (rank f.kind) (rank g.kind) late early in
    let column = same_column f.span.line g.span.line f.span.column g.span.column (rank f.kind) (rank g.kind) row late early in
    let kind = rank-same f.kind g.kind (same_rank f.span.line g.span.line f.span.column g.span.column (rank f.kind) (rank g.kind) row column late early) in
    ap (λ x. line.BadName x f.span.column f.kind) row ∙ (ap (λ x. line.BadName g.span.line x f.kind) column ∙ ap (λ x. line.BadName g.span.line g.span.column x) kind)
