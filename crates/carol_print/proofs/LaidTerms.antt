-- Values, products and terms fit before what lengthens no token.
use Rattle.std.proofs.Common.{◌≡◌, ◌≤◌, ℕ, suc, Bool, true, false, List, [], ◌∷◌, ◌++◌, length, refl, arith, append_assoc, ◌⊎◌, inl, inr}
use Rattle.std.specs.Prelude.{ℤ, pos, negsuc, Option, Some, None, IfSome, IsSome}
use Rattle.std.specs.Fmt.{decimal}
use Rattle.std.specs.List.{AllByRecursion}
use Rattle.carol_syntax.specs.declared.places.Ident.{Ident}
use Rattle.carol_syntax.specs.declared.formulas.ValueKind.{ValueKind}
use Rattle.carol_syntax.specs.declared.formulas.ValueKind.TheVariants as way
use Rattle.carol_syntax.specs.declared.formulas.ValueDecl.{ValueDecl}
use Rattle.carol_syntax.specs.declared.formulas.ProductDecl.{ProductDecl}
use Rattle.carol_syntax.specs.declared.formulas.TermDecl.{TermDecl}
use Rattle.carol_syntax.specs.Limits.{largest}
use Rattle.carol_syntax.specs.Shape.{IsName, IsLiteral, IsWhole, HasParts, IsValue, IsProduct, IsTerm}
use Rattle.carol_syntax.specs.declared.kind.Kind.TheVariants as k
use Rattle.carol_print.specs.Pieces.{Space, text_of, AreLaidBefore, ends_before}
use Rattle.carol_print.specs.Canonical.{Pieces, opening, closing, name, number, int, after_dots, path, sized, value_as, value, product_of, product, added_sign, first_sign, more_products, sum_of, term}
use Rattle.carol_print.proofs.Standing.{are_soft, Fits, soft_kind, any_kind, soft_both, named}
use Rattle.carol_print.proofs.Unequal.{unequal_name, unequal_number}
use Rattle.carol_print.proofs.Fixed.{fixed_spelled}
use Rattle.carol_print.proofs.Numbers.{number_spelled}

soft_products : (ps : List ProductDecl) (bytes : List ℕ) → are_soft bytes ≡ true → are_soft (text_of (more_products ps) ++ bytes) ≡ true
soft_products [] bytes soft = soft
soft_products (p ∷ ps) bytes soft = refl

pub number_fits : (n : ℕ) → n ≤ largest → Fits (number n ∷ [])
number_fits n h bytes soft = (number_spelled n h, refl, soft_kind k.Number (λ _. refl) bytes soft, tt)

pub name_fits : (i : Ident) → IsName i → Fits (name i ∷ [])
name_fits i h bytes soft = (named i h, refl, soft_kind k.Name (λ _. refl) bytes soft, tt)

pub int_fits : (z : ℤ) → IsWhole z → Fits (int z)
int_fits (pos n) h bytes soft = number_fits n h bytes soft
int_fits (negsuc n) h bytes soft =
    let within : suc n ≤ largest = omega arith in
    (fixed_spelled k.Minus refl, refl, rw append_assoc (unequal_number (suc n) (decimal (suc n)) _ (number_spelled (suc n) within)), number_fits (suc n) within bytes soft)

dots_fit : (parts : List Ident) → AllByRecursion IsName parts → Fits (after_dots parts)
dots_fit [] h bytes soft = tt
dots_fit (i ∷ []) h bytes soft = (fixed_spelled k.Dot refl, refl, any_kind k.Dot (λ _. refl) _, name_fits i h.0 bytes soft)
dots_fit (i ∷ j ∷ more) h bytes soft =
    (fixed_spelled k.Dot refl, refl, any_kind k.Dot (λ _. refl) _, (named i h.0, refl, refl, dots_fit (j ∷ more) h.1 bytes soft))

pub path_fits : (parts : List Ident) → AllByRecursion IsName parts → Fits (path parts)
path_fits [] h bytes soft = tt
path_fits (i ∷ []) h bytes soft = name_fits i h.0 bytes soft
path_fits (i ∷ j ∷ more) h bytes soft = (named i h.0, refl, refl, dots_fit (j ∷ more) h.1 bytes soft)

closed : (ps : Pieces) → Fits ps → Fits (ps ++ closing ∷ [])
closed ps fits bytes soft = soft_both ps (closing ∷ []) bytes fits refl (fixed_spelled k.Closing refl, refl, any_kind k.Closing (λ _. refl) bytes, tt)

pub opened : (ps : Pieces) → Fits ps → Fits (opening ∷ (ps ++ closing ∷ []))
opened ps fits bytes soft = (fixed_spelled k.Opening refl, refl, any_kind k.Opening (λ _. refl) _, closed ps fits bytes soft)

sized_fits : (ps : Pieces) → Fits ps → Fits (sized ps)
sized_fits ps fits bytes soft = (fixed_spelled k.Size refl, refl, refl, opened ps fits bytes soft)

here_fits : (parts : List Ident) → AllByRecursion IsName parts → Fits (value_as way.Here parts)
here_fits parts h bytes soft = (fixed_spelled k.Here refl, refl, refl, (fixed_spelled k.Dot refl, refl, any_kind k.Dot (λ _. refl) _, path_fits parts h bytes soft))

there_fits : (parts : List Ident) → AllByRecursion IsName parts → Fits (value_as way.There parts)
there_fits parts h bytes soft = (fixed_spelled k.There refl, refl, refl, (fixed_spelled k.Dot refl, refl, any_kind k.Dot (λ _. refl) _, path_fits parts h bytes soft))

value_as_fits : (kind : ValueKind) (parts : List Ident) → AllByRecursion IsName parts → Fits (value_as kind parts)
value_as_fits way.Outcome parts h bytes soft = (fixed_spelled k.Result refl, refl, soft_kind k.Result (λ _. refl) bytes soft, tt)
value_as_fits way.Plain parts h bytes soft = path_fits parts h bytes soft
value_as_fits way.Here parts h bytes soft = here_fits parts h bytes soft
value_as_fits way.There parts h bytes soft = there_fits parts h bytes soft
value_as_fits way.Size parts h bytes soft = sized_fits (path parts) (path_fits parts h) bytes soft
value_as_fits way.SizeHere parts h bytes soft = sized_fits (value_as way.Here parts) (here_fits parts h) bytes soft
value_as_fits way.SizeThere parts h bytes soft = sized_fits (value_as way.There parts) (there_fits parts h) bytes soft

value_fits : (v : ValueDecl) → IsValue v → Fits (value v)
value_fits v h = value_as_fits v.kind v.parts h.1

product_of_fits : (factor : Option ℕ) (v : Option ValueDecl) → IfSome factor IsLiteral → IfSome v IsValue → Fits (product_of factor v)
product_of_fits None None f h bytes soft = tt
product_of_fits None (Some v) f h bytes soft = value_fits v h bytes soft
product_of_fits (Some n) None f h bytes soft = number_fits n f bytes soft
product_of_fits (Some n) (Some v) f h bytes soft =
    (number_spelled n f, refl, refl, (fixed_spelled k.Star refl, refl, any_kind k.Star (λ _. refl) _, value_fits v h bytes soft))

product_fits : (p : ProductDecl) → IsProduct p → Fits (product p)
product_fits p h = product_of_fits p.factor p.value h.0 h.1

unequal_value : (kind : ValueKind) (parts : List Ident) (more : Pieces) (bytes : List ℕ) → HasParts kind (length parts) → AllByRecursion IsName parts → ends_before k.Minus (text_of (value_as kind parts ++ more) ++ bytes) ≡ true
unequal_value way.Outcome parts more bytes n h = refl
unequal_value way.Plain [] more bytes n h = absurd (omega arith)
unequal_value way.Plain (i ∷ parts) more bytes n h = rw append_assoc (unequal_name i.word _ (named i h.0))
unequal_value way.Here parts more bytes n h = refl
unequal_value way.There parts more bytes n h = refl
unequal_value way.Size parts more bytes n h = refl
unequal_value way.SizeHere parts more bytes n h = refl
unequal_value way.SizeThere parts more bytes n h = refl

unequal_product : (factor : Option ℕ) (v : Option ValueDecl) (more : Pieces) (bytes : List ℕ) → IfSome factor IsLiteral → IfSome v IsValue → IsSome factor ⊎ IsSome v → ends_before k.Minus (text_of (product_of factor v ++ more) ++ bytes) ≡ true
unequal_product None None more bytes f h one = absurd (elim one [ inl x ↦ cc | inr x ↦ cc ])
unequal_product None (Some v) more bytes f h one = unequal_value v.kind v.parts more bytes h.0 h.1
unequal_product (Some n) None more bytes f h one = rw append_assoc (unequal_number n (decimal n) _ (number_spelled n f))
unequal_product (Some n) (Some v) more bytes f h one = rw append_assoc (unequal_number n (decimal n) _ (number_spelled n f))

signed : (m : Bool) (rest : Pieces) (bytes : List ℕ) → AreLaidBefore bytes rest → AreLaidBefore bytes (added_sign m ∷ Space ∷ rest)
signed true rest bytes h = (fixed_spelled k.Minus refl, refl, refl, h)
signed false rest bytes h = (fixed_spelled k.Plus refl, refl, refl, h)

products_fit : (ps : List ProductDecl) → AllByRecursion IsProduct ps → Fits (more_products ps)
products_fit [] h bytes soft = tt
products_fit (p ∷ ps) h bytes soft =
    signed p.minus (product p ++ more_products ps) bytes
    (soft_both (product p) (more_products ps) bytes (product_fits p h.0) (soft_products ps bytes soft) (products_fit ps h.1 bytes soft))

headed : (m : Bool) (p : ProductDecl) (rest : Pieces) (bytes : List ℕ) → IsProduct p → AreLaidBefore bytes (product p ++ rest) → AreLaidBefore bytes (first_sign m ++ (product p ++ rest))
headed true p rest bytes h more = (fixed_spelled k.Minus refl, refl, unequal_product p.factor p.value rest bytes h.0 h.1 h.2, more)
headed false p rest bytes h more = more

sum_fits : (ps : List ProductDecl) → AllByRecursion IsProduct ps → Fits (sum_of ps)
sum_fits [] h bytes soft = tt
sum_fits (p ∷ ps) h bytes soft =
    headed p.minus p (more_products ps) bytes h.0
    (soft_both (product p) (more_products ps) bytes (product_fits p h.0) (soft_products ps bytes soft) (products_fit ps h.1 bytes soft))

pub term_fits : (t : TermDecl) → IsTerm t → Fits (term t)
term_fits t h = sum_fits t.products h.1
