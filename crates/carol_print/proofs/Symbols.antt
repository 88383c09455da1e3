-- A symbol is the same symbol before bytes that don't lengthen it.
use Rattle.std.proofs.Common.{◌≡◌, ℕ, suc, Bool, true, false, cond, eqb, List, [], ◌∷◌, ◌++◌, length, refl, sym, ap, subst}
use Rattle.std.specs.Prelude.{Option, Some, None}
use Rattle.std.proofs.lemmas.Bool.{not-true}
use Rattle.carol_syntax.specs.declared.kind.Kind.{Kind}
use Rattle.carol_syntax.specs.declared.kind.Kind.TheVariants as k
use Rattle.carol_syntax.specs.declared.found.Found.{Found}
use Rattle.carol_syntax.specs.First.{symbol, with_equals, first_symbol}
use Rattle.carol_print.specs.Pieces.{is_symbol, takes_equals, ends, ends_before}

-- a token that was found
abbrev pub token_with : Kind → ℕ → ℕ → Option Found
token_with kind value count = Some (record { kind = kind; value = value; length = count })

abbrev some_found : Found → Option Found
some_found f = Some f

-- what a reader finds of all but the first of the bytes it finds before more bytes too
abbrev Goes : (List ℕ → Option Found) → Type 0
Goes f = (bytes rest : List ℕ) (kind : Kind) (value : ℕ) → f bytes ≡ token_with kind value (suc (length bytes)) → ends_before kind rest ≡ true → f (bytes ++ rest) ≡ token_with kind value (suc (length bytes))

always : (found : Option Found) → Goes (λ bytes. found)
always found bytes rest kind value h e = h

chosen : (t : Bool) (f g : List ℕ → Option Found) → Goes f → Goes g → Goes (λ bytes. cond t (f bytes) (g bytes))
chosen true f g p q = p
chosen false f g p q = q

no_equals : (kind : Kind) (b : ℕ) → is_symbol kind ≡ true → takes_equals kind ≡ true → ends kind b ≡ true → eqb b 61 ≡ false
no_equals kind b s t e = not-true (eqb b 61) (rw (s, t) at e)

-- two tokens that were found and are one
pub same_found : (f g : Found) → some_found f ≡ some_found g → f ≡ g
same_found f g h = cc

lengthened : (long short : Kind) → is_symbol short ≡ true → takes_equals short ≡ true → Goes (λ bytes. with_equals bytes (symbol long 2) (symbol short 1))
lengthened long short s t [] [] kind value h e = h
lengthened long short s t [] (b ∷ rest) kind value h e =
    let same : kind ≡ short = sym (ap (λ (f : Found). f.kind) (same_found _ _ h)) in
    let other : eqb b 61 ≡ false = no_equals short b s t (subst (λ (x : Kind). ends x b ≡ true) same e) in
    rw other h
lengthened long short s t (c ∷ bytes) rest kind value h e = h

-- a symbol of two bytes alone
doubled : (long : Kind) → Goes (λ bytes. with_equals bytes (symbol long 2) None)
doubled long [] rest kind value h e = absurd cc
doubled long (c ∷ bytes) rest kind value h e = h

pub symbol_goes : (b : ℕ) → Goes (first_symbol b)
symbol_goes b =
    chosen (eqb b 59) _ _ (always _) (
    chosen (eqb b 58) _ _ (always _) (
    chosen (eqb b 44) _ _ (always _) (
    chosen (eqb b 46) _ _ (always _) (
    chosen (eqb b 40) _ _ (always _) (
    chosen (eqb b 41) _ _ (always _) (
    chosen (eqb b 123) _ _ (always _) (
    chosen (eqb b 125) _ _ (always _) (
    chosen (eqb b 61) _ _ (always _) (
    chosen (eqb b 42) _ _ (always _) (
    chosen (eqb b 43) _ _ (lengthened k.PlusEquals k.Plus refl refl) (
    chosen (eqb b 45) _ _ (lengthened k.MinusEquals k.Minus refl refl) (
    chosen (eqb b 60) _ _ (lengthened k.AtMost k.Below refl refl) (
    chosen (eqb b 62) _ _ (lengthened k.AtLeast k.Above refl refl) (
    chosen (eqb b 33) _ _ (doubled k.Differs) (always None)))))))))))))))
