-- Scopes that others begin with, and bounds on what values of a place are.
use Rattle.std.proofs.Common.{Bor, ◌≡◌, ℕ, zero, suc, List, [], ◌∷◌, ◌++◌, take, length, append_assoc, Option, Some, None, refl, sym, ap, ◌∙◌, arith}
use Rattle.std.specs.Prelude.{IfSome}
use Rattle.std.specs.Option.{option_copied}
use Rattle.std.proofs.Math.Seq.{take-append_seam}
use Rattle.std.proofs.lemmas.List.{append-nil}
use Rattle.carol_formula.specs.Linear.{Linear, variable_of}
use Rattle.carol_syntax.specs.declared.places.Ident.{Ident}
use Rattle.carol_syntax.specs.declared.cells.CellDecl.{CellDecl}
use Rattle.carol_syntax.specs.declared.formulas.ValueDecl.{ValueDecl}
use Rattle.carol_program.specs.Variables.{param_variable, query_variable}
use Rattle.carol_meaning.specs.declared.meaning.Meaning.{Meaning}
use Rattle.carol_meaning.specs.declared.meaning.Meaning.TheVariants.{Parameter, Queried, Bound, Elsewhere}
use Rattle.carol_meaning.specs.Cells.{named}
use Rattle.carol_meaning.specs.Terms.{Worth, worth_of}
use Rattle.carol_meaning.specs.Stores.{words}
use Rattle.carol_meaning.specs.Scopes.{Scope, meaning_of, unless_known, declared, queried_cell, queried_set, alone, bound_value, plain_value, size_value}
use Rattle.carol_names.specs.Bounded.{IsBounded, most_value}
use Rattle.carol_names.proofs.Bounds.{bounded-more, variable-bounded}
use Rattle.carol_names.proofs.Worths.{cell-bounded, set-bounded}
use Rattle.carol_resolve.specs.Scoped.{IsSafe, AreSafe, Extends}

-- ---- scopes that begin with others

pub extends-same : (s : Scope) → Extends s s
extends-same s = record { more = []; is = sym (append-nil s) }

pub extends-more : {s t u : Scope} → Extends s t → Extends t u → Extends s u
extends-more {s} {t} {u} h k = record {
  more = h.more ++ k.more;
  is = k.is ∙ ap (λ x. x ++ k.more) h.is ∙ append_assoc s h.more k.more;
}

unless-extends : (known : Option Meaning) (s wider : Scope) → Extends s wider → Extends s (unless_known known wider s)
unless-extends None s wider h = h
unless-extends (Some m) s wider h = extends-same s

-- one name more
pub extends-declared : (word : List ℕ) (m : Meaning) (s : Scope) → Extends s (declared word m s)
extends-declared word m s = unless-extends (meaning_of word s) s (s ++ (word, m) ∷ []) (record { more = (word, m) ∷ []; is = refl })

-- the scope before, from the one after it
pub take-extends : {s t : Scope} → Extends s t → take (length s) t ≡ s
take-extends {s} {t} h = rw h.is (take-append_seam s h.more)

-- ---- what is kept stays safe

pub safe-take : (n : ℕ) (s : Scope) → AreSafe s → AreSafe (take n s)
safe-take zero s h = tt
safe-take (suc n) [] h = tt
safe-take (suc n) (e ∷ es) h = (h.0, safe-take n es h.1)

-- ---- bounds on what values are

parameter-bounded : (v : ValueDecl) (rest : List Ident) (number : ℕ) → IfSome (worth_of (alone v rest (Worth (variable_of (param_variable number))))) (IsBounded most_value)
parameter-bounded v [] number = bounded-more 1 most_value (variable_of (param_variable number)) (omega arith) (variable-bounded (param_variable number))
parameter-bounded v (i ∷ rest) number = tt

bound-bounded : (v : ValueDecl) (rest : List Ident) (term : Option Linear) → IfSome term (IsBounded most_value) → IfSome (worth_of (alone v rest (bound_value term))) (IsBounded most_value)
bound-bounded v [] None h = tt
bound-bounded v [] (Some t) h = h
bound-bounded v (i ∷ rest) term h = tt

queried-bounded : (cells : List CellDecl) (slot : ℕ) (v : ValueDecl) (rest : List Ident) → IfSome (worth_of (queried_cell cells slot v rest)) (IsBounded most_value)
queried-bounded cells slot v [] = tt
queried-bounded cells slot v (i ∷ rest) = cell-bounded (query_variable slot 0) v (named cells (words (i ∷ rest)))

queried_set-bounded : (cells : List CellDecl) (slot : ℕ) (v : ValueDecl) (rest : List Ident) → IfSome (worth_of (queried_set cells slot v rest)) (IsBounded most_value)
queried_set-bounded cells slot v [] = tt
queried_set-bounded cells slot v (i ∷ rest) = set-bounded (query_variable slot 0) v (named cells (words (i ∷ rest)))

plain-bounded : (cells : List CellDecl) (v : ValueDecl) (rest : List Ident) (m : Option Meaning) → IfSome m IsSafe → IfSome (worth_of (plain_value cells v rest m)) (IsBounded most_value)
plain-bounded cells v rest None h = tt
plain-bounded cells v rest (Some (Parameter number)) h = parameter-bounded v rest number
plain-bounded cells v rest (Some (Queried slot)) h = queried-bounded cells slot v rest
plain-bounded cells v rest (Some (Bound term)) h = bound-bounded v rest term h
plain-bounded cells v rest (Some Elsewhere) h = tt

size-bounded : (cells : List CellDecl) (v : ValueDecl) (rest : List Ident) (m : Option Meaning) → IfSome (worth_of (size_value cells v rest m)) (IsBounded most_value)
size-bounded cells v rest None = tt
size-bounded cells v rest (Some (Parameter number)) = tt
size-bounded cells v rest (Some (Queried slot)) = queried_set-bounded cells slot v rest
size-bounded cells v rest (Some (Bound term)) = tt
size-bounded cells v rest (Some Elsewhere) = tt

safe-copied : (m : Option (Bor Meaning)) → IfSome m (λ x. IsSafe x.now) → IfSome (option_copied m) IsSafe
safe-copied None h = tt
safe-copied (Some m) h = h

-- the code's terms, where they are what a value is worth
pub plain-worth-bounded : (cells : List CellDecl) (v : ValueDecl) (rest : List Ident) (m : Option (Bor Meaning)) → IfSome m (λ x. IsSafe x.now) → (t : Option Linear) → t ≡ worth_of (plain_value cells v rest (option_copied m)) → IfSome t (IsBounded most_value)
plain-worth-bounded cells v rest m safe t is = rw is (plain-bounded cells v rest (option_copied m) (safe-copied m safe))

pub size-worth-bounded : (cells : List CellDecl) (v : ValueDecl) (rest : List Ident) (m : Option (Bor Meaning)) (t : Option Linear) → t ≡ worth_of (size_value cells v rest (option_copied m)) → IfSome t (IsBounded most_value)
size-worth-bounded cells v rest m t is = rw is (size-bounded cells v rest (option_copied m))
