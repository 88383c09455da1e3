-- The kinds of tokens that the rules tell apart, as numbers: a word's or a symbol's is its place
-- among the kinds, and a number has one by whether it is 0, 1, or greater.
use Rattle.std.specs.Prelude.{ℕ, zero, suc, ◌-◌, cond, nat_le, eqb, List, [], ◌∷◌}
use Rattle.carol_syntax.specs.Limits.{largest}
use Rattle.carol_syntax.specs.declared.kind.Kind.{Kind}
use Rattle.carol_syntax.specs.declared.kind.Kind.TheVariants as k
use Rattle.carol_syntax.specs.contracts.Kind.{the_type}
use Rattle.carol_syntax.specs.declared.lexeme.Lexeme.{Lexeme}
use denote.Enum.Declared.{tag_of}

unfoldable pub number_of : Kind → ℕ
number_of kind = tag_of the_type kind

-- the classes of the numbers 0 and 1, of those that are greater, and of those that no text has: all
-- greater than a word's or a symbol's
abbrev pub class_of_zero : ℕ
class_of_zero = 100

abbrev pub class_of_one : ℕ
class_of_one = 101

abbrev pub class_of_more : ℕ
class_of_more = 102

abbrev pub class_of_none : ℕ
class_of_none = 103

abbrev pub numeral : ℕ → ℕ
numeral zero = class_of_zero
numeral (suc zero) = class_of_one
numeral (suc (suc n)) = cond (nat_le (suc (suc n)) largest) class_of_more class_of_none

unfoldable pub class_of : Lexeme → ℕ
class_of l = cond (eqb (number_of l.kind) (number_of k.Number)) (numeral l.value) (number_of l.kind)

-- the words and symbols of the rules
abbrev pub words : List Kind
words =
    k.Name ∷ k.Semicolon ∷ k.Colon ∷ k.Comma ∷ k.Dot ∷ k.Opening ∷ k.Closing ∷ k.OpeningBrace ∷ k.ClosingBrace ∷ k.Equals ∷
    k.PlusEquals ∷ k.MinusEquals ∷ k.Plus ∷ k.Minus ∷ k.Star ∷ k.AtMost ∷ k.Below ∷ k.AtLeast ∷ k.Above ∷ k.Differs ∷
    k.Program ∷ k.Scene ∷ k.Script ∷ k.Transcript ∷ k.End ∷ k.Counter ∷ k.Peak ∷ k.Flag ∷ k.Set ∷ k.Record ∷ k.Invariant ∷
    k.Guard ∷ k.Op ∷ k.Gives ∷ k.Result ∷ k.Query ∷ k.Under ∷ k.Issue ∷ k.Raise ∷ k.Release ∷ k.Let ∷ k.If ∷ k.Else ∷
    k.Return ∷ k.True ∷ k.False ∷ k.And ∷ k.Or ∷ k.Not ∷ k.Size ∷ k.Here ∷ k.There ∷ k.Replicas ∷ k.Tries ∷ k.Workers ∷
    k.Gossipers ∷ k.Session ∷ k.At ∷ k.Times ∷ k.Go ∷ k.Gossip ∷ k.Cut ∷ k.Join ∷ []

abbrev pub kind_with : ℕ → List Kind → Kind
kind_with n [] = k.Number
kind_with n (kind ∷ more) = cond (eqb (number_of kind) n) kind (kind_with n more)

-- a token of each kind
abbrev pub sample : ℕ → Lexeme
sample n = record { kind = kind_with n words; value = n - class_of_zero; span = record { line = 1; column = 1 }; from = 0; to = 0 }
