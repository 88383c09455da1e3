-- What a reader of a rule promises.
use Rattle.std.specs.Prelude.{◌≡◌, ℕ, Bool, false, ◌&&◌, nat_le, List, [], ◌∷◌, Result, Ok, Err}
use Rattle.std.specs.Borrow.{Bor}
use Rattle.carol_grammar.specs.Reading.{Reading, reads_within, reads_deep, read_token, read_many, next_in, onward, giving}
use Rattle.carol_grammar.specs.Reading.Reading.{got, stuck}
use Rattle.carol_syntax.specs.declared.kind.Kind.TheVariants.{Number, Comma}
use Rattle.carol_syntax.specs.contracts.Kind.{the_type}
use denote.Enum.Bare.{sameb}
use Rattle.carol_syntax.specs.declared.lexeme.Lexeme.{Lexeme}
use Rattle.carol_grammar.specs.Terminals.{class_of, number_of}
use Rattle.carol_grammar.specs.Rules.{Knot, KnotValue, RuleOf, carol}
use Rattle.carol_reader.specs.declared.reader.Halt.{Halt}
use Rattle.carol_reader.specs.declared.reader.Halt.TheVariants as halt
use Rattle.carol_reader.specs.declared.reader.Reader.{Reader}

-- what the rule gives in the text, within the reader's bounds
abbrev pub read_by : {A : Type 0} → Reader → RuleOf A → List Lexeme → Reading Lexeme A
read_by reader rule tokens = reads_within (carol reader.bytes.now) reader.count reader.depth rule tokens

-- the same of a rule that reaches itself, at the reader's level
abbrev pub read_deep : Reader → (v : Knot) → List Lexeme → Reading Lexeme (KnotValue v)
read_deep reader v tokens = reads_deep (carol reader.bytes.now) reader.count reader.depth v tokens

abbrev pub Stops : {A : Type 0} → Halt → Reading Lexeme A → Type 0
Stops (halt.At rest) reading = reading ≡ stuck rest.now
Stops halt.NoMemory reading = Unit {0}

-- what was answered, seen by `view`, is what the rule gives, unless memory ran out
abbrev pub Reads : {X A : Type 0} → (X → A) → Result (X × Bor (List Lexeme)) Halt → Reading Lexeme A → Type 0
Reads view (Ok x) reading = reading ≡ got (view x.0) x.1.now
Reads view (Err e) reading = Stops e reading

-- the next token is a number from the one to the other
abbrev pub is_within : ℕ → ℕ → List Lexeme → Bool
is_within least most [] = false
is_within least most (l ∷ ls) = sameb the_type l.kind Number && (nat_le least l.value && nat_le l.value most)

-- a member behind a comma
abbrev pub after_comma : {A : Type 0} → (List Lexeme → Reading Lexeme A) → List Lexeme → Reading Lexeme A
after_comma {A} member tokens = giving {A = Lexeme × A} (λ p. p.1) (onward (read_token class_of (number_of Comma ∷ []) (λ l. l) tokens) (λ v rest. giving (λ w. (v, w)) (member rest)))

-- one member, and at most n more behind commas
abbrev pub list_of : {A : Type 0} → (List Lexeme → Reading Lexeme A) → ℕ → List Lexeme → Reading Lexeme (List A)
list_of {A} member n tokens =
    giving {A = A × List A} (λ p. p.0 ∷ p.1) (onward (member tokens) (λ v rest. giving (λ w. (v, w)) (read_many n (next_in class_of (number_of Comma ∷ [])) (after_comma member) rest)))
