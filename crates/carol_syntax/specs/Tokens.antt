-- The tokens of a text.
use Rattle.std.specs.Prelude.{◌≡◌, ℕ, List, map}
use Rattle.carol_syntax.specs.declared.kind.Kind.{Kind}
use Rattle.carol_syntax.specs.declared.kind.Kind.TheVariants as k
use Rattle.carol_syntax.specs.declared.lexeme.Lexeme.{Lexeme}
use Rattle.carol_syntax.specs.declared.lexeme.Stop.{Stop}
use Rattle.carol_syntax.specs.declared.public.Token.{Token}
use Rattle.carol_syntax.specs.declared.public.TokenKind.{TokenKind}
use Rattle.carol_syntax.specs.declared.public.TokenKind.TheVariants.{Name, Number, Symbol, Keyword}
use Rattle.carol_syntax.specs.declared.place.Place.{Place}
use Rattle.carol_syntax.specs.Place.{start}
use Rattle.carol_syntax.specs.Cut.{Cut}

abbrev pub kind_of : Kind → TokenKind
kind_of k.Name = Name
kind_of k.Number = Number
kind_of k.Semicolon = Symbol
kind_of k.Colon = Symbol
kind_of k.Comma = Symbol
kind_of k.Dot = Symbol
kind_of k.Opening = Symbol
kind_of k.Closing = Symbol
kind_of k.OpeningBrace = Symbol
kind_of k.ClosingBrace = Symbol
kind_of k.Equals = Symbol
kind_of k.PlusEquals = Symbol
kind_of k.MinusEquals = Symbol
kind_of k.Plus = Symbol
kind_of k.Minus = Symbol
kind_of k.Star = Symbol
kind_of k.AtMost = Symbol
kind_of k.Below = Symbol
kind_of k.AtLeast = Symbol
kind_of k.Above = Symbol
kind_of k.Differs = Symbol
kind_of _ = Keyword

abbrev pub token_of : Lexeme → Token
token_of lexeme = record { kind = kind_of lexeme.kind; span = lexeme.span; from = lexeme.from; to = lexeme.to }

-- the tokens and the stop are what the text is cut into
abbrev pub AreTokens : List ℕ → List Token → Stop → Type 0
AreTokens bytes tokens stop = (lexemes : List Lexeme) × (end : Place) × Cut start bytes lexemes stop end × (tokens ≡ map token_of lexemes)

-- whatever the text is cut into are these tokens and this stop
abbrev pub AreOnly : List ℕ → List Token → Stop → Type 0
AreOnly bytes tokens stop = (others : List Token) (stop' : Stop) → AreTokens bytes others stop' → (others ≡ tokens) × (stop' ≡ stop)
