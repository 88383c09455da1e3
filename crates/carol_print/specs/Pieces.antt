-- What a canonical text is made of, and that it is cut again into what it was made of.
use Rattle.std.specs.Prelude.{◌≡◌, ℕ, zero, suc, ◌+◌, ◌-◌, Bool, true, false, not, ◌&&◌, ◌==◌, if◌then◌else◌, List, [], ◌∷◌, ◌++◌, length, take, drop, Some, codes}
use Rattle.carol_syntax.specs.Words.{is_word_byte, keywords}
use Rattle.carol_syntax.specs.declared.kind.Kind.{Kind}
use Rattle.carol_syntax.specs.declared.kind.Kind.TheVariants as k
use Rattle.carol_syntax.specs.contracts.Kind.{the_type}
use denote.Enum.Declared.{tag_of}
use Rattle.carol_syntax.specs.declared.lexeme.Lexeme.{Lexeme}
use Rattle.carol_syntax.specs.declared.lexeme.Stop.TheVariants.{End}
use Rattle.carol_syntax.specs.declared.public.TokenKind.TheVariants.{Symbol}
use Rattle.carol_syntax.specs.declared.place.Place.{Place}
use Rattle.carol_syntax.specs.First.{first_token}
use Rattle.carol_syntax.specs.Cut.{Cut, is_transcript}
use Rattle.carol_syntax.specs.Place.{start}
use Rattle.carol_syntax.specs.Tokens.{kind_of}

-- a token with the bytes that spell it, a space, or a line feed
pub data Piece : Type 0 where
  Token : (kind : Kind) (value : ℕ) (spelled : List ℕ) → Piece
  Space : Piece
  Break : Piece

-- the bytes of pieces
abbrev pub text_of : List Piece → List ℕ
text_of [] = []
text_of (Token kind value spelled ∷ pieces) = spelled ++ text_of pieces
text_of (Space ∷ pieces) = 32 ∷ text_of pieces
text_of (Break ∷ pieces) = 10 ∷ text_of pieces

-- the pieces without spaces and line feeds
abbrev pub tokens_in : List Piece → List Piece
tokens_in [] = []
tokens_in (Token kind value spelled ∷ pieces) = Token kind value spelled ∷ tokens_in pieces
tokens_in (Space ∷ pieces) = tokens_in pieces
tokens_in (Break ∷ pieces) = tokens_in pieces

-- the bytes alone are this one token
abbrev pub IsSpelled : Kind → ℕ → List ℕ → Type 0
IsSpelled kind value spelled = first_token spelled ≡ Some (record { kind = kind; value = value; length = length spelled })

-- the kind is a symbol's, and not a name's, a number's or a keyword's
abbrev pub is_symbol : Kind → Bool
is_symbol kind = elim (kind_of kind) [ Symbol ↦ true | _ ↦ false ]

-- a symbol that is another one with `=` behind it
abbrev pub takes_equals : Kind → Bool
takes_equals k.Plus = true
takes_equals k.Minus = true
takes_equals k.Below = true
takes_equals k.Above = true
takes_equals _ = false

-- the byte doesn't lengthen a token of this kind
abbrev pub ends : Kind → ℕ → Bool
ends kind b = if is_symbol kind then not (takes_equals kind && b == 61) else not (is_word_byte b)

-- the bytes right behind a token of this kind don't lengthen it
abbrev pub ends_before : Kind → List ℕ → Bool
ends_before kind [] = true
ends_before kind (b ∷ bytes) = ends kind b

-- each token is spelled as one, none is `transcript`, and none is lengthened by what stands right
-- behind it; the bytes stand behind the pieces
abbrev pub AreLaidBefore : List ℕ → List Piece → Type 0
AreLaidBefore bytes [] = Unit {0}
AreLaidBefore bytes (Token kind value spelled ∷ pieces) =
    IsSpelled kind value spelled × (is_transcript kind ≡ false) × (ends_before kind (text_of pieces ++ bytes) ≡ true) × AreLaidBefore bytes pieces
AreLaidBefore bytes (Space ∷ pieces) = AreLaidBefore bytes pieces
AreLaidBefore bytes (Break ∷ pieces) = AreLaidBefore bytes pieces

-- the same where nothing stands behind them
abbrev pub AreLaidOut : List Piece → Type 0
AreLaidOut pieces = AreLaidBefore [] pieces

-- the lexeme is the piece, in the bytes
abbrev pub IsPiece : List ℕ → Lexeme → Piece → Type 0
IsPiece bytes l (Token kind value spelled) = (l.kind ≡ kind) × (l.value ≡ value) × (take (l.to - l.from) (drop l.from bytes) ≡ spelled)
IsPiece bytes l Space = ⊥
IsPiece bytes l Break = ⊥

-- the lexemes are the pieces one by one, in the bytes
abbrev pub Spells : List ℕ → List Lexeme → List Piece → Type 0
Spells bytes [] [] = Unit {0}
Spells bytes [] (piece ∷ pieces) = ⊥
Spells bytes (l ∷ lexemes) [] = ⊥
Spells bytes (l ∷ lexemes) (piece ∷ pieces) = IsPiece bytes l piece × Spells bytes lexemes pieces

-- each lexeme ends where its piece does; the first piece begins at this offset
abbrev pub EndAsPieces : ℕ → List Lexeme → List Piece → Type 0
EndAsPieces at lexemes [] = Unit {0}
EndAsPieces at [] (Token kind value spelled ∷ pieces) = ⊥
EndAsPieces at (l ∷ lexemes) (Token kind value spelled ∷ pieces) = (l.to ≡ at + length spelled) × EndAsPieces (at + length spelled) lexemes pieces
EndAsPieces at lexemes (Space ∷ pieces) = EndAsPieces (at + 1) lexemes pieces
EndAsPieces at lexemes (Break ∷ pieces) = EndAsPieces (at + 1) lexemes pieces

-- the text of the pieces is cut to its end into their tokens, where the pieces put them
abbrev pub CutAgain : List Piece → Type 0
CutAgain pieces =
    (list : List Lexeme) × (end : Place) × Cut start (text_of pieces) list End end × Spells (text_of pieces) list (tokens_in pieces) × EndAsPieces 0 list pieces

-- how the symbols are spelled, in the order of their kinds
abbrev pub symbols : List (List ℕ)
symbols =
    codes ";" ∷ codes ":" ∷ codes "," ∷ codes "." ∷ codes "(" ∷ codes ")" ∷ codes "{" ∷
    codes "}" ∷ codes "=" ∷ codes "+=" ∷ codes "-=" ∷ codes "+" ∷ codes "-" ∷ codes "*" ∷
    codes "<=" ∷ codes "<" ∷ codes ">=" ∷ codes ">" ∷ codes "!=" ∷ []

-- the word with this number, from 0 on
abbrev pub word_at : ℕ → List (List ℕ) → List ℕ
word_at n [] = []
word_at zero (word ∷ words) = word
word_at (suc n) (word ∷ words) = word_at n words

-- how a symbol or a keyword is spelled, and nothing for a name or a number, whose kinds come first
abbrev pub codes_of : Kind → List ℕ
codes_of kind = word_at (tag_of the_type kind) ([] ∷ [] ∷ (symbols ++ keywords))

-- a symbol or a keyword as a piece
abbrev pub fixed : Kind → Piece
fixed kind = Token kind 0 (codes_of kind)

-- the kind is a symbol's or a keyword's
abbrev pub is_fixed : Kind → Bool
is_fixed k.Name = false
is_fixed k.Number = false
is_fixed _ = true
