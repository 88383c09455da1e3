-- The text of pieces that are laid out is cut into their tokens.
use Rattle.std.proofs.Common.{◌≡◌, ℕ, suc, ◌+◌, ◌-◌, true, false, cond, eqb, ◌||◌, List, [], ◌∷◌, ◌++◌, length, drop, refl, sym, ap, subst, arith, ◌∙◌, inl, inr}
use Rattle.std.specs.Prelude.{None, take_while}
use Rattle.std.specs.Char.{is_ascii_digit}
use Rattle.std.proofs.lemmas.Bool.{or_cases, cases_Bool, eqb-true}
use Rattle.std.proofs.lemmas.List.{append-nil, drop-drop, drop_at}
use Rattle.std.proofs.Math.Seq.{take-append_seam, drop-append_seam}
use Rattle.carol_text.specs.Number.{number_at}
use Rattle.carol_syntax.specs.Words.{is_small_letter, is_word_byte}
use Rattle.carol_syntax.specs.Limits.{largest}
use Rattle.carol_syntax.specs.declared.kind.Kind.{Kind}
use Rattle.carol_syntax.specs.declared.lexeme.Lexeme.{Lexeme}
use Rattle.carol_syntax.specs.declared.lexeme.Stop.{Stop}
use Rattle.carol_syntax.specs.declared.lexeme.Stop.TheVariants.{End}
use Rattle.carol_syntax.specs.declared.place.Place.{Place}
use Rattle.carol_syntax.specs.First.{first_token, judged_word, judged_number, first_symbol}
use Rattle.carol_syntax.specs.Place.{start, past_space, passes, is_blank, place_over, place_behind}
use Rattle.carol_syntax.specs.Cut.{CutFrom, is_transcript, lexeme_at}
use Rattle.carol_print.specs.Pieces.{Piece, text_of, tokens_in, IsSpelled, ends_before, AreLaidOut, IsPiece, Spells, EndAsPieces, CutAgain}
use Rattle.carol_print.specs.Pieces.Piece.{Token, Space, Break}
use Rattle.carol_print.proofs.Symbols.{token_with, symbol_goes}
use Rattle.carol_print.proofs.Words.{word_goes}
use Rattle.carol_print.proofs.Numbers.{number_goes}

-- a token is the longest one also before bytes that don't lengthen it
first_goes : (spelled bytes : List ℕ) (kind : Kind) (value : ℕ) → IsSpelled kind value spelled → ends_before kind bytes ≡ true → first_token (spelled ++ bytes) ≡ token_with kind value (length spelled)
unfolding first_token
first_goes [] bytes kind value h e = absurd cc
first_goes (b ∷ bs) bytes kind value h e =
    elim (is_small_letter b) as (λ t. cond t (judged_word (take_while is_word_byte (b ∷ bs))) (cond (is_ascii_digit b) (judged_number (b ∷ bs) (number_at largest (b ∷ bs))) (first_symbol b bs)) ≡ token_with kind value (suc (length bs))
    → cond t (judged_word (take_while is_word_byte (b ∷ (bs ++ bytes)))) (cond (is_ascii_digit b) (judged_number (b ∷ (bs ++ bytes)) (number_at largest (b ∷ (bs ++ bytes)))) (first_symbol b (bs ++ bytes))) ≡ token_with kind value (suc (length bs))) [
      | true ↦ λ w. ap judged_word (word_goes (b ∷ bs) bytes kind value w e) ∙ w
      | false ↦ elim (is_ascii_digit b) as (λ t. cond t (judged_number (b ∷ bs) (number_at largest (b ∷ bs))) (first_symbol b bs) ≡ token_with kind value (suc (length bs))
          → cond t (judged_number (b ∷ (bs ++ bytes)) (number_at largest (b ∷ (bs ++ bytes)))) (first_symbol b (bs ++ bytes)) ≡ token_with kind value (suc (length bs))) [
            | true ↦ λ n. number_goes (b ∷ bs) bytes kind value (omega arith) n e
            | false ↦ λ s. symbol_goes b bs bytes kind value s e
          ]
    ] h

none_at : (n b : ℕ) (bytes : List ℕ) → first_token (n ∷ bytes) ≡ None → eqb b n ≡ true → first_token (b ∷ bytes) ≡ None
none_at n b bytes h same = subst (λ (c : ℕ). first_token (c ∷ bytes) ≡ None) (sym (eqb-true b n same)) h

-- no token begins with what may stand between tokens
none_at_blank : (b : ℕ) (bytes : List ℕ) → is_blank b ≡ true → first_token (b ∷ bytes) ≡ None
unfolding first_token
none_at_blank b bytes h =
    elim (or_cases (eqb b 32 || eqb b 9 || eqb b 10) (eqb b 13) h) [
      | inr e ↦ none_at 13 b bytes refl e
      | inl more ↦ elim (or_cases (eqb b 32 || eqb b 9) (eqb b 10) more) [
        | inr e ↦ none_at 10 b bytes refl e
        | inl first ↦ elim (or_cases (eqb b 32) (eqb b 9) first) [
          | inl e ↦ none_at 32 b bytes refl e
          | inr e ↦ none_at 9 b bytes refl e
        ]
      ]
    ]

none_at_comment : (b : ℕ) (bytes : List ℕ) → eqb b 35 ≡ true → first_token (b ∷ bytes) ≡ None
unfolding first_token
none_at_comment b bytes e = none_at 35 b bytes refl e

begins : (b : ℕ) (bytes : List ℕ) (kind : Kind) (value count : ℕ) → first_token (b ∷ bytes) ≡ token_with kind value count → passes false b ≡ None
begins b bytes kind value count h =
    elim (cases_Bool (is_blank b)) [
      | inl blank ↦ let none = none_at_blank b bytes blank in absurd cc
      | inr other ↦ elim (cases_Bool (eqb b 35)) [
        | inl comment ↦ let none = none_at_comment b bytes comment in absurd cc
        | inr no_comment ↦ rw (other, no_comment) refl
      ]
    ]

-- nothing is passed before a token
pub stays : (at : Place) (bytes : List ℕ) (kind : Kind) (value count : ℕ) → first_token bytes ≡ token_with kind value count → past_space false at bytes ≡ (at, bytes)
unfolding past_space
stays at [] kind value count h = refl
stays at (b ∷ bytes) kind value count h = rw (begins b bytes kind value count h, past_space) refl

moved : (from count : ℕ) (whole front rest : List ℕ) → drop from whole ≡ front ++ rest → length front ≡ count → drop (from + count) whole ≡ rest
moved from count whole front rest h counted = sym (drop-drop count from whole) ∙ ap (drop count) h ∙ drop_at front rest count counted

-- one more token before what is cut behind it
one_more : (at : Place) (spelled rest : List ℕ) (kind : Kind) (value : ℕ) (list : List Lexeme) (stop : Stop) (end : Place) → first_token (spelled ++ rest) ≡ token_with kind value (length spelled) → is_transcript kind ≡ false
    → CutFrom (past_space false (place_over at (length spelled)) rest) list stop end
    → CutFrom (past_space false at (spelled ++ rest)) (lexeme_at at (record { kind = kind; value = value; length = length spelled }) ∷ list) stop end
one_more at spelled rest kind value list stop end first other more =
    rw (stays at (spelled ++ rest) kind value (length spelled) first)
    (record { kind = kind; value = value; length = length spelled }, record { first = first; made = refl }, rw (other, drop-append_seam spelled rest) more)

-- the token's bytes stand at its place in the whole text
token_is : (at : Place) (whole spelled rest : List ℕ) (kind : Kind) (value : ℕ) → drop at.offset whole ≡ spelled ++ rest
    → IsPiece whole (lexeme_at at (record { kind = kind; value = value; length = length spelled })) (Token kind value spelled)
token_is at whole spelled rest kind value h =
    let count : (at.offset + length spelled) - at.offset ≡ length spelled = omega arith in
    (refl, refl, rw (count, h) (take-append_seam spelled rest))

abbrev CutOn : List ℕ → Place → List Piece → Type 0
CutOn whole at pieces =
    (list : List Lexeme) × (end : Place) × CutFrom (past_space false at (text_of pieces)) list End end × Spells whole list (tokens_in pieces) × EndAsPieces at.offset list pieces

cut_on : (whole : List ℕ) (pieces : List Piece) (at : Place) → drop at.offset whole ≡ text_of pieces → AreLaidOut pieces → CutOn whole at pieces
unfolding past_space
cut_on whole [] at h laid = ([], at, (refl, refl), tt, tt)
cut_on whole (Space ∷ pieces) at h laid = cut_on whole pieces (place_behind at 32) (moved at.offset 1 whole (32 ∷ []) (text_of pieces) h refl) laid
cut_on whole (Break ∷ pieces) at h laid = cut_on whole pieces (place_behind at 10) (moved at.offset 1 whole (10 ∷ []) (text_of pieces) h refl) laid
cut_on whole (Token kind value spelled ∷ pieces) at h laid =
    let first = first_goes spelled (text_of pieces) kind value laid.0 (rw append-nil at laid.2) in
    let more : CutOn whole (place_over at (length spelled)) pieces = cut_on whole pieces (place_over at (length spelled)) (moved at.offset (length spelled) whole spelled (text_of pieces) h refl) laid.3 in (
      lexeme_at at (record { kind = kind; value = value; length = length spelled }) ∷ more.0,
      more.1,
      one_more at spelled (text_of pieces) kind value more.0 End more.1 first laid.1 more.2,
      (token_is at whole spelled (text_of pieces) kind value h, more.3),
      (refl, more.4),
    )

pub laid_out : (pieces : List Piece) → AreLaidOut pieces → CutAgain pieces
laid_out pieces laid = cut_on (text_of pieces) pieces start refl laid
