-- The names among the tokens that a text is cut into are names.
use Rattle.std.proofs.Common.{◌≡◌, ℕ, ◌+◌, ◌-◌, ◌==◌, Bool, true, false, cond, List, [], ◌∷◌, drop, sym, subst, ap, ◌∙◌, refl, arith}
use Rattle.std.specs.Prelude.{Some, None, take}
use Rattle.std.specs.Bool.{MatchBool}
use Rattle.std.proofs.lemmas.List.{drop-drop}
use Rattle.carol_syntax.specs.Shape.{IsName}
use Rattle.carol_syntax.specs.declared.kind.Kind.TheVariants as k
use Rattle.carol_syntax.specs.declared.found.Found.{Found}
use Rattle.carol_syntax.specs.declared.lexeme.Lexeme.{Lexeme}
use Rattle.carol_syntax.specs.declared.lexeme.Stop.{Stop}
use Rattle.carol_syntax.specs.declared.place.Place.{Place}
use Rattle.carol_syntax.specs.Place.{start, passes, past_space, place_behind, place_over}
use Rattle.carol_syntax.specs.Cut.{CutFrom, Cut, IsNext, is_transcript}
use Rattle.carol_grammar.specs.Rules.{spelling}
use Rattle.carol_parse.proofs.Holds.{IsSpelled, AreSpelled}
use Rattle.carol_parse.proofs.Names.{found_name}

-- the bytes are those of the whole text from the place on
abbrev StandAt : List ℕ → Place × List ℕ → Type 0
StandAt bytes here = here.1 ≡ drop here.0.offset bytes

over_stands : (bytes : List ℕ) (at : Place) (rest : List ℕ) (n : ℕ) → StandAt bytes (at, rest)
    → StandAt bytes (place_over at n, drop n rest)
over_stands bytes at rest n h = ap (drop n) h ∙ drop-drop n at.offset bytes

offset_by : (t : Bool) (at : Place)
    → (cond t (record { line = at.line + 1; column = 1; offset = at.offset + 1 }) (place_over at 1)).offset ≡ at.offset + 1
offset_by true at = refl
offset_by false at = refl

behind_stands : (bytes : List ℕ) (at : Place) (b : ℕ) (rest : List ℕ) → StandAt bytes (at, b ∷ rest)
    → StandAt bytes (place_behind at b, rest)
behind_stands bytes at b rest h = over_stands bytes at (b ∷ rest) 1 h ∙ ap (λ n. drop n bytes) (sym (offset_by (b == 10) at))

past_stands : (bytes : List ℕ) (comment : Bool) (at : Place) (rest : List ℕ) → StandAt bytes (at, rest)
    → StandAt bytes (past_space comment at rest)
unfolding past_space
past_stands bytes comment at [] h = h
past_stands bytes comment at (b ∷ rest) h =
    elim (passes comment b) as (λ o. StandAt bytes (elim o [ None ↦ (at, b ∷ rest) | Some goes_on ↦ past_space goes_on (place_behind at b) rest ])) [
      | None ↦ h
      | Some goes_on ↦ past_stands bytes goes_on (place_behind at b) rest (behind_stands bytes at b rest h)
    ]

-- a token that is found at a place is spelled as what is found there
spelled_at : (bytes : List ℕ) (here : Place × List ℕ) (found : Found) (l : Lexeme) → StandAt bytes here → IsNext here found l
    → IsSpelled bytes l
spelled_at bytes here found l h next name =
    let at = here.0.offset in
    let count : (at + found.length) - at ≡ found.length = omega arith in
    let kind : found.kind ≡ k.Name = sym (ap (λ (x : Lexeme). x.kind) next.made) ∙ name in
    let word : spelling bytes l ≡ take found.length here.1 =
    ap (spelling bytes) next.made ∙ ap (λ n. take n (drop at bytes)) count ∙ ap (take found.length) (sym h) in
    subst (λ w. IsName (record { word = w; span = l.span })) (sym word) (found_name here.1 found l.span next.first kind)

-- what is cut behind a token, which is nothing behind the word before a transcript
more_spelled : (bytes : List ℕ) (last : Bool) (ls : List Lexeme) (P Q : Type 0) → (Q → AreSpelled bytes ls)
    → MatchBool last ((ls ≡ []) × P) Q → AreSpelled bytes ls
more_spelled bytes true ls P Q f h = subst (AreSpelled bytes) (sym h.0) tt
more_spelled bytes false ls P Q f h = f h

cut_spelled : (bytes : List ℕ) (here : Place × List ℕ) (ls : List Lexeme) (stop : Stop) (end : Place) → StandAt bytes here
    → CutFrom here ls stop end → AreSpelled bytes ls
cut_spelled bytes here [] stop end h c = tt
cut_spelled bytes here (l ∷ ls) stop end h (found, next, rest) =
    let at = place_over here.0 found.length in
    let bytes_behind = drop found.length here.1 in
    let stand = past_stands bytes false at bytes_behind (over_stands bytes here.0 here.1 found.length h) in (
      spelled_at bytes here found l h next,
      more_spelled bytes (is_transcript found.kind) ls _ _ (λ c. cut_spelled bytes (past_space false at bytes_behind) ls stop end stand c) rest,
    )

pub all_spelled : (bytes : List ℕ) (ls : List Lexeme) (stop : Stop) (end : Place) → Cut start bytes ls stop end → AreSpelled bytes ls
all_spelled bytes ls stop end c = cut_spelled bytes (past_space false start bytes) ls stop end (past_stands bytes false start bytes refl) c
