-- A text is cut in one way.
use Rattle.std.proofs.Common.{◌≡◌, ℕ, ◌<◌, ◌≤◌, arith, false, true, List, [], ◌∷◌, ◌++◌, drop, refl, sym, subst, ◌∙◌, ap, Bool}
use Rattle.std.specs.Prelude.{Some, None}
use Rattle.std.specs.Bool.{MatchBool}
use Rattle.carol_syntax.specs.declared.found.Found.{Found}
use Rattle.carol_syntax.specs.declared.lexeme.Lexeme.{Lexeme}
use Rattle.carol_syntax.specs.declared.lexeme.Stop.{Stop}
use Rattle.carol_syntax.specs.declared.place.Place.{Place}
use Rattle.carol_syntax.specs.Place.{past_space, place_over}
use Rattle.carol_syntax.specs.First.{first_token}
use Rattle.carol_syntax.specs.Cut.{CutFrom, Cut, Stops, StopsBehind, StandBetween, is_transcript, lexeme_at}

-- where cutting stops no token begins
stops_none : (at : Place) (rest : List ℕ) (stop : Stop) → Stops (at, rest) stop → first_token rest ≡ None
unfolding first_token
stops_none at [] stop h = refl
stops_none at (b ∷ rest) stop h = h.0

stops_once : (at : Place) (rest : List ℕ) (s t : Stop) → Stops (at, rest) s → Stops (at, rest) t → s ≡ t
stops_once at [] s t h k = h ∙ sym k
stops_once at (b ∷ rest) s t h k = h.1 ∙ sym k.1

-- two lists, stops and ends are the same
abbrev Same : List Lexeme → List Lexeme → Stop → Stop → Place → Place → Type 0
Same xs ys s t d e = (xs ≡ ys) × (s ≡ t) × (d ≡ e)

ends_once : (b : Bool) (xs ys : List Lexeme) (s t : Stop) (d e : Place) (here : Place × List ℕ) (P Q : Type 0) → (P → Q → Same xs ys s t d e) → MatchBool b ((xs ≡ []) × StopsBehind here s d) P → MatchBool b ((ys ≡ []) × StopsBehind here t e) Q → Same xs ys s t d e
ends_once true xs ys s t d e here P Q f h k = (h.0 ∙ sym k.0, h.1.0 ∙ sym k.1.0, h.1.1 ∙ sym k.1.1)
ends_once false xs ys s t d e here P Q f h k = f h k

-- what comes behind a token that was found
abbrev Behind : Place × List ℕ → Found → List Lexeme → Stop → Place → Type 0
Behind here found lexemes stop end =
    MatchBool (is_transcript found.kind)
    ((lexemes ≡ []) × StopsBehind (place_over here.0 found.length, drop found.length here.1) stop end)
    (CutFrom (past_space false (place_over here.0 found.length) (drop found.length here.1)) lexemes stop end)

same_found : (here : Place × List ℕ) (f g : Found) → first_token here.1 ≡ Some f → first_token here.1 ≡ Some g → g ≡ f
same_found here f g h k = cc (h, k)

same_first : (x y : Lexeme) (xs ys : List Lexeme) → x ≡ y → xs ≡ ys → x ∷ xs ≡ y ∷ ys
same_first x y xs ys h k = cc (h, k)

-- a text is cut in one way
cut_from_once : (here : Place × List ℕ) (xs ys : List Lexeme) (s t : Stop) (d e : Place) → CutFrom here xs s d → CutFrom here ys t e → Same xs ys s t d e
cut_from_once here [] [] s t d e h k = (refl, stops_once here.0 here.1 s t h.0 k.0, h.1 ∙ sym k.1)
cut_from_once here [] (y ∷ ys) s t d e h (found, next, rest) = let none = stops_none here.0 here.1 s h.0 in absurd (cc (none, next.first))
cut_from_once here (x ∷ xs) [] s t d e (found, next, rest) k = let none = stops_none here.0 here.1 t k.0 in absurd (cc (none, next.first))
cut_from_once here (x ∷ xs) (y ∷ ys) s t d e (found, next, rest) (found', next', rest') =
    let same : found' ≡ found = same_found here found found' next.first next'.first in
    let moved : Behind here found ys t e = subst (λ (f : Found). Behind here f ys t e) same rest' in
    let made : y ≡ lexeme_at here.0 found = next'.made ∙ ap (lexeme_at here.0) same in
    let behind : Same xs ys s t d e = ends_once (is_transcript found.kind) xs ys s t d e (place_over here.0 found.length, drop found.length here.1) _ _ (λ p q. cut_from_once (past_space false (place_over here.0 found.length) (drop found.length here.1)) xs ys s t d e p q) rest moved in
    (same_first x y xs ys (next.made ∙ sym made) behind.0, behind.1, behind.2)

pub cut_once : (at : Place) (bytes : List ℕ) (xs ys : List Lexeme) (s t : Stop) (d e : Place) → Cut at bytes xs s d → Cut at bytes ys t e → Same xs ys s t d e
cut_once at bytes xs ys s t d e h k = cut_from_once (past_space false at bytes) xs ys s t d e h k

-- one more lexeme behind others
pub stand_more : (from : ℕ) (xs : List Lexeme) (lexeme : Lexeme) (to after : ℕ) → StandBetween from xs to → to ≤ lexeme.from → lexeme.from < lexeme.to → lexeme.to ≤ after → StandBetween from (xs ++ lexeme ∷ []) after
stand_more from [] lexeme to after h before some behind = (omega arith, some, behind)
stand_more from (x ∷ xs) lexeme to after h before some behind = (h.0, h.1, stand_more x.to xs lexeme to after h.2 before some behind)
