-- What reading the tokens up to the first limit tells.
use Rattle.std.proofs.Common.{◌≡◌, ℕ, ◌<◌, ◌≤◌, ◌⊎◌, Bool, true, false, cond, nat_le, ◌&&◌, ◌||◌, List, [], ◌∷◌, ◌++◌, reverse, take, drop, refl, sym, ◌∙◌, ap, subst, inl, inr, arith, append_assoc}
use Rattle.std.specs.Prelude.{Option, Some, None, MatchOption}
use Rattle.std.proofs.lemmas.List.{append-nil, take-append-drop, take_all}
use Rattle.std.proofs.lemmas.Bool.{le-leb}
use Rattle.carol_grammar.specs.Reading.{Reading}
use Rattle.carol_grammar.specs.Reading.Reading.{got, stuck}
use Rattle.carol_grammar.specs.Found.{IsFault, Answers}
use Rattle.carol_syntax.specs.Files.{FileTree}
use Rattle.carol_syntax.specs.Limits.{most_program_bytes}
use Rattle.carol_syntax.specs.declared.lexeme.Lexeme.{Lexeme}
use Rattle.carol_syntax.specs.declared.lexeme.Lexemes.{Lexemes}
use Rattle.carol_syntax.specs.declared.place.Place.{Place}
use Rattle.carol_syntax.specs.Cut.{StandBetween}
use Rattle.carol_grammar.specs.Rules.{carol, file, IsFileOf}
use Rattle.carol_grammar.specs.declared.limit.TextLimit.{TextLimit}
use Rattle.carol_grammar.specs.declared.reading.Reach.{Reach}
use Rattle.carol_grammar.specs.Limits.{IsPast, GoesPast, PassesAt, ComesFirst, is_end, ends_within}
use Rattle.carol_grammar.specs.Outcome.{AreParts, IsFileIn, IsBadIn, IsRead, IsBad, IsLarge, MeansIn, Means, tail_of, is_broken, place_of}
use Rattle.carol_grammar.specs.Outcome.Outcome.{Read}
use Rattle.carol_grammar.specs.Reach.{ReachesEnd, ReachesLimit, Reaches, BeginBy, BeginBehind, bad_at, told}
use Rattle.carol_grammar.proofs.Splits.{Behind, in_joined}
use Rattle.carol_grammar.proofs.FirstMet.{stand_from, stand_within, begins_before_end, past_is}
use Rattle.carol_grammar.proofs.Once.{BeginsFile, not_begun, file_begun}
use Rattle.carol_grammar.proofs.FileEnds.{file_has_end}

begin_by_at : (at : ℕ) (xs : List Lexeme) (t : Lexeme) (more : List Lexeme) → BeginBy at (xs ++ t ∷ more) → t.from ≤ at
begin_by_at at [] t more h = h.0
begin_by_at at (x ∷ xs) t more h = begin_by_at at xs t more h.1

begin_behind_in : (at : ℕ) (xs : List Lexeme) (t : Lexeme) (more : List Lexeme) → BeginBehind at (xs ++ t ∷ more) → at < t.from
begin_behind_in at [] t more h = h.0
begin_behind_in at (x ∷ xs) t more h = begin_behind_in at xs t more h.1

-- the first limit comes no later than any other
not_later : (limit : TextLimit) (at : ℕ) (l : TextLimit) (o : ℕ) → ComesFirst limit at l o → at ≤ o
not_later limit at l o (inl h) = omega arith
not_later limit at l o (inr h) = omega (arith, h.0)

-- the same list and more behind it
longer_fault : (bytes : List ℕ) (tail : ℕ) (ts more : List Lexeme) (t : Lexeme) (us : List Lexeme) → IsFault (carol bytes) (file bytes tail) ts (t ∷ us) → IsFault (carol bytes) (file bytes tail) (ts ++ more) (t ∷ (us ++ more))
longer_fault bytes tail ts more t us h = record {
  front = h.front;
  split = ap (λ z. z ++ more) h.split ∙ append_assoc h.front (t ∷ us) more;
  begun = h.begun;
  none = h.none;
}

-- what is to be read is bad at a token
told_token : (bytes : List ℕ) (parts : Lexemes) (limit : Option TextLimit) (count : ℕ) (t : Lexeme) (us : List Lexeme) → StandBetween 0 parts.list parts.end.offset → MatchOption limit (ReachesEnd bytes parts count) (ReachesLimit bytes parts count) → IsFault (carol bytes) (file bytes (tail_of parts.stop)) (take count parts.list) (t ∷ us) → IsBad bytes parts t.span.line t.span.column
told_token bytes parts limit count t us s r h = record {
  at = place_of t;
  bad = inl (record { token = t; more = us ++ drop count parts.list; fault = fault; place = refl });
  same_line = refl;
  same_column = refl;
  small = small limit r;
}
  where
    fault : IsFault (carol bytes) (file bytes (tail_of parts.stop)) parts.list (t ∷ (us ++ drop count parts.list))
    fault = subst (λ (z : List Lexeme). IsFault (carol bytes) (file bytes (tail_of parts.stop)) z (t ∷ (us ++ drop count parts.list))) (take-append-drop count parts.list) (longer_fault bytes (tail_of parts.stop) (take count parts.list) (drop count parts.list) t us h)

    small : (limit : Option TextLimit) → MatchOption limit (ReachesEnd bytes parts count) (ReachesLimit bytes parts count) → (l : TextLimit) (o : ℕ) → IsPast l bytes parts.list o → t.from ≤ o
    small None r l o p = omega (arith, r.small l o p, begins_before_end 0 parts.list fault.front t (us ++ drop count parts.list) parts.end.offset s fault.split)
    small (Some limit) r l o p = omega (arith, not_later limit r.at l o (r.first.first l o p), begin_by_at r.at h.front t us (subst (BeginBy r.at) h.split r.tokens.up_to))

-- the tokens up to the first limit begin a file
told_large : (bytes : List ℕ) (parts : Lexemes) (limit : TextLimit) (count : ℕ) → ReachesLimit bytes parts count limit → BeginsFile bytes (tail_of parts.stop) (take count parts.list) → IsLarge bytes parts limit
told_large bytes parts limit count r b = record { at = r.at; first = r.first; good = good }
  where
    late : (h : List Lexeme) (t : Lexeme) (more : List Lexeme) → ((us : List Lexeme) (f : FileTree) → IsFileOf bytes (tail_of parts.stop) (h ++ t ∷ us) f → ⊥) → Behind (take count parts.list) h t ⊎ ((q : List Lexeme) × (drop count parts.list ≡ q ++ t ∷ more)) → r.at < t.from
    late h t more none (inl x) = absurd (not_begun bytes (tail_of parts.stop) h t x.0 none (subst (BeginsFile bytes (tail_of parts.stop)) x.1 b))
    late h t more none (inr x) = begin_behind_in r.at x.0 t more (subst (BeginBehind r.at) x.1 r.tokens.beyond)

    good : (place : Place) → IsBadIn bytes parts place → r.at < place.offset
    good place (inl x) =
        let h = late x.fault.front x.token x.more x.fault.none (in_joined (take count parts.list) (drop count parts.list) x.fault.front x.token x.more (take-append-drop count parts.list ∙ x.fault.split)) in
        omega (arith, h, ap (λ (p : Place). p.offset) x.place)
    good place (inr x) = omega (arith, r.inner, ap (λ (p : Place). p.offset) x.place)

-- all tokens begin a file, and the end is bad
told_end : (bytes : List ℕ) (parts : Lexemes) (count : ℕ) → ReachesEnd bytes parts count → BeginsFile bytes (tail_of parts.stop) parts.list → (is_broken parts.stop ≡ true) ⊎ ((f : FileTree) → IsFileIn bytes parts f → ⊥) → IsBad bytes parts parts.end.line parts.end.column
told_end bytes parts count r b none = record {
  at = parts.end;
  bad = inr (record { begun = b; none = none; place = refl });
  same_line = refl;
  same_column = refl;
  small = r.small;
}

-- a word `end` that stands within the bytes
end_within : (xs : List Lexeme) (t : Lexeme) (more : List Lexeme) → is_end t.kind ≡ true → t.to ≤ most_program_bytes → ends_within (xs ++ t ∷ more) ≡ true
end_within [] t more e h = rw e (ap (λ b. b || ends_within more) (le-leb t.to most_program_bytes h))
end_within (x ∷ xs) t more e h = or_true (is_end x.kind && nat_le x.to most_program_bytes) (ends_within (xs ++ t ∷ more)) (end_within xs t more e h)
  where
    or_true : (b c : Bool) → c ≡ true → (b || c) ≡ true
    or_true true c f = refl
    or_true false c f = f

-- a file that ends before any limit passes none
told_read : (bytes : List ℕ) (parts : Lexemes) (count : ℕ) (f : FileTree) → StandBetween 0 parts.list parts.end.offset → ReachesEnd bytes parts count → IsFileIn bytes parts f → is_broken parts.stop ≡ false → IsRead bytes parts f
told_read bytes parts count f s r file whole = record { text = record { whole = whole; file = file }; small = small }
  where
    finished : (o : ℕ) → o ≡ most_program_bytes → parts.end.offset ≤ o → ends_within parts.list ≡ false → ⊥
    finished o at low unfinished =
        let h = file_has_end bytes (tail_of parts.stop) parts.list f file in
        let a = stand_from 0 h.0 h.1 h.2 parts.end.offset (subst (λ (z : List Lexeme). StandBetween 0 z parts.end.offset) h.3 s) in
        let within : ends_within (h.0 ++ h.1 ∷ h.2) ≡ true = end_within h.0 h.1 h.2 h.4 (omega (arith, at, low, stand_within h.1.to h.2 parts.end.offset a.2)) in
        let e = ap ends_within h.3 in
        cc (within, e, unfinished)

    small : (l : TextLimit) (o : ℕ) → IsPast l bytes parts.list o → ⊥
    small l o p = of_past (past_is l bytes parts.list o p)
      where
        of_past : GoesPast bytes parts.list o ⊎ PassesAt l parts.list o → ⊥
        of_past (inl g) = finished o g.place (r.small l o p) g.unfinished
        of_past (inr q) = omega (arith, q.place, r.small l o p, begins_before_end 0 parts.list (reverse q.before) q.token q.more parts.end.offset s q.split)

all_taken : (bytes : List ℕ) (parts : Lexemes) (count : ℕ) → ReachesEnd bytes parts count → take count parts.list ≡ parts.list
all_taken bytes parts count r = take_all count parts.list (omega (arith, r.all))

told_in : (bytes : List ℕ) (parts : Lexemes) (limit : Option TextLimit) (count : ℕ) (reading : Reading Lexeme FileTree) → StandBetween 0 parts.list parts.end.offset → MatchOption limit (ReachesEnd bytes parts count) (ReachesLimit bytes parts count) → Answers (carol bytes) (file bytes (tail_of parts.stop)) (take count parts.list) reading → MeansIn bytes parts (told parts limit reading)
told_in bytes parts limit count (stuck (t ∷ us)) s r h = told_token bytes parts limit count t us s r h
told_in bytes parts None count (stuck []) s r h =
    let all : h.front ≡ parts.list = sym (append-nil h.front) ∙ sym h.split ∙ all_taken bytes parts count r in
    told_end bytes parts count r (subst (BeginsFile bytes (tail_of parts.stop)) all h.begun)
    (inr (λ f g. h.none f (subst (λ (z : List Lexeme). IsFileOf bytes (tail_of parts.stop) z f) (sym all) g)))
told_in bytes parts (Some limit) count (stuck []) s r h =
    let all : h.front ≡ take count parts.list = sym (append-nil h.front) ∙ sym h.split in
    told_large bytes parts limit count r (subst (BeginsFile bytes (tail_of parts.stop)) all h.begun)
told_in bytes parts (Some limit) count (got f rest) s r h =
    told_large bytes parts limit count r (file_begun bytes (tail_of parts.stop) (take count parts.list) f h.1.found)
told_in bytes parts None count (got f rest) s r h = go (is_broken parts.stop) refl
  where
    whole : IsFileIn bytes parts f
    whole = subst (λ (z : List Lexeme). IsFileOf bytes (tail_of parts.stop) z f) (all_taken bytes parts count r) h.1.found

    go : (b : Bool) → is_broken parts.stop ≡ b → MeansIn bytes parts (cond b (bad_at parts.end) (Read f))
    go true e = told_end bytes parts count r (file_begun bytes (tail_of parts.stop) parts.list f whole) (inl e)
    go false e = told_read bytes parts count f s r whole e

pub told_all : (bytes : List ℕ) (parts : Lexemes) (reach : Reach) (reading : Reading Lexeme FileTree) → AreParts bytes parts → StandBetween 0 parts.list parts.end.offset → Reaches bytes parts reach → Answers (carol bytes) (file bytes (tail_of parts.stop)) (take reach.count parts.list) reading → Means bytes (told parts reach.limit reading)
told_all bytes parts reach reading cut s r h = (parts, cut, told_in bytes parts reach.limit reach.count reading s r h)
