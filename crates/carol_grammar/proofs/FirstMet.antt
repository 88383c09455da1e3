-- The first place where a limit is passed.
use Rattle.std.proofs.Common.{◌≡◌, ℕ, zero, suc, ◌+◌, ◌<◌, ◌≤◌, ◌⊎◌, List, [], ◌∷◌, ◌++◌, length, reverse, take, drop, get_or, sym, ◌∙◌, ap, subst, inl, inr, arith, append_assoc, add-one}
use Rattle.std.proofs.lemmas.List.{reverse-reverse, reverse-append, length-reverse, get_or_at}
use Rattle.std.specs.Prelude.{Option, Some, None, MatchOption}
use Rattle.carol_syntax.specs.Limits.{most_program_bytes}
use Rattle.carol_syntax.specs.declared.lexeme.Lexeme.{Lexeme}
use Rattle.carol_syntax.specs.Cut.{StandBetween}
use Rattle.carol_grammar.specs.declared.limit.TextLimit.{TextLimit}
use Rattle.carol_grammar.specs.declared.limit.TextLimit.TheVariants.{ProgramBytes, FormulaNodes, BodyDepth, ScriptLines}
use Rattle.carol_grammar.specs.declared.limit.Passed.{Passed}
use Rattle.carol_grammar.specs.declared.reading.Met.{Met}
use Rattle.carol_grammar.specs.Limits.{counted, most, IsOver, PassesAt, ComesFirst, IsPast, GoesPast, IsFirst}
use Rattle.carol_grammar.specs.Reach.{NoneIsOver, IsFirstOver, NoTokenPasses, NoByteIsPast, NonePast, IsFirstMet, BeginBy, BeginBehind}
use Rattle.carol_grammar.proofs.Counted.{reversed_more}
use Rattle.carol_grammar.proofs.Splits.{Behind, Same, compare_splits}

-- of tokens one behind the other

pub stand_within : (from : ℕ) (xs : List Lexeme) (to : ℕ) → StandBetween from xs to → from ≤ to
stand_within from [] to s = s
stand_within from (x ∷ xs) to s = let h : x.to ≤ to = stand_within x.to xs to s.2 in omega (arith, s.0, s.1)

-- behind a token, and the token itself
pub stand_from : (from : ℕ) (xs : List Lexeme) (t : Lexeme) (more : List Lexeme) (to : ℕ) → StandBetween from (xs ++ t ∷ more) to → (from ≤ t.from) × (t.from < t.to) × StandBetween t.to more to
stand_from from [] t more to s = s
stand_from from (x ∷ xs) t more to s = let h = stand_from x.to xs t more to s.2 in (omega (arith, s.0, s.1, h.0), h.1, h.2)

-- a token begins before the end
pub begins_before_end : (from : ℕ) (list xs : List Lexeme) (t : Lexeme) (more : List Lexeme) (to : ℕ) → StandBetween from list to → list ≡ xs ++ t ∷ more → t.from < to
begins_before_end from list xs t more to s e =
    let h = stand_from from xs t more to (subst (λ (z : List Lexeme). StandBetween from z to) e s) in
    omega (arith, h.1, stand_within t.to more to h.2)

-- one token begins before another behind it
begins_before : (from : ℕ) (list xs q : List Lexeme) (s t : Lexeme) (more : List Lexeme) (to : ℕ) → StandBetween from list to → list ≡ (xs ++ s ∷ q) ++ t ∷ more → s.from < t.from
begins_before from list xs q s t more to h e =
    let joined : list ≡ xs ++ s ∷ (q ++ t ∷ more) = e ∙ append_assoc xs (s ∷ q) (t ∷ more) in
    let a = stand_from from xs s (q ++ t ∷ more) to (subst (λ (z : List Lexeme). StandBetween from z to) joined h) in
    let b = stand_from s.to q t more to a.2 in
    omega (arith, a.1, b.0)

begin_behind_all : (at from : ℕ) (xs : List Lexeme) (to : ℕ) → at < from → StandBetween from xs to → BeginBehind at xs
begin_behind_all at from [] to h s = tt
begin_behind_all at from (x ∷ xs) to h s = (omega arith, begin_behind_all at x.to xs to (omega (arith, s.0, s.1)) s.2)

pub begin_behind_at : (at from : ℕ) (xs : List Lexeme) (to i : ℕ) (d : Lexeme) → StandBetween from xs to → at < (get_or xs i d).from → i < length xs → BeginBehind at (drop i xs)
begin_behind_at at from [] to zero d s h l = tt
begin_behind_at at from [] to (suc i) d s h l = tt
begin_behind_at at from (x ∷ xs) to zero d s h l = (h, begin_behind_all at x.to xs to (omega (arith, h, s.1)) s.2)
begin_behind_at at from (x ∷ xs) to (suc i) d s h l = begin_behind_at at x.to xs to i d s.2 h (omega arith)

begin_by_suc : (at : ℕ) (xs : List Lexeme) (i : ℕ) (d : Lexeme) → BeginBy at (take i xs) → (get_or xs i d).from ≤ at → BeginBy at (take (suc i) xs)
begin_by_suc at [] i d b h = tt
begin_by_suc at (x ∷ xs) zero d b h = (h, tt)
begin_by_suc at (x ∷ xs) (suc i) d b h = (b.0, begin_by_suc at xs i d b.1 h)

pub begin_by_more : (at : ℕ) (xs : List Lexeme) (i : ℕ) (d : Lexeme) → BeginBy at (take i xs) → (get_or xs i d).from ≤ at → BeginBy at (take (i + 1) xs)
begin_by_more at xs i d b h = rw add-one (begin_by_suc at xs i d b h)

-- of tokens that are over a limit

none_of_part : (q : List Lexeme) (t : Lexeme) (before : List Lexeme) → NoneIsOver (q ++ t ∷ before) → (l : TextLimit) → counted l (t ∷ before) ≤ most l
none_of_part [] t before n l = n.0 l
none_of_part (x ∷ q) t before n l = none_of_part q t before n.1 l

-- what is reversed of a list that goes on behind a reversed one
turned : (list before : List Lexeme) (t : Lexeme) (q : List Lexeme) → reverse list ≡ reverse before ++ t ∷ q → list ≡ reverse q ++ t ∷ before
turned list before t q e =
    let a : list ≡ reverse (reverse (t ∷ before) ++ q) = sym (reverse-reverse list) ∙ ap reverse (e ∙ sym (reversed_more before q t)) in
    a ∙ reverse-append (reverse (t ∷ before)) q ∙ ap (λ z. reverse q ++ z) (reverse-reverse (t ∷ before))

pub none_passes : (list : List Lexeme) → NoneIsOver (reverse list) → NoTokenPasses list
none_passes list n l o p =
    let e : reverse list ≡ reverse p.more ++ p.token ∷ p.before = turned (reverse list) p.before p.token p.more (reverse-reverse list ∙ p.split) in
    let h : counted l (p.token ∷ p.before) ≤ most l = none_of_part (reverse p.more) p.token p.before (subst NoneIsOver e n) l in
    omega (arith, p.over)

met_place : (list : List Lexeme) (passed : Passed) (met : Met) (f : IsFirstOver list passed) → ((d : Lexeme) → met.at ≡ (get_or list passed.index d).from) → met.at ≡ f.token.from
met_place list passed met f place =
    let n : length (reverse f.before) ≡ passed.index = length-reverse f.before ∙ f.number in
    place f.token ∙ ap (λ (z : List Lexeme). (get_or z passed.index f.token).from) f.split ∙ ap (λ (t : Lexeme). t.from) (get_or_at (reverse f.before) f.token f.more f.token passed.index n)

-- of two tokens that are over a limit the one behind is the second
met_first : (list : List Lexeme) (passed : Passed) (to : ℕ) → StandBetween 0 list to → (f : IsFirstOver list passed) → (l : TextLimit) (o : ℕ) → PassesAt l list o → ComesFirst passed.limit f.token.from l o
met_first list passed to s f l o p = go (compare_splits (reverse p.before) (reverse f.before) p.token f.token p.more f.more (sym p.split ∙ f.split))
  where
    go : Behind (reverse p.before) (reverse f.before) f.token ⊎ (Same (reverse p.before) (reverse f.before) p.token f.token p.more f.more ⊎ Behind (reverse f.before) (reverse p.before) p.token) → ComesFirst passed.limit f.token.from l o
    go (inl h) =
        let b : f.token.from < p.token.from = begins_before 0 list (reverse f.before) h.0 f.token p.token p.more to s (p.split ∙ ap (λ z. z ++ p.token ∷ p.more) h.1) in
        inl (omega (arith, b, p.place))
    go (inr (inl h)) =
        let e : p.before ≡ f.before = sym (reverse-reverse p.before) ∙ ap reverse h.0 ∙ reverse-reverse f.before in
        let same : p.token ∷ p.before ≡ f.token ∷ f.before = cc (e, h.1) in
        let at : f.token.from ≡ o = ap (λ (t : Lexeme). t.from) (sym h.1) ∙ sym p.place in
        inr (at, f.lowest l (subst (IsOver l) same p.over))
    go (inr (inr h)) =
        let e : f.before ≡ reverse h.0 ++ p.token ∷ p.before = turned f.before p.before p.token h.0 h.1 in
        let small : counted l (p.token ∷ p.before) ≤ most l = none_of_part (reverse h.0) p.token p.before (subst NoneIsOver e f.none) l in
        absurd (omega (arith, small, p.over))

pub met_over : (list : List Lexeme) (passed : Passed) (met : Met) (to : ℕ) → StandBetween 0 list to → IsFirstOver list passed → met.limit ≡ passed.limit → ((d : Lexeme) → met.at ≡ (get_or list passed.index d).from) → IsFirstMet list met
met_over list passed met to s f limit place =
    let at : met.at ≡ f.token.from = met_place list passed met f place in
    record {
      past = record {
        before = f.before;
        token = f.token;
        more = f.more;
        split = f.split;
        over = subst (λ (l : TextLimit). IsOver l (f.token ∷ f.before)) (sym limit) f.over;
        place = at;
      };
      first = λ l o p. subst (λ (n : ℕ). ComesFirst met.limit n l o) (sym at) (subst (λ (m : TextLimit). ComesFirst m f.token.from l o) (sym limit) (met_first list passed to s f l o p));
    }

-- bytes or a token pass a limit
pub past_is : (l : TextLimit) (bytes : List ℕ) (list : List Lexeme) (o : ℕ) → IsPast l bytes list o → GoesPast bytes list o ⊎ PassesAt l list o
past_is ProgramBytes bytes list o p = inl p
past_is FormulaNodes bytes list o p = inr p
past_is BodyDepth bytes list o p = inr p
past_is ScriptLines bytes list o p = inr p

passes_past : (l : TextLimit) (bytes : List ℕ) (list : List Lexeme) (o : ℕ) → PassesAt l list o → IsPast l bytes list o
passes_past ProgramBytes bytes list o p = let over : most_program_bytes < 0 = p.over in absurd (omega arith)
passes_past FormulaNodes bytes list o p = p
passes_past BodyDepth bytes list o p = p
passes_past ScriptLines bytes list o p = p

pub first_of_tokens : (bytes : List ℕ) (list : List Lexeme) (met : Option Met) → NoByteIsPast bytes list → MatchOption met (NoTokenPasses list) (IsFirstMet list) → MatchOption met (NonePast bytes list) (λ m. IsFirst bytes list m.limit m.at)
first_of_tokens bytes list None none h = λ l o p. elim (past_is l bytes list o p) [ inl g ↦ none o g | inr q ↦ h l o q ]
first_of_tokens bytes list (Some m) none h = record {
  past = passes_past m.limit bytes list m.at h.past;
  first = λ l o p. elim (past_is l bytes list o p) [ inl g ↦ absurd (none o g) | inr q ↦ h.first l o q ];
}
