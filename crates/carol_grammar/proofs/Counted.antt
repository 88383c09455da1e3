-- What is known of the tokens that were counted so far.
use Rattle.std.proofs.Common.{◌≡◌, ℕ, ◌+◌, ◌<◌, ◌≤◌, List, [], ◌∷◌, ◌++◌, length, reverse, drop, get_or, refl, sym, ◌∙◌, ap, subst, arith, append_assoc}
use Rattle.std.proofs.lemmas.List.{append-nil, drop_all, drop_more, reverse-reverse}
use Rattle.std.proofs.lemmas.Grind.{reverse_onto}
use Rattle.carol_syntax.specs.declared.lexeme.Lexeme.{Lexeme}
use Rattle.carol_grammar.specs.declared.limit.TextLimit.{TextLimit}
use Rattle.carol_grammar.specs.declared.limit.TextLimit.TheVariants.{ProgramBytes, FormulaNodes, BodyDepth, ScriptLines}
use Rattle.carol_grammar.specs.declared.counting.Counts.{Counts}
use Rattle.carol_grammar.specs.Limits.{counted, most}
use Rattle.carol_grammar.specs.Counts.{counts_of, counts_with, count_in, IsWithin, IsLeastOver}
use Rattle.carol_grammar.specs.Reach.{NoneIsOver, IsFirstOver}

-- so many tokens were counted, and none is over a limit
pub record AreCounted (tokens : List Lexeme) (index : ℕ) (counts : Counts) : Type 0 where
  pub before : List Lexeme
  pub split : tokens ≡ reverse before ++ drop index tokens
  pub number : length before ≡ index
  pub same : counts ≡ counts_of before
  pub within : IsWithin counts
  pub none : NoneIsOver before

-- one more of the latest first
pub reversed_more : (before more : List Lexeme) (t : Lexeme) → reverse (t ∷ before) ++ more ≡ reverse before ++ t ∷ more
reversed_more before more t = ap (λ z. z ++ more) (reverse_onto before t []) ∙ append_assoc (reverse before) (t ∷ []) more

none_over : (t : Lexeme) (before : List Lexeme) → IsWithin (counts_of (t ∷ before)) → (limit : TextLimit) → counted limit (t ∷ before) ≤ most limit
none_over t before w ProgramBytes = omega arith
none_over t before w FormulaNodes = w.nodes_within
none_over t before w BodyDepth = w.depth_within
none_over t before w ScriptLines = w.lines_within

pub counted_more : (tokens : List Lexeme) (index : ℕ) (counts after : Counts) (d : Lexeme) → AreCounted tokens index counts → index < length tokens → after ≡ counts_with counts (get_or tokens index d).kind → IsWithin after → AreCounted tokens (index + 1) after
counted_more tokens index counts after d a inner e w =
    let t = get_or tokens index d in
    let next : drop index tokens ≡ t ∷ drop (index + 1) tokens = drop_more tokens index d inner in
    let same : after ≡ counts_of (t ∷ a.before) = e ∙ ap (λ z. counts_with z t.kind) a.same in
    record {
      before = t ∷ a.before;
      split = a.split ∙ ap (λ z. reverse a.before ++ z) next ∙ sym (reversed_more a.before (drop (index + 1) tokens) t);
      number = omega (arith, a.number);
      same = same;
      within = w;
      none = (none_over t a.before (subst IsWithin same w), a.none);
    }

count_same : (limit : TextLimit) (before : List Lexeme) → count_in (counts_of before) limit ≡ counted limit before
count_same ProgramBytes before = refl
count_same FormulaNodes before = refl
count_same BodyDepth before = refl
count_same ScriptLines before = refl

pub counted_over : (tokens : List Lexeme) (index : ℕ) (counts after : Counts) (d : Lexeme) (limit : TextLimit) → AreCounted tokens index counts → index < length tokens → after ≡ counts_with counts (get_or tokens index d).kind → IsLeastOver after limit → IsFirstOver tokens (record { limit = limit; index = index })
counted_over tokens index counts after d limit a inner e w =
    let t = get_or tokens index d in
    let next : drop index tokens ≡ t ∷ drop (index + 1) tokens = drop_more tokens index d inner in
    let same : after ≡ counts_of (t ∷ a.before) = e ∙ ap (λ z. counts_with z t.kind) a.same in
    let counted_in : (l : TextLimit) → count_in after l ≡ counted l (t ∷ a.before) = λ l. ap (λ z. count_in z l) same ∙ count_same l (t ∷ a.before) in
    record {
      before = a.before;
      token = t;
      more = drop (index + 1) tokens;
      split = a.split ∙ ap (λ z. reverse a.before ++ z) next;
      number = a.number;
      over = subst (λ n. most limit < n) (counted_in limit) w.over;
      lowest = λ l o. w.least l (subst (λ n. most l < n) (sym (counted_in l)) o);
      none = a.none;
    }

pub counted_all : (tokens : List Lexeme) (index : ℕ) (counts : Counts) → AreCounted tokens index counts → length tokens ≤ index → NoneIsOver (reverse tokens)
counted_all tokens index counts a all =
    let e : tokens ≡ reverse a.before = a.split ∙ ap (λ z. reverse a.before ++ z) (drop_all index tokens all) ∙ append-nil (reverse a.before) in
    subst NoneIsOver (sym (ap reverse e ∙ reverse-reverse a.before)) a.none
