-- A file that is read is as small as the limits make it.
use Rattle.std.proofs.Common.{◌≡◌, ℕ, ◌+◌, ◌≤◌, ◌<◌, Bool, true, false, cond, eqb, nat_le, ◌&&◌, ◌||◌, ◌⊎◌, inl, inr, List, [], ◌∷◌, ◌++◌, length, length-append, reverse, Option, append_assoc, sym, ap, subst, ◌∙◌, refl, arith}
use Rattle.std.proofs.lemmas.List.{append-nil}
use Rattle.std.proofs.lemmas.Bool.Decides.{nat_tests}
use Rattle.std.specs.Prelude.{Some, None}
use Rattle.carol_grammar.specs.Sets.{has}
use Rattle.carol_grammar.specs.Rule.{upper}
use Rattle.carol_grammar.proofs.SetLemmas.{and_left, and_right}
use Rattle.carol_grammar.proofs.Says.{Says, Joined, says_gives, says_two, says_joined, says_either, says_begins, says_all}
use Rattle.carol_grammar.proofs.Given.{push, Stand, Anywhere, Given}
use Rattle.carol_grammar.proofs.Lacks.{Without}
use Rattle.carol_syntax.specs.declared.scenes.SceneDecl.{SceneDecl}
use Rattle.carol_syntax.specs.Files.{ProgramTree, FileTree}
use Rattle.carol_syntax.specs.Limits.{most_script_lines}
use Rattle.carol_syntax.specs.Size.{most_items, IsSizedProgram, IsSized}
use Rattle.carol_syntax.specs.declared.kind.Kind.{Kind}
use Rattle.carol_syntax.specs.declared.kind.Kind.TheVariants as k
use Rattle.carol_syntax.specs.declared.lexeme.Lexeme.{Lexeme}
use Rattle.carol_syntax.specs.Cut.{StandBetween}
use Rattle.carol_grammar.specs.Terminals.{number_of, class_of, numeral}
use Rattle.carol_grammar.specs.Rules.{Knot, literal, ending, carol, lowest_of, Sequel, Scripted, Recorded, file_of, file}
use Rattle.carol_grammar.specs.declared.limit.TextLimit.{TextLimit}
use Rattle.carol_grammar.specs.declared.limit.TextLimit.TheVariants.{ProgramBytes, FormulaNodes, BodyDepth, ScriptLines}
use Rattle.carol_grammar.specs.Limits.{is_end, ends_within, most, counted, lines, IsOver, PassesAt}
use Rattle.carol_grammar.specs.Outcome.{tail_of}
use Rattle.carol_grammar.specs.Reach.{NonePast}
use Rattle.carol_grammar.proofs.Counted.{reversed_more}
use Rattle.carol_grammar.specs.Law.{ReadIsSized}
use Rattle.carol_grammar.proofs.Places.{Good}
use Rattle.carol_grammar.proofs.Fits.{Fits, Tells, ends}
use Rattle.carol_grammar.proofs.Formulas.{atom_fits, nested_fits}
use Rattle.carol_grammar.proofs.Bodies.{answer_fits, choice_fits}
use Rattle.carol_grammar.proofs.Programs.{EndsOnce, hold_program, program_ends}
use Rattle.carol_grammar.proofs.Scripts.{Lines, lines-append, stage_lines, lines_stage}

-- Of tokens one behind the other.

few_between : (from : ℕ) (ts : List Lexeme) (to : ℕ) → StandBetween from ts to → from + length ts ≤ to
few_between from [] to s = omega (arith, s)
few_between from (t ∷ ts) to s = omega (arith, s.0, s.1, few_between t.to ts to s.2)

end_class : (kind : Kind) (value : ℕ) → has ends (cond (eqb (number_of kind) (number_of k.Number)) (numeral value) (number_of kind)) ≡ false → is_end kind ≡ false
unfolding number_of is_end
end_class k.End value h = cc
end_class _ value h = refl

no_end : (t : Lexeme) → has ends (class_of t) ≡ false → is_end t.kind ≡ false
unfolding class_of
no_end t h = end_class t.kind t.value h

either_true : (a b : Bool) → (a || b) ≡ true → (a ≡ true) ⊎ (b ≡ true)
either_true true b h = inl refl
either_true false b h = inr h

ends_early : (t : Lexeme) → (is_end t.kind && nat_le t.to (most ProgramBytes)) ≡ true → t.to ≤ most_items
ends_early t h = let e : nat_le t.to most_items ≡ true = and_right (is_end t.kind) (nat_le t.to most_items) h in grind (arith, nat_tests)

-- where a word `end` stands within the bytes of a program part, the tokens begin within them
begins_within : (from : ℕ) (ts : List Lexeme) (to : ℕ) → StandBetween from ts to → ends_within ts ≡ true → from + 1 ≤ most_items
begins_within from [] to s h = cc
begins_within from (t ∷ ts) to s h = elim (either_true (is_end t.kind && nat_le t.to (most ProgramBytes)) (ends_within ts) h) [
  | inl e ↦ omega (arith, s.0, s.1, ends_early t e)
  | inr e ↦ omega (arith, s.0, s.1, begins_within t.to ts to s.2 e)
]

-- and so do those up to the first such word
few_up_to : (from : ℕ) (front : List Lexeme) (last : Lexeme) (more : List Lexeme) (to : ℕ) → StandBetween from (front ++ last ∷ more) to → Without class_of ends front
    → ends_within (front ++ last ∷ more) ≡ true → from + (length front + 1) ≤ most_items
few_up_to from [] last more to s w h = omega (arith, begins_within from (last ∷ more) to s h)
few_up_to from (t ∷ front) last more to s w h = elim (either_true _ (ends_within (front ++ last ∷ more)) h) [
  | inl e ↦ absurd (cc (no_end t w.0, and_left (is_end t.kind) _ e))
  | inr e ↦ omega (arith, s.0, s.1, few_up_to t.to front last more to s.2 w.1 e)
]

-- Within the limits.

push_reverse : (ts before : List Lexeme) → push ts before ≡ reverse ts ++ before
push_reverse [] before = refl
push_reverse (t ∷ ts) before = push_reverse ts (t ∷ before) ∙ sym (reversed_more ts before t)

lines_push : (ts before : List Lexeme) → lines (push ts before) ≡ lines ts + lines before
lines_push [] before = omega arith
lines_push (t ∷ ts) before = omega (arith, lines_push ts (t ∷ before))

push_back : (ts before more : List Lexeme) → push (push ts before) more ≡ push before (ts ++ more)
push_back [] before more = refl
push_back (t ∷ ts) before more = push_back ts (t ∷ before) more

none_counted : (l : TextLimit) → counted l [] ≤ most l
none_counted ProgramBytes = omega arith
none_counted FormulaNodes = omega arith
none_counted BodyDepth = omega arith
none_counted ScriptLines = omega arith

-- what no token passes no count is over behind any of them
within_limit : (l : TextLimit) (list : List Lexeme) → ((o : ℕ) → PassesAt l list o → ⊥) → (before more : List Lexeme) → list ≡ push before more → counted l before ≤ most l
within_limit l list none [] more e = none_counted l
within_limit l list none (t ∷ before) more e =
    let small : IsOver l (t ∷ before) → ⊥ = λ over. none t.from (record {
      before = before;
      token = t;
      more = more;
      split = e ∙ push_reverse before (t ∷ more);
      over = over;
      place = refl;
    }) in
    omega arith

module _ (bytes : List ℕ) (list : List Lexeme) (small : NonePast bytes list) where
  good_at : (before more : List Lexeme) → list ≡ push before more → length before ≤ most_items → Good before
  good_at before more e n = record {
    few_nodes = within_limit FormulaNodes list (small FormulaNodes) before more e;
    shallow = within_limit BodyDepth list (small BodyDepth) before more e;
    few = n;
  }

  all_good : (ts before more : List Lexeme) → list ≡ push before (ts ++ more) → length before + length ts ≤ most_items → Stand Good ts before
  all_good [] before more e n = good_at before more e (omega arith)
  all_good (t ∷ ts) before more e n = (good_at before (t ∷ (ts ++ more)) e (omega arith), all_good ts (t ∷ before) more e (omega arith))

  few_lines : lines list ≤ most_script_lines
  few_lines =
      let all : lines (push list []) ≤ most_script_lines = within_limit ScriptLines list (small ScriptLines) (push list []) [] (sym (append-nil list) ∙ sym (push_back list [] [])) in
      omega (arith, lines_push list [], all)

  -- the tokens of the program part are few
  few_front : (to : ℕ) (front : List Lexeme) (last : Lexeme) (more : List Lexeme) → StandBetween 0 list to → to ≤ length bytes → list ≡ front ++ last ∷ more → Without class_of ends front → length front + 1 ≤ most_items
  few_front to front last more s n e w = of_test (ends_within list) refl
    where
      of_test : (b : Bool) → ends_within list ≡ b → length front + 1 ≤ most_items
      of_test true h = omega (arith, few_up_to 0 front last more to (subst (λ (z : List Lexeme). StandBetween 0 z to) e s) w (subst (λ z. ends_within z ≡ true) e h))
      of_test false h =
          let short : most_items < length bytes → ⊥ = λ l. small ProgramBytes most_items (record { place = refl; longer = l; unfinished = h }) in
          omega (arith, few_between 0 list to s, ap length e, length-append front (last ∷ more))

-- What a file says.

sized_of : (tail : ℕ) (p : ProgramTree) (o : Option (SceneDecl × Option Sequel)) → IsSizedProgram p → stage_lines o ≤ most_script_lines → IsSized (file_of tail p o)
sized_of tail p None h g = record { program = h; script = tt }
sized_of tail p (Some (s, None)) h g = record { program = h; script = tt }
sized_of tail p (Some (s, Some (Scripted ls))) h g = record { program = h; script = g }
sized_of tail p (Some (s, Some Recorded)) h g = record { program = h; script = tt }

-- the tree is small, if no limit is passed among the tokens
record SizedWithin (bytes : List ℕ) (ts : List Lexeme) (f : FileTree) : Type 0 where
  holds : (to : ℕ) → StandBetween 0 ts to → to ≤ length bytes → NonePast bytes ts → IsSized f

abbrev ProgramFits : List Lexeme → ProgramTree → Type 0
ProgramFits ts p = Given Anywhere Good IsSizedProgram ts p × EndsOnce ts p

whole : (bytes : List ℕ) (tail : ℕ) (ts : List Lexeme) (p : ProgramTree × Option (SceneDecl × Option Sequel)) → Joined ProgramFits (Lines stage_lines) ts p → SizedWithin bytes ts (file_of tail p.0 p.1)
whole bytes tail ts p j = record {
  holds = λ to s n small.
      let once = j.left.1 in
      let split : ts ≡ once.front ++ once.last ∷ j.back = j.split ∙ ap (λ z. z ++ j.back) once.split ∙ append_assoc once.front (once.last ∷ []) j.back in
      let few : length once.front + 1 ≤ most_items = few_front bytes ts small to once.front once.last j.back s n split once.none in
      let count : length j.front ≡ length once.front + 1 = ap length once.split ∙ length-append once.front (once.last ∷ []) in
      let good = all_good bytes ts small j.front [] j.back j.split (omega arith) in
      let added : lines ts ≡ lines j.front + lines j.back = ap lines j.split ∙ lines-append j.front j.back in
      sized_of tail p.0 p.1 (j.left.0.holds [] tt good) (omega (arith, few_lines bytes ts small, j.right.within));
}

file_tells : (bytes : List ℕ) (tail : ℕ) → Tells (file bytes tail) (SizedWithin bytes)
unfolding file
file_tells bytes tail = says_gives (says_joined (says_two (hold_program bytes) (program_ends bytes)) (lines_stage bytes)) (λ ts p j. whole bytes tail ts p j)

lowest_fits : (bytes : List ℕ) (v : Knot) → Says class_of Fits (lowest_of bytes v) (Fits v)
lowest_fits bytes literal = atom_fits bytes
lowest_fits bytes ending = answer_fits bytes

upper_fits : (bytes : List ℕ) (v : Knot) → Says class_of Fits (upper (carol bytes) v) (Fits v)
upper_fits bytes literal = says_either (says_begins nested_fits) (atom_fits bytes)
upper_fits bytes ending = says_either (says_begins (choice_fits bytes)) (answer_fits bytes)

pub read_is_sized : ReadIsSized
read_is_sized bytes parts f s n r =
    let tells = says_all (carol bytes) Fits (lowest_fits bytes) (upper_fits bytes) (file_tells bytes (tail_of parts.stop)) parts.list f r.text.file in
    tells.holds parts.end.offset s n r.small
