-- A script has no more lines than are counted.
use Rattle.std.proofs.Common.{◌≡◌, ℕ, ◌+◌, ◌≤◌, true, List, [], ◌∷◌, ◌++◌, length, Option, ap, ◌∙◌, refl, arith}
use Rattle.std.specs.Prelude.{Some, None}
use Rattle.carol_grammar.specs.Rule.Rule.{both, gives}
use Rattle.carol_grammar.proofs.Says.{says_any, says_token, says_gives, says_less, says_both, says_either, says_perhaps, says_many, says_begins}
use Rattle.carol_syntax.specs.declared.scenes.SceneDecl.{SceneDecl}
use Rattle.carol_syntax.specs.declared.scenes.ScriptLine.{ScriptLine}
use Rattle.carol_syntax.specs.declared.kind.Kind.{Kind}
use Rattle.carol_syntax.specs.declared.kind.Kind.TheVariants as k
use Rattle.carol_syntax.specs.declared.lexeme.Lexeme.{Lexeme}
use Rattle.carol_grammar.proofs.TokenKinds.{word_kind}
use Rattle.carol_grammar.specs.Rules.{RuleOf, behind_word, pair, script_line, script, Sequel, Scripted, Recorded, sequel, some_sequel, staged, some_stage}
use Rattle.carol_grammar.specs.Limits.{lines, begins_line}
use Rattle.carol_grammar.proofs.Fits.{Tells}

pub lines-append : (xs ys : List Lexeme) → lines (xs ++ ys) ≡ lines xs + lines ys
lines-append [] ys = omega arith
lines-append (x ∷ xs) ys = omega (arith, lines-append xs ys)

-- among the tokens at least as many begin a line as the value measures
pub record Lines {A : Type 0} (m : A → ℕ) (ts : List Lexeme) (v : A) : Type 0 where
  pub within : m v ≤ lines ts

lines_none : {A : Type 0} {r : RuleOf A} → Tells r (Lines (λ v. 0))
lines_none = says_less says_any (λ ts v u. record { within = omega arith })

lines_gives : {A B : Type 0} {r : RuleOf A} {f : A → B} {m : A → ℕ} {n : B → ℕ} → Tells r (Lines m) → ((v : A) → n (f v) ≤ m v) → Tells (gives f r) (Lines n)
lines_gives {f = f} {m = m} {n = n} p h = says_gives p (λ ts v a. record { within = let l : n (f v) ≤ m v = h v in omega (arith, a.within) })

lines_both : {A B : Type 0} {r : RuleOf A} {s : RuleOf B} {m : A → ℕ} {n : B → ℕ} → Tells r (Lines m) → Tells s (Lines n) → Tells (both r s) (Lines (λ p. m p.0 + n p.1))
lines_both p q = says_both p q (λ xs ys v a b. record { within = omega (arith, lines-append xs ys, a.within, b.within) })

lines_led : {A : Type 0} {r : RuleOf A} (kind : Kind) → begins_line kind ≡ true → Tells (behind_word kind r) (Lines (λ v. 1))
lines_led kind e =
    lines_gives
    (lines_both {m = λ v. 1} (says_token (λ t h. record { within = let l : begins_line t.kind ≡ true = ap begins_line (word_kind kind t h) ∙ e in rw l (omega arith) })) lines_none)
    (λ v. omega arith)

lines_pair : (kind : Kind) (f : ℕ × ℕ → ScriptLine) → begins_line kind ≡ true → Tells (gives f (pair kind)) (Lines (λ v. 1))
lines_pair kind f e = lines_gives (lines_gives {n = λ v. 1} (lines_led kind e) (λ v. omega arith)) (λ v. omega arith)

lines_line : Tells script_line (Lines (λ v. 1))
unfolding begins_line script_line
lines_line =
    says_either (lines_gives (lines_led k.Go refl) (λ v. omega arith))
    (says_either (lines_pair k.Gossip _ refl) (says_either (lines_pair k.Cut _ refl) (lines_pair k.Join _ refl)))

lines_script : Tells script (Lines length)
unfolding script
lines_script =
    lines_gives
    (lines_both
    (lines_gives {n = length} (lines_both lines_none (says_many {S = Lines length} (says_begins lines_line) (record { within = omega arith }) (λ xs ys v vs a b. record { within = omega (arith, lines-append xs ys, a.within, b.within) }))) (λ v. omega arith))
    lines_none)
    (λ v. omega arith)

-- the lines of what stands behind a program
abbrev pub sequel_lines : Option Sequel → ℕ
sequel_lines None = 0
sequel_lines (Some (Scripted ls)) = length ls
sequel_lines (Some Recorded) = 0

abbrev pub stage_lines : Option (SceneDecl × Option Sequel) → ℕ
stage_lines None = 0
stage_lines (Some s) = sequel_lines s.1

pub lines_stage : (bytes : List ℕ) → Tells (some_stage bytes) (Lines stage_lines)
unfolding some_stage staged some_sequel sequel
lines_stage bytes =
    says_perhaps
    (says_begins
    (lines_both {m = λ s. 0} lines_none
    (says_perhaps {R = Lines (λ s. sequel_lines (Some s))} {S = Lines sequel_lines}
    (says_begins (says_either (says_begins (lines_gives lines_script (λ ls. omega arith))) (lines_gives lines_none (λ l. omega arith))))
    (record { within = omega arith }) (λ ts s a. record { within = a.within }))))
    (record { within = omega arith }) (λ ts s a. record { within = omega (arith, a.within) })
