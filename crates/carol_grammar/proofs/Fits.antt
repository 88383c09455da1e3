-- What is said of the rules that reach themselves, and of what a sentence of any rule lacks.
use Rattle.std.proofs.Common.{◌≡◌, ℕ, ◌+◌, ◌≤◌, true, false, List, [], ◌∷◌, length}
use Rattle.std.specs.List.{AllByRecursion}
use Rattle.carol_grammar.specs.Sentence.{Language}
use Rattle.carol_grammar.specs.Reading.{may_be_empty}
use Rattle.carol_grammar.proofs.Says.{Says}
use Rattle.carol_grammar.proofs.Given.{push, Stand, Anywhere}
use Rattle.carol_grammar.proofs.Lacks.{Without, Lacks, avoids, says_lacks, Few, says_filled}
use Rattle.carol_syntax.specs.declared.bodies.Statement.{Statement}
use Rattle.carol_syntax.specs.Formulas.{FormulaTree}
use Rattle.carol_syntax.specs.Bodies.{BodyTree}
use Rattle.carol_syntax.specs.Limits.{most_body_depth}
use Rattle.carol_syntax.specs.Size.{formula_size, body_depth, statement_count, IsSizedStatement, HasSizedParts}
use Rattle.carol_syntax.specs.declared.kind.Kind.TheVariants as k
use Rattle.carol_syntax.specs.declared.lexeme.Lexeme.{Lexeme}
use Rattle.carol_grammar.specs.Terminals.{number_of, class_of}
use Rattle.carol_grammar.specs.Rules.{Knot, KnotValue, literal, ending, RuleOf}
use Rattle.carol_grammar.specs.Limits.{nodes, depth}
use Rattle.carol_grammar.proofs.Places.{Quiet, Fresh, Good}

-- behind tokens of which P holds, those of the sentence lead to Q, and count at least what its
-- value measures
pub record Step {A : Type 0} (P Q : List Lexeme → Type 0) (m : A → ℕ) (ts : List Lexeme) (v : A) : Type 0 where
  pub behind : (before : List Lexeme) → P before → Q (push ts before)
  pub grows : (before : List Lexeme) → P before → nodes before + m v ≤ nodes (push ts before)

-- the braces of the tokens are closed among them; within the limits the parts of the value are
-- small and its bodies stand not too deep; and each of its statements has a token
pub record Nests {A : Type 0} (Start : List Lexeme → Type 0) (P : A → Type 0) (deep size : A → ℕ) (ts : List Lexeme) (v : A) : Type 0 where
  pub level : (before : List Lexeme) → depth (push ts before) ≡ depth before
  pub parts : (before : List Lexeme) → Start before → Stand Good ts before → P v
  pub shallow : (before : List Lexeme) → Stand Good ts before → depth before + deep v ≤ most_body_depth
  pub short : size v ≤ length ts

abbrev pub ends : List ℕ
ends = number_of k.End ∷ []

abbrev pub braces_and_ends : List ℕ
braces_and_ends = number_of k.OpeningBrace ∷ number_of k.ClosingBrace ∷ ends

pub record LiteralFits (ts : List Lexeme) (f : FormulaTree) : Type 0 where
  pub step : Step Fresh Quiet formula_size ts f
  pub lack : Without class_of braces_and_ends ts
  pub some : 1 ≤ length ts

-- behind small statements an end makes a body with small parts
abbrev pub EndsSmall : (List Statement → BodyTree) → Type 0
EndsSmall end = (plain : List Statement) → AllByRecursion IsSizedStatement plain → HasSizedParts (end plain)

pub record EndFits (ts : List Lexeme) (end : List Statement → BodyTree) : Type 0 where
  pub deep : ℕ
  pub size : ℕ
  pub nests : Nests Anywhere EndsSmall (λ e. deep) (λ e. size) ts end
  pub low : (plain : List Statement) → body_depth (end plain) ≤ 1 + deep
  pub few : (plain : List Statement) → statement_count (end plain) ≤ length plain + size
  pub lack : Without class_of ends ts
  pub some : 1 ≤ length ts

abbrev pub Fits : (v : Knot) → Language Lexeme (KnotValue v)
Fits literal ts f = LiteralFits ts f
Fits ending ts end = EndFits ts end

-- R holds of the sentences of the rule, where what stands deeper fits
abbrev pub Tells : {A : Type 0} → RuleOf A → Language Lexeme A → Type 1
Tells r R = Says class_of Fits r R

-- the kinds of tokens that these rules never have
abbrev pub known : Knot → List ℕ
known literal = braces_and_ends
known ending = ends

lacks_known : (v : Knot) (ts : List Lexeme) (x : KnotValue v) → Fits v ts x → Without class_of (known v) ts
lacks_known literal ts x f = f.lack
lacks_known ending ts x f = f.lack

has_some : (v : Knot) (ts : List Lexeme) (x : KnotValue v) → Fits v ts x → 1 ≤ length ts
has_some literal ts x f = f.some
has_some ending ts x f = f.some

pub lacks : (ks : List ℕ) {A : Type 0} (r : RuleOf A) → avoids known ks r ≡ true → Tells r (Lacks class_of ks)
lacks ks r h = says_lacks class_of Fits known lacks_known ks r h

pub filled : {A : Type 0} (r : RuleOf A) → may_be_empty r ≡ false → Tells r (Few (λ v. 1))
filled r h = says_filled has_some r h
