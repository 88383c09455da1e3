-- What holds of the value of each sentence of a rule, where the names among its tokens are names.
use Rattle.std.proofs.Common.{◌≡◌, ℕ, List, [], ◌∷◌, arith}
use Rattle.std.specs.List.{AllByRecursion}
use Rattle.carol_grammar.specs.Sentence.{Language}
use Rattle.carol_grammar.proofs.Says.{Says}
use Rattle.carol_grammar.proofs.Given.{Stand, Anywhere, Given, hold_gives, hold_both, hold_many, hold_behind}
use Rattle.carol_syntax.specs.declared.bodies.Statement.{Statement}
use Rattle.carol_syntax.specs.Shape.{IsName, IsFormula, IsStatement, IsBody, AreSome}
use Rattle.carol_syntax.specs.declared.kind.Kind.TheVariants as k
use Rattle.carol_syntax.specs.declared.lexeme.Lexeme.{Lexeme}
use Rattle.carol_grammar.specs.Terminals.{class_of}
use Rattle.carol_grammar.specs.Rules.{Knot, KnotValue, literal, ending, RuleOf, spelling, listed}

-- if the token is a name, what it spells is one
abbrev pub IsSpelled : List ℕ → Lexeme → Type 0
IsSpelled bytes l = l.kind ≡ k.Name → IsName (record { word = spelling bytes l; span = l.span })

abbrev pub AreSpelled : List ℕ → List Lexeme → Type 0
AreSpelled bytes ls = AllByRecursion (IsSpelled bytes) ls

abbrev pub LatestSpelled : List ℕ → List Lexeme → Type 0
LatestSpelled bytes [] = Unit {0}
LatestSpelled bytes (l ∷ before) = IsSpelled bytes l

-- the latest of the tokens so far is well spelled
pub record EndsSpelled (bytes : List ℕ) (before : List Lexeme) : Type 0 where
  pub latest : LatestSpelled bytes before

pub stand_spelled : (bytes : List ℕ) (ls before : List Lexeme) → EndsSpelled bytes before → AreSpelled bytes ls → Stand (EndsSpelled bytes) ls before
stand_spelled bytes [] before h g = h
stand_spelled bytes (l ∷ ls) before h g = (h, stand_spelled bytes ls (l ∷ before) (record { latest = g.0 }) g.1)

-- what the value of a rule that reaches itself has to be
abbrev pub Fits : (v : Knot) → KnotValue v → Type 0
Fits literal f = IsFormula f
Fits ending end = (plain : List Statement) → AllByRecursion IsStatement plain → IsBody (end plain)

abbrev pub AllFit : List ℕ → (v : Knot) → Language Lexeme (KnotValue v)
AllFit bytes v = Given Anywhere (EndsSpelled bytes) (Fits v)

-- P holds of the value of each sentence of the rule whose tokens are well spelled, where what
-- stands deeper fits
abbrev pub Holds : List ℕ → {A : Type 0} → RuleOf A → (A → Type 0) → Type 1
Holds bytes r P = Says class_of (AllFit bytes) r (Given Anywhere (EndsSpelled bytes) P)

pub hold_listed : {bytes : List ℕ} {A : Type 0} {r : RuleOf A} {P : A → Type 0} → Holds bytes r P → Holds bytes (listed r) (AreSome P)
hold_listed p = hold_gives (hold_both p (hold_many (hold_behind p))) (λ v h. (omega arith, h))
