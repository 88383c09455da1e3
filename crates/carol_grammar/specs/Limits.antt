-- Which limits a text passes, and where. The counts are over the tokens up to one, the latest
-- first.
use Rattle.std.specs.Prelude.{◌≡◌, ℕ, ◌+◌, ◌-◌, ◌<◌, ◌≤◌, Bool, true, false, not, ◌&&◌, ◌||◌, nat_le, if◌then◌else◌, ◌⊎◌, List, [], ◌∷◌, ◌++◌, length, reverse, Option, Some, None}
use Rattle.carol_syntax.specs.Limits.{most_program_bytes, most_formula_nodes, most_body_depth, most_script_lines}
use Rattle.carol_syntax.specs.declared.kind.Kind.{Kind}
use Rattle.carol_syntax.specs.declared.kind.Kind.TheVariants as k
use Rattle.carol_syntax.specs.declared.lexeme.Lexeme.{Lexeme}
use Rattle.carol_grammar.specs.declared.limit.TextLimit.{TextLimit}
use Rattle.carol_grammar.specs.declared.limit.TextLimit.TheVariants.{ProgramBytes, FormulaNodes, BodyDepth, ScriptLines}

-- the kind of the latest token
abbrev pub latest : List Lexeme → Option Kind
latest [] = None
latest (t ∷ before) = Some t.kind

-- the kind of the token before the latest
abbrev pub second : List Lexeme → Option Kind
second [] = None
second (t ∷ before) = latest before

abbrev pub is_name : Option Kind → Bool
is_name (Some k.Name) = true
is_name _ = false

abbrev pub is_let : Option Kind → Bool
is_let (Some k.Let) = true
is_let _ = false

abbrev pub is_size : Option Kind → Bool
is_size (Some k.Size) = true
is_size _ = false

-- behind a token of this kind, with these two before it, a formula or a term begins, or none goes
-- on
unfoldable pub counts_anew : Kind → Option Kind → Option Kind → Bool
counts_anew k.Equals last before = is_name last && is_let before
counts_anew k.Colon last before = true
counts_anew k.Invariant last before = true
counts_anew k.Gives last before = true
counts_anew k.If last before = true
counts_anew k.Return last before = true
counts_anew k.PlusEquals last before = true
counts_anew k.MinusEquals last before = true
counts_anew k.Raise last before = true
counts_anew k.Semicolon last before = true
counts_anew k.Comma last before = true
counts_anew k.OpeningBrace last before = true
counts_anew k.ClosingBrace last before = true
counts_anew _ last before = false

-- behind tokens of these kinds a value begins that isn't counted with what stands before it
unfoldable pub begins_value : Option Kind → Option Kind → Bool
begins_value (Some k.Star) before = false
begins_value (Some k.Dot) before = false
begins_value (Some k.Opening) before = not (is_size before)
begins_value _ before = true

abbrev pub one_if : Bool → ℕ
one_if true = 1
one_if false = 0

-- how many nodes begin with a token of this kind, or are counted at it, behind these two
unfoldable pub weight : Kind → Option Kind → Option Kind → ℕ
weight k.True last before = 1
weight k.False last before = 1
weight k.Not last before = 1
weight k.And last before = 1
weight k.Or last before = 1
weight k.AtMost last before = 1
weight k.Below last before = 1
weight k.AtLeast last before = 1
weight k.Above last before = 1
weight k.Equals last before = 1
weight k.Differs last before = 1
weight k.Number last before = 1
weight k.Opening last before = one_if (not (is_size last))
weight k.Name last before = one_if (begins_value last before)
weight k.Result last before = one_if (begins_value last before)
weight k.Here last before = one_if (begins_value last before)
weight k.There last before = one_if (begins_value last before)
weight k.Size last before = one_if (begins_value last before)
weight _ last before = 0

abbrev pub nodes_with : ℕ → Kind → Option Kind → Option Kind → ℕ
nodes_with nodes kind last before = if counts_anew kind last before then 0 else nodes + weight kind last before

-- the nodes of the formula, or the products of the term, that the latest token stands in
abbrev pub nodes : List Lexeme → ℕ
nodes [] = 0
nodes (t ∷ before) = nodes_with (nodes before) t.kind (latest before) (second before)

unfoldable pub depth_with : ℕ → Kind → ℕ
depth_with depth k.OpeningBrace = depth + 1
depth_with depth k.ClosingBrace = depth - 1
depth_with depth _ = depth

-- the braces that are open behind the latest token
abbrev pub depth : List Lexeme → ℕ
depth [] = 0
depth (t ∷ before) = depth_with (depth before) t.kind

-- a line of a script begins with a token of this kind
unfoldable pub begins_line : Kind → Bool
begins_line k.Go = true
begins_line k.Gossip = true
begins_line k.Cut = true
begins_line k.Join = true
begins_line _ = false

-- the lines of scripts
abbrev pub lines : List Lexeme → ℕ
lines [] = 0
lines (t ∷ before) = lines before + one_if (begins_line t.kind)

-- the most that is allowed
abbrev pub most : TextLimit → ℕ
most ProgramBytes = most_program_bytes
most FormulaNodes = most_formula_nodes
most BodyDepth = most_body_depth
most ScriptLines = most_script_lines

-- what is counted against a limit; the tokens count nothing against the first
abbrev pub counted : TextLimit → List Lexeme → ℕ
counted ProgramBytes before = 0
counted FormulaNodes before = nodes before
counted BodyDepth before = depth before
counted ScriptLines before = lines before

-- at the latest token more is counted than is allowed
abbrev pub IsOver : TextLimit → List Lexeme → Type 0
IsOver limit before = most limit < counted limit before

-- the order in which one of several limits that are passed at one place is named
abbrev pub rank : TextLimit → ℕ
rank ProgramBytes = 0
rank FormulaNodes = 1
rank BodyDepth = 2
rank ScriptLines = 3

unfoldable pub is_end : Kind → Bool
is_end k.End = true
is_end _ = false

-- a word `end` stands within the bytes that are allowed
abbrev pub ends_within : List Lexeme → Bool
ends_within [] = false
ends_within (t ∷ more) = (is_end t.kind && nat_le t.to (most ProgramBytes)) || ends_within more

-- the token at this offset is over the limit
pub record PassesAt (limit : TextLimit) (list : List Lexeme) (at : ℕ) : Type 0 where
  pub before : List Lexeme
  pub token : Lexeme
  pub more : List Lexeme
  pub split : list ≡ reverse before ++ token ∷ more
  pub over : IsOver limit (token ∷ before)
  pub place : at ≡ token.from

-- the program part goes on where its bytes are used up
pub record GoesPast (bytes : List ℕ) (list : List Lexeme) (at : ℕ) : Type 0 where
  pub place : at ≡ most ProgramBytes
  pub longer : at < length bytes
  pub unfinished : ends_within list ≡ false

-- the limit is passed at this offset
abbrev pub IsPast : TextLimit → List ℕ → List Lexeme → ℕ → Type 0
IsPast ProgramBytes bytes list at = GoesPast bytes list at
IsPast FormulaNodes bytes list at = PassesAt FormulaNodes list at
IsPast BodyDepth bytes list at = PassesAt BodyDepth list at
IsPast ScriptLines bytes list at = PassesAt ScriptLines list at

-- the one limit at the one place comes before the other, or is the same
abbrev pub ComesFirst : TextLimit → ℕ → TextLimit → ℕ → Type 0
ComesFirst limit at l o = (at < o) ⊎ ((at ≡ o) × (rank limit ≤ rank l))

-- the limit is the first that is passed, and the first in the order of those that are passed there
pub record IsFirst (bytes : List ℕ) (list : List Lexeme) (limit : TextLimit) (at : ℕ) : Type 0 where
  pub past : IsPast limit bytes list at
  pub first : (l : TextLimit) (o : ℕ) → IsPast l bytes list o → ComesFirst limit at l o
