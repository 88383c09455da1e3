-- Which programs are well formed.
use Rattle.std.specs.Prelude.{◌≡◌, ◌≢◌, ℕ, zero, suc, ◌+◌, ◌≤◌, ◌<◌, List, [], ◌∷◌, length, ℤ, pos, unsigned_abs}
use Rattle.std.specs.List.{AllByRecursion}
use Rattle.carol_store.specs.declared.shape.CellKind.{CellKind}
use Rattle.carol_store.specs.declared.shape.CellKind.TheVariants.{Counter, Peak, Flag}
use Rattle.carol_store.specs.Kinds.{CellValue, number_of}
use Rattle.carol_store.specs.Stores.{IsStore}
use Rattle.carol_formula.specs.Linear.{Linear, constant_of}
use Rattle.carol_formula.specs.Claim.{Claim, EachTerm}
use Rattle.carol_formula.specs.Size.{nodes_of}
use Rattle.carol_program.specs.declared.steps.Part.{Part}
use Rattle.carol_program.specs.declared.names.OpNames.{OpNames}
use Rattle.carol_program.specs.declared.names.Names.{Names}
use Rattle.carol_program.specs.Limits.{longest_name, longest_path, most_cells, most_guards, most_ops, most_params, most_queries, most_statements, most_nodes, most_products, most_depth, largest_coefficient, largest_constant, largest_literal}
use Rattle.carol_program.specs.Bodies.{Body, Query, Issue, Release, Branch, Return, queries_in, last_number, depth}
use Rattle.carol_program.specs.Rules.{OpRules, Rules}
use Rattle.carol_program.specs.Variables.{AreAmong, invariant_variables, guard_variables, param_variables, outcome_variables, body_variables}

-- ---- terms and formulas

-- each coefficient is small
abbrev pub AreSmall : List (ℕ × ℤ) → Type 0
AreSmall [] = Unit {0}
AreSmall (p ∷ ps) = (unsigned_abs p.1 ≤ largest_coefficient) × AreSmall ps

-- no coefficient and no constant is too large
abbrev pub IsSmall : Linear → Type 0
IsSmall t = AreSmall t.pairs × (unsigned_abs t.rest ≤ largest_constant)

-- a term of a place where these variables may be used
pub record IsTermOver (ranges : List (ℕ × ℕ)) (t : Linear) : Type 0 where
  pub variables : AreAmong ranges t.pairs
  pub small : IsSmall t
  pub short : length t.pairs ≤ most_products

-- a formula of a place where these variables may be used
pub record IsFormulaOver (ranges : List (ℕ × ℕ)) (c : Claim) : Type 0 where
  pub terms : EachTerm (IsTermOver ranges) c
  pub few : nodes_of c ≤ most_nodes

-- ---- bodies

-- an issue may do this to a cell of this kind: what is done to a flag is the constant 1
abbrev pub IsDoneTo : CellKind → Linear → Type 0
IsDoneTo Counter t = Unit {0}
IsDoneTo Peak t = Unit {0}
IsDoneTo Flag t = t ≡ constant_of (pos 1)

-- the shape has the cell, and an issue may do this to it
abbrev pub IsDoneAt : List CellKind → ℕ → Linear → Type 0
IsDoneAt [] cell t = ⊥
IsDoneAt (kind ∷ kinds) zero t = IsDoneTo kind t
IsDoneAt (kind ∷ kinds) (suc cell) t = IsDoneAt kinds cell t

abbrev pub IsPartOver : List CellKind → List (ℕ × ℕ) → Part → Type 0
IsPartOver kinds ranges p = IsDoneAt kinds p.cell p.amount × IsTermOver ranges p.amount

-- no part is the cell's
abbrev pub HasNone : ℕ → List Part → Type 0
HasNone cell [] = Unit {0}
HasNone cell (p ∷ ps) = (p.cell ≢ cell) × HasNone cell ps

-- no cell has two parts
abbrev pub AreApart : List Part → Type 0
AreApart [] = Unit {0}
AreApart (p ∷ ps) = HasNone p.cell ps × AreApart ps

-- what stands round a body: the kinds of the cells, how many guards there are, and how many parameters
pub record Setting : Type 0 where
  pub kinds : List CellKind
  pub guards : ℕ
  pub params : ℕ

-- the variables of a place behind the queries in these slots
abbrev pub variables_in : Setting → List ℕ → List (ℕ × ℕ)
variables_in s slots = body_variables s.kinds s.params slots

-- the parts of an issue
abbrev pub AreParts : Setting → List ℕ → List Part → Type 0
AreParts s slots parts = (0 < length parts) × AllByRecursion (IsPartOver s.kinds (variables_in s slots)) parts × AreApart parts

-- each statement's parts name what there is, behind the queries in these slots
abbrev pub IsFitBody : Setting → List ℕ → Body → Type 0
IsFitBody s slots (Query number guard slot next) = (guard < s.guards) × IsFitBody s (slot ∷ slots) next
IsFitBody s slots (Issue number parts next) = AreParts s slots parts × IsFitBody s slots next
IsFitBody s slots (Release number next) = IsFitBody s slots next
IsFitBody s slots (Branch number test first second) = IsFormulaOver (variables_in s slots) test × IsFitBody s slots first × IsFitBody s slots second
IsFitBody s slots (Return number value) = IsTermOver (variables_in s slots) value

-- statements' numbers rise in the order of the text, from this one on
abbrev pub RisesFrom : ℕ → Body → Type 0
RisesFrom low (Query number guard slot next) = (low ≤ number) × RisesFrom (number + 1) next
RisesFrom low (Issue number parts next) = (low ≤ number) × RisesFrom (number + 1) next
RisesFrom low (Release number next) = (low ≤ number) × RisesFrom (number + 1) next
RisesFrom low (Branch number test first second) = (low ≤ number) × RisesFrom (number + 1) first × RisesFrom (last_number first + 1) second
RisesFrom low (Return number value) = low ≤ number

-- queries take slots one after the other in the order of the text, from this one on
abbrev pub SlotsFrom : ℕ → Body → Type 0
SlotsFrom low (Query number guard slot next) = (slot ≡ low) × SlotsFrom (low + 1) next
SlotsFrom low (Issue number parts next) = SlotsFrom low next
SlotsFrom low (Release number next) = SlotsFrom low next
SlotsFrom low (Branch number test first second) = SlotsFrom low first × SlotsFrom (low + queries_in first) second
SlotsFrom low (Return number value) = Unit {0}

-- ---- operations

-- each refinement uses its own parameter and those before it, of which there are so many
abbrev pub AreRefinements : ℕ → List Claim → Type 0
AreRefinements before [] = Unit {0}
AreRefinements before (c ∷ cs) = IsFormulaOver (param_variables (before + 1)) c × AreRefinements (before + 1) cs

abbrev pub setting_of : List CellKind → ℕ → OpRules → Setting
setting_of kinds guards op = record { kinds = kinds; guards = guards; params = length op.params }

pub record IsOpOver (kinds : List CellKind) (guards : ℕ) (op : OpRules) : Type 0 where
  pub few_params : length op.params ≤ most_params
  pub params : AreRefinements 0 op.params
  pub result : IsFormulaOver (outcome_variables (length op.params)) op.result
  pub body : IsFitBody (setting_of kinds guards op) [] op.body
  pub numbers : RisesFrom 1 op.body
  pub few_statements : last_number op.body ≤ most_statements
  pub slots : SlotsFrom 0 op.body
  pub few_queries : queries_in op.body ≤ most_queries
  pub shallow : depth op.body ≤ most_depth

-- ---- names

abbrev pub AreShort : List (List ℕ) → Type 0
AreShort names = AllByRecursion (λ name. length name ≤ longest_name) names

-- an operation's names: its own, and one for each parameter and each query
pub record IsCalled (op : OpRules) (names : OpNames) : Type 0 where
  pub own : length names.own ≤ longest_name
  pub params : length names.params ≡ length op.params
  pub short_params : AreShort names.params
  pub queries : length names.queries ≡ queries_in op.body
  pub short_queries : AreShort names.queries

abbrev pub AreCalled : List OpRules → List OpNames → Type 0
AreCalled [] [] = Unit {0}
AreCalled (op ∷ ops) (names ∷ more) = IsCalled op names × AreCalled ops more
AreCalled [] (names ∷ more) = ⊥
AreCalled (op ∷ ops) [] = ⊥

-- one name for each cell, guard and operation; a cell's name may have two parts
pub record IsNamed (p : Rules) (names : Names) : Type 0 where
  pub cells : length names.cells ≡ length p.shape
  pub short_cells : AllByRecursion (λ name. length name ≤ longest_path) names.cells
  pub guards : length names.guards ≡ length p.guards
  pub short_guards : AreShort names.guards
  pub ops : AreCalled p.ops names.ops

-- ---- programs

-- an initial value: a flag's is 0 or 1, as that of any store, and any other is a literal
abbrev pub StartsSmall : CellKind → CellValue → Type 0
StartsSmall Counter start = unsigned_abs (number_of start) ≤ largest_literal
StartsSmall Peak start = unsigned_abs (number_of start) ≤ largest_literal
StartsSmall Flag start = Unit {0}

abbrev pub StartSmall : List CellKind → List CellValue → Type 0
StartSmall [] starts = Unit {0}
StartSmall (kind ∷ kinds) [] = Unit {0}
StartSmall (kind ∷ kinds) (start ∷ starts) = StartsSmall kind start × StartSmall kinds starts

pub record AreRules (p : Rules) : Type 0 where
  pub few_cells : length p.shape ≤ most_cells
  pub few_guards : length p.guards ≤ most_guards
  pub few_ops : length p.ops ≤ most_ops
  pub store : IsStore p.shape p.initial
  pub start : StartSmall p.shape p.initial
  pub invariant : IsFormulaOver (invariant_variables p.shape) p.invariant
  pub guards : AllByRecursion (IsFormulaOver (guard_variables p.shape)) p.guards
  pub ops : AllByRecursion (IsOpOver p.shape (length p.guards)) p.ops

pub record IsWellFormed (p : Rules) (names : Names) : Type 0 where
  pub rules : AreRules p
  pub named : IsNamed p names
