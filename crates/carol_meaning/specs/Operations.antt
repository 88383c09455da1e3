-- What an operation stands for, and what is wrong with it.
use Rattle.std.specs.Prelude.{ℕ, ◌+◌, true, false, if◌then◌else◌, List, [], ◌∷◌, ◌++◌, map}
use Rattle.carol_formula.specs.Claim.{Claim}
use Rattle.carol_syntax.specs.declared.places.Ident.{Ident}
use Rattle.carol_syntax.specs.Files.{NamedFormula, OpTree}
use Rattle.carol_program.specs.declared.names.OpNames.{OpNames}
use Rattle.carol_program.specs.Limits.{most_params, most_queries}
use Rattle.carol_program.specs.Rules.{OpRules}
use Rattle.carol_meaning.specs.declared.fault.Fault.{Fault}
use Rattle.carol_meaning.specs.Declarations.{is_among, twice_in, too_many}
use Rattle.carol_meaning.specs.Terms.{formula_meaning, formula_faults}
use Rattle.carol_meaning.specs.declared.meaning.Meaning.TheVariants.{Parameter, Elsewhere}
use Rattle.carol_meaning.specs.Scopes.{Scope, declared, in_scope}
use Rattle.carol_meaning.specs.Stores.{words}
use Rattle.carol_meaning.specs.Bodies.{Around, Point, queries_within, names_within, body_faults, body_meaning}

abbrev pub param_names : OpTree → List Ident
param_names o = map (λ p. p.name) o.params

-- ---- scopes

-- the parameters, numbered from this one on
abbrev pub with_params : ℕ → Scope → List NamedFormula → Scope
with_params n scope [] = scope
with_params n scope (p ∷ ps) = with_params (n + 1) (declared p.name.word (Parameter n) scope) ps

-- the queries of a body that no parameter names: a refinement can't use them
abbrev pub with_queries : List (List ℕ) → Scope → List Ident → Scope
with_queries params scope [] = scope
with_queries params scope (i ∷ more) =
    with_queries params (if is_among i.word params then scope else declared i.word Elsewhere scope) more

-- what the first refinement sees, but for its own parameter
abbrev pub refinement_scope : OpTree → Scope
refinement_scope o = with_queries (words (param_names o)) [] (queries_within o.body)

-- what the refinement of the result sees
abbrev pub outcome_scope : OpTree → Scope
outcome_scope o = with_params 0 (refinement_scope o) o.params

-- where a body begins
abbrev pub start_of : OpTree → Point
start_of o = record { scope = with_params 0 [] o.params; slot = 0; number = 1 }

-- ---- refinements

-- a refinement sees the parameters up to its own
abbrev pub refinement_faults : Around → ℕ → Scope → List NamedFormula → List Fault
refinement_faults around n scope [] = []
refinement_faults around n scope (p ∷ ps) =
    formula_faults (in_scope around.cells false (declared p.name.word (Parameter n) scope)) p.formula ++
    refinement_faults around (n + 1) (declared p.name.word (Parameter n) scope) ps

abbrev pub refinements : Around → ℕ → Scope → List NamedFormula → List Claim
refinements around n scope [] = []
refinements around n scope (p ∷ ps) =
    formula_meaning (in_scope around.cells false (declared p.name.word (Parameter n) scope)) p.formula ∷
    refinements around (n + 1) (declared p.name.word (Parameter n) scope) ps

-- ---- the whole operation

-- parameters, terms' names and queries share one space
abbrev pub op_declared : OpTree → List Ident
op_declared o = param_names o ++ names_within o.body

-- what is wrong with what it declares
abbrev pub declared_faults : OpTree → List Fault
declared_faults o = twice_in (op_declared o) ++ (too_many most_params (param_names o) ++ too_many most_queries (queries_within o.body))

abbrev pub op_faults : Around → OpTree → List Fault
op_faults around o =
    declared_faults o ++
    (refinement_faults around 0 (refinement_scope o) o.params ++
    (formula_faults (in_scope around.cells true (outcome_scope o)) o.gives ++ body_faults around (start_of o) o.body))

abbrev pub op_meaning : Around → OpTree → OpRules
op_meaning around o = record {
  params = refinements around 0 (refinement_scope o) o.params;
  result = formula_meaning (in_scope around.cells true (outcome_scope o)) o.gives;
  body = body_meaning around (start_of o) o.body;
}

abbrev pub op_names : OpTree → OpNames
op_names o = record { own = o.name.word; params = words (param_names o); queries = words (queries_within o.body) }
