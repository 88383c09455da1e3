-- Operations without faults, and their names.
use Rattle.std.proofs.Common.{◌≡◌, ℕ, ◌+◌, ◌<◌, ◌≤◌, true, false, inl, inr, List, [], ◌∷◌, ◌++◌, map, length, arith, refl}
use Rattle.std.specs.Prelude.{if◌then◌else◌}
use Rattle.std.specs.List.{AllByRecursion, flat_map}
use Rattle.std.proofs.lemmas.List.{length-map}
use Rattle.carol_store.specs.declared.shape.CellKind.{CellKind}
use Rattle.carol_syntax.specs.declared.places.Ident.{Ident}
use Rattle.carol_syntax.specs.declared.bodies.Statement.{Statement}
use Rattle.carol_syntax.specs.declared.bodies.Statement.TheVariants as statement
use Rattle.carol_syntax.specs.Bodies.{BodyTree, Return, If}
use Rattle.carol_syntax.specs.Files.{NamedFormula, OpTree}
use Rattle.carol_syntax.specs.Shape.{IsName, IsStatement, IsBody, IsNamed, IsOp}
use Rattle.carol_meaning.specs.Sizes.{IsShortNamed, IsShortOp}
use Rattle.carol_program.specs.Limits.{longest_name, most_cells, most_params, most_queries}
use Rattle.carol_program.specs.Variables.{param_variable, IsAmong, param_variables, outcome_variables, body_variables}
use Rattle.carol_program.specs.WellFormed.{AreRefinements, IsOpOver, AreShort, IsCalled}
use Rattle.carol_meaning.specs.declared.meaning.Meaning.TheVariants.{Parameter, Elsewhere}
use Rattle.carol_meaning.specs.Declarations.{is_among, too_many}
use Rattle.carol_meaning.specs.Cells.{kinds_in}
use Rattle.carol_meaning.specs.Scopes.{Scope, declared, in_scope}
use Rattle.carol_meaning.specs.Bodies.{Around, queries_named, queries_within}
use Rattle.carol_meaning.specs.Operations.{param_names, with_params, with_queries, refinement_scope, outcome_scope, start_of, refinement_faults, refinements, op_faults, op_meaning, op_names}
use Rattle.carol_meaning.specs.Stores.{words}
use Rattle.carol_meaning.proofs.Lists.{either-way, no_part, few, All-append, All-map}
use Rattle.carol_meaning.proofs.Among.{AreNarrow, Widens}
use Rattle.carol_meaning.proofs.Terms.{formula-over}
use Rattle.carol_meaning.proofs.Looks.{AreMeaningsIn, meanings-wider, declared-in, scope-looks, outcome-looks}
use Rattle.carol_meaning.proofs.Orders.{body-queries, body-last, body-depth, body-rises, body-slots}
use Rattle.carol_meaning.proofs.Bodies.{IsPlace, body-fits}

-- ---- variables of parameters

param-among : (params number : ℕ) → number < params → IsAmong (param_variables params) (param_variable number)
param-among params number h = inl (omega arith, omega (arith, h))

params-wider : (n : ℕ) → Widens (param_variables n) (param_variables (n + 1))
params-wider n v (inl h) = inl (h.0, omega (arith, h.1))
params-wider n v (inr h) = absurd h

params-narrow : (params : ℕ) → params ≤ most_params → AreNarrow (param_variables params)
params-narrow params h v (inl k) = omega (arith, h, k.1)
params-narrow params h v (inr k) = absurd k

outcome-narrow : (params : ℕ) → params ≤ most_params → AreNarrow (outcome_variables params)
outcome-narrow params h v (inl k) = omega (arith, h, k.1)
outcome-narrow params h v (inr (inl k)) = omega (arith, k.1)
outcome-narrow params h v (inr (inr k)) = absurd k

-- ---- scopes

with_queries-in : (ranges : List (ℕ × ℕ)) (cells : ℕ) (params : List (List ℕ)) (scope : Scope) (names : List Ident) → AreMeaningsIn ranges cells scope → AreMeaningsIn ranges cells (with_queries params scope names)
with_queries-in ranges cells params scope [] h = h
with_queries-in ranges cells params scope (i ∷ more) h =
    with_queries-in ranges cells params (if is_among i.word params then scope else declared i.word Elsewhere scope) more
    (either-way (AreMeaningsIn ranges cells) (is_among i.word params) scope (declared i.word Elsewhere scope) h (declared-in ranges cells i.word Elsewhere scope tt h))

refinement-in : (ranges : List (ℕ × ℕ)) (cells : ℕ) (o : OpTree) → AreMeaningsIn ranges cells (refinement_scope o)
refinement-in ranges cells o = with_queries-in ranges cells (words (param_names o)) [] (queries_within o.body) tt

with_params-in : (ranges : List (ℕ × ℕ)) (cells n : ℕ) (scope : Scope) (ps : List NamedFormula) → ((k : ℕ) → k < n + length ps → IsAmong ranges (param_variable k)) → AreMeaningsIn ranges cells scope → AreMeaningsIn ranges cells (with_params n scope ps)
with_params-in ranges cells n scope [] among h = h
with_params-in ranges cells n scope (p ∷ ps) among h =
    with_params-in ranges cells (n + 1) (declared p.name.word (Parameter n) scope) ps (λ k l. among k (omega (arith, l)))
    (declared-in ranges cells p.name.word (Parameter n) scope (among n (omega arith)) h)

-- ---- refinements

refinements-count : (around : Around) (n : ℕ) (scope : Scope) (ps : List NamedFormula) → length (refinements around n scope ps) ≡ length ps
refinements-count around n scope [] = refl
refinements-count around n scope (p ∷ ps) = omega (arith, refinements-count around (n + 1) (declared p.name.word (Parameter n) scope) ps)

refinements-over : (around : Around) (n : ℕ) (scope : Scope) (ps : List NamedFormula) → n + length ps ≤ most_params → AreMeaningsIn (param_variables n) (length (flat_map kinds_in around.cells)) scope → refinement_faults around n scope ps ≡ [] → AllByRecursion IsShortNamed ps → AreRefinements n (refinements around n scope ps)
refinements-over around n scope [] room known none sized = tt
refinements-over around n scope (p ∷ ps) room known none sized = (
  formula-over (param_variables (n + 1)) (params-narrow (n + 1) (omega (arith, room))) (in_scope around.cells false own) (scope-looks (param_variables (n + 1)) around.cells own known-own) p.formula sized.0 (search no_part),
  refinements-over around (n + 1) own ps (omega (arith, room)) known-own (search no_part) sized.1,
)
  where
    own : Scope
    own = declared p.name.word (Parameter n) scope

    known-own : AreMeaningsIn (param_variables (n + 1)) (length (flat_map kinds_in around.cells)) own
    known-own = declared-in (param_variables (n + 1)) (length (flat_map kinds_in around.cells)) p.name.word (Parameter n) scope (param-among (n + 1) n (omega arith))
        (meanings-wider (param_variables n) (param_variables (n + 1)) (length (flat_map kinds_in around.cells)) (params-wider n) scope known)

-- ---- the whole operation

module _ (around : Around) (few-cells : length (flat_map kinds_in around.cells) ≤ most_cells) (o : OpTree) (shape : IsOp o) (sized : IsShortOp o) (none : op_faults around o ≡ []) where
  abbrev cells : List CellKind
  cells = flat_map kinds_in around.cells

  abbrev params : ℕ
  params = length (refinements around 0 (refinement_scope o) o.params)

  few-params : length o.params ≤ most_params
  few-params =
      let none-more : too_many most_params (param_names o) ≡ [] = search no_part in
      omega (arith, few most_params (param_names o) none-more, length-map o.params (λ p. p.name))

  few-queries : length (queries_within o.body) ≤ most_queries
  few-queries =
      let none-more : too_many most_queries (queries_within o.body) ≡ [] = search no_part in
      few most_queries (queries_within o.body) none-more

  count : params ≡ length o.params
  count = refinements-count around 0 (refinement_scope o) o.params

  outcome-known : AreMeaningsIn (outcome_variables params) (length cells) (outcome_scope o)
  outcome-known = with_params-in (outcome_variables params) (length cells) 0 (refinement_scope o) o.params (λ k l. inl (omega arith, omega (arith, l, count))) (refinement-in (outcome_variables params) (length cells) o)

  start-place : IsPlace cells params [] (start_of o).scope
  start-place = record {
    meanings = with_params-in (body_variables cells params []) (length cells) 0 [] o.params (λ k l. inl (omega arith, omega (arith, l, count))) tt;
    narrow = params-narrow params (omega (arith, few-params, count));
  }

  pub op-over : IsOpOver (flat_map kinds_in around.cells) (length around.guards) (op_meaning around o)
  op-over = record {
    few_params = omega (arith, few-params, count);
    params = refinements-over around 0 (refinement_scope o) o.params (omega (arith, few-params)) (refinement-in (param_variables 0) (length cells) o) (search no_part) sized.params;
    result = formula-over (outcome_variables params) (outcome-narrow params (omega (arith, few-params, count))) (in_scope around.cells true (outcome_scope o))
        (outcome-looks (outcome_variables params) around.cells (outcome_scope o) outcome-known (inr (inl (omega arith, omega arith)))) o.gives sized.gives (search no_part);
    body = body-fits around params few-cells o.body (start_of o) [] start-place (search no_part) shape.3 sized.body.parts (omega (arith, few-queries));
    numbers = body-rises around o.body (start_of o) 1 (omega arith);
    few_statements = omega (arith, body-last around o.body (start_of o), sized.body.short);
    slots = body-slots around o.body (start_of o);
    few_queries = omega (arith, body-queries around o.body (start_of o), few-queries);
    shallow = omega (arith, body-depth around o.body (start_of o), sized.body.shallow);
  }

-- ---- names

queries-named : (plain : List Statement) → AllByRecursion IsStatement plain → AllByRecursion IsName (queries_named plain)
queries-named [] h = tt
queries-named (statement.Query name guard ∷ ss) h = (h.0.0, queries-named ss h.1)
queries-named (s ∷ ss) h = queries-named ss h.1

queries-names : (b : BodyTree) → IsBody b → AllByRecursion IsName (queries_within b)
queries-names (Return plain value) h = queries-named plain h.0
queries-names (If plain test first second) h =
    All-append IsName (queries_named plain) (queries_within first ++ queries_within second) (queries-named plain h.0)
    (All-append IsName (queries_within first) (queries_within second) (queries-names first h.2) (queries-names second h.3))

pub words-short : (names : List Ident) → AllByRecursion IsName names → AreShort (words names)
words-short names h = All-map IsName (λ word. length word ≤ longest_name) (λ i. i.word) (λ i named. named.1) names h

pub names-of : (ps : List NamedFormula) → AllByRecursion IsNamed ps → AllByRecursion IsName (map (λ p. p.name) ps)
names-of ps h = All-map IsNamed IsName (λ p. p.name) (λ p named. named.0) ps h

pub op-called : (around : Around) (o : OpTree) → IsOp o → IsCalled (op_meaning around o) (op_names o)
op-called around o shape = record {
  own = shape.0.1;
  params = omega (arith, length-map (param_names o) (λ i. i.word), length-map o.params (λ p. p.name), refinements-count around 0 (refinement_scope o) o.params);
  short_params = words-short (param_names o) (names-of o.params shape.1);
  queries = omega (arith, length-map (queries_within o.body) (λ i. i.word), body-queries around o.body (start_of o));
  short_queries = words-short (queries_within o.body) (queries-names o.body shape.3);
}
