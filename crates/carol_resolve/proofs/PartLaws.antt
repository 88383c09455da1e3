-- The faults of an operation from those of its parts.
use Rattle.std.proofs.Common.{◌≡◌, true, List, [], ◌++◌, map, ap, ◌∙◌}
use Rattle.std.specs.Prelude.{Option}
use Rattle.carol_syntax.specs.declared.operations.ParamDecl.{ParamDecl}
use Rattle.carol_syntax.specs.declared.operations.OpDecl.{OpDecl}
use Rattle.carol_syntax.specs.Files.{param_tree, op_tree}
use Rattle.carol_syntax.specs.Formulas.{formula_tree}
use Rattle.carol_syntax.specs.Bodies.{body_tree}
use Rattle.carol_meaning.specs.declared.fault.Fault.{Fault}
use Rattle.carol_meaning.specs.Faults.{earliest}
use Rattle.carol_meaning.specs.Terms.{formula_faults}
use Rattle.carol_meaning.specs.Scopes.{Scope, in_scope}
use Rattle.carol_meaning.specs.Bodies.{Around, Point, body_faults}
use Rattle.carol_meaning.specs.Operations.{with_params, refinement_scope, outcome_scope, start_of, refinement_faults, declared_faults, op_faults}
use Rattle.carol_names.proofs.NameLaws.{earliest-two, earliest-three}

-- the place at the start of a body that sees these names
abbrev start_at : Scope → Point
start_at scope = record { scope = scope; slot = 0; number = 1 }

pub parts-noted : (around : Around) (o : OpDecl) (kept one two three four : Option Fault) (params : List ParamDecl) (first last start : Scope) → params ≡ o.params → first ≡ refinement_scope (op_tree o) → last ≡ with_params 0 first (map param_tree params) → start ≡ with_params 0 [] (map param_tree params) → one ≡ earliest kept (declared_faults (op_tree o)) → two ≡ earliest one (refinement_faults around 0 first (map param_tree params)) → three ≡ earliest two (formula_faults (in_scope around.cells true last) (formula_tree o.gives)) → four ≡ earliest three (body_faults around (record { scope = start; slot = 0; number = 1 }) (body_tree o.body)) → four ≡ earliest kept (op_faults around (op_tree o))
parts-noted around o kept one two three four params first last start is first_is last_is start_is h k l m =
    let here : map param_tree params ≡ map param_tree o.params = ap (map param_tree) is in
    let refined : two ≡ earliest one (refinement_faults around 0 (refinement_scope (op_tree o)) (map param_tree o.params)) =
    k ∙ ap (λ s. earliest one (refinement_faults around 0 s (map param_tree params))) first_is ∙ ap (λ ps. earliest one (refinement_faults around 0 (refinement_scope (op_tree o)) ps)) here in
    let behind : last ≡ outcome_scope (op_tree o) =
    last_is ∙ ap (λ s. with_params 0 s (map param_tree params)) first_is ∙ ap (with_params 0 (refinement_scope (op_tree o))) here in
    let given : three ≡ earliest two (formula_faults (in_scope around.cells true (outcome_scope (op_tree o))) (formula_tree o.gives)) =
    l ∙ ap (λ s. earliest two (formula_faults (in_scope around.cells true s) (formula_tree o.gives))) behind in
    let walked : four ≡ earliest three (body_faults around (start_of (op_tree o)) (body_tree o.body)) =
    m ∙ ap (λ s. earliest three (body_faults around (start_at s) (body_tree o.body))) (start_is ∙ ap (with_params 0 []) here) in
    let noted : List Fault = declared_faults (op_tree o) in
    let refining : List Fault = refinement_faults around 0 (refinement_scope (op_tree o)) (map param_tree o.params) in
    let giving : List Fault = formula_faults (in_scope around.cells true (outcome_scope (op_tree o))) (formula_tree o.gives) in
    let walking : List Fault = body_faults around (start_of (op_tree o)) (body_tree o.body) in
    earliest-two kept one four noted (refining ++ (giving ++ walking)) h (earliest-three one two three four refining giving walking refined given walked)
