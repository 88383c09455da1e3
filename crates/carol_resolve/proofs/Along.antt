-- The names that an operation declares.
use Rattle.std.proofs.Common.{◌≡◌, ◌≤◌, ℕ, List, ◌++◌, length, drop, map, refl, sym, ap, ◌∙◌}
use Rattle.std.proofs.lemmas.List.{at_drop_all, append-nil}
use Rattle.std.proofs.lemmas.Simd.{map-map}
use Rattle.std.specs.Prelude.{Option}
use Rattle.carol_syntax.specs.declared.places.Ident.{Ident}
use Rattle.carol_syntax.specs.declared.operations.ParamDecl.{ParamDecl}
use Rattle.carol_syntax.specs.declared.operations.OpDecl.{OpDecl}
use Rattle.carol_syntax.specs.Files.{param_tree, op_tree}
use Rattle.carol_syntax.specs.Bodies.{body_tree}
use Rattle.carol_program.specs.declared.names.OpNames.{OpNames}
use Rattle.carol_program.specs.Limits.{most_params, most_queries}
use Rattle.carol_meaning.specs.declared.fault.Fault.{Fault}
use Rattle.carol_meaning.specs.Faults.{earliest}
use Rattle.carol_meaning.specs.Declarations.{twice_in, too_many}
use Rattle.carol_meaning.specs.Bodies.{names_within, queries_within}
use Rattle.carol_meaning.specs.Operations.{op_declared, declared_faults, op_names}
use Rattle.carol_meaning.specs.Stores.{words}
use Rattle.carol_names.proofs.NameLaws.{earliest-three}

-- the names of parameters, and of their trees
pub param_names-tree : (params : List ParamDecl) → map (λ p. p.name) params ≡ map (λ p. p.name) (map param_tree params)
param_names-tree params = sym (map-map (λ p. p.name) param_tree params)

pub all-declared : (o : OpDecl) (before all : List Ident) (params : List ParamDecl) (i : ℕ) → params ≡ o.params → length params ≤ i → before ++ map (λ p. p.name) (drop i params) ≡ map (λ p. p.name) params → all ≡ before ++ names_within (body_tree o.body) → all ≡ op_declared (op_tree o)
all-declared o before all params i is past so_far made =
    let first : before ≡ map (λ p. p.name) params = sym (at_drop_all (λ ps. before ++ map (λ p. p.name) ps) params i past ∙ append-nil before) ∙ so_far in
    made ∙ ap (λ names. names ++ names_within (body_tree o.body)) (first ∙ ap (map (λ p. p.name)) is ∙ param_names-tree o.params)

pub declared-noted : (o : OpDecl) (kept one two three : Option Fault) (names queries : List Ident) (params : List ParamDecl) → names ≡ op_declared (op_tree o) → params ≡ o.params → queries ≡ queries_within (body_tree o.body) → one ≡ earliest kept (twice_in names) → two ≡ earliest one (too_many most_params (map (λ p. p.name) params)) → three ≡ earliest two (too_many most_queries queries) → three ≡ earliest kept (declared_faults (op_tree o))
declared-noted o kept one two three names queries params all is queried h k l =
    earliest-three kept one two three (twice_in (op_declared (op_tree o))) (too_many most_params (map (λ p. p.name) (map param_tree o.params))) (too_many most_queries (queries_within (body_tree o.body)))
    (h ∙ ap (λ ns. earliest kept (twice_in ns)) all)
    (k ∙ ap (λ ns. earliest one (too_many most_params ns)) (ap (map (λ p. p.name)) is ∙ param_names-tree o.params))
    (l ∙ ap (λ ns. earliest two (too_many most_queries ns)) queried)

pub all-named : (o : OpDecl) (own : List ℕ) (params queries : List (List ℕ)) (declared : List ParamDecl) (idents : List Ident) → own ≡ o.name.word → declared ≡ o.params → params ≡ words (map (λ p. p.name) declared) → queries ≡ words idents → idents ≡ queries_within (body_tree o.body) → (let made : OpNames = record { own = own; params = params; queries = queries } in made ≡ op_names (op_tree o))
all-named o own params queries declared idents own_is is params_are queries_are queried =
    rw (own_is, params_are, is, param_names-tree o.params, queries_are, queried) refl
