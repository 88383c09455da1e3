-- A program's faults, rules and names from those of its parts.
use Rattle.std.proofs.Common.{◌≡◌, ℕ, List, [], ◌++◌, map, Option, Some, None, refl, ap, sym, subst, ◌∙◌}
use Rattle.std.specs.Prelude.{Result, Err}
use Rattle.std.specs.List.{flat_map}
use Rattle.std.proofs.lemmas.Simd.{map-map}
use Rattle.carol_syntax.specs.declared.cells.CellDecl.{CellDecl}
use Rattle.carol_syntax.specs.declared.files.GuardDecl.{GuardDecl}
use Rattle.carol_syntax.specs.declared.files.ProgramDecl.{ProgramDecl}
use Rattle.carol_syntax.specs.declared.operations.OpDecl.{OpDecl}
use Rattle.carol_syntax.specs.Files.{guard_tree, op_tree, program_tree}
use Rattle.carol_syntax.specs.Formulas.{formula_tree}
use Rattle.carol_program.specs.declared.names.Names.{Names}
use Rattle.carol_program.specs.declared.names.OpNames.{OpNames}
use Rattle.carol_program.specs.declared.program.Program.{Program}
use Rattle.carol_program.specs.Rules.{Rules}
use Rattle.carol_program.specs.WellFormed.{IsWellFormed}
use Rattle.carol_program.specs.Limits.{most_guards, most_ops}
use Rattle.carol_meaning.specs.declared.fault.Fault.{Fault}
use Rattle.carol_meaning.specs.Faults.{earliest, fault_at, IsFirst}
use Rattle.carol_meaning.specs.Declarations.{twice_in, too_many}
use Rattle.carol_meaning.specs.Cells.{cell_faults, titles_in}
use Rattle.carol_meaning.specs.Terms.{formula_faults}
use Rattle.carol_meaning.specs.Stores.{in_invariant, in_guard, words}
use Rattle.carol_meaning.specs.Bodies.{Around}
use Rattle.carol_meaning.specs.Operations.{op_faults}
use Rattle.carol_meaning.specs.Programs.{around, list_faults, program_faults, names_of}
use Rattle.carol_names.proofs.NameLaws.{earliest-two, earliest-three}
use Rattle.carol_meaning.proofs.Lists.{first-none}
use Rattle.carol_resolve.specs.declared.error.NameError.{NameError}
use Rattle.carol_resolve.specs.declared.error.NameError.TheVariants.{Wrong}
use Rattle.carol_resolve.proofs.First.{is-first, none-kept}

-- the names of declarations, and of their trees
guard_names-tree : (guards : List GuardDecl) → map (λ g. g.name) guards ≡ map (λ g. g.name) (map guard_tree guards)
guard_names-tree guards = sym (map-map (λ g. g.name) guard_tree guards)

op_names-tree : (ops : List OpDecl) → map (λ o. o.name) ops ≡ map (λ o. o.name) (map op_tree ops)
op_names-tree ops = sym (map-map (λ o. o.name) op_tree ops)

pub lists-noted : (p : ProgramDecl) (kept one two three four : Option Fault) (guards : List GuardDecl) (ops : List OpDecl) → guards ≡ p.guards → ops ≡ p.ops → one ≡ earliest kept (twice_in (map (λ g. g.name) guards)) → two ≡ earliest one (too_many most_guards (map (λ g. g.name) guards)) → three ≡ earliest two (twice_in (map (λ o. o.name) ops)) → four ≡ earliest three (too_many most_ops (map (λ o. o.name) ops)) → four ≡ earliest kept (list_faults (program_tree p))
lists-noted p kept one two three four guards ops guards_are ops_are h k l m =
    let named : map (λ g. g.name) guards ≡ map (λ g. g.name) (map guard_tree p.guards) = ap (map (λ g. g.name)) guards_are ∙ guard_names-tree p.guards in
    let called : map (λ o. o.name) ops ≡ map (λ o. o.name) (map op_tree p.ops) = ap (map (λ o. o.name)) ops_are ∙ op_names-tree p.ops in
    let again : List Fault = twice_in (map (λ g. g.name) (map guard_tree p.guards)) in
    let past : List Fault = too_many most_guards (map (λ g. g.name) (map guard_tree p.guards)) in
    let ops_again : List Fault = twice_in (map (λ o. o.name) (map op_tree p.ops)) in
    let ops_past : List Fault = too_many most_ops (map (λ o. o.name) (map op_tree p.ops)) in
    earliest-two kept one four again (past ++ (ops_again ++ ops_past))
    (h ∙ ap (λ ns. earliest kept (twice_in ns)) named)
    (earliest-three one two three four past ops_again ops_past
    (k ∙ ap (λ ns. earliest one (too_many most_guards ns)) named)
    (l ∙ ap (λ ns. earliest two (twice_in ns)) called)
    (m ∙ ap (λ ns. earliest three (too_many most_ops ns)) called))

-- what operations can name
pub around-is : (p : ProgramDecl) (cells : List CellDecl) (guards : List GuardDecl) (a : Around) → cells ≡ p.cells → guards ≡ p.guards → a ≡ record { cells = cells; guards = map (λ g. g.name) guards } → a ≡ around (program_tree p)
around-is p cells guards a cells_are guards_are is =
    is ∙
    ap (λ cs. record { cells = cs; guards = map (λ g. g.name) guards }) cells_are ∙
    ap (λ ns. record { cells = p.cells; guards = ns }) (ap (map (λ g. g.name)) guards_are ∙ guard_names-tree p.guards)

pub all-noted : (p : ProgramDecl) (kept one two three four five : Option Fault) (declared cells : List CellDecl) (guards : List GuardDecl) (ops : List OpDecl) (a : Around) → declared ≡ p.cells → cells ≡ p.cells → guards ≡ p.guards → ops ≡ p.ops → a ≡ around (program_tree p) → one ≡ earliest kept (cell_faults declared) → two ≡ earliest one (list_faults (program_tree p)) → three ≡ earliest two (formula_faults (in_invariant cells) (formula_tree p.invariant)) → four ≡ earliest three (flat_map (λ g. formula_faults (in_guard cells) g.formula) (map guard_tree guards)) → five ≡ earliest four (flat_map (op_faults a) (map op_tree ops)) → five ≡ earliest kept (program_faults (program_tree p))
all-noted p kept one two three four five declared cells guards ops a declared_are cells_are guards_are ops_are a_is h k l m n =
    let of_cells : List Fault = cell_faults p.cells in
    let of_lists : List Fault = list_faults (program_tree p) in
    let of_invariant : List Fault = formula_faults (in_invariant p.cells) (formula_tree p.invariant) in
    let of_guards : List Fault = flat_map (λ g. formula_faults (in_guard p.cells) g.formula) (map guard_tree p.guards) in
    let of_ops : List Fault = flat_map (op_faults (around (program_tree p))) (map op_tree p.ops) in
    earliest-three kept one two five of_cells of_lists (of_invariant ++ (of_guards ++ of_ops))
    (h ∙ ap (λ cs. earliest kept (cell_faults cs)) declared_are) k
    (earliest-three two three four five of_invariant of_guards of_ops
    (l ∙ ap (λ cs. earliest two (formula_faults (in_invariant cs) (formula_tree p.invariant))) cells_are)
    (m ∙
    ap (λ cs. earliest three (flat_map (λ g. formula_faults (in_guard cs) g.formula) (map guard_tree guards))) cells_are ∙
    ap (λ gs. earliest three (flat_map (λ g. formula_faults (in_guard p.cells) g.formula) (map guard_tree gs))) guards_are)
    (n ∙
    ap (λ b. earliest four (flat_map (op_faults b) (map op_tree ops))) a_is ∙
    ap (λ os. earliest four (flat_map (op_faults (around (program_tree p))) (map op_tree os))) ops_are))

pub all-called : (p : ProgramDecl) (cells guards : List (List ℕ)) (ops : List OpNames) (declared : List CellDecl) (list : List GuardDecl) (names : Names) → names ≡ record { cells = cells; guards = guards; ops = ops } → declared ≡ p.cells → list ≡ p.guards → cells ≡ flat_map titles_in declared → guards ≡ words (map (λ g. g.name) list) → ops ≡ (names_of (program_tree p)).ops → names ≡ names_of (program_tree p)
all-called p cells guards ops declared list names is declared_are list_is cells_are guards_are ops_are =
    rw (is, cells_are, declared_are, guards_are, list_is, guard_names-tree p.guards, ops_are) refl

-- ---- what is told

same-fault : (f g : Fault) → f.kind ≡ g.kind → f.name ≡ g.name → f.span ≡ g.span → f ≡ g
same-fault f g kinds names spans =
    ap (λ k. fault_at k f.span f.name) kinds ∙ ap (λ n. fault_at g.kind f.span n) names ∙ ap (λ s. fault_at g.kind s g.name) spans

pub told-first : (fs : List Fault) (nothing found : Option Fault) (f g : Fault) (e : NameError) → nothing ≡ None → found ≡ earliest nothing fs → Some f ≡ found → e ≡ Wrong f.kind f.name f.span → (let told : Result Program NameError = Err e in told ≡ Err (Wrong g.kind g.name g.span)) → IsFirst g fs
told-first fs nothing found f g e none noted is made told =
    let kinds : f.kind ≡ g.kind = cc in
    let names : f.name ≡ g.name = cc in
    let spans : f.span ≡ g.span = cc in
    is-first g fs (ap (λ k. earliest k fs) (sym none) ∙ sym noted ∙ sym is ∙ ap (λ (h : Fault). Some h) (same-fault f g kinds names spans))

pub told-none : (fs : List Fault) (nothing found : Option Fault) → nothing ≡ None → found ≡ earliest nothing fs → None ≡ found → fs ≡ []
told-none fs nothing found none noted is = none-kept fs (ap (λ k. earliest k fs) (sym none) ∙ sym noted ∙ sym is)

-- what is well formed, by its equals
pub well-formed-as : (p q : Rules) (names others : Names) → p ≡ q → names ≡ others → IsWellFormed q others → IsWellFormed p names
well-formed-as p q names others same called good =
    subst (λ (r : Rules). IsWellFormed r names) (sym same) (subst (λ (ns : Names). IsWellFormed q ns) (sym called) good)

pub cells-faultless : (p : ProgramDecl) → program_faults (program_tree p) ≡ [] → cell_faults p.cells ≡ []
cells-faultless p none = first-none (cell_faults p.cells) _ none
