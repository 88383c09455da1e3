-- What a program stands for, and what is wrong with it.
use Rattle.std.specs.Prelude.{List, ◌++◌, map}
use Rattle.std.specs.List.{flat_map}
use Rattle.carol_syntax.specs.declared.places.Ident.{Ident}
use Rattle.carol_syntax.specs.Files.{ProgramTree}
use Rattle.carol_program.specs.declared.names.Names.{Names}
use Rattle.carol_program.specs.Limits.{most_guards, most_ops}
use Rattle.carol_program.specs.Rules.{Rules}
use Rattle.carol_meaning.specs.declared.fault.Fault.{Fault}
use Rattle.carol_meaning.specs.Declarations.{twice_in, too_many}
use Rattle.carol_meaning.specs.Cells.{cell_faults, kinds_in, starts_in, titles_in}
use Rattle.carol_meaning.specs.Terms.{formula_meaning, formula_faults}
use Rattle.carol_meaning.specs.Stores.{in_invariant, in_guard, words}
use Rattle.carol_meaning.specs.Bodies.{Around}
use Rattle.carol_meaning.specs.Operations.{op_faults, op_meaning, op_names}

abbrev pub guard_names : ProgramTree → List Ident
guard_names p = map (λ g. g.name) p.guards

abbrev pub op_idents : ProgramTree → List Ident
op_idents p = map (λ o. o.name) p.ops

-- what an operation can name of the program
abbrev pub around : ProgramTree → Around
around p = record { cells = p.cells; guards = guard_names p }

-- guards have one space of names, and so have operations
abbrev pub list_faults : ProgramTree → List Fault
list_faults p =
    twice_in (guard_names p) ++ (too_many most_guards (guard_names p) ++ (twice_in (op_idents p) ++ too_many most_ops (op_idents p)))

-- all that is wrong with a program
abbrev pub program_faults : ProgramTree → List Fault
program_faults p =
    cell_faults p.cells ++
    (list_faults p ++
    (formula_faults (in_invariant p.cells) p.invariant ++
    (flat_map (λ g. formula_faults (in_guard p.cells) g.formula) p.guards ++ flat_map (op_faults (around p)) p.ops)))

-- the program that a tree stands for, where nothing is wrong with it
abbrev pub rules_of : ProgramTree → Rules
rules_of p = record {
  shape = flat_map kinds_in p.cells;
  initial = flat_map starts_in p.cells;
  invariant = formula_meaning (in_invariant p.cells) p.invariant;
  guards = map (λ g. formula_meaning (in_guard p.cells) g.formula) p.guards;
  ops = map (op_meaning (around p)) p.ops;
}

-- what its parts are called
abbrev pub names_of : ProgramTree → Names
names_of p = record { cells = flat_map titles_in p.cells; guards = words (guard_names p); ops = map op_names p.ops }
