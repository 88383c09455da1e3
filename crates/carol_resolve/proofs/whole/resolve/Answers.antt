use Rattle.carol_syntax.specs.Files.{program_tree}
use Rattle.carol_meaning.specs.Programs.{program_faults, rules_of, names_of}
use Rattle.carol_meaning.proofs.Programs.{faultless_is_well_formed}
use Rattle.carol_resolve.proofs.Program.{told-first, told-none, cells-faultless, well-formed-as}
use Rattle.carol_resolve.proofs.whole.resolve.Goals as goal

pub returns-in-Some-clause-wrong : goal.returns-in-Some-clause-wrong
returns-in-Some-clause-wrong c f told =
    told-first (program_faults (program_tree c.args.file.now.program)) _ _ c.in-Some.fault f _ c.new-finder.ensures c.in_ok-parts.ensures.faults c.in-Some.ensures c.from.ensures told

pub whole-requires-clause-cells : goal.whole-requires-clause-cells
whole-requires-clause-cells c =
    cells-faultless c.args.file.now.program (told-none _ _ _ c.new-finder.ensures c.in_ok-parts.ensures.faults c.in-None.ensures)

pub returns-in_ok-program-in-None-clause-faultless : goal.returns-in_ok-program-in-None-clause-faultless
returns-in_ok-program-in-None-clause-faultless c =
    told-none _ _ _ c.new-finder.ensures c.in_ok-parts.ensures.faults c.in-None.ensures

pub returns-in_ok-program-in-None-clause-well_formed : goal.returns-in_ok-program-in-None-clause-well_formed
returns-in_ok-program-in-None-clause-well_formed c =
    well-formed-as _ (rules_of (program_tree c.args.file.now.program)) _ (names_of (program_tree c.args.file.now.program)) c.in_ok-program-in-None.ensures.rules
    c.in_ok-program-in-None.ensures.names
    (faultless_is_well_formed (program_tree c.args.file.now.program) c.requires.shape c.requires.size
    (told-none _ _ _ c.new-finder.ensures c.in_ok-parts.ensures.faults c.in-None.ensures))
