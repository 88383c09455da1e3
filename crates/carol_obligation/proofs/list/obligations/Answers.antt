use Rattle.std.proofs.Common.{[], ◌∙◌, ap, subst, sym}
use Rattle.carol_program.specs.Rules.{rules_in}
use Rattle.carol_obligation.specs.Keeping.{AreDecidable, AreKept}
use Rattle.carol_obligation.specs.Listed.{owed_in}
use Rattle.carol_obligation.specs.Places.{obligations_of}
use Rattle.carol_obligation.specs.Spots.{spots_of}
use Rattle.carol_obligation.proofs.Spots.{all_exact, narrow_decidable, obligations_from-spots, owed_at_spots}
use Rattle.carol_obligation.proofs.list.obligations.Goals as goal

pub returns : goal.returns
returns c =
    let p = rules_in c.args.program.now in
    let list = c.walk_all.new.collector.list in
    let start : AreKept c.new.result [] = record { same = ap owed_in c.new.ensures; decidable = subst AreDecidable (sym c.new.ensures) tt } in
    let kept : AreKept list (obligations_of p) = c.in_ok-walk_all.ensures [] start in
    record {
      formulas = kept.same;
      exact = owed_at_spots p list (spots_of p) (kept.same ∙ obligations_from-spots p 0 p.ops) (all_exact p c.requires 0 p.ops c.requires.ops);
      narrow = narrow_decidable list kept.decidable;
    }
