use Rattle.std.proofs.Common.{sym, ap, ◌∙◌, ◌-◌, arith}
use Rattle.std.specs.Option.{option_map}
use Rattle.std.proofs.lemmas.Option.{slice_get_past, slice_get-get_or}
use Rattle.carol_formula.specs.Tree.{claim_of}
use Rattle.carol_cert.specs.Place.{claim_of_item}
use Rattle.carol_cert.proofs.Places.{more_there, more_elsewhere, more_right, item_of_items, replaced_there, replaced_elsewhere, replaced_right, root_at}
use Rattle.carol_cert.proofs.place.Place.item.Goals as goal

pub returns-then-index-items-clause-found : goal.returns-then-index-items-clause-found
returns-then-index-items-clause-found c =
    sym (more_there _ _ c.args.at (c.args.at - c.in-More.first) _ _ c.in-More.is (omega arith) (omega arith) c.loop-place.invariant.right ∙ ap (option_map claim_of_item) (slice_get_past c.in-More.items.now (c.args.at - c.in-More.first) (omega arith)))
    ∙ c.loop-place.invariant.same

pub returns-then-from-first-clause-found : goal.returns-then-from-first-clause-found
returns-then-from-first-clause-found c =
    let k = c.from-then-from-first.result - c.in-More.first in
    sym (more_there _ _ c.args.at k _ _ c.in-More.is (omega arith) (omega arith) c.loop-place.invariant.right ∙ ap (option_map claim_of_item) (slice_get-get_or c.in-More.items.now k c.index-items-index.result (omega arith)))
    ∙ c.loop-place.invariant.same

pub returns-then-from-first-clause-bounded : goal.returns-then-from-first-clause-bounded
returns-then-from-first-clause-bounded c =
    item_of_items c.in-More.items.now (c.from-then-from-first.result - c.in-More.first) c.index-items-index.result (more_right _ _ _ _ c.in-More.is c.loop-place.invariant.right).0 (omega arith)

pub loop-place-preserved-in-More : goal.loop-place-preserved-in-More
loop-place-preserved-in-More c = record {
  right = (more_right _ _ _ _ c.in-More.is c.loop-place.invariant.right).1;
  same = sym (more_elsewhere _ _ c.args.at _ _ c.in-More.is (omega arith) c.loop-place.invariant.right) ∙ c.loop-place.invariant.same;
}

pub returns-then-number-at-clause-found : goal.returns-then-number-at-clause-found
returns-then-number-at-clause-found c =
    sym (replaced_there _ _ c.args.at _ _ c.in-Replaced.is c.if-number-at.true c.loop-place.invariant.right) ∙ c.loop-place.invariant.same

pub returns-then-number-at-clause-bounded : goal.returns-then-number-at-clause-bounded
returns-then-number-at-clause-bounded c = (replaced_right _ _ _ _ c.in-Replaced.is c.loop-place.invariant.right).0

pub loop-place-preserved : goal.loop-place-preserved
loop-place-preserved c = record {
  right = (replaced_right _ _ _ _ c.in-Replaced.is c.loop-place.invariant.right).1;
  same = sym (replaced_elsewhere _ _ c.args.at _ _ c.in-Replaced.is c.if-number-at.false) ∙ c.loop-place.invariant.same;
}

pub returns-then-index-formulas-clause-found : goal.returns-then-index-formulas-clause-found
returns-then-index-formulas-clause-found c =
    sym (root_at _ _ c.args.at c.in-Root.is ∙ ap (option_map claim_of) (slice_get_past c.in-Root.formulas.now c.args.at c.if-index-formulas.true)) ∙ c.loop-place.invariant.same

pub returns-in-Root-clause-found : goal.returns-in-Root-clause-found
returns-in-Root-clause-found c =
    sym (root_at _ _ c.args.at c.in-Root.is ∙ ap (option_map claim_of) (slice_get-get_or c.in-Root.formulas.now c.args.at c.index-formulas-index.result c.if-index-formulas.false))
    ∙ c.loop-place.invariant.same
