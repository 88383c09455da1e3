use Rattle.std.proofs.Common.{◌+◌, List, ℕ, drop, take, sym, subst}
use Rattle.std.proofs.lemmas.Result.{on_ok_weaker}
use Rattle.carol_disk.specs.Disk.{CutBack}
use Rattle.carol_disk.specs.Gates.{EndsBehind, IsShut}
use Rattle.carol_disk.proofs.GateLemmas.{cut_behind, shut_inside, shut_taken}
use Rattle.carol_disk.proofs.Moments.{weaker}
use Rattle.carol_disk.proofs.gate.settle.Goals as goal

pub returns-clause-shut : goal.returns-clause-shut
returns-clause-shut g c =
    let file = g.D.Disk.seen c.args.disk.now in
    let shut : IsShut (drop c.args.gate file) = c.requires.shut c.if-size-le1.false in
    on_ok_weaker c.cut_through-2.result
    (λ cut. subst (λ (l : List ℕ). IsShut (drop c.args.gate l)) (sym (cut (shut_inside file c.args.gate shut))) (shut_taken file c.args.gate shut))
    c.cut_through-2.ensures.cut

pub returns-clause-any_moment : goal.returns-clause-any_moment
returns-clause-any_moment g c =
    let file = g.D.Disk.seen c.args.disk.now in
    weaker g.D.Disk.moment g.D.Disk.left_since c.args.disk.now c.cut_through-2.new.disk (CutBack (c.args.gate + 1) file) (EndsBehind (take c.args.gate file))
    (λ d cut. cut_behind file d c.args.gate (c.requires.shut c.if-size-le1.false) cut) c.cut_through-2.ensures.any_moment
