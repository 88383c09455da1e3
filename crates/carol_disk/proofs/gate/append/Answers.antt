use Rattle.std.proofs.Common.{◌≡◌, ◌+◌, ◌++◌, [], ◌∷◌, List, ℕ, length, take, inl, sym, ◌∙◌, ap, subst, arith, length-append}
use Rattle.std.proofs.lemmas.Result.{on_err_weaker, on_ok_weaker}
use Rattle.carol_disk.specs.Disk.{LeavesOnly, Torn, written}
use Rattle.carol_disk.specs.Gates.{EndsBehind, GrowsBy}
use Rattle.carol_disk.proofs.GateLemmas.{staged_ends, torn_behind, torn_gate, written_behind, written_gate}
use Rattle.carol_disk.proofs.Moments.{then, weaker}
use Rattle.carol_disk.proofs.gate.append.Given.{Over}
use Rattle.carol_disk.proofs.gate.append.Goals as goal

-- after the first write
staged_is : (g : Over) (c : goal.After-write_through-2 g) → g.D.Disk.seen c.write_through.new.disk ≡ g.D.Disk.seen c.args.disk.now ++ c.args.part.now
staged_is g c =
    c.in_ok-write_through.ensures.written (omega (arith, c.requires.long))
    ∙ written_behind (g.D.Disk.seen c.args.disk.now) c.args.gate c.requires.long c.requires.shut c.args.part.now

pub returns-in_err-write_through-clause-any_moment : goal.returns-in_err-write_through-clause-any_moment
returns-in_err-write_through-clause-any_moment g c =
    let file = g.D.Disk.seen c.args.disk.now in
    let part = c.args.part.now in
    weaker g.D.Disk.moment g.D.Disk.left_since c.args.disk.now c.write_through.new.disk (Torn (c.args.gate + 1) (c.args.gate + 1 + length part) file) (GrowsBy (take c.args.gate file) part)
    (λ d torn. inl (torn_behind file c.args.gate c.requires.long c.requires.shut part d torn)) c.write_through.ensures.any_moment

pub returns-clause-written : goal.returns-clause-written
returns-clause-written g c =
    let file = g.D.Disk.seen c.args.disk.now in
    let part = c.args.part.now in
    let staged = staged_is g c in
    on_ok_weaker c.write_through-2.result
    (λ wrote. wrote (omega (arith, ap length staged, length-append file part, c.requires.long))
    ∙ ap (λ (l : List ℕ). written l c.args.gate (1 ∷ [])) staged
    ∙ written_gate file c.args.gate c.requires.long c.requires.shut part)
    c.write_through-2.ensures.written

pub returns-clause-unkept : goal.returns-clause-unkept
returns-clause-unkept g c =
    let file = g.D.Disk.seen c.args.disk.now in
    let part = c.args.part.now in
    on_err_weaker c.write_through-2.result
    (λ unkept. subst (EndsBehind (take c.args.gate file)) (sym (unkept ∙ c.in_ok-write_through.ensures.kept ∙ staged_is g c))
    (staged_ends file c.args.gate c.requires.long c.requires.shut part))
    c.write_through-2.ensures.unkept

pub returns-clause-any_moment : goal.returns-clause-any_moment
returns-clause-any_moment g c =
    let file = g.D.Disk.seen c.args.disk.now in
    let part = c.args.part.now in
    let P : List ℕ → Type 0 = GrowsBy (take c.args.gate file) part in
    let first : LeavesOnly g.D.Disk.moment g.D.Disk.left_since c.args.disk.now c.write_through.new.disk P =
    weaker g.D.Disk.moment g.D.Disk.left_since c.args.disk.now c.write_through.new.disk (Torn (c.args.gate + 1) (c.args.gate + 1 + length part) file) P
    (λ d torn. inl (torn_behind file c.args.gate c.requires.long c.requires.shut part d torn)) c.write_through.ensures.any_moment in
    let second : LeavesOnly g.D.Disk.moment g.D.Disk.left_since c.write_through.new.disk c.write_through-2.new.disk P =
    weaker g.D.Disk.moment g.D.Disk.left_since c.write_through.new.disk c.write_through-2.new.disk (Torn c.args.gate (c.args.gate + 1) (g.D.Disk.seen c.write_through.new.disk)) P
    (λ d torn. torn_gate file c.args.gate c.requires.long c.requires.shut part d (subst (λ (l : List ℕ). Torn c.args.gate (c.args.gate + 1) l d) (staged_is g c) torn))
    c.write_through-2.ensures.any_moment in
    then g.D.Disk.moment g.D.Disk.left_since c.args.disk.now c.write_through.new.disk c.write_through-2.new.disk P first second
