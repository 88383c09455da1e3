use Rattle.std.proofs.Common.{◌≡◌, ◌⊎◌, List, ℕ, subst, arith}
use Rattle.carol_disk.specs.Disk.{LeavesOnly}
use Rattle.carol_program.specs.Rules.{rules_in}
use Rattle.carol_vault.specs.Opening.{StandsFor}
use Rattle.carol_vault.proofs.Openings.{begun, goes_well, synced_kept}
use Rattle.carol_vault.proofs.open.begin.Goals as goal

pub returns-in-Ok-clause-any_moment : goal.returns-in-Ok-clause-any_moment
returns-in-Ok-clause-any_moment g c =
    let p = rules_in c.args.accepted.program in
    let old = c.args.disk.now in
    let mid = c.sync.new.self in
    let new = c.recover.new.disk in
    let stands : List ℕ → Type 0 = StandsFor p c.args.scene (g.D.Disk.seen old) in
    let second : LeavesOnly g.D.Disk.moment g.D.Disk.left_since mid new stands =
    subst (λ (f : List ℕ). LeavesOnly g.D.Disk.moment g.D.Disk.left_since mid new (StandsFor p c.args.scene f)) c.sync.ensures.seen c.recover.ensures.any_moment in
    goes_well g.D.Disk.moment g.D.Disk.left_since old mid new (g.D.Disk.may_leave old) stands
    (begun g.D.Disk.moment g.D.Disk.left_since old mid (g.D.Disk.may_leave old) (g.D.Disk.may_leave mid) stands (g.met.D.Disk.only_now old) (omega (arith, c.in-Ok.ensures.ticks))
    c.sync.ensures.time c.sync.ensures.crash)
    second

pub returns-in-Err-clause-any_moment : goal.returns-in-Err-clause-any_moment
returns-in-Err-clause-any_moment g c =
    let old = c.args.disk.now in
    let mid = c.sync.new.self in
    begun g.D.Disk.moment g.D.Disk.left_since old mid (g.D.Disk.may_leave old) (g.D.Disk.may_leave mid) (StandsFor (rules_in c.args.accepted.program) c.args.scene (g.D.Disk.seen old))
    (g.met.D.Disk.only_now old) (omega (arith, c.in-Err.ensures.ticks)) c.sync.ensures.time c.sync.ensures.crash

pub returns-in-Ok-clause-kept : goal.returns-in-Ok-clause-kept
returns-in-Ok-clause-kept g c =
    let p = rules_in c.args.accepted.program in
    let now = g.D.Disk.kept c.recover.new.disk in
    let mid = g.D.Disk.kept c.sync.new.self in
    synced_kept p c.args.scene (g.D.Disk.seen c.args.disk.now) mid now (g.D.Disk.kept c.args.disk.now) c.in-Ok.ensures.synced
    (subst (λ (f : List ℕ). (now ≡ mid) ⊎ StandsFor p c.args.scene f now) c.sync.ensures.seen c.recover.ensures.kept)
