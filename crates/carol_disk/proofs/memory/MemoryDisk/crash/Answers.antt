use Rattle.std.proofs.Common.{◌≡◌, ◌∙◌, ap, sym, subst, reverse, take, List}
use Rattle.carol_disk.specs.declared.call.Call.{Call}
use Rattle.carol_disk.specs.Disk.{Only}
use Rattle.carol_disk.specs.Tapes.{MayLeave, Tape, kept_after, seen_after, synced_part}
use Rattle.carol_disk.proofs.Syncing.{seen-synced_part, kept-synced_part, only-synced_part, crashed}
use Rattle.carol_disk.proofs.memory.MemoryDisk.crash.Goals as goal

-- the calls that are left
left : (c : goal.After-truncate) → reverse c.truncate.new.self.items ≡ synced_part (reverse c.self.inside.calls.items)
left c =
    ap reverse (c.truncate.ensures.items ∙ ap (λ (l : List Call). take c.synced_count.result l) (sym c.as_slice.ensures.value))
    ∙ c.synced_count.ensures.calls
    ∙ ap (λ (l : List Call). synced_part (reverse l)) c.as_slice.ensures.value

pub invariant_of-result : goal.invariant_of-result
invariant_of-result c =
    crashed c.self.inside.first.items c.truncate.new.self.items (reverse c.self.inside.calls.items) c.self.inside.safe (left c)
    c.self.invariant.safe_is c.self.invariant.placed

pub returns-clause-seen : goal.returns-clause-seen
returns-clause-seen c =
    ap (λ (l : List Call). seen_after c.self.inside.first.items l) (left c)
    ∙ seen-synced_part c.self.inside.first.items (reverse c.self.inside.calls.items)
    ∙ ap (λ (t : Tape). kept_after t.first t.past) c.self.view_is

pub returns-clause-kept : goal.returns-clause-kept
returns-clause-kept c =
    ap (λ (l : List Call). kept_after c.self.inside.first.items l) (left c)
    ∙ kept-synced_part c.self.inside.first.items (reverse c.self.inside.calls.items)
    ∙ ap (λ (t : Tape). kept_after t.first t.past) c.self.view_is

pub returns-clause-only : goal.returns-clause-only
returns-clause-only c =
    subst (λ (l : List Call). Only (seen_after c.self.inside.first.items l) (MayLeave c.self.inside.first.items l)) (sym (left c))
    (only-synced_part c.self.inside.first.items (reverse c.self.inside.calls.items))
