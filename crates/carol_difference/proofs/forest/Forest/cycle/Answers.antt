use Rattle.std.proofs.Common.{◌≡◌, ◌<◌, length, drop, reverse, ap, sym, subst, ◌∙◌, arith}
use Rattle.std.proofs.lemmas.List.{get_or_read}
use Rattle.carol_difference.specs.declared.forest.Entry.{Entry}
use Rattle.carol_difference.specs.Edges.{IsNegativeCycle}
use Rattle.carol_difference.specs.Forest.{entry_at}
use Rattle.carol_difference.proofs.Tracing.{read_passed, trace_step, trace_cycle}
use Rattle.carol_difference.proofs.forest.Forest.cycle.Goals as goal

pub split_at-requires : goal.split_at-requires
split_at-requires c =
    let entry : c.index-entry.result.now ≡ entry_at c.args.self.now.entries.items c.loop-start.at = get_or_read c.args.self.now.entries.items c.loop-start.at c.index-entry.result.now c.loop-start.invariant.known c.index-entry.ensures _ in
    let read = read_passed c.args.nodes c.args.edges.now c.args.self.now.entries.items c.args.self.now.latest.items c.loop-start.passed.items c.loop-start.trail.items c.loop-start.at _ _ c.requires.forest c.loop-start.invariant entry c.index.ensures in
    let mark = c.loop-start.invariant.marks _ c.in-Some.start (read ∙ c.in-Some.is) in
    omega (arith, mark.within, ap length c.as_slice.ensures.value)

pub returns-in-Some-clause-cycle : goal.returns-in-Some-clause-cycle
returns-in-Some-clause-cycle c =
    let entry : c.index-entry.result.now ≡ entry_at c.args.self.now.entries.items c.loop-start.at = get_or_read c.args.self.now.entries.items c.loop-start.at c.index-entry.result.now c.loop-start.invariant.known c.index-entry.ensures _ in
    let read = read_passed c.args.nodes c.args.edges.now c.args.self.now.entries.items c.args.self.now.latest.items c.loop-start.passed.items c.loop-start.trail.items c.loop-start.at _ _ c.requires.forest c.loop-start.invariant entry c.index.ensures in
    let cycle = trace_cycle c.args.nodes c.args.edges.now c.args.self.now.entries.items c.args.self.now.latest.items c.loop-start.passed.items c.loop-start.trail.items c.loop-start.at c.in-Some.start c.requires.forest c.loop-start.invariant (read ∙ c.in-Some.is) in
    let closed = c.split_at.ensures.back ∙ ap (drop c.in-Some.start) c.as_slice.ensures.value in
    subst (IsNegativeCycle c.args.nodes c.args.edges.now) (sym (c.in_ok-numbers.ensures ∙ ap reverse closed)) cycle

pub loop-start-preserved : goal.loop-start-preserved
loop-start-preserved c =
    let entry : c.index-entry.result.now ≡ entry_at c.args.self.now.entries.items c.loop-start.at = get_or_read c.args.self.now.entries.items c.loop-start.at c.index-entry.result.now c.loop-start.invariant.known c.index-entry.ensures _ in
    let read = read_passed c.args.nodes c.args.edges.now c.args.self.now.entries.items c.args.self.now.latest.items c.loop-start.passed.items c.loop-start.trail.items c.loop-start.at _ _ c.requires.forest c.loop-start.invariant entry c.index.ensures in
    let node = ap (λ (e : Entry). e.node) entry in
    let parent = ap (λ (e : Entry). e.parent) entry in
    let edge = ap (λ (e : Entry). e.edge) entry in
    let long : c.len.result ≡ length c.loop-start.trail.items = c.len.ensures ∙ c.loop-start.trail.ok.0 in
    let depth = ap (λ (e : Entry). e.depth) entry in
    let deep : 0 < (entry_at c.args.self.now.entries.items c.loop-start.at).depth = omega (arith, c.if-entry-eq0.false, depth) in
    let step = trace_step c.args.nodes c.args.edges.now c.args.self.now.entries.items c.args.self.now.latest.items c.loop-start.passed.items c.loop-start.trail.items c.loop-start.at c.requires.forest c.loop-start.invariant (read ∙ c.in_default.is) deep in
    rw (node, parent, long, c.in_ok-push.ensures.items, edge) step
