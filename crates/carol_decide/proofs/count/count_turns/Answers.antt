use Rattle.std.proofs.Common.{◌∷◌, [], sym, arith, append-nil}
use Rattle.carol_decide.proofs.Counting.{counted, opens_absurd, opens_rows, opens_unclosed, opens_part, opens_split, opens_branch, some_turn, branch_turns, both_pushed}
use Rattle.carol_decide.proofs.count.count_turns.Goals as goal

pub overflow_add-turns : goal.overflow_add-turns
overflow_add-turns c =
    let one = counted c.loop-next.waiting.items c.pop.new.self.items c.pop.new.self.items c.in-Some.next 1 [] c.in-Some.ensures.items (sym (append-nil c.pop.new.self.items)) (opens_absurd c.in-Some.next.now c.in-Absurd.at c.in-Absurd.is) in
    omega (arith, c.requires, c.loop-next.invariant, one.turns)

pub loop-next-smaller-in-Absurd : goal.loop-next-smaller-in-Absurd
loop-next-smaller-in-Absurd c = (counted c.loop-next.waiting.items c.pop.new.self.items c.pop.new.self.items c.in-Some.next 1 [] c.in-Some.ensures.items (sym (append-nil c.pop.new.self.items)) (opens_absurd c.in-Some.next.now c.in-Absurd.at c.in-Absurd.is)).rank

pub loop-next-preserved-in-Absurd : goal.loop-next-preserved-in-Absurd
loop-next-preserved-in-Absurd c =
    let one = counted c.loop-next.waiting.items c.pop.new.self.items c.pop.new.self.items c.in-Some.next 1 [] c.in-Some.ensures.items (sym (append-nil c.pop.new.self.items)) (opens_absurd c.in-Some.next.now c.in-Absurd.at c.in-Absurd.is) in
    omega (arith, c.loop-next.invariant, one.turns)

pub overflow_add-turns-in-Rows : goal.overflow_add-turns-in-Rows
overflow_add-turns-in-Rows c =
    let one = counted c.loop-next.waiting.items c.pop.new.self.items c.pop.new.self.items c.in-Some.next 1 [] c.in-Some.ensures.items (sym (append-nil c.pop.new.self.items)) (opens_rows c.in-Some.next.now c.in-Rows.field-0 c.in-Rows.is) in
    omega (arith, c.requires, c.loop-next.invariant, one.turns)

pub loop-next-smaller-in-Rows : goal.loop-next-smaller-in-Rows
loop-next-smaller-in-Rows c = (counted c.loop-next.waiting.items c.pop.new.self.items c.pop.new.self.items c.in-Some.next 1 [] c.in-Some.ensures.items (sym (append-nil c.pop.new.self.items)) (opens_rows c.in-Some.next.now c.in-Rows.field-0 c.in-Rows.is)).rank

pub loop-next-preserved-in-Rows : goal.loop-next-preserved-in-Rows
loop-next-preserved-in-Rows c =
    let one = counted c.loop-next.waiting.items c.pop.new.self.items c.pop.new.self.items c.in-Some.next 1 [] c.in-Some.ensures.items (sym (append-nil c.pop.new.self.items)) (opens_rows c.in-Some.next.now c.in-Rows.field-0 c.in-Rows.is) in
    omega (arith, c.loop-next.invariant, one.turns)

pub loop-next-smaller-in-Unclosed : goal.loop-next-smaller-in-Unclosed
loop-next-smaller-in-Unclosed c = (counted c.loop-next.waiting.items c.pop.new.self.items c.pop.new.self.items c.in-Some.next 0 [] c.in-Some.ensures.items (sym (append-nil c.pop.new.self.items)) (opens_unclosed c.in-Some.next.now c.in-Unclosed.is)).rank

pub loop-next-preserved-in-Unclosed : goal.loop-next-preserved-in-Unclosed
loop-next-preserved-in-Unclosed c =
    let one = counted c.loop-next.waiting.items c.pop.new.self.items c.pop.new.self.items c.in-Some.next 0 [] c.in-Some.ensures.items (sym (append-nil c.pop.new.self.items)) (opens_unclosed c.in-Some.next.now c.in-Unclosed.is) in
    omega (arith, c.loop-next.invariant, one.turns)

pub overflow_add-turns-in-Branch : goal.overflow_add-turns-in-Branch
overflow_add-turns-in-Branch c =
    let one = some_turn c.loop-next.waiting.items c.pop.new.self.items c.in-Some.next c.in-Some.ensures.items (branch_turns c.in-Some.next.now c.in-Branch.variable c.in-Branch.k c.in-Branch.low c.in-Branch.high c.in-Branch.is) in
    omega (arith, c.requires, c.loop-next.invariant, one)

pub loop-next-smaller-in-Continue-branch-2 : goal.loop-next-smaller-in-Continue-branch-2
loop-next-smaller-in-Continue-branch-2 c =
    (counted c.loop-next.waiting.items c.pop.new.self.items c.push-in-Part.new.self.items c.in-Some.next 0 (c.get.result ∷ []) c.in-Some.ensures.items c.in_ok-push-in-Part.ensures.items (opens_part c.in-Some.next.now c.in-Part.at c.in-Part.rest c.get.result c.in-Part.is c.get.ensures)).rank

pub loop-next-preserved-in-Continue-branch-2 : goal.loop-next-preserved-in-Continue-branch-2
loop-next-preserved-in-Continue-branch-2 c =
    let one = counted c.loop-next.waiting.items c.pop.new.self.items c.push-in-Part.new.self.items c.in-Some.next 0 (c.get.result ∷ []) c.in-Some.ensures.items c.in_ok-push-in-Part.ensures.items (opens_part c.in-Some.next.now c.in-Part.at c.in-Part.rest c.get.result c.in-Part.is c.get.ensures) in
    omega (arith, c.loop-next.invariant, one.turns)

pub loop-next-smaller-in-Continue-branch-4 : goal.loop-next-smaller-in-Continue-branch-4
loop-next-smaller-in-Continue-branch-4 c =
    (counted c.loop-next.waiting.items c.pop.new.self.items c.push-in-Split-2.new.self.items c.in-Some.next 0 (c.get-in-Split.result ∷ c.get-in-Split-2.result ∷ []) c.in-Some.ensures.items
    (both_pushed c.pop.new.self.items c.push-in-Split.new.self.items c.push-in-Split-2.new.self.items c.get-in-Split.result c.get-in-Split-2.result c.in_ok-push-in-Split.ensures.items c.in_ok-push-in-Split-2.ensures.items)
    (opens_split c.in-Some.next.now c.in-Split.at c.in-Split.left c.in-Split.right c.get-in-Split.result c.get-in-Split-2.result c.in-Split.is c.get-in-Split.ensures c.get-in-Split-2.ensures)).rank

pub loop-next-preserved-in-Continue-branch-4 : goal.loop-next-preserved-in-Continue-branch-4
loop-next-preserved-in-Continue-branch-4 c =
    let one = counted c.loop-next.waiting.items c.pop.new.self.items c.push-in-Split-2.new.self.items c.in-Some.next 0 (c.get-in-Split.result ∷ c.get-in-Split-2.result ∷ []) c.in-Some.ensures.items
    (both_pushed c.pop.new.self.items c.push-in-Split.new.self.items c.push-in-Split-2.new.self.items c.get-in-Split.result c.get-in-Split-2.result c.in_ok-push-in-Split.ensures.items c.in_ok-push-in-Split-2.ensures.items)
    (opens_split c.in-Some.next.now c.in-Split.at c.in-Split.left c.in-Split.right c.get-in-Split.result c.get-in-Split-2.result c.in-Split.is c.get-in-Split.ensures c.get-in-Split-2.ensures) in
    omega (arith, c.loop-next.invariant, one.turns)

pub loop-next-smaller : goal.loop-next-smaller
loop-next-smaller c =
    (counted c.loop-next.waiting.items c.pop.new.self.items c.push-in-Branch-2.new.self.items c.in-Some.next 1 (c.get-in-Branch.result ∷ c.get-in-Branch-2.result ∷ []) c.in-Some.ensures.items
    (both_pushed c.pop.new.self.items c.push-in-Branch.new.self.items c.push-in-Branch-2.new.self.items c.get-in-Branch.result c.get-in-Branch-2.result c.in_ok-push-in-Branch.ensures.items c.in_ok-push-in-Branch-2.ensures.items)
    (opens_branch c.in-Some.next.now c.in-Branch.variable c.in-Branch.k c.in-Branch.low c.in-Branch.high c.get-in-Branch.result c.get-in-Branch-2.result c.in-Branch.is c.get-in-Branch.ensures c.get-in-Branch-2.ensures)).rank

pub loop-next-preserved : goal.loop-next-preserved
loop-next-preserved c =
    let one = counted c.loop-next.waiting.items c.pop.new.self.items c.push-in-Branch-2.new.self.items c.in-Some.next 1 (c.get-in-Branch.result ∷ c.get-in-Branch-2.result ∷ []) c.in-Some.ensures.items
    (both_pushed c.pop.new.self.items c.push-in-Branch.new.self.items c.push-in-Branch-2.new.self.items c.get-in-Branch.result c.get-in-Branch-2.result c.in_ok-push-in-Branch.ensures.items c.in_ok-push-in-Branch-2.ensures.items)
    (opens_branch c.in-Some.next.now c.in-Branch.variable c.in-Branch.k c.in-Branch.low c.in-Branch.high c.get-in-Branch.result c.get-in-Branch-2.result c.in-Branch.is c.get-in-Branch.ensures c.get-in-Branch-2.ensures) in
    omega (arith, c.loop-next.invariant, one.turns)
