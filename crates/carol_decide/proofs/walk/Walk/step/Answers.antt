use Rattle.std.proofs.Common.{◌+◌, ◌≤◌, length, arith, refl, subst, sym}
use Rattle.carol_formula.specs.Tree.{claim_of}
use Rattle.carol_elimination.specs.Due.{AreRows}
use Rattle.carol_decide.specs.Sizes.{AreReady}
use Rattle.carol_decide.specs.Piece.{claims_in}
use Rattle.carol_decide.specs.Frames.{turns_on}
use Rattle.carol_decide.specs.Forks.{IsNext}
use Rattle.carol_decide.specs.declared.fork.Next.TheVariants.{Close, Part, Split}
use Rattle.carol_decide.specs.Table.{IsClosed}
use Rattle.carol_decide.specs.State.{IsAt, IsOpenUnder}
use Rattle.carol_decide.proofs.Forking.{no_not_from}
use Rattle.carol_decide.proofs.Counting.{proof_of-Absurd, proof_of-Unclosed}
use Rattle.carol_decide.proofs.Walking.{few_pieces, ready_at, close_absurd, some_left, open_here, down_parts, down_low, if_ok}
use Rattle.carol_decide.proofs.walk.Walk.step.Goals as goal

pub returns-then-self-eq0 : goal.returns-then-self-eq0
returns-then-self-eq0 c =
    let claim = claim_of c.args.formula.now in
    let leaves = turns_on c.args.self.now.frames.items + c.args.self.now.left in
    let at : IsAt claim leaves c.args.self.now = record { lead = c.requires.lead; turns = refl } in (
      c.in_ok-tree.ensures claim leaves (subst (IsOpenUnder claim leaves c.args.self.now.frames.items) (sym proof_of-Unclosed) (open_here claim leaves c.args.self.now at c.if-self-eq0.true)),
      λ d enough. absurd (some_left claim leaves c.args.self.now at c.if-self-eq0.true d enough),
    )

pub next_at-requires : goal.next_at-requires
next_at-requires c =
    let few : length c.args.self.now.pieces.items ≤ 131072 = few_pieces (claim_of c.args.formula.now) c.args.self.now.frames.items c.args.self.now.pieces.items c.requires.root c.requires.lead in
    subst (λ ps. length ps ≤ 4294967296) (sym c.deref.ensures.value) (omega arith)

pub attempt-requires-clause-plain : goal.attempt-requires-clause-plain
attempt-requires-clause-plain c = no_not_from (claim_of c.args.formula.now) c.requires.root.ready

pub attempt-requires-clause-ready : goal.attempt-requires-clause-ready
attempt-requires-clause-ready c =
    subst (λ ps. AreReady (claims_in ps)) (sym c.deref-in-Split.ensures.value) (ready_at (claim_of c.args.formula.now) c.args.self.now.frames.items (claims_in c.args.self.now.pieces.items) c.requires.root c.requires.lead)

pub attempt-requires-clause-count : goal.attempt-requires-clause-count
attempt-requires-clause-count c =
    let few : length c.args.self.now.pieces.items ≤ 131072 = few_pieces (claim_of c.args.formula.now) c.args.self.now.frames.items c.args.self.now.pieces.items c.requires.root c.requires.lead in
    subst (λ ps. length ps ≤ 268435456) (sym c.deref-in-Split.ensures.value) (omega arith)

pub settle-requires-clause-ready : goal.settle-requires-clause-ready
settle-requires-clause-ready c =
    subst (λ ps. AreReady (claims_in ps)) (sym c.deref-in-Settle.ensures.value) (ready_at (claim_of c.args.formula.now) c.args.self.now.frames.items (claims_in c.args.self.now.pieces.items) c.requires.root c.requires.lead)

pub settle-requires-clause-count : goal.settle-requires-clause-count
settle-requires-clause-count c =
    let few : length c.args.self.now.pieces.items ≤ 131072 = few_pieces (claim_of c.args.formula.now) c.args.self.now.frames.items c.args.self.now.pieces.items c.requires.root c.requires.lead in
    subst (λ ps. length ps ≤ 268435456) (sym c.deref-in-Settle.ensures.value) (omega arith)

pub settle-requires-clause-rows : goal.settle-requires-clause-rows
settle-requires-clause-rows c =
    let ready = ready_at (claim_of c.args.formula.now) c.args.self.now.frames.items (claims_in c.args.self.now.pieces.items) c.requires.root c.requires.lead in
    let rows = subst (λ ps. AreReady (claims_in ps) → AreRows (claims_in ps)) c.deref.ensures.value c.in-Settle.ensures in
    subst (λ ps. AreRows (claims_in ps)) (sym c.deref-in-Settle.ensures.value) (rows ready)

pub returns-in-Close : goal.returns-in-Close
returns-in-Close c =
    let claim = claim_of c.args.formula.now in
    let leaves = turns_on c.args.self.now.frames.items + c.args.self.now.left in
    let some : 1 ≤ c.args.self.now.left = omega (arith, c.if-self-eq0.false) in
    let stands = subst (λ ps. IsNext (claims_in ps) (Close c.in-Close.at)) c.deref.ensures.value c.in-Close.ensures in
    if_ok c.close.result _ _ (λ o h. h claim c.requires.root (record { lead = c.requires.lead; turns = refl })
    (subst (λ tree. IsClosed (claims_in c.args.self.now.pieces.items) c.args.self.now.left tree 1) (sym (proof_of-Absurd c.in-Close.at)) (close_absurd (claims_in c.args.self.now.pieces.items) c.args.self.now.left c.in-Close.at stands some))) c.close.ensures

pub returns-in_ok-take_parts-in-Part : goal.returns-in_ok-take_parts-in-Part
returns-in_ok-take_parts-in-Part c =
    down_parts (claim_of c.args.formula.now) (turns_on c.args.self.now.frames.items + c.args.self.now.left) c.args.self.now c.take_parts.new.self c.in-Part.at c.in-Part.whole c.in-Part.left c.in-Part.right
    c.in_ok-take_parts-in-Part.ensures.frames c.in_ok-take_parts-in-Part.ensures.left c.in_ok-take_parts-in-Part.ensures.pieces
    (subst (λ ps. IsNext (claims_in ps) (Part c.in-Part.at c.in-Part.whole c.in-Part.left c.in-Part.right)) c.deref.ensures.value c.in-Part.ensures)
    (record { lead = c.requires.lead; turns = refl })

pub returns-in_ok-take_low-in-None : goal.returns-in_ok-take_low-in-None
returns-in_ok-take_low-in-None c =
    down_low (claim_of c.args.formula.now) (turns_on c.args.self.now.frames.items + c.args.self.now.left) c.args.self.now c.take_low.new.self c.in-Split.at c.in-Split.whole c.in-Split.low c.in-Split.high
    c.in_ok-take_low-in-None.ensures.frames c.in_ok-take_low-in-None.ensures.left c.in_ok-take_low-in-None.ensures.pieces
    (subst (λ ps. IsNext (claims_in ps) (Split c.in-Split.at c.in-Split.whole c.in-Split.low c.in-Split.high)) c.deref.ensures.value c.in-Split.ensures)
    (record { lead = c.requires.lead; turns = refl })
