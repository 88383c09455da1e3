use Rattle.std.proofs.Common.{rules, ◌≡◌, ◌≢◌, ◌<◌, ◌≤◌, ◌^◌, ℕ, [], ◌∷◌, subst, sym, ap, ◌∙◌, arith}
use Rattle.std.specs.Prelude.{pos, unsigned_abs, OnOk}
use Rattle.std.specs.Int.{w128}
use Rattle.std.proofs.lemmas.Int.{to_z_pos}
use Rattle.carol_formula.specs.Linear.{Linear}
use Rattle.carol_formula.specs.Division.{EachDivides}
use Rattle.carol_elimination.specs.Tightened.{content}
use Rattle.carol_elimination.proofs.Truth.{each_divides}
use Rattle.carol_elimination.specs.Entries.{rows_in}
use Rattle.carol_elimination.specs.Extends.{Extend, IsVerdict}
use Rattle.carol_elimination.specs.declared.stage.Verdict.TheVariants.{LeftOut}
use Rattle.carol_elimination.proofs.Extending.{extend_left_out}
use Rattle.carol_elimination.proofs.Adding.{tightened_small, added_divided, derived_divided, quotient_is, tightened_is}
use Rattle.carol_elimination.proofs.stage.Stage.add.Goals as goal
use mir.Val.{to_z}

-- the divisor as the code turns it into a number with a sign
as_signed : (n : ℕ) → n < 2 ^ 100 → to_z w128 n ≡ pos n
as_signed n h = to_z_pos w128 n (omega (arith, h))

pub returns-then-divisor-le1-clause-extend : goal.returns-then-divisor-le1-clause-extend
returns-then-divisor-le1-clause-extend c =
    let small : content c.args.row.pairs ≤ 1 = omega (arith, c.content-divisor.ensures.value, c.if-divisor-le1.true) in
    subst (λ (r : Linear). OnOk c.add_whole.result (Extend (rows_in c.args.arena.now c.args.self.now.rows.items) (rows_in c.add_whole.new.arena c.add_whole.new.self.rows.items) (r ∷ []))) (sym (tightened_small c.args.row small)) c.add_whole.ensures.extend

pub divide-requires-clause-exact : goal.divide-requires-clause-exact
divide-requires-clause-exact c = subst (λ (n : ℕ). EachDivides n c.args.row.pairs) (sym (ap unsigned_abs (as_signed c.content-divisor.result c.content-divisor.ensures.small) ∙ c.content-divisor.ensures.value)) (each_divides c.args.row.pairs)

pub returns-then-is_left_out-clause-extend : goal.returns-then-is_left_out-clause-extend
returns-then-is_left_out-clause-extend c =
    let left_out : c.verdict-verdict.result ≡ LeftOut = search rules in
    let above : 0 < content c.args.row.pairs = omega (arith, c.content-divisor.ensures.value, c.if-divisor-le1.false) in
    let quotient = quotient_is c.in_ok-divided.divided c.args.row _ c.content-divisor.result (as_signed c.content-divisor.result c.content-divisor.ensures.small) c.content-divisor.ensures.value c.in_ok-divided.ensures.ok.0 in
    subst (λ (r : Linear). Extend (rows_in c.args.arena.now c.args.self.now.rows.items) (rows_in c.args.arena.now c.args.self.now.rows.items) (r ∷ [])) (tightened_is c.in_ok-divided.divided c.args.row above quotient)
    (extend_left_out (rows_in c.args.arena.now c.args.self.now.rows.items) c.in_ok-divided.divided (subst (IsVerdict (rows_in c.args.arena.now c.args.self.now.rows.items) c.in_ok-divided.divided) left_out c.verdict-verdict.ensures))

pub returns-clause-inside : goal.returns-clause-inside
returns-clause-inside c =
    let above : 0 < content c.args.row.pairs = omega (arith, c.content-divisor.ensures.value, c.if-divisor-le1.false) in
    let quotient = quotient_is c.in_ok-divided.divided c.args.row _ c.content-divisor.result (as_signed c.content-divisor.result c.content-divisor.ensures.small) c.content-divisor.ensures.value c.in_ok-divided.ensures.ok.0 in
    (added_divided c.args.arena.now c.push.new.self c.push-2.new.self c.args.self.now.rows.items c.put.new.self.rows.items c.verdict-verdict.result c.in_ok-at.at c.args.step _ c.args.row c.in_ok-divided.divided c.in_ok-a.ensures.ok c.in_ok-at.ensures.ok c.in_ok-at.ensures.number c.in_ok-put.ensures (tightened_is c.in_ok-divided.divided c.args.row above quotient) c.requires c.verdict-verdict.ensures).0

pub returns-clause-extend : goal.returns-clause-extend
returns-clause-extend c =
    let above : 0 < content c.args.row.pairs = omega (arith, c.content-divisor.ensures.value, c.if-divisor-le1.false) in
    let quotient = quotient_is c.in_ok-divided.divided c.args.row _ c.content-divisor.result (as_signed c.content-divisor.result c.content-divisor.ensures.small) c.content-divisor.ensures.value c.in_ok-divided.ensures.ok.0 in
    (added_divided c.args.arena.now c.push.new.self c.push-2.new.self c.args.self.now.rows.items c.put.new.self.rows.items c.verdict-verdict.result c.in_ok-at.at c.args.step _ c.args.row c.in_ok-divided.divided c.in_ok-a.ensures.ok c.in_ok-at.ensures.ok c.in_ok-at.ensures.number c.in_ok-put.ensures (tightened_is c.in_ok-divided.divided c.args.row above quotient) c.requires c.verdict-verdict.ensures).1

pub returns-clause-derived : goal.returns-clause-derived
returns-clause-derived c =
    let above : 0 < content c.args.row.pairs = omega (arith, c.content-divisor.ensures.value, c.if-divisor-le1.false) in
    let positive : content c.args.row.pairs ≢ 0 = omega arith in
    let quotient = quotient_is c.in_ok-divided.divided c.args.row _ c.content-divisor.result (as_signed c.content-divisor.result c.content-divisor.ensures.small) c.content-divisor.ensures.value c.in_ok-divided.ensures.ok.0 in
    λ given h d. derived_divided given c.args.arena.now c.push.new.self c.push-2.new.self c.args.step c.args.row c.in_ok-divided.divided c.in_ok-a.a _ c.in_ok-a.ensures.ok c.in_ok-at.ensures.ok c.in_ok-a.ensures.number (as_signed c.content-divisor.result c.content-divisor.ensures.small ∙ ap pos c.content-divisor.ensures.value) positive quotient h d
