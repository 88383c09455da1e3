use Rattle.std.proofs.Common.{◌<◌, ◌≤◌, length, length-set, arith}
use Rattle.std.proofs.lemmas.List.{length-map}
use Rattle.carol_holding.specs.Rows.{held_by}
use Rattle.carol_holding.proofs.Rows.{HaveRoom-set, has_at-added, room_at}
use Rattle.carol_holding.proofs.holding.Holding.add.Goals as goal

pub add-requires-clause-room : goal.add-requires-clause-room
add-requires-clause-room c =
    let spare : 1 ≤ c.self.inside.spare = rw (← c.self.view_is) at c.requires.spare
    in let here : c.args.replica < length (held_by c.self.inside.rows.items) = rw (← c.self.view_is) at c.requires.replica
    in room_at c.self.inside.rows.items c.args.replica c.index_mut.result.now c.index_mut.ensures.value (simp length-map at here) (c.self.invariant spare)

pub invariant_of-self : goal.invariant_of-self
invariant_of-self c = λ left.
    let spare : 1 ≤ c.self.inside.spare = rw (← c.self.view_is) at c.requires.spare
    in HaveRoom-set c.self.inside.rows.items c.args.replica c.add.new.self c.add.ensures.room (c.self.invariant spare)

pub returns : goal.returns
returns c =
    let spare : 1 ≤ c.self.inside.spare = rw (← c.self.view_is) at c.requires.spare
    in let here : c.args.replica < length (held_by c.self.inside.rows.items) = rw (← c.self.view_is) at c.requires.replica
    in rw (← c.self.view_is) (record {
      each = has_at-added c.self.inside.rows.items c.args.replica c.args.entry c.index_mut.result.now c.add.new.self c.index_mut.ensures.value
          (simp length-map at here) here c.add.ensures.each;
      count = simp (length-map, length-set);
      spare = omega arith;
    })
