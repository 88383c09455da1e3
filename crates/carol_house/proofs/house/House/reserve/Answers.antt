use Rattle.std.proofs.Common.{◌≡◌, length, reverse, refl, arith, rules}
use Rattle.std.specs.Prelude.{vec_capacity}
use Rattle.std.specs.Vec.{vec_len}
use Rattle.std.proofs.lemmas.List.{length-reverse}
use Rattle.carol_house.proofs.Room.{kept_room}
use Rattle.carol_house.proofs.house.House.reserve.Goals as goal

pub invariant_of-self-in_err-reserve-2 : goal.invariant_of-self-in_err-reserve-2
invariant_of-self-in_err-reserve-2 c =
    let s = c.self.inside
    in kept_room s.accepted s.scene s.events.items c.reserve.new.self.items s.spare s.spare s.tables c.reserve-2.new.self s.tables.journal (vec_capacity s.events) (vec_capacity c.reserve.new.self) c.self.invariant
    c.in_ok-reserve.ensures.items c.reserve-2.ensures.replicas refl
    (record { events = omega (arith, c.self.invariant.room.events, c.in_ok-reserve.ensures.capacity); holding = omega (arith, c.self.invariant.room.holding, c.reserve-2.ensures.grows); journal = c.self.invariant.room.journal })

pub invariant_of-self-in_err-reserve-3 : goal.invariant_of-self-in_err-reserve-3
invariant_of-self-in_err-reserve-3 c =
    let s = c.self.inside
    in kept_room s.accepted s.scene s.events.items c.reserve.new.self.items s.spare s.spare s.tables c.reserve-2.new.self c.reserve-3.new.self (vec_capacity s.events) (vec_capacity c.reserve.new.self) c.self.invariant
    c.in_ok-reserve.ensures.items c.reserve-2.ensures.replicas c.reserve-3.ensures.entries
    (record { events = omega (arith, c.self.invariant.room.events, c.in_ok-reserve.ensures.capacity); holding = omega (arith, c.self.invariant.room.holding, c.reserve-2.ensures.grows); journal = omega (arith, c.self.invariant.room.journal, c.reserve-3.ensures.grows) })

pub invariant_of-self-2 : goal.invariant_of-self-2
invariant_of-self-2 c =
    let s = c.self.inside
    in let here : vec_len s.events ≡ length s.events.items = search rules
    in let many : length (reverse s.events.items) ≡ length s.events.items = length-reverse s.events.items
    in kept_room s.accepted s.scene s.events.items c.reserve.new.self.items s.spare c.max-self-inside.result s.tables c.reserve-2.new.self c.reserve-3.new.self (vec_capacity s.events) (vec_capacity c.reserve.new.self) c.self.invariant
    c.in_ok-reserve.ensures.items c.reserve-2.ensures.replicas c.reserve-3.ensures.entries
    (record { events = omega (arith, c.self.invariant.room.events, c.in_ok-reserve.ensures.capacity, c.in_ok-reserve.ensures.ok); holding = omega (arith, c.self.invariant.room.holding, c.reserve-2.ensures.grows, c.in_ok-reserve-2.ensures.ok); journal = omega (arith, c.self.invariant.room.journal, c.reserve-3.ensures.grows, c.in_ok-reserve-3.ensures.ok) })
