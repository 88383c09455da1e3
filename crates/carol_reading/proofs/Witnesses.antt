-- An operation that takes money out where there is enough, worked by hand: what it reads, which
-- rounds it may have, and what it does next.
use Rattle.std.proofs.Common.{◌≡◌, List, [], ◌∷◌, refl}
use Rattle.std.specs.Prelude.{pos, negsuc, Some}
use Rattle.carol_store.specs.declared.shape.CellKind.{CellKind}
use Rattle.carol_store.specs.declared.shape.CellKind.TheVariants.{Counter}
use Rattle.carol_store.specs.declared.effect.Atom.{Atom}
use Rattle.carol_formula.specs.Claim.{Claim, Le}
use Rattle.carol_formula.specs.Linear.{constant_of}
use Rattle.carol_program.specs.Bodies.{Body, Query, Issue, Branch, Return}
use Rattle.carol_program.specs.Rules.{Rules}
use Rattle.carol_program.specs.Variables.{number_of_args}
use Rattle.carol_reading.specs.declared.action.Action.TheVariants as action
use Rattle.carol_reading.specs.Marks.{Asked, Issued, Returned}
use Rattle.carol_reading.specs.Nexts.{next_of}
use Rattle.carol_reading.specs.Readings.{Reads}
use Rattle.carol_reading.specs.Rounds.{IsProper}

abbrev kinds : List CellKind
kinds = Counter ∷ []

-- what is asked for, the parameter, is at most what the query found
abbrev enough : Claim
enough = Le (record { pairs = (32, pos 1) ∷ (64, negsuc 0) ∷ []; rest = pos 0 })

abbrev withdraw : Body
withdraw = Query 1 0 0 (Branch 2 enough (Issue 3 (record { cell = 0; amount = record { pairs = (32, negsuc 0) ∷ []; rest = pos 0 } } ∷ []) (Return 4 (constant_of (pos 1)))) (Return 5 (constant_of (pos 0))))

-- the balance is not below zero; a reading may be lower than what there is
abbrev bank : Rules
bank = record {
  shape = kinds;
  initial = pos 0 ∷ [];
  invariant = Le (record { pairs = (0, negsuc 0) ∷ []; rest = pos 0 });
  guards = Le (record { pairs = (0, pos 1) ∷ (16, negsuc 0) ∷ []; rest = pos 0 }) ∷ [];
  ops = [];
}

abbrev three_out : List Atom
three_out = record { cell = 0; value = negsuc 2 } ∷ []

-- with five read, three are taken out
enough_there : Reads kinds withdraw (number_of_args (pos 3 ∷ [])) (Asked 0 (pos 5 ∷ []) ∷ Issued three_out ∷ Returned (pos 1) ∷ [])
enough_there = (refl, (tt, tt), (refl, refl))

-- with two read, nothing is
too_little : Reads kinds withdraw (number_of_args (pos 3 ∷ [])) (Asked 0 (pos 2 ∷ []) ∷ Issued three_out ∷ []) → ⊥
too_little r = r.2

-- the round that the issue ends may have more than was read, and the next round's store is any
rounds : IsProper bank (Asked 0 (pos 5 ∷ []) ∷ Issued three_out ∷ []) ((pos 7 ∷ []) ∷ []) (pos 1 ∷ [])
rounds = (refl, (record { shaped = (tt, tt); invariant = refl }, record { shaped = (tt, tt); invariant = refl }))

takes_out : next_of kinds withdraw (number_of_args (pos 3 ∷ [])) ((pos 5 ∷ []) ∷ []) 1 ≡ Some (action.Issue three_out)
takes_out = refl

gives_up : next_of kinds withdraw (number_of_args (pos 3 ∷ [])) ((pos 2 ∷ []) ∷ []) 1 ≡ Some (action.Return (pos 0))
gives_up = refl
