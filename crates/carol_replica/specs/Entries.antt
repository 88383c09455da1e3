-- A journal's entries, and what those of them that are chosen come to.
use Rattle.std.specs.Prelude.{ℕ, List}
use Rattle.carol_store.specs.declared.effect.Atom.{Atom}
use Rattle.carol_store.specs.Actions.{chosen_from}
use Rattle.carol_holding.specs.Held as held

-- the effects of the entries, numbered from 0, and how many can be added before memory is taken
-- again
pub record Journal : Type 0 where
  pub entries : List (List Atom)
  pub spare : ℕ

-- the entries that the replica holds, in order
abbrev pub held_entries : held.Holding → ℕ → List (List Atom) → List (List Atom)
held_entries holding replica entries =
    chosen_from (λ entry. held.holds holding replica entry) 0 entries
