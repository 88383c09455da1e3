-- The invariant can be added up at a store of words.
use Rattle.std.proofs.Common.{zero, suc, ◌≤◌, [], ◌∷◌, List, arith}
use Rattle.std.specs.Prelude.{ℤ, pos, negsuc, unsigned_abs}
use Rattle.carol_store.specs.Kinds.{CellValue, IsWord}
use Rattle.carol_store.specs.Stores.{AreWords}
use Rattle.carol_formula.specs.Bounds.{AreNear}
use Rattle.carol_program.specs.Variables.{number_in}
use Rattle.carol_reading.proofs.Fitting.{word_bound}

near_word : (z : ℤ) → IsWord z → unsigned_abs z ≤ word_bound
near_word (pos n) h = omega (arith, h.sfits)
near_word (negsuc n) h = omega (arith, h.sfits)

pub near_store : (store : List CellValue) → AreWords store → AreNear word_bound (number_in store)
near_store [] h v = omega arith
near_store (value ∷ values) h zero = near_word value h.0
near_store (value ∷ values) h (suc v) = near_store values h.1 v
