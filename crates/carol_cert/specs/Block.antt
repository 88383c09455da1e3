-- The branches that a block holds.
use Rattle.std.specs.Prelude.{ℕ, suc, ◌≡◌, ◌≤◌, length, List, [], ◌∷◌}
use Rattle.std.specs.Borrow.{Bor}
use Rattle.carol_cert.specs.declared.place.Item.{Item}
use Rattle.carol_cert.specs.declared.tree.Refutation.{Refutation}
use Rattle.carol_cert.specs.declared.block.Block.{Block}
use Rattle.carol_cert.specs.declared.block.TheConstants.{BRANCHES}
use Rattle.carol_cert.specs.Proof.{Proof, proof_of}
use Rattle.carol_cert.specs.Left.{AreSides}

-- the first bounds with their trees
abbrev pub branches : ℕ → List Item → List (Bor Refutation) → List (Item × Proof)
branches (suc n) (bound ∷ bounds) (tree ∷ trees) = (bound, proof_of tree.now) ∷ branches n bounds trees
branches _ _ _ = []

abbrev pub held : Block → List (Item × Proof)
held block = branches block.count block.bounds block.trees

pub record IsBlock (block : Block) : Type 0 where
  pub fits : block.count ≤ BRANCHES
  pub bounds : length block.bounds ≡ BRANCHES
  pub trees : length block.trees ≡ BRANCHES
  pub sides : AreSides (held block)
