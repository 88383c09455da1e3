use Rattle.std.proofs.Common.{◌≡◌, ◌++◌, drop}
use Rattle.carol_picture.specs.Labels.{atoms_text}
use Rattle.carol_picture.proofs.effects.push_atoms.Given as goal

abbrev pub invariant-loop-atom : goal.invariant-loop-atom
invariant-loop-atom l =
    l.out.items ++ atoms_text l.cells l.shape (drop l.atom-index l.atoms) ≡ l.fn.out.items ++ atoms_text l.cells l.shape l.atoms
