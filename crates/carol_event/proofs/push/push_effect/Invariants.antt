use Rattle.std.proofs.Common.{◌≡◌, ◌++◌, take}
use Rattle.carol_event.specs.Texts.{atoms_text}
use Rattle.carol_event.proofs.push.push_effect.Given as goal

-- the front of the list stands behind what was there
abbrev pub invariant-loop-atom : goal.invariant-loop-atom
invariant-loop-atom l = l.out.items ≡ l.fn.out.items ++ atoms_text (take l.atom-index l.atoms)
