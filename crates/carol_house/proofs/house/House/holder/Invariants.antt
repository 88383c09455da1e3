use Rattle.std.proofs.Common.{◌≡◌, ℕ, ◌<◌, true, false}
use Rattle.carol_history.specs.Journals.{is_held}
use Rattle.carol_history.specs.Links.{is_linked}
use Rattle.carol_house.proofs.house.House.holder.Given as goal

-- none of the replicas so far is linked and holds the entry
abbrev pub invariant-loop-source : goal.invariant-loop-source
invariant-loop-source l = (replica : ℕ) → replica < l.source → is_linked replica l.target l.self.history ≡ true →
    is_held l.self.scene.sessions replica l.entry l.self.history ≡ false
