-- Changes of any kind, made one after another, and entries chosen from a list of them.
use Rattle.std.specs.Prelude.{◌≡◌, ℕ, ◌+◌, Bool, if◌then◌else◌, List, [], ◌∷◌}

module _ {E S : Type 0} where
  -- two changes come to the same in either order
  abbrev pub Commutes : (E → S → S) → Type 0
  Commutes act = (d e : E) (s : S) → act d (act e s) ≡ act e (act d s)

  -- what the changes come to, one after another
  abbrev pub act_all : (E → S → S) → List E → S → S
  act_all act [] s = s
  act_all act (e ∷ es) s = act_all act es (act e s)

module _ {E : Type 0} where
  -- the entries whose number is chosen, in order; the first of them has number k
  abbrev pub chosen_from : (ℕ → Bool) → ℕ → List E → List E
  chosen_from chosen k [] = []
  chosen_from chosen k (e ∷ es) =
      if chosen k then e ∷ chosen_from chosen (k + 1) es else chosen_from chosen (k + 1) es
