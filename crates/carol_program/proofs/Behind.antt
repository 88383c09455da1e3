-- Statements one behind another, with one more behind the last of them.
use Rattle.std.proofs.Common.{◌≡◌, List, [], ◌∷◌, ◌++◌, map, refl, sym, ap, ◌∙◌}
use Rattle.std.proofs.lemmas.List.{map-append}
use Rattle.carol_program.specs.declared.steps.Step.{Step}
use Rattle.carol_program.specs.Chains.{behind, followed_by}

behind-last : (steps : List Step) (step end : Step) → behind (steps ++ step ∷ []) end ≡ behind steps (followed_by step end)
behind-last [] step end = refl
behind-last (first ∷ steps) step end = ap (followed_by first) (behind-last steps step end)

module _ {X : Type 0} (f : X → Step) (steps all : List X) (last : X) (is : all ≡ steps ++ last ∷ []) where
  one_more : (end : Step) → behind (map f all) end ≡ behind (map f steps) (followed_by (f last) end)
  one_more end = ap (λ xs. behind (map f xs) end) is ∙ ap (λ xs. behind xs end) (map-append f steps (last ∷ [])) ∙ behind-last (map f steps) (f last) end

  -- where the last is taken away, and put before what stands behind
  pub taken : (end next whole : Step) → next ≡ followed_by (f last) end → behind (map f all) end ≡ whole → behind (map f steps) next ≡ whole
  taken end next whole e h = ap (behind (map f steps)) e ∙ sym (one_more end) ∙ h

  -- where what stands behind is split into the last and what follows it
  pub put : (left next whole : Step) → followed_by (f last) next ≡ left → behind (map f steps) left ≡ whole → behind (map f all) next ≡ whole
  put left next whole e h = one_more next ∙ ap (behind (map f steps)) e ∙ h
