-- Statements one behind another under guards, with one more behind the last of them.
use Rattle.std.proofs.Common.{◌≡◌, ℕ, List, [], ◌∷◌, ◌++◌, map, refl, sym, ap, ◌∙◌}
use Rattle.std.proofs.lemmas.List.{map-append}
use Rattle.carol_program.specs.declared.steps.Step.{Step}
use Rattle.carol_program.specs.Bodies.{Body}
use Rattle.carol_advise_guards.specs.Chains.{behind, followed_by}

behind-last : (gs : List ℕ) (steps : List Step) (step : Step) (end : Body) → behind gs (steps ++ step ∷ []) end ≡ behind gs steps (followed_by gs step end)
behind-last gs [] step end = refl
behind-last gs (first ∷ steps) step end = ap (followed_by gs first) (behind-last gs steps step end)

module _ {X : Type 0} (gs : List ℕ) (f : X → Step) (steps all : List X) (last : X) (is : all ≡ steps ++ last ∷ []) where
  one_more : (end : Body) → behind gs (map f all) end ≡ behind gs (map f steps) (followed_by gs (f last) end)
  one_more end = ap (λ xs. behind gs (map f xs) end) is ∙ ap (λ xs. behind gs xs end) (map-append f steps (last ∷ [])) ∙ behind-last gs (map f steps) (f last) end

  -- where the last is taken away, and put before what stands behind
  pub taken : (end next whole : Body) → next ≡ followed_by gs (f last) end → behind gs (map f all) end ≡ whole → behind gs (map f steps) next ≡ whole
  taken end next whole e h = ap (behind gs (map f steps)) e ∙ sym (one_more end) ∙ h

  -- where what stands behind is split into the last and what follows it
  pub put : (left next whole : Body) → followed_by gs (f last) next ≡ left → behind gs (map f steps) left ≡ whole → behind gs (map f all) next ≡ whole
  put left next whole e h = one_more next ∙ ap (behind gs (map f steps)) e ∙ h
