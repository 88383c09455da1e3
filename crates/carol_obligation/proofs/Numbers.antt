-- Formulas in which the terms of a place stand for the variables: they say of the numbers what the
-- formula says of the stores and arguments that the numbers stand for.
use Rattle.std.proofs.Common.{◌≡◌, ℕ, ◌-◌, ◌<◌, ◌≤◌, Bool, true, false, inl, inr, List, length, arith, refl, sym, ◌∙◌, ap}
use Rattle.std.specs.Prelude.{ℤ, ◌==◌, nat_lt, if◌then◌else◌}
use Rattle.std.proofs.lemmas.Bool.{ltb-true, ltb-false, eqb-false}
use Rattle.carol_store.specs.declared.shape.CellKind.{CellKind}
use Rattle.carol_formula.specs.Claim.{Claim, truth}
use Rattle.carol_formula.specs.Linear.{Linear, variable_of}
use Rattle.carol_formula.specs.Value.{value_at, set_at}
use Rattle.carol_formula.specs.Named.{named_claim, through}
use Rattle.carol_formula.proofs.Renamings.{truth-named_claim}
use Rattle.carol_program.specs.Variables.{invariant_variables, guard_variables, param_variables, outcome_variables, number_in, number_in_two, number_of_args, query_variable, result_variable, store_at}
use Rattle.carol_program.specs.WellFormed.{IsFormulaOver}
use Rattle.carol_obligation.specs.Decoded.{round_variable, args_at}
use Rattle.carol_obligation.specs.Formed.{round_name, guard_name, result_name}
use Rattle.carol_obligation.proofs.Agreeing.{AgreeOn, truth-same}
use Rattle.carol_obligation.proofs.Seen.{store_at-at, start-same}
use Rattle.carol_obligation.proofs.TruthForms.{value_at-variable}

module _ (f : ℕ → ℤ) where
  pub truth-named : (ranges : List (ℕ × ℕ)) (name : ℕ → Linear) (g : ℕ → ℤ) (c : Claim) → AgreeOn ranges (through name f) g → IsFormulaOver ranges c → truth (named_claim name c) f ≡ truth c g
  truth-named ranges name g c agree over = truth-named_claim name c f ∙ truth-same ranges (through name f) g agree c over.terms

  -- one of two terms has one of two numbers
  worth-either : (b : Bool) (s t : Linear) (x y : ℤ) → (b ≡ true → value_at s f ≡ x) → (b ≡ false → value_at t f ≡ y) → value_at (if b then s else t) f ≡ (if b then x else y)
  worth-either true s t x y h k = h refl
  worth-either false s t x y h k = k refl

  -- ---- stores

  module _ (kinds : List CellKind) where
    pub worth-round : (round v : ℕ) → v < length kinds → value_at (variable_of (round_variable round v)) f ≡ number_in (store_at kinds (round_variable round 0) f) v
    worth-round round v lt = value_at-variable (round_variable round v) f ∙ ap f (omega arith) ∙ sym (store_at-at kinds (round_variable round 0) f v lt)

    worth-query : (slot v : ℕ) → v < length kinds → value_at (variable_of (query_variable slot v)) f ≡ number_in (store_at kinds (query_variable slot 0) f) v
    worth-query slot v lt = value_at-variable (query_variable slot v) f ∙ ap f (omega arith) ∙ sym (store_at-at kinds (query_variable slot 0) f v lt)

    round-agrees : (round : ℕ) → AgreeOn (invariant_variables kinds) (through (round_name round) f) (number_in (store_at kinds (round_variable round 0) f))
    round-agrees round v (inl h) = worth-round round v (omega (arith, h.1))
    round-agrees round v (inr h) = absurd h

    -- the invariant, read of a round
    pub truth-round : (round : ℕ) (c : Claim) → IsFormulaOver (invariant_variables kinds) c → truth (named_claim (round_name round) c) f ≡ truth c (number_in (store_at kinds (round_variable round 0) f))
    truth-round round c over = truth-named (invariant_variables kinds) (round_name round) _ c (round-agrees round) over

    module _ (few : length kinds ≤ 16) (slot round : ℕ) where
      guard-agrees : AgreeOn (guard_variables kinds) (through (guard_name slot round) f) (number_in_two (store_at kinds (query_variable slot 0) f) (store_at kinds (round_variable round 0) f))
      guard-agrees v (inl h) = worth-either (nat_lt v 16) _ _ _ _ (λ e. worth-query slot v (omega (arith, h.1))) (λ e. absurd (omega (arith, h.1, ltb-false v 16 e)))
      guard-agrees v (inr (inl h)) = worth-either (nat_lt v 16) _ _ _ _ (λ e. absurd (omega (arith, h.0, ltb-true v 16 e))) (λ e. worth-round round (v - 16) (omega (arith, h.0, h.1)))
      guard-agrees v (inr (inr h)) = absurd h

      -- a guard, read of a query and of a round
      pub truth-guard : (c : Claim) → IsFormulaOver (guard_variables kinds) c → truth (named_claim (guard_name slot round) c) f ≡ truth c (number_in_two (store_at kinds (query_variable slot 0) f) (store_at kinds (round_variable round 0) f))
      truth-guard c over = truth-named (guard_variables kinds) (guard_name slot round) _ c guard-agrees over

  -- ---- arguments

  module _ (kinds : List CellKind) (params : ℕ) where
    param-agrees : (before : ℕ) → before ≤ params → AgreeOn (param_variables before) f (number_of_args (args_at params f))
    param-agrees before le v (inl h) = sym (start-same kinds params f v h.0 (omega (arith, h.1)))
    param-agrees before le v (inr h) = absurd h

    -- a refinement, read of the arguments
    pub truth-param : (before : ℕ) (c : Claim) → before ≤ params → IsFormulaOver (param_variables before) c → truth c f ≡ truth c (number_of_args (args_at params f))
    truth-param before c le over = truth-same (param_variables before) f _ (param-agrees before le) c over.terms

    module _ (few : params ≤ 16) (value : Linear) where
      result-agrees : AgreeOn (outcome_variables params) (through (result_name value) f) (set_at result_variable (value_at value f) (number_of_args (args_at params f)))
      result-agrees v (inl h) = worth-either (v == result_variable) _ _ _ _ (λ e. refl) (λ e. value_at-variable v f ∙ sym (start-same kinds params f v h.0 h.1))
      result-agrees v (inr (inl h)) = worth-either (v == result_variable) _ _ _ _ (λ e. refl) (λ e. absurd (eqb-false v result_variable e (omega (arith, h.0, h.1))))
      result-agrees v (inr (inr h)) = absurd h

      -- the refinement of a result, read of the arguments and of what is returned
      pub truth-result : (c : Claim) → IsFormulaOver (outcome_variables params) c → truth (named_claim (result_name value) c) f ≡ truth c (set_at result_variable (value_at value f) (number_of_args (args_at params f)))
      truth-result c over = truth-named (outcome_variables params) (result_name value) _ c result-agrees over
