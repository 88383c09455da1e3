-- The order in which changes that commute are made is free, whatever they change.
use Rattle.std.proofs.Common.{◌≡◌, ◌≢◌, ℕ, ◌<◌, zero, suc, List, [], ◌∷◌, ◌++◌, length, inl, inr, get_or, set, refl, sym, ◌∙◌, ap, arith}
use Rattle.std.specs.List.{swap, remove}
use Rattle.std.specs.List.Sorted.{IsPermutation}
use Rattle.std.proofs.lemmas.Bool.{cases_eq}
use Rattle.std.proofs.lemmas.List.{set-get_or}
use Rattle.std.proofs.lemmas.List.Sorted.{IsPermutation-keeps}
use Rattle.carol_store.specs.Actions.{Commutes, act_all}

module _ {E S : Type 0} where
  -- some changes and then others
  pub act_all-append : (act : E → S → S) (ds es : List E) (s : S) → act_all act (ds ++ es) s ≡ act_all act es (act_all act ds s)
  act_all-append act [] es s = refl
  act_all-append act (d ∷ ds) es s = act_all-append act ds es (act d s)

  -- one change, before others or after them
  pub act_all-first : (act : E → S → S) → Commutes act → (e : E) (es : List E) (s : S) → act_all act es (act e s) ≡ act e (act_all act es s)
  act_all-first act commute e [] s = refl
  act_all-first act commute e (d ∷ ds) s = ap (act_all act ds) (commute d e s) ∙ act_all-first act commute e ds (act d s)

  -- changes made together commute where single ones do
  pub Commutes-act_all : (act : E → S → S) → Commutes act → Commutes (act_all act)
  Commutes-act_all act commute [] es s = refl
  Commutes-act_all act commute (d ∷ ds) es s =
      ap (act_all act ds) (sym (act_all-first act commute d es s)) ∙ Commutes-act_all act commute ds es (act d s)

  -- the change in one place, as the last one
  act_all-set : (act : E → S → S) → Commutes act → (es : List E) (i : ℕ) (e : E) (s : S) → i < length es → act_all act (set es i e) s ≡ act e (act_all act (remove es i) s)
  act_all-set act commute [] i e s h = absurd (omega arith)
  act_all-set act commute (d ∷ ds) zero e s h = act_all-first act commute e ds s
  act_all-set act commute (d ∷ ds) (suc i) e s h = act_all-set act commute ds i e (act d s) (omega arith)

  -- the changes in two places, as the last two
  TwoLast : (E → S → S) → List E → ℕ → ℕ → S → Type 0
  TwoLast act es i j s = (rest : S) × ((d e : E) → act_all act (set (set es i d) j e) s ≡ act d (act e rest))

  two_last : (act : E → S → S) → Commutes act → (es : List E) (i j : ℕ) (s : S) → i < length es → j < length es → i ≢ j → TwoLast act es i j s
  unfolding TwoLast
  two_last act commute [] i j s h k apart = absurd (omega arith)
  two_last act commute (c ∷ cs) zero zero s h k apart = absurd (apart refl)
  two_last act commute (c ∷ cs) zero (suc j) s h k apart = (
    act_all act (remove cs j) s,
    λ d e. act_all-set act commute cs j e (act d s) (omega arith)
        ∙ ap (act e) (act_all-first act commute d (remove cs j) s) ∙ commute e d (act_all act (remove cs j) s),
  )
  two_last act commute (c ∷ cs) (suc i) zero s h k apart = (
    act_all act (remove cs i) s,
    λ d e. act_all-set act commute cs i d (act e s) (omega arith) ∙ ap (act d) (act_all-first act commute e (remove cs i) s),
  )
  two_last act commute (c ∷ cs) (suc i) (suc j) s h k apart = two_last act commute cs i j (act c s) (omega arith) (omega arith) (λ e. apart (ap suc e))

  -- two changes that change places
  act_all-swap : (act : E → S → S) → Commutes act → (es : List E) (i j : ℕ) (s : S) → i < length es → j < length es → i ≢ j → act_all act (swap es i j) s ≡ act_all act es s
  unfolding TwoLast
  act_all-swap act commute [] i j s h k apart = refl
  act_all-swap act commute (c ∷ cs) i j s h k apart =
      let two : TwoLast act (c ∷ cs) i j s = two_last act commute (c ∷ cs) i j s h k apart
      in let d = get_or (c ∷ cs) i c
      in let e = get_or (c ∷ cs) j c
      in let same : set (set (c ∷ cs) i d) j e ≡ c ∷ cs = ap (λ (es : List E). set es j e) (set-get_or (c ∷ cs) i c) ∙ set-get_or (c ∷ cs) j c
      in two.1 e d ∙ commute e d two.0 ∙ sym (two.1 d e) ∙ ap (λ (es : List E). act_all act es s) same

  -- the same where both places may be one
  act_all-swap_any : (act : E → S → S) → Commutes act → (es : List E) (i j : ℕ) (s : S) → i < length es → j < length es → act_all act (swap es i j) s ≡ act_all act es s
  act_all-swap_any act commute [] i j s h k = refl
  act_all-swap_any act commute (c ∷ cs) i j s h k = elim (cases_eq i j) [
    | inl e ↦
        rw (← e)
        (let d = get_or (c ∷ cs) i c
        in ap (λ (es : List E). act_all act es s) (ap (λ (es : List E). set es i d) (set-get_or (c ∷ cs) i c) ∙ set-get_or (c ∷ cs) i c))
    | inr apart ↦ act_all-swap act commute (c ∷ cs) i j s h k apart
  ]

  -- any order comes to the same
  pub act_all-permuted : (act : E → S → S) → Commutes act → (es others : List E) (s : S) → IsPermutation es others → act_all act others s ≡ act_all act es s
  act_all-permuted act commute es others s h =
      IsPermutation-keeps es (λ (fs : List E). (y : S) → act_all act fs y ≡ act_all act es y) (λ y. refl)
      (λ (fs : List E). λ (i : ℕ). λ (j : ℕ). λ h. λ k. λ before. λ y. act_all-swap_any act commute fs i j y h k ∙ before y) others h s
