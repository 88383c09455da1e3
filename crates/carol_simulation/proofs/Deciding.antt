-- What a right table of accords decides, and searching for the first number that fails.
use Rattle.std.proofs.Common.{◌≡◌, ℕ, zero, suc, ◌<◌, true, false, List, [], ◌∷◌, length, refl, sym, subst, ◌∙◌, inl, inr, arith}
use Rattle.std.specs.Prelude.{◌⊎◌, ◌↔◌, Option, Some, None, slice_get}
use Rattle.std.specs.List.{AllByRecursion}
use Rattle.std.proofs.lemmas.Bool.{and_from, and_parts, cases_Bool, cases_lt}
use Rattle.std.proofs.lemmas.Option.{slice_get_cases}
use Rattle.carol_store.specs.declared.direction.Direction.{Direction}
use Rattle.carol_store.specs.declared.effect.Atom.{Atom}
use Rattle.carol_store.specs.Directions.{directions}
use Rattle.carol_formula.specs.Claim.{Claim}
use Rattle.carol_program.specs.declared.accords.Entry.{Entry}
use Rattle.carol_program.specs.declared.accords.Entry.TheVariants.{Yes, No}
use Rattle.carol_program.specs.declared.scenes.Scene.{Scene}
use Rattle.carol_program.specs.Accords.{Accords, AreWays, entry_of}
use Rattle.carol_program.specs.Admitting.{admits, admits_all, is_yes}
use Rattle.carol_program.specs.Preserving.{IsRight, Preserves, Within}
use Rattle.carol_program.specs.Rules.{Rules}
use Rattle.carol_program.proofs.Directions.{directions_are_ways}
use Rattle.carol_event.specs.declared.event.Event.{Event}
use Rattle.carol_history.specs.Journals.{effect_at, is_held}
use Rattle.carol_history.specs.Legal.{Admits, AdmitsIn, IsSettled}
use Rattle.carol_simulation.specs.Upheld.{TableDecides}

-- it is so, or it is not
abbrev pub Decided : Type 0 → Type 0
Decided P = P ⊎ (P → ⊥)

-- ---- searching

-- the first number below n of which P is not true
pub record Fails (P : ℕ → Type 0) (n : ℕ) : Type 0 where
  pub first : ℕ
  pub low : first < n
  pub wrong : P first → ⊥
  pub before : (i : ℕ) → i < first → P i

pub search_below : (P : ℕ → Type 0) → ((i : ℕ) → Decided (P i)) → (n : ℕ) → ((i : ℕ) → i < n → P i) ⊎ Fails P n
search_below P decide zero = inl (λ i low. absurd (omega arith))
search_below P decide (suc n) = further (search_below P decide n) (decide n)
  where
    further : ((i : ℕ) → i < n → P i) ⊎ Fails P n → Decided (P n) → ((i : ℕ) → i < suc n → P i) ⊎ Fails P (suc n)
    further (inr f) d = inr (record { first = f.first; low = omega (arith, f.low); wrong = f.wrong; before = f.before })
    further (inl all) (inr wrong) = inr (record { first = n; low = omega arith; wrong = wrong; before = all })
    further (inl all) (inl here) = inl (λ i low. elim (cases_lt i n) [
      | inl below ↦ all i below
      | inr above ↦ let e : n ≡ i = omega arith in subst P e here
    ])

-- ---- what guards admit

clash : false ≡ true → ⊥
clash e = cc

-- the table's test is that the entry is Yes
yes_there : (o : Option Entry) → (is_yes o ≡ true) ↔ (o ≡ Some Yes)
yes_there None = (λ e. absurd (clash e), λ e. absurd (nothing e))
  where
    nothing : None ≡ Some Yes → ⊥
    nothing q = cc
yes_there (Some Yes) = (λ e. refl, λ e. refl)
yes_there (Some (No stores)) = (λ e. absurd (clash e), λ e. absurd (other e))
  where
    other : Some (No stores) ≡ Some Yes → ⊥
    other q = cc

module _ (p : Rules) (table : Accords) (right : IsRight p table) where
  -- directions whose entries are Yes are those that keep the guard
  directions_decided : (guard : ℕ) (claim : Claim) → slice_get p.guards guard ≡ Some claim → (ds : List Direction) → AreWays p.shape ds → (admits_all table guard ds ≡ true) ↔ AllByRecursion (Preserves p.shape claim) ds
  directions_decided guard claim at [] ways = (λ e. tt, λ all. refl)
  directions_decided guard claim at (d ∷ ds) ways =
      let rest = directions_decided guard claim at ds ways.1
      in let here = right.each guard claim d at ways.0
      in let told = yes_there (entry_of table guard d.cell d.up)
      in (
        λ e. let parts = and_parts (is_yes (entry_of table guard d.cell d.up)) (admits_all table guard ds) e in (here.0 (told.0 parts.0), rest.0 parts.1),
        λ all. and_from (is_yes (entry_of table guard d.cell d.up)) (admits_all table guard ds) (told.1 (here.1 all.0)) (rest.1 all.1),
      )

  effect_decided : (guard : ℕ) (claim : Claim) → slice_get p.guards guard ≡ Some claim → (effect : List Atom) → (admits table guard effect ≡ true) ↔ Within p claim effect
  effect_decided guard claim at effect =
      let all = directions_decided guard claim at (directions p.shape effect) (directions_are_ways p.shape effect)
      in let same : admits table guard effect ≡ admits_all table guard (directions p.shape effect) = rw right.same_kinds
      in (λ e. record { each = all.0 (sym same ∙ e) }, λ w. same ∙ all.1 w.each)

  pub guard_decided : (guard : ℕ) (effect : List Atom) → guard < length p.guards → (admits table guard effect ≡ true) ↔ Admits p guard effect
  guard_decided guard effect named = decided_in (slice_get p.guards guard) refl
    where
      there : slice_get p.guards guard ≡ None → ⊥
      there e = elim (slice_get_cases p.guards guard).1 [
        | inl inside ↦ cc
        | inr past ↦ omega (arith, past.0)
      ]

      decided_in : (o : Option Claim) → slice_get p.guards guard ≡ o → (admits table guard effect ≡ true) ↔ AdmitsIn p o effect
      decided_in None e = absurd (there e)
      decided_in (Some claim) e = effect_decided guard claim e effect

  decide_in : (guard : ℕ) (effect : List Atom) (o : Option Claim) → slice_get p.guards guard ≡ o → Decided (AdmitsIn p o effect)
  decide_in guard effect None e = inr (λ h. h)
  decide_in guard effect (Some claim) e = told (cases_Bool (admits table guard effect))
    where
      told : (admits table guard effect ≡ true) ⊎ (admits table guard effect ≡ false) → Decided (Within p claim effect)
      told (inl t) = inl ((effect_decided guard claim e effect).0 t)
      told (inr f) = inr (λ w. clash (sym f ∙ (effect_decided guard claim e effect).1 w))

  pub decide_admits : (guard : ℕ) (effect : List Atom) → Decided (Admits p guard effect)
  decide_admits guard effect = decide_in guard effect (slice_get p.guards guard) refl

  pub decide_settled : (scene : Scene) (replica guard entry : ℕ) (past : List Event) → Decided (IsSettled p scene replica guard entry past)
  decide_settled scene replica guard entry past = told (cases_Bool (is_held scene.sessions replica entry past)) (decide_admits guard (effect_at entry past))
    where
      told : (is_held scene.sessions replica entry past ≡ true) ⊎ (is_held scene.sessions replica entry past ≡ false) → Decided (Admits p guard (effect_at entry past)) → Decided (IsSettled p scene replica guard entry past)
      told (inl held) d = inl (inl held)
      told (inr lacking) (inl within) = inl (inr within)
      told (inr lacking) (inr outside) = inr (λ h. neither h)
        where
          neither : IsSettled p scene replica guard entry past → ⊥
          neither (inl held) = clash (sym lacking ∙ held)
          neither (inr within) = outside within

pub table_decides : TableDecides
table_decides p table guard effect right named = guard_decided p table right guard effect named
