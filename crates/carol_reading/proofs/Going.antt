-- How the walk goes through a body, statement by statement.
use Rattle.std.proofs.Common.{ℕ, suc, ◌≤◌, ◌≡◌, Bool, true, false, List, [], ◌∷◌, ◌++◌, length, drop, arith, refl, sym, ◌∙◌, ap, subst}
use Rattle.std.specs.Prelude.{ℤ, Option, Some, if◌then◌else◌}
use Rattle.carol_store.specs.declared.shape.CellKind.{CellKind}
use Rattle.carol_store.specs.Effects.{AreAtomsOf}
use Rattle.carol_store.specs.Kinds.{CellValue}
use Rattle.carol_formula.specs.Bounds.{AreNear}
use Rattle.carol_formula.specs.Claim.{Claim, truth, ClaimFits}
use Rattle.carol_formula.specs.Linear.{Linear}
use Rattle.carol_formula.specs.Value.{Fits, value_at}
use Rattle.carol_program.specs.declared.steps.Part.{Part}
use Rattle.carol_program.specs.Bodies.{Body, Query, Issue, Release, Branch, Return}
use Rattle.carol_reading.specs.declared.action.Action.{Action}
use Rattle.carol_reading.specs.declared.action.Action.TheVariants as action
use Rattle.carol_reading.specs.Nexts.{next_of, IsAction}
use Rattle.carol_reading.specs.Parts.{AmountsFit}
use Rattle.carol_reading.specs.Readings.{with_query, with_queries, effect_of}
use Rattle.carol_reading.specs.Walks.{StandsSomewhere}
use Rattle.carol_reading.proofs.Fitting.{word_bound, term_fits, claim_fits, amounts_fit}

-- ---- the queries so far and one more

queries_more : (slots : List ℕ) (slot : ℕ) (stores : List (List CellValue)) (f : ℕ → ℤ) (store : List CellValue) (rest : List (List CellValue)) → drop (length slots) stores ≡ store ∷ rest → with_queries (slots ++ slot ∷ []) stores f ≡ with_query slot store (with_queries slots stores f)
queries_more [] slot [] f store rest e = absurd (nothing e)
  where
    nothing : [] ≡ store ∷ rest → ⊥
    nothing q = cc
queries_more [] slot (x ∷ xs) f store rest e = ap (λ (y : List CellValue). with_query slot y f) (first e)
  where
    first : x ∷ xs ≡ store ∷ rest → x ≡ store
    first q = cc
queries_more (s ∷ slots) slot [] f store rest e = absurd (nothing e)
  where
    nothing : [] ≡ store ∷ rest → ⊥
    nothing q = cc
queries_more (s ∷ slots) slot (x ∷ xs) f store rest e = queries_more slots slot xs (with_query s x f) store rest e

rest_more : (slots : List ℕ) (slot : ℕ) (stores : List (List CellValue)) (store : List CellValue) (rest : List (List CellValue)) → drop (length slots) stores ≡ store ∷ rest → (drop (length (slots ++ slot ∷ [])) stores ≡ rest) × (length (slots ++ slot ∷ []) ≤ length stores)
rest_more [] slot [] store rest e = absurd (nothing e)
  where
    nothing : [] ≡ store ∷ rest → ⊥
    nothing q = cc
rest_more [] slot (x ∷ xs) store rest e = (others e, omega arith)
  where
    others : x ∷ xs ≡ store ∷ rest → xs ≡ rest
    others q = cc
rest_more (s ∷ slots) slot [] store rest e = absurd (nothing e)
  where
    nothing : [] ≡ store ∷ rest → ⊥
    nothing q = cc
rest_more (s ∷ slots) slot (x ∷ xs) store rest e = let h = rest_more slots slot xs store rest e in (h.0, omega (arith, h.1))

-- ---- the walk

-- the step under way, how many statements are left to go over, and the slots of the queries so far:
-- what comes next from here is what comes next in all
pub record Goes (kinds : List CellKind) (f : ℕ → ℤ) (stores : List (List CellValue)) (found : Option Action) (step : Body) (left : ℕ) (slots : List ℕ) : Type 0 where
  pub stands : StandsSomewhere step
  pub leads : next_of kinds step (with_queries slots stores f) (drop (length slots) stores) left ≡ found
  pub few : length slots ≤ length stores

module _ {kinds : List CellKind} {f : ℕ → ℤ} {stores : List (List CellValue)} {found : Option Action} {slots : List ℕ} {step : Body} {left : ℕ} where
  -- what is known of the step itself
  at_step : (other : Body) (n : ℕ) → Goes kinds f stores found step left slots → step ≡ other → left ≡ n → Goes kinds f stores found other n slots
  at_step other n g e h = subst (λ s. Goes kinds f stores found s n slots) e (subst (λ m. Goes kinds f stores found step m slots) h g)

  pub over_issue : (number : ℕ) (parts : List Part) (next : Body) (n : ℕ) → Goes kinds f stores found step left slots → step ≡ Issue number parts next → left ≡ suc n → Goes kinds f stores found next n slots
  over_issue number parts next n g e h = over (at_step (Issue number parts next) (suc n) g e h)
    where
      over : Goes kinds f stores found (Issue number parts next) (suc n) slots → Goes kinds f stores found next n slots
      over w = record { stands = record { setting = w.stands.setting; slots = w.stands.slots; fit = w.stands.fit.1 }; leads = w.leads; few = w.few }

  pub over_release : (number : ℕ) (next : Body) (n : ℕ) → Goes kinds f stores found step left slots → step ≡ Release number next → left ≡ suc n → Goes kinds f stores found next n slots
  over_release number next n g e h = over (at_step (Release number next) (suc n) g e h)
    where
      over : Goes kinds f stores found (Release number next) (suc n) slots → Goes kinds f stores found next n slots
      over w = record { stands = record { setting = w.stands.setting; slots = w.stands.slots; fit = w.stands.fit }; leads = w.leads; few = w.few }

  pub over_query : (number guard slot : ℕ) (next : Body) (n : ℕ) (slots' : List ℕ) → IsAction kinds found → Goes kinds f stores found step left slots → step ≡ Query number guard slot next → left ≡ suc n → slots' ≡ slots ++ slot ∷ [] → Goes kinds f stores found next n slots'
  over_query number guard slot next n slots' a g e h k = subst (λ xs. Goes kinds f stores found next n xs) (sym k) (over (at_step (Query number guard slot next) (suc n) g e h) (drop (length slots) stores) refl)
    where
      over : Goes kinds f stores found (Query number guard slot next) (suc n) slots → (rest : List (List CellValue)) → drop (length slots) stores ≡ rest → Goes kinds f stores found next n (slots ++ slot ∷ [])
      over w [] q = absurd (subst (IsAction kinds) (sym (subst (λ xs. next_of kinds (Query number guard slot next) (with_queries slots stores f) xs (suc n) ≡ found) q w.leads)) a)
      over w (store ∷ rest) q = record {
        stands = record { setting = w.stands.setting; slots = slot ∷ w.stands.slots; fit = w.stands.fit.1 };
        leads = ap (λ (x : ℕ → ℤ). next_of kinds next x (drop (length (slots ++ slot ∷ [])) stores) n) (queries_more slots slot stores f store rest q) ∙ ap (λ xs. next_of kinds next (with_query slot store (with_queries slots stores f)) xs n) (rest_more slots slot stores store rest q).0 ∙ subst (λ xs. next_of kinds (Query number guard slot next) (with_queries slots stores f) xs (suc n) ≡ found) q w.leads;
        few = (rest_more slots slot stores store rest q).1;
      }

  pub over_branch : (number : ℕ) (test : Claim) (first second : Body) → Goes kinds f stores found step left slots → step ≡ Branch number test first second → (b : Bool) → b ≡ truth test (with_queries slots stores f) → Goes kinds f stores found (if b then first else second) left slots
  over_branch number test first second g e b q = side b q (at_step (Branch number test first second) left g e refl)
    where
      side : (b : Bool) → b ≡ truth test (with_queries slots stores f) → Goes kinds f stores found (Branch number test first second) left slots → Goes kinds f stores found (if b then first else second) left slots
      side true q w = record { stands = record { setting = w.stands.setting; slots = w.stands.slots; fit = w.stands.fit.1 }; leads = subst (λ t. (if t then next_of kinds first (with_queries slots stores f) (drop (length slots) stores) left else next_of kinds second (with_queries slots stores f) (drop (length slots) stores) left) ≡ found) (sym q) w.leads; few = w.few }
      side false q w = record { stands = record { setting = w.stands.setting; slots = w.stands.slots; fit = w.stands.fit.2 }; leads = subst (λ t. (if t then next_of kinds first (with_queries slots stores f) (drop (length slots) stores) left else next_of kinds second (with_queries slots stores f) (drop (length slots) stores) left) ≡ found) (sym q) w.leads; few = w.few }

  -- ---- where it ends

  pub ends_query : (number guard slot : ℕ) (next : Body) → Goes kinds f stores found step left slots → step ≡ Query number guard slot next → left ≡ 0 → found ≡ Some (action.Query guard)
  ends_query number guard slot next g e h = sym (at_step (Query number guard slot next) 0 g e h).leads

  pub ends_issue : (number : ℕ) (parts : List Part) (next : Body) → Goes kinds f stores found step left slots → step ≡ Issue number parts next → left ≡ 0 → found ≡ Some (action.Issue (effect_of kinds parts (with_queries slots stores f)))
  ends_issue number parts next g e h = sym (at_step (Issue number parts next) 0 g e h).leads

  pub ends_release : (number : ℕ) (next : Body) → Goes kinds f stores found step left slots → step ≡ Release number next → left ≡ 0 → found ≡ Some action.Release
  ends_release number next g e h = sym (at_step (Release number next) 0 g e h).leads

  pub ends_return : (number : ℕ) (value : Linear) → Goes kinds f stores found step left slots → step ≡ Return number value → found ≡ Some (action.Return (value_at value (with_queries slots stores f)))
  ends_return number value g e = sym (at_step (Return number value) left g e refl).leads

  -- ---- what can be added up there

  pub test_fits : (number : ℕ) (test : Claim) (first second : Body) → Goes kinds f stores found step left slots → step ≡ Branch number test first second → AreNear word_bound (with_queries slots stores f) → ClaimFits test (with_queries slots stores f)
  test_fits number test first second g e near = claim_fits _ test (with_queries slots stores f) (at_step (Branch number test first second) left g e refl).stands.fit.0.terms near

  pub value_fits : (number : ℕ) (value : Linear) → Goes kinds f stores found step left slots → step ≡ Return number value → AreNear word_bound (with_queries slots stores f) → Fits value (with_queries slots stores f)
  value_fits number value g e near = term_fits value (with_queries slots stores f) (at_step (Return number value) left g e refl).stands.fit near

  pub parts_fit : (number : ℕ) (parts : List Part) (next : Body) → Goes kinds f stores found step left slots → step ≡ Issue number parts next → AreNear word_bound (with_queries slots stores f) → AmountsFit (with_queries slots stores f) parts
  parts_fit number parts next g e near = amounts_fit _ _ parts (with_queries slots stores f) (at_step (Issue number parts next) left g e refl).stands.fit.0.1 near

  pub issue_atoms : (number : ℕ) (parts : List Part) (next : Body) → IsAction kinds found → Goes kinds f stores found step left slots → step ≡ Issue number parts next → left ≡ 0 → AreAtomsOf kinds (effect_of kinds parts (with_queries slots stores f))
  issue_atoms number parts next a g e h = subst (IsAction kinds) (ends_issue number parts next g e h) a
