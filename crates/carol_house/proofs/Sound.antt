-- What a house that is kept has of its history.
use Rattle.std.proofs.Common.{ℕ, ◌<◌, ◌≤◌, Bool, true, false, cond, eqb, List, [], ◌∷◌, ◌++◌, length, arith}
use Rattle.std.specs.Prelude.{unsigned_abs}
use Rattle.std.specs.List.{AllByRecursion}
use Rattle.std.proofs.lemmas.List.Elements.{All-weaker}
use Rattle.carol_store.specs.declared.shape.CellKind.{CellKind}
use Rattle.carol_store.specs.declared.effect.Atom.{Atom}
use Rattle.carol_store.specs.Effects.{IsEffect}
use Rattle.carol_store.specs.Kinds.{CellValue}
use Rattle.carol_store.specs.Laws.{EffectsAddLittle}
use Rattle.carol_store.specs.Stores.{IsStore, StaysInWords, apply}
use Rattle.carol_program.specs.Rules.{Rules}
use Rattle.carol_program.specs.declared.scenes.Scene.{Scene}
use Rattle.carol_event.specs.declared.event.Event.{Event}
use Rattle.carol_event.specs.declared.event.Event.TheVariants.{Issue, Deliver}
use Rattle.carol_history.specs.declared.history.TheConstants.{MOST_EVENTS}
use Rattle.carol_history.specs.Journals.{effect_at, is_at, journal, local}
use Rattle.carol_history.specs.Laws.{IsLow}
use Rattle.carol_history.specs.Legal.{Legal}
use Rattle.carol_simulation.specs.Upheld.{MayRun, RunsUphold, Upheld}
use Rattle.carol_simulation.proofs.Queries.{store_after}
use Rattle.carol_house.specs.declared.tables.Tables.{Tables}
use Rattle.carol_house.specs.House.{House, rules_of}
use Rattle.carol_house.specs.Kept.{IsKept}

module _ (h : House) (t : Tables) (capacity : ℕ) (k : IsKept h t capacity) where
  pub may_run : MayRun (rules_of h) h.scene
  may_run = record { rules = k.may.well_formed.rules; accepted = k.may.accepted; valid = k.valid }

  pub upheld : RunsUphold → Upheld (rules_of h) h.scene h.history
  upheld law = law (rules_of h) h.scene [] h.history may_run k.run k.few

  pub upheld_after : RunsUphold → (given : Event) → Legal (rules_of h) h.scene given h.history → length h.history < MOST_EVENTS → Upheld (rules_of h) h.scene (given ∷ h.history)
  upheld_after law given legal few = law (rules_of h) h.scene [] (given ∷ h.history) may_run (legal, k.run) (omega arith)

  -- entries are effects of the shape
  pub entries_fit : RunsUphold → AllByRecursion (IsEffect (rules_of h).shape) t.journal.entries
  entries_fit law = rw k.tables.journal (upheld law).no_fault.effects

-- the last of several
all_last : {X : Type 0} (P : X → Type 0) (xs : List X) (x : X) → AllByRecursion P (xs ++ x ∷ []) → P x
all_last P [] x h = h.0
all_last P (y ∷ ys) x h = all_last P ys x h.1

-- an effect that is issued is one of the shape
pub issued_fits : (h : House) (t : Tables) (capacity : ℕ) → IsKept h t capacity → RunsUphold → (session entry : ℕ) (effect : List Atom) → Legal (rules_of h) h.scene (Issue session entry effect) h.history → length h.history < MOST_EVENTS → IsEffect (rules_of h).shape effect
issued_fits h t capacity k law session entry effect legal few =
    all_last (IsEffect (rules_of h).shape) (journal h.history) effect (upheld_after h t capacity k law (Issue session entry effect) legal few).no_fault.effects

-- the stores of replicas are stores
store_if : (b : Bool) (shape : List CellKind) (effect : List Atom) (store : List CellValue) → IsStore shape store → IsStore shape (cond b (apply shape effect store) store)
store_if true shape effect store is = store_after shape effect store is
store_if false shape effect store is = is

pub local_store : (p : Rules) (scene : Scene) → IsStore p.shape p.initial → (replica : ℕ) (past : List Event) → IsStore p.shape (local p scene replica past)
local_store p scene is replica [] = is
local_store p scene is replica (Issue session entry effect ∷ past) =
    store_if (is_at scene.sessions session replica) p.shape effect (local p scene replica past) (local_store p scene is replica past)
local_store p scene is replica (Deliver source target entry ∷ past) =
    store_if (eqb target replica) p.shape (effect_at entry past) (local p scene replica past) (local_store p scene is replica past)
local_store p scene is replica (event ∷ past) = local_store p scene is replica past

-- no cell of a low store leaves its word
pub low_stays : EffectsAddLittle → (shape : List CellKind) (effect : List Atom) (store : List CellValue) → IsEffect shape effect → IsLow store → StaysInWords shape effect store
low_stays law shape effect store fits low =
    (law shape effect 140_000_000_000_000 store fits (omega arith) (omega arith)
    (All-weaker (λ v. unsigned_abs v < 140_000_000_000_000) (λ v. unsigned_abs v ≤ 140_000_000_000_000) (λ v le. omega arith) store low)).words
