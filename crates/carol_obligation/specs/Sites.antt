-- The places of a body at which something is asked of it, in the order of the text.
use Rattle.std.specs.Prelude.{ℕ, ◌+◌, true, false, List, [], ◌∷◌, ◌++◌, Option, Some, None, slice_get}
use Rattle.carol_formula.specs.Linear.{Linear}
use Rattle.carol_store.specs.declared.shape.CellKind.{CellKind}
use Rattle.carol_store.specs.declared.shape.CellKind.TheVariants.{Counter, Peak, Flag}
use Rattle.carol_program.specs.declared.steps.Part.{Part}
use Rattle.carol_program.specs.Bodies.{Body, Query, Issue, Release, Branch, Return}
use Rattle.carol_obligation.specs.Ways.{Way, Asks, Puts, Frees, Tests}

-- what is asked: that the amount of a part, which is the atom with this number, isn't too large for a
-- cell of the kind; that the invariant is true after these parts; that the value meets its refinement
pub data Ending : Type 0 where
  Amount : (atom : ℕ) (kind : CellKind) (part : Part) → Ending
  After : (parts : List Part) → Ending
  Gives : (value : Linear) → Ending

-- the way to a statement, its number, and what is asked there
pub record Site : Type 0 where
  pub way : Way
  pub number : ℕ
  pub ending : Ending

-- the place of an amount of a cell of this kind
abbrev pub bounded_site : Way → ℕ → ℕ → Part → CellKind → List Site
bounded_site way number atom part kind = record { way = way; number = number; ending = Amount atom kind part } ∷ []

-- what is set in a flag has no bound
abbrev pub amount_site : Way → ℕ → ℕ → Part → Option CellKind → List Site
amount_site way number atom part None = []
amount_site way number atom part (Some Flag) = []
amount_site way number atom part (Some Counter) = bounded_site way number atom part Counter
amount_site way number atom part (Some Peak) = bounded_site way number atom part Peak

-- a place for each amount, the first of them of the atom with this number
abbrev pub amount_sites : List CellKind → Way → ℕ → ℕ → List Part → List Site
amount_sites kinds way number atom [] = []
amount_sites kinds way number atom (part ∷ parts) =
    amount_site way number atom part (slice_get kinds part.cell) ++ amount_sites kinds way number (atom + 1) parts

-- the places of a body to which this way leads
abbrev pub sites : List CellKind → Body → Way → List Site
sites kinds (Query number guard slot next) way = sites kinds next (Asks guard slot ∷ way)
sites kinds (Issue number parts next) way =
    amount_sites kinds way number 1 parts ++
    (record { way = way; number = number; ending = After parts } ∷ sites kinds next (Puts parts ∷ way))
sites kinds (Release number next) way = sites kinds next (Frees ∷ way)
sites kinds (Branch number test first second) way =
    sites kinds first (Tests test true ∷ way) ++ sites kinds second (Tests test false ∷ way)
sites kinds (Return number value) way = record { way = way; number = number; ending = Gives value } ∷ []
