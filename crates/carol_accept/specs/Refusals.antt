-- What it says that a program is accepted, or refused.
use Rattle.std.specs.Prelude.{◌≡◌, ◌⊎◌}
use Rattle.std.specs.List.{AllByRecursion}
use Rattle.carol_formula.specs.Numbers.{number_at}
use Rattle.carol_program.specs.declared.program.Program.{Program}
use Rattle.carol_program.specs.Accords.{Accords, IsTable}
use Rattle.carol_program.specs.Preserving.{IsRight}
use Rattle.carol_program.specs.Rules.{Rules, rules_in}
use Rattle.carol_reading.specs.Good.{IsReflexive}
use Rattle.carol_reading.specs.Kept.{Kept, MayBeKept}
use Rattle.carol_reading.specs.Rounds.{MeetsInvariant}
use Rattle.carol_accord.specs.Inferred.{HasWitnesses, IsNotReflexive, IsOpenAt}
use Rattle.carol_typecheck.specs.Readings.{IsVerdictFor}
use Rattle.carol_typecheck.specs.declared.verdict.Verdict.TheVariants as verdict
use Rattle.carol_accept.specs.declared.refused.Refused.{Refused}
use Rattle.carol_accept.specs.declared.refused.Refused.TheVariants.{InitialFails, NotReflexive, Fails, Undecided, NoMemory}

-- the program is kept, it is accepted, and its table is right, with an entry for each guard and way, and
-- has stores for each no
pub record IsKeptAs (program : Program) (kept : Kept) : Type 0 where
  pub same : kept.program ≡ program
  pub may_be : MayBeKept program kept.accords
  pub whole : IsTable kept.accords
  pub witnesses : HasWitnesses (rules_in program).shape (rules_in program).guards kept.accords

-- the invariant is true of the initial store
abbrev pub StartsWell : Rules → Type 0
StartsWell p = MeetsInvariant p p.initial

abbrev pub AreReflexive : Rules → Type 0
AreReflexive p = AllByRecursion (IsReflexive p) p.guards

-- all that is asked of the guards is decided, and each is true of any two equal stores
pub record HasAccords (p : Rules) : Type 0 where
  pub table : Accords
  pub right : IsRight p table
  pub witnesses : HasWitnesses p.shape p.guards table
  pub reflexive : AreReflexive p

-- why it is refused, which says of the places before the one at fault that they are proved
abbrev pub IsRefusedFor : Rules → Refused → Type 0
IsRefusedFor p (InitialFails program) = ¬ StartsWell p
IsRefusedFor p (NotReflexive program guard at) = StartsWell p × IsNotReflexive p guard (number_at at)
IsRefusedFor p (Fails program place at) = StartsWell p × HasAccords p × IsVerdictFor p (verdict.Fails place at)
IsRefusedFor p (Undecided program place why) =
    StartsWell p × (IsOpenAt p place why ⊎ (HasAccords p × IsVerdictFor p (verdict.Undecided place why)))
IsRefusedFor p NoMemory = Unit {0}

-- it is this program that is handed back
abbrev pub HandsBack : Program → Refused → Type 0
HandsBack program (InitialFails back) = back ≡ program
HandsBack program (NotReflexive back guard at) = back ≡ program
HandsBack program (Fails back place at) = back ≡ program
HandsBack program (Undecided back place why) = back ≡ program
HandsBack program NoMemory = Unit {0}

-- something isn't so, and neither is undecided
abbrev pub IsFault : Refused → Type 0
IsFault (InitialFails program) = Unit {0}
IsFault (NotReflexive program guard at) = Unit {0}
IsFault (Fails program place at) = Unit {0}
IsFault (Undecided program place why) = ⊥
IsFault NoMemory = ⊥
