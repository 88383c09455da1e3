-- The texts of refusals.
use Rattle.std.specs.Prelude.{ℕ, List, [], ◌∷◌, ◌++◌, codes, ℤ}
use Rattle.std.specs.Fmt.{decimal}
use Rattle.carol_formula.specs.Numbers.{number_at}
use Rattle.carol_program.specs.declared.program.Program.{Program}
use Rattle.carol_program.specs.declared.names.Names.{Names}
use Rattle.carol_program.specs.declared.places.Place.{Place}
use Rattle.carol_program.specs.declared.places.Place.TheVariants.{Initial, Reflexive}
use Rattle.carol_program.specs.Rules.{rules_in}
use Rattle.carol_program.specs.Variables.{number_in}
use Rattle.carol_program.specs.WellFormed.{AreRules}
use Rattle.carol_decide.specs.declared.answer.TheConstants.{MOST_LEAVES}
use Rattle.carol_decide.specs.declared.answer.Why.{Why}
use Rattle.carol_decide.specs.declared.answer.Why.TheVariants.{Leaves, Wide, Far}
use Rattle.carol_accept.specs.Named.{place_text, variable_text}
use Rattle.carol_accept.specs.Lines.{lines_text}
use Rattle.carol_accept.specs.declared.refused.Refused.{Refused}
use Rattle.carol_accept.specs.declared.refused.Refused.TheVariants.{InitialFails, NotReflexive, Fails, Undecided, NoMemory}

-- a line
abbrev pub line : List ℕ → List ℕ
line text = text ++ 10 ∷ []

-- where something is found
abbrev pub place_line : Names → Place → List ℕ
place_line names place = line (codes "place " ++ place_text names place)

-- the place, and the numbers that are shown there
unfoldable pub breach_text : Program → Place → (ℕ → ℤ) → List ℕ
breach_text program place f = place_line program.names place ++ lines_text (rules_in program) program.names place f

-- numbers break what is asked at the place
abbrev pub refused_text : Program → Place → (ℕ → ℤ) → List ℕ
refused_text program place f = line (codes "refused") ++ (breach_text program place f ++ line (codes "end"))

-- why it is undecided
abbrev pub why_text : Names → Place → Why → List ℕ
why_text names place (Leaves tree) = codes "leaves " ++ decimal MOST_LEAVES
why_text names place (Wide w) = codes "wide " ++ variable_text names place w.variable
why_text names place (Far f) = codes "far"

-- it stays undecided whether what is asked at the place is so
unfoldable pub undecided_text : Program → Place → Why → List ℕ
undecided_text program place why =
    line (codes "undecided") ++ (place_line program.names place ++ (line (why_text program.names place why) ++ line (codes "end")))

-- a refusal of a program
abbrev pub verdict_text : Refused → List ℕ
verdict_text (InitialFails program) = refused_text program Initial (number_in program.initial)
verdict_text (NotReflexive program guard at) = refused_text program (Reflexive guard) (number_at at)
verdict_text (Fails program place at) = refused_text program place (number_at at)
verdict_text (Undecided program place why) = undecided_text program place why
verdict_text NoMemory = []

-- the refusal has its program, which is well formed
abbrev pub HasRules : Refused → Type 0
HasRules (InitialFails program) = AreRules (rules_in program)
HasRules (NotReflexive program guard at) = AreRules (rules_in program)
HasRules (Fails program place at) = AreRules (rules_in program)
HasRules (Undecided program place why) = AreRules (rules_in program)
HasRules NoMemory = ⊥
