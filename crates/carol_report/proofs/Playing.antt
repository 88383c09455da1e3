-- One statement of a script after another.
use Rattle.std.proofs.Common.{◌≡◌, ℕ, ◌+◌, ◌<◌, ◌≤◌, List, [], ◌∷◌, length, drop, drop-cons, get_or, add-one, inl, inr, refl, ◌∙◌, arith}
use Rattle.std.specs.Prelude.{Option, Some, None}
use Rattle.carol_program.specs.Rules.{Rules}
use Rattle.carol_program.specs.declared.scenes.Scene.{Scene}
use Rattle.carol_history.specs.declared.history.TheConstants.{MOST_EVENTS}
use Rattle.carol_history.specs.declared.script.BadStatement.{BadStatement}
use Rattle.carol_history.specs.declared.script.ScriptCause.{ScriptCause}
use Rattle.carol_history.specs.declared.script.Statement.{Statement}
use Rattle.carol_history.specs.Scripts.{ComesTo, Fails, Gives, Scripted}
use Rattle.carol_house.specs.House.{House, IsOverSame, Rests, rules_of}
use Rattle.carol_report.specs.Plays.{Makes, Plays}

-- what the statements that are left come to is what all of them come to
pub record Playing (first : House) (lines left : List Statement) (number : ℕ) (now : House) : Type 0 where
  pub over : IsOverSame first now
  pub ends : (scripted : Scripted) → ComesTo (rules_of first) first.scene number left now.history scripted → ComesTo (rules_of first) first.scene 1 lines first.history scripted
  pub few : length now.history + length left ≤ MOST_EVENTS

over_both : (first now new : House) → IsOverSame first now → IsOverSame now new → IsOverSame first new
over_both first now new one other = record { kept = other.kept ∙ one.kept; scene = other.scene ∙ one.scene }

-- what is said of the house as it is now is said of the first one's program and scene
of_first : (P : Rules → Scene → Type 0) (first now : House) → IsOverSame first now → P (rules_of now) now.scene → P (rules_of first) first.scene
of_first P first now over h = rw (over.kept, over.scene) at h

-- before the first statement
pub starts : (first : House) (lines : List Statement) → length first.history + length lines ≤ MOST_EVENTS → Playing first lines lines 1 first
starts first lines few = record { over = record { kept = refl; scene = refl }; ends = λ scripted comes. comes; few = few }

-- the statement gave an event
goes_on : (first : House) (lines : List Statement) (line : Statement) (left : List Statement) (number : ℕ) (now new : House) → Playing first lines (line ∷ left) number now → Makes now line None new → Playing first lines left (number + 1) new
goes_on first lines line left number now new h made =
    let gives = of_first (λ p scene. Gives p scene line made.0 now.history) first now h.over made.1
    in record {
      over = over_both first now new h.over made.2;
      ends = λ scripted comes. h.ends scripted (inl (made.0, gives, rw made.3 at comes));
      few = rw made.3 (omega (arith, h.few));
    }

-- the statement gave none
pub stops : (first : House) (lines : List Statement) (line : Statement) (left : List Statement) (number : ℕ) (now new : House) (cause : ScriptCause) → Playing first lines (line ∷ left) number now → Makes now line (Some cause) new → Plays first lines new (Some (record { number = number; cause = cause }))
stops first lines line left number now new cause h made =
    let fails = of_first (λ p scene. Fails scene line cause now.history) first now h.over made.0
    in record {
      over = over_both first now new h.over made.1;
      script = h.ends _ (inr (cause, fails, rw made.2 refl));
    }

-- all statements gave one
pub plays_all : (first : House) (lines : List Statement) (number : ℕ) (now : House) → Playing first lines [] number now → Plays first lines now None
plays_all first lines number now h = record { over = h.over; script = h.ends (record { history = now.history; bad = None }) refl }

-- the same by the place of the statement
pub goes_on_at : (first : House) (lines : List Statement) (place : ℕ) (blank : Statement) (now new : House) (bad : Option ScriptCause) → place < length lines → bad ≡ None → Playing first lines (drop place lines) (place + 1) now → Makes now (get_or lines place blank) bad new → Playing first lines (drop (place + 1) lines) (place + 1 + 1) new
goes_on_at first lines place blank now new bad inside none h made =
    let here : drop place lines ≡ get_or lines place blank ∷ drop (place + 1) lines = rw add-one (drop-cons lines place blank inside)
    in goes_on first lines (get_or lines place blank) (drop (place + 1) lines) (place + 1) now new (rw here at h) (rw none at made)

-- after memory was taken
pub plays_reserved : (old reserved new : House) (lines : List Statement) (bad : Option BadStatement) → Rests old reserved → Plays reserved lines new bad → Plays old lines new bad
plays_reserved old reserved new lines bad rests plays =
    let script = of_first (λ p scene. ComesTo p scene 1 lines reserved.history (record { history = new.history; bad = bad })) old reserved rests.over plays.script
    in record { over = over_both old reserved new rests.over plays.over; script = rw rests.history at script }
