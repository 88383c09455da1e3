-- What was answered is what the text means.
use Rattle.std.proofs.Common.{◌≡◌, ℕ, ◌+◌, ◌≤◌, List, length, take, Option, subst, sym}
use Rattle.std.specs.Prelude.{Some, None, IfSome, IfOk, Result, Ok, Err}
use Rattle.carol_grammar.specs.Reading.{Reading, reads_within, ended}
use Rattle.carol_grammar.specs.Found.{Answers}
use Rattle.carol_syntax.specs.declared.files.File.{File}
use Rattle.carol_syntax.specs.Files.{FileTree, file_tree}
use Rattle.carol_syntax.specs.Shape.{IsFile}
use Rattle.carol_syntax.specs.Size.{IsSized}
use Rattle.carol_syntax.specs.declared.lexeme.Lexeme.{Lexeme}
use Rattle.carol_syntax.specs.declared.lexeme.Lexemes.{Lexemes}
use Rattle.carol_syntax.specs.declared.lexeme.Stop.{Stop}
use Rattle.carol_syntax.specs.declared.place.Place.{Place}
use Rattle.carol_syntax.specs.Place.{start}
use Rattle.carol_syntax.specs.Cut.{Cut, StandBetween}
use Rattle.carol_grammar.specs.Rules.{carol, file, read_file}
use Rattle.carol_grammar.specs.declared.reading.Reach.{Reach}
use Rattle.carol_grammar.specs.Outcome.{Outcome, AreParts, IsText, Means, tail_of}
use Rattle.carol_grammar.specs.Reach.{Reaches, told}
use Rattle.carol_grammar.specs.Law.{ReadIsSized}
use Rattle.carol_parse.specs.declared.error.TextError.{TextError}
use Rattle.carol_parse.specs.Answer.{said, Says, IsMeant, IsOnlyMeant}

holds_of : (P : Outcome → Type 0) (o : Outcome) (s : Option Outcome) → IfSome s (λ p. p ≡ o) → P o → IfSome s P
holds_of P o None e h = tt
holds_of P o (Some p) e h = subst P (sym e) h

abbrev ToldMeans : Type 0
ToldMeans = (bytes : List ℕ) (parts : Lexemes) (reach : Reach) (reading : Reading Lexeme FileTree) → AreParts bytes parts → StandBetween 0 parts.list parts.end.offset → Reaches bytes parts reach → Answers (carol bytes) (file bytes (tail_of parts.stop)) (take reach.count parts.list) reading → Means bytes (told parts reach.limit reading)

abbrev ReadingAnswers : Type 0
ReadingAnswers = (bytes : List ℕ) (tail : ℕ) (ts : List Lexeme) → Answers (carol bytes) (file bytes tail) ts (read_file bytes tail ts)

abbrev tells : List ℕ → Lexemes → Reach → ℕ → List Lexeme → Outcome
tells bytes parts reach tail ts = told parts reach.limit (ended (reads_within (carol bytes) (length ts + 1) (length ts + 1) (file bytes tail) ts))

module _ (told_means : ToldMeans) (reading_answers : ReadingAnswers) (bytes : List ℕ) (parts : Lexemes) (reach : Reach) (cut : AreParts bytes parts) (between : StandBetween 0 parts.list parts.end.offset) (reaches : Reaches bytes parts reach) where
  means : (tail : ℕ) (ts : List Lexeme) → tail ≡ tail_of parts.stop → ts ≡ take reach.count parts.list → Means bytes (tells bytes parts reach tail ts)
  means tail ts e f =
      let here = told_means bytes parts reach (read_file bytes (tail_of parts.stop) (take reach.count parts.list)) cut between reaches (reading_answers bytes (tail_of parts.stop) (take reach.count parts.list)) in
      subst (λ n. Means bytes (tells bytes parts reach n ts)) (sym e) (subst (λ us. Means bytes (tells bytes parts reach (tail_of parts.stop) us)) (sym f) here)

  pub is_meant : (tail : ℕ) (ts : List Lexeme) (result : Result File TextError) → tail ≡ tail_of parts.stop → ts ≡ take reach.count parts.list → Says result (tells bytes parts reach tail ts) → IsMeant bytes result
  is_meant tail ts result e f s = holds_of (Means bytes) (tells bytes parts reach tail ts) (said result) s (means tail ts e f)

  pub is_only : ((bytes : List ℕ) (one other : Outcome) → Means bytes one → Means bytes other → one ≡ other) → (tail : ℕ) (ts : List Lexeme) (result : Result File TextError) → tail ≡ tail_of parts.stop → ts ≡ take reach.count parts.list → Says result (tells bytes parts reach tail ts) → IsOnlyMeant bytes result
  is_only once tail ts result e f s = holds_of (λ o. (other : Outcome) → Means bytes other → other ≡ o) (tells bytes parts reach tail ts) (said result) s (λ other m. once bytes other (tells bytes parts reach tail ts) m (means tail ts e f))

-- a tree that was read is a tree of the grammar
pub is_shaped : ((bytes : List ℕ) (f : FileTree) → IsText bytes f → IsFile f) → (bytes : List ℕ) (result : Result File TextError) → IsMeant bytes result → IfOk result (λ file. IsFile (file_tree file))
is_shaped shaped bytes (Ok file) m = shaped bytes (file_tree file) (m.0, m.1, m.2.text)
is_shaped shaped bytes (Err e) m = tt

-- and is as small as the limits make it, whose parts are those that the text was cut into
pub is_sized : ReadIsSized → (bytes : List ℕ) (text : Lexemes) → ((list : List Lexeme) (stop : Stop) (end : Place) → Cut start bytes list stop end → (list ≡ text.list) × (stop ≡ text.stop) × (end ≡ text.end)) → StandBetween 0 text.list text.end.offset → text.end.offset ≤ length bytes → (result : Result File TextError) → IsMeant bytes result → IfOk result (λ file. IsSized (file_tree file))
is_sized sized bytes text once between within (Ok file) m =
    let same = once m.0.list m.0.stop m.0.end m.1 in
    let stand : StandBetween 0 m.0.list m.0.end.offset = rw (same.0, same.2) between in
    sized bytes m.0 (file_tree file) stand (rw same.2 within) m.2
is_sized sized bytes text once between within (Err e) m = tt
