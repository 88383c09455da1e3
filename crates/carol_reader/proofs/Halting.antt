-- A loop that reads one member after another.
use Rattle.std.proofs.Common.{◌≡◌, ℕ, ◌-◌, ◌<◌, Bool, true, List, sym, ◌∙◌}
use Rattle.carol_grammar.specs.Reading.{Reading, read_many, behind}
use Rattle.carol_grammar.proofs.Repeating.{many_stuck}
use Rattle.carol_syntax.specs.declared.lexeme.Lexeme.{Lexeme}
use Rattle.carol_reader.specs.declared.reader.Halt.{Halt}
use Rattle.carol_reader.specs.declared.reader.Halt.TheVariants as halt
use Rattle.carol_reader.specs.Reads.{Stops}

-- where a member's reader stops, the whole stops
pub halts : {A : Type 0} (e : Halt) (n i : ℕ) (more : List Lexeme → Bool) (r : List Lexeme → Reading Lexeme A) (front : List A) (ts : List Lexeme) (whole : Reading Lexeme (List A)) → behind front (read_many (n - i) more r ts) ≡ whole → i < n → more ts ≡ true → Stops e (r ts) → Stops e whole
halts (halt.At rest) n i more r front ts whole inv h b s = sym inv ∙ many_stuck n i more r front ts rest.now h b s
halts halt.NoMemory n i more r front ts whole inv h b s = tt
