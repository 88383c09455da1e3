-- Which words are keywords.
use Rattle.std.specs.Prelude.{ℕ, List, [], ◌∷◌, length, eqb, if◌then◌else◌}
use Rattle.std.specs.List.{zip}
use Rattle.std.specs.Borrow.{Bor}
use Rattle.std.specs.Str.{bytes_eq}
use Rattle.carol_syntax.specs.Words.{keywords}
use Rattle.carol_syntax.specs.declared.kind.Kind.{Kind}
use Rattle.carol_syntax.specs.declared.kind.Kind.TheVariants as k

-- the kind that the list gives a word, or a name's
unfoldable pub kind_in : List (List ℕ × Kind) → List ℕ → Kind
kind_in [] word = k.Name
kind_in (entry ∷ entries) word = if bytes_eq entry.0 word then entry.1 else kind_in entries word

-- the keywords and their kinds
abbrev pub keyword_kinds : List (List ℕ × Kind)
keyword_kinds = zip keywords (
    k.Program ∷ k.Scene ∷ k.Script ∷ k.Transcript ∷ k.End ∷ k.Counter ∷ k.Peak ∷ k.Flag ∷ k.Set ∷
    k.Record ∷ k.Invariant ∷ k.Guard ∷ k.Op ∷ k.Gives ∷ k.Result ∷ k.Query ∷ k.Under ∷ k.Issue ∷
    k.Raise ∷ k.Release ∷ k.Let ∷ k.If ∷ k.Else ∷ k.Return ∷ k.True ∷ k.False ∷ k.And ∷ k.Or ∷
    k.Not ∷ k.Size ∷ k.Here ∷ k.There ∷ k.Replicas ∷ k.Tries ∷ k.Workers ∷ k.Gossipers ∷
    k.Session ∷ k.At ∷ k.Times ∷ k.Go ∷ k.Gossip ∷ k.Cut ∷ k.Join ∷ k.Shape ∷ k.Open ∷ k.In ∷
    k.Call ∷ [])

abbrev pub kind_of_word : List ℕ → Kind
kind_of_word word = kind_in keyword_kinds word

-- the entries of words of this length
unfoldable pub of_length : ℕ → List (List ℕ × Kind) → List (List ℕ × Kind)
of_length n [] = []
of_length n (entry ∷ entries) = if eqb (length entry.0) n then entry ∷ of_length n entries else of_length n entries

-- what an entry of the code's table says
abbrev pub entry_of : Bor (List ℕ) × Kind → List ℕ × Kind
entry_of e = (e.0.now, e.1)
