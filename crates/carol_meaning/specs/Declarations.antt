-- What is wrong with a list of declarations, whatever they declare.
use Rattle.std.specs.Prelude.{ℕ, ◌+◌, Bool, if◌then◌else◌, List, [], ◌∷◌, ◌++◌, slice_get, Option, Some, None}
use Rattle.std.specs.List.{list_any}
use Rattle.std.specs.Str.{bytes_eq}
use Rattle.carol_syntax.specs.declared.places.Ident.{Ident}
use Rattle.carol_meaning.specs.declared.fault.NameKind.TheVariants.{Twice, TooMany}
use Rattle.carol_meaning.specs.declared.fault.Fault.{Fault}
use Rattle.carol_meaning.specs.Faults.{fault_of}

abbrev pub is_among : List ℕ → List (List ℕ) → Bool
is_among word words = list_any (bytes_eq word) words

-- each name that is one of the words, or stands behind an equal name
abbrev pub twice_after : List (List ℕ) → List Ident → List Fault
twice_after seen [] = []
twice_after seen (i ∷ more) =
    if is_among i.word seen then (fault_of Twice i ∷ twice_after seen more) else twice_after (seen ++ i.word ∷ []) more

-- each name that stands behind an equal one
abbrev pub twice_in : List Ident → List Fault
twice_in names = twice_after [] names

abbrev pub one_too_many : Option Ident → List Fault
one_too_many None = []
one_too_many (Some i) = fault_of TooMany i ∷ []

-- the first name beyond the most that there may be
abbrev pub too_many : ℕ → List Ident → List Fault
too_many most names = one_too_many (slice_get names most)

-- where a word stands among names that are numbered from this one on, first of all
abbrev pub place_from : ℕ → List ℕ → List Ident → Option ℕ
place_from n word [] = None
place_from n word (i ∷ more) = if bytes_eq word i.word then Some n else place_from (n + 1) word more

abbrev pub place_of : List ℕ → List Ident → Option ℕ
place_of word names = place_from 0 word names
