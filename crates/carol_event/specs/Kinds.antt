-- The words with which lines begin.
use Rattle.std.specs.Prelude.{ℕ, List, codes, slice_index, ◌==◌, if◌then◌else◌}
use Rattle.carol_event.specs.declared.kind.Kind.{Kind}
use Rattle.carol_event.specs.declared.kind.Kind.TheVariants.{Grant, Query, Issue, Release, Return, Refuse, Deliver, Cut, Join}

-- the kind whose word has this third byte, of those that begin with "re"
abbrev pub kind_from_third : ℕ → Kind
kind_from_third byte = if byte == 108 then Release else (if byte == 102 then Refuse else Return)

-- the kind whose word has this first byte; where none has it, one whose word it does not begin
abbrev pub kind_from : ℕ → Kind → Kind
kind_from byte others =
    if byte == 103 then Grant else (if byte == 113 then Query else (if byte == 105 then Issue else
    (if byte == 100 then Deliver else (if byte == 99 then Cut else
    (if byte == 106 then Join else others)))))

-- the one kind whose word may begin the line
unfoldable pub kind_of : List ℕ → Kind
kind_of line = kind_from (slice_index line 0) (kind_from_third (slice_index line 2))

-- the word of a kind, with the space behind it
unfoldable pub word_of : Kind → List ℕ
word_of Grant = codes "grant "
word_of Query = codes "query "
word_of Issue = codes "issue "
word_of Release = codes "release "
word_of Return = codes "return "
word_of Refuse = codes "refuse "
word_of Deliver = codes "deliver "
word_of Cut = codes "cut "
word_of Join = codes "join "
