-- The text of an advice.
use Rattle.std.specs.Prelude.{ℕ, ◌+◌, List, [], ◌∷◌, ◌++◌, codes, decimal}
use Rattle.carol_formula.specs.Numbers.{number_at}
use Rattle.carol_program.specs.declared.names.Names.{Names}
use Rattle.carol_program.specs.declared.program.Program.{Program}
use Rattle.carol_program.specs.Called.{queries_of}
use Rattle.carol_accept.specs.Named.{name_at, op_text}
use Rattle.carol_accept.specs.Verdicts.{breach_text, line}
use Rattle.carol_advise.specs.declared.answer.Advice.{Advice}
use Rattle.carol_advise.specs.declared.answer.Rejected.{Rejected}

-- the guard that the query in this slot of the operation is to stand under
abbrev pub query_line : Names → ℕ → ℕ → ℕ → List ℕ
query_line names op slot guard =
    line (codes "query " ++ (name_at (queries_of names op) slot ++ (codes " under " ++ name_at names.guards guard)))

-- those of the slots from this one on
abbrev pub query_lines : Names → ℕ → ℕ → List ℕ → List ℕ
query_lines names op slot [] = []
query_lines names op slot (guard ∷ guards) = query_line names op slot guard ++ query_lines names op (slot + 1) guards

-- the names of guards, each with a space before it
abbrev pub spaced_names : Names → List ℕ → List ℕ
spaced_names names [] = []
spaced_names names (guard ∷ guards) = codes " " ++ (name_at names.guards guard ++ spaced_names names guards)

-- the guards that are rejected, and a breach under them
unfoldable pub rejected_text : Program → Rejected → List ℕ
rejected_text program r =
    line (codes "rejected" ++ spaced_names program.names r.guards) ++ breach_text program r.place (number_at r.at)

abbrev pub rejected_texts : Program → List Rejected → List ℕ
rejected_texts program [] = []
rejected_texts program (r ∷ rejected) = rejected_text program r ++ rejected_texts program rejected

-- the whole advice for the operation with this number
unfoldable pub advice_text : Program → ℕ → Advice → List ℕ
advice_text program op a =
    line (codes "advised " ++ op_text program.names op) ++
    (query_lines program.names op 0 a.guards ++
    (line (codes "bars " ++ decimal a.bars) ++ (rejected_texts program a.rejected ++ line (codes "end"))))
