-- What the code keeps of the tokens so far: the counts, and the kinds of the last two.
use Rattle.std.specs.Prelude.{ℕ, ◌+◌, ◌<◌, ◌≤◌, List, Some}
use Rattle.carol_syntax.specs.Limits.{most_formula_nodes, most_body_depth, most_script_lines}
use Rattle.carol_syntax.specs.declared.kind.Kind.{Kind}
use Rattle.carol_syntax.specs.declared.lexeme.Lexeme.{Lexeme}
use Rattle.carol_grammar.specs.declared.limit.TextLimit.{TextLimit}
use Rattle.carol_grammar.specs.declared.limit.TextLimit.TheVariants.{ProgramBytes, FormulaNodes, BodyDepth, ScriptLines}
use Rattle.carol_grammar.specs.declared.counting.Counts.{Counts}
use Rattle.carol_grammar.specs.Limits.{latest, second, nodes, nodes_with, depth, depth_with, lines, begins_line, one_if, most, rank}

abbrev pub counts_of : List Lexeme → Counts
counts_of before = record { nodes = nodes before; depth = depth before; lines = lines before; last = latest before; second = second before }

-- the counts with one more token
abbrev pub counts_with : Counts → Kind → Counts
counts_with c kind = record {
  nodes = nodes_with c.nodes kind c.last c.second;
  depth = depth_with c.depth kind;
  lines = c.lines + one_if (begins_line kind);
  last = Some kind;
  second = c.last;
}

abbrev pub count_in : Counts → TextLimit → ℕ
count_in c ProgramBytes = 0
count_in c FormulaNodes = c.nodes
count_in c BodyDepth = c.depth
count_in c ScriptLines = c.lines

-- nothing is over its limit
pub record IsWithin (c : Counts) : Type 0 where
  pub nodes_within : c.nodes ≤ most_formula_nodes
  pub depth_within : c.depth ≤ most_body_depth
  pub lines_within : c.lines ≤ most_script_lines

-- the count of this limit is over it, and of none before it in the order
pub record IsLeastOver (c : Counts) (limit : TextLimit) : Type 0 where
  pub over : most limit < count_in c limit
  pub least : (l : TextLimit) → most l < count_in c l → rank limit ≤ rank l
