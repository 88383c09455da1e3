-- The limits of a text and of its tree, each with the constant of the same name in `src/limits.rt`.
use Rattle.std.specs.Prelude.{ℕ, ◌^◌}

-- the greatest number of a text
abbrev pub largest : ℕ
largest = 10 ^ 12

-- the most bytes of a name
abbrev pub longest_name : ℕ
longest_name = 64

-- the most bytes of a whole text
abbrev pub most_text_bytes : ℕ
most_text_bytes = 67_108_864

-- the most bytes of the program part
abbrev pub most_program_bytes : ℕ
most_program_bytes = 65_536

-- the most nodes of a formula, and of a term that stands by itself
abbrev pub most_formula_nodes : ℕ
most_formula_nodes = 256

-- the most bodies that stand in one another
abbrev pub most_body_depth : ℕ
most_body_depth = 64

-- the most statements of a script
abbrev pub most_script_lines : ℕ
most_script_lines = 131_072
