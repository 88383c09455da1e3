-- How large the parts of a program and of a scene may be.
use Rattle.std.specs.Prelude.{ℕ, ◌^◌}

-- the longest name, in bytes
abbrev pub longest_name : ℕ
longest_name = 64

-- the longest name of a cell, in bytes: two names with a point between them
abbrev pub longest_path : ℕ
longest_path = 129

abbrev pub most_cells : ℕ
most_cells = 16

abbrev pub most_guards : ℕ
most_guards = 16

abbrev pub most_ops : ℕ
most_ops = 64

-- of one operation
abbrev pub most_params : ℕ
most_params = 16

-- of one operation
abbrev pub most_queries : ℕ
most_queries = 8

-- of one operation
abbrev pub most_statements : ℕ
most_statements = 65536

-- of one formula, its products not counted
abbrev pub most_nodes : ℕ
most_nodes = 256

-- of one term
abbrev pub most_products : ℕ
most_products = 256

-- how deep bodies are nested; an operation's own body is the first
abbrev pub most_depth : ℕ
most_depth = 64

-- the largest coefficient of a term, in absolute value
abbrev pub largest_coefficient : ℕ
largest_coefficient = 10 ^ 9

-- the largest constant of a term, in absolute value
abbrev pub largest_constant : ℕ
largest_constant = 10 ^ 15

-- the largest initial value and argument, in absolute value
abbrev pub largest_literal : ℕ
largest_literal = 10 ^ 12

abbrev pub most_replicas : ℕ
most_replicas = 8

abbrev pub most_tries : ℕ
most_tries = 16

abbrev pub most_workers : ℕ
most_workers = 16

abbrev pub most_gossipers : ℕ
most_gossipers = 8

abbrev pub most_sessions : ℕ
most_sessions = 64

-- of all sessions together
abbrev pub most_commands : ℕ
most_commands = 4096
