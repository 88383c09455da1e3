-- The end of a body as plain data.
use Rattle.std.specs.Prelude.{List}
use Rattle.carol_syntax.specs.declared.bodies.Statement.{Statement}
use Rattle.carol_syntax.specs.declared.bodies.Last.{Last}
use Rattle.carol_syntax.specs.declared.bodies.Last.TheFolds.{fold-Last}
use Rattle.carol_syntax.specs.Bodies.{BodyTree, tree_of_end, tree_of_body}

-- the body that an end makes of the statements before it
abbrev pub end_tree : Last → List Statement → BodyTree
end_tree = fold-Last (List Statement → BodyTree) BodyTree tree_of_end tree_of_body
