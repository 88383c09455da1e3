-- The place behind a body.
use Rattle.std.specs.Prelude.{◌+◌, length}
use Rattle.carol_syntax.specs.Bodies.{BodyTree}
use Rattle.carol_syntax.specs.Size.{statement_count}
use Rattle.carol_meaning.specs.Bodies.{Point, queries_within}

-- names of the body are gone, its slots and numbers are taken
abbrev pub behind_body : BodyTree → Point → Point
behind_body b at = record {
  scope = at.scope;
  slot = at.slot + length (queries_within b);
  number = at.number + statement_count b;
}
