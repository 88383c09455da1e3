-- Steps without what follows them.
use Rattle.std.specs.Prelude.{List, [], ◌∷◌}
use Rattle.carol_program.specs.Bodies as body
use Rattle.carol_program.specs.Bodies.{Body}
use Rattle.carol_resolve.specs.declared.heads.Head.{Head}
use Rattle.carol_resolve.specs.declared.heads.Head.TheVariants.{Query, Issue, Release}

-- a step before what follows it
abbrev pub with_head : Head → Body → Body
with_head (Query number guard slot) next = body.Query number guard slot next
with_head (Issue number parts) next = body.Issue number parts next
with_head (Release number) next = body.Release number next

-- steps before what follows the last of them
abbrev pub with_heads : List Head → Body → Body
with_heads [] last = last
with_heads (h ∷ hs) last = with_head h (with_heads hs last)
