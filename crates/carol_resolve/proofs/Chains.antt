-- Steps before what follows them.
use Rattle.std.proofs.Common.{◌≡◌, List, [], ◌∷◌, ◌++◌, refl, ap}
use Rattle.carol_program.specs.Bodies.{Body}
use Rattle.carol_resolve.specs.declared.heads.Head.{Head}
use Rattle.carol_resolve.specs.Heads.{with_head, with_heads}

-- one step more at the end
pub with_heads-append : (hs : List Head) (h : Head) (last : Body) → with_heads (hs ++ h ∷ []) last ≡ with_heads hs (with_head h last)
with_heads-append [] h last = refl
with_heads-append (g ∷ hs) h last = ap (with_head g) (with_heads-append hs h last)

-- the last of the steps before what follows it
pub wrap_more : (hs more : List Head) (h : Head) (next step whole : Body) → hs ≡ more ++ h ∷ [] → step ≡ with_head h next → with_heads hs next ≡ whole → with_heads more step ≡ whole
wrap_more hs more h next step whole is made so_far = rw (made, ← with_heads-append more h next, ← is) so_far
