use Rattle.std.proofs.Common.{◌∷◌, [], ◌++◌, ◌≡◌, length-append, arith}
use Rattle.std.proofs.lemmas.List.{length-map}
use Rattle.carol_holding.proofs.Rows.{has_at-nothing}
use Rattle.carol_holding.proofs.holding.Holding.new.Goals as goal

pub loop-preserved : goal.loop-preserved
loop-preserved c =
    let e : c.push.new.self.items ≡ c.loop.rows.items ++ c.new.result ∷ [] = c.in_ok-push.ensures.items
    in record {
      count = rw e (simp (length-map, length-append) (omega (arith, simp length-map at c.loop.invariant.count)));
      nothing = λ r i. rw e (has_at-nothing c.loop.rows.items c.new.result c.loop.invariant.nothing c.new.ensures r i);
    }
