-- The bytes of each symbol and of each keyword are that token.
use Rattle.std.proofs.Common.{◌≡◌, true, refl}
use Rattle.carol_syntax.specs.declared.kind.Kind.{Kind}
use Rattle.carol_syntax.specs.declared.kind.Kind.TheVariants as k
use Rattle.carol_syntax.specs.Keywords.{kind_in}
use Rattle.carol_syntax.specs.First.{first_token}
use Rattle.carol_print.specs.Pieces.{codes_of, IsSpelled, is_fixed}

pub fixed_spelled : (kind : Kind) → is_fixed kind ≡ true → IsSpelled kind 0 (codes_of kind)
unfolding first_token kind_in
fixed_spelled k.Name h = absurd cc
fixed_spelled k.Number h = absurd cc
fixed_spelled k.Semicolon h = refl
fixed_spelled k.Colon h = refl
fixed_spelled k.Comma h = refl
fixed_spelled k.Dot h = refl
fixed_spelled k.Opening h = refl
fixed_spelled k.Closing h = refl
fixed_spelled k.OpeningBrace h = refl
fixed_spelled k.ClosingBrace h = refl
fixed_spelled k.Equals h = refl
fixed_spelled k.PlusEquals h = refl
fixed_spelled k.MinusEquals h = refl
fixed_spelled k.Plus h = refl
fixed_spelled k.Minus h = refl
fixed_spelled k.Star h = refl
fixed_spelled k.AtMost h = refl
fixed_spelled k.Below h = refl
fixed_spelled k.AtLeast h = refl
fixed_spelled k.Above h = refl
fixed_spelled k.Differs h = refl
fixed_spelled k.Program h = refl
fixed_spelled k.Scene h = refl
fixed_spelled k.Script h = refl
fixed_spelled k.Transcript h = refl
fixed_spelled k.End h = refl
fixed_spelled k.Counter h = refl
fixed_spelled k.Peak h = refl
fixed_spelled k.Flag h = refl
fixed_spelled k.Set h = refl
fixed_spelled k.Record h = refl
fixed_spelled k.Invariant h = refl
fixed_spelled k.Guard h = refl
fixed_spelled k.Op h = refl
fixed_spelled k.Gives h = refl
fixed_spelled k.Result h = refl
fixed_spelled k.Query h = refl
fixed_spelled k.Under h = refl
fixed_spelled k.Issue h = refl
fixed_spelled k.Raise h = refl
fixed_spelled k.Release h = refl
fixed_spelled k.Let h = refl
fixed_spelled k.If h = refl
fixed_spelled k.Else h = refl
fixed_spelled k.Return h = refl
fixed_spelled k.True h = refl
fixed_spelled k.False h = refl
fixed_spelled k.And h = refl
fixed_spelled k.Or h = refl
fixed_spelled k.Not h = refl
fixed_spelled k.Size h = refl
fixed_spelled k.Here h = refl
fixed_spelled k.There h = refl
fixed_spelled k.Replicas h = refl
fixed_spelled k.Tries h = refl
fixed_spelled k.Workers h = refl
fixed_spelled k.Gossipers h = refl
fixed_spelled k.Session h = refl
fixed_spelled k.At h = refl
fixed_spelled k.Times h = refl
fixed_spelled k.Go h = refl
fixed_spelled k.Gossip h = refl
fixed_spelled k.Cut h = refl
fixed_spelled k.Join h = refl
fixed_spelled k.Shape h = refl
fixed_spelled k.Open h = refl
fixed_spelled k.In h = refl
fixed_spelled k.Call h = refl
