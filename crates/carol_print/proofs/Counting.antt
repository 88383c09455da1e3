-- What is counted over the pieces of a text, one behind the other.
use Rattle.std.proofs.Common.{◌≡◌, ℕ, ◌+◌, ◌≤◌, Bool, true, false, cond, [], ◌∷◌, ◌++◌, Option, refl, ◌∙◌, arith}
use Rattle.std.specs.Prelude.{not}
use Rattle.carol_syntax.specs.declared.kind.Kind.{Kind}
use Rattle.carol_syntax.specs.declared.kind.Kind.TheVariants as k
use Rattle.carol_grammar.specs.declared.counting.Counts.{Counts}
use Rattle.carol_grammar.specs.Limits.{is_size, counts_anew, begins_value, one_if, weight, nodes_with, depth_with, begins_line}
use Rattle.carol_grammar.specs.Counts.{counts_with}
use Rattle.carol_print.specs.Pieces.Piece.{Token, Space, Break}
use Rattle.carol_print.specs.Canonical.{Pieces}

-- the counts behind pieces
abbrev pub over : Counts → Pieces → Counts
over c [] = c
over c (Token kind value spelled ∷ ps) = over (counts_with c kind) ps
over c (Space ∷ ps) = over c ps
over c (Break ∷ ps) = over c ps

-- G holds of the counts before pieces, and behind each token of them
abbrev pub Along : (Counts → Type 0) → Counts → Pieces → Type 0
Along G c [] = G c
Along G c (Token kind value spelled ∷ ps) = G c × Along G (counts_with c kind) ps
Along G c (Space ∷ ps) = Along G c ps
Along G c (Break ∷ ps) = Along G c ps

pub over_both : (c : Counts) (ps qs : Pieces) → over c (ps ++ qs) ≡ over (over c ps) qs
over_both c [] qs = refl
over_both c (Token kind value spelled ∷ ps) qs = over_both (counts_with c kind) ps qs
over_both c (Space ∷ ps) qs = over_both c ps qs
over_both c (Break ∷ ps) qs = over_both c ps qs

pub along_both : (G : Counts → Type 0) (c : Counts) (ps qs : Pieces) → Along G c ps → Along G (over c ps) qs → Along G c (ps ++ qs)
along_both G c [] qs a b = b
along_both G c (Token kind value spelled ∷ ps) qs a b = (a.0, along_both G (counts_with c kind) ps qs a.1 b)
along_both G c (Space ∷ ps) qs a b = along_both G c ps qs a b
along_both G c (Break ∷ ps) qs a b = along_both G c ps qs a b

pub along_end : (G : Counts → Type 0) (c : Counts) (ps : Pieces) → Along G c ps → G (over c ps)
along_end G c [] a = a
along_end G c (Token kind value spelled ∷ ps) a = along_end G (counts_with c kind) ps a.1
along_end G c (Space ∷ ps) a = along_end G c ps a
along_end G c (Break ∷ ps) a = along_end G c ps a

pub along_more : (G H : Counts → Type 0) → ((d : Counts) → G d → H d) → (c : Counts) (ps : Pieces) → Along G c ps → Along H c ps
along_more G H f c [] a = f c a
along_more G H f c (Token kind value spelled ∷ ps) a = (f c a.0, along_more G H f (counts_with c kind) ps a.1)
along_more G H f c (Space ∷ ps) a = along_more G H f c ps a
along_more G H f c (Break ∷ ps) a = along_more G H f c ps a

-- at most so many nodes more, as many open braces, and as many lines
pub record Near (c : Counts) (m : ℕ) (d : Counts) : Type 0 where
  pub nodes : d.nodes ≤ c.nodes + m
  pub depth : d.depth ≡ c.depth
  pub lines : d.lines ≡ c.lines

-- How a kind counts.

-- neither a brace nor the first word of a script's line
abbrev pub is_flat : Kind → Bool
is_flat k.OpeningBrace = false
is_flat k.ClosingBrace = false
is_flat k.Go = false
is_flat k.Gossip = false
is_flat k.Cut = false
is_flat k.Join = false
is_flat _ = true

-- no node, wherever it stands
abbrev pub is_silent : Kind → Bool
is_silent k.Dot = true
is_silent k.Star = true
is_silent k.Plus = true
is_silent k.Minus = true
is_silent k.Closing = true
is_silent k.Program = true
is_silent k.Scene = true
is_silent k.Script = true
is_silent k.End = true
is_silent _ = false

-- counting starts anew behind it, wherever it stands
abbrev pub is_fresh : Kind → Bool
is_fresh k.Colon = true
is_fresh k.Invariant = true
is_fresh k.Gives = true
is_fresh k.If = true
is_fresh k.Return = true
is_fresh k.PlusEquals = true
is_fresh k.MinusEquals = true
is_fresh k.Raise = true
is_fresh k.Semicolon = true
is_fresh k.Comma = true
is_fresh _ = false

pub one_at_most : (b : Bool) → one_if b ≤ 1
one_at_most true = omega arith
one_at_most false = omega arith

pub weight_by : (kind : Kind) (last before : Option Kind) → weight kind last before ≤ 1
unfolding weight
weight_by k.Opening last before = one_at_most (not (is_size last))
weight_by k.Name last before = one_at_most (begins_value last before)
weight_by k.Result last before = one_at_most (begins_value last before)
weight_by k.Here last before = one_at_most (begins_value last before)
weight_by k.There last before = one_at_most (begins_value last before)
weight_by k.Size last before = one_at_most (begins_value last before)
weight_by k.True last before = omega arith
weight_by k.False last before = omega arith
weight_by k.Not last before = omega arith
weight_by k.And last before = omega arith
weight_by k.Or last before = omega arith
weight_by k.AtMost last before = omega arith
weight_by k.Below last before = omega arith
weight_by k.AtLeast last before = omega arith
weight_by k.Above last before = omega arith
weight_by k.Equals last before = omega arith
weight_by k.Differs last before = omega arith
weight_by k.Number last before = omega arith
weight_by _ last before = omega arith

pub nodes_by : (n : ℕ) (kind : Kind) (last before : Option Kind) (w : ℕ) → weight kind last before ≤ w → nodes_with n kind last before ≤ n + w
nodes_by n kind last before w h =
    elim (counts_anew kind last before) as (λ b. cond b 0 (n + weight kind last before) ≤ n + w) [ true ↦ omega arith | false ↦ omega arith ]

pub depth_by : (kind : Kind) (n : ℕ) → is_flat kind ≡ true → depth_with n kind ≡ n
unfolding depth_with
depth_by k.OpeningBrace n h = cc
depth_by k.ClosingBrace n h = cc
depth_by _ n h = refl

pub lines_by : (kind : Kind) (n : ℕ) → is_flat kind ≡ true → n + one_if (begins_line kind) ≡ n
unfolding begins_line
lines_by k.Go n h = absurd cc
lines_by k.Gossip n h = absurd cc
lines_by k.Cut n h = absurd cc
lines_by k.Join n h = absurd cc
lines_by _ n h = omega arith

-- a token of a kind that weighs so much at most
near_weighed : (c d : Counts) (m n : ℕ) (kind : Kind) → is_flat kind ≡ true → weight kind d.last d.second ≤ n → Near c m d → Near c (m + n) (counts_with d kind)
near_weighed c d m n kind flat w h = record {
  nodes = let e : nodes_with d.nodes kind d.last d.second ≤ d.nodes + n = nodes_by d.nodes kind d.last d.second n w in omega (arith, h.nodes);
  depth = depth_by kind d.depth flat ∙ h.depth;
  lines = lines_by kind d.lines flat ∙ h.lines;
}

pub near_one : (c d : Counts) (m : ℕ) (kind : Kind) → is_flat kind ≡ true → Near c m d → Near c (m + 1) (counts_with d kind)
near_one c d m kind flat h = near_weighed c d m 1 kind flat (weight_by kind d.last d.second) h

silent_weight : (kind : Kind) (last before : Option Kind) → is_silent kind ≡ true → weight kind last before ≤ 0
unfolding weight
silent_weight k.Dot last before h = omega arith
silent_weight k.Star last before h = omega arith
silent_weight k.Plus last before h = omega arith
silent_weight k.Minus last before h = omega arith
silent_weight k.Closing last before h = omega arith
silent_weight k.Program last before h = omega arith
silent_weight k.Scene last before h = omega arith
silent_weight k.Script last before h = omega arith
silent_weight k.End last before h = omega arith
silent_weight _ last before h = absurd cc

silent_flat : (kind : Kind) → is_silent kind ≡ true → is_flat kind ≡ true
silent_flat k.Dot h = refl
silent_flat k.Star h = refl
silent_flat k.Plus h = refl
silent_flat k.Minus h = refl
silent_flat k.Closing h = refl
silent_flat k.Program h = refl
silent_flat k.Scene h = refl
silent_flat k.Script h = refl
silent_flat k.End h = refl
silent_flat _ h = absurd cc

as_near : (c d : Counts) (m : ℕ) → Near c (m + 0) d → Near c m d
as_near c d m h = record { nodes = omega (arith, h.nodes); depth = h.depth; lines = h.lines }

pub near_silent : (c d : Counts) (m : ℕ) (kind : Kind) → is_silent kind ≡ true → Near c m d → Near c m (counts_with d kind)
near_silent c d m kind s h = as_near c (counts_with d kind) m (near_weighed c d m 0 kind (silent_flat kind s) (silent_weight kind d.last d.second s) h)

-- the parenthesis of a size
size_weight : (last before : Option Kind) → is_size last ≡ true → weight k.Opening last before ≤ 0
unfolding weight
size_weight last before h = rw h (omega arith)

pub near_size : (c d : Counts) (m : ℕ) → is_size d.last ≡ true → Near c m d → Near c m (counts_with d k.Opening)
near_size c d m s h = as_near c (counts_with d k.Opening) m (near_weighed c d m 0 k.Opening refl (size_weight d.last d.second s) h)

-- a value's first token
abbrev pub is_opener : Kind → Bool
is_opener k.Name = true
is_opener k.Result = true
is_opener k.Here = true
is_opener k.There = true
is_opener k.Size = true
is_opener _ = false

-- what a value that begins here adds
abbrev pub spare : Counts → ℕ
spare c = one_if (begins_value c.last c.second)

opener_weight : (kind : Kind) (last before : Option Kind) → is_opener kind ≡ true → weight kind last before ≡ one_if (begins_value last before)
unfolding weight
opener_weight k.Name last before h = refl
opener_weight k.Result last before h = refl
opener_weight k.Here last before h = refl
opener_weight k.There last before h = refl
opener_weight k.Size last before h = refl
opener_weight _ last before h = absurd cc

opener_flat : (kind : Kind) → is_opener kind ≡ true → is_flat kind ≡ true
opener_flat k.Name h = refl
opener_flat k.Result h = refl
opener_flat k.Here h = refl
opener_flat k.There h = refl
opener_flat k.Size h = refl
opener_flat _ h = absurd cc

pub near_opener : (c d : Counts) (m : ℕ) (kind : Kind) → is_opener kind ≡ true → d.nodes + spare d ≤ c.nodes + m → Near c m d → Near c m (counts_with d kind)
near_opener c d m kind o room h = record {
  nodes = let e : nodes_with d.nodes kind d.last d.second ≤ d.nodes + weight kind d.last d.second = nodes_by d.nodes kind d.last d.second (weight kind d.last d.second) (omega arith) in omega (arith, opener_weight kind d.last d.second o);
  depth = depth_by kind d.depth (opener_flat kind o) ∙ h.depth;
  lines = lines_by kind d.lines (opener_flat kind o) ∙ h.lines;
}

-- where counting starts anew

pub fresh_nodes : (n : ℕ) (kind : Kind) (last before : Option Kind) → is_fresh kind ≡ true → nodes_with n kind last before ≡ 0
unfolding counts_anew
fresh_nodes n k.Colon last before h = refl
fresh_nodes n k.Invariant last before h = refl
fresh_nodes n k.Gives last before h = refl
fresh_nodes n k.If last before h = refl
fresh_nodes n k.Return last before h = refl
fresh_nodes n k.PlusEquals last before h = refl
fresh_nodes n k.MinusEquals last before h = refl
fresh_nodes n k.Raise last before h = refl
fresh_nodes n k.Semicolon last before h = refl
fresh_nodes n k.Comma last before h = refl
fresh_nodes n _ last before h = absurd cc
