-- Trees that wait to be counted.
use Rattle.std.proofs.Common.{◌≡◌, ℕ, ◌+◌, ◌<◌, ◌≤◌, List, [], ◌∷◌, ◌++◌, sym, ◌∙◌, ap, arith, append_assoc}
use Rattle.std.specs.Prelude.{ℤ}
use Rattle.std.specs.Borrow.{Bor}
use Rattle.carol_cert.specs.declared.step.RowStep.{RowStep}
use Rattle.carol_cert.specs.Proof.{Proof, Absurd, Part, Split, Branch, Rows, Unclosed, proof_at, proof_of, rank_at, rank_of}
use Rattle.carol_cert.specs.Counts.{turns_of}
use Rattle.carol_cert.specs.declared.tree.Refutation.{Refutation, fold-roll-Refutation}
use Rattle.carol_cert.specs.declared.tree.Refutation.TheOpen.{Refutation-F}
use Rattle.carol_cert.specs.declared.tree.Refutation.TheVariants as shape

abbrev pub turns_waiting : List (Bor Refutation) → ℕ
turns_waiting [] = 0
turns_waiting (t ∷ ts) = turns_of (proof_of t.now) + turns_waiting ts

abbrev pub rank_waiting : List (Bor Refutation) → ℕ
rank_waiting [] = 0
rank_waiting (t ∷ ts) = rank_of t.now + rank_waiting ts

turns_waiting-append : (ts us : List (Bor Refutation)) → turns_waiting (ts ++ us) ≡ turns_waiting ts + turns_waiting us
turns_waiting-append [] us = omega arith
turns_waiting-append (t ∷ ts) us = omega (arith, turns_waiting-append ts us)

rank_waiting-append : (ts us : List (Bor Refutation)) → rank_waiting (ts ++ us) ≡ rank_waiting ts + rank_waiting us
rank_waiting-append [] us = omega arith
rank_waiting-append (t ∷ ts) us = omega (arith, rank_waiting-append ts us)

-- the tree takes so many turns of its own, and the others are in its parts
pub record Opens (t : Refutation) (own : ℕ) (parts : List (Bor Refutation)) : Type 0 where
  pub turns : turns_of (proof_of t) ≡ own + turns_waiting parts
  pub rank : rank_waiting parts < rank_of t

-- ---- one level of a tree

proof_along : (t u : Refutation) (p : Proof) → t ≡ u → proof_of u ≡ p → turns_of (proof_of t) ≡ turns_of p
proof_along t u p e f = ap (λ v. turns_of (proof_of v)) e ∙ ap turns_of f

pub proof_of-Absurd : (at : ℕ) → proof_of (shape.Absurd at) ≡ Absurd at
proof_of-Absurd at = ap proof_of (sym (shape.rolls-Absurd at)) ∙ fold-roll-Refutation Proof proof_at (Refutation-F.Absurd at)

pub opens_absurd : (t : Refutation) (at : ℕ) → t ≡ shape.Absurd at → Opens t 1 []
opens_absurd t at e =
    let turns : turns_of (proof_of t) ≡ 1 = proof_along t (shape.Absurd at) (Absurd at) e (proof_of-Absurd at) in
    let rank : rank_of t ≡ 1 = ap rank_of (e ∙ sym (shape.rolls-Absurd at)) ∙ fold-roll-Refutation ℕ rank_at (Refutation-F.Absurd at) in
    record { turns = omega arith; rank = omega arith }

pub opens_rows : (t : Refutation) (steps : List RowStep) → t ≡ shape.Rows steps → Opens t 1 []
opens_rows t steps e =
    let turns : turns_of (proof_of t) ≡ 1 = proof_along t (shape.Rows steps) (Rows steps) e (ap proof_of (sym (shape.rolls-Rows steps)) ∙ fold-roll-Refutation Proof proof_at (Refutation-F.Rows steps)) in
    let rank : rank_of t ≡ 1 = ap rank_of (e ∙ sym (shape.rolls-Rows steps)) ∙ fold-roll-Refutation ℕ rank_at (Refutation-F.Rows steps) in
    record { turns = omega arith; rank = omega arith }

pub proof_of-Unclosed : proof_of shape.Unclosed ≡ Unclosed
proof_of-Unclosed = ap proof_of (sym shape.rolls-Unclosed) ∙ fold-roll-Refutation Proof proof_at Refutation-F.Unclosed

pub opens_unclosed : (t : Refutation) → t ≡ shape.Unclosed → Opens t 0 []
opens_unclosed t e =
    let turns : turns_of (proof_of t) ≡ 0 = proof_along t shape.Unclosed Unclosed e proof_of-Unclosed in
    let rank : rank_of t ≡ 1 = ap rank_of (e ∙ sym shape.rolls-Unclosed) ∙ fold-roll-Refutation ℕ rank_at Refutation-F.Unclosed in
    record { turns = omega arith; rank = omega arith }

pub opens_part : (t : Refutation) (at : ℕ) (rest : Refutation) (r : Bor Refutation) → t ≡ shape.Part at rest → r.now ≡ rest → Opens t 0 (r ∷ [])
opens_part t at rest r e n =
    let turns : turns_of (proof_of t) ≡ turns_of (proof_of rest) = proof_along t (shape.Part at rest) (Part at (proof_of rest)) e (ap proof_of (sym (shape.rolls-Part at rest)) ∙ fold-roll-Refutation Proof proof_at (Refutation-F.Part at rest)) in
    let rank : rank_of t ≡ rank_of rest + 1 = ap rank_of (e ∙ sym (shape.rolls-Part at rest)) ∙ fold-roll-Refutation ℕ rank_at (Refutation-F.Part at rest) in
    record { turns = omega (arith, ap (λ u. turns_of (proof_of u)) n); rank = omega (arith, ap rank_of n) }

pub opens_split : (t : Refutation) (at : ℕ) (left right : Refutation) (l r : Bor Refutation) → t ≡ shape.Split at left right → l.now ≡ left → r.now ≡ right → Opens t 0 (l ∷ r ∷ [])
opens_split t at left right l r e n m =
    let turns : turns_of (proof_of t) ≡ turns_of (proof_of left) + turns_of (proof_of right) =
    proof_along t (shape.Split at left right) (Split at (proof_of left) (proof_of right)) e (ap proof_of (sym (shape.rolls-Split at left right)) ∙ fold-roll-Refutation Proof proof_at (Refutation-F.Split at left right))
    in
    let rank : rank_of t ≡ rank_of left + rank_of left + rank_of right + 1 = ap rank_of (e ∙ sym (shape.rolls-Split at left right)) ∙ fold-roll-Refutation ℕ rank_at (Refutation-F.Split at left right) in
    record {
      turns = omega (arith, ap (λ u. turns_of (proof_of u)) n, ap (λ u. turns_of (proof_of u)) m);
      rank = omega (arith, ap rank_of n, ap rank_of m);
    }

pub opens_branch : (t : Refutation) (v : ℕ) (k : ℤ) (left right : Refutation) (l r : Bor Refutation) → t ≡ shape.Branch v k left right → l.now ≡ left → r.now ≡ right → Opens t 1 (l ∷ r ∷ [])
opens_branch t v k left right l r e n m =
    let turns : turns_of (proof_of t) ≡ turns_of (proof_of left) + turns_of (proof_of right) + 1 =
    proof_along t (shape.Branch v k left right) (Branch v k (proof_of left) (proof_of right)) e (ap proof_of (sym (shape.rolls-Branch v k left right)) ∙ fold-roll-Refutation Proof proof_at (Refutation-F.Branch v k left right))
    in
    let rank : rank_of t ≡ rank_of left + rank_of left + rank_of right + 1 = ap rank_of (e ∙ sym (shape.rolls-Branch v k left right)) ∙ fold-roll-Refutation ℕ rank_at (Refutation-F.Branch v k left right) in
    record {
      turns = omega (arith, ap (λ u. turns_of (proof_of u)) n, ap (λ u. turns_of (proof_of u)) m);
      rank = omega (arith, ap rank_of n, ap rank_of m);
    }

-- ---- one tree counted

-- a tree of the list is exchanged for its parts
pub record Counted (old : List (Bor Refutation)) (own : ℕ) (new : List (Bor Refutation)) : Type 0 where
  pub turns : own + turns_waiting new ≡ turns_waiting old
  pub rank : rank_waiting new < rank_waiting old

pub counted : (old rest new : List (Bor Refutation)) (t : Bor Refutation) (own : ℕ) (parts : List (Bor Refutation)) → old ≡ rest ++ t ∷ [] → new ≡ rest ++ parts → Opens t.now own parts → Counted old own new
counted old rest new t own parts e f o =
    let turns = o.turns in
    let rank = o.rank in
    record {
      turns = omega (arith, ap turns_waiting e, ap turns_waiting f, turns_waiting-append rest (t ∷ []), turns_waiting-append rest parts, turns);
      rank = omega (arith, ap rank_waiting e, ap rank_waiting f, rank_waiting-append rest (t ∷ []), rank_waiting-append rest parts, rank);
    }

pub some_turn : (old rest : List (Bor Refutation)) (t : Bor Refutation) → old ≡ rest ++ t ∷ [] → 1 ≤ turns_of (proof_of t.now) → 1 ≤ turns_waiting old
some_turn old rest t e h = omega (arith, ap turns_waiting e, turns_waiting-append rest (t ∷ []), h)

pub branch_turns : (t : Refutation) (v : ℕ) (k : ℤ) (left right : Refutation) → t ≡ shape.Branch v k left right → 1 ≤ turns_of (proof_of t)
branch_turns t v k left right e =
    let turns : turns_of (proof_of t) ≡ turns_of (proof_of left) + turns_of (proof_of right) + 1 =
    proof_along t (shape.Branch v k left right) (Branch v k (proof_of left) (proof_of right)) e (ap proof_of (sym (shape.rolls-Branch v k left right)) ∙ fold-roll-Refutation Proof proof_at (Refutation-F.Branch v k left right))
    in
    omega arith

pub both_pushed : (rest some new : List (Bor Refutation)) (a b : Bor Refutation) → some ≡ rest ++ a ∷ [] → new ≡ some ++ b ∷ [] → new ≡ rest ++ (a ∷ b ∷ [])
both_pushed rest some new a b e f = f ∙ ap (λ ts. ts ++ b ∷ []) e ∙ append_assoc rest (a ∷ []) (b ∷ [])
