-- Cells that an issue has changed, and its faults behind them.
use Rattle.std.proofs.Common.{◌≡◌, ℕ, Bool, true, false, ◌||◌, ◌==◌, List, [], ◌∷◌, ◌++◌, Option, refl, sym, ap, subst, ◌∙◌, append_assoc}
use Rattle.std.specs.Prelude.{if◌then◌else◌, nat_eq}
use Rattle.std.specs.List.{list_any}
use Rattle.std.proofs.lemmas.Bool.{eqb-true}
use Rattle.indexmap.specs.IndexSet.{insert_key}
use Rattle.carol_syntax.specs.declared.bodies.PathDecl.{PathDecl}
use Rattle.carol_syntax.specs.declared.bodies.AtomDecl.{AtomDecl}
use Rattle.carol_program.specs.declared.steps.Part.{Part}
use Rattle.carol_names.proofs.NameLaws.{earliest-append}
use Rattle.carol_meaning.specs.declared.fault.NameKind.TheVariants.{Twice}
use Rattle.carol_meaning.specs.declared.fault.Fault.{Fault}
use Rattle.carol_meaning.specs.declared.named.Named.{Named}
use Rattle.carol_meaning.specs.declared.named.Named.TheVariants.{Cell, Members, Missing, Misused}
use Rattle.carol_meaning.specs.Faults.{earliest}
use Rattle.carol_meaning.specs.Bodies.{Around, Point, in_body, path_fault, change_faults, amount_faults, has_number, again_faults, seen_with, atom_faults, target, issue_faults, part_of, parts_of}
use Rattle.carol_resolve.specs.Issues.{HasSame}

-- ---- a set of numbers as a list of them

pub among-keys : (n : ℕ) (keys : List ℕ) → list_any (nat_eq n) keys ≡ has_number n keys
among-keys n [] = refl
among-keys n (k ∷ ks) = ap (λ b. n == k || b) (among-keys n ks)

among-append : (n k : ℕ) (keys : List ℕ) → has_number n (keys ++ k ∷ []) ≡ has_number n (k ∷ keys)
among-append n k [] = refl
among-append n k (m ∷ ms) = ap (λ b. n == m || b) (among-append n k ms) ∙ swapped (n == m) (n == k) (has_number n ms)
  where
    swapped : (a b c : Bool) → (a || (b || c)) ≡ (b || (a || c))
    swapped true true c = refl
    swapped true false c = refl
    swapped false b c = refl

or-known : (b c : Bool) → (b ≡ true → c ≡ true) → c ≡ (b || c)
or-known true c h = h refl
or-known false c h = refl

-- a number that is there already makes no difference
among-again : (n k : ℕ) (keys : List ℕ) → has_number k keys ≡ true → has_number n keys ≡ has_number n (k ∷ keys)
among-again n k keys h = or-known (n == k) (has_number n keys) (λ e. subst (λ m. has_number m keys ≡ true) (sym (eqb-true n k e)) h)

insert-if : (b : Bool) (n k : ℕ) (keys : List ℕ) → b ≡ has_number k keys → has_number n (if b then keys else keys ++ k ∷ []) ≡ has_number n (k ∷ keys)
insert-if true n k keys h = among-again n k keys (sym h)
insert-if false n k keys h = among-append n k keys

pub insert-same : (k : ℕ) (keys : List ℕ) → HasSame (insert_key nat_eq keys k) (k ∷ keys)
insert-same k keys n = insert-if (list_any (nat_eq k) keys) n k keys (among-keys k keys)

-- ---- faults behind the same cells

same-again : (xs ys : List ℕ) (path : PathDecl) (found : Named) → HasSame xs ys → again_faults xs path found ≡ again_faults ys path found
same-again xs ys path (Cell number kind) h = ap (λ b. if b then (path_fault Twice path ∷ []) else []) (h number)
same-again xs ys path (Members first count) h = refl
same-again xs ys path Missing h = refl
same-again xs ys path Misused h = refl

same-seen : (xs ys : List ℕ) (found : Named) → HasSame xs ys → HasSame (seen_with xs found) (seen_with ys found)
same-seen xs ys (Cell number kind) h = λ n. ap (λ b. n == number || b) (h n)
same-seen xs ys (Members first count) h = h
same-seen xs ys Missing h = h
same-seen xs ys Misused h = h

pub same-issue : (around : Around) (at : Point) (xs ys : List ℕ) (atoms : List AtomDecl) → HasSame xs ys → issue_faults around at xs atoms ≡ issue_faults around at ys atoms
same-issue around at xs ys [] h = refl
same-issue around at xs ys (a ∷ more) h =
    ap (λ fs. (fs ++ (change_faults a.path a.change (target around a) ++ amount_faults (in_body around at) a.change)) ++ issue_faults around at (seen_with xs (target around a)) more)
    (same-again xs ys a.path (target around a) h) ∙
    ap (λ fs. atom_faults around at ys a (target around a) ++ fs)
    (same-issue around at (seen_with xs (target around a)) (seen_with ys (target around a)) more (same-seen xs ys (target around a) h))

-- the faults of one change more
pub issue_more : (around : Around) (at : Point) (seen new_seen : List ℕ) (a : AtomDecl) (more left : List AtomDecl) (kept new whole : Option Fault) → left ≡ a ∷ more → new ≡ earliest kept (atom_faults around at seen a (target around a)) → HasSame new_seen (seen_with seen (target around a)) → earliest kept (issue_faults around at seen left) ≡ whole → earliest new (issue_faults around at new_seen more) ≡ whole
issue_more around at seen new_seen a more left kept new whole is made same so_far =
    rw (made, same-issue around at new_seen (seen_with seen (target around a)) more same, ← earliest-append kept (atom_faults around at seen a (target around a)) (issue_faults around at (seen_with seen (target around a)) more))
    (rw is at so_far)

-- one change more
pub parts_more : (around : Around) (at : Point) (a : AtomDecl) (more left : List AtomDecl) (part : Part) (parts new whole : List Part) → left ≡ a ∷ more → part ≡ part_of around at a → new ≡ parts ++ part ∷ [] → parts ++ parts_of around at left ≡ whole → new ++ parts_of around at more ≡ whole
parts_more around at a more left part parts new whole is made pushed so_far = rw (pushed, made, append_assoc) (rw is at so_far)
