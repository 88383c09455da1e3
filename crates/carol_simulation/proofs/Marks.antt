-- What one more mark makes of a reading and its rounds.
use Rattle.std.proofs.Common.{ℕ, ◌+◌, Bool, true, false, List, [], ◌∷◌, ◌++◌, refl, arith}
use Rattle.std.specs.Prelude.{ℤ, Option, Some, None, MatchBool, slice_get}
use Rattle.carol_store.specs.declared.shape.CellKind.{CellKind}
use Rattle.carol_store.specs.declared.effect.Atom.{Atom}
use Rattle.carol_store.specs.Effects.{Ascends, AscendsFrom}
use Rattle.carol_store.specs.Kinds.{CellValue}
use Rattle.carol_store.specs.Stores.{IsStore}
use Rattle.carol_formula.specs.Claim.{truth}
use Rattle.carol_formula.specs.Linear.{Linear}
use Rattle.carol_formula.specs.Value.{value_at}
use Rattle.carol_program.specs.declared.steps.Part.{Part}
use Rattle.carol_program.specs.Bodies.{Body, Query, Issue, Release, Branch, Return}
use Rattle.carol_program.specs.Rules.{Rules}
use Rattle.carol_reading.specs.Marks.{Mark, Asked, Issued, Released, Returned, HasNotReturned}
use Rattle.carol_reading.specs.Readings.{Reads, with_query, amount_for, before_atoms, effect_from, effect_of}
use Rattle.carol_reading.specs.Rounds.{IsSound, IsProper, GuardsIn}
use Rattle.carol_reading.proofs.Following.{stops}
use Rattle.carol_history.specs.Acts.{Act, Granted, Did, Refused, attempt, marks}

-- ---- rounds

-- one more query in the open round
pub proper_asked : (p : Rules) (before : List Mark) (ended : List (List CellValue)) (current : List CellValue) (guard : ℕ) (store : List CellValue) → IsProper p before ended current → GuardsIn (slice_get p.guards guard) store current → IsProper p (before ++ Asked guard store ∷ []) ended current
proper_asked p [] [] current guard store h g = (g, h)
proper_asked p [] (y ∷ ended) current guard store h g = absurd h
proper_asked p (Asked a x ∷ before) [] current guard store h g = (h.0, proper_asked p before [] current guard store h.1 g)
proper_asked p (Asked a x ∷ before) (y ∷ ended) current guard store h g = (h.0, proper_asked p before (y ∷ ended) current guard store h.1 g)
proper_asked p (Issued e ∷ before) [] current guard store h g = absurd h
proper_asked p (Issued e ∷ before) (y ∷ ended) current guard store h g = (h.0, proper_asked p before ended current guard store h.1 g)
proper_asked p (Released ∷ before) [] current guard store h g = absurd h
proper_asked p (Released ∷ before) (y ∷ ended) current guard store h g = (h.0, proper_asked p before ended current guard store h.1 g)
proper_asked p (Returned v ∷ before) [] current guard store h g = absurd h
proper_asked p (Returned v ∷ before) (y ∷ ended) current guard store h g = (h.0, proper_asked p before ended current guard store h.1 g)

-- the mark ends a round and not the operation
abbrev pub EndsRound : Mark → Type 0
EndsRound (Asked guard store) = ⊥
EndsRound (Issued effect) = Unit {0}
EndsRound Released = Unit {0}
EndsRound (Returned value) = ⊥

-- the open round ends with this store, and the next one has any
ended_by : (p : Rules) (mark : Mark) → EndsRound mark → (store current : List CellValue) → IsSound p store → IsSound p current → IsProper p (mark ∷ []) (store ∷ []) current
ended_by p (Asked guard x) ends store current h s = absurd ends
ended_by p (Issued e) ends store current h s = (h, s)
ended_by p Released ends store current h s = (h, s)
ended_by p (Returned v) ends store current h s = absurd ends

pub proper_ended : (p : Rules) (mark : Mark) → EndsRound mark → (before : List Mark) (ended : List (List CellValue)) (store current : List CellValue) → IsProper p before ended store → IsSound p current → IsProper p (before ++ mark ∷ []) (ended ++ store ∷ []) current
proper_ended p mark ends [] [] store current h s = ended_by p mark ends store current h s
proper_ended p mark ends [] (y ∷ ended) store current h s = absurd h
proper_ended p mark ends (Asked a x ∷ before) [] store current h s = (h.0, proper_ended p mark ends before [] store current h.1 s)
proper_ended p mark ends (Asked a x ∷ before) (y ∷ ended) store current h s = (h.0, proper_ended p mark ends before (y ∷ ended) store current h.1 s)
proper_ended p mark ends (Issued e ∷ before) [] store current h s = absurd h
proper_ended p mark ends (Issued e ∷ before) (y ∷ ended) store current h s = (h.0, proper_ended p mark ends before ended store current h.1 s)
proper_ended p mark ends (Released ∷ before) [] store current h s = absurd h
proper_ended p mark ends (Released ∷ before) (y ∷ ended) store current h s = (h.0, proper_ended p mark ends before ended store current h.1 s)
proper_ended p mark ends (Returned v ∷ before) [] store current h s = absurd h
proper_ended p mark ends (Returned v ∷ before) (y ∷ ended) store current h s = (h.0, proper_ended p mark ends before ended store current h.1 s)

-- ---- readings

-- the side of a branch that the test names
on_side : {first second third fourth : Type 0} (b : Bool) → MatchBool b first second → (first → third) → (second → fourth) → MatchBool b third fourth
on_side true h f g = f h
on_side false h f g = g h

-- what is read with one more mark is read without it
pub reads_before : (kinds : List CellKind) (body : Body) (f : ℕ → ℤ) (before : List Mark) (mark : Mark) → Reads kinds body f (before ++ mark ∷ []) → Reads kinds body f before
reads_before kinds body f [] mark r = stops kinds body f
reads_before kinds (Query number guard slot next) f (Asked g x ∷ before) mark r = (r.0, r.1, reads_before kinds next (with_query slot x f) before mark r.2)
reads_before kinds (Query number guard slot next) f (Issued e ∷ before) mark r = absurd r
reads_before kinds (Query number guard slot next) f (Released ∷ before) mark r = absurd r
reads_before kinds (Query number guard slot next) f (Returned v ∷ before) mark r = absurd r
reads_before kinds (Issue number parts next) f (Asked g x ∷ before) mark r = absurd r
reads_before kinds (Issue number parts next) f (Issued e ∷ before) mark r = (r.0, reads_before kinds next f before mark r.1)
reads_before kinds (Issue number parts next) f (Released ∷ before) mark r = absurd r
reads_before kinds (Issue number parts next) f (Returned v ∷ before) mark r = absurd r
reads_before kinds (Release number next) f (Asked g x ∷ before) mark r = absurd r
reads_before kinds (Release number next) f (Issued e ∷ before) mark r = absurd r
reads_before kinds (Release number next) f (Released ∷ before) mark r = reads_before kinds next f before mark r
reads_before kinds (Release number next) f (Returned v ∷ before) mark r = absurd r
reads_before kinds (Branch number test first second) f (m ∷ before) mark r =
    on_side (truth test f) r (reads_before kinds first f (m ∷ before) mark) (reads_before kinds second f (m ∷ before) mark)
reads_before kinds (Return number value) f (Asked g x ∷ before) mark r = absurd r
reads_before kinds (Return number value) f (Issued e ∷ before) mark r = absurd r
reads_before kinds (Return number value) f (Released ∷ before) mark r = absurd r
reads_before kinds (Return number value) f (Returned v ∷ []) mark r = absurd r
reads_before kinds (Return number value) f (Returned v ∷ m ∷ before) mark r = absurd r

-- a mark that may follow
abbrev pub MayFollow : List CellKind → Body → (ℕ → ℤ) → List Mark → Type 0
MayFollow kinds body f before = (mark : Mark) × Reads kinds body f (before ++ mark ∷ [])

-- before an operation has returned some mark may follow
pub follows : (kinds : List CellKind) (body : Body) (f : ℕ → ℤ) (store : List CellValue) → IsStore kinds store → (before : List Mark) → Reads kinds body f before → HasNotReturned before → MayFollow kinds body f before
follows kinds (Query number guard slot next) f store is [] r n = (Asked guard store, (refl, is, stops kinds next (with_query slot store f)))
follows kinds (Query number guard slot next) f store is (Asked g x ∷ before) r n =
    let rest = follows kinds next (with_query slot x f) store is before r.2 n in (rest.0, (r.0, r.1, rest.1))
follows kinds (Query number guard slot next) f store is (Issued e ∷ before) r n = absurd r
follows kinds (Query number guard slot next) f store is (Released ∷ before) r n = absurd r
follows kinds (Query number guard slot next) f store is (Returned v ∷ before) r n = absurd r
follows kinds (Issue number parts next) f store is [] r n = (Issued (effect_of kinds parts f), (refl, stops kinds next f))
follows kinds (Issue number parts next) f store is (Asked g x ∷ before) r n = absurd r
follows kinds (Issue number parts next) f store is (Issued e ∷ before) r n =
    let rest = follows kinds next f store is before r.1 n in (rest.0, (r.0, rest.1))
follows kinds (Issue number parts next) f store is (Released ∷ before) r n = absurd r
follows kinds (Issue number parts next) f store is (Returned v ∷ before) r n = absurd r
follows kinds (Release number next) f store is [] r n = (Released, stops kinds next f)
follows kinds (Release number next) f store is (Asked g x ∷ before) r n = absurd r
follows kinds (Release number next) f store is (Issued e ∷ before) r n = absurd r
follows kinds (Release number next) f store is (Released ∷ before) r n = follows kinds next f store is before r n
follows kinds (Release number next) f store is (Returned v ∷ before) r n = absurd r
follows kinds (Branch number test first second) f store is [] r n =
    side (truth test f) (follows kinds first f store is [] (stops kinds first f) n) (follows kinds second f store is [] (stops kinds second f) n)
  where
    side : (b : Bool) → MayFollow kinds first f [] → MayFollow kinds second f [] → (mark : Mark) × MatchBool b (Reads kinds first f (mark ∷ [])) (Reads kinds second f (mark ∷ []))
    side true x y = x
    side false x y = y
follows kinds (Branch number test first second) f store is (m ∷ before) r n =
    side (truth test f) r (λ h. follows kinds first f store is (m ∷ before) h n) (λ h. follows kinds second f store is (m ∷ before) h n)
  where
    side : (b : Bool) → MatchBool b (Reads kinds first f (m ∷ before)) (Reads kinds second f (m ∷ before)) → (Reads kinds first f (m ∷ before) → MayFollow kinds first f (m ∷ before)) → (Reads kinds second f (m ∷ before) → MayFollow kinds second f (m ∷ before)) → (mark : Mark) × MatchBool b (Reads kinds first f (m ∷ before ++ mark ∷ [])) (Reads kinds second f (m ∷ before ++ mark ∷ []))
    side true h x y = x h
    side false h x y = y h
follows kinds (Return number value) f store is [] r n = (Returned (value_at value f), refl)
follows kinds (Return number value) f store is (Asked g x ∷ before) r n = absurd r
follows kinds (Return number value) f store is (Issued e ∷ before) r n = absurd r
follows kinds (Return number value) f store is (Released ∷ before) r n = absurd r
follows kinds (Return number value) f store is (Returned v ∷ before) r n = absurd n

-- the marks of an attempt have no return
push_not_returned : (before : List Mark) (mark : Mark) → HasNotReturned before → HasNotReturned (mark ∷ []) → HasNotReturned (before ++ mark ∷ [])
push_not_returned [] mark h m = m
push_not_returned (Asked g x ∷ before) mark h m = push_not_returned before mark h m
push_not_returned (Issued e ∷ before) mark h m = push_not_returned before mark h m
push_not_returned (Released ∷ before) mark h m = push_not_returned before mark h m
push_not_returned (Returned v ∷ before) mark h m = absurd h

pub attempt_not_returned : (done : List Act) → HasNotReturned (marks (attempt done))
attempt_not_returned [] = tt
attempt_not_returned (Granted guard ∷ done) = attempt_not_returned done
attempt_not_returned (Did (Asked guard store) ∷ done) = push_not_returned (marks (attempt done)) (Asked guard store) (attempt_not_returned done) tt
attempt_not_returned (Did (Issued effect) ∷ done) = push_not_returned (marks (attempt done)) (Issued effect) (attempt_not_returned done) tt
attempt_not_returned (Did Released ∷ done) = push_not_returned (marks (attempt done)) Released (attempt_not_returned done) tt
attempt_not_returned (Did (Returned value) ∷ done) = tt
attempt_not_returned (Refused cause ∷ done) = tt

-- ---- effects

lower : (low : ℕ) (atoms : List Atom) → AscendsFrom (low + 1) atoms → AscendsFrom low atoms
lower low [] h = tt
lower low (atom ∷ atoms) h = (omega (arith, h.0), h.1)

with_first : (cell : ℕ) (o : Option Linear) (f : ℕ → ℤ) (rest : List Atom) → AscendsFrom (cell + 1) rest → AscendsFrom cell (before_atoms cell o f rest)
with_first cell None f rest h = lower cell rest h
with_first cell (Some amount) f rest h = (omega arith, h)

ascends : (cell : ℕ) (kinds : List CellKind) (parts : List Part) (f : ℕ → ℤ) → AscendsFrom cell (effect_from cell kinds parts f)
ascends cell [] parts f = tt
ascends cell (kind ∷ kinds) parts f = with_first cell (amount_for cell parts) f (effect_from (cell + 1) kinds parts f) (ascends (cell + 1) kinds parts f)

-- an effect that is issued has its atoms in order
pub issued_ascends : (kinds : List CellKind) (body : Body) (f : ℕ → ℤ) (before : List Mark) (effect : List Atom) → Reads kinds body f (before ++ Issued effect ∷ []) → Ascends effect
issued_ascends kinds (Query number guard slot next) f [] effect r = absurd r
issued_ascends kinds (Query number guard slot next) f (Asked g x ∷ before) effect r = issued_ascends kinds next (with_query slot x f) before effect r.2
issued_ascends kinds (Query number guard slot next) f (Issued e ∷ before) effect r = absurd r
issued_ascends kinds (Query number guard slot next) f (Released ∷ before) effect r = absurd r
issued_ascends kinds (Query number guard slot next) f (Returned v ∷ before) effect r = absurd r
issued_ascends kinds (Issue number parts next) f [] effect r = rw r.0 (ascends 0 kinds parts f)
issued_ascends kinds (Issue number parts next) f (Asked g x ∷ before) effect r = absurd r
issued_ascends kinds (Issue number parts next) f (Issued e ∷ before) effect r = issued_ascends kinds next f before effect r.1
issued_ascends kinds (Issue number parts next) f (Released ∷ before) effect r = absurd r
issued_ascends kinds (Issue number parts next) f (Returned v ∷ before) effect r = absurd r
issued_ascends kinds (Release number next) f [] effect r = absurd r
issued_ascends kinds (Release number next) f (Asked g x ∷ before) effect r = absurd r
issued_ascends kinds (Release number next) f (Issued e ∷ before) effect r = absurd r
issued_ascends kinds (Release number next) f (Released ∷ before) effect r = issued_ascends kinds next f before effect r
issued_ascends kinds (Release number next) f (Returned v ∷ before) effect r = absurd r
issued_ascends kinds (Branch number test first second) f [] effect r =
    side (truth test f) r (issued_ascends kinds first f [] effect) (issued_ascends kinds second f [] effect)
  where
    side : {a b : Type 0} (t : Bool) → MatchBool t a b → (a → Ascends effect) → (b → Ascends effect) → Ascends effect
    side true h x y = x h
    side false h x y = y h
issued_ascends kinds (Branch number test first second) f (m ∷ before) effect r =
    side (truth test f) r (issued_ascends kinds first f (m ∷ before) effect) (issued_ascends kinds second f (m ∷ before) effect)
  where
    side : {a b : Type 0} (t : Bool) → MatchBool t a b → (a → Ascends effect) → (b → Ascends effect) → Ascends effect
    side true h x y = x h
    side false h x y = y h
issued_ascends kinds (Return number value) f [] effect r = absurd r
issued_ascends kinds (Return number value) f (Asked g x ∷ before) effect r = absurd r
issued_ascends kinds (Return number value) f (Issued e ∷ before) effect r = absurd r
issued_ascends kinds (Return number value) f (Released ∷ before) effect r = absurd r
issued_ascends kinds (Return number value) f (Returned v ∷ []) effect r = absurd r
issued_ascends kinds (Return number value) f (Returned v ∷ m ∷ before) effect r = absurd r
