-- The stores that a session asked for are those of its queries.
use Rattle.std.proofs.Common.{ℕ, Bool, true, false, eqb, List, [], ◌∷◌, ◌++◌}
use Rattle.std.specs.Prelude.{if◌then◌else◌}
use Rattle.carol_reading.specs.Marks.{Mark, Asked, Issued, Released, Returned}
use Rattle.carol_event.specs.declared.event.Event.{Event}
use Rattle.carol_event.specs.declared.event.Event.TheVariants.{Grant, Query, Issue, Release, Return, Refuse, Deliver, Cut, Join}
use Rattle.carol_event.specs.Numbers.{Each, HasNumbers, IsValue}
use Rattle.carol_history.specs.Acts.{Act, Granted, Did, Refused, acts, attempt, marks}
use Rattle.carol_audit.proofs.Marked.{AskedFit}

abbrev ActsFit : List Act → Type 0
ActsFit [] = Unit {0}
ActsFit (Granted guard ∷ done) = ActsFit done
ActsFit (Did (Asked guard store) ∷ done) = Each IsValue store × ActsFit done
ActsFit (Did (Issued effect) ∷ done) = ActsFit done
ActsFit (Did Released ∷ done) = ActsFit done
ActsFit (Did (Returned value) ∷ done) = ActsFit done
ActsFit (Refused cause ∷ done) = ActsFit done

-- with one more act, if it is the session's
one_more : (b : Bool) (act : Act) (done : List Act) → ActsFit (act ∷ done) → ActsFit done → ActsFit (if b then act ∷ done else done)
one_more true act done h k = h
one_more false act done h k = k

acts_fit : (session : ℕ) (past : List Event) → Each HasNumbers past → ActsFit (acts session past)
acts_fit session [] h = tt
acts_fit session (Grant s g ∷ past) h = let r = acts_fit session past h.1 in one_more (eqb s session) (Granted g) (acts session past) r r
acts_fit session (Query s g x ∷ past) h = let r = acts_fit session past h.1 in one_more (eqb s session) (Did (Asked g x)) (acts session past) (h.0.1, r) r
acts_fit session (Issue s i e ∷ past) h = let r = acts_fit session past h.1 in one_more (eqb s session) (Did (Issued e)) (acts session past) r r
acts_fit session (Release s ∷ past) h = let r = acts_fit session past h.1 in one_more (eqb s session) (Did Released) (acts session past) r r
acts_fit session (Return s v ∷ past) h = let r = acts_fit session past h.1 in one_more (eqb s session) (Did (Returned v)) (acts session past) r r
acts_fit session (Refuse s c ∷ past) h = let r = acts_fit session past h.1 in one_more (eqb s session) (Refused c) (acts session past) r r
acts_fit session (Deliver q r i ∷ past) h = acts_fit session past h.1
acts_fit session (Cut a b ∷ past) h = acts_fit session past h.1
acts_fit session (Join a b ∷ past) h = acts_fit session past h.1

asked_push : (before : List Mark) (mark : Mark) → AskedFit before → AskedFit (mark ∷ []) → AskedFit (before ++ mark ∷ [])
asked_push [] mark h m = m
asked_push (Asked g x ∷ before) mark h m = (h.0, asked_push before mark h.1 m)
asked_push (Issued e ∷ before) mark h m = asked_push before mark h m
asked_push (Released ∷ before) mark h m = asked_push before mark h m
asked_push (Returned v ∷ before) mark h m = asked_push before mark h m

attempt_fits : (done : List Act) → ActsFit done → AskedFit (marks (attempt done))
attempt_fits [] h = tt
attempt_fits (Granted guard ∷ done) h = attempt_fits done h
attempt_fits (Did (Asked guard store) ∷ done) h = asked_push (marks (attempt done)) (Asked guard store) (attempt_fits done h.1) (h.0, tt)
attempt_fits (Did (Issued effect) ∷ done) h = asked_push (marks (attempt done)) (Issued effect) (attempt_fits done h) tt
attempt_fits (Did Released ∷ done) h = asked_push (marks (attempt done)) Released (attempt_fits done h) tt
attempt_fits (Did (Returned value) ∷ done) h = tt
attempt_fits (Refused cause ∷ done) h = tt

-- in the attempt of a session
pub asked_fit : (session : ℕ) (past : List Event) → Each HasNumbers past → AskedFit (marks (attempt (acts session past)))
asked_fit session past h = attempt_fits (acts session past) (acts_fit session past h)
