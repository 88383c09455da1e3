-- Turns make one history.
use Rattle.std.proofs.Common.{◌≡◌, ℕ, zero, suc, ◌+◌, ◌-◌, List, ◌∷◌, length, inl, inr, sym, subst, ◌∙◌, ap, zero-add, suc-add, arith}
use Rattle.std.proofs.lemmas.Bool.{cases_lt}
use Rattle.carol_program.specs.Rules.{Rules}
use Rattle.carol_program.specs.declared.scenes.Scene.{Scene}
use Rattle.carol_event.specs.declared.event.Cause.TheVariants.{Barred, Behind}
use Rattle.carol_event.specs.declared.event.Event.{Event}
use Rattle.carol_event.specs.declared.event.Event.TheVariants as event
use Rattle.carol_history.specs.Acts.{UnderWay}
use Rattle.carol_history.specs.Forced.{Forced}
use Rattle.carol_history.specs.Laws.{ForcedIsSingle}
use Rattle.carol_report.specs.Turns.{Goes, IsOver, SitsOut, Rounds, Turn, TurnOfEach, Turns}

-- who goes on has a command under way
way_of : (p : Rules) (scene : Scene) (past : List Event) (s : ℕ) (given : Event) → Forced p scene s given past → UnderWay scene s past
way_of p scene past s (event.Grant t g) f = subst (λ n. UnderWay scene n past) f.0 f.1.next.way
way_of p scene past s (event.Query t g x) f = subst (λ n. UnderWay scene n past) f.0 f.1.next.way
way_of p scene past s (event.Issue t i e) f = subst (λ n. UnderWay scene n past) f.0 f.1.next.way
way_of p scene past s (event.Release t) f = subst (λ n. UnderWay scene n past) f.0 f.1.way
way_of p scene past s (event.Return t v) f = subst (λ n. UnderWay scene n past) f.0 f.1.way
way_of p scene past s (event.Refuse t (Barred u h)) f = subst (λ n. UnderWay scene n past) f.0 f.1.next.way
way_of p scene past s (event.Refuse t (Behind i)) f = subst (λ n. UnderWay scene n past) f.0 f.1.missing.next.way
way_of p scene past s (event.Deliver q r i) f = f.missing.next.way
way_of p scene past s (event.Cut a b) f = absurd f.0
way_of p scene past s (event.Join a b) f = absurd f.0

goes_or_not : (p : Rules) (scene : Scene) (past : List Event) (s : ℕ) (one other : List Event) → Goes p scene s past one → SitsOut scene s past other → ⊥
goes_or_not p scene past s one other goes rests = elim rests.0 [
  | inl none ↦ none (way_of p scene past s goes.0 goes.1)
  | inr full ↦ absurd (omega (arith, goes.2, full))
]

module _ (p : Rules) (scene : Scene) (single : (past : List Event) → ForcedIsSingle p scene past) where
  turn_single : (s : ℕ) (past one other : List Event) → Turn p scene s past one → Turn p scene s past other → one ≡ other
  turn_single s past one other (inl a) (inl b) = a.3 ∙ ap (λ (e : Event). e ∷ past) (single past s a.0 b.0 a.1 b.1) ∙ sym b.3
  turn_single s past one other (inl a) (inr b) = absurd (goes_or_not p scene past s one other a b)
  turn_single s past one other (inr a) (inl b) = absurd (goes_or_not p scene past s other one b a)
  turn_single s past one other (inr a) (inr b) = a.1 ∙ sym b.1

  each_single : (n : ℕ) (past one other : List Event) → TurnOfEach p scene n past one → TurnOfEach p scene n past other → one ≡ other
  each_single zero past one other a b = a ∙ sym b
  each_single (suc n) past one other a b =
      let same : b.0 ≡ a.0 = each_single n past b.0 a.0 b.1 a.1
      in turn_single n a.0 one other a.2 (subst (λ (mid : List Event). Turn p scene n mid other) same b.2)

  rounds_single : (n : ℕ) (past one other : List Event) → Rounds p scene n past one → Rounds p scene n past other → one ≡ other
  rounds_single zero past one other a b = a ∙ sym b
  rounds_single (suc n) past one other a b =
      let same : b.0 ≡ a.0 = rounds_single n past b.0 a.0 b.1 a.1
      in each_single (length scene.sessions) a.0 one other a.2 (subst (λ (mid : List Event). TurnOfEach p scene (length scene.sessions) mid other) same b.2)

  -- where it is over, nobody goes on
  turn_stays : (s : ℕ) (past new : List Event) → IsOver scene past → Turn p scene s past new → new ≡ past
  turn_stays s past new (inl none) (inl goes) = absurd (none s (way_of p scene past s goes.0 goes.1))
  turn_stays s past new (inr full) (inl goes) = absurd (omega (arith, goes.2, full))
  turn_stays s past new over (inr rests) = rests.1

  each_stays : (n : ℕ) (past new : List Event) → IsOver scene past → TurnOfEach p scene n past new → new ≡ past
  each_stays zero past new over h = h
  each_stays (suc n) past new over h =
      let same : h.0 ≡ past = each_stays n past h.0 over h.1
      in turn_stays n past new over (subst (λ (mid : List Event). Turn p scene n mid new) same h.2)

  -- so that further rounds make no difference
  rounds_stay : (n more : ℕ) (past one other : List Event) → IsOver scene one → Rounds p scene n past one → Rounds p scene (more + n) past other → other ≡ one
  rounds_stay n zero past one other over a b = rounds_single n past other one (rw zero-add at b) a
  rounds_stay n (suc more) past one other over a b =
      let c : Rounds p scene (suc (more + n)) past other = rw suc-add at b
      in let same : c.0 ≡ one = rounds_stay n more past one c.0 over a c.1
      in each_stays (length scene.sessions) one other over (subst (λ (mid : List Event). TurnOfEach p scene (length scene.sessions) mid other) same c.2)

  pub turns_single : (past one other : List Event) → Turns p scene past one → Turns p scene past other → one ≡ other
  turns_single past one other a b = elim (cases_lt a.rounds b.rounds) [
    | inl low ↦ sym (rounds_stay a.rounds (b.rounds - a.rounds) past one other a.over a.made (subst (λ (n : ℕ). Rounds p scene n past other) (omega arith) b.made))
    | inr high ↦ rounds_stay b.rounds (a.rounds - b.rounds) past other one b.over b.made (subst (λ (n : ℕ). Rounds p scene n past one) (omega arith) a.made)
  ]
