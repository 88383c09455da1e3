-- A session goes on with one event at most.
use Rattle.std.proofs.Common.{◌≡◌, ℕ, ◌<◌, true, false, List, ℤ, sym, subst, ap, ◌∙◌, inl, inr, arith}
use Rattle.std.proofs.lemmas.Bool.{cases_lt}
use Rattle.carol_store.specs.declared.effect.Atom.{Atom}
use Rattle.carol_store.specs.Kinds.{CellValue}
use Rattle.carol_program.specs.Order.{IsBefore}
use Rattle.carol_program.specs.Rules.{Rules}
use Rattle.carol_program.specs.declared.scenes.Scene.{Scene}
use Rattle.carol_program.specs.declared.scenes.SessionPlan.{SessionPlan}
use Rattle.carol_reading.specs.Marks.{Mark, Asked, Issued, Released, Returned}
use Rattle.carol_event.specs.declared.event.Cause.TheVariants.{Barred, Behind}
use Rattle.carol_event.specs.declared.event.Event.{Event}
use Rattle.carol_event.specs.declared.event.Event.TheVariants.{Grant, Query, Issue, Release, Return, Refuse, Deliver, Cut, Join}
use Rattle.carol_history.specs.Acts.{Next, is_live}
use Rattle.carol_history.specs.Forced.{Forced, IsFetch}
use Rattle.carol_history.specs.Journals.{effect_at, is_held, local}
use Rattle.carol_history.specs.Legal.{Admits, IsSettled, Lacks, MayGrant, MayIssue, MayQuery, MayRefuseBarred, MayRefuseBehind}
use Rattle.carol_history.specs.Links.{is_linked}
use Rattle.carol_history.proofs.Determined.{same_next, same_plan}

clash : true ≡ false → ⊥
clash e = cc

module _ (p : Rules) (scene : Scene) (s : ℕ) (past : List Event) where
  -- ---- what can't be together

  -- what is live is not fresh
  grant_query : (g h : ℕ) (x : List CellValue) → MayGrant p scene s g past → MayQuery p scene s h x past → ⊥
  grant_query g h x grant query =
      let same : g ≡ h = same_next p scene s past (Asked g grant.store) (Asked h x) grant.next query.next
      in clash (sym (subst (λ u. is_live s u past ≡ true) (sym same) query.live) ∙ grant.fresh)

  query_lacks : (g i : ℕ) (x : List CellValue) → MayQuery p scene s g x past → Lacks p scene s i past → ⊥
  query_lacks g i x query lacks =
      let same : g ≡ lacks.guard = same_next p scene s past (Asked g x) (Asked lacks.guard lacks.store) query.next lacks.next
      in clash (sym (subst (λ u. is_live s u past ≡ true) same query.live) ∙ lacks.fresh)

  -- what is missing is not settled
  not_settled : (i : ℕ) (lacks : Lacks p scene s i past) (guard replica : ℕ) → guard ≡ lacks.guard → replica ≡ lacks.next.way.plan.replica → IsSettled p scene replica guard i past → ⊥
  not_settled i lacks guard replica e f (inl held) = clash (sym (subst (λ r. is_held scene.sessions r i past ≡ true) f held) ∙ lacks.lacking)
  not_settled i lacks guard replica e f (inr within) = lacks.outside (subst (λ u. Admits p u (effect_at i past)) e within)

  home : (one other : Mark) (a : Next p scene s one past) (b : Next p scene s other past) → a.way.plan.replica ≡ b.way.plan.replica
  home one other a b = ap (λ (q : SessionPlan). q.replica) (same_plan scene s past a.way b.way)

  grant_lacks : (g i : ℕ) → MayGrant p scene s g past → Lacks p scene s i past → ⊥
  grant_lacks g i grant lacks =
      not_settled i lacks g grant.next.way.plan.replica
      (same_next p scene s past (Asked g grant.store) (Asked lacks.guard lacks.store) grant.next lacks.next)
      (home (Asked g grant.store) (Asked lacks.guard lacks.store) grant.next lacks.next)
      (grant.settled i lacks.inside)

  not_below : (i j : ℕ) → Lacks p scene s i past → Lacks p scene s j past → i < j → ⊥
  not_below i j low high below =
      not_settled i low high.guard high.next.way.plan.replica
      (same_next p scene s past (Asked high.guard high.store) (Asked low.guard low.store) high.next low.next)
      (home (Asked high.guard high.store) (Asked low.guard low.store) high.next low.next)
      (high.lowest i below)

  same_entry : (i j : ℕ) → Lacks p scene s i past → Lacks p scene s j past → i ≡ j
  same_entry i j one other = elim (cases_lt i j) [
    | inl h ↦ absurd (not_below i j one other h)
    | inr h ↦ elim (cases_lt j i) [
      | inl g ↦ absurd (not_below j i other one g)
      | inr g ↦ omega arith
    ]
  ]

  -- an entry that can be fetched is not out of reach
  fetch_behind : (q r i j : ℕ) → IsFetch p scene s q r i past → MayRefuseBehind p scene s j past → ⊥
  fetch_behind q r i j fetch behind =
      let same : i ≡ j = same_entry i j fetch.missing behind.missing
      in let at : r ≡ behind.missing.next.way.plan.replica = fetch.home ∙ home (Asked fetch.missing.guard fetch.missing.store) (Asked behind.missing.guard behind.missing.store) fetch.missing.next behind.missing.next
      in let held : is_held scene.sessions q j past ≡ true = subst (λ n. is_held scene.sessions q n past ≡ true) same fetch.held
      in clash (sym held ∙ behind.nowhere q fetch.from (subst (λ n. is_linked q n past ≡ true) at fetch.linked))

  fetch_not_below : (q r i a b j : ℕ) → IsFetch p scene s q r i past → IsFetch p scene s a b j past → q < a → ⊥
  fetch_not_below q r i a b j low high below =
      let same : i ≡ j = same_entry i j low.missing high.missing
      in let at : r ≡ b = low.home ∙ home (Asked low.missing.guard low.missing.store) (Asked high.missing.guard high.missing.store) low.missing.next high.missing.next ∙ sym high.home
      in let held : is_held scene.sessions q j past ≡ true = subst (λ n. is_held scene.sessions q n past ≡ true) same low.held
      in clash (sym held ∙ high.lowest q below (subst (λ n. is_linked q n past ≡ true) at low.linked))

  same_fetch : (q r i a b j : ℕ) → IsFetch p scene s q r i past → IsFetch p scene s a b j past → Deliver q r i ≡ Deliver a b j
  same_fetch q r i a b j one other =
      let same : i ≡ j = same_entry i j one.missing other.missing
      in let at : r ≡ b = one.home ∙ home (Asked one.missing.guard one.missing.store) (Asked other.missing.guard other.missing.store) one.missing.next other.missing.next ∙ sym other.home
      in let from : q ≡ a = elim (cases_lt q a) [
        | inl h ↦ absurd (fetch_not_below q r i a b j one other h)
        | inr h ↦ elim (cases_lt a q) [
          | inl g ↦ absurd (fetch_not_below a b j q r i other one g)
          | inr g ↦ omega arith
        ]
      ]
      in cc

  -- what is barred is not free
  issue_barred : (i t g : ℕ) (e : List Atom) → MayIssue p scene s i e past → MayRefuseBarred p scene s t g past → ⊥
  issue_barred i t g e issue barred =
      let same : e ≡ barred.effect = same_next p scene s past (Issued e) (Issued barred.effect) issue.next barred.next
      in barred.barring (subst (Admits p g) same (issue.free.each t g barred.other barred.live))

  barred_not_before : (t g u h : ℕ) → MayRefuseBarred p scene s t g past → MayRefuseBarred p scene s u h past → IsBefore t g u h → ⊥
  barred_not_before t g u h low high before =
      let same : high.effect ≡ low.effect = same_next p scene s past (Issued high.effect) (Issued low.effect) high.next low.next
      in low.barring (subst (Admits p g) same (high.lowest t g low.other low.live before))

  same_barred : (t g u h : ℕ) → MayRefuseBarred p scene s t g past → MayRefuseBarred p scene s u h past → (t ≡ u) × (g ≡ h)
  same_barred t g u h one other = elim (cases_lt t u) [
    | inl low ↦ absurd (barred_not_before t g u h one other (inl low))
    | inr k ↦ elim (cases_lt u t) [
      | inl high ↦ absurd (barred_not_before u h t g other one (inl high))
      | inr l ↦ let e : t ≡ u = omega arith in elim (cases_lt g h) [
        | inl low ↦ absurd (barred_not_before t g u h one other (inr (e, low)))
        | inr m ↦ elim (cases_lt h g) [
          | inl high ↦ absurd (barred_not_before u h t g other one (inr (sym e, high)))
          | inr n ↦ (e, omega arith)
        ]
      ]
    ]
  ]

  same_query : (g h : ℕ) (x y : List CellValue) → MayQuery p scene s g x past → MayQuery p scene s h y past → (g ≡ h) × (x ≡ y)
  same_query g h x y one other =
      let at : one.next.way.plan.replica ≡ other.next.way.plan.replica = home (Asked g x) (Asked h y) one.next other.next
      in (same_next p scene s past (Asked g x) (Asked h y) one.next other.next, one.seen ∙ ap (λ r. local p scene r past) at ∙ sym other.seen)

  -- ---- one event after another
  from_grant : (g : ℕ) → MayGrant p scene s g past → (other : Event) → Forced p scene s other past → Grant s g ≡ other
  from_grant g k (Grant t h) f = let q : g ≡ h = same_next p scene s past (Asked g k.store) (Asked h (subst (λ n. MayGrant p scene n h past) f.0 f.1).store) k.next (subst (λ n. MayGrant p scene n h past) f.0 f.1).next in let e : t ≡ s = f.0 in cc
  from_grant g k (Query t h y) f = absurd (grant_query g h y k (subst (λ n. MayQuery p scene n h y past) f.0 f.1))
  from_grant g k (Issue t j d) f = absurd (same_next p scene s past (Asked g k.store) (Issued d) k.next (subst (λ n. MayIssue p scene n j d past) f.0 f.1).next)
  from_grant g k (Release t) f = absurd (same_next p scene s past (Asked g k.store) Released k.next (subst (λ n. Next p scene n Released past) f.0 f.1))
  from_grant g k (Return t w) f = absurd (same_next p scene s past (Asked g k.store) (Returned w) k.next (subst (λ n. Next p scene n (Returned w) past) f.0 f.1))
  from_grant g k (Refuse t (Barred u h)) f = absurd (same_next p scene s past (Asked g k.store) (Issued (subst (λ n. MayRefuseBarred p scene n u h past) f.0 f.1).effect) k.next (subst (λ n. MayRefuseBarred p scene n u h past) f.0 f.1).next)
  from_grant g k (Refuse t (Behind j)) f = absurd (grant_lacks g j k (subst (λ n. MayRefuseBehind p scene n j past) f.0 f.1).missing)
  from_grant g k (Deliver a b j) f = absurd (grant_lacks g j k f.missing)
  from_grant g k (Cut a b) f = absurd f.0
  from_grant g k (Join a b) f = absurd f.0

  from_query : (g : ℕ) (x : List CellValue) → MayQuery p scene s g x past → (other : Event) → Forced p scene s other past → Query s g x ≡ other
  from_query g x k (Grant t h) f = absurd (grant_query h g x (subst (λ n. MayGrant p scene n h past) f.0 f.1) k)
  from_query g x k (Query t h y) f = let q = same_query g h x y k (subst (λ n. MayQuery p scene n h y past) f.0 f.1) in let e : t ≡ s = f.0 in cc
  from_query g x k (Issue t j d) f = absurd (same_next p scene s past (Asked g x) (Issued d) k.next (subst (λ n. MayIssue p scene n j d past) f.0 f.1).next)
  from_query g x k (Release t) f = absurd (same_next p scene s past (Asked g x) Released k.next (subst (λ n. Next p scene n Released past) f.0 f.1))
  from_query g x k (Return t w) f = absurd (same_next p scene s past (Asked g x) (Returned w) k.next (subst (λ n. Next p scene n (Returned w) past) f.0 f.1))
  from_query g x k (Refuse t (Barred u h)) f = absurd (same_next p scene s past (Asked g x) (Issued (subst (λ n. MayRefuseBarred p scene n u h past) f.0 f.1).effect) k.next (subst (λ n. MayRefuseBarred p scene n u h past) f.0 f.1).next)
  from_query g x k (Refuse t (Behind j)) f = absurd (query_lacks g j x k (subst (λ n. MayRefuseBehind p scene n j past) f.0 f.1).missing)
  from_query g x k (Deliver a b j) f = absurd (query_lacks g j x k f.missing)
  from_query g x k (Cut a b) f = absurd f.0
  from_query g x k (Join a b) f = absurd f.0

  from_issue : (i : ℕ) (e : List Atom) → MayIssue p scene s i e past → (other : Event) → Forced p scene s other past → Issue s i e ≡ other
  from_issue i e k (Grant t h) f = absurd (same_next p scene s past (Issued e) (Asked h (subst (λ n. MayGrant p scene n h past) f.0 f.1).store) k.next (subst (λ n. MayGrant p scene n h past) f.0 f.1).next)
  from_issue i e k (Query t h y) f = absurd (same_next p scene s past (Issued e) (Asked h y) k.next (subst (λ n. MayQuery p scene n h y past) f.0 f.1).next)
  from_issue i e k (Issue t j d) f = let q : e ≡ d = same_next p scene s past (Issued e) (Issued d) k.next (subst (λ n. MayIssue p scene n j d past) f.0 f.1).next in let c : t ≡ s = f.0 in let n : i ≡ j = k.number ∙ sym f.1.number in cc
  from_issue i e k (Release t) f = absurd (same_next p scene s past (Issued e) Released k.next (subst (λ n. Next p scene n Released past) f.0 f.1))
  from_issue i e k (Return t w) f = absurd (same_next p scene s past (Issued e) (Returned w) k.next (subst (λ n. Next p scene n (Returned w) past) f.0 f.1))
  from_issue i e k (Refuse t (Barred u h)) f = absurd (issue_barred i u h e k (subst (λ n. MayRefuseBarred p scene n u h past) f.0 f.1))
  from_issue i e k (Refuse t (Behind j)) f = absurd (same_next p scene s past (Issued e) (Asked (subst (λ n. MayRefuseBehind p scene n j past) f.0 f.1).missing.guard (subst (λ n. MayRefuseBehind p scene n j past) f.0 f.1).missing.store) k.next (subst (λ n. MayRefuseBehind p scene n j past) f.0 f.1).missing.next)
  from_issue i e k (Deliver a b j) f = absurd (same_next p scene s past (Issued e) (Asked f.missing.guard f.missing.store) k.next f.missing.next)
  from_issue i e k (Cut a b) f = absurd f.0
  from_issue i e k (Join a b) f = absurd f.0

  from_release : Next p scene s Released past → (other : Event) → Forced p scene s other past → Release s ≡ other
  from_release k (Grant t h) f = absurd (same_next p scene s past Released (Asked h (subst (λ n. MayGrant p scene n h past) f.0 f.1).store) k (subst (λ n. MayGrant p scene n h past) f.0 f.1).next)
  from_release k (Query t h y) f = absurd (same_next p scene s past Released (Asked h y) k (subst (λ n. MayQuery p scene n h y past) f.0 f.1).next)
  from_release k (Issue t j d) f = absurd (same_next p scene s past Released (Issued d) k (subst (λ n. MayIssue p scene n j d past) f.0 f.1).next)
  from_release k (Release t) f = let e : t ≡ s = f.0 in cc
  from_release k (Return t w) f = absurd (same_next p scene s past Released (Returned w) k (subst (λ n. Next p scene n (Returned w) past) f.0 f.1))
  from_release k (Refuse t (Barred u h)) f = absurd (same_next p scene s past Released (Issued (subst (λ n. MayRefuseBarred p scene n u h past) f.0 f.1).effect) k (subst (λ n. MayRefuseBarred p scene n u h past) f.0 f.1).next)
  from_release k (Refuse t (Behind j)) f = absurd (same_next p scene s past Released (Asked (subst (λ n. MayRefuseBehind p scene n j past) f.0 f.1).missing.guard (subst (λ n. MayRefuseBehind p scene n j past) f.0 f.1).missing.store) k (subst (λ n. MayRefuseBehind p scene n j past) f.0 f.1).missing.next)
  from_release k (Deliver a b j) f = absurd (same_next p scene s past Released (Asked f.missing.guard f.missing.store) k f.missing.next)
  from_release k (Cut a b) f = absurd f.0
  from_release k (Join a b) f = absurd f.0

  from_return : (v : ℤ) → Next p scene s (Returned v) past → (other : Event) → Forced p scene s other past → Return s v ≡ other
  from_return v k (Grant t h) f = absurd (same_next p scene s past (Returned v) (Asked h (subst (λ n. MayGrant p scene n h past) f.0 f.1).store) k (subst (λ n. MayGrant p scene n h past) f.0 f.1).next)
  from_return v k (Query t h y) f = absurd (same_next p scene s past (Returned v) (Asked h y) k (subst (λ n. MayQuery p scene n h y past) f.0 f.1).next)
  from_return v k (Issue t j d) f = absurd (same_next p scene s past (Returned v) (Issued d) k (subst (λ n. MayIssue p scene n j d past) f.0 f.1).next)
  from_return v k (Release t) f = absurd (same_next p scene s past (Returned v) Released k (subst (λ n. Next p scene n Released past) f.0 f.1))
  from_return v k (Return t w) f = let q : v ≡ w = same_next p scene s past (Returned v) (Returned w) k (subst (λ n. Next p scene n (Returned w) past) f.0 f.1) in let e : t ≡ s = f.0 in cc
  from_return v k (Refuse t (Barred u h)) f = absurd (same_next p scene s past (Returned v) (Issued (subst (λ n. MayRefuseBarred p scene n u h past) f.0 f.1).effect) k (subst (λ n. MayRefuseBarred p scene n u h past) f.0 f.1).next)
  from_return v k (Refuse t (Behind j)) f = absurd (same_next p scene s past (Returned v) (Asked (subst (λ n. MayRefuseBehind p scene n j past) f.0 f.1).missing.guard (subst (λ n. MayRefuseBehind p scene n j past) f.0 f.1).missing.store) k (subst (λ n. MayRefuseBehind p scene n j past) f.0 f.1).missing.next)
  from_return v k (Deliver a b j) f = absurd (same_next p scene s past (Returned v) (Asked f.missing.guard f.missing.store) k f.missing.next)
  from_return v k (Cut a b) f = absurd f.0
  from_return v k (Join a b) f = absurd f.0

  from_barred : (o g : ℕ) → MayRefuseBarred p scene s o g past → (other : Event) → Forced p scene s other past → Refuse s (Barred o g) ≡ other
  from_barred o g k (Grant t h) f = absurd (same_next p scene s past (Issued k.effect) (Asked h (subst (λ n. MayGrant p scene n h past) f.0 f.1).store) k.next (subst (λ n. MayGrant p scene n h past) f.0 f.1).next)
  from_barred o g k (Query t h y) f = absurd (same_next p scene s past (Issued k.effect) (Asked h y) k.next (subst (λ n. MayQuery p scene n h y past) f.0 f.1).next)
  from_barred o g k (Issue t j d) f = absurd (issue_barred j o g d (subst (λ n. MayIssue p scene n j d past) f.0 f.1) k)
  from_barred o g k (Release t) f = absurd (same_next p scene s past (Issued k.effect) Released k.next (subst (λ n. Next p scene n Released past) f.0 f.1))
  from_barred o g k (Return t w) f = absurd (same_next p scene s past (Issued k.effect) (Returned w) k.next (subst (λ n. Next p scene n (Returned w) past) f.0 f.1))
  from_barred o g k (Refuse t (Barred u h)) f = let q = same_barred o g u h k (subst (λ n. MayRefuseBarred p scene n u h past) f.0 f.1) in let e : t ≡ s = f.0 in cc
  from_barred o g k (Refuse t (Behind j)) f = absurd (same_next p scene s past (Issued k.effect) (Asked (subst (λ n. MayRefuseBehind p scene n j past) f.0 f.1).missing.guard (subst (λ n. MayRefuseBehind p scene n j past) f.0 f.1).missing.store) k.next (subst (λ n. MayRefuseBehind p scene n j past) f.0 f.1).missing.next)
  from_barred o g k (Deliver a b j) f = absurd (same_next p scene s past (Issued k.effect) (Asked f.missing.guard f.missing.store) k.next f.missing.next)
  from_barred o g k (Cut a b) f = absurd f.0
  from_barred o g k (Join a b) f = absurd f.0

  from_behind : (i : ℕ) → MayRefuseBehind p scene s i past → (other : Event) → Forced p scene s other past → Refuse s (Behind i) ≡ other
  from_behind i k (Grant t h) f = absurd (grant_lacks h i (subst (λ n. MayGrant p scene n h past) f.0 f.1) k.missing)
  from_behind i k (Query t h y) f = absurd (query_lacks h i y (subst (λ n. MayQuery p scene n h y past) f.0 f.1) k.missing)
  from_behind i k (Issue t j d) f = absurd (same_next p scene s past (Asked k.missing.guard k.missing.store) (Issued d) k.missing.next (subst (λ n. MayIssue p scene n j d past) f.0 f.1).next)
  from_behind i k (Release t) f = absurd (same_next p scene s past (Asked k.missing.guard k.missing.store) Released k.missing.next (subst (λ n. Next p scene n Released past) f.0 f.1))
  from_behind i k (Return t w) f = absurd (same_next p scene s past (Asked k.missing.guard k.missing.store) (Returned w) k.missing.next (subst (λ n. Next p scene n (Returned w) past) f.0 f.1))
  from_behind i k (Refuse t (Barred u h)) f = absurd (same_next p scene s past (Asked k.missing.guard k.missing.store) (Issued (subst (λ n. MayRefuseBarred p scene n u h past) f.0 f.1).effect) k.missing.next (subst (λ n. MayRefuseBarred p scene n u h past) f.0 f.1).next)
  from_behind i k (Refuse t (Behind j)) f = let q : i ≡ j = same_entry i j k.missing (subst (λ n. MayRefuseBehind p scene n j past) f.0 f.1).missing in let e : t ≡ s = f.0 in cc
  from_behind i k (Deliver a b j) f = absurd (fetch_behind a b j i f k)
  from_behind i k (Cut a b) f = absurd f.0
  from_behind i k (Join a b) f = absurd f.0

  from_fetch : (q r i : ℕ) → IsFetch p scene s q r i past → (other : Event) → Forced p scene s other past → Deliver q r i ≡ other
  from_fetch q r i k (Grant t h) f = absurd (grant_lacks h i (subst (λ n. MayGrant p scene n h past) f.0 f.1) k.missing)
  from_fetch q r i k (Query t h y) f = absurd (query_lacks h i y (subst (λ n. MayQuery p scene n h y past) f.0 f.1) k.missing)
  from_fetch q r i k (Issue t j d) f = absurd (same_next p scene s past (Asked k.missing.guard k.missing.store) (Issued d) k.missing.next (subst (λ n. MayIssue p scene n j d past) f.0 f.1).next)
  from_fetch q r i k (Release t) f = absurd (same_next p scene s past (Asked k.missing.guard k.missing.store) Released k.missing.next (subst (λ n. Next p scene n Released past) f.0 f.1))
  from_fetch q r i k (Return t w) f = absurd (same_next p scene s past (Asked k.missing.guard k.missing.store) (Returned w) k.missing.next (subst (λ n. Next p scene n (Returned w) past) f.0 f.1))
  from_fetch q r i k (Refuse t (Barred u h)) f = absurd (same_next p scene s past (Asked k.missing.guard k.missing.store) (Issued (subst (λ n. MayRefuseBarred p scene n u h past) f.0 f.1).effect) k.missing.next (subst (λ n. MayRefuseBarred p scene n u h past) f.0 f.1).next)
  from_fetch q r i k (Refuse t (Behind j)) f = absurd (fetch_behind q r i j k (subst (λ n. MayRefuseBehind p scene n j past) f.0 f.1))
  from_fetch q r i k (Deliver a b j) f = same_fetch q r i a b j k f
  from_fetch q r i k (Cut a b) f = absurd f.0
  from_fetch q r i k (Join a b) f = absurd f.0

  pub forced_is_single : (one other : Event) → Forced p scene s one past → Forced p scene s other past → one ≡ other
  forced_is_single (Grant t g) other k f = ap (λ n. Grant n g) k.0 ∙ from_grant g (subst (λ n. MayGrant p scene n g past) k.0 k.1) other f
  forced_is_single (Query t g x) other k f = ap (λ n. Query n g x) k.0 ∙ from_query g x (subst (λ n. MayQuery p scene n g x past) k.0 k.1) other f
  forced_is_single (Issue t i e) other k f = ap (λ n. Issue n i e) k.0 ∙ from_issue i e (subst (λ n. MayIssue p scene n i e past) k.0 k.1) other f
  forced_is_single (Release t) other k f = ap (λ n. Release n) k.0 ∙ from_release (subst (λ n. Next p scene n Released past) k.0 k.1) other f
  forced_is_single (Return t v) other k f = ap (λ n. Return n v) k.0 ∙ from_return v (subst (λ n. Next p scene n (Returned v) past) k.0 k.1) other f
  forced_is_single (Refuse t (Barred o g)) other k f = ap (λ n. Refuse n (Barred o g)) k.0 ∙ from_barred o g (subst (λ n. MayRefuseBarred p scene n o g past) k.0 k.1) other f
  forced_is_single (Refuse t (Behind i)) other k f = ap (λ n. Refuse n (Behind i)) k.0 ∙ from_behind i (subst (λ n. MayRefuseBehind p scene n i past) k.0 k.1) other f
  forced_is_single (Deliver q r i) other k f = from_fetch q r i k other f
  forced_is_single (Cut a b) other k f = absurd k.0
  forced_is_single (Join a b) other k f = absurd k.0
