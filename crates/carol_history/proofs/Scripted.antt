-- A script comes to one thing, and what it comes to is a run.
use Rattle.std.proofs.Common.{◌≡◌, ◌≢◌, ℕ, ◌+◌, ◌<◌, Bool, true, false, eqb, ◌&&◌, List, [], ◌∷◌, refl, sym, subst, ap, ◌∙◌, inl, inr, arith}
use Rattle.std.specs.Prelude.{Some, not}
use Rattle.std.proofs.lemmas.Bool.{cases_lt, eq-eqb}
use Rattle.carol_program.specs.Rules.{Rules}
use Rattle.carol_program.specs.Scenes.{IsValidScene}
use Rattle.carol_program.specs.declared.scenes.Scene.{Scene}
use Rattle.carol_event.specs.declared.event.Cause.TheVariants.{Barred, Behind}
use Rattle.carol_event.specs.declared.event.Event.{Event}
use Rattle.carol_event.specs.declared.event.Event.TheVariants as event
use Rattle.carol_history.specs.declared.script.ScriptCause.{ScriptCause}
use Rattle.carol_history.specs.declared.script.ScriptCause.TheVariants.{NoSuchSession, Finished, NoSuchPair, CutOff, NothingNew}
use Rattle.carol_history.specs.declared.script.Statement.{Statement}
use Rattle.carol_history.specs.declared.script.Statement.TheVariants.{Go, Gossip, Cut, Join}
use Rattle.carol_history.specs.Acts.{UnderWay}
use Rattle.carol_history.specs.Forced.{Forced}
use Rattle.carol_history.specs.Laws.{ScriptRuns, ScriptIsSingle}
use Rattle.carol_history.specs.Legal.{Legal, MayDeliver, MayLink}
use Rattle.carol_history.specs.Links.{is_joined}
use Rattle.carol_history.specs.Runs.{Run}
use Rattle.carol_history.specs.Scripts.{ComesTo, Fails, FailsToGo, FailsToGossip, FailsToLink, Gives, IsGossip, Scripted}
use Rattle.carol_history.proofs.Actors.{is_there}
use Rattle.carol_history.proofs.Goings.{forced_is_legal}
use Rattle.carol_history.proofs.Holdings.{held_within}
use Rattle.carol_history.proofs.Single.{forced_is_single}

clash : true ≡ false → ⊥
clash e = cc

module _ (p : Rules) (scene : Scene) (valid : IsValidScene p scene) (past : List Event) (run : Run p scene past) where
  -- who goes on has a command under way
  way_of : (s : ℕ) (given : Event) → Forced p scene s given past → UnderWay scene s past
  way_of s (event.Grant t g) f = subst (λ n. UnderWay scene n past) f.0 f.1.next.way
  way_of s (event.Query t g x) f = subst (λ n. UnderWay scene n past) f.0 f.1.next.way
  way_of s (event.Issue t i e) f = subst (λ n. UnderWay scene n past) f.0 f.1.next.way
  way_of s (event.Release t) f = subst (λ n. UnderWay scene n past) f.0 f.1.way
  way_of s (event.Return t v) f = subst (λ n. UnderWay scene n past) f.0 f.1.way
  way_of s (event.Refuse t (Barred u h)) f = subst (λ n. UnderWay scene n past) f.0 f.1.next.way
  way_of s (event.Refuse t (Behind i)) f = subst (λ n. UnderWay scene n past) f.0 f.1.missing.next.way
  way_of s (event.Deliver q r i) f = f.missing.next.way
  way_of s (event.Cut a b) f = absurd f.0
  way_of s (event.Join a b) f = absurd f.0

  -- what is delivered goes between two replicas
  is_pair_of : (source target entry : ℕ) → MayDeliver scene source target entry past → MayLink scene source target
  is_pair_of source target entry may = record { one = may.from; other = may.to; apart = apart }
    where
      no : (b c : Bool) → b ≡ true → (not b && c) ≡ true → ⊥
      no true c e h = clash (sym h)
      no false c e h = clash (sym e)

      apart : source ≢ target
      apart e = no (eqb source target) (is_joined source target past) (eq-eqb source target e) may.linked

  not_lower : (source target : ℕ) (one other : Event) (a : IsGossip scene source target one past) (b : IsGossip scene source target other past) → a.entry < b.entry → ⊥
  not_lower source target one other a b low = clash (sym (b.lowest a.entry low a.may.held) ∙ a.may.lacking)

  -- a statement gives one event
  gives_one : (line : Statement) (one other : Event) → Gives p scene line one past → Gives p scene line other past → one ≡ other
  gives_one (Go s) one other a b = forced_is_single p scene s past one other a b
  gives_one (Gossip source target) one other a b =
      let same : a.entry ≡ b.entry = elim (cases_lt a.entry b.entry) [
        | inl low ↦ absurd (not_lower source target one other a b low)
        | inr h ↦ elim (cases_lt b.entry a.entry) [
          | inl low ↦ absurd (not_lower source target other one b a low)
          | inr g ↦ omega arith
        ]
      ]
      in a.is ∙ ap (λ i. event.Deliver source target i) same ∙ sym b.is
  gives_one (Cut x y) one other a b = a.0 ∙ sym b.0
  gives_one (Join x y) one other a b = a.0 ∙ sym b.0

  -- which may come next
  gives_legal : (line : Statement) (given : Event) → Gives p scene line given past → Legal p scene given past
  gives_legal (Go s) given a = forced_is_legal p scene past valid s given a
  gives_legal (Gossip source target) given a = subst (λ e. Legal p scene e past) (sym a.is) a.may
  gives_legal (Cut x y) given a = subst (λ e. Legal p scene e past) (sym a.0) a.1
  gives_legal (Join x y) given a = subst (λ e. Legal p scene e past) (sym a.0) a.1

  -- or fails, and not both
  go_fails : (s : ℕ) (given : Event) (cause : ScriptCause) → Forced p scene s given past → FailsToGo scene s cause past → ⊥
  go_fails s given NoSuchSession a f = absurd (omega (arith, is_there scene s past (way_of s given a)))
  go_fails s given Finished a f = f.1 (way_of s given a)
  go_fails s given NoSuchPair a f = f
  go_fails s given CutOff a f = f
  go_fails s given NothingNew a f = f

  gossip_fails : (source target : ℕ) (given : Event) (cause : ScriptCause) → IsGossip scene source target given past → FailsToGossip scene source target cause past → ⊥
  gossip_fails source target given NoSuchPair a f = f (is_pair_of source target a.entry a.may)
  gossip_fails source target given CutOff a f = clash (sym a.may.linked ∙ f.1)
  gossip_fails source target given NothingNew a f = clash (sym (f.2 a.entry (held_within p scene past run source a.entry a.may.held) a.may.held) ∙ a.may.lacking)
  gossip_fails source target given NoSuchSession a f = f
  gossip_fails source target given Finished a f = f

  link_fails : (x y : ℕ) (cause : ScriptCause) → MayLink scene x y → FailsToLink scene x y cause → ⊥
  link_fails x y NoSuchPair a f = f a
  link_fails x y CutOff a f = f
  link_fails x y NothingNew a f = f
  link_fails x y NoSuchSession a f = f
  link_fails x y Finished a f = f

  gives_or_fails : (line : Statement) (given : Event) (cause : ScriptCause) → Gives p scene line given past → Fails scene line cause past → ⊥
  gives_or_fails (Go s) given cause a f = go_fails s given cause a f
  gives_or_fails (Gossip source target) given cause a f = gossip_fails source target given cause a f
  gives_or_fails (Cut x y) given cause a f = link_fails x y cause a.1 f
  gives_or_fails (Join x y) given cause a f = link_fails x y cause a.1 f

  -- for one cause
  link_one : (x y : ℕ) (one other : ScriptCause) → FailsToLink scene x y one → FailsToLink scene x y other → one ≡ other
  link_one x y NoSuchPair NoSuchPair a b = refl
  link_one x y NoSuchSession other a b = absurd a
  link_one x y Finished other a b = absurd a
  link_one x y NoSuchPair NoSuchSession a b = absurd b
  link_one x y NoSuchPair Finished a b = absurd b
  link_one x y NoSuchPair CutOff a b = absurd b
  link_one x y NoSuchPair NothingNew a b = absurd b
  link_one x y CutOff other a b = absurd a
  link_one x y NothingNew other a b = absurd a

  go_one : (s : ℕ) (one other : ScriptCause) → FailsToGo scene s one past → FailsToGo scene s other past → one ≡ other
  go_one s NoSuchSession NoSuchSession a b = refl
  go_one s NoSuchSession Finished a b = absurd (omega (arith, b.0))
  go_one s Finished NoSuchSession a b = absurd (omega (arith, a.0))
  go_one s Finished Finished a b = refl
  go_one s NoSuchSession NoSuchPair a b = absurd b
  go_one s NoSuchSession CutOff a b = absurd b
  go_one s NoSuchSession NothingNew a b = absurd b
  go_one s Finished NoSuchPair a b = absurd b
  go_one s Finished CutOff a b = absurd b
  go_one s Finished NothingNew a b = absurd b
  go_one s NoSuchPair other a b = absurd a
  go_one s CutOff other a b = absurd a
  go_one s NothingNew other a b = absurd a

  gossip_one : (source target : ℕ) (one other : ScriptCause) → FailsToGossip scene source target one past → FailsToGossip scene source target other past → one ≡ other
  gossip_one source target NoSuchPair NoSuchPair a b = refl
  gossip_one source target NoSuchPair CutOff a b = absurd (a b.0)
  gossip_one source target NoSuchPair NothingNew a b = absurd (a b.0)
  gossip_one source target CutOff NoSuchPair a b = absurd (b a.0)
  gossip_one source target CutOff CutOff a b = refl
  gossip_one source target CutOff NothingNew a b = absurd (clash (sym b.1 ∙ a.1))
  gossip_one source target NothingNew NoSuchPair a b = absurd (b a.0)
  gossip_one source target NothingNew CutOff a b = absurd (clash (sym a.1 ∙ b.1))
  gossip_one source target NothingNew NothingNew a b = refl
  gossip_one source target NoSuchSession other a b = absurd a
  gossip_one source target Finished other a b = absurd a
  gossip_one source target NoSuchPair NoSuchSession a b = absurd b
  gossip_one source target NoSuchPair Finished a b = absurd b
  gossip_one source target CutOff NoSuchSession a b = absurd b
  gossip_one source target CutOff Finished a b = absurd b
  gossip_one source target NothingNew NoSuchSession a b = absurd b
  gossip_one source target NothingNew Finished a b = absurd b

  fails_one : (line : Statement) (one other : ScriptCause) → Fails scene line one past → Fails scene line other past → one ≡ other
  fails_one (Go s) one other a b = go_one s one other a b
  fails_one (Gossip source target) one other a b = gossip_one source target one other a b
  fails_one (Cut x y) one other a b = link_one x y one other a b
  fails_one (Join x y) one other a b = link_one x y one other a b

-- ---- whole scripts

pub script_runs : (p : Rules) (scene : Scene) → IsValidScene p scene → ScriptRuns p scene
script_runs p scene valid number [] past run scripted c = subst (λ (s : Scripted). Run p scene s.history) (sym c) run
script_runs p scene valid number (line ∷ lines) past run scripted (inl c) =
    script_runs p scene valid (number + 1) lines (c.0 ∷ past) (gives_legal p scene valid past run line c.0 c.1, run) scripted c.2
script_runs p scene valid number (line ∷ lines) past run scripted (inr c) = subst (λ (s : Scripted). Run p scene s.history) (sym c.2) run

pub script_is_single : (p : Rules) (scene : Scene) → IsValidScene p scene → ScriptIsSingle p scene
script_is_single p scene valid number [] past run one other a b = a ∙ sym b
script_is_single p scene valid number (line ∷ lines) past run one other (inl a) (inl b) =
    let same : b.0 ≡ a.0 = gives_one p scene valid past run line b.0 a.0 b.1 a.1
    in script_is_single p scene valid (number + 1) lines (a.0 ∷ past) (gives_legal p scene valid past run line a.0 a.1, run) one other a.2
    (subst (λ (e : Event). ComesTo p scene (number + 1) lines (e ∷ past) other) same b.2)
script_is_single p scene valid number (line ∷ lines) past run one other (inl a) (inr b) = absurd (gives_or_fails p scene valid past run line a.0 b.0 a.1 b.1)
script_is_single p scene valid number (line ∷ lines) past run one other (inr a) (inl b) = absurd (gives_or_fails p scene valid past run line b.0 a.0 b.1 a.1)
script_is_single p scene valid number (line ∷ lines) past run one other (inr a) (inr b) =
    let same : a.0 ≡ b.0 = fails_one p scene valid past run line a.0 b.0 a.1 b.1
    in a.2 ∙ ap (λ (c : ScriptCause). record { history = past; bad = Some (record { number = number; cause = c }) }) same ∙ sym b.2
