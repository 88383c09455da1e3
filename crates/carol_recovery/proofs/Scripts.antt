-- One statement of a script after another, each of which gives an event.
use Rattle.std.proofs.Common.{◌≡◌, ℕ, ◌+◌, List, [], ◌∷◌, ◌++◌, refl, sym, ap, subst, ◌∙◌, inl, inr, append_assoc}
use Rattle.std.specs.Prelude.{Some, None}
use Rattle.carol_program.specs.Rules.{Rules}
use Rattle.carol_program.specs.declared.scenes.Scene.{Scene}
use Rattle.carol_event.specs.declared.event.Event.{Event}
use Rattle.carol_history.specs.declared.script.BadStatement.{BadStatement}
use Rattle.carol_history.specs.declared.script.ScriptCause.{ScriptCause}
use Rattle.carol_history.specs.declared.script.Statement.{Statement}
use Rattle.carol_history.specs.Laws.{ScriptIsSingle, ScriptRuns}
use Rattle.carol_history.specs.Runs.{Run}
use Rattle.carol_history.specs.Scripts.{ComesTo, Fails, Gives, Scripted}

-- a script that ends with this history, each of its statements giving an event
abbrev pub whole : List Event → Scripted
whole past = record { history = past; bad = None }

none_some : (bad : BadStatement) → None ≡ Some bad → ⊥
none_some bad e = cc

same_head : (one other : Event) (past : List Event) → one ∷ past ≡ other ∷ past → one ≡ other
same_head one other past e = cc

module _ (p : Rules) (scene : Scene) (past : List Event) where
  one_line : (line : Statement) (given : Event) → Gives p scene line given past → ComesTo p scene 1 (line ∷ []) past (whole (given ∷ past))
  one_line line given gives = inl (given, gives, refl)

  -- a statement gives one event
  pub gives_one : ScriptIsSingle p scene → Run p scene past → (line : Statement) (one other : Event) → Gives p scene line one past → Gives p scene line other past → one ≡ other
  gives_one once run line one other a b =
      same_head one other past
      (ap (λ (s : Scripted). s.history) (once 1 (line ∷ []) past run (whole (one ∷ past)) (whole (other ∷ past)) (one_line line one a) (one_line line other b)))

  -- which gives a run
  pub gives_run : ScriptRuns p scene → Run p scene past → (line : Statement) (given : Event) → Gives p scene line given past → Run p scene (given ∷ past)
  gives_run runs run line given gives = runs 1 (line ∷ []) past run (whole (given ∷ past)) (one_line line given gives)

  -- and doesn't fail
  pub gives_or_fails : ScriptIsSingle p scene → Run p scene past → (line : Statement) (given : Event) (cause : ScriptCause) → Gives p scene line given past → Fails scene line cause past → ⊥
  gives_or_fails once run line given cause gives fails =
      let bad : BadStatement = record { number = 1; cause = cause } in
      let stopped : Scripted = record { history = past; bad = Some bad } in
      none_some bad
      (ap (λ (s : Scripted). s.bad) (once 1 (line ∷ []) past run (whole (given ∷ past)) stopped (one_line line given gives) (inr (cause, fails, refl))))

  -- the next statement gives an event, behind which the others come to the rest
  pub next_line : (number : ℕ) (line : Statement) (lines : List Statement) (all : List Event) → ComesTo p scene number (line ∷ lines) past (whole all)
      → (given : Event) × Gives p scene line given past × ComesTo p scene (number + 1) lines (given ∷ past) (whole all)
  next_line number line lines all (inl comes) = comes
  next_line number line lines all (inr (cause, fails, is)) =
      absurd (none_some (record { number = number; cause = cause }) (ap (λ (s : Scripted). s.bad) is))

  -- whichever event it gives
  pub given_line : ScriptIsSingle p scene → Run p scene past → (number : ℕ) (line : Statement) (lines : List Statement) (all : List Event) (given : Event)
      → ComesTo p scene number (line ∷ lines) past (whole all) → Gives p scene line given past → ComesTo p scene (number + 1) lines (given ∷ past) (whole all)
  given_line once run number line lines all given comes gives =
      let next = next_line number line lines all comes in
      subst (λ (e : Event). ComesTo p scene (number + 1) lines (e ∷ past) (whole all)) (gives_one once run line next.0 given next.1 gives) next.2

-- what is there before a statement is a front of what the script comes to
pub is_front : (p : Rules) (scene : Scene) (number : ℕ) (lines : List Statement) (past : List Event) (scripted : Scripted) → ComesTo p scene number lines past scripted
    → (more : List Event) × (scripted.history ≡ more ++ past)
is_front p scene number [] past scripted comes = ([], ap (λ (s : Scripted). s.history) comes)
is_front p scene number (line ∷ lines) past scripted (inl (given, gives, comes)) =
    let rest = is_front p scene (number + 1) lines (given ∷ past) scripted comes in
    (rest.0 ++ given ∷ [], rest.1 ∙ sym (append_assoc rest.0 (given ∷ []) past))
is_front p scene number (line ∷ lines) past scripted (inr (cause, fails, is)) = ([], ap (λ (s : Scripted). s.history) is)
