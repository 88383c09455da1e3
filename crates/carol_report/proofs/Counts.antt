-- Counting commands and entries, one after another.
use Rattle.std.proofs.Common.{◌≡◌, ℕ, ◌+◌, cond, List, [], ◌∷◌, ◌++◌, length, refl, sym, ◌∙◌, append_assoc, arith, length-append}
use Rattle.std.specs.Prelude.{codes, reverse}
use Rattle.std.specs.List.{count_by}
use Rattle.std.proofs.lemmas.List.Recursion.{is_count_by}
use Rattle.std.proofs.lemmas.List.Sorted.{IsPermutation-reverse, sum_by-IsPermutation}
use Rattle.carol_program.specs.Rules.{Rules}
use Rattle.carol_program.specs.Scenes.{commands_in}
use Rattle.carol_program.specs.declared.scenes.Scene.{Scene}
use Rattle.carol_event.specs.declared.event.Event.{Event}
use Rattle.carol_event.specs.declared.event.Event.TheVariants as event
use Rattle.carol_history.specs.Journals.{global, journal}
use Rattle.carol_report.specs.Issues.{is_issue}
use Rattle.carol_report.specs.Summary.{global_line, number_line, refused_in, summary_text}

-- an event makes an entry where it is an issue
entry_more : (e : Event) (past : List Event) → length (journal (e ∷ past)) ≡ cond (is_issue e) (1 + length (journal past)) (length (journal past))
entry_more (event.Issue s i effect) past = length-append (journal past) (effect ∷ []) ∙ omega arith
entry_more (event.Grant s g) past = refl
entry_more (event.Query s g x) past = refl
entry_more (event.Release s) past = refl
entry_more (event.Return s v) past = refl
entry_more (event.Refuse s cause) past = refl
entry_more (event.Deliver q r i) past = refl
entry_more (event.Cut a b) past = refl
entry_more (event.Join a b) past = refl

-- there is an entry for each issue
pub entries_are : (past events : List Event) → events ≡ reverse past → count_by is_issue events ≡ length (journal past)
entries_are past events are =
    let issues : length (journal past) ≡ count_by is_issue past = is_count_by (λ past. length (journal past)) is_issue refl entry_more past
    in rw are (sum_by-IsPermutation (λ e. cond (is_issue e) 1 0) past (reverse past) (IsPermutation-reverse past) ∙ sym issues)

-- parts that were appended one after another
joined : (a b c d e f g : List ℕ) → (((((([] ++ a) ++ b) ++ c) ++ d) ++ e) ++ f) ++ g ≡ a ++ (b ++ (c ++ (d ++ (e ++ (f ++ g)))))
joined a b c d e f g = simp append_assoc

-- the text after each line
pub summary_joined : (n : ℕ) (p : Rules) (scene : Scene) (past : List Event) (commands events entries refused : ℕ) (b0 b1 b2 b3 b4 b5 b6 b7 : List ℕ) → commands ≡ commands_in scene.sessions → events ≡ length past → entries ≡ length (journal past) → refused ≡ refused_in scene past 0 scene.sessions → b0 ≡ [] → b1 ≡ b0 ++ number_line (codes "gen") n → b2 ≡ b1 ++ number_line (codes "commands") commands → b3 ≡ b2 ++ number_line (codes "events") events → b4 ≡ b3 ++ number_line (codes "entries") entries → b5 ≡ b4 ++ number_line (codes "refused") refused → b6 ≡ b5 ++ global_line (global p past) → b7 ≡ b6 ++ (codes "end" ++ 10 ∷ []) → b7 ≡ summary_text n p scene past
unfolding summary_text
summary_joined n p scene past commands events entries refused b0 b1 b2 b3 b4 b5 b6 b7 are_commands are_events are_entries are_refused h0 h1 h2 h3 h4 h5 h6 h7 =
    rw (h7, h6, h5, h4, h3, h2, h1, h0, are_commands, are_events, are_entries, are_refused)
    (joined (number_line (codes "gen") n) (number_line (codes "commands") (commands_in scene.sessions)) (number_line (codes "events") (length past)) (number_line (codes "entries") (length (journal past))) (number_line (codes "refused") (refused_in scene past 0 scene.sessions)) (global_line (global p past)) (codes "end" ++ 10 ∷ []))
