-- One command, and one session, after another.
use Rattle.std.proofs.Common.{◌≡◌, ℕ, ◌+◌, ◌++◌, List, [], ◌∷◌, refl, sym, ◌∙◌, ap, add-one, append_assoc}
use Rattle.std.specs.Prelude.{codes}
use Rattle.std.proofs.lemmas.List.{append-nil}
use Rattle.carol_generator.specs.Generated.{generated_text, next_number, number_drawn}
use Rattle.carol_generator.specs.Layout.{command_text, commands_text, head_text, session_text, sessions_text}
use Rattle.carol_generator.proofs.Written.{written}

-- before the first command
pub no_number : (n : ℕ) → n ≡ number_drawn n 0
unfolding number_drawn
no_number n = refl

pub no_command : (n first : ℕ) (was : List ℕ) → was ≡ was ++ commands_text n first 0
unfolding commands_text
no_command n first was = sym (append-nil was)

-- one command more
pub number_more : (n count x y : ℕ) → x ≡ number_drawn n count → y ≡ next_number x → y ≡ number_drawn n (count + 1)
unfolding number_drawn
number_more n count x y is next = next ∙ ap next_number is ∙ rw add-one refl

pub command_more : (n first count x : ℕ) (was : List ℕ) → x ≡ number_drawn n (first + count + 1) → (was ++ commands_text n first count) ++ command_text x ≡ was ++ commands_text n first (count + 1)
unfolding commands_text
command_more n first count x was is =
    let next : commands_text n first (count + 1) ≡ commands_text n first count ++ command_text x = rw (add-one, is, add-one) refl
    in append_assoc was (commands_text n first count) (command_text x) ∙ sym (ap (λ (t : List ℕ). was ++ t) next)

-- before the first session
pub no_session : (n : ℕ) (was : List ℕ) → was ≡ was ++ sessions_text n 0
unfolding sessions_text
no_session n was = sym (append-nil was)

-- one session more
pub session_more : (n session : ℕ) (was : List ℕ) → (was ++ sessions_text n session) ++ session_text n session ≡ was ++ sessions_text n (session + 1)
unfolding sessions_text
session_more n session was =
    let next : sessions_text n (session + 1) ≡ sessions_text n session ++ session_text n session = rw add-one refl
    in append_assoc was (sessions_text n session) (session_text n session) ∙ sym (ap (λ (t : List ℕ). was ++ t) next)

-- the end of the file
pub generated_end : (n s : ℕ) (before whole : List ℕ) → s ≡ 16 → before ≡ head_text ++ sessions_text n s → whole ≡ before ++ (codes "end" ++ 10 ∷ []) → whole ≡ generated_text n
generated_end n s before whole all is end =
    rw (end, is, all, written n) (append_assoc head_text (sessions_text n 16) (codes "end" ++ 10 ∷ []))
