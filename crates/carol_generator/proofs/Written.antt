-- The canonical text of the generated file is written line by line.
use Rattle.std.proofs.Common.{◌≡◌, ℕ, zero, suc, ◌+◌, ◌*◌, ◌%◌, eqb, cond, true, false, List, [], ◌∷◌, ◌++◌, map, refl, sym, ◌∙◌, ap, append_assoc}
use Rattle.std.specs.Prelude.{codes}
use Rattle.std.specs.Fmt.{decimal, digits}
use Rattle.std.proofs.lemmas.List.{append-nil}
use Rattle.carol_syntax.specs.declared.scenes.CommandDecl.{CommandDecl}
use Rattle.carol_print.specs.Pieces.{text_of}
use Rattle.carol_print.specs.Canonical.{Pieces, concat, command, session, closing_brace, end}
use Rattle.carol_print.specs.Pieces.Piece.{Break}
use Rattle.carol_print.proofs.LaidLists.{text_of_both}
use Rattle.carol_generator.specs.Generated.{number_drawn, command_drawn, commands_drawn, session_drawn, sessions_drawn, generated_text}
use Rattle.carol_generator.specs.Layout.{head_text, command_text, commands_text, session_text, sessions_text}

-- one more behind others
text_more : {A : Type 0} (f : A → Pieces) (xs : List A) (y : A) → text_of (concat (map f (xs ++ y ∷ []))) ≡ text_of (concat (map f xs)) ++ text_of (f y)
text_more f [] y = ap text_of (append-nil (f y))
text_more f (x ∷ xs) y =
    text_of_both (f x) (concat (map f (xs ++ y ∷ []))) ∙ ap (λ z. text_of (f x) ++ z) (text_more f xs y)
    ∙ sym (append_assoc (text_of (f x)) (text_of (concat (map f xs))) (text_of (f y))) ∙ ap (λ z. z ++ text_of (f y)) (sym (text_of_both (f x) (concat (map f xs))))

command_written : (x : ℕ) → text_of (command (command_drawn x)) ≡ command_text x
unfolding command_text
command_written x =
    elim (eqb (x % 3) 0) as (λ b. cond b (codes "deposit") (codes "withdraw") ++ (40 ∷ (decimal (1 + x % 50) ++ (41 ∷ 59 ∷ 10 ∷ [])))
    ≡ cond b (codes "deposit(") (codes "withdraw(") ++ (decimal (1 + x % 50) ++ (codes ");" ++ 10 ∷ []))) [ true ↦ refl | false ↦ refl ]

commands_written : (n first count : ℕ) → text_of (concat (map command (commands_drawn n first count))) ≡ commands_text n first count
unfolding commands_text commands_drawn
commands_written n first zero = refl
commands_written n first (suc count) =
    let x : ℕ = number_drawn n (suc (first + count)) in
    rw (text_more command (commands_drawn n first count) (command_drawn x), commands_written n first count, command_written x) refl

session_written : (n s : ℕ) → text_of (session (session_drawn n s)) ≡ session_text n s
unfolding session_text
session_written n s =
    let commands : List CommandDecl = commands_drawn n (s * n) n in
    let inner : text_of (concat (map command commands) ++ (closing_brace ∷ Break ∷ [])) ≡ commands_text n (s * n) n ++ (codes "}" ++ 10 ∷ []) =
    text_of_both (concat (map command commands)) (closing_brace ∷ Break ∷ []) ∙ ap (λ z. z ++ (codes "}" ++ 10 ∷ [])) (commands_written n (s * n) n) in
    ap (λ z. codes "session at " ++ (decimal (s % 4) ++ (codes " {" ++ 10 ∷ z))) inner
    ∙ ap (λ z. codes "session at " ++ z) (sym (append_assoc (decimal (s % 4)) (codes " {" ++ 10 ∷ []) (commands_text n (s * n) n ++ (codes "}" ++ 10 ∷ []))))

sessions_written : (n s : ℕ) → text_of (concat (map session (sessions_drawn n s))) ≡ sessions_text n s
unfolding sessions_text sessions_drawn
sessions_written n zero = refl
sessions_written n (suc s) = rw (text_more session (sessions_drawn n s) (session_drawn n s), sessions_written n s, session_written n s) refl

-- the whole text
pub written : (n : ℕ) → generated_text n ≡ head_text ++ (sessions_text n 16 ++ (codes "end" ++ 10 ∷ []))
unfolding generated_text head_text digits
written n =
    let scene : Pieces = concat (map session (sessions_drawn n 16)) in
    let inner : text_of ((scene ++ end) ++ []) ≡ sessions_text n 16 ++ (codes "end" ++ 10 ∷ []) =
    ap text_of (append-nil (scene ++ end)) ∙ text_of_both scene end ∙ ap (λ z. z ++ (codes "end" ++ 10 ∷ [])) (sessions_written n 16) in
    ap (λ z. head_text ++ z) inner
