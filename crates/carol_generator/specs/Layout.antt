-- The text of the large inputs, as it is written line by line.
use Rattle.std.specs.Prelude.{ℕ, zero, suc, ◌+◌, ◌*◌, ◌%◌, ◌==◌, if◌then◌else◌, List, [], ◌∷◌, ◌++◌, codes, decimal, flat_map}
use Rattle.carol_generator.specs.Generated.{number_drawn}

-- each of these on a line of its own
abbrev pub lines_text : List (List ℕ) → List ℕ
lines_text lines = flat_map (λ line. line ++ 10 ∷ []) lines

-- the bank, and the head of the scene
unfoldable pub head_text : List ℕ
head_text = lines_text (
    codes "program" ∷
    codes "counter bal = 1000;" ∷
    codes "invariant bal >= 0;" ∷
    codes "guard low: here.bal <= there.bal;" ∷
    codes "op withdraw(n: 1 <= n and n <= 1000) gives 0 <= result and result <= n {" ∷
    codes "query v under low;" ∷
    codes "if n <= v.bal {" ∷
    codes "issue bal -= n;" ∷
    codes "return n;" ∷
    codes "} else {" ∷
    codes "return 0;" ∷
    codes "}" ∷
    codes "}" ∷
    codes "op deposit(n: 1 <= n and n <= 1000) gives result = n {" ∷
    codes "issue bal += n;" ∷
    codes "return n;" ∷
    codes "}" ∷
    codes "end" ∷
    codes "scene" ∷
    codes "replicas 4;" ∷
    codes "tries 4;" ∷
    codes "workers 4;" ∷
    codes "gossipers 1;" ∷ [])

-- the command that a number stands for, on a line of its own
unfoldable pub command_text : ℕ → List ℕ
command_text x =
    (if x % 3 == 0 then codes "deposit(" else codes "withdraw(")
    ++ (decimal (1 + x % 50) ++ (codes ");" ++ 10 ∷ []))

-- so many commands after the first ones
unfoldable pub commands_text : ℕ → ℕ → ℕ → List ℕ
commands_text n first zero = []
commands_text n first (suc count) =
    commands_text n first count ++ command_text (number_drawn n (suc (first + count)))

-- a session with n commands, which come after those of the sessions before it
unfoldable pub session_text : ℕ → ℕ → List ℕ
session_text n session =
    (codes "session at " ++ (decimal (session % 4) ++ (codes " {" ++ 10 ∷ [])))
    ++ (commands_text n (session * n) n ++ (codes "}" ++ 10 ∷ []))

-- so many sessions
unfoldable pub sessions_text : ℕ → ℕ → List ℕ
sessions_text n zero = []
sessions_text n (suc session) = sessions_text n session ++ session_text n session
