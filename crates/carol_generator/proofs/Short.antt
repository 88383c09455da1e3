-- The text of a large input is short enough to be read.
use Rattle.std.proofs.Common.{ℕ, zero, suc, ◌+◌, ◌*◌, ◌%◌, ◌<◌, ◌≤◌, Bool, true, false, length, cond, eqb, lit≤, arith, length-append}
use Rattle.std.specs.Prelude.{codes, decimal}
use Rattle.std.proofs.lemmas.Fmt.{length-decimal-le}
use Rattle.std.proofs.lemmas.Nat.{mod_below}
use Rattle.carol_syntax.specs.Limits.{most_text_bytes}
use Rattle.carol_generator.specs.Generated.{generated_text, number_drawn}
use Rattle.carol_generator.specs.Layout.{command_text, commands_text, head_text, session_text, sessions_text}
use Rattle.carol_generator.proofs.Written.{written}

head_short : length head_text ≤ 1000
unfolding head_text
head_short = lit≤ tt

word_short : (b : Bool) → length (cond b (codes "deposit(") (codes "withdraw(")) ≤ 9
word_short true = lit≤ tt
word_short false = lit≤ tt

command_short : (x : ℕ) → length (command_text x) ≤ 16
unfolding command_text
command_short x =
    let amount : ℕ = 1 + x % 50
    in let low : x % 50 < 50 = mod_below x 50 (omega arith)
    in let digits : length (decimal amount) ≤ 2 = length-decimal-le 2 amount (omega arith) (omega (arith, low)) (omega (arith, low))
    in let word = word_short (eqb (x % 3) 0)
    in simp length-append (omega (arith, digits, word))

commands_short : (n first count : ℕ) → length (commands_text n first count) ≤ 16 * count
unfolding commands_text
commands_short n first zero = lit≤ tt
commands_short n first (suc count) =
    let x : ℕ = number_drawn n (suc (first + count))
    in simp length-append (omega (arith, commands_short n first count, command_short x))

session_short : (n session : ℕ) → length (session_text n session) ≤ 32 + 16 * n
unfolding session_text
session_short n session =
    let low : session % 4 < 4 = mod_below session 4 (omega arith)
    in let digits : length (decimal (session % 4)) ≤ 1 = length-decimal-le 1 (session % 4) (omega arith) (omega (arith, low)) (omega (arith, low))
    in simp length-append (omega (arith, digits, commands_short n (session * n) n))

sessions_short : (n session : ℕ) → n ≤ 256 → length (sessions_text n session) ≤ session * 4128
unfolding sessions_text
sessions_short n zero few = lit≤ tt
sessions_short n (suc session) few = simp length-append (omega (arith, few, sessions_short n session few, session_short n session))

pub generated_short : (n : ℕ) → n ≤ 256 → length (generated_text n) ≤ most_text_bytes
generated_short n few = rw (written n) (simp length-append (omega (arith, head_short, sessions_short n 16 few)))
