-- The generated file is one of the grammar, and small.
use Rattle.std.proofs.Common.{ℕ, zero, suc, ◌+◌, ◌*◌, ◌%◌, ◌<◌, Bool, eqb, cond, true, false, inl, inr, List, [], ◌∷◌, ◌++◌, refl, lit≤, arith}
use Rattle.std.specs.Prelude.{codes}
use Rattle.std.specs.Fmt.{digits}
use Rattle.std.specs.List.{AllByRecursion}
use Rattle.std.proofs.lemmas.Nat.{mod_below}
use Rattle.carol_syntax.specs.declared.formulas.ValueKind.TheVariants as way
use Rattle.carol_syntax.specs.Shape.{IsLiteral, IsName, IsTerm, IsNamed, IsOp, IsProgram, IsCommand, IsSession, IsFile}
use Rattle.carol_print.specs.Small.{IsSmall}
use Rattle.carol_generator.specs.Generated.{ident, constant, value, amount, outcome, amount_param, withdraw, deposit, bank, number_drawn, command_drawn, commands_drawn, session_drawn, sessions_drawn, generated_file}

all_more : {A : Type 0} (P : A → Type 0) (xs : List A) (y : A) → AllByRecursion P xs → P y → AllByRecursion P (xs ++ y ∷ [])
all_more P [] y h p = (p, tt)
all_more P (x ∷ xs) y h p = (h.0, all_more P xs y h.1 p)

-- The program.

constant_formed : (n : ℕ) → IsLiteral n → IsTerm (constant n)
constant_formed n h = (lit≤ tt, ((h, tt, inl refl), tt))

amount_formed : IsTerm amount
amount_formed = (lit≤ tt, ((tt, ((lit≤ tt, lit≤ tt), ((refl, lit≤ tt, refl), tt)), inr refl), tt))

outcome_formed : IsTerm outcome
outcome_formed = (lit≤ tt, ((tt, (refl, tt), inr refl), tt))

param_formed : IsNamed amount_param
param_formed = ((refl, lit≤ tt, refl), ((constant_formed 1 (lit≤ tt), amount_formed), (amount_formed, constant_formed 1000 (lit≤ tt))))

balance_formed : IsTerm (value way.Plain (codes "bal" ∷ [])) × IsTerm (value way.Here (codes "bal" ∷ [])) × IsTerm (value way.There (codes "bal" ∷ []))
balance_formed = (
  (lit≤ tt, ((tt, ((lit≤ tt, lit≤ tt), ((refl, lit≤ tt, refl), tt)), inr refl), tt)),
  (lit≤ tt, ((tt, ((lit≤ tt, lit≤ tt), ((refl, lit≤ tt, refl), tt)), inr refl), tt)),
  (lit≤ tt, ((tt, ((lit≤ tt, lit≤ tt), ((refl, lit≤ tt, refl), tt)), inr refl), tt)),
)

seen_formed : IsTerm (value way.Plain (codes "v" ∷ codes "bal" ∷ []))
seen_formed = (lit≤ tt, ((tt, ((lit≤ tt, lit≤ tt), ((refl, lit≤ tt, refl), ((refl, lit≤ tt, refl), tt))), inr refl), tt))

withdraw_formed : IsOp withdraw
withdraw_formed = (
  (refl, lit≤ tt, refl),
  (param_formed, tt),
  ((constant_formed 0 (lit≤ tt), outcome_formed), (outcome_formed, amount_formed)),
  (
    (((refl, lit≤ tt, refl), (refl, lit≤ tt, refl)), tt),
    (amount_formed, seen_formed),
    (((lit≤ tt, (((lit≤ tt, lit≤ tt, ((refl, lit≤ tt, refl), tt)), amount_formed), tt)), tt), amount_formed),
    (tt, constant_formed 0 (lit≤ tt)),
  ),
)

deposit_formed : IsOp deposit
deposit_formed = (
  (refl, lit≤ tt, refl),
  (param_formed, tt),
  (outcome_formed, amount_formed),
  (((lit≤ tt, (((lit≤ tt, lit≤ tt, ((refl, lit≤ tt, refl), tt)), amount_formed), tt)), tt), amount_formed),
)

pub bank_formed : IsProgram bank
bank_formed = record {
  cells = (((refl, lit≤ tt, refl), lit≤ tt), tt);
  invariant = (balance_formed.0, constant_formed 0 (lit≤ tt));
  guards = (((refl, lit≤ tt, refl), (balance_formed.1, balance_formed.2)), tt);
  ops = (withdraw_formed, (deposit_formed, tt));
}

-- The scene.

word_formed : (b : Bool) → IsName (ident (cond b (codes "deposit") (codes "withdraw")))
word_formed true = (refl, lit≤ tt, refl)
word_formed false = (refl, lit≤ tt, refl)

command_formed : (x : ℕ) → IsCommand (command_drawn x)
command_formed x = (
  word_formed (eqb (x % 3) 0),
  (let low : x % 50 < 50 = mod_below x 50 (omega arith) in omega arith, tt),
  lit≤ tt,
)

commands_formed : (n first count : ℕ) → AllByRecursion IsCommand (commands_drawn n first count)
unfolding commands_drawn
commands_formed n first zero = tt
commands_formed n first (suc count) =
    all_more IsCommand (commands_drawn n first count) (command_drawn (number_drawn n (suc (first + count)))) (commands_formed n first count) (command_formed (number_drawn n (suc (first + count))))

session_formed : (n s : ℕ) → IsSession (session_drawn n s)
session_formed n s = (let low : s % 4 < 4 = mod_below s 4 (omega arith) in omega arith, commands_formed n (s * n) n)

sessions_formed : (n s : ℕ) → AllByRecursion IsSession (sessions_drawn n s)
unfolding sessions_drawn
sessions_formed n zero = tt
sessions_formed n (suc s) = all_more IsSession (sessions_drawn n s) (session_drawn n s) (sessions_formed n s) (session_formed n s)

pub file_formed : (n : ℕ) → IsFile (generated_file n)
file_formed n = record {
  program = bank_formed;
  scene = record { replicas = lit≤ tt; tries = lit≤ tt; workers = lit≤ tt; gossipers = lit≤ tt; sessions = sessions_formed n 16 };
  script = tt;
  parts = (λ e. absurd cc, λ e. absurd cc);
}

pub file_small : (n : ℕ) → IsSmall (generated_file n)
unfolding digits
file_small n = record {
  parts = record {
    invariant = lit≤ tt;
    guards = (lit≤ tt, tt);
    ops = (record { params = (lit≤ tt, tt); gives = lit≤ tt; body = ((tt, tt), lit≤ tt, (((lit≤ tt, tt), tt), lit≤ tt), (tt, lit≤ tt)); shallow = lit≤ tt }, (record { params = (lit≤ tt, tt); gives = lit≤ tt; body = (((lit≤ tt, tt), tt), lit≤ tt); shallow = lit≤ tt }, tt));
  };
  bytes = lit≤ tt;
  script = tt;
}
