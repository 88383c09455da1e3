-- Causes are read exactly.
use Rattle.std.proofs.Common.{◌≡◌, ℕ, Bool, true, false, cond, eqb, List, ◌++◌, Ok, refl, sym, append_assoc}
use Rattle.std.specs.Prelude.{codes, decimal, slice_index}
use Rattle.carol_text.specs.Number.{starts_with_digit}
use Rattle.carol_text.specs.Reading.{◌>>=◌, word_at}
use Rattle.carol_text.proofs.Laws.{bind_ok, ok_parts, word_takes, word_again}
use Rattle.carol_event.specs.declared.event.Cause.{Cause}
use Rattle.carol_event.specs.declared.event.Cause.TheVariants.{Barred, Behind}
use Rattle.carol_event.specs.Lines.{barred_at, behind_at, cause_at, number32_at, pair_at}
use Rattle.carol_event.specs.Numbers.{HasNumbersOf}
use Rattle.carol_event.specs.Texts.{cause_text, pair_text}
use Rattle.carol_event.proofs.Exact.{IsExact, exact_number, exact_pair}

taken : (word text bytes one two rest : List ℕ) (made cause : Cause) → HasNumbersOf made → cause_text made ≡ word ++ text → bytes ≡ word ++ one → one ≡ text ++ two → made ≡ cause → two ≡ rest → HasNumbersOf cause × (bytes ≡ cause_text cause ++ rest)
taken word text bytes one two rest made cause fits is a b same_cause same_rest = rw (← same_cause, ← same_rest, is, a, b) (fits, sym (append_assoc word text two))

behind_take : (bytes : List ℕ) (cause : Cause) (rest : List ℕ) → behind_at bytes ≡ Ok (cause, rest) → HasNumbersOf cause × (bytes ≡ cause_text cause ++ rest)
unfolding cause_text
behind_take bytes cause rest e =
    let one = bind_ok (word_at (codes "behind ") bytes) (λ left. number32_at left >>= λ x. Ok (Behind x.0, x.1)) (cause, rest) e
    in let two = bind_ok (number32_at one.0) (λ x. Ok (Behind x.0, x.1)) (cause, rest) one.2
    in let same = ok_parts (Behind two.0.0) cause two.0.1 rest two.2
    in let t = exact_number.takes one.0 two.0.0 two.0.1 two.1
    in taken (codes "behind ") (decimal two.0.0) bytes one.0 two.0.1 rest (Behind two.0.0) cause t.0 refl (word_takes (codes "behind ") bytes one.0 one.1) t.1 same.0 same.1

barred_take : (bytes : List ℕ) (cause : Cause) (rest : List ℕ) → barred_at bytes ≡ Ok (cause, rest) → HasNumbersOf cause × (bytes ≡ cause_text cause ++ rest)
unfolding cause_text
barred_take bytes cause rest e =
    let one = bind_ok (word_at (codes "barred ") bytes) (λ left. pair_at left >>= λ x. Ok (Barred x.0.0 x.0.1, x.1)) (cause, rest) e
    in let two = bind_ok (pair_at one.0) (λ x. Ok (Barred x.0.0 x.0.1, x.1)) (cause, rest) one.2
    in let same = ok_parts (Barred two.0.0.0 two.0.0.1) cause two.0.1 rest two.2
    in let t = exact_pair.takes one.0 two.0.0 two.0.1 two.1
    in taken (codes "barred ") (pair_text two.0.0.0 two.0.0.1) bytes one.0 two.0.1 rest (Barred two.0.0.0 two.0.0.1) cause t.0 refl (word_takes (codes "barred ") bytes one.0 one.1) t.1 same.0 same.1

cause_take : (bytes : List ℕ) (cause : Cause) (rest : List ℕ) → cause_at bytes ≡ Ok (cause, rest) → HasNumbersOf cause × (bytes ≡ cause_text cause ++ rest)
cause_take bytes cause rest e = by_test (eqb (slice_index bytes 1) 101) e
  where
    by_test : (b : Bool) → cond b (behind_at bytes) (barred_at bytes) ≡ Ok (cause, rest) → HasNumbersOf cause × (bytes ≡ cause_text cause ++ rest)
    by_test true h = behind_take bytes cause rest h
    by_test false h = barred_take bytes cause rest h

cause_again : (cause : Cause) (rest : List ℕ) → HasNumbersOf cause → starts_with_digit rest ≡ false → cause_at (cause_text cause ++ rest) ≡ Ok (cause, rest)
unfolding cause_text
cause_again (Barred session guard) rest fits end =
    rw (append_assoc (codes "barred ") (pair_text session guard) rest)
    (rw (word_again (codes "barred ") (pair_text session guard ++ rest), exact_pair.again (session, guard) rest fits end) refl)
cause_again (Behind entry) rest fits end =
    rw (append_assoc (codes "behind ") (decimal entry) rest)
    (rw (word_again (codes "behind ") (decimal entry ++ rest), exact_number.again entry rest fits end) refl)

pub exact_cause : IsExact HasNumbersOf cause_text cause_at
exact_cause = record { takes = cause_take; again = cause_again }
