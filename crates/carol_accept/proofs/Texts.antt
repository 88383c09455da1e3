-- One line after another.
use Rattle.std.proofs.Common.{◌≡◌, ◌⊎◌, inl, inr, ℕ, ◌+◌, ◌-◌, ◌<◌, ◌≤◌, zero, suc, List, ◌∷◌, ◌++◌, ℤ, sym, subst, ◌∙◌, append_assoc, arith}
use Rattle.std.specs.Prelude.{Result, OnOk}
use Rattle.std.specs.declared.alloc.AllocError.{AllocError}
use Rattle.std.proofs.lemmas.List.{append-nil}
use Rattle.carol_program.specs.declared.names.Names.{Names}
use Rattle.carol_program.specs.declared.places.Place.{Place}
use Rattle.carol_program.specs.declared.places.Place.TheVariants.{Amount, Invariant, Outcome}
use Rattle.carol_program.specs.Rules.{Rules}
use Rattle.carol_program.specs.Variables.{query_variable}
use Rattle.carol_obligation.specs.Decoded.{round_variable}
use Rattle.carol_accept.specs.declared.trail.Asked.{Asked}
use Rattle.carol_accept.specs.declared.trail.Trail.{Trail}
use Rattle.carol_accept.specs.Lines.{line_text, lines_text, numbers_text, op_lines, own_text, queries_text, rounds_text, shown_for}

one_line : (out : List ℕ) (name : ℕ → List ℕ) (f : ℕ → ℤ) (more named shown named' shown' : ℕ) (whole : List ℕ) → named' ≡ named + 1 → shown' ≡ shown + 1 → out ++ numbers_text name f (suc more) named shown ≡ whole → (out ++ line_text (name named) (f shown)) ++ numbers_text name f more named' shown' ≡ whole
one_line out name f more named shown named' shown' whole e g h =
    rw (e, g) (append_assoc out (line_text (name named) (f shown)) (numbers_text name f more (named + 1) (shown + 1)) ∙ h)

-- one variable further
pub numbers_more : (out : List ℕ) (name : ℕ → List ℕ) (f : ℕ → ℤ) (count i named shown : ℕ) (whole : List ℕ) → i < count → out ++ numbers_text name f (count - i) (named + i) (shown + i) ≡ whole → (out ++ line_text (name (named + i)) (f (shown + i))) ++ numbers_text name f (count - (i + 1)) (named + (i + 1)) (shown + (i + 1)) ≡ whole
numbers_more out name f count i named shown whole inside h =
    let here : count - i ≡ suc (count - (i + 1)) = omega arith
    in one_line out name f (count - (i + 1)) (named + i) (shown + i) (named + (i + 1)) (shown + (i + 1)) whole (omega arith) (omega arith)
    (subst (λ n. out ++ numbers_text name f n (named + i) (shown + i) ≡ whole) here h)

-- all variables are through
pub numbers_end : (out : List ℕ) (name : ℕ → List ℕ) (f : ℕ → ℤ) (count i named shown : ℕ) (whole : List ℕ) → count ≤ i → out ++ numbers_text name f (count - i) named shown ≡ whole → out ≡ whole
numbers_end out name f count i named shown whole outside h =
    let here : count - i ≡ zero = omega arith
    in sym (append-nil out) ∙ subst (λ n. out ++ numbers_text name f n named shown ≡ whole) here h

-- one query further
pub queries_more : (out : List ℕ) (name : ℕ → List ℕ) (f : ℕ → ℤ) (cells base : ℕ) (a : Asked) (more left : List Asked) (whole : List ℕ) → left ≡ a ∷ more → base ≡ query_variable a.slot 0 → out ++ queries_text name f cells left ≡ whole → (out ++ numbers_text name f cells base base) ++ queries_text name f cells more ≡ whole
queries_more out name f cells base a more left whole is at h =
    rw at (append_assoc out (own_text name f cells (query_variable a.slot 0)) (queries_text name f cells more) ∙ rw is at h)

-- one round further
pub rounds_more : (out : List ℕ) (name : ℕ → List ℕ) (f : ℕ → ℤ) (cells count i named shown : ℕ) (t : Trail) (whole : List ℕ) → i < count → named ≡ round_variable i 0 → shown ≡ round_variable (shown_for t i) 0 → out ++ rounds_text name f cells t (count - i) i ≡ whole → (out ++ numbers_text name f cells named shown) ++ rounds_text name f cells t (count - (i + 1)) (i + 1) ≡ whole
rounds_more out name f cells count i named shown t whole inside e g h =
    let here : count - i ≡ suc (count - (i + 1)) = omega arith
    in rw (e, g) (append_assoc out (numbers_text name f cells (round_variable i 0) (round_variable (shown_for t i) 0)) (rounds_text name f cells t (count - (i + 1)) (i + 1)) ∙ subst (λ n. out ++ rounds_text name f cells t n i ≡ whole) here h)

-- all rounds are through
pub rounds_end : (out : List ℕ) (name : ℕ → List ℕ) (f : ℕ → ℤ) (cells count i : ℕ) (t : Trail) (whole : List ℕ) → count ≤ i → out ++ rounds_text name f cells t (count - i) i ≡ whole → out ≡ whole
rounds_end out name f cells count i t whole outside h =
    let here : count - i ≡ zero = omega arith
    in sym (append-nil out) ∙ subst (λ n. out ++ rounds_text name f cells t n i ≡ whole) here h

-- the lines at a statement are those of its place
pub at_statement : (p : Rules) (names : Names) (f : ℕ → ℤ) (place : Place) (op number : ℕ) (r : Result (Unit {0}) AllocError) (old new : List ℕ) → ((atom : ℕ) × (place ≡ Amount op number atom)) ⊎ ((place ≡ Invariant op number) ⊎ (place ≡ Outcome op number)) → OnOk r (new ≡ old ++ op_lines p names place op number f) → OnOk r (new ≡ old ++ lines_text p names place f)
unfolding lines_text
at_statement p names f place op number r old new (inl e) h =
    subst (λ x. OnOk r (new ≡ old ++ lines_text p names x f)) (sym e.1) (subst (λ x. OnOk r (new ≡ old ++ op_lines p names x op number f)) e.1 h)
at_statement p names f place op number r old new (inr (inl e)) h =
    subst (λ x. OnOk r (new ≡ old ++ lines_text p names x f)) (sym e) (subst (λ x. OnOk r (new ≡ old ++ op_lines p names x op number f)) e h)
at_statement p names f place op number r old new (inr (inr e)) h =
    subst (λ x. OnOk r (new ≡ old ++ lines_text p names x f)) (sym e) (subst (λ x. OnOk r (new ≡ old ++ op_lines p names x op number f)) e h)
