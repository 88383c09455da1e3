-- What holds of the value of a sentence wherever it stands, if its tokens stand well there.
use Rattle.std.proofs.Common.{◌≡◌, ℕ, true, List, [], ◌∷◌, ◌++◌, Option, refl}
use Rattle.std.specs.Prelude.{Some, None, IfSome}
use Rattle.std.specs.List.{AllByRecursion}
use Rattle.carol_grammar.specs.Sets.{has}
use Rattle.carol_grammar.specs.Rule.{Rule}
use Rattle.carol_grammar.specs.Rule.Rule.{token, both, gives, perhaps, many}
use Rattle.carol_grammar.specs.Sentence.{Language}
use Rattle.carol_grammar.proofs.Says.{Says, says_token, says_gives, says_less, says_both, says_perhaps, says_many}

-- the tokens behind others, the latest first
abbrev pub push : {T : Type 0} → List T → List T → List T
push [] before = before
push (t ∷ ts) before = push ts (t ∷ before)

-- Good holds of the tokens before a list, and behind each token of it
abbrev pub Stand : {T : Type 0} → (List T → Type 0) → List T → List T → Type 0
Stand Good [] before = Good before
Stand Good (t ∷ ts) before = Good before × Stand Good ts (t ∷ before)

pub push-append : {T : Type 0} (xs ys before : List T) → push (xs ++ ys) before ≡ push ys (push xs before)
push-append [] ys before = refl
push-append (x ∷ xs) ys before = push-append xs ys (x ∷ before)

pub stand_front : {T : Type 0} (Good : List T → Type 0) (xs ys before : List T) → Stand Good (xs ++ ys) before → Stand Good xs before
stand_front Good [] [] before g = g
stand_front Good [] (y ∷ ys) before g = g.0
stand_front Good (x ∷ xs) ys before g = (g.0, stand_front Good xs ys (x ∷ before) g.1)

pub stand_back : {T : Type 0} (Good : List T → Type 0) (xs ys before : List T) → Stand Good (xs ++ ys) before → Stand Good ys (push xs before)
stand_back Good [] ys before g = g
stand_back Good (x ∷ xs) ys before g = stand_back Good xs ys (x ∷ before) g.1

pub stand_end : {T : Type 0} (Good : List T → Type 0) (xs before : List T) → Stand Good xs before → Good (push xs before)
stand_end Good [] before g = g
stand_end Good (x ∷ xs) before g = stand_end Good xs (x ∷ before) g.1

abbrev pub Anywhere : {T : Type 0} → List T → Type 0
Anywhere before = Unit {0}

-- P holds of the value where the tokens stand well behind others of which Start holds
pub record Given {T A : Type 0} (Start Good : List T → Type 0) (P : A → Type 0) (ts : List T) (v : A) : Type 0 where
  pub holds : (before : List T) → Start before → Stand Good ts before → P v

-- Start holds behind the tokens, wherever they stand
pub record Opens {T A : Type 0} (Start : List T → Type 0) (ts : List T) (v : A) : Type 0 where
  pub behind : (before : List T) → Start (push ts before)

module _ {T V : Type 0} {Value : V → Type 0} {kind : T → ℕ} {K : (v : V) → Language T (Value v)} {Good : List T → Type 0} where
  pub hold_token : {ks : List ℕ} {P : T → Type 0} → ((t : T) (before : List T) → has ks (kind t) ≡ true → Good (t ∷ before) → P t) → Says kind K (token ks (λ (t : T). t)) (Given Anywhere Good P)
  hold_token h = says_token (λ t e. record { holds = λ before s g. h t before e g.1 })

  -- of a value of which nothing is said
  pub hold_any : {A : Type 0} {r : Rule T V Value A} {Start : List T → Type 0} → Says kind K r (Given Start Good (λ v. Unit {0}))
  hold_any = record { each = λ n deep fit ts v s. record { holds = λ before t g. tt } }

  pub hold_gives : {A B : Type 0} {r : Rule T V Value A} {f : A → B} {Start : List T → Type 0} {P : A → Type 0} {Q : B → Type 0} → Says kind K r (Given Start Good P) → ((v : A) → P v → Q (f v)) → Says kind K (gives f r) (Given Start Good Q)
  hold_gives p h = says_gives p (λ ts v q. record { holds = λ before s g. h v (q.holds before s g) })

  pub hold_both : {A B : Type 0} {r : Rule T V Value A} {s : Rule T V Value B} {Start : List T → Type 0} {P : A → Type 0} {Q : B → Type 0} → Says kind K r (Given Start Good P) → Says kind K s (Given Anywhere Good Q) → Says kind K (both r s) (Given Start Good (λ p. P p.0 × Q p.1))
  hold_both p q = says_both p q (λ xs ys v a b. record {
    holds = λ before s g. (a.holds before s (stand_front Good xs ys before g), b.holds (push xs before) tt (stand_back Good xs ys before g));
  })

  pub hold_perhaps : {A : Type 0} {r : Rule T V Value A} {Start : List T → Type 0} {P : A → Type 0} → Says kind K r (Given Start Good P) → Says kind K (perhaps r) (Given Start Good (λ o. IfSome o P))
  hold_perhaps p = says_perhaps p (record { holds = λ before s g. tt }) (λ ts v q. record { holds = q.holds })

  pub hold_many : {A : Type 0} {r : Rule T V Value A} {P : A → Type 0} → Says kind K r (Given Anywhere Good P) → Says kind K (many r) (Given Anywhere Good (AllByRecursion P))
  hold_many p = says_many p (record { holds = λ before s g. tt }) (λ xs ys v vs a b. record {
    holds = λ before s g. (a.holds before tt (stand_front Good xs ys before g), b.holds (push xs before) tt (stand_back Good xs ys before g));
  })

  -- behind a word, and before one
  pub hold_behind : {A B : Type 0} {r : Rule T V Value A} {s : Rule T V Value B} {P : B → Type 0} → Says kind K s (Given Anywhere Good P) → Says kind K (gives (λ p. p.1) (both r s)) (Given Anywhere Good P)
  hold_behind p = hold_gives (hold_both hold_any p) (λ v h. h.1)

  pub hold_before : {A B : Type 0} {r : Rule T V Value A} {s : Rule T V Value B} {Start : List T → Type 0} {P : A → Type 0} → Says kind K r (Given Start Good P) → Says kind K (gives (λ p. p.0) (both r s)) (Given Start Good P)
  hold_before p = hold_gives (hold_both p hold_any) (λ v h. h.0)

  -- behind a token after which Start holds
  pub hold_opened : {A B : Type 0} {r : Rule T V Value A} {s : Rule T V Value B} {Start : List T → Type 0} {P : B → Type 0} → Says kind K r (Opens Start) → Says kind K s (Given Start Good P) → Says kind K (gives (λ p. p.1) (both r s)) (Given Anywhere Good P)
  hold_opened {Start = Start} {P = P} p q = says_gives {R = Given Anywhere Good (λ v. P v.1)} (says_both p q (λ xs ys v a b. record {
    holds = λ before t g. b.holds (push xs before) (a.behind before) (stand_back Good xs ys before g);
  })) (λ ts v h. record { holds = h.holds })
