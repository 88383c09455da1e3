-- A line is read as the event whose text it is.
use Rattle.std.proofs.Common.{◌≡◌, ℕ, ◌≤◌, false, List, [], ◌∷◌, ◌++◌, length, Ok, Err, ℤ, refl, sym, ◌∙◌, ap, append_assoc, append-nil}
use Rattle.std.specs.Prelude.{codes, decimal, flat_map}
use Rattle.std.specs.Fmt.{signed_decimal}
use Rattle.carol_text.specs.Number.{starts_with_digit}
use Rattle.carol_text.specs.Reading.{Reading, ◌>>=◌, word_at}
use Rattle.carol_text.proofs.Laws.{bind_ok, word_takes, word_again}
use Rattle.carol_event.specs.declared.event.Cause.{Cause}
use Rattle.carol_event.specs.declared.event.Event.{Event}
use Rattle.carol_event.specs.declared.event.Event.TheVariants.{Grant, Query, Issue, Release, Return, Refuse, Deliver, Cut, Join}
use Rattle.carol_event.specs.declared.kind.Kind.{Kind}
use Rattle.carol_event.specs.declared.kind.Kind.TheVariants as kind
use Rattle.carol_event.specs.Kinds.{kind_of, word_of}
use Rattle.carol_event.specs.Lines.{at_end, atom_at, both_at, cause_at, event_at, fields_at, items_at, number32_at, pair_at, value_at, wide_at}
use Rattle.carol_event.specs.Numbers.{ArePair, Each, HasNumbers, HasNumbersOf, IsAtom, IsNumber, IsValue, IsWide}
use Rattle.carol_event.specs.Texts.{atom_text, atoms_text, cause_text, event_text, pair_text, values_text}
use Rattle.carol_event.proofs.Causes.{exact_cause}
use Rattle.carol_event.proofs.Exact.{IsExact, end_takes, exact_atom, exact_both, exact_number, exact_pair, exact_value, exact_wide, items_again, items_take}

pub exact_return : IsExact (λ (p : ℕ × ℤ). IsNumber p.0 × IsWide p.1) (λ (p : ℕ × ℤ). decimal p.0 ++ (codes " " ++ signed_decimal p.1)) (both_at number32_at (codes " ") wide_at)
exact_return = exact_both IsNumber decimal number32_at IsWide signed_decimal wide_at (codes " ") exact_number exact_wide (λ rest. refl)

pub exact_refuse : IsExact (λ (p : ℕ × Cause). IsNumber p.0 × HasNumbersOf p.1) (λ (p : ℕ × Cause). decimal p.0 ++ (codes " " ++ cause_text p.1)) (both_at number32_at (codes " ") cause_at)
exact_refuse = exact_both IsNumber decimal number32_at HasNumbersOf cause_text cause_at (codes " ") exact_number exact_cause (λ rest. refl)

pub exact_deliver : IsExact (λ (p : ℕ × (ℕ × ℕ)). IsNumber p.0 × ArePair p.1.0 p.1.1) (λ (p : ℕ × (ℕ × ℕ)). decimal p.0 ++ (codes " " ++ pair_text p.1.0 p.1.1)) (both_at number32_at (codes " ") pair_at)
exact_deliver =
    exact_both IsNumber decimal number32_at (λ (p : ℕ × ℕ). ArePair p.0 p.1) (λ (p : ℕ × ℕ). pair_text p.0 p.1) pair_at (codes " ") exact_number exact_pair (λ rest. refl)

pub refuse_joined : (a b : List ℕ) → codes "refuse " ++ (a ++ (codes " " ++ b)) ≡ (codes "refuse " ++ (a ++ codes " ")) ++ b
refuse_joined a b = sym (append_assoc (codes "refuse ") (a ++ codes " ") b ∙ ap (λ (rest : List ℕ). codes "refuse " ++ rest) (append_assoc a (codes " ") b))

-- one part, and the end of the line
module _ {X : Type 0} (fits : X → Type 0) (text : X → List ℕ) (read : List ℕ → Reading X) (make : X → Event) where
  ended_take : IsExact fits text read → (bytes : List ℕ) (event : Event) → (read bytes >>= λ x. at_end (make x.0) x.1) ≡ Ok event → (x : X) × (make x ≡ event) × fits x × (bytes ≡ text x)
  ended_take exact bytes event e =
      let one = bind_ok (read bytes) (λ x. at_end (make x.0) x.1) event e
      in let end = end_takes (make one.0.0) event one.0.1 one.2
      in let t = exact.takes bytes one.0.0 one.0.1 one.1
      in (one.0.0, end.0, t.0, t.1 ∙ ap (λ (rest : List ℕ). text one.0.0 ++ rest) end.1 ∙ append-nil (text one.0.0))

  ended_again : IsExact fits text read → (x : X) → fits x → (read (text x) >>= λ y. at_end (make y.0) y.1) ≡ Ok (make x)
  ended_again exact x h =
      let again : read (text x) ≡ Ok (x, []) = rw append-nil at (exact.again x [] h refl)
      in rw again refl

-- a pair, and items up to the end of the line
module _ {X : Type 0} (fits : X → Type 0) (text : X → List ℕ) (read : List ℕ → Reading X) (make : ℕ → ℕ → List X → Event) where
  listed_take : IsExact fits text read → (bytes : List ℕ) (event : Event) → (pair_at bytes >>= λ x. items_at read 16 x.1 >>= λ xs. Ok (make x.0.0 x.0.1 xs)) ≡ Ok event → (m n : ℕ) × (xs : List X) × (make m n xs ≡ event) × (ArePair m n × Each fits xs × (length xs ≤ 16)) × (bytes ≡ pair_text m n ++ flat_map (λ x. codes " " ++ text x) xs)
  listed_take exact bytes event e =
      let one = bind_ok (pair_at bytes) (λ x. items_at read 16 x.1 >>= λ xs. Ok (make x.0.0 x.0.1 xs)) event e
      in let two = bind_ok (items_at read 16 one.0.1) (λ xs. Ok (make one.0.0.0 one.0.0.1 xs)) event one.2
      in let t = exact_pair.takes bytes one.0.0 one.0.1 one.1
      in let is = items_take fits text read exact 16 one.0.1 two.0 two.1
      in (one.0.0.0, one.0.0.1, two.0, cc, (t.0, is.0, is.1), t.1 ∙ ap (λ (rest : List ℕ). pair_text one.0.0.0 one.0.0.1 ++ rest) is.2)

  listed_again : IsExact fits text read → (m n : ℕ) (xs : List X) → ArePair m n → Each fits xs → length xs ≤ 16 → (pair_at (pair_text m n ++ flat_map (λ x. codes " " ++ text x) xs) >>= λ x. items_at read 16 x.1 >>= λ ys. Ok (make x.0.0 x.0.1 ys)) ≡ Ok (make m n xs)
  listed_again exact m n xs pair each few =
      rw (exact_pair.again (m, n) (flat_map (λ x. codes " " ++ text x) xs) pair (stops xs), items_again fits text read exact 16 xs each few) refl
    where
      stops : (xs : List X) → starts_with_digit (flat_map (λ x. codes " " ++ text x) xs) ≡ false
      stops [] = refl
      stops (x ∷ xs) = refl

taken : (word bytes body : List ℕ) (made event : Event) → HasNumbers made → made ≡ event → bytes ≡ body → word ++ body ≡ event_text made → HasNumbers event × (word ++ bytes ≡ event_text event)
taken word bytes body made event fits same is spelled = rw (← same, is) (fits, spelled)

fields_take : (k : Kind) (bytes : List ℕ) (event : Event) → fields_at k bytes ≡ Ok event → HasNumbers event × (word_of k ++ bytes ≡ event_text event)
unfolding fields_at word_of event_text
fields_take kind.Grant bytes event e =
    let t = ended_take (λ (p : ℕ × ℕ). ArePair p.0 p.1) (λ (p : ℕ × ℕ). pair_text p.0 p.1) pair_at (λ (p : ℕ × ℕ). Grant p.0 p.1) exact_pair bytes event e
    in taken (word_of kind.Grant) bytes (pair_text t.0.0 t.0.1) (Grant t.0.0 t.0.1) event t.2 t.1 t.3 refl
fields_take kind.Query bytes event e =
    let t = listed_take IsValue signed_decimal value_at Query exact_value bytes event e
    in taken (word_of kind.Query) bytes (pair_text t.0 t.1 ++ values_text t.2) (Query t.0 t.1 t.2) event t.4 t.3 t.5 (sym (append_assoc (codes "query ") (pair_text t.0 t.1) (values_text t.2)))
fields_take kind.Issue bytes event e =
    let t = listed_take IsAtom atom_text atom_at Issue exact_atom bytes event e
    in taken (word_of kind.Issue) bytes (pair_text t.0 t.1 ++ atoms_text t.2) (Issue t.0 t.1 t.2) event t.4 t.3 t.5 (sym (append_assoc (codes "issue ") (pair_text t.0 t.1) (atoms_text t.2)))
fields_take kind.Release bytes event e =
    let t = ended_take IsNumber decimal number32_at Release exact_number bytes event e
    in taken (word_of kind.Release) bytes (decimal t.0) (Release t.0) event t.2 t.1 t.3 refl
fields_take kind.Return bytes event e =
    let t = ended_take (λ (p : ℕ × ℤ). IsNumber p.0 × IsWide p.1) (λ (p : ℕ × ℤ). decimal p.0 ++ (codes " " ++ signed_decimal p.1)) (both_at number32_at (codes " ") wide_at) (λ (p : ℕ × ℤ). Return p.0 p.1) exact_return bytes event e
    in taken (word_of kind.Return) bytes (decimal t.0.0 ++ (codes " " ++ signed_decimal t.0.1)) (Return t.0.0 t.0.1) event t.2 t.1 t.3 refl
fields_take kind.Refuse bytes event e =
    let t = ended_take (λ (p : ℕ × Cause). IsNumber p.0 × HasNumbersOf p.1) (λ (p : ℕ × Cause). decimal p.0 ++ (codes " " ++ cause_text p.1)) (both_at number32_at (codes " ") cause_at) (λ (p : ℕ × Cause). Refuse p.0 p.1) exact_refuse bytes event e
    in taken (word_of kind.Refuse) bytes (decimal t.0.0 ++ (codes " " ++ cause_text t.0.1)) (Refuse t.0.0 t.0.1) event t.2 t.1 t.3 (refuse_joined (decimal t.0.0) (cause_text t.0.1))
fields_take kind.Deliver bytes event e =
    let t = ended_take (λ (p : ℕ × (ℕ × ℕ)). IsNumber p.0 × ArePair p.1.0 p.1.1) (λ (p : ℕ × (ℕ × ℕ)). decimal p.0 ++ (codes " " ++ pair_text p.1.0 p.1.1)) (both_at number32_at (codes " ") pair_at) (λ (p : ℕ × (ℕ × ℕ)). Deliver p.0 p.1.0 p.1.1) exact_deliver bytes event e
    in taken (word_of kind.Deliver) bytes (decimal t.0.0 ++ (codes " " ++ pair_text t.0.1.0 t.0.1.1)) (Deliver t.0.0 t.0.1.0 t.0.1.1) event t.2 t.1 t.3 refl
fields_take kind.Cut bytes event e =
    let t = ended_take (λ (p : ℕ × ℕ). ArePair p.0 p.1) (λ (p : ℕ × ℕ). pair_text p.0 p.1) pair_at (λ (p : ℕ × ℕ). Cut p.0 p.1) exact_pair bytes event e
    in taken (word_of kind.Cut) bytes (pair_text t.0.0 t.0.1) (Cut t.0.0 t.0.1) event t.2 t.1 t.3 refl
fields_take kind.Join bytes event e =
    let t = ended_take (λ (p : ℕ × ℕ). ArePair p.0 p.1) (λ (p : ℕ × ℕ). pair_text p.0 p.1) pair_at (λ (p : ℕ × ℕ). Join p.0 p.1) exact_pair bytes event e
    in taken (word_of kind.Join) bytes (pair_text t.0.0 t.0.1) (Join t.0.0 t.0.1) event t.2 t.1 t.3 refl

pub event_take : (line : List ℕ) (event : Event) → event_at line ≡ Ok event → HasNumbers event × (line ≡ event_text event)
unfolding event_at
event_take line event e =
    let one = bind_ok (word_at (word_of (kind_of line)) line) (λ rest. fields_at (kind_of line) rest) event e
    in let t = fields_take (kind_of line) one.0 event one.2
    in (t.0, word_takes (word_of (kind_of line)) line one.0 one.1 ∙ t.1)

by_kind : (k : Kind) (body : List ℕ) (event : Event) → kind_of (word_of k ++ body) ≡ k → fields_at k body ≡ Ok event → event_at (word_of k ++ body) ≡ Ok event
unfolding event_at
by_kind k body event is read = rw (is, word_again (word_of k) body) read

pub event_again : (event : Event) → HasNumbers event → event_at (event_text event) ≡ Ok event
unfolding fields_at word_of event_text kind_of
event_again (Grant session guard) h =
    by_kind kind.Grant (pair_text session guard) (Grant session guard) refl (ended_again (λ (p : ℕ × ℕ). ArePair p.0 p.1) (λ (p : ℕ × ℕ). pair_text p.0 p.1) pair_at (λ (p : ℕ × ℕ). Grant p.0 p.1) exact_pair (session, guard) h)
event_again (Query session guard store) h =
    ap event_at (append_assoc (codes "query ") (pair_text session guard) (values_text store)) ∙
    by_kind kind.Query (pair_text session guard ++ values_text store) (Query session guard store) refl (listed_again IsValue signed_decimal value_at Query exact_value session guard store h.0 h.1 h.2)
event_again (Issue session entry effect) h =
    ap event_at (append_assoc (codes "issue ") (pair_text session entry) (atoms_text effect)) ∙
    by_kind kind.Issue (pair_text session entry ++ atoms_text effect) (Issue session entry effect) refl (listed_again IsAtom atom_text atom_at Issue exact_atom session entry effect h.0 h.1 h.2)
event_again (Release session) h =
    by_kind kind.Release (decimal session) (Release session) refl (ended_again IsNumber decimal number32_at Release exact_number session h)
event_again (Return session value) h =
    by_kind kind.Return (decimal session ++ (codes " " ++ signed_decimal value)) (Return session value) refl
    (ended_again (λ (p : ℕ × ℤ). IsNumber p.0 × IsWide p.1) (λ (p : ℕ × ℤ). decimal p.0 ++ (codes " " ++ signed_decimal p.1)) (both_at number32_at (codes " ") wide_at) (λ (p : ℕ × ℤ). Return p.0 p.1) exact_return (session, value) h)
event_again (Refuse session cause) h =
    ap event_at (sym (refuse_joined (decimal session) (cause_text cause))) ∙
    by_kind kind.Refuse (decimal session ++ (codes " " ++ cause_text cause)) (Refuse session cause) refl
    (ended_again (λ (p : ℕ × Cause). IsNumber p.0 × HasNumbersOf p.1) (λ (p : ℕ × Cause). decimal p.0 ++ (codes " " ++ cause_text p.1)) (both_at number32_at (codes " ") cause_at) (λ (p : ℕ × Cause). Refuse p.0 p.1) exact_refuse (session, cause) h)
event_again (Deliver source target entry) h =
    by_kind kind.Deliver (decimal source ++ (codes " " ++ pair_text target entry)) (Deliver source target entry) refl
    (ended_again (λ (p : ℕ × (ℕ × ℕ)). IsNumber p.0 × ArePair p.1.0 p.1.1) (λ (p : ℕ × (ℕ × ℕ)). decimal p.0 ++ (codes " " ++ pair_text p.1.0 p.1.1)) (both_at number32_at (codes " ") pair_at) (λ (p : ℕ × (ℕ × ℕ)). Deliver p.0 p.1.0 p.1.1) exact_deliver (source, (target, entry)) h)
event_again (Cut a b) h =
    by_kind kind.Cut (pair_text a b) (Cut a b) refl (ended_again (λ (p : ℕ × ℕ). ArePair p.0 p.1) (λ (p : ℕ × ℕ). pair_text p.0 p.1) pair_at (λ (p : ℕ × ℕ). Cut p.0 p.1) exact_pair (a, b) h)
event_again (Join a b) h =
    by_kind kind.Join (pair_text a b) (Join a b) refl (ended_again (λ (p : ℕ × ℕ). ArePair p.0 p.1) (λ (p : ℕ × ℕ). pair_text p.0 p.1) pair_at (λ (p : ℕ × ℕ). Join p.0 p.1) exact_pair (a, b) h)

-- where a line is the text of an event, that one is read
pub same_event : (line : List ℕ) (read event : Event) → HasNumbers event → line ≡ event_text event → event_at line ≡ Ok read → read ≡ event
same_event line read event fits is e =
    let again : event_at line ≡ Ok event = rw is (event_again event fits)
    in let same : Ok read ≡ Ok event = sym e ∙ again
    in cc

pub no_event : (line : List ℕ) (bad : ℕ) (event : Event) → HasNumbers event → line ≡ event_text event → event_at line ≡ Err bad → ⊥
no_event line bad event fits is e =
    let again : event_at line ≡ Ok event = rw is (event_again event fits)
    in cc
