-- Assignments that are tried one after another.
use Rattle.std.proofs.Common.{◌≡◌, ◌<◌, ◌≤◌, ℕ, List, [], ◌∷◌, ◌++◌, length, map, refl, sym, ◌∙◌, ap, subst, inl, inr, arith, append_assoc}
use Rattle.std.specs.Prelude.{ℤ, Result, Ok, Err, Some, None, Option, IfOk, IfErr}
use Rattle.std.specs.List.{All, AllByRecursion, Contains}
use Rattle.std.proofs.lemmas.Bool.{cases_lt}
use Rattle.std.proofs.lemmas.List.{map-append, append-nil}
use Rattle.std.proofs.lemmas.List.Elements.{All-contains, All-from_recursion}
use Rattle.carol_formula.specs.Numbers.{number_at}
use Rattle.carol_program.specs.declared.places.Place.{Place}
use Rattle.carol_program.specs.Accords.{Accords}
use Rattle.carol_program.specs.Bodies.{queries_in}
use Rattle.carol_program.specs.Rules.{Rules, OpRules}
use Rattle.carol_program.specs.WellFormed.{IsOpOver}
use Rattle.carol_reading.specs.Good.{IsGood}
use Rattle.carol_decide.specs.declared.answer.Why.{Why}
use Rattle.carol_advise_guards.specs.Bars.{bars}
use Rattle.carol_advise_guards.specs.Order.{Ascends, IsBefore, IsOrdered}
use Rattle.carol_advise_guards.specs.Under.{Assigns, IsAssignment, guards_in, op_under}
use Rattle.carol_advise_guards.proofs.Guarding.{own_assigns, own_same}
use Rattle.carol_advise_guards.proofs.Lists.{all-append, all-first, all-map, all-second, all_both}
use Rattle.carol_advise.specs.declared.answer.Advice.{Advice}
use Rattle.carol_advise.specs.declared.answer.Rejected.{Rejected}
use Rattle.carol_advise.specs.declared.answer.AdviseError.{AdviseError}
use Rattle.carol_advise.specs.declared.answer.AdviseError.TheVariants.{TooMany, Undecided, NoMemory}
use Rattle.carol_advise.specs.Attempts.{IsBad, IsStopped}
use Rattle.carol_advise.specs.Advised.{IsAdvice, IsLeast, IsOpen, IsReason}
use Rattle.carol_advise.specs.Tried.{HasBreach, IsDoubtfulUnder, IsGoodUnder, IsRejected, guards_of}
use Rattle.carol_advise.proofs.Orders.{ascends-first, listed_before}

-- those that are rejected are the first of the list, these are left of it, and under none of the first the
-- operation is good
pub record Trying (p : Rules) (number : ℕ) (op : OpRules) (list : List (List ℕ)) (rejected : List Rejected) (left : List (List ℕ)) : Type 0 where
  pub whole : guards_of rejected ++ left ≡ list
  pub broken : AllByRecursion (IsRejected p number op) rejected
  pub bad : AllByRecursion (λ (r : Rejected). ¬ IsGoodUnder p op r.guards) rejected

pub trying_none : (p : Rules) (number : ℕ) (op : OpRules) (list left : List (List ℕ)) (rejected : List Rejected) → rejected ≡ [] → left ≡ list → Trying p number op list rejected left
trying_none p number op list left rejected none is =
    subst (λ r. Trying p number op list r left) (sym none) (record { whole = is; broken = tt; bad = tt })

pub trying_more : (p : Rules) (number : ℕ) (op : OpRules) (list left more : List (List ℕ)) (gs : List ℕ) (old new : List Rejected) (r : Rejected)
    → left ≡ gs ∷ more → new ≡ old ++ r ∷ [] → IsBad p number op gs r → Trying p number op list old left → Trying p number op list new more
trying_more p number op list left more gs old new r first longer bad t =
    let names : guards_of new ≡ guards_of old ++ gs ∷ [] =
    ap guards_of longer ∙ map-append (λ (x : Rejected). x.guards) old (r ∷ []) ∙ ap (λ hs. guards_of old ++ hs ∷ []) bad.same in
    record {
      whole = ap (λ xs. xs ++ more) names ∙ append_assoc (guards_of old) (gs ∷ []) more ∙ ap (λ xs. guards_of old ++ xs) (sym first) ∙ t.whole;
      broken = subst (AllByRecursion (IsRejected p number op)) (sym longer) (all-append (IsRejected p number op) old (r ∷ []) t.broken (bad.rejected, tt));
      bad = subst (AllByRecursion (λ (x : Rejected). ¬ IsGoodUnder p op x.guards)) (sym longer) (all-append (λ (x : Rejected). ¬ IsGoodUnder p op x.guards) old (r ∷ []) t.bad (bad.bad, tt));
    }

not_below : (a b : ℕ) → (b < a → ⊥) → a ≤ b
not_below a b never = elim (cases_lt b a) [
  | inl h ↦ absurd (never h)
  | inr h ↦ h
]

module _ (p : Rules) (table : Accords) (number : ℕ) (op : OpRules) (list : List (List ℕ)) (ordered : IsOrdered table (length p.guards) (queries_in op.body) list) where
  -- ---- the next of them

  next_there : (left more : List (List ℕ)) (gs : List ℕ) (rejected : List Rejected) → left ≡ gs ∷ more → Trying p number op list rejected left → guards_of rejected ++ (gs ∷ more) ≡ list
  next_there left more gs rejected first t = subst (λ xs. guards_of rejected ++ xs ≡ list) first t.whole

  all_there : (left more : List (List ℕ)) (gs : List ℕ) (rejected : List Rejected) → left ≡ gs ∷ more → Trying p number op list rejected left
      → AllByRecursion (Assigns (length p.guards) op) (guards_of rejected ++ (gs ∷ more))
  all_there left more gs rejected first t = subst (AllByRecursion (Assigns (length p.guards) op)) (sym (next_there left more gs rejected first t)) ordered.each

  pub next_assigns : (left more : List (List ℕ)) (gs : List ℕ) (rejected : List Rejected) → left ≡ gs ∷ more → Trying p number op list rejected left → Assigns (length p.guards) op gs
  next_assigns left more gs rejected first t = (all-second (Assigns (length p.guards) op) (guards_of rejected) (gs ∷ more) (all_there left more gs rejected first t)).0

  -- ---- it is good

  pub advised : (left more : List (List ℕ)) (gs : List ℕ) (a : Advice) → left ≡ gs ∷ more → Trying p number op list a.rejected left
      → IsGoodUnder p op gs → a.guards ≡ gs → a.bars ≡ bars table gs → IsAdvice p table number op a
  advised left more gs a first t good same weight =
      let there = next_there left more gs a.rejected first t in
      let ascends : Ascends table (guards_of a.rejected ++ (gs ∷ more)) = subst (Ascends table) (sym there) ordered.ascends in
      record {
        assigns = subst (Assigns (length p.guards) op) (sym same) (next_assigns left more gs a.rejected first t);
        bars = weight ∙ ap (bars table) (sym same);
        good = subst (IsGoodUnder p op) (sym same) good;
        rejected = t.broken;
        each = all-first (Assigns (length p.guards) op) (guards_of a.rejected) (gs ∷ more) (all_there left more gs a.rejected first t);
        ascends = subst (λ hs. Ascends table (guards_of a.rejected ++ hs ∷ [])) (sym same)
            (ascends-first table (guards_of a.rejected ++ gs ∷ []) more (subst (Ascends table) (sym (append_assoc (guards_of a.rejected) (gs ∷ []) more)) ascends));
        all = λ hs assigns less. listed_before table (length p.guards) (queries_in op.body) list (guards_of a.rejected) more gs hs ordered there assigns (subst (IsBefore table hs) same less);
      }

  -- an assignment under which the operation is good isn't rejected
  not_rejected : (rejected : List Rejected) (hs : List ℕ) → AllByRecursion (λ (r : Rejected). ¬ IsGoodUnder p op r.guards) rejected → IsGoodUnder p op hs → Contains (guards_of rejected) hs → ⊥
  not_rejected rejected hs bad good there =
      All-contains (λ gs. ¬ IsGoodUnder p op gs) (guards_of rejected) hs
      (All-from_recursion (λ gs. ¬ IsGoodUnder p op gs) (guards_of rejected) (all-map (λ gs. ¬ IsGoodUnder p op gs) (λ (r : Rejected). r.guards) rejected bad)) there good

  pub least : (a : Advice) → AllByRecursion (λ (r : Rejected). ¬ IsGoodUnder p op r.guards) a.rejected → IsAdvice p table number op a → IsLeast p table op a
  least a bad is hs assigns good =
      let never : bars table hs < a.bars → ⊥ = λ less. not_rejected a.rejected hs bad good (is.all hs assigns (inl (omega (arith, less, is.bars)))) in
      not_below a.bars (bars table hs) never

  -- ---- it is undecided

  breaches : (rejected : List Rejected) → AllByRecursion (IsRejected p number op) rejected → AllByRecursion (HasBreach p number op) (guards_of rejected)
  breaches rejected all =
      all-map (HasBreach p number op) (λ (r : Rejected). r.guards) rejected
      (all_both (IsRejected p number op) (λ (r : Rejected). HasBreach p number op r.guards) (λ r h. (r.place, number_at r.at, h)) rejected all)

  pub open_at : (left more : List (List ℕ)) (gs hs : List ℕ) (rejected : List Rejected) (place : Place) (why : Why) → left ≡ gs ∷ more → Trying p number op list rejected left
      → hs ≡ gs → IsDoubtfulUnder p number op gs place why → IsOpen p table number op hs place why
  open_at left more gs hs rejected place why first t same doubtful = record {
    assigns = subst (Assigns (length p.guards) op) (sym same) (next_assigns left more gs rejected first t);
    before = λ other assigns less. All-contains (HasBreach p number op) (guards_of rejected) other (All-from_recursion (HasBreach p number op) (guards_of rejected) (breaches rejected t.broken))
        (listed_before table (length p.guards) (queries_in op.body) list (guards_of rejected) more gs other ordered (next_there left more gs rejected first t) assigns (subst (IsBefore table other) same less));
    doubtful = subst (λ xs. IsDoubtfulUnder p number op xs place why) (sym same) doubtful;
  }

  -- ---- there is always one that is good: its own guards

  pub never_out : (left : List (List ℕ)) (rejected : List Rejected) → IsOpOver p.shape (length p.guards) op → IsGood p op → left ≡ [] → Trying p number op list rejected left → ⊥
  never_out left rejected over good none t =
      let all : guards_of rejected ≡ list = sym (append-nil (guards_of rejected)) ∙ ap (λ xs. guards_of rejected ++ xs) (sym none) ∙ t.whole in
      let there : Contains (guards_of rejected) (guards_in op.body) = subst (λ xs. Contains xs (guards_in op.body)) (sym all) (ordered.all (guards_in op.body) (own_assigns p.shape (length p.guards) op over)) in
      not_rejected rejected (guards_in op.body) t.bad (subst (IsGood p) (sym (own_same p.shape (length p.guards) op over)) good) there

  pub never_left : (left : List (List ℕ)) (rejected : List Rejected) → IsOpOver p.shape (length p.guards) op → IsGood p op → length left ≡ 0 → Trying p number op list rejected left → ⊥
  never_left [] rejected over good none t = never_out [] rejected over good refl t
  never_left (gs ∷ left) rejected over good none t = omega (arith, none)

  pub stopped : (left more : List (List ℕ)) (gs asked : List ℕ) (rejected : List Rejected) (error : AdviseError) → left ≡ gs ∷ more → Trying p number op list rejected left
      → asked ≡ gs → IsStopped p number op asked error → IsReason p table number op error
  stopped left more gs asked rejected TooMany first t same h = absurd h
  stopped left more gs asked rejected (Undecided hs place why) first t same h =
      open_at left more gs hs rejected place why first t (h.0 ∙ same) (subst (λ xs. IsDoubtfulUnder p number op xs place why) same h.1)
  stopped left more gs asked rejected NoMemory first t same h = tt
