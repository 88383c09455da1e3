-- The bank is accepted.
use Rattle.std.proofs.Common.{◌≡◌, ℕ, ◌+◌, false, inl, inr, List, [], ◌∷◌, ◌++◌, length, map, refl, lit≤}
use Rattle.std.specs.Prelude.{ℤ}
use Rattle.std.specs.List.{AllByRecursion}
use Rattle.carol_formula.specs.Numbers.{number_at}
use Rattle.carol_decide.specs.declared.answer.Why.{Why}
use Rattle.carol_program.specs.declared.places.Place.{Place}
use Rattle.carol_program.specs.Rules.{Rules, OpRules}
use Rattle.carol_program.specs.WellFormed.{AreRules, IsOpOver}
use Rattle.carol_reading.specs.Good.{IsAccepted, IsGood}
use Rattle.carol_reading.specs.Rounds.{MeetsInvariant}
use Rattle.carol_obligation.specs.Formed.{obligation_at}
use Rattle.carol_obligation.specs.GoodLaw.{HasNoBreach, NoBreachIsGood}
use Rattle.carol_obligation.specs.Places.{sites_of}
use Rattle.carol_obligation.specs.Sites.{Site}
use Rattle.carol_obligation.specs.Spots.{Spot, spot_at, spots_from}
use Rattle.carol_obligation.specs.TruthLaw.{IsExact, FormulasAreExact}
use Rattle.carol_typecheck.specs.First.{First}
use Rattle.carol_typecheck.specs.Readings.{IsSafe, IsBroken, IsDoubtful, IsVerdictFor}
use Rattle.carol_typecheck.specs.declared.verdict.Verdict.TheVariants as verdict
use Rattle.carol_typecheck.specs.declared.verdict.Verdict.{Verdict}
use Rattle.carol_meaning.specs.Laws.{FaultlessIsWellFormed}
use Rattle.carol_meaning.specs.Programs.{rules_of}
use Rattle.carol_meaning.specs.Sizes.{IsShortProgram}
use Rattle.carol_generator.specs.Generated.{bank}
use Rattle.carol_generator.proofs.Formed.{bank_formed}
use Rattle.carol_bank.specs.Law.{BankIsAccepted}
use Rattle.carol_bank.proofs.Meant.{meant}
use Rattle.carol_bank.proofs.Spots.{IsSettled, AreSettled, all_settled}
use Rattle.carol_bank.proofs.Guard.{low_reflexive, not_reflexive, never_open}

-- ---- lists

all_append : {A : Type 0} (P : A → Type 0) (xs ys : List A) → AllByRecursion P xs → AllByRecursion P ys → AllByRecursion P (xs ++ ys)
all_append P [] ys h k = k
all_append P (x ∷ xs) ys h k = (h.0, all_append P xs ys h.1 k)

all_map : {A B : Type 0} (P : B → Type 0) (f : A → B) (xs : List A) → AllByRecursion (λ x. P (f x)) xs → AllByRecursion P (map f xs)
all_map P f [] h = tt
all_map P f (x ∷ xs) h = (h.0, all_map P f xs h.1)

all_two : {A : Type 0} (P Q R : A → Type 0) → ((x : A) → P x → Q x → R x) → (xs : List A) → AllByRecursion P xs → AllByRecursion Q xs → AllByRecursion R xs
all_two P Q R f [] h k = tt
all_two P Q R f (x ∷ xs) h k = (f x h.0 k.0, all_two P Q R f xs h.1 k.1)

none_first : {A : Type 0} (P Q R : A → Type 0) → ((x : A) → R x → Q x → ⊥) → (xs : List A) → AllByRecursion R xs → First P Q xs → ⊥
none_first P Q R f [] h k = k
none_first P Q R f (x ∷ xs) h (inl q) = f x h.0 q
none_first P Q R f (x ∷ xs) h (inr k) = none_first P Q R f xs h.1 k.1

-- ---- sites

-- no breach, and no doubt
pub record IsClear (p : Rules) (op : OpRules) (site : Site) : Type 0 where
  pub settled : IsSettled p op site
  pub exact : IsExact p op site

no_breach : (p : Rules) (op : OpRules) (site : Site) → IsClear p op site → HasNoBreach p op site
no_breach p op site c f b = c.settled.holds f (meant (obligation_at p op site) false f ((c.exact f).1 b))

abbrev IsClearSpot : Rules → Spot → Type 0
IsClearSpot p s = IsClear p s.op s.site

clear_spots : (p : Rules) (number : ℕ) (ops : List OpRules) → AllByRecursion (λ op. AllByRecursion (IsClear p op) (sites_of p op)) ops → AllByRecursion (IsClearSpot p) (spots_from p number ops)
clear_spots p number [] h = tt
clear_spots p number (op ∷ ops) h =
    all_append (IsClearSpot p) (map (spot_at number op) (sites_of p op)) (spots_from p (number + 1) ops)
    (all_map (IsClearSpot p) (spot_at number op) (sites_of p op) h.0) (clear_spots p (number + 1) ops h.1)

-- ---- the bank

abbrev p : Rules
p = rules_of bank

bank_short : IsShortProgram bank
bank_short = record {
  invariant = (lit≤ tt, (lit≤ tt, lit≤ tt));
  guards = ((lit≤ tt, (lit≤ tt, lit≤ tt)), tt);
  ops = (
    record {
      params = ((lit≤ tt, ((lit≤ tt, lit≤ tt), (lit≤ tt, lit≤ tt))), tt);
      gives = (lit≤ tt, ((lit≤ tt, lit≤ tt), (lit≤ tt, lit≤ tt)));
      body = record { parts = ((tt, tt), (lit≤ tt, (lit≤ tt, lit≤ tt)), (((lit≤ tt, tt), tt), lit≤ tt), (tt, lit≤ tt)); shallow = lit≤ tt; short = lit≤ tt };
    },
    (
      record {
        params = ((lit≤ tt, ((lit≤ tt, lit≤ tt), (lit≤ tt, lit≤ tt))), tt);
        gives = (lit≤ tt, (lit≤ tt, lit≤ tt));
        body = record { parts = (((lit≤ tt, tt), tt), lit≤ tt); shallow = lit≤ tt; short = lit≤ tt };
      },
      tt,
    ),
  );
}

starts : MeetsInvariant p p.initial
starts = refl

module _ (well : FaultlessIsWellFormed) (good : NoBreachIsGood) (exact : FormulasAreExact) where
  rules : AreRules p
  rules = (well bank bank_formed bank_short refl).rules

  clear_op : (op : OpRules) → AreSettled p op → IsOpOver p.shape (length p.guards) op → AllByRecursion (IsClear p op) (sites_of p op)
  clear_op op s o =
      all_two (IsSettled p op) (IsExact p op) (IsClear p op) (λ site a b. record { settled = a; exact = b }) (sites_of p op) s (exact p op rules o)

  all_clear : AllByRecursion (λ op. AllByRecursion (IsClear p op) (sites_of p op)) p.ops
  all_clear = all_two (AreSettled p) (IsOpOver p.shape (length p.guards)) (λ op. AllByRecursion (IsClear p op) (sites_of p op)) clear_op p.ops all_settled rules.ops

  good_op : (op : OpRules) → AllByRecursion (IsClear p op) (sites_of p op) → IsOpOver p.shape (length p.guards) op → IsGood p op
  good_op op c o =
      (good p op rules o).0
      (all_two (IsClear p op) (IsClear p op) (HasNoBreach p op) (λ site a b. no_breach p op site a) (sites_of p op) c c)

  accepted : IsAccepted p
  accepted = record {
    initial = starts;
    reflexive = (low_reflexive, tt);
    good = all_two (λ op. AllByRecursion (IsClear p op) (sites_of p op)) (IsOpOver p.shape (length p.guards)) (IsGood p) good_op p.ops all_clear rules.ops;
  }

  never_fails : (place : Place) (at : ℕ → ℤ) → First (IsSafe p) (IsBroken p place at) (spots_from p 0 p.ops) → ⊥
  never_fails place at h =
      none_first (IsSafe p) (IsBroken p place at) (IsClearSpot p) (λ s c b. no_breach p s.op s.site c at b.1) (spots_from p 0 p.ops) (clear_spots p 0 p.ops all_clear) h

  never_doubtful : (place : Place) (why : Why) → First (IsSafe p) (IsDoubtful p place why) (spots_from p 0 p.ops) → ⊥
  never_doubtful place why h =
      none_first (IsSafe p) (IsDoubtful p place why) (IsClearSpot p) (λ s c d. c.settled.closed why d.1.stuck) (spots_from p 0 p.ops) (clear_spots p 0 p.ops all_clear) h

  good_verdict : (v : Verdict) → IsVerdictFor p v → v ≡ verdict.Good
  good_verdict verdict.Good h = refl
  good_verdict (verdict.Fails place at) h = absurd (never_fails place (number_at at) h)
  good_verdict (verdict.Undecided place why) h = absurd (never_doubtful place why h)

  pub bank_accepted : BankIsAccepted
  bank_accepted = record { accepted = accepted; guards = not_reflexive; accords = never_open; verdict = good_verdict }
