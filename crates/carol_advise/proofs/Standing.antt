-- What an accepted program has: its operations, their names and its table.
use Rattle.std.proofs.Common.{◌≡◌, ◌<◌, ◌≤◌, ℕ, zero, suc, List, [], ◌∷◌, length, get_or, map, refl, sym, ◌∙◌, ap, subst, inl, inr, arith}
use Rattle.std.specs.Prelude.{Option, Some, None, option_map, slice_get}
use Rattle.std.specs.List.{AllByRecursion}
use Rattle.std.proofs.lemmas.Option.{slice_get-get_or, slice_get-map, slice_get_within}
use Rattle.carol_program.specs.declared.program.Op.{Op}
use Rattle.carol_program.specs.declared.names.OpNames.{OpNames}
use Rattle.carol_program.specs.Bodies.{queries_in}
use Rattle.carol_program.specs.declared.program.Program.{Program}
use Rattle.carol_program.specs.Limits.{most_queries}
use Rattle.carol_program.specs.Rules.{OpRules, op_rules, rules_in}
use Rattle.carol_program.specs.WellFormed.{AreCalled, AreRules, IsCalled, IsOpOver, IsWellFormed}

some_same : {A : Type 0} (a b : A) → Some a ≡ Some b → a ≡ b
some_same a b e = cc

some_none : {A : Type 0} (a : A) → None ≡ Some a → ⊥
some_none a e = cc

-- the operation with this number, as plain data
pub same_op : (ops : List Op) (number : ℕ) (own : Op) (op : OpRules) → slice_get ops number ≡ Some own → slice_get (map op_rules ops) number ≡ Some op → op_rules own ≡ op
same_op ops number own op is there = some_same (op_rules own) op (sym (slice_get-map op_rules ops number ∙ ap (option_map op_rules) is) ∙ there)

pub op_there : (ops : List Op) (number : ℕ) (own : Op) → slice_get ops number ≡ Some own → slice_get (map op_rules ops) number ≡ Some (op_rules own)
op_there ops number own is = slice_get-map op_rules ops number ∙ ap (option_map op_rules) is

-- what holds of each holds of that with this number
pub all_at : {A : Type 0} (P : A → Type 0) (xs : List A) (number : ℕ) (x : A) → AllByRecursion P xs → slice_get xs number ≡ Some x → P x
all_at P [] number x all is = absurd (some_none x is)
all_at P (y ∷ xs) zero x all is = subst P (some_same y x is) all.0
all_at P (y ∷ xs) (suc number) x all is = all_at P xs number x all.1 is

-- ---- names

pub called_count : (ops : List OpRules) (names : List OpNames) → AreCalled ops names → length ops ≡ length names
called_count [] [] called = refl
called_count [] (name ∷ names) called = absurd called
called_count (op ∷ ops) [] called = absurd called
called_count (op ∷ ops) (name ∷ names) called = ap suc (called_count ops names called.1)

pub called_at : (ops : List OpRules) (names : List OpNames) (number : ℕ) (op : OpRules) (name : OpNames) → AreCalled ops names → slice_get ops number ≡ Some op → slice_get names number ≡ Some name → IsCalled op name
called_at [] names number op name called is there = absurd (some_none op is)
called_at (o ∷ ops) [] number op name called is there = absurd called
called_at (o ∷ ops) (n ∷ names) zero op name called is there = subst (λ x. IsCalled x name) (some_same o op is) (subst (IsCalled o) (some_same n name there) called.0)
called_at (o ∷ ops) (n ∷ names) (suc number) op name called is there = called_at ops names number op name called.1 is there

count_map : (ops : List Op) → length (map op_rules ops) ≡ length ops
count_map [] = refl
count_map (op ∷ ops) = ap suc (count_map ops)

module _ (program : Program) (own : Op) (number : ℕ) (is : slice_get program.ops number ≡ Some own) where
  pub name_there : (listed : List OpNames) → IsWellFormed (rules_in program) program.names → listed ≡ program.names.ops → number < length listed
  name_there listed well same =
      let low : number < length program.ops = slice_get_within program.ops number own is in
      let all : length (map op_rules program.ops) ≡ length program.names.ops = called_count (map op_rules program.ops) program.names.ops well.named.ops in
      let count : length (map op_rules program.ops) ≡ length program.ops = count_map program.ops in
      let there : number < length program.names.ops = omega (arith, low, all, count) in
      subst (λ xs. number < length xs) (sym same) there

  pub over_there : AreRules (rules_in program) → IsOpOver program.shape (length (rules_in program).guards) (op_rules own)
  over_there rules = all_at (IsOpOver program.shape (length (rules_in program).guards)) (map op_rules program.ops) number (op_rules own) rules.ops (op_there program.ops number own is)

  pub queries_there : (listed : List OpNames) (name : OpNames) → IsWellFormed (rules_in program) program.names → listed ≡ program.names.ops → name ≡ get_or listed number name
      → length name.queries ≡ queries_in (op_rules own).body
  queries_there listed name well same item =
      let low = name_there listed well same in
      let there : slice_get listed number ≡ Some name = slice_get-get_or listed number name low ∙ ap Some (sym item) in
      (called_at (map op_rules program.ops) program.names.ops number (op_rules own) name well.named.ops (op_there program.ops number own is)
      (subst (λ xs. slice_get xs number ≡ Some name) same there)).queries

  pub few_there : (count : ℕ) → AreRules (rules_in program) → count ≡ queries_in (op_rules own).body → count ≤ most_queries
  few_there count rules same = subst (λ n. n ≤ most_queries) (sym same) (over_there rules).few_queries
