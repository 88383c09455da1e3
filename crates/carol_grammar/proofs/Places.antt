-- How a token is counted where it stands, and what may come behind it.
use Rattle.std.proofs.Common.{◌≡◌, ℕ, ◌+◌, ◌≤◌, Bool, true, false, cond, not, eqb, ◌&&◌, List, [], ◌∷◌, ◌++◌, length, Option, refl, sym, ap, subst, arith}
use Rattle.std.specs.Prelude.{Some}
use Rattle.carol_grammar.specs.Sets.{has}
use Rattle.carol_syntax.specs.Limits.{most_formula_nodes, most_body_depth}
use Rattle.carol_syntax.specs.Size.{most_items}
use Rattle.carol_syntax.specs.declared.kind.Kind.{Kind}
use Rattle.carol_syntax.specs.declared.kind.Kind.TheVariants as k
use Rattle.carol_syntax.specs.declared.lexeme.Lexeme.{Lexeme}
use Rattle.carol_grammar.specs.Terminals.{number_of, class_of, numeral}
use Rattle.carol_grammar.specs.Rules.{numbers}
use Rattle.carol_grammar.specs.Limits.{latest, second, is_name, is_let, is_size, counts_anew, begins_value, weight, nodes_with, nodes, depth, depth_with}

-- behind these no `=` counts anew
pub record Quiet (before : List Lexeme) : Type 0 where
  pub no_let : is_let (latest before) ≡ false
  pub no_binding : (is_name (latest before) && is_let (second before)) ≡ false

-- behind these a value counts, too
pub record Fresh (before : List Lexeme) : Type 0 where
  pub quiet : Quiet before
  pub value : begins_value (latest before) (second before) ≡ true
  pub no_size : is_size (latest before) ≡ false

-- the counts are within the limits, and the tokens are few
pub record Good (before : List Lexeme) : Type 0 where
  pub few_nodes : nodes before ≤ most_formula_nodes
  pub shallow : depth before ≤ most_body_depth
  pub few : length before ≤ most_items

-- Classes of tokens.

-- those behind which counting starts anew, or may do so at the next `=`
abbrev pub resets : List ℕ
resets =
    number_of k.Let ∷ number_of k.Colon ∷ number_of k.Invariant ∷ number_of k.Gives ∷ number_of k.If ∷ number_of k.Return ∷
    number_of k.PlusEquals ∷ number_of k.MinusEquals ∷ number_of k.Raise ∷ number_of k.Semicolon ∷ number_of k.Comma ∷
    number_of k.OpeningBrace ∷ number_of k.ClosingBrace ∷ []

-- those that count wherever they stand
abbrev pub counted : List ℕ
counted =
    numbers ++ number_of k.True ∷ number_of k.False ∷ number_of k.Not ∷ number_of k.And ∷ number_of k.Or ∷
    number_of k.AtMost ∷ number_of k.Below ∷ number_of k.AtLeast ∷ number_of k.Above ∷ number_of k.Equals ∷
    number_of k.Differs ∷ []

-- those that a value begins with
abbrev pub openers : List ℕ
openers = number_of k.Result ∷ number_of k.Name ∷ number_of k.Here ∷ number_of k.There ∷ number_of k.Size ∷ []

-- those behind which a value may be a part of what stands before
abbrev pub joints : List ℕ
joints = number_of k.Let ∷ number_of k.Name ∷ number_of k.Star ∷ number_of k.Dot ∷ number_of k.Opening ∷ number_of k.Size ∷ []

abbrev pub braces : List ℕ
braces = number_of k.OpeningBrace ∷ number_of k.ClosingBrace ∷ []

-- the class of a token of a kind and a value
abbrev class_by : Kind → ℕ → ℕ
class_by kind value = cond (eqb (number_of kind) (number_of k.Number)) (numeral value) (number_of kind)

no_let_by : (kind : Kind) (value : ℕ) → has resets (class_by kind value) ≡ false → is_let (Some kind) ≡ false
unfolding number_of
no_let_by k.Let value h = cc
no_let_by _ value h = refl

and_false : (a b : Bool) → b ≡ false → (a && b) ≡ false
and_false true b h = h
and_false false b h = refl

pub push_quiet : (t : Lexeme) (before : List Lexeme) → has resets (class_of t) ≡ false → Quiet before → Quiet (t ∷ before)
unfolding class_of
push_quiet t before h q = record {
  no_let = no_let_by t.kind t.value h;
  no_binding = and_false (is_name (Some t.kind)) (is_let (latest before)) q.no_let;
}

kept_by : (kind : Kind) (value n : ℕ) (last before : Option Kind) → has resets (class_by kind value) ≡ false
    → (is_name last && is_let before) ≡ false → n ≤ nodes_with n kind last before
unfolding number_of counts_anew weight
kept_by k.Colon value n last before h q = absurd cc
kept_by k.Invariant value n last before h q = absurd cc
kept_by k.Gives value n last before h q = absurd cc
kept_by k.If value n last before h q = absurd cc
kept_by k.Return value n last before h q = absurd cc
kept_by k.PlusEquals value n last before h q = absurd cc
kept_by k.MinusEquals value n last before h q = absurd cc
kept_by k.Raise value n last before h q = absurd cc
kept_by k.Semicolon value n last before h q = absurd cc
kept_by k.Comma value n last before h q = absurd cc
kept_by k.OpeningBrace value n last before h q = absurd cc
kept_by k.ClosingBrace value n last before h q = absurd cc
kept_by k.Equals value n last before h q = rw q (omega arith)
kept_by _ value n last before h q = omega arith

-- what isn't among the resets loses no node
pub push_kept : (t : Lexeme) (before : List Lexeme) → has resets (class_of t) ≡ false → Quiet before → nodes before ≤ nodes (t ∷ before)
unfolding class_of
push_kept t before h q = kept_by t.kind t.value (nodes before) (latest before) (second before) h q.no_binding

counted_by : (kind : Kind) (value n : ℕ) (last before : Option Kind) → has counted (class_by kind value) ≡ true
    → (is_name last && is_let before) ≡ false → n + 1 ≤ nodes_with n kind last before
unfolding number_of counts_anew weight
counted_by k.Number value n last before h q = omega arith
counted_by k.True value n last before h q = omega arith
counted_by k.False value n last before h q = omega arith
counted_by k.Not value n last before h q = omega arith
counted_by k.And value n last before h q = omega arith
counted_by k.Or value n last before h q = omega arith
counted_by k.AtMost value n last before h q = omega arith
counted_by k.Below value n last before h q = omega arith
counted_by k.AtLeast value n last before h q = omega arith
counted_by k.Above value n last before h q = omega arith
counted_by k.Differs value n last before h q = omega arith
counted_by k.Equals value n last before h q = rw q (omega arith)
counted_by _ value n last before h q = absurd cc

pub push_counted : (t : Lexeme) (before : List Lexeme) → has counted (class_of t) ≡ true → Quiet before → nodes before + 1 ≤ nodes (t ∷ before)
unfolding class_of
push_counted t before h q = counted_by t.kind t.value (nodes before) (latest before) (second before) h q.no_binding

opener_by : (kind : Kind) (value n : ℕ) (last before : Option Kind) → has openers (class_by kind value) ≡ true
    → begins_value last before ≡ true → n + 1 ≤ nodes_with n kind last before
unfolding number_of counts_anew weight
opener_by k.Number value n last before h q = omega arith
opener_by k.Result value n last before h q = rw q (omega arith)
opener_by k.Name value n last before h q = rw q (omega arith)
opener_by k.Here value n last before h q = rw q (omega arith)
opener_by k.There value n last before h q = rw q (omega arith)
opener_by k.Size value n last before h q = rw q (omega arith)
opener_by _ value n last before h q = absurd cc

pub push_opener : (t : Lexeme) (before : List Lexeme) → has openers (class_of t) ≡ true → Fresh before → nodes before + 1 ≤ nodes (t ∷ before)
unfolding class_of
push_opener t before h q = opener_by t.kind t.value (nodes before) (latest before) (second before) h q.value

-- of what isn't among the joints
abbrev IsFreshBehind : Kind → Option Kind → Type 0
IsFreshBehind kind last =
    (is_let (Some kind) ≡ false) × (is_name (Some kind) ≡ false) × (begins_value (Some kind) last ≡ true) × (is_size (Some kind) ≡ false)

fresh_by : (kind : Kind) (value : ℕ) (last : Option Kind) → has joints (class_by kind value) ≡ false → IsFreshBehind kind last
unfolding number_of begins_value
fresh_by k.Let value last h = absurd cc
fresh_by k.Name value last h = absurd cc
fresh_by k.Star value last h = absurd cc
fresh_by k.Dot value last h = absurd cc
fresh_by k.Opening value last h = absurd cc
fresh_by k.Size value last h = absurd cc
fresh_by _ value last h = (refl, refl, refl, refl)

pub push_fresh : (t : Lexeme) (before : List Lexeme) → has joints (class_of t) ≡ false → Fresh (t ∷ before)
unfolding class_of
push_fresh t before h =
    let f = fresh_by t.kind t.value (latest before) h in
    record {
      quiet = record { no_let = f.0; no_binding = ap (λ b. b && is_let (latest before)) f.1 };
      value = f.2;
      no_size = f.3;
    }

opening_by : (kind : Kind) (before : List Lexeme) → kind ≡ k.Opening → Fresh before → IsFreshBehind kind (latest before)
unfolding begins_value
opening_by kind before e f =
    subst (λ z. IsFreshBehind z (latest before)) (sym e) (refl, refl, ap not f.no_size, refl)

-- a parenthesis where a value would count
pub push_opening : (t : Lexeme) (before : List Lexeme) → t.kind ≡ k.Opening → Fresh before → Fresh (t ∷ before)
push_opening t before e q =
    let f = opening_by t.kind before e q in
    record {
      quiet = record { no_let = f.0; no_binding = ap (λ b. b && is_let (latest before)) f.1 };
      value = f.2;
      no_size = f.3;
    }

level_by : (kind : Kind) (value n : ℕ) → has braces (class_by kind value) ≡ false → depth_with n kind ≡ n
unfolding number_of depth_with
level_by k.OpeningBrace value n h = absurd cc
level_by k.ClosingBrace value n h = absurd cc
level_by _ value n h = refl

pub push_level : (t : Lexeme) (before : List Lexeme) → has braces (class_of t) ≡ false → depth (t ∷ before) ≡ depth before
unfolding class_of
push_level t before h = level_by t.kind t.value (depth before) h
