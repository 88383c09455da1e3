-- Statements within the limits, and lists no longer than their tokens.
use Rattle.std.proofs.Common.{◌≡◌, ℕ, ◌+◌, ◌≤◌, true, false, List, [], ◌∷◌, length, refl, arith}
use Rattle.std.specs.List.{AllByRecursion}
use Rattle.carol_grammar.specs.Sets.{apart}
use Rattle.carol_grammar.specs.Reading.{may_be_empty}
use Rattle.carol_grammar.proofs.SetLemmas.{apart_right}
use Rattle.carol_grammar.proofs.Says.{says_token, says_less, says_two, says_either, says_begins}
use Rattle.carol_grammar.proofs.Given.{push, Stand, stand_end, Anywhere, Given, Opens, hold_any, hold_gives, hold_both, hold_many, hold_behind, hold_before, hold_opened}
use Rattle.carol_grammar.proofs.Lacks.{Few, few_gives, few_both, few_many}
use Rattle.carol_syntax.specs.Size.{most_items, AreSized, IsSizedChange, IsSizedAtom, IsSizedStatement}
use Rattle.carol_syntax.specs.declared.kind.Kind.{Kind}
use Rattle.carol_syntax.specs.declared.kind.Kind.TheVariants as k
use Rattle.carol_syntax.specs.declared.lexeme.Lexeme.{Lexeme}
use Rattle.carol_grammar.specs.Terminals.{number_of, class_of}
use Rattle.carol_grammar.specs.Rules.{RuleOf, word, behind_word, listed, name, path, change, atom, query, release, binding, issue, plain, plains}
use Rattle.carol_grammar.proofs.Places.{Fresh, Good, joints, push_fresh}
use Rattle.carol_grammar.proofs.Fits.{Tells, filled}
use Rattle.carol_grammar.proofs.Terms.{hold_term}

-- a formula or a term begins behind the word
pub opens : (kind : Kind) → apart (number_of kind ∷ []) joints ≡ true → Tells (word kind) (Opens Fresh)
opens kind j = says_token (λ t h. record {
  behind = λ before. push_fresh t before (apart_right (number_of kind ∷ []) joints (class_of t) j h);
})

length_push : (ts before : List Lexeme) → length (push ts before) ≡ length ts + length before
length_push [] before = omega arith
length_push (t ∷ ts) before = omega (arith, length_push ts (t ∷ before))

-- within the limits there are few tokens
pub few_tokens : (ts before : List Lexeme) → Stand Good ts before → length ts ≤ most_items
few_tokens ts before g = let end = stand_end Good ts before g in omega (arith, end.few, length_push ts before)

-- a list that is no longer than its tokens
pub hold_short : {A : Type 0} {r : RuleOf (List A)} {P : A → Type 0} → Tells r (Given Anywhere Good (AllByRecursion P)) → Tells r (Few length) → Tells r (Given Anywhere Good (AreSized P))
hold_short p q = says_less (says_two p q) (λ ts vs h. record {
  holds = λ before s g. (omega (arith, few_tokens ts before g, h.1.within), h.0.holds before s g);
})

pub few_listed : {A : Type 0} (r : RuleOf A) → may_be_empty r ≡ false → Tells (listed r) (Few length)
few_listed r h = few_gives (few_both (filled r h) (few_many (filled (behind_word k.Comma r) refl))) (λ v. omega arith)

pub hold_listed : {A : Type 0} (r : RuleOf A) {P : A → Type 0} → may_be_empty r ≡ false → Tells r (Given Anywhere Good P) → Tells (listed r) (Given Anywhere Good (AreSized P))
hold_listed r h p = hold_short (hold_gives (hold_both p (hold_many (hold_behind p))) (λ v h. h)) (few_listed r h)

module _ (bytes : List ℕ) where
  hold_change : Tells (change bytes) (Given Anywhere Good IsSizedChange)
  unfolding number_of change
  hold_change =
      says_either (hold_gives (hold_opened (opens k.PlusEquals refl) (hold_term bytes)) (λ t h. h))
      (says_either (hold_gives (hold_opened (opens k.MinusEquals refl) (hold_term bytes)) (λ t h. h))
      (says_either (hold_gives (hold_opened (opens k.Raise refl) (hold_term bytes)) (λ t h. h)) (hold_gives hold_any (λ l h. tt))))

  hold_atom : Tells (atom bytes) (Given Anywhere Good IsSizedAtom)
  unfolding atom
  hold_atom = hold_gives (hold_both hold_any hold_change) (λ p h. h.1)

  hold_query : Tells (query bytes) (Given Anywhere Good IsSizedStatement)
  unfolding query
  hold_query = hold_gives hold_any (λ p h. tt)

  hold_release : Tells release (Given Anywhere Good IsSizedStatement)
  unfolding release
  hold_release = hold_gives hold_any (λ p h. tt)

  hold_binding : Tells (binding bytes) (Given Anywhere Good IsSizedStatement)
  unfolding number_of binding
  hold_binding = hold_gives (hold_behind (hold_both hold_any (hold_before (hold_opened (opens k.Equals refl) (hold_term bytes))))) (λ p h. h.1)

  hold_issue : Tells (issue bytes) (Given Anywhere Good IsSizedStatement)
  unfolding issue atom path name
  hold_issue = hold_gives (hold_behind (hold_before (hold_listed (atom bytes) refl hold_atom))) (λ p h. h)

  hold_statement : Tells (plain bytes) (Given Anywhere Good IsSizedStatement)
  unfolding plain
  hold_statement =
      says_either (says_begins hold_query)
      (says_either (says_begins hold_release) (says_either (says_begins hold_binding) hold_issue))

  pub hold_statements : Tells (plains bytes) (Given Anywhere Good (AllByRecursion IsSizedStatement))
  hold_statements = hold_many (says_begins hold_statement)

  pub few_statements : Tells (plains bytes) (Few length)
  unfolding plain query release binding issue
  few_statements = few_many (says_begins (filled (plain bytes) refl))
