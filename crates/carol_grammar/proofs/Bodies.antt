-- Bodies stand no deeper than their braces, and have no more statements than tokens.
use Rattle.std.proofs.Common.{◌≡◌, ℕ, ◌+◌, ◌-◌, ◌≤◌, max, true, false, List, [], ◌∷◌, ◌++◌, length, length-append, sym, ◌∙◌, ap, subst, refl, arith}
use Rattle.std.specs.List.{AllByRecursion}
use Rattle.carol_grammar.specs.Sets.{has, apart}
use Rattle.carol_grammar.specs.Rule.Rule.{both, gives}
use Rattle.carol_grammar.specs.Reading.{may_be_empty}
use Rattle.carol_grammar.proofs.SetLemmas.{apart_right}
use Rattle.carol_grammar.proofs.Says.{Joined, says_token, says_gives, says_less, says_two, says_both, says_joined, says_deeper}
use Rattle.carol_grammar.proofs.Given.{push, push-append, Stand, stand_front, stand_back, Anywhere, Given, hold_before}
use Rattle.carol_grammar.proofs.Lacks.{Without, Few, avoids}
use Rattle.carol_syntax.specs.declared.bodies.Statement.{Statement}
use Rattle.carol_syntax.specs.Bodies.{BodyTree, Return, If}
use Rattle.carol_syntax.specs.Size.{body_depth, statement_count, IsSizedStatement, HasSizedParts}
use Rattle.carol_syntax.specs.declared.kind.Kind.{Kind}
use Rattle.carol_syntax.specs.declared.kind.Kind.TheVariants as k
use Rattle.carol_syntax.specs.declared.lexeme.Lexeme.{Lexeme}
use Rattle.carol_grammar.specs.Terminals.{number_of, class_of}
use Rattle.carol_grammar.proofs.TokenKinds.{word_kind}
use Rattle.carol_grammar.specs.Rules.{RuleOf, ending, word, before_word, name, member, path, outcome_value, dotted, plain_value, sized, size_value, value, times_value, multiple, product, next_product, first_product, term, conjunction, formula, change, atom, query, release, binding, issue, plain, plains, body, answer, choice}
use Rattle.carol_grammar.specs.Limits.{depth, depth_with}
use Rattle.carol_grammar.proofs.Places.{Fresh, Good, braces, joints, push_fresh, push_level}
use Rattle.carol_grammar.proofs.Fits.{Nests, EndsSmall, EndFits, Tells, known, ends, lacks, filled}
use Rattle.carol_grammar.proofs.Terms.{hold_term}
use Rattle.carol_grammar.proofs.Formulas.{hold_formula}
use Rattle.carol_grammar.proofs.Statements.{hold_statements, few_statements}

-- Rules without braces, and one rule behind another.

level_along : (ts before : List Lexeme) → Without class_of braces ts → depth (push ts before) ≡ depth before
level_along [] before w = refl
level_along (t ∷ ts) before w = level_along ts (t ∷ before) w.1 ∙ push_level t before w.0

nests_plain : {A : Type 0} (r : RuleOf A) {Start : List Lexeme → Type 0} {P : A → Type 0} → avoids known braces r ≡ true → Tells r (Given Start Good P) → Tells r (Nests Start P (λ v. 0) (λ v. 0))
nests_plain r h p = says_less (says_two p (lacks braces r h)) (λ ts v a. record {
  level = λ before. level_along ts before a.1.none;
  parts = a.0.holds;
  shallow = λ before g. let start = stand_front Good [] ts before g in omega (arith, start.shallow);
  short = omega arith;
})

nests_both : {A B : Type 0} {r : RuleOf A} {s : RuleOf B} {Start : List Lexeme → Type 0} {P : A → Type 0} {Q : B → Type 0} {d c : A → ℕ} {e f : B → ℕ} → Tells r (Nests Start P d c) → Tells s (Nests Anywhere Q e f)
    → Tells (both r s) (Nests Start (λ p. P p.0 × Q p.1) (λ p. max (d p.0) (e p.1)) (λ p. c p.0 + f p.1))
nests_both p q = says_both p q (λ xs ys v a b. record {
  level = λ before. ap depth (push-append xs ys before) ∙ b.level (push xs before) ∙ a.level before;
  parts = λ before s g. (a.parts before s (stand_front Good xs ys before g), b.parts (push xs before) tt (stand_back Good xs ys before g));
  shallow = λ before g. omega (arith, a.level before, a.shallow before (stand_front Good xs ys before g), b.shallow (push xs before) (stand_back Good xs ys before g));
  short = omega (arith, length-append xs ys, a.short, b.short);
})

-- a token that is no brace, behind which Start holds
record Leads (Start : List Lexeme → Type 0) (ts : List Lexeme) (v : Lexeme) : Type 0 where
  level : (before : List Lexeme) → depth (push ts before) ≡ depth before
  behind : (before : List Lexeme) → Start (push ts before)
  one : length ts ≡ 1

leads : (kind : Kind) (Start : List Lexeme → Type 0) → apart (number_of kind ∷ []) braces ≡ true → ((t : Lexeme) (before : List Lexeme) → has (number_of kind ∷ []) (class_of t) ≡ true → Start (t ∷ before)) → Tells (word kind) (Leads Start)
leads kind Start b s = says_token (λ t h. record {
  level = λ before. push_level t before (apart_right (number_of kind ∷ []) braces (class_of t) b h);
  behind = λ before. s t before h;
  one = refl;
})

leads_fresh : (kind : Kind) → apart (number_of kind ∷ []) braces ≡ true → apart (number_of kind ∷ []) joints ≡ true → Tells (word kind) (Leads Fresh)
leads_fresh kind b j = leads kind Fresh b (λ t before h. push_fresh t before (apart_right (number_of kind ∷ []) joints (class_of t) j h))

nests_behind : {B : Type 0} {r : RuleOf Lexeme} {s : RuleOf B} {Start : List Lexeme → Type 0} {P : B → Type 0} {d c : B → ℕ} → Tells r (Leads Start) → Tells s (Nests Start P d c)
    → Tells (gives (λ p. p.1) (both r s)) (Nests Anywhere P d (λ v. 1 + c v))
nests_behind {P = P} {d = d} {c = c} p q = says_gives {R = Nests Anywhere (λ v. P v.1) (λ v. d v.1) (λ v. 1 + c v.1)} (says_both p q (λ xs ys v a b. record {
  level = λ before. ap depth (push-append xs ys before) ∙ b.level (push xs before) ∙ a.level before;
  parts = λ before s g. b.parts (push xs before) (a.behind before) (stand_back Good xs ys before g);
  shallow = λ before g. omega (arith, a.level before, b.shallow (push xs before) (stand_back Good xs ys before g));
  short = omega (arith, length-append xs ys, a.one, b.short);
})) (λ ts v n. record { level = n.level; parts = n.parts; shallow = n.shallow; short = n.short })

-- Braces.

-- a token of a kind
record IsWord (kind : Kind) (ts : List Lexeme) (v : Lexeme) : Type 0 where
  token : Lexeme
  same : ts ≡ token ∷ []
  of_kind : token.kind ≡ kind

is_word : (kind : Kind) → Tells (word kind) (IsWord kind)
is_word kind = says_token (λ t h. record { token = t; same = refl; of_kind = word_kind kind t h })

rises : (t : Lexeme) (before : List Lexeme) → t.kind ≡ k.OpeningBrace → depth (t ∷ before) ≡ depth before + 1
unfolding depth_with
rises t before e = ap (depth_with (depth before)) e

falls : (t : Lexeme) (before : List Lexeme) → t.kind ≡ k.ClosingBrace → depth (t ∷ before) ≡ depth before - 1
unfolding depth_with
falls t before e = ap (depth_with (depth before)) e

-- the statements before the end of a body
abbrev PlainsFit : List Lexeme → List Statement → Type 0
PlainsFit ts plain = Nests Anywhere (AllByRecursion IsSizedStatement) (λ v. 0) (λ v. 0) ts plain × Few length ts plain

-- the end of a body and the brace behind it
record Closed (ts : List Lexeme) (end : List Statement → BodyTree) : Type 0 where
  brace : Lexeme
  whole : Joined EndFits (IsWord k.ClosingBrace) ts (end, brace)

module _ (t u : Lexeme) (ps es : List Lexeme) (plain : List Statement) (end : List Statement → BodyTree) (opened : t.kind ≡ k.OpeningBrace) (closed : u.kind ≡ k.ClosingBrace) (pf : PlainsFit ps plain) (ef : EndFits es end) where
  abbrev inner : List Lexeme → List Lexeme
  inner before = push ps (t ∷ before)

  inner_depth : (before : List Lexeme) → depth (inner before) ≡ depth before + 1
  inner_depth before = pf.0.level (t ∷ before) ∙ rises t before opened

  abbrev all : List Lexeme
  all = t ∷ (ps ++ (es ++ (u ∷ [])))

  pushed : (before : List Lexeme) → push all before ≡ u ∷ push es (inner before)
  pushed before = push-append ps (es ++ (u ∷ [])) (t ∷ before) ∙ push-append es (u ∷ []) (inner before)

  end_stand : (before : List Lexeme) → Stand Good all before → Stand Good es (inner before)
  end_stand before g = stand_front Good es (u ∷ []) (inner before) (stand_back Good ps (es ++ (u ∷ [])) (t ∷ before) g.1)

  body_nests : Nests Anywhere HasSizedParts body_depth statement_count all (end plain)
  body_nests = record {
    level = λ before.
        let low : depth (u ∷ push es (inner before)) ≡ depth (push es (inner before)) - 1 = falls u (push es (inner before)) closed in
        ap depth (pushed before) ∙ (omega (arith, low, ef.nests.level (inner before), inner_depth before));
    parts = λ before s g. ef.nests.parts (inner before) tt (end_stand before g) plain (pf.0.parts (t ∷ before) tt (stand_front Good ps (es ++ (u ∷ [])) (t ∷ before) g.1));
    shallow = λ before g. omega (arith, inner_depth before, ef.nests.shallow (inner before) (end_stand before g), ef.low plain);
    short = omega (arith, length-append ps (es ++ (u ∷ [])), length-append es (u ∷ []), pf.1.within, ef.nests.short, ef.few plain);
  }

body_fits : (ts : List Lexeme) (p : Lexeme × (List Statement × (List Statement → BodyTree))) → Joined (IsWord k.OpeningBrace) (Joined PlainsFit Closed) ts p
    → Nests Anywhere HasSizedParts body_depth statement_count ts (p.1.1 p.1.0)
body_fits ts p j =
    let o = j.left in
    let i = j.right in
    let c = i.right.whole in
    let e : ts ≡ o.token ∷ (i.front ++ (c.front ++ (c.right.token ∷ []))) =
    j.split ∙ ap (λ z. z ++ j.back) o.same ∙ ap (λ z. o.token ∷ z) (i.split ∙ ap (λ z. i.front ++ z) (c.split ∙ ap (λ z. c.front ++ z) c.right.same)) in
    subst (λ z. Nests Anywhere HasSizedParts body_depth statement_count z (p.1.1 p.1.0)) (sym e)
    (body_nests o.token c.right.token i.front c.front p.1.0 p.1.1 o.of_kind c.right.of_kind i.left c.left)

module _ (bytes : List ℕ) where
  plains_fit : Tells (plains bytes) PlainsFit
  unfolding number_of plain query release binding issue atom change term first_product next_product product multiple times_value value size_value sized plain_value dotted outcome_value path member name
  plains_fit = says_two (nests_plain (plains bytes) refl (hold_statements bytes)) (few_statements bytes)

  pub nests_body : Tells (body bytes) (Nests Anywhere HasSizedParts body_depth statement_count)
  unfolding body
  nests_body =
      says_gives
      (says_gives {S = λ ts p. Nests Anywhere HasSizedParts body_depth statement_count ts (p.1 p.0)}
      (says_joined (is_word k.OpeningBrace)
      (says_joined plains_fit (says_gives (says_joined (says_deeper ending) (is_word k.ClosingBrace)) (λ ts p j. record { brace = p.1; whole = j }))))
      (λ ts p j. body_fits ts p j))
      (λ ts p n. n)

-- The ends of bodies.

end_fits : {A : Type 0} {r : RuleOf A} {P : A → Type 0} {d c : A → ℕ} (f : A → List Statement → BodyTree) → Tells r (Nests Anywhere P d c) → avoids known ends r ≡ true → may_be_empty r ≡ false
    → ((v : A) → P v → EndsSmall (f v)) → ((v : A) (plain : List Statement) → body_depth (f v plain) ≤ 1 + d v) → ((v : A) (plain : List Statement) → statement_count (f v plain) ≤ length plain + c v) → Tells (gives f r) EndFits
end_fits {r = r} {d = d} {c = c} f p a m parts low few = says_gives (says_two p (says_two (lacks ends r a) (filled r m))) (λ ts v h. record {
  deep = d v;
  size = c v;
  nests = record { level = h.0.level; parts = λ before s g. parts v (h.0.parts before s g); shallow = h.0.shallow; short = h.0.short };
  low = low v;
  few = few v;
  lack = h.1.0.none;
  some = h.1.1.within;
})

pub answer_fits : (bytes : List ℕ) → Tells (answer bytes) EndFits
unfolding number_of answer term first_product next_product product multiple times_value value size_value sized plain_value dotted outcome_value path member name
answer_fits bytes =
    end_fits (λ t plain. Return plain t)
    (nests_behind (leads_fresh k.Return refl refl) (nests_plain (before_word (term bytes) k.Semicolon) refl (hold_before (hold_term bytes))))
    refl refl (λ t h plain all. (all, h)) (λ t plain. omega arith) (λ t plain. omega arith)

pub choice_fits : (bytes : List ℕ) → Tells (choice bytes) EndFits
unfolding number_of choice body formula conjunction plain query release binding issue atom change term first_product next_product product multiple times_value value size_value sized plain_value dotted outcome_value path member name
choice_fits bytes =
    end_fits (λ p plain. If plain p.0 p.1.0 p.1.1)
    (nests_behind (leads_fresh k.If refl refl) (nests_both (nests_plain formula refl hold_formula)
    (nests_both (nests_body bytes) (nests_behind (leads k.Else Anywhere refl (λ t before h. tt)) (nests_body bytes)))))
    refl refl (λ p h plain all. (all, h.0, h.1.0, h.1.1)) (λ p plain. omega arith) (λ p plain. omega arith)
