-- A text is answered in one way.
use Rattle.std.proofs.Common.{◌≡◌, ℕ, zero, suc, ◌⊎◌, false, List, [], ◌∷◌, ◌++◌, refl, sym, ◌∙◌, ap, subst, inl, inr, arith, append_assoc}
use Rattle.std.proofs.lemmas.List.{append-nil}
use Rattle.carol_grammar.specs.Sentence.{Begins}
use Rattle.carol_grammar.specs.Found.{IsFault}
use Rattle.carol_syntax.specs.Files.{FileTree}
use Rattle.carol_syntax.specs.declared.lexeme.Lexeme.{Lexeme}
use Rattle.carol_syntax.specs.declared.lexeme.Lexemes.{Lexemes}
use Rattle.carol_syntax.specs.declared.lexeme.Stop.{Stop}
use Rattle.carol_syntax.specs.declared.place.Place.{Place}
use Rattle.carol_syntax.specs.Place.{start}
use Rattle.carol_syntax.specs.Cut.{Cut}
use Rattle.carol_grammar.specs.Rules.{carol, file, IsFileOf}
use Rattle.carol_grammar.specs.declared.limit.TextLimit.{TextLimit}
use Rattle.carol_grammar.specs.declared.limit.TextLimit.TheVariants.{ProgramBytes, FormulaNodes, BodyDepth, ScriptLines}
use Rattle.carol_grammar.specs.Limits.{rank, IsFirst, ComesFirst}
use Rattle.carol_grammar.specs.Outcome.{Outcome, AreParts, IsTextIn, IsBadIn, MeansIn, Means, IsText, IsBadAt, tail_of, is_broken, place_of}
use Rattle.carol_grammar.specs.Outcome.Outcome.{Read, Bad, Large}
use Rattle.carol_grammar.proofs.Splits.{Behind, Same, compare_splits}

-- some file begins with these tokens
abbrev pub BeginsFile : List ℕ → ℕ → List Lexeme → Type 0
BeginsFile bytes tail ts = Begins (carol bytes) (file bytes tail) ts

-- no file goes on with the token behind these
abbrev pub NoneWith : List ℕ → ℕ → List Lexeme → Lexeme → Type 0
NoneWith bytes tail front t = (more : List Lexeme) (f : FileTree) → IsFileOf bytes tail (front ++ t ∷ more) f → ⊥

-- what begins a file doesn't go on with a token with which none goes on
pub not_begun : (bytes : List ℕ) (tail : ℕ) (front : List Lexeme) (t : Lexeme) (more : List Lexeme) → NoneWith bytes tail front t → BeginsFile bytes tail (front ++ t ∷ more) → ⊥
not_begun bytes tail front t more none b =
    none (more ++ b.0) b.1 (subst (λ (z : List Lexeme). IsFileOf bytes tail z b.1) (append_assoc front (t ∷ more) b.0) b.2)

pub file_begun : (bytes : List ℕ) (tail : ℕ) (ts : List Lexeme) (f : FileTree) → IsFileOf bytes tail ts f → BeginsFile bytes tail ts
file_begun bytes tail ts f s = ([], f, subst (λ (z : List Lexeme). IsFileOf bytes tail z f) (sym (append-nil ts)) s)

-- tokens that begin a file have no fault at one of them
no_fault : (bytes : List ℕ) (tail : ℕ) (ts : List Lexeme) (t : Lexeme) (more : List Lexeme) → IsFault (carol bytes) (file bytes tail) ts (t ∷ more) → BeginsFile bytes tail ts → ⊥
no_fault bytes tail ts t more h b = not_begun bytes tail h.front t more h.none (subst (BeginsFile bytes tail) h.split b)

-- a list has one fault
fault_once : (bytes : List ℕ) (tail : ℕ) (ts : List Lexeme) (s t : Lexeme) (us vs : List Lexeme) → IsFault (carol bytes) (file bytes tail) ts (s ∷ us) → IsFault (carol bytes) (file bytes tail) ts (t ∷ vs) → s ≡ t
fault_once bytes tail ts s t us vs h k = go (compare_splits h.front k.front s t us vs (sym h.split ∙ k.split))
  where
    go : Behind h.front k.front t ⊎ (Same h.front k.front s t us vs ⊎ Behind k.front h.front s) → s ≡ t
    go (inl x) = absurd (not_begun bytes tail k.front t x.0 k.none (subst (BeginsFile bytes tail) x.1 h.begun))
    go (inr (inl x)) = x.1
    go (inr (inr x)) = absurd (not_begun bytes tail h.front s x.0 h.none (subst (BeginsFile bytes tail) x.1 k.begun))

-- of one cut

text_not_bad : (bytes : List ℕ) (parts : Lexemes) (f : FileTree) (at : Place) → IsTextIn bytes parts f → IsBadIn bytes parts at → ⊥
text_not_bad bytes parts f at t (inl b) = no_fault bytes (tail_of parts.stop) parts.list b.token b.more b.fault (file_begun bytes (tail_of parts.stop) parts.list f t.file)
text_not_bad bytes parts f at t (inr b) = elim b.none [ inl broken ↦ let w : is_broken parts.stop ≡ false = t.whole in cc (broken, w) | inr none ↦ none f t.file ]

bad_once : (bytes : List ℕ) (parts : Lexemes) (at other : Place) → IsBadIn bytes parts at → IsBadIn bytes parts other → at ≡ other
bad_once bytes parts at other (inl b) (inl c) =
    b.place ∙ ap place_of (fault_once bytes (tail_of parts.stop) parts.list b.token c.token b.more c.more b.fault c.fault) ∙ sym c.place
bad_once bytes parts at other (inl b) (inr c) = absurd (no_fault bytes (tail_of parts.stop) parts.list b.token b.more b.fault c.begun)
bad_once bytes parts at other (inr b) (inl c) = absurd (no_fault bytes (tail_of parts.stop) parts.list c.token c.more c.fault b.begun)
bad_once bytes parts at other (inr b) (inr c) = b.place ∙ sym c.place

limit_of : ℕ → TextLimit
limit_of zero = ProgramBytes
limit_of (suc zero) = FormulaNodes
limit_of (suc (suc zero)) = BodyDepth
limit_of (suc (suc (suc n))) = ScriptLines

ranked : (l : TextLimit) → limit_of (rank l) ≡ l
unfolding limit_of
ranked ProgramBytes = refl
ranked FormulaNodes = refl
ranked BodyDepth = refl
ranked ScriptLines = refl

first_once : (bytes : List ℕ) (list : List Lexeme) (l m : TextLimit) (at o : ℕ) → IsFirst bytes list l at → IsFirst bytes list m o → l ≡ m
first_once bytes list l m at o h k = go (h.first m o k.past) (k.first l at h.past)
  where
    go : ComesFirst l at m o → ComesFirst m o l at → l ≡ m
    go (inl a) (inl b) = absurd (omega arith)
    go (inl a) (inr b) = absurd (omega (arith, b.0))
    go (inr a) (inl b) = absurd (omega (arith, a.0))
    go (inr a) (inr b) = let e : rank l ≡ rank m = omega (arith, a.1, b.1) in sym (ranked l) ∙ ap limit_of e ∙ ranked m

-- a file has one tree
abbrev pub OneTree : Type 0
OneTree = (bytes : List ℕ) (tail : ℕ) (ts : List Lexeme) (f g : FileTree) → IsFileOf bytes tail ts f → IsFileOf bytes tail ts g → f ≡ g

means_in_once : OneTree → (bytes : List ℕ) (parts : Lexemes) (one other : Outcome) → MeansIn bytes parts one → MeansIn bytes parts other → one ≡ other
means_in_once tree bytes parts (Read f) (Read g) h k = ap Read (tree bytes (tail_of parts.stop) parts.list f g h.text.file k.text.file)
means_in_once tree bytes parts (Read f) (Bad line column) h k = absurd (text_not_bad bytes parts f k.at h.text k.bad)
means_in_once tree bytes parts (Read f) (Large l) h k = absurd (h.small l k.at k.first.past)
means_in_once tree bytes parts (Bad line column) (Read g) h k = absurd (text_not_bad bytes parts g h.at k.text h.bad)
means_in_once tree bytes parts (Bad line column) (Bad line' column') h k =
    let e : h.at ≡ k.at = bad_once bytes parts h.at k.at h.bad k.bad in
    let same_line : line ≡ line' = sym h.same_line ∙ ap (λ (p : Place). p.line) e ∙ k.same_line in
    let same_column : column ≡ column' = sym h.same_column ∙ ap (λ (p : Place). p.column) e ∙ k.same_column in
    cc (same_line, same_column)
means_in_once tree bytes parts (Bad line column) (Large l) h k =
    absurd (omega (arith, h.small l k.at k.first.past, k.good h.at h.bad))
means_in_once tree bytes parts (Large l) (Read g) h k = absurd (k.small l h.at h.first.past)
means_in_once tree bytes parts (Large l) (Bad line column) h k =
    absurd (omega (arith, k.small l h.at h.first.past, h.good k.at k.bad))
means_in_once tree bytes parts (Large l) (Large m) h k = ap Large (first_once bytes parts.list l m h.at k.at h.first k.first)

-- of one text

abbrev pub OneCut : Type 0
OneCut = (bytes : List ℕ) (xs ys : List Lexeme) (s t : Stop) (d e : Place) → Cut start bytes xs s d → Cut start bytes ys t e → (xs ≡ ys) × (s ≡ t) × (d ≡ e)

abbrev parts_of : List Lexeme → Stop → Place → Lexemes
parts_of list stop end = record { list = list; stop = stop; end = end }

same_record : (xs ys : List Lexeme) (s t : Stop) (d e : Place) → xs ≡ ys → s ≡ t → d ≡ e → parts_of xs s d ≡ parts_of ys t e
same_record xs ys s t d e a b c = cc (a, b, c)

same_parts : OneCut → (bytes : List ℕ) (parts others : Lexemes) → AreParts bytes parts → AreParts bytes others → others ≡ parts
same_parts once bytes parts others h k =
    let e = once bytes others.list parts.list others.stop parts.stop others.end parts.end k h in
    same_record others.list parts.list others.stop parts.stop others.end parts.end e.0 e.1 e.2

pub text_once : OneCut → OneTree → (bytes : List ℕ) (f g : FileTree) → IsText bytes f → IsText bytes g → f ≡ g
text_once cut tree bytes f g h k =
    let same : IsTextIn bytes h.0 g = subst (λ (p : Lexemes). IsTextIn bytes p g) (same_parts cut bytes h.0 k.0 h.1 k.1) k.2 in
    tree bytes (tail_of h.0.stop) h.0.list f g h.2.file same.file

pub bad_at_once : OneCut → (bytes : List ℕ) (at other : Place) → IsBadAt bytes at → IsBadAt bytes other → at ≡ other
bad_at_once cut bytes at other h k =
    bad_once bytes h.0 at other h.2 (subst (λ (p : Lexemes). IsBadIn bytes p other) (same_parts cut bytes h.0 k.0 h.1 k.1) k.2)

pub text_never_bad : OneCut → (bytes : List ℕ) (f : FileTree) (at : Place) → IsText bytes f → IsBadAt bytes at → ⊥
text_never_bad cut bytes f at h k =
    text_not_bad bytes h.0 f at h.2 (subst (λ (p : Lexemes). IsBadIn bytes p at) (same_parts cut bytes h.0 k.0 h.1 k.1) k.2)

pub outcome_once : OneCut → OneTree → (bytes : List ℕ) (one other : Outcome) → Means bytes one → Means bytes other → one ≡ other
outcome_once cut tree bytes one other h k =
    means_in_once tree bytes h.0 one other h.2 (subst (λ (p : Lexemes). MeansIn bytes p other) (same_parts cut bytes h.0 k.0 h.1 k.1) k.2)
