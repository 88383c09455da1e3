-- What is small is read.
use Rattle.std.proofs.Common.{◌≡◌, ℕ, ◌+◌, ◌≤◌, Bool, true, false, ◌&&◌, ◌||◌, List, [], ◌∷◌, ◌++◌, length, length-append, reverse, refl, sym, ◌∙◌, ap, subst, append_assoc, arith}
use Rattle.std.specs.Prelude.{nat_le, map}
use Rattle.std.proofs.lemmas.Bool.Decides.{nat_tests}
use Rattle.std.proofs.lemmas.List.{append-nil}
use Rattle.carol_syntax.specs.Files.{ProgramTree}
use Rattle.carol_syntax.specs.Limits.{most_program_bytes}
use Rattle.carol_syntax.specs.declared.kind.Kind.TheVariants as k
use Rattle.carol_syntax.specs.declared.lexeme.Lexeme.{Lexeme}
use Rattle.carol_syntax.specs.declared.lexeme.Stop.TheVariants as stop_of
use Rattle.carol_grammar.specs.declared.limit.TextLimit.{TextLimit}
use Rattle.carol_grammar.specs.declared.limit.TextLimit.TheVariants.{ProgramBytes, FormulaNodes, BodyDepth, ScriptLines}
use Rattle.carol_grammar.specs.declared.counting.Counts.{Counts}
use Rattle.carol_grammar.specs.Limits.{counted, most, is_end, ends_within}
use Rattle.carol_grammar.specs.Counts.{counts_of, counts_with, IsWithin}
use Rattle.carol_grammar.specs.Reach.{NoneIsOver, NonePast}
use Rattle.carol_grammar.proofs.Counted.{reversed_more}
use Rattle.carol_grammar.proofs.FirstMet.{none_passes}
use Rattle.carol_grammar.proofs.Given.{push}
use Rattle.carol_print.specs.Pieces.{fixed, text_of, tokens_in, Spells, EndAsPieces}
use Rattle.carol_print.specs.Pieces.Piece.{Token, Space, Break}
use Rattle.carol_print.specs.Canonical.{Pieces, semicolon, concat, formula, cell, guard, op, end, program, scene, script, part_of, canonical}
use Rattle.carol_print.specs.ReadBack.{SmallIsRead}
use Rattle.carol_print.proofs.LaidLists.{text_of_both}
use Rattle.carol_print.proofs.Again.{laid_out}
use Rattle.carol_print.proofs.LaidFiles.{canonical_laid}
use Rattle.carol_print.proofs.ReadFiles.{canonical_is_read}
use Rattle.carol_print.proofs.Counting.{Along}
use Rattle.carol_print.proofs.GoingFiles.{canonical_goes}

-- The tokens, as they are counted.

none_over : (c : Counts) (before : List Lexeme) → c ≡ counts_of before → IsWithin c → (limit : TextLimit) → counted limit before ≤ most limit
none_over c before e w ProgramBytes = omega arith
none_over c before e w FormulaNodes = (subst IsWithin e w).nodes_within
none_over c before e w BodyDepth = (subst IsWithin e w).depth_within
none_over c before e w ScriptLines = (subst IsWithin e w).lines_within

along_start : (c : Counts) (ps : Pieces) → Along IsWithin c ps → IsWithin c
along_start c [] a = a
along_start c (Token kind value spelled ∷ ps) a = a.0
along_start c (Space ∷ ps) a = along_start c ps a
along_start c (Break ∷ ps) a = along_start c ps a

-- what is counted along the pieces is counted along their tokens
tokens_within : (bytes : List ℕ) (ps : Pieces) (list before : List Lexeme) → Spells bytes list (tokens_in ps) → Along IsWithin (counts_of before) ps → NoneIsOver before → NoneIsOver (push list before)
tokens_within bytes [] [] before s a n = n
tokens_within bytes [] (l ∷ list) before s a n = absurd s
tokens_within bytes (Token kind value spelled ∷ ps) [] before s a n = absurd s
tokens_within bytes (Token kind value spelled ∷ ps) (l ∷ list) before s a n =
    let same : counts_with (counts_of before) kind ≡ counts_of (l ∷ before) = ap (counts_with (counts_of before)) (sym s.0.0) in
    tokens_within bytes ps list (l ∷ before) s.1 (subst (λ c. Along IsWithin c ps) same a.1)
    (none_over (counts_with (counts_of before) kind) (l ∷ before) same (along_start (counts_with (counts_of before) kind) ps a.1), n)
tokens_within bytes (Space ∷ ps) list before s a n = tokens_within bytes ps list before s a n
tokens_within bytes (Break ∷ ps) list before s a n = tokens_within bytes ps list before s a n

push_reversed : (ts before : List Lexeme) → push ts before ≡ reverse ts ++ before
push_reversed [] before = refl
push_reversed (t ∷ ts) before = push_reversed ts (t ∷ before) ∙ sym (reversed_more ts before t)

-- The program part.

or_true : (a b : Bool) → b ≡ true → (a || b) ≡ true
or_true true b h = refl
or_true false b h = h

-- a word `end` within the bytes of a program
ends_here : (l : Lexeme) (list : List Lexeme) → l.kind ≡ k.End → l.to ≤ most_program_bytes → ends_within (l ∷ list) ≡ true
unfolding is_end
ends_here l list e h =
    let t : nat_le l.to most_program_bytes ≡ true = grind (arith, nat_tests) in
    rw (e, t) refl

ends_early : (bytes : List ℕ) (ps rest : Pieces) (at : ℕ) (list : List Lexeme) → Spells bytes list (tokens_in (ps ++ fixed k.End ∷ rest)) → EndAsPieces at list (ps ++ fixed k.End ∷ rest)
    → at + (length (text_of ps) + 3) ≤ most_program_bytes → ends_within list ≡ true
ends_early bytes [] rest at [] s e h = absurd s
ends_early bytes [] rest at (l ∷ list) s e h = ends_here l list s.0.0 (omega (arith, e.0))
ends_early bytes (Token kind value spelled ∷ ps) rest at [] s e h = absurd s
ends_early bytes (Token kind value spelled ∷ ps) rest at (l ∷ list) s e h =
    or_true (is_end l.kind && nat_le l.to most_program_bytes) (ends_within list) (ends_early bytes ps rest (at + length spelled) list s.1 e.1 (omega (arith, length-append spelled (text_of ps))))
ends_early bytes (Space ∷ ps) rest at list s e h = ends_early bytes ps rest (at + 1) list s e (omega arith)
ends_early bytes (Break ∷ ps) rest at list s e h = ends_early bytes ps rest (at + 1) list s e (omega arith)

-- a program up to its last word
abbrev before_end : ProgramTree → Pieces
before_end p =
    fixed k.Program ∷ Break ∷ (concat (map cell p.cells)
    ++ (fixed k.Invariant ∷ Space ∷ (formula p.invariant ++ (semicolon ∷ Break ∷ (concat (map guard p.guards) ++ concat (map op p.ops))))))

program_split : (p : ProgramTree) (more : Pieces) → program p ++ more ≡ before_end p ++ fixed k.End ∷ Break ∷ more
program_split p more = simp append_assoc

program_long : (p : ProgramTree) → length (text_of (program p)) ≡ length (text_of (before_end p)) + 4
program_long p =
    let e : program p ≡ before_end p ++ end = simp append_assoc in
    ap (λ z. length (text_of z)) e ∙ ap length (text_of_both (before_end p) end) ∙ length-append (text_of (before_end p)) (text_of end)

pub small_is_read : SmallIsRead
small_is_read f h s =
    let bytes : List ℕ = text_of (canonical f) in
    let c = laid_out (canonical f) (canonical_laid f h) in
    let g = canonical_is_read f h bytes 0 c.0 c.3 in
    let more : Pieces = part_of scene f.scene ++ part_of script f.script in
    let along = (canonical_goes f s).along (counts_of []) (record { nodes_at = omega arith; depth_at = refl; lines_at = refl }) in
    let none : NoneIsOver (reverse c.0) = subst NoneIsOver (push_reversed c.0 [] ∙ append-nil (reverse c.0)) (tokens_within bytes (canonical f) c.0 [] c.3 along tt) in
    let split : canonical f ≡ before_end f.program ++ fixed k.End ∷ Break ∷ more = program_split f.program more in
    let ended : ends_within c.0 ≡ true = ends_early bytes (before_end f.program) (Break ∷ more) 0 c.0
    (subst (λ z. Spells bytes c.0 (tokens_in z)) split c.3) (subst (EndAsPieces 0 c.0) split c.4) (omega (arith, s.bytes, program_long f.program)) in
    (g.0, (record { list = c.0; stop = stop_of.End; end = c.1 }, c.2, record { text = record { whole = refl; file = g.1 }; small = small bytes c.0 none ended }), g.2)
  where
    small : (bytes : List ℕ) (list : List Lexeme) → NoneIsOver (reverse list) → ends_within list ≡ true → NonePast bytes list
    small bytes list none ended ProgramBytes o p = let u : ends_within list ≡ false = p.unfinished in cc
    small bytes list none ended FormulaNodes o p = none_passes list none FormulaNodes o p
    small bytes list none ended BodyDepth o p = none_passes list none BodyDepth o p
    small bytes list none ended ScriptLines o p = none_passes list none ScriptLines o p
