-- Pieces that keep within the limits, from what is counted before them to what is behind them.
use Rattle.std.proofs.Common.{◌≡◌, ℕ, ◌+◌, ◌≤◌, Bool, true, false, cond, ◌&&◌, List, [], ◌∷◌, ◌++◌, map, refl, sym, ◌∙◌, subst, arith}
use Rattle.std.specs.Prelude.{nat_le}
use Rattle.std.specs.List.{AllByRecursion}
use Rattle.std.proofs.lemmas.Bool.Decides.{nat_tests}
use Rattle.carol_syntax.specs.Limits.{most_formula_nodes, most_body_depth, most_script_lines}
use Rattle.carol_syntax.specs.declared.kind.Kind.{Kind}
use Rattle.carol_syntax.specs.declared.kind.Kind.TheVariants as k
use Rattle.carol_grammar.specs.declared.counting.Counts.{Counts}
use Rattle.carol_grammar.specs.Limits.{counts_anew, nodes_with, depth_with, begins_line}
use Rattle.carol_grammar.specs.Counts.{counts_with, IsWithin}
use Rattle.carol_grammar.proofs.SetLemmas.{and_left, and_right}
use Rattle.carol_print.specs.Pieces.Piece.{Token, Space, Break}
use Rattle.carol_print.specs.Canonical.{Pieces, after_commas, with_commas, concat, semicolon, opening_brace, closing_brace}
use Rattle.carol_print.proofs.Counting.{over, Along, over_both, along_both, along_end, along_more, Near, is_flat, is_silent, is_fresh, near_one, near_silent, fresh_nodes, nodes_by, weight_by, depth_by, lines_by}
use Rattle.carol_print.proofs.Growing.{Grows}

pub record Goes (P Q : Counts → Type 0) (ps : Pieces) : Type 0 where
  pub along : (c : Counts) → P c → Along IsWithin c ps
  pub behind : (c : Counts) → P c → Q (over c ps)

-- at most so many nodes, and exactly so many open braces and lines
pub record At (nodes depth lines : ℕ) (c : Counts) : Type 0 where
  pub nodes_at : c.nodes ≤ nodes
  pub depth_at : c.depth ≡ depth
  pub lines_at : c.lines ≡ lines

pub goes_both : {P Q R : Counts → Type 0} {ps qs : Pieces} → Goes P Q ps → Goes Q R qs → Goes P R (ps ++ qs)
goes_both {R = R} {ps = ps} {qs = qs} a b = record {
  along = λ c p. along_both IsWithin c ps qs (a.along c p) (b.along (over c ps) (a.behind c p));
  behind = λ c p. subst R (sym (over_both c ps qs)) (b.behind (over c ps) (a.behind c p));
}

pub goes_space : {P Q : Counts → Type 0} {ps : Pieces} → Goes P Q ps → Goes P Q (Space ∷ ps)
goes_space a = record { along = a.along; behind = a.behind }

pub goes_break : {P Q : Counts → Type 0} {ps : Pieces} → Goes P Q ps → Goes P Q (Break ∷ ps)
goes_break a = record { along = a.along; behind = a.behind }

-- one list of pieces after the other, all of one kind
pub goes_rows : {A : Type 0} {P : Counts → Type 0} (W : A → Type 0) (f : A → Pieces) → ((c : Counts) → P c → IsWithin c) → ((x : A) → W x → Goes P P (f x)) → (xs : List A) → AllByRecursion W xs → Goes P P (concat (map f xs))
goes_rows W f w one [] h = record { along = λ c p. w c p; behind = λ c p. p }
goes_rows W f w one (x ∷ xs) h = goes_both (one x h.0) (goes_rows W f w one xs h.1)

-- what the next token comes to
abbrev next : ℕ → Kind → ℕ
next n kind = cond (is_fresh kind) 0 (cond (is_silent kind) n (n + 1))

-- the nodes behind pieces, at most
abbrev pub bound : ℕ → Pieces → ℕ
bound n [] = n
bound n (Token kind value spelled ∷ ps) = bound (next n kind) ps
bound n (Space ∷ ps) = bound n ps
bound n (Break ∷ ps) = bound n ps

-- from so many nodes on, the pieces stay low, and have no brace and no line
abbrev pub is_low : ℕ → Pieces → Bool
is_low n [] = nat_le n most_formula_nodes
is_low n (Token kind value spelled ∷ ps) = (nat_le n most_formula_nodes && is_flat kind) && is_low (next n kind) ps
is_low n (Space ∷ ps) = is_low n ps
is_low n (Break ∷ ps) = is_low n ps

module _ (d l : ℕ) (dh : d ≤ most_body_depth) (lh : l ≤ most_script_lines) where
  pub at_within : {a : ℕ} {c : Counts} → a ≤ most_formula_nodes → At a d l c → IsWithin c
  at_within h p = record { nodes_within = omega (arith, p.nodes_at); depth_within = omega (arith, p.depth_at); lines_within = omega (arith, p.lines_at) }

  at_fresh : (a : ℕ) (c : Counts) (kind : Kind) → is_fresh kind ≡ true → is_flat kind ≡ true → At a d l c → At 0 d l (counts_with c kind)
  at_fresh a c kind fresh flat p = record {
    nodes_at = omega (arith, fresh_nodes c.nodes kind c.last c.second fresh);
    depth_at = depth_by kind c.depth flat ∙ p.depth_at;
    lines_at = lines_by kind c.lines flat ∙ p.lines_at;
  }

  at_near : (a m : ℕ) (c e : Counts) → Near c m e → At a d l c → At (a + m) d l e
  at_near a m c e n p = record { nodes_at = omega (arith, n.nodes, p.nodes_at); depth_at = n.depth ∙ p.depth_at; lines_at = n.lines ∙ p.lines_at }

  at_self : (c : Counts) → Near c 0 c
  at_self c = record { nodes = omega arith; depth = refl; lines = refl }

  at_less : (a b : ℕ) (c : Counts) → a ≤ b → At a d l c → At b d l c
  at_less a b c h p = record { nodes_at = omega (arith, p.nodes_at); depth_at = p.depth_at; lines_at = p.lines_at }

  at_next : (a : ℕ) (c : Counts) (kind : Kind) → is_flat kind ≡ true → At a d l c → At (next a kind) d l (counts_with c kind)
  at_next a c kind flat p = of_fresh (is_fresh kind) refl
    where
      of_silent : (b : Bool) → is_silent kind ≡ b → At (cond b a (a + 1)) d l (counts_with c kind)
      of_silent true s = at_less (a + 0) a (counts_with c kind) (omega arith) (at_near a 0 c (counts_with c kind) (near_silent c c 0 kind s (at_self c)) p)
      of_silent false s = at_less (a + (0 + 1)) (a + 1) (counts_with c kind) (omega arith) (at_near a (0 + 1) c (counts_with c kind) (near_one c c 0 kind flat (at_self c)) p)

      of_fresh : (b : Bool) → is_fresh kind ≡ b → At (cond b 0 (cond (is_silent kind) a (a + 1))) d l (counts_with c kind)
      of_fresh true f = at_fresh a c kind f flat p
      of_fresh false f = of_silent (is_silent kind) refl

  few : (n : ℕ) → nat_le n most_formula_nodes ≡ true → n ≤ most_formula_nodes
  few n h = grind (arith, nat_tests)

  plain_along : (a : ℕ) (ps : Pieces) (c : Counts) → is_low a ps ≡ true → At a d l c → Along IsWithin c ps
  plain_along a [] c h p = at_within (few a h) p
  plain_along a (Token kind value spelled ∷ ps) c h p =
      let front : (nat_le a most_formula_nodes && is_flat kind) ≡ true = and_left (nat_le a most_formula_nodes && is_flat kind) (is_low (next a kind) ps) h in
      let flat : is_flat kind ≡ true = and_right (nat_le a most_formula_nodes) (is_flat kind) front in (
        at_within (few a (and_left (nat_le a most_formula_nodes) (is_flat kind) front)) p,
        plain_along (next a kind) ps (counts_with c kind) (and_right (nat_le a most_formula_nodes && is_flat kind) (is_low (next a kind) ps) h) (at_next a c kind flat p),
      )
  plain_along a (Space ∷ ps) c h p = plain_along a ps c h p
  plain_along a (Break ∷ ps) c h p = plain_along a ps c h p

  plain_behind : (a : ℕ) (ps : Pieces) (c : Counts) → is_low a ps ≡ true → At a d l c → At (bound a ps) d l (over c ps)
  plain_behind a [] c h p = p
  plain_behind a (Token kind value spelled ∷ ps) c h p =
      let front : (nat_le a most_formula_nodes && is_flat kind) ≡ true = and_left (nat_le a most_formula_nodes && is_flat kind) (is_low (next a kind) ps) h in
      let flat : is_flat kind ≡ true = and_right (nat_le a most_formula_nodes) (is_flat kind) front in
      plain_behind (next a kind) ps (counts_with c kind) (and_right (nat_le a most_formula_nodes && is_flat kind) (is_low (next a kind) ps) h) (at_next a c kind flat p)
  plain_behind a (Space ∷ ps) c h p = plain_behind a ps c h p
  plain_behind a (Break ∷ ps) c h p = plain_behind a ps c h p

  -- pieces of words, names and symbols
  pub goes_plain : (a : ℕ) (ps : Pieces) → is_low a ps ≡ true → Goes (At a d l) (At (bound a ps) d l) ps
  goes_plain a ps h = record { along = λ c p. plain_along a ps c h p; behind = λ c p. plain_behind a ps c h p }

  pub goes_grows : {m : ℕ} {ps : Pieces} (a b : ℕ) → a + m ≤ b → b ≤ most_formula_nodes → Grows m ps → Goes (At a d l) (At b d l) ps
  goes_grows {m = m} {ps = ps} a b r h g = record {
    along = λ c p. along_more (Near c m) IsWithin (λ e n. at_within {a = a + m} (omega arith) (at_near a m c e n p)) c ps (g.along c);
    behind = λ c p. at_less (a + m) b (over c ps) r (at_near a m c (over c ps) (along_end (Near c m) c ps (g.along c)) p);
  }

  -- from fewer nodes on
  pub goes_from : {Q : Counts → Type 0} {ps : Pieces} (a b : ℕ) → a ≤ b → Goes (At b d l) Q ps → Goes (At a d l) Q ps
  goes_from a b h g = record { along = λ c p. g.along c (at_less a b c h p); behind = λ c p. g.behind c (at_less a b c h p) }

  -- a token behind which counting starts anew
  pub goes_fresh : {Q : Counts → Type 0} {ps : Pieces} (a : ℕ) (kind : Kind) (value : ℕ) (spelled : List ℕ) → a ≤ most_formula_nodes → is_fresh kind ≡ true → is_flat kind ≡ true → Goes (At 0 d l) Q ps → Goes (At a d l) Q (Token kind value spelled ∷ ps)
  goes_fresh a kind value spelled h fresh flat g = record {
    along = λ c p. (at_within h p, g.along (counts_with c kind) (at_fresh a c kind fresh flat p));
    behind = λ c p. g.behind (counts_with c kind) (at_fresh a c kind fresh flat p);
  }

  -- the end of a line
  pub goes_end : (a : ℕ) → a ≤ most_formula_nodes → Goes (At a d l) (At 0 d l) (semicolon ∷ Break ∷ [])
  goes_end a h = goes_fresh a k.Semicolon 0 _ h refl refl (goes_plain 0 (Break ∷ []) refl)

  -- with commas between them
  goes_after : {A : Type 0} (W : A → Type 0) (f : A → Pieces) (a b : ℕ) → b ≤ most_formula_nodes → ((x : A) → W x → Goes (At a d l) (At b d l) (f x)) → (xs : List A) → AllByRecursion W xs → Goes (At b d l) (At b d l) (after_commas (map f xs))
  goes_after W f a b h one [] w = record { along = λ c p. at_within h p; behind = λ c p. p }
  goes_after W f a b h one (x ∷ xs) w =
      goes_fresh b k.Comma 0 _ h refl refl (goes_space (goes_both (goes_from 0 a (omega arith) (one x w.0)) (goes_after W f a b h one xs w.1)))

  pub goes_commas : {A : Type 0} (W : A → Type 0) (f : A → Pieces) (a b : ℕ) → a ≤ b → b ≤ most_formula_nodes → ((x : A) → W x → Goes (At a d l) (At b d l) (f x)) → (xs : List A) → AllByRecursion W xs → Goes (At a d l) (At b d l) (with_commas (map f xs))
  goes_commas W f a b r h one [] w = record { along = λ c p. at_within {a = a} (omega arith) p; behind = λ c p. at_less a b c r p }
  goes_commas W f a b r h one (x ∷ xs) w = goes_both (one x w.0) (goes_after W f a b h one xs w.1)

-- Braces.

opened : (a d l : ℕ) (c : Counts) → At a d l c → At 0 (d + 1) l (counts_with c k.OpeningBrace)
unfolding counts_anew depth_with begins_line
opened a d l c p = record { nodes_at = omega arith; depth_at = omega (arith, p.depth_at); lines_at = omega (arith, p.lines_at) }

closed : (a d l : ℕ) (c : Counts) → At a (d + 1) l c → At 0 d l (counts_with c k.ClosingBrace)
unfolding counts_anew depth_with begins_line
closed a d l c p = record { nodes_at = omega arith; depth_at = omega (arith, p.depth_at); lines_at = omega (arith, p.lines_at) }

pub goes_opened : {Q : Counts → Type 0} {ps : Pieces} (a d l : ℕ) → a ≤ most_formula_nodes → d + 1 ≤ most_body_depth → l ≤ most_script_lines → Goes (At 0 (d + 1) l) Q ps → Goes (At a d l) Q (opening_brace ∷ ps)
goes_opened a d l h dh lh g = record {
  along = λ c p. (at_within d l (omega arith) lh h p, g.along (counts_with c k.OpeningBrace) (opened a d l c p));
  behind = λ c p. g.behind (counts_with c k.OpeningBrace) (opened a d l c p);
}

pub goes_closed : {Q : Counts → Type 0} {ps : Pieces} (a d l : ℕ) → a ≤ most_formula_nodes → d + 1 ≤ most_body_depth → l ≤ most_script_lines → Goes (At 0 d l) Q ps → Goes (At a (d + 1) l) Q (closing_brace ∷ ps)
goes_closed a d l h dh lh g = record {
  along = λ c p. (at_within (d + 1) l dh lh h p, g.along (counts_with c k.ClosingBrace) (closed a d l c p));
  behind = λ c p. g.behind (counts_with c k.ClosingBrace) (closed a d l c p);
}

-- the first word of a line of a script
counted_line : (kind : Kind) (a d l : ℕ) (c : Counts) → begins_line kind ≡ true → depth_with c.depth kind ≡ c.depth → At a d l c → At (a + 1) d (l + 1) (counts_with c kind)
counted_line kind a d l c b e p = record {
  nodes_at = let h : nodes_with c.nodes kind c.last c.second ≤ c.nodes + 1 = nodes_by c.nodes kind c.last c.second 1 (weight_by kind c.last c.second) in omega (arith, p.nodes_at);
  depth_at = e ∙ p.depth_at;
  lines_at = rw b (omega (arith, p.lines_at));
}

-- a line of a script
pub goes_line : {ps : Pieces} (kind : Kind) (l : ℕ) (value : ℕ) (spelled : List ℕ) → begins_line kind ≡ true → ((n : ℕ) → depth_with n kind ≡ n) → l + 1 ≤ most_script_lines → Goes (At 1 0 (l + 1)) (At 0 0 (l + 1)) ps → Goes (At 0 0 l) (At 0 0 (l + 1)) (Token kind value spelled ∷ ps)
goes_line kind l value spelled b e h g = record {
  along = λ c p. (at_within 0 l (omega arith) (omega arith) (omega arith) p, g.along (counts_with c kind) (counted_line kind 0 0 l c b (e c.depth) p));
  behind = λ c p. g.behind (counts_with c kind) (counted_line kind 0 0 l c b (e c.depth) p);
}
