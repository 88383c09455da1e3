-- The search for the statement of a place finds the trail of the way to it.
use Rattle.std.proofs.Common.{◌≡◌, ℕ, ◌+◌, ◌≤◌, ◌<◌, Bool, true, false, cond, List, [], ◌∷◌, refl, sym, ◌∙◌, ap, arith}
use Rattle.std.specs.Prelude.{Option, Some, None, slice_get}
use Rattle.std.specs.List.{AllByRecursion}
use Rattle.std.proofs.lemmas.Bool.{ne_eqb}
use Rattle.carol_store.specs.declared.shape.CellKind.{CellKind}
use Rattle.carol_store.specs.declared.shape.CellKind.TheVariants.{Counter, Peak, Flag}
use Rattle.carol_formula.specs.Claim.{Claim}
use Rattle.carol_program.specs.declared.steps.Part.{Part}
use Rattle.carol_program.specs.Bodies.{Body, Query, Issue, Release, Branch, Return, last_number}
use Rattle.carol_program.specs.WellFormed.{RisesFrom}
use Rattle.carol_obligation.specs.Ways.{Way, Asks, Puts, Frees, Tests}
use Rattle.carol_obligation.specs.Sites.{After, Site, amount_site, amount_sites, sites}
use Rattle.carol_obligation.proofs.Each.{all-append, all_both}
use Rattle.carol_accept.specs.declared.trail.Trail.{Trail}
use Rattle.carol_accept.specs.Trails.{behind_closing, behind_query, number_of, or_else, trail_of, trail_to}
use Rattle.carol_accept.proofs.Going.{found_first}
use Rattle.carol_accept.proofs.Standing.{rises_last}

-- ---- where a statement isn't

skips : (b : Bool) (t : Trail) (other : Option Trail) → b ≡ false → other ≡ None → cond b (Some t) other ≡ None
skips true t other e h = absurd cc
skips false t other e h = h

-- no statement of the body has a number beyond its last
pub not_there : (wanted low : ℕ) (b : Body) (t : Trail) → RisesFrom low b → last_number b < wanted → trail_to wanted b t ≡ None
not_there wanted low (Query number guard slot next) t h lt =
    let last = rises_last (number + 1) next h.1
    in skips _ t _ (ne_eqb number wanted (λ e. omega (arith, e, lt, last))) (not_there wanted (number + 1) next (behind_query slot t) h.1 lt)
not_there wanted low (Issue number parts next) t h lt =
    let last = rises_last (number + 1) next h.1
    in skips _ t _ (ne_eqb number wanted (λ e. omega (arith, e, lt, last))) (not_there wanted (number + 1) next (behind_closing t) h.1 lt)
not_there wanted low (Release number next) t h lt =
    let last = rises_last (number + 1) next h.1
    in skips _ t _ (ne_eqb number wanted (λ e. omega (arith, e, lt, last))) (not_there wanted (number + 1) next (behind_closing t) h.1 lt)
not_there wanted low (Branch number test first second) t h lt =
    let one = rises_last (number + 1) first h.1
    in let last = rises_last (last_number first + 1) second h.2
    in let none : or_else (trail_to wanted first t) (trail_to wanted second t) ≡ None =
    ap (λ (o : Option Trail). or_else o (trail_to wanted second t)) (not_there wanted (number + 1) first t h.1 (omega (arith, lt, last))) ∙ not_there wanted (last_number first + 1) second t h.2 lt
    in skips _ t _ (ne_eqb number wanted (λ e. omega (arith, e, lt, one, last))) none
not_there wanted low (Return number value) t h lt = skips _ t _ (ne_eqb number wanted (λ e. omega (arith, e, lt))) refl

-- ---- where it is

-- the site's statement stands in the body, and its trail is that of its way
pub record Found (low : ℕ) (b : Body) (t : Trail) (s : Site) : Type 0 where
  pub from : low ≤ s.number
  pub to : s.number ≤ last_number b
  pub trail : trail_to s.number b t ≡ Some (trail_of s.way)

goes : (b : Bool) (t : Trail) (other found : Option Trail) → b ≡ false → other ≡ found → cond b (Some t) other ≡ found
goes true t other found e h = absurd cc
goes false t other found e h = h

module _ (kinds : List CellKind) where
  -- a place of the first statement
  amount_found : (P : Site → Type 0) (way : Way) (n atom : ℕ) (part : Part) (kind : Option CellKind) → ((s : Site) → s.number ≡ n → s.way ≡ way → P s) → AllByRecursion P (amount_site way n atom part kind)
  amount_found P way n atom part None h = tt
  amount_found P way n atom part (Some Flag) h = tt
  amount_found P way n atom part (Some Counter) h = (h _ refl refl, tt)
  amount_found P way n atom part (Some Peak) h = (h _ refl refl, tt)

  amounts_found : (P : Site → Type 0) (way : Way) (n atom : ℕ) (parts : List Part) → ((s : Site) → s.number ≡ n → s.way ≡ way → P s) → AllByRecursion P (amount_sites kinds way n atom parts)
  amounts_found P way n atom [] h = tt
  amounts_found P way n atom (part ∷ parts) h =
      all-append P (amount_site way n atom part (slice_get kinds part.cell)) (amount_sites kinds way n (atom + 1) parts)
      (amount_found P way n atom part (slice_get kinds part.cell) h) (amounts_found P way n (atom + 1) parts h)

  first_there : (low : ℕ) (b : Body) (way : Way) → low ≤ number_of b → number_of b ≤ last_number b → (s : Site) → s.number ≡ number_of b → s.way ≡ way → Found low b (trail_of way) s
  first_there low b way from to s is at = record {
    from = omega (arith, from, is);
    to = omega (arith, to, is);
    trail = found_first s.number (trail_of way) b (sym is) ∙ ap (λ (w : Way). Some (trail_of w)) (sym at);
  }

  behind_first : (low number : ℕ) (whole next : Body) (t : Trail) (new : Trail) → low ≤ number → last_number next ≤ last_number whole →
      ((wanted : ℕ) → (number ≡ wanted → ⊥) → trail_to wanted next new ≡ trail_to wanted whole t) → (s : Site) → Found (number + 1) next new s → Found low whole t s
  behind_first low number whole next t new from to skip s f = record {
    from = omega (arith, from, f.from);
    to = omega (arith, to, f.to);
    trail = sym (skip s.number (λ e. omega (arith, e, f.from))) ∙ f.trail;
  }

  pub found_sites : (low : ℕ) (b : Body) (way : Way) → RisesFrom low b → AllByRecursion (Found low b (trail_of way)) (sites kinds b way)
  found_sites low (Query number guard slot next) way h =
      let t = trail_of way
      in all_both _ _ (behind_first low number (Query number guard slot next) next t (behind_query slot t) h.0 (omega arith)
      (λ wanted ne. sym (goes _ t (trail_to wanted next (behind_query slot t)) _ (ne_eqb number wanted ne) refl)))
      (sites kinds next (Asks guard slot ∷ way)) (found_sites (number + 1) next (Asks guard slot ∷ way) h.1)
  found_sites low (Issue number parts next) way h =
      let t = trail_of way
      in let whole = Issue number parts next
      in let last = rises_last (number + 1) next h.1
      in let there = first_there low whole way h.0 (omega (arith, last))
      in all-append (Found low whole t) (amount_sites kinds way number 1 parts) (record { way = way; number = number; ending = After parts } ∷ sites kinds next (Puts parts ∷ way))
      (amounts_found (Found low whole t) way number 1 parts there) (
        there _ refl refl,
        all_both _ _ (behind_first low number whole next t (behind_closing t) h.0 (omega arith) (λ wanted ne. sym (goes _ t (trail_to wanted next (behind_closing t)) _ (ne_eqb number wanted ne) refl)))
            (sites kinds next (Puts parts ∷ way)) (found_sites (number + 1) next (Puts parts ∷ way) h.1),
      )
  found_sites low (Release number next) way h =
      let t = trail_of way
      in all_both _ _ (behind_first low number (Release number next) next t (behind_closing t) h.0 (omega arith)
      (λ wanted ne. sym (goes _ t (trail_to wanted next (behind_closing t)) _ (ne_eqb number wanted ne) refl)))
      (sites kinds next (Frees ∷ way)) (found_sites (number + 1) next (Frees ∷ way) h.1)
  found_sites low (Branch number test first second) way h =
      let t = trail_of way
      in let whole = Branch number test first second
      in let one = rises_last (number + 1) first h.1
      in let last = rises_last (last_number first + 1) second h.2
      in all-append (Found low whole t) (sites kinds first (Tests test true ∷ way)) (sites kinds second (Tests test false ∷ way))
      (all_both _ _ (in_first low number test first second t h.0 last) (sites kinds first (Tests test true ∷ way)) (found_sites (number + 1) first (Tests test true ∷ way) h.1))
      (all_both _ _ (in_second low number test first second t h.0 one h.1) (sites kinds second (Tests test false ∷ way)) (found_sites (last_number first + 1) second (Tests test false ∷ way) h.2))
    where
      in_first : (low number : ℕ) (test : Claim) (first second : Body) (t : Trail) → low ≤ number → last_number first + 1 ≤ last_number second → (s : Site) → Found (number + 1) first t s → Found low (Branch number test first second) t s
      in_first low number test first second t from last s f = record {
        from = omega (arith, from, f.from);
        to = omega (arith, last, f.to);
        trail = goes _ t (or_else (trail_to s.number first t) (trail_to s.number second t)) (Some (trail_of s.way)) (ne_eqb number s.number (λ e. omega (arith, e, f.from)))
            (ap (λ (o : Option Trail). or_else o (trail_to s.number second t)) f.trail);
      }

      in_second : (low number : ℕ) (test : Claim) (first second : Body) (t : Trail) → low ≤ number → number + 1 ≤ last_number first → RisesFrom (number + 1) first → (s : Site) → Found (last_number first + 1) second t s → Found low (Branch number test first second) t s
      in_second low number test first second t from one rises s f = record {
        from = omega (arith, from, one, f.from);
        to = f.to;
        trail = goes _ t (or_else (trail_to s.number first t) (trail_to s.number second t)) (Some (trail_of s.way)) (ne_eqb number s.number (λ e. omega (arith, e, one, f.from)))
            (ap (λ (o : Option Trail). or_else o (trail_to s.number second t)) (not_there s.number (number + 1) first t rises (omega (arith, f.from))) ∙ f.trail);
      }
  found_sites low (Return number value) way h = (first_there low (Return number value) way h (omega arith) _ refl refl, tt)
