-- A body that stands behind a way with no breach at its places, and numbers that go along the way: they stand
-- for what a reading has read so far.
use Rattle.std.proofs.Common.{◌≡◌, ℕ, ◌+◌, ◌<◌, ◌≤◌, Bool, true, false, List, [], ◌∷◌, ◌++◌, length, append-nil, arith, refl, sym, ◌∙◌, ap, subst}
use Rattle.std.specs.Prelude.{ℤ, slice_get}
use Rattle.std.specs.List.{AllByRecursion}
use Rattle.std.proofs.lemmas.List.{append_assoc}
use Rattle.carol_store.specs.declared.effect.Atom.{Atom}
use Rattle.carol_store.specs.Kinds.{CellValue}
use Rattle.carol_store.proofs.Cells.{length-IsStore}
use Rattle.carol_formula.specs.Claim.{Claim, truth}
use Rattle.carol_program.specs.declared.steps.Part.{Part}
use Rattle.carol_program.specs.Bodies.{Body, Query, Issue, Release, Branch, queries_in}
use Rattle.carol_program.specs.Rules.{Rules, OpRules}
use Rattle.carol_program.specs.Variables.{number_of_args, query_variable, store_at}
use Rattle.carol_program.specs.WellFormed.{AreRules, IsFitBody, IsFormulaOver, IsOpOver, SlotsFrom, setting_of}
use Rattle.carol_reading.specs.Good.{Meet, IsReading, MayLeave}
use Rattle.carol_reading.specs.Marks.{Mark, Asked, Issued, Released}
use Rattle.carol_reading.specs.Readings.{Reads, placed, effect_of}
use Rattle.carol_reading.specs.Rounds.{IsSound, GuardsIn, IsProper}
use Rattle.carol_obligation.specs.Ways.{Way, Asks, Puts, Frees, Tests, rounds_of, has_query}
use Rattle.carol_obligation.specs.Sites.{After, amount_sites, sites}
use Rattle.carol_obligation.specs.Decoded.{round_variable, args_at, marks_at, open_at, TestsGo}
use Rattle.carol_obligation.specs.Breaches.{IsReadingAlong}
use Rattle.carol_obligation.specs.Places.{sites_of}
use Rattle.carol_obligation.specs.GoodLaw.{HasNoBreach}
use Rattle.carol_obligation.proofs.Agreeing.{truth-same}
use Rattle.carol_obligation.proofs.Each.{all-first, all-second}
use Rattle.carol_obligation.proofs.Follows.{Follows, follows_start, follows_query, follows_issue, follows_release, follows_side}
use Rattle.carol_obligation.proofs.Rounds.{RoundsGo, sound-closed, rounds-back}
use Rattle.carol_obligation.proofs.GoodRounds.{first_of, first-sound}
use Rattle.carol_obligation.proofs.Seen.{seen, slots_of, ranges_of}
use Rattle.carol_obligation.proofs.Settling.{AreBelow, Keeps, below-more, kept-agree, query-keeps, query-placed, round-keeps, round-placed, start-args, start-placed}

-- ---- the body

-- the body stands behind the way, its queries take slots from this one on, and no place of it has a breach
pub record Stands (p : Rules) (op : OpRules) (way : Way) (low : ℕ) (body : Body) : Type 0 where
  pub fit : IsFitBody (setting_of p.shape (length p.guards) op) (slots_of way) body
  pub slots : SlotsFrom low body
  pub room : low + queries_in body ≤ 8
  pub below : AreBelow low (slots_of way)
  pub follows : Follows p.shape (length op.params) op.body way body
  pub safe : AllByRecursion (HasNoBreach p op) (sites p.shape body way)

pub stands_start : (p : Rules) (op : OpRules) → IsOpOver p.shape (length p.guards) op → AllByRecursion (HasNoBreach p op) (sites_of p op) → Stands p op [] 0 op.body
stands_start p op over safe = record { fit = over.body; slots = over.slots; room = omega (arith, over.few_queries); below = tt; follows = follows_start p.shape (length op.params) op.body; safe = safe }

module _ {p : Rules} {op : OpRules} {way : Way} {low number : ℕ} where
  pub stands_query : {guard slot : ℕ} {next : Body} → Stands p op way low (Query number guard slot next) → Stands p op (Asks guard slot ∷ way) (low + 1) next
  stands_query {guard = guard} {slot = slot} {next = next} s = record {
    fit = s.fit.1;
    slots = s.slots.1;
    room = omega (arith, s.room);
    below = (omega (arith, s.slots.0), below-more low (low + 1) (slots_of way) (omega arith) s.below);
    follows = follows_query p.shape (length op.params) op.body way number guard slot next s.follows;
    safe = s.safe;
  }

  -- of an issue first the places of its amounts are safe, then that of what it leaves, then all behind it
  pub issue-amounts : {parts : List Part} {next : Body} → Stands p op way low (Issue number parts next) → AllByRecursion (HasNoBreach p op) (amount_sites p.shape way number 1 parts)
  issue-amounts {parts = parts} s = all-first (HasNoBreach p op) (amount_sites p.shape way number 1 parts) _ s.safe

  pub issue-after : {parts : List Part} {next : Body} → Stands p op way low (Issue number parts next) → HasNoBreach p op (record { way = way; number = number; ending = After parts }) × AllByRecursion (HasNoBreach p op) (sites p.shape next (Puts parts ∷ way))
  issue-after {parts = parts} s = all-second (HasNoBreach p op) (amount_sites p.shape way number 1 parts) _ s.safe

  pub stands_issue : {parts : List Part} {next : Body} → Stands p op way low (Issue number parts next) → Stands p op (Puts parts ∷ way) low next
  stands_issue {parts = parts} {next = next} s = record {
    fit = s.fit.1;
    slots = s.slots;
    room = s.room;
    below = s.below;
    follows = follows_issue p.shape (length op.params) op.body way number parts next s.fit.0.1 s.follows;
    safe = (issue-after s).1;
  }

  pub stands_release : {next : Body} → Stands p op way low (Release number next) → Stands p op (Frees ∷ way) low next
  stands_release {next = next} s = record {
    fit = s.fit;
    slots = s.slots;
    room = s.room;
    below = s.below;
    follows = follows_release p.shape (length op.params) op.body way number next s.follows;
    safe = s.safe;
  }

  module _ {test : Claim} {first second : Body} (s : Stands p op way low (Branch number test first second)) where
    pub stands_first : Stands p op (Tests test true ∷ way) low first
    stands_first = record {
      fit = s.fit.1;
      slots = s.slots.0;
      room = omega (arith, s.room);
      below = s.below;
      follows = follows_side p.shape (length op.params) op.body way true number test first second s.fit.0 s.follows;
      safe = all-first (HasNoBreach p op) (sites p.shape first (Tests test true ∷ way)) _ s.safe;
    }

    pub stands_second : Stands p op (Tests test false ∷ way) (low + queries_in first) second
    stands_second = record {
      fit = s.fit.2;
      slots = s.slots.1;
      room = omega (arith, s.room);
      below = below-more low (low + queries_in first) (slots_of way) (omega arith) s.below;
      follows = follows_side p.shape (length op.params) op.body way false number test first second s.fit.0 s.follows;
      safe = all-second (HasNoBreach p op) (sites p.shape first (Tests test true ∷ way)) _ s.safe;
    }

-- ---- the numbers

-- a reading of a well-formed operation, and a mark that it may leave next
pub record Course (p : Rules) (op : OpRules) : Type 0 where
  pub args : List ℤ
  pub marks : List Mark
  pub ended : List (List CellValue)
  pub current : List CellValue
  pub mark : Mark
  pub rules : AreRules p
  pub over : IsOpOver p.shape (length p.guards) op
  pub reading : IsReading p op args marks ended current
  pub may : MayLeave p op args marks mark

module _ {p : Rules} {op : OpRules} (c : Course p op) where
  -- the numbers stand for what the reading has read along the way; these marks and rounds are left
  pub record Goes (way : Way) (left : List Mark) (rounds : List (List CellValue)) (f : ℕ → ℤ) : Type 0 where
    pub args : args_at (length op.params) f ≡ c.args
    pub marks : marks_at p.shape way f ++ left ≡ c.marks
    pub tests : TestsGo way f
    pub proper : RoundsGo p way f
    pub own : open_at p.shape way f ≡ first_of rounds c.current

  -- whatever keeps what is settled goes along the way
  pub record Promise (way : Way) (low : ℕ) (left : List Mark) (rounds : List (List CellValue)) (f : ℕ → ℤ) : Type 0 where
    pub goes : (g : ℕ → ℤ) → Keeps low (rounds_of way) f g → Goes way left rounds g

moved-reads : (p : Rules) (op : OpRules) (xs ys : List ℤ) (ms ns : List Mark) → xs ≡ ys → ms ≡ ns → Reads p.shape op.body (number_of_args ys) ns → Reads p.shape op.body (number_of_args xs) ms
moved-reads p op xs ys ms ns e d r = subst (λ zs. Reads p.shape op.body (number_of_args zs) ms) (sym e) (subst (Reads p.shape op.body (number_of_args ys)) (sym d) r)

module _ {p : Rules} {op : OpRules} {c : Course p op} {way : Way} where
  pub goes-itself : {low : ℕ} {left : List Mark} {rounds : List (List CellValue)} {f : ℕ → ℤ} → Promise c way low left rounds f → Goes c way left rounds f
  goes-itself {f = f} promise = promise.goes f (record { each = λ v h. refl })

  -- the body that stands there reads what is left
  pub reads-left : {low : ℕ} {body : Body} {left : List Mark} {rounds : List (List CellValue)} {f : ℕ → ℤ} → Stands p op way low body → Goes c way left rounds f → Reads p.shape body (seen p.shape (length op.params) way f) (left ++ c.mark ∷ [])
  reads-left {left = left} {f = f} s goes = ((s.follows.reads f (left ++ c.mark ∷ []) goes.tests).0
      (moved-reads p op (args_at (length op.params) f) c.args _ (c.marks ++ c.mark ∷ []) goes.args
      (sym (append_assoc (marks_at p.shape way f) left (c.mark ∷ [])) ∙ ap (λ ms. ms ++ c.mark ∷ []) goes.marks) c.may)).1

  -- numbers that go along the whole way are a reading along it
  pub reading-along : {f : ℕ → ℤ} → IsSound p c.current → Goes c way [] [] f → IsReadingAlong p op way f
  reading-along {f = f} sound goes = record {
    reading = record {
      meet = subst (Meet op) (sym goes.args) c.reading.meet;
      reads = moved-reads p op (args_at (length op.params) f) c.args (marks_at p.shape way f) c.marks goes.args (sym (append-nil (marks_at p.shape way f)) ∙ goes.marks) c.reading.reads;
      proper = rounds-back p f (open_at p.shape way f) own way (open_at p.shape way f) (λ _. refl) own goes.proper;
    };
    tests = goes.tests;
  }
    where
      own : IsSound p (open_at p.shape way f)
      own = subst (IsSound p) (sym goes.own) sound

  -- ---- one leg more

  module _ {low : ℕ} {left : List Mark} {rounds : List (List CellValue)} {f : ℕ → ℤ} where
    pub promise-query : (guard slot : ℕ) {n : ℕ} {x : List CellValue} → slot ≡ low → low < 8 → n ≡ guard → length x ≡ length p.shape → GuardsIn (slice_get p.guards n) x (first_of rounds c.current) →
        Promise c way low (Asked n x ∷ left) rounds f → Promise c (Asks guard slot ∷ way) (low + 1) left rounds (placed (query_variable slot 0) x f)
    promise-query guard slot {n = n} {x = x} next room e long guards promise = record { goes = goes }
      where
        same-asked : (store : List CellValue) → store ≡ x → Asked guard store ≡ Asked n x
        same-asked store d = ap (λ (k : ℕ). Asked k store) (sym e) ∙ ap (Asked n) d

        same-guards : (store own : List CellValue) → store ≡ x → own ≡ first_of rounds c.current → GuardsIn (slice_get p.guards guard) store own
        same-guards store own d h = subst (λ k. GuardsIn (slice_get p.guards k) store own) e
            (subst (λ y. GuardsIn (slice_get p.guards n) y own) (sym d) (subst (GuardsIn (slice_get p.guards n) x) (sym h) guards))

        goes : (g : ℕ → ℤ) → Keeps (low + 1) (rounds_of way) (placed (query_variable slot 0) x f) g → Goes c (Asks guard slot ∷ way) left rounds g
        goes g keeps =
            let before = promise.goes g (query-keeps p.shape x f c.rules.few_cells long slot next room keeps) in
            let is = query-placed p.shape x f c.rules.few_cells long slot next room keeps in
            record {
              args = before.args;
              marks = append_assoc (marks_at p.shape way g) (Asked guard (store_at p.shape (query_variable slot 0) g) ∷ []) left
                  ∙ ap (λ m. marks_at p.shape way g ++ (m ∷ left)) (same-asked (store_at p.shape (query_variable slot 0) g) is) ∙ before.marks;
              tests = before.tests;
              proper = (same-guards (store_at p.shape (query_variable slot 0) g) (open_at p.shape way g) is before.own, before.proper);
              own = before.own;
            }

    pub promise-test : {test : Claim} (side : Bool) → AreBelow low (slots_of way) → IsFormulaOver (ranges_of p.shape (length op.params) way) test → truth test f ≡ side → Promise c way low left rounds f → Promise c (Tests test side ∷ way) low left rounds f
    promise-test {test = test} side below fit e promise = record {
      goes = λ g keeps. let before = promise.goes g keeps in record {
        args = before.args;
        marks = before.marks;
        tests = (truth-same (ranges_of p.shape (length op.params) way) g f (kept-agree p.shape (length op.params) way c.rules.few_cells c.over.few_params below keeps) test fit.terms ∙ e, before.tests);
        proper = before.proper;
        own = before.own;
      };
    }

    -- the round ends whose store is y
    module _ {y : List CellValue} (room : low ≤ 8) (sound : IsSound p y) (long : length (first_of rounds c.current) ≡ length p.shape) where
      pub promise-issue : (parts : List Part) {e : List Atom} → ((g : ℕ → ℤ) → Goes c way (Issued e ∷ left) (y ∷ rounds) g → effect_of p.shape parts g ≡ e) → Promise c way low (Issued e ∷ left) (y ∷ rounds) f →
          Promise c (Puts parts ∷ way) low left rounds (placed (round_variable (rounds_of way + 1) 0) (first_of rounds c.current) f)
      promise-issue parts same promise = record {
        goes = λ g keeps. let before = promise.goes g (round-keeps p.shape (first_of rounds c.current) f c.rules.few_cells long (rounds_of way) room keeps) in record {
          args = before.args;
          marks = append_assoc (marks_at p.shape way g) (Issued (effect_of p.shape parts g) ∷ []) left ∙ ap (λ d. marks_at p.shape way g ++ (Issued d ∷ left)) (same g before) ∙ before.marks;
          tests = before.tests;
          proper = (sound-closed p (has_query way) (open_at p.shape way g) (subst (IsSound p) (sym before.own) sound), before.proper);
          own = round-placed p.shape (first_of rounds c.current) f c.rules.few_cells long (rounds_of way) room keeps;
        };
      }

      pub promise-release : Promise c way low (Released ∷ left) (y ∷ rounds) f → Promise c (Frees ∷ way) low left rounds (placed (round_variable (rounds_of way + 1) 0) (first_of rounds c.current) f)
      promise-release promise = record {
        goes = λ g keeps. let before = promise.goes g (round-keeps p.shape (first_of rounds c.current) f c.rules.few_cells long (rounds_of way) room keeps) in record {
          args = before.args;
          marks = append_assoc (marks_at p.shape way g) (Released ∷ []) left ∙ before.marks;
          tests = before.tests;
          proper = (sound-closed p (has_query way) (open_at p.shape way g) (subst (IsSound p) (sym before.own) sound), before.proper);
          own = round-placed p.shape (first_of rounds c.current) f c.rules.few_cells long (rounds_of way) room keeps;
        };
      }

pub first-long : (p : Rules) (left : List Mark) (rounds : List (List CellValue)) (current : List CellValue) → IsProper p left rounds current → length (first_of rounds current) ≡ length p.shape
first-long p left rounds current h = length-IsStore p.shape (first_of rounds current) (first-sound p left rounds current h).shaped

-- ---- no leg yet

abbrev pub started : {p : Rules} {op : OpRules} → Course p op → ℕ → ℤ
started c = placed (round_variable 0 0) (first_of c.ended c.current) (number_of_args c.args)

pub promise-start : {p : Rules} {op : OpRules} (c : Course p op) → Promise c [] 0 c.marks c.ended (started c)
promise-start {p = p} {op = op} c = record {
  goes = λ g keeps. record {
    args = start-args p.shape c.args (first_of c.ended c.current) c.rules.few_cells keeps (length op.params) c.reading.meet.count c.over.few_params;
    marks = refl;
    tests = tt;
    proper = tt;
    own = start-placed p.shape c.args (first_of c.ended c.current) c.rules.few_cells keeps (first-long p c.marks c.ended c.current c.reading.proper);
  };
}
