-- What stands before the bad byte of a line begins the text of an event.
use Rattle.std.proofs.Common.{◌≡◌, ℕ, ◌≤◌, zero, suc, eqb, ◌⊎◌, inl, inr, List, [], ◌∷◌, ◌++◌, length, Ok, Err, ℤ, pos, refl, sym, ◌∙◌, ap, append_assoc, append-nil, arith}
use Rattle.std.specs.Prelude.{codes, decimal, flat_map, slice_index}
use Rattle.std.specs.Fmt.{signed_decimal}
use Rattle.carol_text.specs.Reading.{Reading, ◌>>=◌, word_at}
use Rattle.carol_text.proofs.Laws.{word_takes}
use Rattle.carol_event.specs.declared.event.Cause.{Cause}
use Rattle.carol_event.specs.declared.event.Cause.TheVariants.{Barred, Behind}
use Rattle.carol_event.specs.declared.event.Event.{Event}
use Rattle.carol_event.specs.declared.event.Event.TheVariants.{Grant, Query, Issue, Release, Return, Refuse, Deliver, Cut as CutOff, Join}
use Rattle.carol_event.specs.declared.kind.Kind.{Kind}
use Rattle.carol_event.specs.declared.kind.Kind.TheVariants as kind
use Rattle.carol_event.specs.Kinds.{kind_of, word_of}
use Rattle.carol_event.specs.Faults.{IsFull, IsGood}
use Rattle.carol_event.specs.Lines.{at_end, atom_at, barred_at, behind_at, both_at, cause_at, event_at, fields_at, items_at, number32_at, pair_at, value_at, wide_at}
use Rattle.carol_event.specs.Numbers.{ArePair, Each, HasNumbers, HasNumbersOf, IsAtom, IsNumber, IsValue, IsWide}
use Rattle.carol_event.specs.Texts.{atom_text, cause_text, event_text, pair_text}
use Rattle.carol_event.proofs.Begun.{Begun, BegunWord, Cut, bind_err, cut_here, cut_more, if_err, integer_begun, not_ok, number_begun, same_left, word_begun}
use Rattle.carol_event.proofs.Exact.{IsExact, exact_atom, exact_number, exact_pair, exact_value}
use Rattle.carol_event.proofs.RoundTrip.{exact_deliver, exact_refuse, exact_return, refuse_joined}

-- wherever reading fails, what stands before begins a text
abbrev IsBegun : {X : Type 0} → (X → Type 0) → (X → List ℕ) → (List ℕ → Reading X) → Type 0
IsBegun fits text read = (bytes : List ℕ) (left : ℕ) → read bytes ≡ Err left → Begun fits text bytes left

number32_begun : IsBegun IsNumber decimal number32_at
number32_begun bytes left e =
    let h = number_begun 4_294_967_295 bytes left (omega arith) (omega arith) e
    in record { cut = h.cut; one = h.one; fit = h.fit.1; more = h.more; spelled = h.spelled }

value_begun : IsBegun IsValue signed_decimal value_at
value_begun bytes left e = integer_begun 9_223_372_036_854_775_808 9_223_372_036_854_775_807 bytes left (omega arith) (omega arith) (omega arith) (omega arith) e

wide_begun : IsBegun IsWide signed_decimal wide_at
wide_begun bytes left e =
    integer_begun 170_141_183_460_469_231_731_687_303_715_884_105_728 170_141_183_460_469_231_731_687_303_715_884_105_727 bytes left (omega arith) (omega arith) (omega arith) (omega arith) e

-- behind what was read
abbrev cut_behind : (front bytes rest : List ℕ) (left : ℕ) → bytes ≡ front ++ rest → Cut rest left → Cut bytes left
cut_behind front bytes rest left is h =
    record { front = front ++ h.front; rest = h.rest; are = is ∙ ap (λ (t : List ℕ). front ++ t) h.are ∙ sym (append_assoc front h.front h.rest); long = h.long }

regrouped : (a b c d : List ℕ) → a ++ ((b ++ c) ++ d) ≡ (a ++ b) ++ (c ++ d)
regrouped a b c d = simp append_assoc

regrouped_all : (a b c d : List ℕ) → a ++ (b ++ (c ++ d)) ≡ ((a ++ b) ++ c) ++ d
regrouped_all a b c d = simp append_assoc

module _ {X Y : Type 0} (fits_x : X → Type 0) (text_x : X → List ℕ) (read_x : List ℕ → Reading X) (fits_y : Y → Type 0) (text_y : Y → List ℕ) (read_y : List ℕ → Reading Y) (word : List ℕ) where
  abbrev Fits : X × Y → Type 0
  Fits p = fits_x p.0 × fits_y p.1

  abbrev text : X × Y → List ℕ
  text p = text_x p.0 ++ (word ++ text_y p.1)

  both_begun : IsExact fits_x text_x read_x → IsBegun fits_x text_x read_x → IsBegun fits_y text_y read_y → (y : Y) → fits_y y → IsBegun Fits text (both_at read_x word read_y)
  both_begun exact first second y fit bytes left e = elim (bind_err (read_x bytes) (λ x. word_at word x.1 >>= λ behind. read_y behind >>= λ y. Ok ((x.0, y.0), y.1)) left e) [
    | inl bad ↦ in_first (first bytes left bad)
    | inr (x, read, e2) ↦
        let t = exact.takes bytes x.0 x.1 read
        in elim (bind_err (word_at word x.1) (λ behind. read_y behind >>= λ y. Ok ((x.0, y.0), y.1)) left e2) [
          | inl bad ↦
              let h = word_begun word x.1 left bad
              in in_word x.0 t.0 x.1 t.1 h.cut h.more h.spelled
          | inr (behind, word_read, e3) ↦ elim (bind_err (read_y behind) (λ y. Ok ((x.0, y.0), y.1)) left e3) [
            | inl bad ↦ in_second x.0 t.0 behind (t.1 ∙ ap (λ (r : List ℕ). text_x x.0 ++ r) (word_takes word x.1 behind word_read)) (second behind left bad)
            | inr (z, done, never) ↦ absurd (not_ok ((x.0, z.0), z.1) left never)
          ]
        ]
  ]
    where
      in_first : Begun fits_x text_x bytes left → Begun Fits text bytes left
      in_first h = record {
        cut = h.cut;
        one = (h.one, y);
        fit = (h.fit, fit);
        more = h.more ++ (word ++ text_y y);
        spelled = rw h.spelled (append_assoc h.cut.front h.more (word ++ text_y y));
      }

      in_word : (x : X) → fits_x x → (rest : List ℕ) → bytes ≡ text_x x ++ rest → (cut : Cut rest left) (more : List ℕ) → word ≡ cut.front ++ more → Begun Fits text bytes left
      in_word x fx rest is cut more spelled = record {
        cut = cut_behind (text_x x) bytes rest left is cut;
        one = (x, y);
        fit = (fx, fit);
        more = more ++ text_y y;
        spelled = rw spelled (regrouped (text_x x) cut.front more (text_y y));
      }

      in_second : (x : X) → fits_x x → (rest : List ℕ) → bytes ≡ text_x x ++ (word ++ rest) → Begun fits_y text_y rest left → Begun Fits text bytes left
      in_second x fx rest is h = record {
        cut = cut_behind (text_x x ++ word) bytes rest left (is ∙ sym (append_assoc (text_x x) word rest)) h.cut;
        one = (x, h.one);
        fit = (fx, h.fit);
        more = h.more;
        spelled = rw h.spelled (regrouped_all (text_x x) word h.cut.front h.more);
      }

pair_begun : IsBegun (λ (p : ℕ × ℕ). ArePair p.0 p.1) (λ (p : ℕ × ℕ). pair_text p.0 p.1) pair_at
pair_begun = both_begun IsNumber decimal number32_at IsNumber decimal number32_at (codes " ") exact_number number32_begun number32_begun 0 (omega arith)

cell_begun : IsBegun (λ (p : ℕ × ℤ). IsNumber p.0 × IsValue p.1) (λ (p : ℕ × ℤ). decimal p.0 ++ (codes ":" ++ signed_decimal p.1)) (both_at number32_at (codes ":") value_at)
cell_begun = both_begun IsNumber decimal number32_at IsValue signed_decimal value_at (codes ":") exact_number number32_begun value_begun (pos 0) (omega arith)

atom_begun : IsBegun IsAtom atom_text atom_at
atom_begun bytes left e = elim (bind_err (both_at number32_at (codes ":") value_at bytes) (λ p. Ok (record { cell = p.0.0; value = p.0.1 }, p.1)) left e) [
  | inl bad ↦
      let h = cell_begun bytes left bad
      in record { cut = h.cut; one = record { cell = h.one.0; value = h.one.1 }; fit = h.fit; more = h.more; spelled = h.spelled }
  | inr (p, done, never) ↦ absurd (not_ok (record { cell = p.0.0; value = p.0.1 }, p.1) left never)
]

-- ---- causes

behind_begun : IsBegun HasNumbersOf cause_text behind_at
unfolding cause_text
behind_begun bytes left e = elim (bind_err (word_at (codes "behind ") bytes) (λ rest. number32_at rest >>= λ x. Ok (Behind x.0, x.1)) left e) [
  | inl bad ↦
      let h = word_begun (codes "behind ") bytes left bad
      in record { cut = h.cut; one = Behind 0; fit = omega arith; more = h.more ++ decimal 0; spelled = ap (λ (t : List ℕ). t ++ decimal 0) h.spelled ∙ append_assoc h.cut.front h.more (decimal 0) }
  | inr (rest, read, e2) ↦ elim (bind_err (number32_at rest) (λ x. Ok (Behind x.0, x.1)) left e2) [
    | inl bad ↦ further rest (word_takes (codes "behind ") bytes rest read) (number32_begun rest left bad)
    | inr (x, done, never) ↦ absurd (not_ok (Behind x.0, x.1) left never)
  ]
]
  where
    further : (rest : List ℕ) → bytes ≡ codes "behind " ++ rest → Begun IsNumber decimal rest left → Begun HasNumbersOf cause_text bytes left
    further rest is h = record {
      cut = cut_behind (codes "behind ") bytes rest left is h.cut;
      one = Behind h.one;
      fit = h.fit;
      more = h.more;
      spelled = ap (λ (t : List ℕ). codes "behind " ++ t) h.spelled ∙ sym (append_assoc (codes "behind ") h.cut.front h.more);
    }

barred_begun : IsBegun HasNumbersOf cause_text barred_at
unfolding cause_text
barred_begun bytes left e = elim (bind_err (word_at (codes "barred ") bytes) (λ rest. pair_at rest >>= λ x. Ok (Barred x.0.0 x.0.1, x.1)) left e) [
  | inl bad ↦
      let h = word_begun (codes "barred ") bytes left bad
      in record { cut = h.cut; one = Barred 0 0; fit = (omega arith, omega arith); more = h.more ++ pair_text 0 0; spelled = ap (λ (t : List ℕ). t ++ pair_text 0 0) h.spelled ∙ append_assoc h.cut.front h.more (pair_text 0 0) }
  | inr (rest, read, e2) ↦ elim (bind_err (pair_at rest) (λ x. Ok (Barred x.0.0 x.0.1, x.1)) left e2) [
    | inl bad ↦ further rest (word_takes (codes "barred ") bytes rest read) (pair_begun rest left bad)
    | inr (x, done, never) ↦ absurd (not_ok (Barred x.0.0 x.0.1, x.1) left never)
  ]
]
  where
    further : (rest : List ℕ) → bytes ≡ codes "barred " ++ rest → Begun (λ (p : ℕ × ℕ). ArePair p.0 p.1) (λ (p : ℕ × ℕ). pair_text p.0 p.1) rest left → Begun HasNumbersOf cause_text bytes left
    further rest is h = record {
      cut = cut_behind (codes "barred ") bytes rest left is h.cut;
      one = Barred h.one.0 h.one.1;
      fit = h.fit;
      more = h.more;
      spelled = ap (λ (t : List ℕ). codes "barred " ++ t) h.spelled ∙ sym (append_assoc (codes "barred ") h.cut.front h.more);
    }

cause_begun : IsBegun HasNumbersOf cause_text cause_at
cause_begun bytes left e = elim (if_err (eqb (slice_index bytes 1) 101) (behind_at bytes) (barred_at bytes) left e) [
  | inl (yes_e, bad) ↦ behind_begun bytes left bad
  | inr (other, bad) ↦ barred_begun bytes left bad
]

-- ---- items up to the end of the line

space_left : (c : ℕ) (cs : List ℕ) (left : ℕ) → word_at (codes " ") (c ∷ cs) ≡ Err left → suc (length cs) ≡ left
unfolding word_at
space_left c cs left e = elim (if_err (eqb c 32) (Ok cs) (Err (suc (length cs))) left e) [
  | inl (space, never) ↦ absurd (not_ok cs left never)
  | inr (other, bad) ↦ same_left {X = List ℕ} (suc (length cs)) left bad
]

-- a list of as many items as there may be, and a space behind it
record Overfull {X : Type 0} (fits : X → Type 0) (text : X → List ℕ) (n : ℕ) (bytes : List ℕ) (left : ℕ) : Type 0 where
  all : List X
  fit : Each fits all
  full : length all ≡ n
  rest : List ℕ
  are : bytes ≡ flat_map (λ x. codes " " ++ text x) all ++ (codes " " ++ rest)
  long : length rest ≡ left

module _ {X : Type 0} (fits : X → Type 0) (text : X → List ℕ) (read : List ℕ → Reading X) where
  abbrev items_text : List X → List ℕ
  items_text xs = flat_map (λ x. codes " " ++ text x) xs

  abbrev Fitting : ℕ → List X → Type 0
  Fitting n xs = Each fits xs × (length xs ≤ n)

  abbrev IsBadItems : ℕ → List ℕ → ℕ → Type 0
  IsBadItems n bytes left = Begun (Fitting n) items_text bytes left ⊎ Overfull fits text n bytes left

  no_space : (n c : ℕ) (cs : List ℕ) (left : ℕ) → suc (length cs) ≡ left → IsBadItems n (c ∷ cs) left
  no_space n c cs left long = inl (record { cut = cut_here (c ∷ cs) left long; one = []; fit = (tt, omega arith); more = []; spelled = refl })

  bad_item : (n : ℕ) (bytes rest : List ℕ) (left : ℕ) → bytes ≡ codes " " ++ rest → Begun fits text rest left → IsBadItems (suc n) bytes left
  bad_item n bytes rest left is h = inl (record {
    cut = cut_behind (codes " ") bytes rest left is h.cut;
    one = h.one ∷ [];
    fit = ((h.fit, tt), omega arith);
    more = h.more;
    spelled = append-nil (codes " " ++ text h.one) ∙ ap (λ (t : List ℕ). codes " " ++ t) h.spelled ∙ sym (append_assoc (codes " ") h.cut.front h.more);
  })

  after_item : (n : ℕ) (bytes rest : List ℕ) (left : ℕ) (x : X) → fits x → bytes ≡ (codes " " ++ text x) ++ rest → IsBadItems n rest left → IsBadItems (suc n) bytes left
  after_item n bytes rest left x fit is (inl h) = inl (record {
    cut = cut_behind (codes " " ++ text x) bytes rest left is h.cut;
    one = x ∷ h.one;
    fit = ((fit, h.fit.0), omega (arith, h.fit.1));
    more = h.more;
    spelled = ap (λ (t : List ℕ). (codes " " ++ text x) ++ t) h.spelled ∙ sym (append_assoc (codes " " ++ text x) h.cut.front h.more);
  })
  after_item n bytes rest left x fit is (inr h) = inr (record {
    all = x ∷ h.all;
    fit = (fit, h.fit);
    full = omega (arith, h.full);
    rest = h.rest;
    are = is ∙ ap (λ (t : List ℕ). (codes " " ++ text x) ++ t) h.are ∙ sym (append_assoc (codes " " ++ text x) (items_text h.all) (codes " " ++ h.rest));
    long = h.long;
  })

  items_begun : IsExact fits text read → IsBegun fits text read → (n : ℕ) (bytes : List ℕ) (left : ℕ) → items_at read n bytes ≡ Err left → IsBadItems n bytes left
  unfolding items_at
  items_begun exact begun n [] left e = absurd (not_ok [] left e)
  items_begun exact begun zero (c ∷ cs) left e = elim (bind_err (word_at (codes " ") (c ∷ cs)) (λ rest. Err (length rest)) left e) [
    | inl bad ↦ no_space zero c cs left (space_left c cs left bad)
    | inr (rest, space, many) ↦ inr (record { all = []; fit = tt; full = refl; rest = rest; are = word_takes (codes " ") (c ∷ cs) rest space; long = same_left {X = List X} (length rest) left many })
  ]
  items_begun exact begun (suc n) (c ∷ cs) left e =
      elim (bind_err (word_at (codes " ") (c ∷ cs)) (λ rest. read rest >>= λ x. items_at read n x.1 >>= λ more. Ok (x.0 ∷ more)) left e) [
        | inl bad ↦ no_space (suc n) c cs left (space_left c cs left bad)
        | inr (rest, space, e2) ↦ elim (bind_err (read rest) (λ x. items_at read n x.1 >>= λ more. Ok (x.0 ∷ more)) left e2) [
          | inl bad ↦ bad_item n (c ∷ cs) rest left (word_takes (codes " ") (c ∷ cs) rest space) (begun rest left bad)
          | inr (x, found, e3) ↦
              let t = exact.takes rest x.0 x.1 found
              in elim (bind_err (items_at read n x.1) (λ more. Ok (x.0 ∷ more)) left e3) [
                | inl bad ↦ after_item n (c ∷ cs) x.1 left x.0 t.0 (word_takes (codes " ") (c ∷ cs) rest space ∙ ap (λ (r : List ℕ). codes " " ++ r) t.1) (items_begun exact begun n x.1 left bad)
                | inr (more, all, never) ↦ absurd (not_ok (x.0 ∷ more) left never)
              ]
        ]
      ]

-- ---- the whole line

-- the line is bad, and what stands before the bad byte is good
pub record Failed (line : List ℕ) (left : ℕ) : Type 0 where
  pub cut : Cut line left
  pub good : IsGood cut.front

-- one part, and the end of the line
module _ {X : Type 0} (fits : X → Type 0) (text : X → List ℕ) (read : List ℕ → Reading X) (make : X → Event) where
  past_end : (bytes : List ℕ) (x : X) (rest : List ℕ) (left : ℕ) → fits x → bytes ≡ text x ++ rest → at_end (make x) rest ≡ Err left → Begun fits text bytes left
  past_end bytes x [] left fit is e = absurd (not_ok (make x) left e)
  past_end bytes x (c ∷ cs) left fit is e = record {
    cut = record { front = text x; rest = c ∷ cs; are = is; long = same_left {X = Event} (suc (length cs)) left e };
    one = x;
    fit = fit;
    more = [];
    spelled = sym (append-nil (text x));
  }

  ended_begun : IsExact fits text read → IsBegun fits text read → (bytes : List ℕ) (left : ℕ) → (read bytes >>= λ x. at_end (make x.0) x.1) ≡ Err left → Begun fits text bytes left
  ended_begun exact begun bytes left e = elim (bind_err (read bytes) (λ x. at_end (make x.0) x.1) left e) [
    | inl bad ↦ begun bytes left bad
    | inr (x, found, e2) ↦
        let t = exact.takes bytes x.0 x.1 found
        in past_end bytes x.0 x.1 left t.0 t.1 e2
  ]

  -- behind the word of the kind
  worded : (word : List ℕ) → ((x : X) → fits x → HasNumbers (make x)) → ((x : X) → word ++ text x ≡ event_text (make x)) → (bytes : List ℕ) (left : ℕ) → Begun fits text bytes left → Failed (word ++ bytes) left
  worded word numbers spells bytes left h = record {
    cut = cut_more word bytes left h.cut;
    good = inl (make h.one, numbers h.one h.fit, h.more, sym (spells h.one) ∙ ap (λ (t : List ℕ). word ++ t) h.spelled ∙ sym (append_assoc word h.cut.front h.more));
  }

  one_begun : (word : List ℕ) → IsExact fits text read → IsBegun fits text read → ((x : X) → fits x → HasNumbers (make x)) → ((x : X) → word ++ text x ≡ event_text (make x)) → (bytes : List ℕ) (left : ℕ) → (read bytes >>= λ x. at_end (make x.0) x.1) ≡ Err left → Failed (word ++ bytes) left
  one_begun word exact begun numbers spells bytes left e = worded word numbers spells bytes left (ended_begun exact begun bytes left e)

-- a pair, and items up to the end of the line
module _ {X : Type 0} (fits : X → Type 0) (text : X → List ℕ) (read : List ℕ → Reading X) (make : ℕ → ℕ → List X → Event) (word : List ℕ) where
  abbrev all_text : ℕ → ℕ → List X → List ℕ
  all_text m n xs = (word ++ pair_text m n) ++ flat_map (λ x. codes " " ++ text x) xs

  module _ (numbers : (m n : ℕ) (xs : List X) → ArePair m n → Each fits xs → length xs ≤ 16 → HasNumbers (make m n xs)) (spells : (m n : ℕ) (xs : List X) → all_text m n xs ≡ event_text (make m n xs)) (full : (m n : ℕ) (xs : List X) → length xs ≡ 16 → IsFull (make m n xs)) where
    in_pair : (bytes : List ℕ) (left : ℕ) → Begun (λ (p : ℕ × ℕ). ArePair p.0 p.1) (λ (p : ℕ × ℕ). pair_text p.0 p.1) bytes left → Failed (word ++ bytes) left
    in_pair bytes left h = record {
      cut = cut_more word bytes left h.cut;
      good = inl (
        make h.one.0 h.one.1 [],
        numbers h.one.0 h.one.1 [] h.fit tt (omega arith),
        h.more,
        sym (spells h.one.0 h.one.1 []) ∙ append-nil (word ++ pair_text h.one.0 h.one.1) ∙ ap (λ (t : List ℕ). word ++ t) h.spelled ∙ sym (append_assoc word h.cut.front h.more),
      );
    }

    in_items : (bytes rest : List ℕ) (left m n : ℕ) → ArePair m n → bytes ≡ pair_text m n ++ rest → IsBadItems fits text read 16 rest left → Failed (word ++ bytes) left
    in_items bytes rest left m n pair is (inl h) = record {
      cut = cut_behind (word ++ pair_text m n) (word ++ bytes) rest left (rw is (sym (append_assoc word (pair_text m n) rest))) h.cut;
      good = inl (
        make m n h.one,
        numbers m n h.one pair h.fit.0 h.fit.1,
        h.more,
        sym (spells m n h.one) ∙ ap (λ (t : List ℕ). (word ++ pair_text m n) ++ t) h.spelled ∙ sym (append_assoc (word ++ pair_text m n) h.cut.front h.more),
      );
    }
    in_items bytes rest left m n pair is (inr h) = record {
      cut = record {
        front = all_text m n h.all ++ codes " ";
        rest = h.rest;
        are = rw (is, h.are) (regrouped_more word (pair_text m n) (flat_map (λ x. codes " " ++ text x) h.all) (codes " ") h.rest);
        long = h.long;
      };
      good = inr (make m n h.all, numbers m n h.all pair h.fit (omega (arith, h.full)), full m n h.all h.full, ap (λ (t : List ℕ). t ++ codes " ") (spells m n h.all));
    }
      where
        regrouped_more : (a b c d e : List ℕ) → a ++ (b ++ (c ++ (d ++ e))) ≡ (((a ++ b) ++ c) ++ d) ++ e
        regrouped_more a b c d e = simp append_assoc

    listed_begun : IsExact fits text read → IsBegun fits text read → (bytes : List ℕ) (left : ℕ) → (pair_at bytes >>= λ x. items_at read 16 x.1 >>= λ xs. Ok (make x.0.0 x.0.1 xs)) ≡ Err left → Failed (word ++ bytes) left
    listed_begun exact begun bytes left e = elim (bind_err (pair_at bytes) (λ x. items_at read 16 x.1 >>= λ xs. Ok (make x.0.0 x.0.1 xs)) left e) [
      | inl bad ↦ in_pair bytes left (pair_begun bytes left bad)
      | inr (x, found, e2) ↦
          let t = exact_pair.takes bytes x.0 x.1 found
          in elim (bind_err (items_at read 16 x.1) (λ xs. Ok (make x.0.0 x.0.1 xs)) left e2) [
            | inl bad ↦ in_items bytes x.1 left x.0.0 x.0.1 t.0 t.1 (items_begun fits text read exact begun 16 x.1 left bad)
            | inr (xs, all, never) ↦ absurd (not_ok (make x.0.0 x.0.1 xs) left never)
          ]
    ]

return_begun : IsBegun (λ (p : ℕ × ℤ). IsNumber p.0 × IsWide p.1) (λ (p : ℕ × ℤ). decimal p.0 ++ (codes " " ++ signed_decimal p.1)) (both_at number32_at (codes " ") wide_at)
return_begun = both_begun IsNumber decimal number32_at IsWide signed_decimal wide_at (codes " ") exact_number number32_begun wide_begun (pos 0) (omega arith)

refuse_begun : IsBegun (λ (p : ℕ × Cause). IsNumber p.0 × HasNumbersOf p.1) (λ (p : ℕ × Cause). decimal p.0 ++ (codes " " ++ cause_text p.1)) (both_at number32_at (codes " ") cause_at)
refuse_begun = both_begun IsNumber decimal number32_at HasNumbersOf cause_text cause_at (codes " ") exact_number number32_begun cause_begun (Behind 0) (omega arith)

deliver_begun : IsBegun (λ (p : ℕ × (ℕ × ℕ)). IsNumber p.0 × ArePair p.1.0 p.1.1) (λ (p : ℕ × (ℕ × ℕ)). decimal p.0 ++ (codes " " ++ pair_text p.1.0 p.1.1)) (both_at number32_at (codes " ") pair_at)
deliver_begun =
    both_begun IsNumber decimal number32_at (λ (p : ℕ × ℕ). ArePair p.0 p.1) (λ (p : ℕ × ℕ). pair_text p.0 p.1) pair_at (codes " ") exact_number number32_begun pair_begun (0, 0) (omega arith, omega arith)

fields_begun : (k : Kind) (bytes : List ℕ) (left : ℕ) → fields_at k bytes ≡ Err left → Failed (word_of k ++ bytes) left
unfolding fields_at word_of event_text
fields_begun kind.Grant bytes left e =
    one_begun (λ (p : ℕ × ℕ). ArePair p.0 p.1) (λ (p : ℕ × ℕ). pair_text p.0 p.1) pair_at (λ (p : ℕ × ℕ). Grant p.0 p.1) (word_of kind.Grant) exact_pair pair_begun (λ p fit. fit) (λ p. refl) bytes left e
fields_begun kind.Query bytes left e =
    listed_begun IsValue signed_decimal value_at Query (word_of kind.Query) (λ m n xs pair each few. (pair, each, few)) (λ m n xs. refl) (λ m n xs full. full) exact_value value_begun bytes left e
fields_begun kind.Issue bytes left e =
    listed_begun IsAtom atom_text atom_at Issue (word_of kind.Issue) (λ m n xs pair each few. (pair, each, few)) (λ m n xs. refl) (λ m n xs full. full) exact_atom atom_begun bytes left e
fields_begun kind.Release bytes left e = one_begun IsNumber decimal number32_at Release (word_of kind.Release) exact_number number32_begun (λ n fit. fit) (λ n. refl) bytes left e
fields_begun kind.Return bytes left e =
    one_begun (λ (p : ℕ × ℤ). IsNumber p.0 × IsWide p.1) (λ (p : ℕ × ℤ). decimal p.0 ++ (codes " " ++ signed_decimal p.1)) (both_at number32_at (codes " ") wide_at) (λ (p : ℕ × ℤ). Return p.0 p.1)
    (word_of kind.Return) exact_return return_begun (λ p fit. fit) (λ p. refl) bytes left e
fields_begun kind.Refuse bytes left e =
    one_begun (λ (p : ℕ × Cause). IsNumber p.0 × HasNumbersOf p.1) (λ (p : ℕ × Cause). decimal p.0 ++ (codes " " ++ cause_text p.1)) (both_at number32_at (codes " ") cause_at) (λ (p : ℕ × Cause). Refuse p.0 p.1)
    (word_of kind.Refuse) exact_refuse refuse_begun (λ p fit. fit) (λ p. refuse_joined (decimal p.0) (cause_text p.1)) bytes left e
fields_begun kind.Deliver bytes left e =
    one_begun (λ (p : ℕ × (ℕ × ℕ)). IsNumber p.0 × ArePair p.1.0 p.1.1) (λ (p : ℕ × (ℕ × ℕ)). decimal p.0 ++ (codes " " ++ pair_text p.1.0 p.1.1)) (both_at number32_at (codes " ") pair_at) (λ (p : ℕ × (ℕ × ℕ)). Deliver p.0 p.1.0 p.1.1)
    (word_of kind.Deliver) exact_deliver deliver_begun (λ p fit. fit) (λ p. refl) bytes left e
fields_begun kind.Cut bytes left e =
    one_begun (λ (p : ℕ × ℕ). ArePair p.0 p.1) (λ (p : ℕ × ℕ). pair_text p.0 p.1) pair_at (λ (p : ℕ × ℕ). CutOff p.0 p.1) (word_of kind.Cut) exact_pair pair_begun (λ p fit. fit) (λ p. refl) bytes left e
fields_begun kind.Join bytes left e =
    one_begun (λ (p : ℕ × ℕ). ArePair p.0 p.1) (λ (p : ℕ × ℕ). pair_text p.0 p.1) pair_at (λ (p : ℕ × ℕ). Join p.0 p.1) (word_of kind.Join) exact_pair pair_begun (λ p fit. fit) (λ p. refl) bytes left e

-- there is an event of each kind
Sample : List ℕ → Type 0
Sample word = (event : Event) × HasNumbers event × (rest : List ℕ) × (event_text event ≡ word ++ rest)

sample : (k : Kind) → Sample (word_of k)
unfolding Sample event_text word_of
sample kind.Grant = (Grant 0 0, (omega arith, omega arith), pair_text 0 0, refl)
sample kind.Query = (Query 0 0 [], ((omega arith, omega arith), tt, omega arith), pair_text 0 0, append-nil (codes "query " ++ pair_text 0 0))
sample kind.Issue = (Issue 0 0 [], ((omega arith, omega arith), tt, omega arith), pair_text 0 0, append-nil (codes "issue " ++ pair_text 0 0))
sample kind.Release = (Release 0, omega arith, decimal 0, refl)
sample kind.Return = (Return 0 (pos 0), (omega arith, omega arith), decimal 0 ++ (codes " " ++ signed_decimal (pos 0)), refl)
sample kind.Refuse = (Refuse 0 (Behind 0), (omega arith, omega arith), decimal 0 ++ (codes " " ++ cause_text (Behind 0)), sym (refuse_joined (decimal 0) (cause_text (Behind 0))))
sample kind.Deliver = (Deliver 0 0 0, (omega arith, (omega arith, omega arith)), decimal 0 ++ (codes " " ++ pair_text 0 0), refl)
sample kind.Cut = (CutOff 0 0, (omega arith, omega arith), pair_text 0 0, refl)
sample kind.Join = (Join 0 0, (omega arith, omega arith), pair_text 0 0, refl)

pub event_begun : (line : List ℕ) (left : ℕ) → event_at line ≡ Err left → Failed line left
unfolding event_at Sample
event_begun line left e = elim (bind_err (word_at (word_of (kind_of line)) line) (λ rest. fields_at (kind_of line) rest) left e) [
  | inl bad ↦ in_word (word_of (kind_of line)) (sample (kind_of line)) (word_begun (word_of (kind_of line)) line left bad)
  | inr (rest, read, bad) ↦ rw (word_takes (word_of (kind_of line)) line rest read) (fields_begun (kind_of line) rest left bad)
]
  where
    in_word : (word : List ℕ) → Sample word → BegunWord word line left → Failed line left
    in_word word s h = record {
      cut = h.cut;
      good = inl (s.0, s.1, h.more ++ s.2, s.3 ∙ ap (λ (t : List ℕ). t ++ s.2) h.spelled ∙ append_assoc h.cut.front h.more s.2);
    }
