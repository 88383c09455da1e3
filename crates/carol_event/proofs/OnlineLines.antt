-- The line of an event is read byte by byte.
use Rattle.std.proofs.Common.{◌≡◌, ℕ, ◌+◌, zero, suc, Bool, true, false, cond, eqb, inl, inr, List, [], ◌∷◌, ◌++◌, length, Result, Ok, Err, refl, ◌∙◌, subst, arith}
use Rattle.std.specs.Prelude.{codes, slice_index}
use Rattle.carol_text.specs.Reading.{Reading, ◌>>=◌, word_at}
use Rattle.carol_store.specs.declared.effect.Atom.{Atom}
use Rattle.carol_event.specs.declared.event.Cause.{Cause}
use Rattle.carol_event.specs.declared.event.Cause.TheVariants.{Barred, Behind}
use Rattle.carol_event.specs.declared.event.Event.{Event}
use Rattle.carol_event.specs.declared.event.Event.TheVariants.{Grant, Query, Issue, Release, Return, Refuse, Deliver, Cut, Join}
use Rattle.carol_event.specs.declared.kind.Kind.{Kind}
use Rattle.carol_event.specs.declared.kind.Kind.TheVariants as kind
use Rattle.carol_event.specs.Kinds.{kind_from, kind_from_third, kind_of, word_of}
use Rattle.carol_event.specs.Lines.{at_end, atom_at, barred_at, behind_at, both_at, cause_at, event_at, fields_at, items_at, number32_at, pair_at, value_at, wide_at}
use Rattle.carol_event.proofs.Online.{Alike, IsOnline, Shrinks, bad_alike, beyond, if_shrinks, integer_online, map_online, nothing, number_online, online_done, online_then, online_word, rest_of, same_err, unchanged, with_rest}

number32_online : IsOnline rest_of with_rest number32_at
number32_online = number_online 4_294_967_295

value_online : IsOnline rest_of with_rest value_at
value_online = integer_online 9_223_372_036_854_775_808 9_223_372_036_854_775_807 (omega arith)

wide_online : IsOnline rest_of with_rest wide_at
wide_online = integer_online 170_141_183_460_469_231_731_687_303_715_884_105_728 170_141_183_460_469_231_731_687_303_715_884_105_727 (omega arith)

both_online : {X Y : Type 0} (one : List ℕ → Reading X) (word : List ℕ) (two : List ℕ → Reading Y) → IsOnline rest_of with_rest one → IsOnline rest_of with_rest two → IsOnline rest_of with_rest (both_at one word two)
both_online {X} {Y} one word two first second =
    online_then {Y = (X × Y) × List ℕ} rest_of with_rest one (λ x bytes. word_at word bytes >>= λ rest. two rest >>= λ y. Ok ((x, y.0), y.1)) first
    (λ x. online_word {Y = (X × Y) × List ℕ} rest_of with_rest word (λ rest. two rest >>= λ y. Ok ((x, y.0), y.1))
    (online_then rest_of with_rest two (λ y rest. Ok ((x, y), rest)) second (λ y. online_done (x, y))))

pair_online : IsOnline rest_of with_rest pair_at
pair_online = both_online number32_at (codes " ") number32_at number32_online number32_online

atom_online : IsOnline rest_of with_rest atom_at
atom_online =
    online_then {Y = Atom × List ℕ} rest_of with_rest (both_at number32_at (codes ":") value_at) (λ p rest. Ok (record { cell = p.0; value = p.1 }, rest)) (both_online number32_at (codes ":") value_at number32_online value_online)
    (λ p. online_done (record { cell = p.0; value = p.1 }))

-- ---- causes

behind_left : List ℕ → Reading Cause
behind_left rest = number32_at rest >>= λ x. Ok (Behind x.0, x.1)

barred_left : List ℕ → Reading Cause
barred_left rest = pair_at rest >>= λ x. Ok (Barred x.0.0 x.0.1, x.1)

behind_online : (word : List ℕ) → IsOnline rest_of with_rest (λ bytes. word_at word bytes >>= behind_left)
unfolding behind_left
behind_online word = online_word {Y = Cause × List ℕ} rest_of with_rest word behind_left (online_then {Y = Cause × List ℕ} rest_of with_rest number32_at (λ n rest. Ok (Behind n, rest)) number32_online (λ n. online_done (Behind n)))

barred_online : (word : List ℕ) → IsOnline rest_of with_rest (λ bytes. word_at word bytes >>= barred_left)
unfolding barred_left
barred_online word = online_word {Y = Cause × List ℕ} rest_of with_rest word barred_left (online_then {Y = Cause × List ℕ} rest_of with_rest pair_at (λ p rest. Ok (Barred p.0 p.1, rest)) pair_online (λ p. online_done (Barred p.0 p.1)))

-- the first byte of both words is the same
first_byte : (t u : Bool) (c : ℕ) (cs ds : List ℕ) → Alike rest_of with_rest c cs ds (cond t (behind_at (c ∷ cs)) (barred_at (c ∷ cs))) (cond u (behind_at (c ∷ ds)) (barred_at (c ∷ ds)))
unfolding behind_left barred_left word_at
first_byte true true c cs ds = (behind_online (codes "behind ")).alike [] c cs ds
first_byte false false c cs ds = (barred_online (codes "barred ")).alike [] c cs ds
first_byte true false c cs ds = is_b (eqb c 98)
  where
    is_b : (b : Bool) → Alike {X = Cause × List ℕ} rest_of with_rest c cs ds (cond b (word_at (codes "ehind ") cs) (Err (suc (length cs))) >>= behind_left) (cond b (word_at (codes "arred ") ds) (Err (suc (length ds))) >>= barred_left)
    is_b true = beyond rest_of with_rest c cs ds (word_at (codes "ehind ") cs >>= behind_left) (word_at (codes "arred ") ds >>= barred_left) ((behind_online (codes "ehind ")).shrinks cs)
    is_b false = bad_alike rest_of with_rest [] c cs ds
first_byte false true c cs ds = is_b (eqb c 98)
  where
    is_b : (b : Bool) → Alike {X = Cause × List ℕ} rest_of with_rest c cs ds (cond b (word_at (codes "arred ") cs) (Err (suc (length cs))) >>= barred_left) (cond b (word_at (codes "ehind ") ds) (Err (suc (length ds))) >>= behind_left)
    is_b true = beyond rest_of with_rest c cs ds (word_at (codes "arred ") cs >>= barred_left) (word_at (codes "ehind ") ds >>= behind_left) ((barred_online (codes "arred ")).shrinks cs)
    is_b false = bad_alike rest_of with_rest [] c cs ds

either_alike : (t : Bool) (b : List ℕ) (c : ℕ) (cs ds : List ℕ) → Alike rest_of with_rest c cs ds (cond t (behind_at (b ++ c ∷ cs)) (barred_at (b ++ c ∷ cs))) (cond t (behind_at (b ++ c ∷ ds)) (barred_at (b ++ c ∷ ds)))
unfolding behind_left barred_left
either_alike true b c cs ds = (behind_online (codes "behind ")).alike b c cs ds
either_alike false b c cs ds = (barred_online (codes "barred ")).alike b c cs ds

cause_alike : (b : List ℕ) (c : ℕ) (cs ds : List ℕ) → Alike rest_of with_rest c cs ds (cause_at (b ++ c ∷ cs)) (cause_at (b ++ c ∷ ds))
cause_alike [] c cs ds = first_byte (eqb (slice_index (c ∷ cs) 1) 101) (eqb (slice_index (c ∷ ds) 1) 101) c cs ds
cause_alike (x ∷ []) c cs ds = either_alike (eqb c 101) (x ∷ []) c cs ds
cause_alike (x ∷ (y ∷ b)) c cs ds = either_alike (eqb y 101) (x ∷ (y ∷ b)) c cs ds

cause_shrinks : (bytes : List ℕ) → Shrinks rest_of (length bytes) (cause_at bytes)
unfolding behind_left barred_left
cause_shrinks bytes =
    if_shrinks rest_of (eqb (slice_index bytes 1) 101) (length bytes) (behind_at bytes) (barred_at bytes) ((behind_online (codes "behind ")).shrinks bytes) ((barred_online (codes "barred ")).shrinks bytes)

cause_online : IsOnline rest_of with_rest cause_at
cause_online = record { shrinks = cause_shrinks; alike = cause_alike }

-- ---- items, and the end of the line

end_online : {X : Type 0} (x : X) → IsOnline nothing unchanged (at_end x)
end_online {X} x = record { shrinks = shrinks; alike = alike }
  where
    shrinks : (bytes : List ℕ) → Shrinks {X = X} nothing (length bytes) (at_end x bytes)
    shrinks [] = omega arith
    shrinks (c ∷ cs) = omega arith

    alike : (b : List ℕ) (c : ℕ) (cs ds : List ℕ) → Alike {X = X} nothing unchanged c cs ds (at_end x (b ++ c ∷ cs)) (at_end x (b ++ c ∷ ds))
    alike [] c cs ds = bad_alike nothing unchanged [] c cs ds
    alike (y ∷ ys) c cs ds = bad_alike nothing unchanged (y ∷ ys) c cs ds

full_online : {X : Type 0} → IsOnline {X = X} nothing unchanged (λ rest. Err (length rest))
full_online = record { shrinks = λ bytes. omega arith; alike = λ b c cs ds. bad_alike nothing unchanged b c cs ds }

module _ {X : Type 0} (item : List ℕ → Reading X) (each : IsOnline rest_of with_rest item) where
  -- what a space and one item go on with
  more_online : (n : ℕ) → IsOnline nothing unchanged (items_at item n) → IsOnline {X = List X} nothing unchanged (λ bytes. word_at (codes " ") bytes >>= λ rest. item rest >>= λ x. items_at item n x.1 >>= λ more. Ok (x.0 ∷ more))
  more_online n all = online_word {Y = List X} nothing unchanged (codes " ") (λ rest. item rest >>= λ x. items_at item n x.1 >>= λ more. Ok (x.0 ∷ more))
      (online_then {Y = List X} nothing unchanged item (λ x rest. items_at item n rest >>= λ more. Ok (x ∷ more)) each (λ x. map_online (λ more. x ∷ more) (items_at item n) all))

  none_online : IsOnline {X = List X} nothing unchanged (λ bytes. word_at (codes " ") bytes >>= λ rest. Err (length rest))
  none_online = online_word {Y = List X} nothing unchanged (codes " ") (λ rest. Err (length rest)) full_online

  items_shrinks : (n : ℕ) → ((m : ℕ) → n ≡ suc m → IsOnline nothing unchanged (items_at item m)) → (bytes : List ℕ) → Shrinks {X = List X} nothing (length bytes) (items_at item n bytes)
  unfolding items_at
  items_shrinks n before [] = omega arith
  items_shrinks zero before (c ∷ cs) = none_online.shrinks (c ∷ cs)
  items_shrinks (suc n) before (c ∷ cs) = (more_online n (before n refl)).shrinks (c ∷ cs)

  items_alike : (n : ℕ) → ((m : ℕ) → n ≡ suc m → IsOnline nothing unchanged (items_at item m)) → (b : List ℕ) (c : ℕ) (cs ds : List ℕ) → Alike {X = List X} nothing unchanged c cs ds (items_at item n (b ++ c ∷ cs)) (items_at item n (b ++ c ∷ ds))
  unfolding items_at
  items_alike zero before [] c cs ds = none_online.alike [] c cs ds
  items_alike zero before (x ∷ xs) c cs ds = none_online.alike (x ∷ xs) c cs ds
  items_alike (suc n) before [] c cs ds = (more_online n (before n refl)).alike [] c cs ds
  items_alike (suc n) before (x ∷ xs) c cs ds = (more_online n (before n refl)).alike (x ∷ xs) c cs ds

  pub items_online : (n : ℕ) → IsOnline nothing unchanged (items_at item n)
  items_online zero = record { shrinks = items_shrinks zero (λ m e. absurd (omega arith)); alike = items_alike zero (λ m e. absurd (omega arith)) }
  items_online (suc n) =
      let before : (m : ℕ) → suc n ≡ suc m → IsOnline nothing unchanged (items_at item m) = λ m e. subst (λ (k : ℕ). IsOnline nothing unchanged (items_at item k)) (omega arith) (items_online n)
      in record { shrinks = items_shrinks (suc n) before; alike = items_alike (suc n) before }

-- ---- what stands behind the word of a kind

ended_online : {X : Type 0} (read : List ℕ → Reading X) (make : X → Event) → IsOnline rest_of with_rest read → IsOnline nothing unchanged (λ bytes. read bytes >>= λ x. at_end (make x.0) x.1)
ended_online read make online = online_then {Y = Event} nothing unchanged read (λ x rest. at_end (make x) rest) online (λ x. end_online (make x))

listed_online : {X : Type 0} (read : List ℕ → Reading X) (make : ℕ → ℕ → List X → Event) → IsOnline rest_of with_rest read → IsOnline nothing unchanged (λ bytes. pair_at bytes >>= λ x. items_at read 16 x.1 >>= λ xs. Ok (make x.0.0 x.0.1 xs))
listed_online read make online =
    online_then {Y = Event} nothing unchanged pair_at (λ p rest. items_at read 16 rest >>= λ xs. Ok (make p.0 p.1 xs)) pair_online (λ p. map_online (make p.0 p.1) (items_at read 16) (items_online read online 16))

fields_online : (k : Kind) → IsOnline nothing unchanged (fields_at k)
unfolding fields_at
fields_online kind.Grant = ended_online pair_at (λ p. Grant p.0 p.1) pair_online
fields_online kind.Query = listed_online value_at Query value_online
fields_online kind.Issue = listed_online atom_at Issue atom_online
fields_online kind.Release = ended_online number32_at Release number32_online
fields_online kind.Return = ended_online (both_at number32_at (codes " ") wide_at) (λ p. Return p.0 p.1) (both_online number32_at (codes " ") wide_at number32_online wide_online)
fields_online kind.Refuse = ended_online (both_at number32_at (codes " ") cause_at) (λ p. Refuse p.0 p.1) (both_online number32_at (codes " ") cause_at number32_online cause_online)
fields_online kind.Deliver =
    ended_online (both_at number32_at (codes " ") pair_at) (λ p. Deliver p.0 p.1.0 p.1.1) (both_online number32_at (codes " ") pair_at number32_online pair_online)
fields_online kind.Cut = ended_online pair_at (λ p. Cut p.0 p.1) pair_online
fields_online kind.Join = ended_online pair_at (λ p. Join p.0 p.1) pair_online

-- ---- the whole line

-- the line of an event of this kind
line_at : Kind → List ℕ → Result Event ℕ
line_at k line = word_at (word_of k) line >>= λ rest. fields_at k rest

-- the same behind the first bytes of the word
behind_at_word : (word : List ℕ) (k : Kind) → IsOnline nothing unchanged (λ line. word_at word line >>= λ rest. fields_at k rest)
behind_at_word word k = online_word {Y = Event} nothing unchanged word (λ rest. fields_at k rest) (fields_online k)

line_alike : (k : Kind) (b : List ℕ) (c : ℕ) (cs ds : List ℕ) → Alike {X = Event} nothing unchanged c cs ds (line_at k (b ++ c ∷ cs)) (line_at k (b ++ c ∷ ds))
unfolding line_at
line_alike k b c cs ds = (behind_at_word (word_of k) k).alike b c cs ds

-- the word of the kind begins with "re"
IsRe : Kind → Type 0
IsRe k = (tail : List ℕ) × (word_of k ≡ 114 ∷ (101 ∷ tail))

third_re : (byte : ℕ) → IsRe (kind_from_third byte)
unfolding IsRe word_of
third_re byte = by_test (eqb byte 108) (eqb byte 102)
  where
    by_test : (t u : Bool) → IsRe (cond t kind.Release (cond u kind.Refuse kind.Return))
    by_test true u = (codes "lease ", refl)
    by_test false true = (codes "fuse ", refl)
    by_test false false = (codes "turn ", refl)

module _ (c : ℕ) (cs ds : List ℕ) (k other : Kind) (one : IsRe k) (two : IsRe other) where
  re_first : Alike {X = Event} nothing unchanged c cs ds (line_at k (c ∷ cs)) (line_at other (c ∷ ds))
  unfolding line_at IsRe word_at
  re_first = rw (one.1, two.1) (by_test (eqb c 114))
    where
      by_test : (t : Bool) → Alike {X = Event} nothing unchanged c cs ds (cond t (word_at (101 ∷ one.0) cs) (Err (suc (length cs))) >>= λ rest. fields_at k rest) (cond t (word_at (101 ∷ two.0) ds) (Err (suc (length ds))) >>= λ rest. fields_at other rest)
      by_test true = beyond nothing unchanged c cs ds (word_at (101 ∷ one.0) cs >>= λ rest. fields_at k rest) (word_at (101 ∷ two.0) ds >>= λ rest. fields_at other rest) ((behind_at_word (101 ∷ one.0) k).shrinks cs)
      by_test false = bad_alike nothing unchanged [] c cs ds

  re_second : (x : ℕ) → Alike {X = Event} nothing unchanged c cs ds (line_at k (x ∷ (c ∷ cs))) (line_at other (x ∷ (c ∷ ds)))
  unfolding line_at IsRe word_at
  re_second x = rw (one.1, two.1) (by_test (eqb x 114) (eqb c 101))
    where
      by_test : (t u : Bool) → Alike {X = Event} nothing unchanged c cs ds (cond t (cond u (word_at one.0 cs) (Err (suc (length cs)))) (Err (suc (suc (length cs)))) >>= λ rest. fields_at k rest) (cond t (cond u (word_at two.0 ds) (Err (suc (length ds)))) (Err (suc (suc (length ds)))) >>= λ rest. fields_at other rest)
      by_test true true = beyond nothing unchanged c cs ds (word_at one.0 cs >>= λ rest. fields_at k rest) (word_at two.0 ds >>= λ rest. fields_at other rest) ((behind_at_word one.0 k).shrinks cs)
      by_test true false = bad_alike nothing unchanged [] c cs ds
      by_test false u = bad_alike nothing unchanged (x ∷ []) c cs ds

-- the same kind by the first byte, or two others
either_kind : (P : Kind → Kind → Type 0) (t : Bool) (k a b : Kind) → P k k → P a b → P (cond t k a) (cond t k b)
either_kind P true k a b h g = h
either_kind P false k a b h g = g

kinds_alike : (P : Kind → Kind → Type 0) → ((k : Kind) → P k k) → (x : ℕ) (k other : Kind) → P k other → P (kind_from x k) (kind_from x other)
kinds_alike P same x k other h =
    either_kind P (eqb x 103) kind.Grant _ _ (same kind.Grant) (either_kind P (eqb x 113) kind.Query _ _ (same kind.Query) (either_kind P (eqb x 105) kind.Issue _ _ (same kind.Issue)
    (either_kind P (eqb x 100) kind.Deliver _ _ (same kind.Deliver) (either_kind P (eqb x 99) kind.Cut _ _ (same kind.Cut) (either_kind P (eqb x 106) kind.Join k other (same kind.Join) h)))))

event_alike : (b : List ℕ) (c : ℕ) (cs ds : List ℕ) → Alike {X = Event} nothing unchanged c cs ds (event_at (b ++ c ∷ cs)) (event_at (b ++ c ∷ ds))
unfolding event_at kind_of line_at
event_alike [] c cs ds =
    kinds_alike (λ k other. Alike {X = Event} nothing unchanged c cs ds (line_at k (c ∷ cs)) (line_at other (c ∷ ds))) (λ k. line_alike k [] c cs ds) c (kind_from_third (slice_index (c ∷ cs) 2)) (kind_from_third (slice_index (c ∷ ds) 2))
    (re_first c cs ds (kind_from_third (slice_index (c ∷ cs) 2)) (kind_from_third (slice_index (c ∷ ds) 2)) (third_re (slice_index (c ∷ cs) 2)) (third_re (slice_index (c ∷ ds) 2)))
event_alike (x ∷ []) c cs ds =
    kinds_alike (λ k other. Alike {X = Event} nothing unchanged c cs ds (line_at k (x ∷ (c ∷ cs))) (line_at other (x ∷ (c ∷ ds)))) (λ k. line_alike k (x ∷ []) c cs ds) x (kind_from_third (slice_index (x ∷ (c ∷ cs)) 2)) (kind_from_third (slice_index (x ∷ (c ∷ ds)) 2))
    (re_second c cs ds (kind_from_third (slice_index (x ∷ (c ∷ cs)) 2)) (kind_from_third (slice_index (x ∷ (c ∷ ds)) 2)) (third_re (slice_index (x ∷ (c ∷ cs)) 2)) (third_re (slice_index (x ∷ (c ∷ ds)) 2)) x)
event_alike (x ∷ (y ∷ [])) c cs ds = line_alike (kind_from x (kind_from_third c)) (x ∷ (y ∷ [])) c cs ds
event_alike (x ∷ (y ∷ (z ∷ b))) c cs ds = line_alike (kind_from x (kind_from_third z)) (x ∷ (y ∷ (z ∷ b))) c cs ds

-- a byte is bad whatever stands behind it
pub bad_whatever_follows : (front : List ℕ) (c : ℕ) (cs ds : List ℕ) → event_at (front ++ c ∷ cs) ≡ Err (length (c ∷ cs)) → event_at (front ++ c ∷ ds) ≡ Err (length (c ∷ ds))
bad_whatever_follows front c cs ds e = at (event_at (front ++ c ∷ cs)) e (event_alike front c cs ds)
  where
    at : (r : Result Event ℕ) → r ≡ Err (length (c ∷ cs)) → Alike {X = Event} nothing unchanged c cs ds r (event_at (front ++ c ∷ ds)) → event_at (front ++ c ∷ ds) ≡ Err (length (c ∷ ds))
    at (Ok event) is h = absurd cc
    at (Err bad) is (inl past) = absurd (let same : bad ≡ suc (length cs) = cc in omega arith)
    at (Err bad) is (inr (k, place, same)) =
        let here : bad ≡ suc (length cs) = cc
        in same ∙ same_err (k + suc (length ds)) (suc (length ds)) (omega arith)
