-- The first line of bytes, cut off at its line feed.
use Rattle.std.proofs.Common.{◌≡◌, ℕ, suc, ◌+◌, ◌<◌, ◌≤◌, ◌==◌, Bool, true, false, ltb, List, [], ◌∷◌, ◌++◌, length, take, drop, drop-cons, get_or, inl, inr, refl, sym, ◌∙◌, ap, append_assoc, arith, add-one}
use Rattle.std.specs.Prelude.{codes, Option, Some, None, Result, Ok, Err, if◌then◌else◌}
use Rattle.std.specs.List.{position, position_or_len}
use Rattle.std.proofs.lemmas.Bool.{eqb-true, ltb-false}
use Rattle.std.proofs.lemmas.List.{get_or-take, length-take-le, take-append-drop}
use Rattle.std.proofs.lemmas.List.Quantifiers.{position-Some}
use Rattle.std.proofs.lemmas.List.Sums.{fails_before_first}
use Rattle.carol_audit.specs.declared.error.TailError.{TailError}
use Rattle.carol_audit.specs.declared.error.TailError.TheVariants.{Bad, TooLarge, NoMemory}
use Rattle.carol_audit.specs.declared.first.Taken.{Taken}
use Rattle.carol_audit.specs.Firsts.{Cuts, Finds, FindsInLine, IsFirstFault}
use Rattle.carol_audit.specs.Lines.{HasNoFeed}
use Rattle.carol_audit.proofs.Feeds.{no_feed-each}
use Rattle.carol_audit.proofs.Fronts.{line_in}

-- the bytes are a line of this length, its line feed, and the rest
record IsCut (bytes : List ℕ) (end : ℕ) : Type 0 where
  are : bytes ≡ take end bytes ++ 10 ∷ drop (end + 1) bytes
  whole : HasNoFeed (take end bytes)
  long : length (take end bytes) ≡ end
  inside : end + 1 ≤ length bytes

cut_at : (bytes : List ℕ) (end : ℕ) → position (λ byte. byte == 10) bytes ≡ Some end → IsCut bytes end
cut_at bytes end found =
    let at = position-Some (λ (byte : ℕ). byte == 10) bytes end 0 found
    in let feed : get_or bytes end 0 ≡ 10 = eqb-true (get_or bytes end 0) 10 at.1
    in let behind : drop end bytes ≡ 10 ∷ drop (end + 1) bytes = rw add-one (drop-cons bytes end 0 at.0 ∙ ap (λ (b : ℕ). b ∷ drop (suc end) bytes) feed)
    in let long : length (take end bytes) ≡ end = length-take-le end bytes (omega arith)
    in record {
      are = sym (take-append-drop end bytes) ∙ ap (λ (r : List ℕ). take end bytes ++ r) behind;
      whole = no_feed-each (take end bytes) (λ k inside. let low : k < end = omega (arith, long) in rw (get_or-take end bytes k 0 low) (at.2 k low));
      long = long;
      inside = omega arith;
    }

no_cut : (bytes : List ℕ) → position (λ byte. byte == 10) bytes ≡ None → HasNoFeed bytes
no_cut bytes none = no_feed-each bytes (λ k inside. fails_before_first (λ (byte : ℕ). byte == 10) bytes k 0 (omega (arith, past (position_or_len (λ (byte : ℕ). byte == 10) bytes) (length bytes) none)))
  where
    past : (i n : ℕ) → (if ltb i n then Some i else None) ≡ None → n ≤ i
    past i n e = at (ltb i n) refl e
      where
        at : (b : Bool) → ltb i n ≡ b → (if b then Some i else None) ≡ None → n ≤ i
        at true is e = absurd (let no : Some i ≡ None = e in cc)
        at false is e = ltb-false i n is

-- what the first line is, if a line feed ends it
pub finds_whole : (bytes : List ℕ) (end number : ℕ) (result : Result (Option Taken) TailError) → position (λ byte. byte == 10) bytes ≡ Some end → FindsInLine (take end bytes) number result → Finds bytes number result
finds_whole bytes end number (Ok (Some taken)) found h =
    let cut = cut_at bytes end found
    in let used : taken.used ≡ end + 1 = omega (arith, h.2, cut.long)
    in (
      record {
        are = rw used (cut.are ∙ rw h.0 (sym (line_in taken.event (drop (end + 1) bytes))));
        fits = h.1;
      },
      omega (arith, used, cut.inside),
    )
finds_whole bytes end number (Ok None) found h =
    let cut = cut_at bytes end found
    in (drop (end + 1) bytes, cut.are ∙ rw h (sym (append_assoc (codes "results") (10 ∷ []) (drop (end + 1) bytes))))
finds_whole bytes end number (Err (Bad place column)) found h =
    let cut = cut_at bytes end found
    in (h.1.0, inl (record { line = take end bytes; rest = drop (end + 1) bytes; are = cut.are; whole = cut.whole; other = h.0; bad = h.1.1 }))
finds_whole bytes end number (Err TooLarge) found h = h.1
finds_whole bytes end number (Err NoMemory) found h = tt

-- and if none does
pub finds_cut : (bytes : List ℕ) (number : ℕ) (error : TailError) → position (λ byte. byte == 10) bytes ≡ None → Cuts bytes number error → IsFirstFault bytes number error
finds_cut bytes number (Bad place column) none h = (h.0, inr (record { whole = no_cut bytes none; bad = h.1 }))
finds_cut bytes number TooLarge none h = h
finds_cut bytes number NoMemory none h = tt
