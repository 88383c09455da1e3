-- Rounds are as rounds may be along a way exactly where its guards are true, and those of its rounds
-- sound that are over and have a query.
use Rattle.std.proofs.Common.{◌≡◌, ℕ, Bool, true, false, List, [], ◌∷◌, ◌++◌, refl, sym, subst}
use Rattle.std.specs.Prelude.{◌↔◌, ℤ, if◌then◌else◌, slice_get}
use Rattle.carol_store.specs.Kinds.{CellValue}
use Rattle.carol_program.specs.Rules.{Rules}
use Rattle.carol_program.specs.Variables.{query_variable, store_at}
use Rattle.carol_reading.specs.Marks.{Mark, Asked, Issued, Released}
use Rattle.carol_reading.specs.Readings.{effect_of}
use Rattle.carol_reading.specs.Rounds.{IsSound, GuardsIn, IsProper}
use Rattle.carol_obligation.specs.Ways.{Way, Asks, Puts, Frees, Tests, has_query}
use Rattle.carol_obligation.specs.Decoded.{marks_at, open_at, closed_at, ended_at}
use Rattle.carol_obligation.proofs.Equivalences.{same, chain}

-- a round that is over is sound, if it has a query
abbrev pub IsClosed : Rules → Bool → List CellValue → Type 0
IsClosed p true store = IsSound p store
IsClosed p false store = Unit {0}

-- the guard of each query is true of its round, and each round that is over and has a query is sound
abbrev pub RoundsGo : Rules → Way → (ℕ → ℤ) → Type 0
RoundsGo p [] f = Unit {0}
RoundsGo p (Asks guard slot ∷ way) f = GuardsIn (slice_get p.guards guard) (store_at p.shape (query_variable slot 0) f) (open_at p.shape way f) × RoundsGo p way f
RoundsGo p (Puts parts ∷ way) f = IsClosed p (has_query way) (open_at p.shape way f) × RoundsGo p way f
RoundsGo p (Frees ∷ way) f = IsClosed p (has_query way) (open_at p.shape way f) × RoundsGo p way f
RoundsGo p (Tests test side ∷ way) f = RoundsGo p way f

-- the mark ends a round, and the operation goes on
abbrev Closes : Mark → Type 0
Closes (Issued effect) = Unit {0}
Closes Released = Unit {0}
Closes mark = ⊥

-- one thing before two
kept : {A B C D : Type 0} → B ↔ (C × D) → (A × B) ↔ ((A × C) × D)
kept h = (λ a. ((a.0, (h.0 a.1).0), (h.0 a.1).1), λ b. (b.0.0, h.1 (b.0.1, b.1)))

module _ (p : Rules) where
  -- ---- one mark more

  asked-proper : (marks : List Mark) (ended : List (List CellValue)) (own : List CellValue) (guard : ℕ) (store : List CellValue) → IsProper p (marks ++ Asked guard store ∷ []) ended own ↔ (IsProper p marks ended own × GuardsIn (slice_get p.guards guard) store own)
  asked-proper [] [] own guard store = (λ h. (h.1, h.0), λ h. (h.1, h.0))
  asked-proper [] (y ∷ ended) own guard store = (λ h. absurd h.1, λ h. absurd h.0)
  asked-proper (Asked n x ∷ marks) [] own guard store = kept (asked-proper marks [] own guard store)
  asked-proper (Asked n x ∷ marks) (y ∷ ended) own guard store = kept (asked-proper marks (y ∷ ended) own guard store)
  asked-proper (m ∷ marks) [] own guard store = (λ h. absurd h, λ h. absurd h.0)
  asked-proper (m ∷ marks) (y ∷ ended) own guard store = kept (asked-proper marks ended own guard store)

  module _ (mark : Mark) (closes : Closes mark) (own : List CellValue) where
    closing : (m : Mark) → Closes m → (y : List CellValue) (ended : List (List CellValue)) → IsProper p (m ∷ []) (y ∷ ended) own ↔ (IsSound p y × IsProper p [] ended own)
    closing (Issued e) c y ended = same _
    closing Released c y ended = same _
    closing m c y ended = absurd c

    -- a round more than marks that end one
    too_many : (ended : List (List CellValue)) (y : List CellValue) → IsProper p [] (ended ++ y ∷ []) own → ⊥
    too_many [] y h = h
    too_many (z ∷ ended) y h = h

    too_few : (marks : List Mark) → IsProper p (marks ++ mark ∷ []) [] own → ⊥
    too_few [] h = alone mark closes h
      where
        alone : (m : Mark) → Closes m → IsProper p (m ∷ []) [] own → ⊥
        alone (Issued e) c h = h
        alone Released c h = h
        alone m c h = c
    too_few (Asked n x ∷ marks) h = too_few marks h.1
    too_few (m ∷ marks) h = h

    closed-proper : (marks : List Mark) (ended : List (List CellValue)) (y : List CellValue) → IsProper p (marks ++ mark ∷ []) (ended ++ y ∷ []) own ↔ (IsProper p marks ended y × IsSound p own)
    closed-proper [] [] y = closing mark closes y []
    closed-proper [] (z ∷ ended) y = chain (closing mark closes z (ended ++ y ∷ [])) (λ h. absurd (too_many ended y h.1), λ h. absurd h.0)
    closed-proper (Asked n x ∷ marks) [] y = kept (closed-proper marks [] y)
    closed-proper (Asked n x ∷ marks) (z ∷ ended) y = kept (closed-proper marks (z ∷ ended) y)
    closed-proper (m ∷ marks) [] y = (λ h. absurd (too_few marks h.1), λ h. absurd h.0)
    closed-proper (m ∷ marks) (z ∷ ended) y = kept (closed-proper marks ended y)

  -- ---- along a way

  chosen : {A : Type 0} (b : Bool) (x y : A) → b ≡ true → (if b then x else y) ≡ x
  chosen true x y e = refl
  chosen false x y e = cc

  is_closed : (b : Bool) (x y : List CellValue) → IsSound p (if b then x else y) → IsClosed p b x
  is_closed true x y h = h
  is_closed false x y h = tt

  pub sound-closed : (b : Bool) (x : List CellValue) → IsSound p x → IsClosed p b x
  sound-closed true x h = h
  sound-closed false x h = tt

  module _ (f : ℕ → ℤ) (current : List CellValue) where
    -- the rounds are as they may be, where the open one has this store
    abbrev AreProper : Way → List CellValue → Type 0
    AreProper way own = IsProper p (marks_at p.shape way f) (ended_at p.shape way f current) own

    -- the open round has the store that the numbers give it, if it has a query
    abbrev IsOwn : Way → List CellValue → Type 0
    IsOwn way own = has_query way ≡ true → own ≡ open_at p.shape way f

    closed-own : (way : Way) → IsOwn way (closed_at p.shape way f current)
    closed-own way = chosen (has_query way) (open_at p.shape way f) current

    guards-own : (guard slot : ℕ) (way : Way) (own : List CellValue) → own ≡ open_at p.shape way f → GuardsIn (slice_get p.guards guard) (store_at p.shape (query_variable slot 0) f) own ↔ GuardsIn (slice_get p.guards guard) (store_at p.shape (query_variable slot 0) f) (open_at p.shape way f)
    guards-own guard slot way own e = (subst (GuardsIn (slice_get p.guards guard) (store_at p.shape (query_variable slot 0) f)) e, subst (GuardsIn (slice_get p.guards guard) (store_at p.shape (query_variable slot 0) f)) (sym e))

    pub rounds-forth : (way : Way) (own : List CellValue) → IsOwn way own → AreProper way own → IsSound p own × RoundsGo p way f
    rounds-forth [] own is h = (h, tt)
    rounds-forth (Asks guard slot ∷ way) own is h =
        let a = (asked-proper (marks_at p.shape way f) (ended_at p.shape way f current) own guard (store_at p.shape (query_variable slot 0) f)).0 h in
        let r = rounds-forth way own (λ _. is refl) a.0 in
        (r.0, ((guards-own guard slot way own (is refl)).0 a.1, r.1))
    rounds-forth (Puts parts ∷ way) own is h =
        let a = (closed-proper (Issued (effect_of p.shape parts f)) tt own (marks_at p.shape way f) (ended_at p.shape way f current) (closed_at p.shape way f current)).0 h in
        let r = rounds-forth way (closed_at p.shape way f current) (closed-own way) a.0 in
        (a.1, (is_closed (has_query way) (open_at p.shape way f) current r.0, r.1))
    rounds-forth (Frees ∷ way) own is h =
        let a = (closed-proper Released tt own (marks_at p.shape way f) (ended_at p.shape way f current) (closed_at p.shape way f current)).0 h in
        let r = rounds-forth way (closed_at p.shape way f current) (closed-own way) a.0 in
        (a.1, (is_closed (has_query way) (open_at p.shape way f) current r.0, r.1))
    rounds-forth (Tests test side ∷ way) own is h = rounds-forth way own is h

    module _ (sound : IsSound p current) where
      closed-sound : (b : Bool) (x : List CellValue) → IsClosed p b x → IsSound p (if b then x else current)
      closed-sound true x h = h
      closed-sound false x h = sound

      pub rounds-back : (way : Way) (own : List CellValue) → IsOwn way own → IsSound p own → RoundsGo p way f → AreProper way own
      rounds-back [] own is s h = s
      rounds-back (Asks guard slot ∷ way) own is s h = (asked-proper (marks_at p.shape way f) (ended_at p.shape way f current) own guard (store_at p.shape (query_variable slot 0) f)).1
          (rounds-back way own (λ _. is refl) s h.1, (guards-own guard slot way own (is refl)).1 h.0)
      rounds-back (Puts parts ∷ way) own is s h = (closed-proper (Issued (effect_of p.shape parts f)) tt own (marks_at p.shape way f) (ended_at p.shape way f current) (closed_at p.shape way f current)).1
          (rounds-back way (closed_at p.shape way f current) (closed-own way) (closed-sound (has_query way) (open_at p.shape way f) h.0) h.1, s)
      rounds-back (Frees ∷ way) own is s h = (closed-proper Released tt own (marks_at p.shape way f) (ended_at p.shape way f current) (closed_at p.shape way f current)).1
          (rounds-back way (closed_at p.shape way f current) (closed-own way) (closed-sound (has_query way) (open_at p.shape way f) h.0) h.1, s)
      rounds-back (Tests test side ∷ way) own is s h = rounds-back way own is s h
