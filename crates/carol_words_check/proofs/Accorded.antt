-- Right tables of the same guards are told alike.
use Rattle.std.proofs.Common.{◌≡◌, ◌<◌, ◌≤◌, ◌+◌, ◌*◌, ℕ, zero, suc, Bool, true, false, List, [], ◌∷◌, ◌++◌, length, refl, sym, ◌∙◌, ap, subst, inl, inr, arith}
use Rattle.std.specs.Prelude.{Some, codes, slice_get}
use Rattle.std.specs.Fmt.{decimal}
use Rattle.std.proofs.Math.Nat.{mul-le-mul_right}
use Rattle.std.proofs.lemmas.List.{length-map}
use Rattle.std.proofs.lemmas.Option.{slice_get_cases, slice_get_within}
use Rattle.carol_store.specs.declared.shape.CellKind.{CellKind}
use Rattle.carol_store.specs.declared.shape.CellKind.TheVariants.{Counter, Peak, Flag}
use Rattle.carol_store.specs.Kinds.{can_go, ways}
use Rattle.std.specs.List.{AllByRecursion}
use Rattle.carol_formula.specs.Claim.{Claim}
use Rattle.carol_accept.specs.Named.{name_at, way_word}
use Rattle.carol_program.specs.declared.accords.Entry.{Entry}
use Rattle.carol_program.specs.declared.accords.Entry.TheVariants.{Yes, No}
use Rattle.carol_program.specs.declared.names.Names.{Names}
use Rattle.carol_program.specs.Accords.{Accords, HasWay, IsTable, entry_of, place_of, row_of}
use Rattle.carol_program.specs.Preserving.{IsRight}
use Rattle.carol_program.specs.Rules.{Rules, guard_claim, rules_in}
use Rattle.carol_program.proofs.Ways.{place_of-within}
use Rattle.carol_reading.specs.Kept.{Kept}
use Rattle.carol_accept.specs.Texts.{accord_text, answer_word, cell_text, cells_text, guard_text, guards_text, line_feed, way_text, ways_text}

-- the table is right, and has an entry for each guard and way
pub record IsWhole (p : Rules) (table : Accords) : Type 0 where
  pub right : IsRight p table
  pub whole : IsTable table

-- ---- entries

-- a place in a row of a table
in_row : (guard count width place : ℕ) → guard < count → place < width → guard * width + place < count * width
in_row guard count width place low inside =
    let rows : (guard + 1) * width ≤ count * width = mul-le-mul_right width (omega arith) in
    omega (arith, rows)

-- a place that there is has an entry
entry_there : (entries : List Entry) (place : ℕ) → place < length entries → (e : Entry) × (slice_get entries place ≡ Some e)
entry_there entries place inside = elim (slice_get_cases entries place).1 [
  | inl h ↦ (h.0, h.2)
  | inr h ↦ absurd (omega (arith, h.0))
]

entry_is : (p : Rules) (table : Accords) → IsWhole p table → (guard : ℕ) (claim : Claim) (cell : ℕ) (up : Bool)
    → slice_get p.guards guard ≡ Some claim → HasWay p.shape cell up → (e : Entry) × (entry_of table guard cell up ≡ Some e)
entry_is p table h guard claim cell up is way =
    let inside : guard < table.guards = rw h.right.same_guards (slice_get_within p.guards guard claim is) in
    let there : HasWay table.kinds cell up = rw h.right.same_kinds way in
    let place = in_row guard table.guards (row_of table) (place_of table.kinds cell up) inside (place_of-within table.kinds cell up there) in
    entry_there table.entries (guard * row_of table + place_of table.kinds cell up) (rw h.whole place)

word_same : (e f : Entry) → (e ≡ Yes → f ≡ Yes) → (f ≡ Yes → e ≡ Yes) → answer_word (Some e) ≡ answer_word (Some f)
word_same Yes Yes to from = refl
word_same (No at) (No other) to from = refl
word_same Yes (No other) to from = let e = to refl in absurd cc
word_same (No at) Yes to from = let e = from refl in absurd cc

some_same : (e f : Entry) → Some e ≡ Some f → e ≡ f
some_same e f h = cc

entry_same : (p : Rules) (t u : Accords) → IsWhole p t → IsWhole p u → (guard : ℕ) (claim : Claim)
    (cell : ℕ) (up : Bool) → slice_get p.guards guard ≡ Some claim → HasWay p.shape cell up → answer_word (entry_of t guard cell up) ≡ answer_word (entry_of u guard cell up)
entry_same p t u h g guard claim cell up is way =
    let e = entry_is p t h guard claim cell up is way in
    let f = entry_is p u g guard claim cell up is way in
    let yes_t = h.right.each guard claim (record { cell = cell; up = up }) is way in
    let yes_u = g.right.each guard claim (record { cell = cell; up = up }) is way in
    let to : e.0 ≡ Yes → f.0 ≡ Yes = λ k. some_same f.0 Yes (sym f.1 ∙ yes_u.1 (yes_t.0 (e.1 ∙ ap Some k))) in
    let from : f.0 ≡ Yes → e.0 ≡ Yes = λ k. some_same e.0 Yes (sym e.1 ∙ yes_t.1 (yes_u.0 (f.1 ∙ ap Some k))) in
    ap answer_word e.1 ∙ (word_same e.0 f.0 to from ∙ ap answer_word (sym f.1))

-- ---- texts

-- tables whose entries are told alike, at a guard and a way
abbrev TellSame : Accords → Accords → ℕ → ℕ → Bool → Type 0
TellSame t u guard cell up = answer_word (entry_of t guard cell up) ≡ answer_word (entry_of u guard cell up)

way_same : (names : Names) (t u : Accords) (guard cell : ℕ) (up : Bool) → TellSame t u guard cell up → way_text names t guard cell up ≡ way_text names u guard cell up
way_same names t u guard cell up h = ap (λ w. name_at names.cells cell ++ (way_word up ++ (codes " " ++ (w ++ line_feed)))) h

ways_same : (names : Names) (t u : Accords) (guard cell : ℕ) (ups : List Bool) → AllByRecursion (TellSame t u guard cell) ups → ways_text names t guard cell ups ≡ ways_text names u guard cell ups
ways_same names t u guard cell [] h = refl
ways_same names t u guard cell (up ∷ more) h =
    ap (λ w. w ++ ways_text names t guard cell more) (way_same names t u guard cell up h.0)
    ∙ ap (λ w. way_text names u guard cell up ++ w) (ways_same names t u guard cell more h.1)

cell_same : (names : Names) (t u : Accords) (guard cell : ℕ) (kind : CellKind) → ((up : Bool) → can_go kind up ≡ true → TellSame t u guard cell up)
    → cell_text names t guard cell kind ≡ cell_text names u guard cell kind
cell_same names t u guard cell kind h = ways_same names t u guard cell (ways kind) (all_told kind h)
  where
    all_told : (kind : CellKind) → ((up : Bool) → can_go kind up ≡ true → TellSame t u guard cell up) → AllByRecursion (TellSame t u guard cell) (ways kind)
    all_told Counter h = (h true refl, (h false refl, tt))
    all_told Peak h = (h true refl, tt)
    all_told Flag h = (h true refl, tt)

cells_same : (names : Names) (t u : Accords) (guard first : ℕ) (kinds : List CellKind) → ((i : ℕ) (up : Bool) → HasWay kinds i up → TellSame t u guard (first + i) up)
    → cells_text names t guard first kinds ≡ cells_text names u guard first kinds
cells_same names t u guard first [] h = refl
cells_same names t u guard first (kind ∷ kinds) h =
    let at : (i n : ℕ) → first + i ≡ n → (up : Bool) → HasWay (kind ∷ kinds) i up → TellSame t u guard n up
    = λ i n e up way. subst (λ m. TellSame t u guard m up) e (h i up way) in
    let one = cell_same names t u guard first kind (λ up way. at zero first (omega arith) up way) in
    let more = cells_same names t u guard (first + 1) kinds (λ i up way. at (suc i) (first + 1 + i) (omega arith) up way) in
    ap (λ w. w ++ cells_text names t guard (first + 1) kinds) one ∙ ap (λ w. cell_text names u guard first kind ++ w) more

guards_same : (names : Names) (t u : Accords) (kinds : List CellKind) (count first : ℕ)
    → ((i : ℕ) → i < count → cells_text names t (first + i) 0 kinds ≡ cells_text names u (first + i) 0 kinds)
    → guards_text names t kinds count first ≡ guards_text names u kinds count first
guards_same names t u kinds zero first h = refl
guards_same names t u kinds (suc count) first h =
    let at : (i n : ℕ) → i < suc count → first + i ≡ n → cells_text names t n 0 kinds ≡ cells_text names u n 0 kinds
    = λ i n low e. subst (λ m. cells_text names t m 0 kinds ≡ cells_text names u m 0 kinds) e (h i low) in
    let one = ap (λ w. (codes "guard " ++ (decimal first ++ (codes " " ++ (name_at names.guards first ++ line_feed)))) ++ w) (at zero first (omega arith) (omega arith)) in
    let more = guards_same names t u kinds count (first + 1) (λ i low. at (suc i) (first + 1 + i) (omega arith) (omega arith)) in
    ap (λ w. w ++ guards_text names t kinds count (first + 1)) one ∙ ap (λ w. guard_text names u kinds first ++ w) more

-- ---- the whole text

abbrev told : Names → Accords → Rules → List ℕ
told names table p = (codes "accepted" ++ line_feed) ++ (guards_text names table p.shape (length p.guards) 0 ++ (codes "end" ++ line_feed))

accord_text-told : (k : Kept) → accord_text k ≡ told k.program.names k.accords (rules_in k.program)
unfolding accord_text
accord_text-told k =
    ap (λ n. (codes "accepted" ++ line_feed) ++ (guards_text k.program.names k.accords k.program.shape n 0 ++ (codes "end" ++ line_feed))) (sym (length-map k.program.guards guard_claim))

told_same : (names : Names) (t u : Accords) (p : Rules) → IsWhole p t → IsWhole p u → told names t p ≡ told names u p
told_same names t u p h g = ap (λ w. (codes "accepted" ++ line_feed) ++ (w ++ (codes "end" ++ line_feed))) (guards_same names t u p.shape (length p.guards) 0 guard)
  where
    claim_at : (i : ℕ) → i < length p.guards → (claim : Claim) × (slice_get p.guards i ≡ Some claim)
    claim_at i low = elim (slice_get_cases p.guards i).1 [
      | inl k ↦ (k.0, k.2)
      | inr k ↦ absurd (omega (arith, k.0))
    ]

    guard : (i : ℕ) → i < length p.guards → cells_text names t (0 + i) 0 p.shape ≡ cells_text names u (0 + i) 0 p.shape
    guard i low =
        let is = claim_at i low in
        let same : cells_text names t i 0 p.shape ≡ cells_text names u i 0 p.shape
        = cells_same names t u i 0 p.shape (λ cell up way. subst (λ m. TellSame t u i m up) (omega arith) (entry_same p t u h g i is.0 cell up is.1 way)) in
        subst (λ m. cells_text names t m 0 p.shape ≡ cells_text names u m 0 p.shape) (omega arith) same

-- of programs with the same rules and names
pub accord_text-same : (k l : Kept) (names : Names) (p : Rules) → k.program.names ≡ names → rules_in k.program ≡ p → l.program.names ≡ names → rules_in l.program ≡ p
    → IsWhole p k.accords → IsWhole p l.accords → accord_text k ≡ accord_text l
accord_text-same k l names p named ruled named' ruled' h g =
    accord_text-told k ∙ (ap (λ n. told n k.accords (rules_in k.program)) named ∙ (ap (λ r. told names k.accords r) ruled
    ∙ (told_same names k.accords l.accords p h g
    ∙ sym (accord_text-told l ∙ (ap (λ n. told n l.accords (rules_in l.program)) named' ∙ ap (λ r. told names l.accords r) ruled')))))
