-- Lists of rows: what stands in them.
use Rattle.std.proofs.Common.{◌≡◌, Bool, true, false, cond, List, [], ◌∷◌, ◌++◌, map, inl, inr, refl, sym, ◌∙◌, ap, subst}
use Rattle.std.specs.Prelude.{◌⊎◌, flat_map}
use Rattle.std.specs.List.{filter}
use Rattle.std.proofs.lemmas.Bool.{false≢true}
use Rattle.carol_formula.specs.Linear.{Linear}
use Rattle.carol_elimination.specs.Stage.{Among}

pub among_left : (r : Linear) (xs ys : List Linear) → Among r xs → Among r (xs ++ ys)
among_left r [] ys h = absurd h
among_left r (x ∷ xs) ys h = elim h [ inl e ↦ inl e | inr k ↦ inr (among_left r xs ys k) ]

pub among_right : (r : Linear) (xs ys : List Linear) → Among r ys → Among r (xs ++ ys)
among_right r [] ys h = h
among_right r (x ∷ xs) ys h = inr (among_right r xs ys h)

pub among_cases : (r : Linear) (xs ys : List Linear) → Among r (xs ++ ys) → Among r xs ⊎ Among r ys
among_cases r [] ys h = inr h
among_cases r (x ∷ xs) ys h = elim h [
  | inl e ↦ inl (inl e)
  | inr k ↦ elim (among_cases r xs ys k) [ inl a ↦ inl (inr a) | inr b ↦ inr b ]
]

-- ---- a filter

filtered : (p : Linear → Bool) (r x : Linear) (xs : List Linear) (b : Bool) → p x ≡ b → (r ≡ x) ⊎ Among r xs → p r ≡ true → (Among r xs → Among r (filter p xs)) → Among r (cond b (x ∷ filter p xs) (filter p xs))
filtered p r x xs true e h t more = elim h [ inl s ↦ inl s | inr k ↦ inr (more k) ]
filtered p r x xs false e h t more = elim h [ inl s ↦ absurd (false≢true (sym e ∙ ap p (sym s) ∙ t)) | inr k ↦ more k ]

pub among_filter : (p : Linear → Bool) (r : Linear) (xs : List Linear) → Among r xs → p r ≡ true → Among r (filter p xs)
among_filter p r [] h t = absurd h
among_filter p r (x ∷ xs) h t = filtered p r x xs (p x) refl h t (λ k. among_filter p r xs k t)

passing : (p : Linear → Bool) (r x : Linear) (xs : List Linear) (b : Bool) → p x ≡ b → (Among r (filter p xs) → Among r xs × (p r ≡ true)) → Among r (cond b (x ∷ filter p xs) (filter p xs)) → ((r ≡ x) ⊎ Among r xs) × (p r ≡ true)
passing p r x xs true e more h = elim h [ inl s ↦ (inl s, ap p s ∙ e) | inr k ↦ (inr (more k).0, (more k).1) ]
passing p r x xs false e more h = (inr (more h).0, (more h).1)

pub filter_among : (p : Linear → Bool) (r : Linear) (xs : List Linear) → Among r (filter p xs) → Among r xs × (p r ≡ true)
filter_among p r [] h = absurd h
filter_among p r (x ∷ xs) h = passing p r x xs (p x) refl (filter_among p r xs) h

-- ---- images

pub among_map : (g : Linear → Linear) (r : Linear) (xs : List Linear) → Among r xs → Among (g r) (map g xs)
among_map g r [] h = absurd h
among_map g r (x ∷ xs) h = elim h [ inl e ↦ inl (ap g e) | inr k ↦ inr (among_map g r xs k) ]

-- where a row of an image comes from
pub record IsImage (g : Linear → Linear) (r : Linear) (xs : List Linear) : Type 0 where
  pub of : Linear
  pub among : Among of xs
  pub is : r ≡ g of

pub map_among : (g : Linear → Linear) (r : Linear) (xs : List Linear) → Among r (map g xs) → IsImage g r xs
map_among g r [] h = absurd h
map_among g r (x ∷ xs) h = elim h [
  | inl e ↦ record { of = x; among = inl refl; is = e }
  | inr k ↦ let i = map_among g r xs k in record { of = i.of; among = inr i.among; is = i.is }
]

pub among_flat_map : (g : Linear → List Linear) (r x : Linear) (xs : List Linear) → Among x xs → Among r (g x) → Among r (flat_map g xs)
among_flat_map g r x [] h k = absurd h
among_flat_map g r x (y ∷ ys) h k = elim h [
  | inl e ↦ among_left r (g y) (flat_map g ys) (subst (λ (z : Linear). Among r (g z)) e k)
  | inr m ↦ among_right r (g y) (flat_map g ys) (among_flat_map g r x ys m k)
]

pub record IsFrom (g : Linear → List Linear) (r : Linear) (xs : List Linear) : Type 0 where
  pub of : Linear
  pub among : Among of xs
  pub is : Among r (g of)

pub flat_map_among : (g : Linear → List Linear) (r : Linear) (xs : List Linear) → Among r (flat_map g xs) → IsFrom g r xs
flat_map_among g r [] h = absurd h
flat_map_among g r (x ∷ xs) h = elim (among_cases r (g x) (flat_map g xs) h) [
  | inl k ↦ record { of = x; among = inl refl; is = k }
  | inr k ↦ let i = flat_map_among g r xs k in record { of = i.of; among = inr i.among; is = i.is }
]
