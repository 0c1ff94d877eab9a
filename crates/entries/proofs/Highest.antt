-- The highest identity, one more at a time.
use Rattle.std.proofs.Common.{◌≡◌, ℕ, ◌+◌, ◌<◌, ◌≤◌, max, ◌⊎◌, List, [], ◌∷◌, length, get_or, drop, sym, refl, ap, ◌∙◌, subst, inl, inr, ⊎_elim, arith}
use Rattle.std.proofs.lemmas.List.{at_drop_more, at_drop_all}
use Rattle.layout.specs.Format.{Geometry, Cell, Entry, entry, no_entry, entry_of, Content, blank, cover, slotted, file_body, folder_body, ill_formed}
use Rattle.layout.specs.Identities.{highest_in, entry_told, EntryTells, CellsTell, told, Tells}
use Rattle.std.proofs.lemmas.Bool.{cases_lt}

max_assoc : (a b c : ℕ) → max (max a b) c ≡ max a (max b c)
max_assoc a b c = omega arith

max_zero : (a : ℕ) → max a 0 ≡ a
max_zero a = omega arith

module _ (g : Geometry) (es : List Cell) (k h r : ℕ) where
  in_step : (e : Cell) (rest : List Cell) → highest_in g (e ∷ rest) ≡ max (entry_told (entry_of g e)) (highest_in g rest)
  unfolding highest_in
  in_step e rest = refl

  in_none : highest_in g [] ≡ 0
  unfolding highest_in
  in_none = refl

  pub in_more : (t : ℕ) → k < length es → t ≡ entry_told (entry_of g (get_or es k [])) → max h (highest_in g (drop k es)) ≡ r → max (max h t) (highest_in g (drop (k + 1) es)) ≡ r
  in_more t lt et e =
      max_assoc h t (highest_in g (drop (k + 1) es)) ∙ ap (λ n. max h (max n (highest_in g (drop (k + 1) es)))) et
      ∙ ap (max h) (sym (at_drop_more (highest_in g) es k [] lt ∙ in_step (get_or es k []) (drop (k + 1) es))) ∙ e

  pub in_all : length es ≤ k → max h (highest_in g (drop k es)) ≡ r → h ≡ r
  in_all le e = sym (max_zero h) ∙ ap (max h) (sym (at_drop_all (highest_in g) es k le ∙ in_none)) ∙ e

-- the highest is that of one of two
max_is : (a b : ℕ) → (max a b ≡ a) ⊎ (max a b ≡ b)
max_is a b = ⊎_elim (λ (h : a < b). inr (omega arith)) (λ (h : b ≤ a). inl (omega arith)) (cases_lt a b)

entry_above : (i : ℕ) (e : Entry) → EntryTells i e → i ≤ entry_told e
entry_above i (entry n c) e = omega arith
entry_above i no_entry e = absurd e

cells_above : (g : Geometry) (i : ℕ) (es : List Cell) → CellsTell g i es → i ≤ highest_in g es
unfolding highest_in CellsTell
cells_above g i [] t = absurd t
cells_above g i (e ∷ es) (inl t) = omega (arith, entry_above i (entry_of g e) t)
cells_above g i (e ∷ es) (inr t) = omega (arith, cells_above g i es t)

entry_attained : (e : Entry) → (entry_told e ≡ 0) ⊎ EntryTells (entry_told e) e
entry_attained (entry n c) = inr refl
entry_attained no_entry = inl refl

-- told by one of the cells, if the number is
moved : (g : Geometry) (es : List Cell) (i j : ℕ) → i ≡ j → CellsTell g j es → CellsTell g i es
moved g es i j e t = subst (λ n. CellsTell g n es) (sym e) t

entry_moved : (d : Entry) (i j : ℕ) → i ≡ j → EntryTells j d → EntryTells i d
entry_moved d i j e t = subst (λ n. EntryTells n d) (sym e) t

cells_attained : (g : Geometry) (es : List Cell) → (highest_in g es ≡ 0) ⊎ CellsTell g (highest_in g es) es
unfolding highest_in CellsTell
cells_attained g [] = inl refl
cells_attained g (e ∷ es) =
    ⊎_elim
    (λ (m : max (entry_told (entry_of g e)) (highest_in g es) ≡ entry_told (entry_of g e)).
    ⊎_elim (λ (z : entry_told (entry_of g e) ≡ 0). inl (m ∙ z)) (λ (t : EntryTells (entry_told (entry_of g e)) (entry_of g e)). inr (inl (entry_moved (entry_of g e) _ _ m t))) (entry_attained (entry_of g e)))
    (λ (m : max (entry_told (entry_of g e)) (highest_in g es) ≡ highest_in g es).
    ⊎_elim (λ (z : highest_in g es ≡ 0). inl (m ∙ z)) (λ (t : CellsTell g (highest_in g es) es). inr (inr (moved g es _ _ m t))) (cells_attained g es))
    (max_is (entry_told (entry_of g e)) (highest_in g es))

-- what a block tells is never above the highest told
pub told_above : (g : Geometry) (c : Content) (i : ℕ) → Tells g c i → i ≤ told g c
told_above g blank i t = absurd t
told_above g (cover c) i t = absurd t
told_above g (slotted r) i (inl e) = omega arith
told_above g (slotted r) i (inr e) = omega arith
told_above g (file_body b x) i e = omega arith
told_above g (folder_body b es) i (inl e) = omega arith
told_above g (folder_body b es) i (inr t) = omega (arith, cells_above g i es t)
told_above g ill_formed i t = absurd t

-- and it is told, unless it is 0
pub told_attained : (g : Geometry) (c : Content) → (told g c ≡ 0) ⊎ Tells g c (told g c)
told_attained g blank = inl refl
told_attained g (cover c) = inl refl
told_attained g (slotted r) = inr (max_is r.identity r.parent.identity.0)
told_attained g (file_body b x) = inr refl
told_attained g (folder_body b es) =
    ⊎_elim (λ (m : max b.owner.identity.0 (highest_in g es) ≡ b.owner.identity.0). inr (inl m))
    (λ (m : max b.owner.identity.0 (highest_in g es) ≡ highest_in g es).
    ⊎_elim (λ (z : highest_in g es ≡ 0). inl (m ∙ z)) (λ (t : CellsTell g (highest_in g es) es). inr (inr (moved g es _ _ m t))) (cells_attained g es))
    (max_is b.owner.identity.0 (highest_in g es))
told_attained g ill_formed = inl refl

module _ (g : Geometry) (c : Content) (r : ℕ) (e : r ≡ told g c) where
  pub above_from : (i : ℕ) → Tells g c i → i ≤ r
  above_from i t = omega (arith, told_above g c i t)

  pub attained_from : (r ≡ 0) ⊎ Tells g c r
  attained_from = subst (λ n. (n ≡ 0) ⊎ Tells g c n) (sym e) (told_attained g c)
