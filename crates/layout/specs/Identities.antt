-- The identities that a block tells, and the highest of them.
use Rattle.std.specs.Prelude.{◌≡◌, ℕ, max, ◌⊎◌, List, [], ◌∷◌}
use Rattle.layout.specs.Format.{Geometry, Cell, Entry, entry, no_entry, entry_of, Content, blank, cover, slotted, file_body, folder_body, ill_formed}

-- the identity of the child that an entry leads to
abbrev pub entry_told : Entry → ℕ
entry_told (entry n c) = c.identity.0
entry_told no_entry = 0

-- the highest among well-formed entries
unfoldable pub highest_in : Geometry → List Cell → ℕ
highest_in g [] = 0
highest_in g (e ∷ es) = max (entry_told (entry_of g e)) (highest_in g es)

-- the highest identity that a block tells; 0 where it tells none
abbrev pub told : Geometry → Content → ℕ
told g blank = 0
told g (cover c) = 0
told g (slotted r) = max r.identity r.parent.identity.0
told g (file_body b x) = b.owner.identity.0
told g (folder_body b es) = max b.owner.identity.0 (highest_in g es)
told g ill_formed = 0

-- an entry leads to a child of identity i
abbrev pub EntryTells : ℕ → Entry → Type 0
EntryTells i (entry n c) = i ≡ c.identity.0
EntryTells i no_entry = ⊥

unfoldable pub CellsTell : Geometry → ℕ → List Cell → Type 0
CellsTell g i [] = ⊥
CellsTell g i (e ∷ es) = EntryTells i (entry_of g e) ⊎ CellsTell g i es

-- a block tells identity i: as a slot's own or its parent's, a body's owner's, or the child's of an entry
abbrev pub Tells : Geometry → Content → ℕ → Type 0
Tells g blank i = ⊥
Tells g (cover c) i = ⊥
Tells g (slotted r) i = (i ≡ r.identity) ⊎ (i ≡ r.parent.identity.0)
Tells g (file_body b x) i = i ≡ b.owner.identity.0
Tells g (folder_body b es) i = (i ≡ b.owner.identity.0) ⊎ CellsTell g i es
Tells g ill_formed i = ⊥
