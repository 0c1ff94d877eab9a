-- What holds of every content that may stand, at every point of a history.
use Rattle.std.proofs.Common.{◌≡◌, ℕ, zero, suc, ◌<◌, ◌≤◌, true, false, ◌⊎◌, List, [], ◌∷◌, length, get_or, set, replicate, Ok, sym, refl, ap, ◌∙◌, inl, inr, arith}
use Rattle.base.specs.declared.owner.Kind.TheVariants.{Folder}
use Rattle.base.specs.declared.owner.Handle.{Handle}
use Rattle.base.specs.declared.owner.Back.{Back}
use Rattle.device.specs.Model.{Model, Block, Stands, OnlyShown}
use Rattle.layout.specs.Format.{Name, Cell, Geometry, Slot, Content, blank, cover, slotted, file_body, folder_body, ill_formed, Entry, entry, no_entry, blank_cell, in_limits, cover_of, parse, entry_of}
use Rattle.layout.specs.Identities.{entry_told, highest_in, told}
use Rattle.rule.specs.Agree.{View, seen, root}
use Rattle.rule.specs.Changing.{last_identity}
use Rattle.rule.specs.Readings.{InRange}
use Rattle.history.specs.Events.{Phase, closed, opened, surveyed, State}
use Rattle.history.specs.History.{Moment, gives}
use Rattle.history.proofs.Parsed.{blank_entry, past_entry, no_such_entry}
use Rattle.history.proofs.Log.{did, Wrote, MadeIn}

-- y may stand at block b
abbrev pub May : Geometry → Model → ℕ → Content → Type 0
May g m b y = (z : Block) × Stands m b z × (parse g b z ≡ y)

-- what is shown
abbrev pub view : Geometry → Model → View
view g m = seen g m.shown

pub may_shown : (g : Geometry) (m : Model) (b : ℕ) (y : Content) → view g m b ≡ y → May g m b y
may_shown g m b y e = (m.shown b, m.among b, e)

pub only_may : (g : Geometry) (m : Model) → OnlyShown m → (b : ℕ) (y : Content) → May g m b y → y ≡ view g m b
only_may g m o b y i = sym i.2 ∙ ap (parse g b) (o b i.0 i.1)

pub may_fewer : (g : Geometry) (m n : Model) → ((b : ℕ) (z : Block) → Stands n b z → Stands m b z) → (b : ℕ) (y : Content) → May g n b y → May g m b y
may_fewer g m n f b y i = (i.0, f b i.0 i.1, i.2)

-- ---- identities

pub told_own : (g : Geometry) (r : Slot) → r.identity ≤ told g (slotted r)
told_own g r = omega arith

pub told_parent : (g : Geometry) (r : Slot) → r.parent.identity.0 ≤ told g (slotted r)
told_parent g r = omega arith

pub told_owner : (g : Geometry) (b : Back) (es : List Cell) → b.owner.identity.0 ≤ told g (folder_body b es)
told_owner g b es = omega arith

pub entry_tells : (e : Entry) (n : Name) (c : Handle) → e ≡ entry n c → entry_told e ≡ c.identity.0
entry_tells e n c p = ap entry_told p

highest_at : (g : Geometry) (es : List Cell) (q : ℕ) (n : Name) (c : Handle) → entry_of g (get_or es q []) ≡ entry n c → c.identity.0 ≤ highest_in g es
unfolding highest_in
highest_at g [] q n c e = no_such_entry (past_entry g) e
highest_at g (x ∷ es) zero n c e = let z = entry_tells (entry_of g x) n c e in omega arith
highest_at g (x ∷ es) (suc q) n c e = let z = highest_at g es q n c e in omega arith

pub told_entry : (g : Geometry) (b : Back) (es : List Cell) (q : ℕ) (n : Name) (c : Handle) → entry_of g (get_or es q []) ≡ entry n c → c.identity.0 ≤ told g (folder_body b es)
told_entry g b es q n c e = let z = highest_at g es q n c e in omega arith

pub highest_set : (g : Geometry) (es : List Cell) (p : ℕ) (e : Cell) (top : ℕ) → entry_told (entry_of g e) ≤ top → highest_in g es ≤ top → highest_in g (set es p e) ≤ top
unfolding highest_in
highest_set g [] p e top a b = b
highest_set g (x ∷ es) zero e top a b = omega arith
highest_set g (x ∷ es) (suc p) e top a b = let z = highest_set g es p e top a (omega arith) in omega arith

highest_blank : (g : Geometry) (n : ℕ) → highest_in g (replicate n blank_cell) ≡ 0
unfolding highest_in
highest_blank g zero = refl
highest_blank g (suc n) = let a = highest_blank g n in let b = ap entry_told (blank_entry g) in omega arith

-- one entry, and no other
pub highest_new : (g : Geometry) (e : Cell) (n top : ℕ) → entry_told (entry_of g e) ≤ top → highest_in g (e ∷ replicate n blank_cell) ≤ top
unfolding highest_in
highest_new g e n top l = let a = highest_blank g n in omega arith

-- what a set leaves at a place
pub set_cases : (es : List Cell) (p q : ℕ) (e : Cell) → ((p ≡ q) × (get_or (set es p e) q [] ≡ e)) ⊎ (get_or (set es p e) q [] ≡ get_or es q [])
set_cases [] p q e = inr refl
set_cases (x ∷ es) zero zero e = inl (refl, refl)
set_cases (x ∷ es) zero (suc q) e = inr refl
set_cases (x ∷ es) (suc p) zero e = inr refl
set_cases (x ∷ es) (suc p) (suc q) e = elim (set_cases es p q e) [ inl w ↦ inl (ap suc w.0, w.1) | inr w ↦ inr w ]

pub blank_at : (g : Geometry) (n q : ℕ) → entry_of g (get_or (replicate n blank_cell) q []) ≡ no_entry
blank_at g zero q = past_entry g
blank_at g (suc n) zero = blank_entry g
blank_at g (suc n) (suc q) = blank_at g n q

-- ---- the invariant

-- what the log says of a content
abbrev pub Logged : Geometry → State → List Moment → Content → Type 0
Logged g s ms (file_body b x) = Wrote s ms b.owner b.leaf.0 x
Logged g s ms (folder_body b es) = (q : ℕ) (n : Name) (c : Handle) → entry_of g (get_or es q []) ≡ entry n c → MadeIn s ms c b.owner n
Logged g s ms (slotted r) = Unit {0}
Logged g s ms blank = Unit {0}
Logged g s ms (cover h) = Unit {0}
Logged g s ms ill_formed = Unit {0}

-- a moment that gives no handle which the content tells leaves what is logged of it
pub logged_more : (g : Geometry) (s : State) (m : Moment) (ms : List Moment) (y : Content) →
    ((h : Handle) → h.identity.0 ≤ told g y → gives (did s m ms) h ≡ false) → Logged g s ms y → Logged g s (m ∷ ms) y
logged_more g s m ms (file_body b x) ng l = inr (ng b.owner (omega arith), l)
logged_more g s m ms (folder_body b es) ng l = λ q n c e. inr (ng c (told_entry g b es q n c e), ng b.owner (told_owner g b es), l q n c e)
logged_more g s m ms (slotted r) ng l = tt
logged_more g s m ms blank ng l = tt
logged_more g s m ms (cover h) ng l = tt
logged_more g s m ms ill_formed ng l = tt

-- what is known of a card that is closed, opened or surveyed
abbrev pub Carded : Geometry → Model → Phase → Type 0
Carded g m closed = OnlyShown m
Carded g m (opened o) = OnlyShown m × ((h : Geometry) → o.ready ≡ Ok h → (h ≡ g) × (o.highest ≤ last_identity) × ((b : ℕ) → 0 < b → b < o.next → told g (view g m b) ≤ o.highest))
Carded g m (surveyed c) = (h : Geometry) → c.ready ≡ Ok h → (h ≡ g) × (c.highest ≤ last_identity) × ((b : ℕ) (y : Content) → May g m b y → told g y ≤ c.highest) × InRange g c

pub record Limits (g : Geometry) : Type 0 where
  pub low : 2 ≤ g.slots
  pub thin : g.slots ≤ 256
  pub bodies : suc (suc g.slots) ≤ g.blocks
  pub small : g.blocks ≤ 4096
  pub within : in_limits g.blocks g.slots ≡ true

-- a folder of identity 1 whose parent is itself
pub record RootSlot (r : Slot) : Type 0 where
  pub own : r.identity ≡ 1
  pub kind : r.kind ≡ Folder
  pub parent : r.parent ≡ root

pub record Inv (g : Geometry) (s : State) (ms : List Moment) (t : State) : Type 0 where
  pub limits : Limits g
  pub room : g.blocks ≤ t.device.count
  pub cover : (z : Block) → Stands t.device 0 z → cover_of z ≡ cover g
  pub root : (y : Content) → May g t.device 1 y → (r : Slot) × (y ≡ slotted r) × RootSlot r
  pub whole : (b : ℕ) (z : Block) → b < g.blocks → Stands t.device b z → length z ≡ 512
  pub narrow : (b : ℕ) (y : Content) → May g t.device b y → told g y ≤ last_identity
  pub logged : (b : ℕ) (y : Content) → May g t.device b y → Logged g s ms y
  pub card : Carded g t.device t.card
