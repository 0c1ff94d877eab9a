-- What a device of 512-byte blocks means: how many blocks, whether power is on, what each block shows,
-- and the contents of which each block may show one after a power cut (its crash states).
use Rattle.std.specs.Prelude.{◌≡◌, ℕ, ◌<◌, Bool, true, false, cond, ◌⊎◌, List, [], ◌∷◌, ◌==◌}

-- the bytes of a block
abbrev pub Block : Type 0
Block = List ℕ

-- x is one of xs
unfoldable pub In : {A : Type 0} → A → List A → Type 0
In x [] = ⊥
In x (y ∷ ys) = (x ≡ y) ⊎ In x ys

pub record Model : Type 0 where
  pub count : ℕ
  pub power : Bool
  pub shown : ℕ → Block
  -- the contents that may stand after a cut
  pub may : ℕ → List Block
  -- the shown content is always among them
  pub among : (b : ℕ) → In (shown b) (may b)

-- x may stand at block b
abbrev pub Stands : Model → ℕ → Block → Type 0
Stands m b x = In x (m.may b)

-- nothing but what is shown may stand
abbrev pub OnlyShown : Model → Type 0
OnlyShown m = (b : ℕ) (x : Block) → Stands m b x → x ≡ m.shown b

-- what is shown once block b shows x
abbrev pub put : (ℕ → Block) → ℕ → Block → ℕ → Block
put f b x i = cond (i == b) x (f i)

-- x is c, and block i is block b
abbrev pub Is : ℕ → Block → ℕ → Block → Type 0
Is b c i x = (i ≡ b) × (x ≡ c)

-- nothing changed, but that contents may have been dropped from those that may stand
pub record Kept (m n : Model) : Type 0 where
  pub count : n.count ≡ m.count
  pub shown : n.shown ≡ m.shown
  pub stands : (i : ℕ) (x : Block) → Stands n i x → Stands m i x

-- a call with the power on before and after, that changed nothing
pub record Stayed (m n : Model) : Type 0 where
  pub kept : Kept m n
  pub was_on : m.power ≡ true
  pub on : n.power ≡ true

-- a call that met power gone and changed nothing
pub record Lost (m n : Model) : Type 0 where
  pub kept : Kept m n
  pub off : n.power ≡ false

-- an accepted write of c to block b
pub record Written (b : ℕ) (c : Block) (m n : Model) : Type 0 where
  pub count : n.count ≡ m.count
  pub was_on : m.power ≡ true
  pub on : n.power ≡ true
  pub within : b < m.count
  pub shown : n.shown ≡ put m.shown b c
  pub stands : (i : ℕ) (x : Block) → Stands n i x → Stands m i x ⊎ Is b c i x

-- a write of c to block b that met power gone and may have got through: c may stand, and may be shown
pub record Torn (b : ℕ) (c : Block) (m n : Model) : Type 0 where
  pub count : n.count ≡ m.count
  pub off : n.power ≡ false
  pub within : b < m.count
  pub shown : (n.shown ≡ m.shown) ⊎ (n.shown ≡ put m.shown b c)
  pub stands : (i : ℕ) (x : Block) → Stands n i x → Stands m i x ⊎ Is b c i x

-- a settled sync (a flush): only what is shown may stand, in every block
pub record Settled (m n : Model) : Type 0 where
  pub stayed : Stayed m n
  pub only : OnlyShown n

-- n is the device as it is found at the next power-on, after m's power was cut:
-- each block, taken alone, shows one whole content that could stand there, and nothing else may stand
pub record Cut (m n : Model) : Type 0 where
  pub count : n.count ≡ m.count
  pub on : n.power ≡ true
  pub landed : (i : ℕ) → Stands m i (n.shown i)
  pub only : OnlyShown n
