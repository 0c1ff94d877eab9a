-- The table of refusals: the number, layer and place of each.
use Rattle.std.specs.Prelude.{ℕ}
use Rattle.base.specs.declared.refusal.Layer.{Layer}
use Rattle.base.specs.declared.refusal.Layer.TheVariants.{Device, Card, File}
use Rattle.base.specs.declared.refusal.Refusal.{Refusal}
use Rattle.base.specs.declared.refusal.Refusal.TheVariants.{PowerGone, SyncUnsure, BadCard, SmallDevice, NoSuchHandle, WrongKind, NoSuchLeaf, LeafNotGood, NoSuchName, NameTaken, BadName, BadLength, NoFreeBody, NoFreeSlot, FolderFull, IdentitiesSpent, FolderNotEmpty, BadLimits, NoSuchBlock}

pub record Row : Type 0 where
  pub number : ℕ
  pub layer : Layer
  pub place : ℕ

abbrev row : ℕ → Layer → ℕ → Row
row n l p = record { number = n; layer = l; place = p }

abbrev pub table : Refusal → Row
table (PowerGone b) = row 1 Device b.0
table SyncUnsure = row 2 Device 65535
table (BadCard b) = row 3 Card b.0
table (SmallDevice n) = row 4 Card n
table (NoSuchHandle s) = row 5 File s.0
table (WrongKind s) = row 6 File s.0
table (NoSuchLeaf k) = row 7 File k.0
table (LeafNotGood b) = row 8 File b.0
table (NoSuchName s) = row 9 File s.0
table (NameTaken s) = row 10 File s.0
table (BadName n) = row 11 File n
table (BadLength n) = row 12 File n
table (NoFreeBody s) = row 13 File s.0
table (NoFreeSlot n) = row 14 Card n
table (FolderFull s) = row 15 File s.0
table IdentitiesSpent = row 16 Card 0
table (FolderNotEmpty s) = row 17 File s.0
table (BadLimits n) = row 18 Card n
table (NoSuchBlock b) = row 19 Device b.0

abbrev pub number_of : Refusal → ℕ
number_of r = (table r).number

abbrev pub layer_of : Refusal → Layer
layer_of r = (table r).layer

abbrev pub place_of : Refusal → ℕ
place_of r = (table r).place
