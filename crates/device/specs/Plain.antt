-- What a card over plain bytes means: the whole blocks of an image, at most 4096, each settled as it is written.
use Rattle.std.specs.Prelude.{ℕ, ◌*◌, ◌/◌, min, true, cond, List, [], ◌∷◌, ◌++◌, length, take, drop, Ok, Err, Result, nat_lt, refl}
use Rattle.std.proofs.Common.{inl}
use Rattle.device.specs.Model.{Model, Block, In}
use Rattle.base.specs.declared.number.BlockNo.{BlockNo}
use Rattle.device.specs.declared.fault.Fault.{Fault}
use Rattle.device.specs.declared.fault.Fault.TheVariants.{NoSuchBlock}

abbrev pub blocks_in : List ℕ → ℕ
blocks_in image = min (length image / 512) 4096

abbrev pub block : List ℕ → ℕ → Block
block image b = take 512 (drop (512 * b) image)

-- the image with c in the place of block b
abbrev pub stored : List ℕ → ℕ → Block → List ℕ
stored image b c = take (512 * b) image ++ (c ++ drop 512 (drop (512 * b) image))

-- nothing but what is shown may stand
pub only_one : (x : Block) → In x (x ∷ [])
unfolding In
only_one x = inl refl

abbrev pub plain : List ℕ → Model
plain image = record {
  count = blocks_in image;
  power = true;
  shown = block image;
  may = λ b. block image b ∷ [];
  among = λ b. only_one (block image b);
}

-- exactly what the plain card answers, and the image after a write
abbrev pub plain_read : List ℕ → BlockNo → Result Block Fault
plain_read image b = cond (nat_lt b.0 (blocks_in image)) (Ok (block image b.0)) (Err (NoSuchBlock b))

abbrev pub plain_write : {U : Type 0} → U → List ℕ → BlockNo → Result U Fault
plain_write u image b = cond (nat_lt b.0 (blocks_in image)) (Ok u) (Err (NoSuchBlock b))

abbrev pub plain_after : List ℕ → BlockNo → Block → List ℕ
plain_after image b c = cond (nat_lt b.0 (blocks_in image)) (stored image b.0 c) image
