-- The effect of writing several blocks as one.
use Rattle.std.specs.Prelude.{◌≡◌, ℕ, Bool, false, cond, ◌⊎◌, List, [], ◌∷◌, Some, None, Option, Result, MatchResult, nat_lt}
use Rattle.device.specs.Model.{Model, Block, Stands, Cut, put, Is}
use Rattle.base.specs.declared.number.BlockNo.{BlockNo}
use Rattle.device.specs.declared.put.Put.{Put}
use Rattle.device.specs.declared.fault.Fault.{Fault}
use Rattle.device.specs.declared.fault.Fault.TheVariants.{PowerGone, NoSuchBlock}

-- what is shown after the puts, one after another
abbrev pub puts : (ℕ → Block) → List Put → ℕ → Block
puts f [] = f
puts f (w ∷ ws) = puts (put f w.block.0 w.bytes) ws

-- x is what one of the puts has for block b
abbrev pub PutAt : ℕ → Block → List Put → Type 0
PutAt b x [] = ⊥
PutAt b x (w ∷ ws) = Is w.block.0 w.bytes b x ⊎ PutAt b x ws

-- how a call that writes ended: it was accepted, or power gone broke it off
pub data Outcome : Type 0 where
  accepted : Outcome
  broken : Outcome

-- accepted, every put shows; broken off, each block shows what it did or one of the puts
abbrev pub Shows : Outcome → List Put → (ℕ → Block) → (ℕ → Block) → Type 0
Shows accepted ws f h = h ≡ puts f ws
Shows broken ws f h = (b : ℕ) → (h b ≡ f b) ⊎ PutAt b (h b) ws

abbrev pub Power : Outcome → Bool → Bool → Type 0
Power accepted p q = q ≡ p
Power broken p q = q ≡ false

-- the puts ws were made on m, which left n: nothing but a put joins what may stand
pub record Altered (o : Outcome) (ws : List Put) (m n : Model) : Type 0 where
  pub count : n.count ≡ m.count
  pub power : Power o m.power n.power
  pub shows : Shows o ws m.shown n.shown
  pub joined : (b : ℕ) (x : Block) → Stands n b x → Stands m b x ⊎ PutAt b x ws

-- the first put whose block is not below the count
unfoldable pub first_outside : ℕ → List Put → Option BlockNo
first_outside count [] = None
first_outside count (w ∷ ws) = cond (nat_lt w.block.0 count) (first_outside count ws) (Some w.block)

-- power gone broke it off at a block that was to be written
abbrev pub Named : BlockNo → List Put → Type 0
Named b [] = ⊥
Named b (w ∷ ws) = (b ≡ w.block) ⊎ Named b ws

-- all were written; or power gone broke it off; or a block is past the end, and nothing was asked of the device
abbrev pub WriteAllFault : List Put → Model → Model → Fault → Type 0
WriteAllFault ws m n (PowerGone b) = Named b ws × (first_outside m.count ws ≡ None) × Altered broken ws m n
WriteAllFault ws m n (NoSuchBlock b) = (first_outside m.count ws ≡ Some b) × (n ≡ m)

abbrev pub WriteAll : {U : Type 0} → List Put → Result U Fault → Model → Model → Type 0
WriteAll ws r m n = MatchResult r (λ _. (first_outside m.count ws ≡ None) × Altered accepted ws m n) (WriteAllFault ws m n)

-- whatever a cut leaves: each block shows what could stand there before the puts, or one of them
abbrev pub CutLeaves : List Put → Model → Model → Type 0
CutLeaves ws m n = (z : Model) → Cut n z → (b : ℕ) → Stands m b (z.shown b) ⊎ PutAt b (z.shown b) ws
