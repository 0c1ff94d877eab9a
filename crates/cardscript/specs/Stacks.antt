-- The devices over an image as one device.
use Rattle.std.specs.Prelude.{◌≡◌, ℕ, false, ⊤, List, Some}
use Rattle.device.specs.Model.{Model}
use Rattle.device.specs.Plain.{plain}
use Rattle.device.specs.Failing.{failing}
use Rattle.buffered.specs.Buffered.{buffered, Empty}
use Rattle.buffered.specs.Card.{on}
use Rattle.script.specs.declared.command.Layers.{Layers}
use Rattle.script.specs.declared.command.Layers.TheVariants.{Plain as PlainLayers, Buffered as BufferedLayers, Failing as FailingLayers, BufferedFailing as BufferedFailingLayers, FailingBuffered as FailingBufferedLayers}
use Rattle.cardscript.specs.declared.stack.Stack.{Stack}
use Rattle.cardscript.specs.declared.stack.Stack.TheVariants.{Plain, Buffered, Failing, BufferedFailing, FailingBuffered}

-- they mean what the outermost means
abbrev pub stacked : Stack → Model
stacked (Plain c) = plain c.image.now
stacked (Buffered c) = buffered (on c)
stacked (Failing c) = failing c.left (plain c.below.image.now)
stacked (BufferedFailing c) = buffered (on c)
stacked (FailingBuffered c) = failing c.left (buffered (on c.below))

-- what lies below them
abbrev pub below_all : Stack → List ℕ
below_all (Plain c) = c.image.now
below_all (Buffered c) = c.below.image.now
below_all (Failing c) = c.below.image.now
below_all (BufferedFailing c) = c.below.below.image.now
below_all (FailingBuffered c) = c.below.below.image.now

-- they are the layers asked for as they are at power-on: nothing waits, and each write is still to pass
abbrev pub Fresh : Layers → Stack → Type 0
Fresh PlainLayers (Plain c) = ⊤
Fresh BufferedLayers (Buffered c) = Empty c.table × (c.gone ≡ false)
Fresh (FailingLayers k) (Failing c) = c.left ≡ Some k
Fresh (BufferedFailingLayers k) (BufferedFailing c) = Empty c.table × (c.gone ≡ false) × (c.below.left ≡ Some k)
Fresh (FailingBufferedLayers k) (FailingBuffered c) = (c.left ≡ Some k) × Empty c.below.table × (c.below.gone ≡ false)
Fresh _ _ = ⊥
