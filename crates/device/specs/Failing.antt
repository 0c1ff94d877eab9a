-- What a card that fails on purpose means: the device below, with the power off once it is gone. `left` is how many more
-- writes are passed on, or None once the power is gone.
use Rattle.std.specs.Prelude.{◌≡◌, ℕ, ◌+◌, Bool, true, false, cond, is_none, is_ok, Some, None, Err, Option, Result, ◌==◌}
use Rattle.device.specs.Model.{Model}
use Rattle.base.specs.declared.number.BlockNo.{BlockNo}
use Rattle.device.specs.declared.failing.Failing.{Failing}
use Rattle.device.specs.declared.fault.Fault.{Fault}
use Rattle.device.specs.declared.fault.Fault.TheVariants.{PowerGone}

abbrev pub failing : Option ℕ → Model → Model
failing left m = record {
  count = m.count;
  power = cond (is_none left) false m.power;
  shown = m.shown;
  may = m.may;
  among = m.among;
}

-- no further write is passed on
abbrev pub spent : Option ℕ → Bool
spent None = true
spent (Some n) = n == 0

-- with one write more
abbrev pub one_more : Option ℕ → Option ℕ
one_more None = None
one_more (Some n) = Some (n + 1)

-- power is gone: nothing is asked of the device below, and the card stays as it is
pub record Refuses {A D : Type 0} (at : BlockNo) (r : Result A Fault) (f h : Failing D) : Type 0 where
  pub answer : r ≡ Err (PowerGone at)
  pub same : h ≡ f

-- the write that takes the power, and each one after: nothing is asked of the device below
pub record Fails {A D : Type 0} (at : BlockNo) (r : Result A Fault) (f h : Failing D) : Type 0 where
  pub answer : r ≡ Err (PowerGone at)
  pub gone : h.left ≡ None
  pub below : h.below ≡ f.below

-- the call is passed on, with the answer that the device below gave
pub record Passes {D : Type 0} (f h : Failing D) (answer : Type 0) : Type 0 where
  pub below : answer
  pub left : h.left ≡ f.left

-- a write that is passed on: an accepted one is counted
pub record PassesWrite {A D : Type 0} (r : Result A Fault) (f h : Failing D) (answer : Type 0) : Type 0 where
  pub below : answer
  pub left : f.left ≡ cond (is_ok r) (one_more h.left) h.left
