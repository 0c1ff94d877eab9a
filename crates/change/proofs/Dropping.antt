-- The marks of leaves taken back, one more at a time.
use Rattle.std.proofs.Common.{◌≡◌, ℕ, suc, ◌+◌, ◌-◌, ◌<◌, ◌≤◌, sym, ap, ◌∙◌, add-one, arith}
use Rattle.base.specs.declared.owner.Handle.{Handle}
use Rattle.layout.specs.Format.{Slot, back}
use Rattle.marks.specs.Marks.{released, without}
use Rattle.marks.specs.declared.mark.Marks.{Marks}
use Rattle.rule.specs.Agree.{from, number}

module _ (ms : Marks) (h : Handle) (r : Slot) (k c : ℕ) where
  pub one_released : k < c → without ms h r (from k (c - k)) ≡ without (released ms (number r k) (back h k)) h r (from (k + 1) (c - (k + 1)))
  one_released l =
      let m : c - k ≡ suc (c - (k + 1)) = omega arith in
      ap (λ (m : ℕ). without ms h r (from k m)) m ∙ ap (λ (j : ℕ). without (released ms (number r k) (back h k)) h r (from j (c - (k + 1)))) (sym (add-one k))

  pub all_released : c ≤ k → without ms h r (from k (c - k)) ≡ ms
  all_released l = let m : c - k ≡ 0 = omega arith in ap (λ (m : ℕ). without ms h r (from k m)) m
