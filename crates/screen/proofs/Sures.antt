-- A card on an image that is only looked at never meets power gone.
use Rattle.std.proofs.Common.{◌≡◌, ℕ, List, None, Option, Result, sym, ap, ◌∙◌, inl, inr}
use Rattle.base.specs.declared.number.BlockNo.{BlockNo}
use Rattle.device.specs.Model.{Model, Block, OnlyShown, Kept}
use Rattle.device.specs.Plain.{block, blocks_in}
use Rattle.device.specs.declared.put.Put.{Put}
use Rattle.rule.specs.Agree.{Shown}
use Rattle.rule.specs.Card.{Ready, Opened, opening}
use Rattle.history.specs.Events.{Opens, Reads, closed, opened}
use Rattle.screen.specs.Image.{differs, looked_at}
use Rattle.screen.proofs.Images.{on_only, never_lost}

-- the card o is that of the image, which is shown, and nothing else may stand
pub record Sure (image : List ℕ) (o : Opened) (m : Model) : Type 0 where
  pub ready : o.ready ≡ opening (blocks_in image) (block image)
  pub only : OnlyShown m
  pub shown : m.shown ≡ block image

kept_only : (m n : Model) → Kept m n → OnlyShown m → OnlyShown n
kept_only m n k only i x s = only i x (k.stands i x s) ∙ sym (ap (λ (f : ℕ → Block). f i) k.shown)

same_opened : {o q : Opened} → opened q ≡ opened o → q ≡ o
same_opened e = cc

module _ (image now : List ℕ) (last : Option Put) (o : Opened) where
  pub opens_sure : (im : List ℕ) (start : Option Put) → im ≡ image → start ≡ None → Opens (record { device = looked_at im start; card = closed }) (record { device = looked_at now last; card = opened o }) → Sure image o (looked_at now last)
  opens_sure im start same none w =
      let only : OnlyShown (looked_at im start) = on_only im start (ap (differs im) none) in
      elim w.turn [
        | inl h ↦ record {
          ready = ap (λ (x : Opened). x.ready) (same_opened h.card) ∙ ap (λ (z : List ℕ). opening (blocks_in z) (block z)) same;
          only = kept_only _ _ h.kept only;
          shown = h.kept.shown ∙ ap block same;
        }
        | inr h ↦ never_lost _ now last only h.1.lost
      ]

  -- what a reading call answers is the rule's
  pub reads_sure : {A E : Type 0} (met : BlockNo → E) (rule : Ready → Shown → Result A E) (q : Opened) (m : Model) (r : Result A E) → Sure image q m →
      Reads met rule (record { device = m; card = opened q }) r (record { device = looked_at now last; card = opened o }) → (r ≡ rule (opening (blocks_in image) (block image)) (block image)) × Sure image o (looked_at now last)
  reads_sure met rule q m r s w =
      elim w.turn [
        | inl h ↦ (
          h.0 ∙ ap (λ (x : Ready). rule x m.shown) (sym w.has ∙ s.ready) ∙ ap (rule (opening (blocks_in image) (block image))) s.shown,
          record { ready = ap (λ (x : Opened). x.ready) (same_opened h.1.card) ∙ s.ready; only = kept_only _ _ h.1.kept s.only; shown = h.1.kept.shown ∙ s.shown },
        )
        | inr h ↦ never_lost m now last s.only h.3.lost
      ]
