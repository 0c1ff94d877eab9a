-- A leaf that was written reads back.
use Rattle.std.proofs.Common.{◌≡◌, ℕ, suc, ◌<◌, List, sym, ap, ◌∙◌, subst, inl, inr, arith}
use Rattle.base.specs.declared.owner.Handle.{Handle}
use Rattle.device.specs.Effect.{puts}
use Rattle.layout.specs.Format.{Geometry, Slot, back, slotted, file_body}
use Rattle.rule.specs.Agree.{Shown, View, seen, count, number}
use Rattle.rule.specs.Calls.{Writes, Replaces, Appends}
use Rattle.rule.specs.Card.{Card, Plan}
use Rattle.rule.specs.Changing.{grown}
use Rattle.rule.specs.Readings.{Reads}
use Rattle.rule.proofs.Answered.{read_means}
use Rattle.moves.specs.Tied.{Tied}
use Rattle.moves.specs.Written.{WrittenReadsBack}
use Rattle.moves.proofs.Views.{upd, upd_here, upd_else}
use Rattle.moves.proofs.Lands.{leaf_block}
use Rattle.moves.proofs.Stays.{writes}
use Rattle.history.proofs.Puts.{grown_count}
use Rattle.moves.proofs.Gained.{grown_last}
use Rattle.moves.proofs.Joins.{replaced_seen, appended_seen}

module _ (g : Geometry) (c : Card) (shown : Shown) (tied : Tied g c shown) (h : Handle) (k : ℕ) (x : List ℕ) (p : Plan (Unit {0})) (w : Writes g (seen g shown) c h k x p) where
  abbrev v : View
  v = seen g shown

  abbrev r : Slot
  r = w.slot

  -- the slot stands apart from the bodies
  slot_apart : (b : ℕ) → g.slots < b → suc h.slot.0 ≡ b → ⊥
  slot_apart b l e = let i = w.standing.fits.inside in omega (arith, l, e, i)

  replaced : Replaces v c h r k x p → Reads g (seen g (puts shown p.puts)) h k x
  replaced q = subst (λ (u : View). Reads g u h k x) (sym (replaced_seen g c shown tied h k x p w q)) (record {
    slot = r;
    fits = record { inside = w.standing.fits.inside; holds = upd_else v (number r k) _ (suc h.slot.0) (slot_apart (number r k) (leaf_block g c shown tied h r k w.standing.fits q.below).0) ∙ w.standing.fits.holds; same = w.standing.fits.same };
    kind = w.standing.kind;
    below = q.below;
    body = upd_here v (number r k) (file_body (back h k) x);
  })

  appended : Appends g v c h r k x p → Reads g (seen g (puts shown p.puts)) h k x
  appended q = subst (λ (u : View). Reads g u h k x) (sym (appended_seen g c shown tied h k x p w q)) (record {
    slot = grown r q.block;
    fits = record { inside = w.standing.fits.inside; holds = upd_here body_view (suc h.slot.0) (slotted (grown r q.block)); same = w.standing.fits.same };
    kind = w.standing.kind;
    below = (let n = grown_count r q.block in let l = q.last in omega arith);
    body = ap (upd body_view (suc h.slot.0) (slotted (grown r q.block))) at
        ∙ upd_else body_view (suc h.slot.0) (slotted (grown r q.block)) q.block (λ e. slot_apart q.block q.free.above (sym e))
        ∙ upd_here v q.block (file_body (back h (count r)) x) ∙ ap (λ (i : ℕ). file_body (back h i) x) (sym q.last);
  })
    where
      body_view : View
      body_view = upd v q.block (file_body (back h (count r)) x)

      at : number (grown r q.block) k ≡ q.block
      at = ap (number (grown r q.block)) q.last ∙ grown_last r q.block

  pub reads_back : Reads g (seen g (puts shown p.puts)) h k x
  reads_back = elim w.blocks [ inl q ↦ replaced q | inr q ↦ appended q ]

pub written_reads_back : WrittenReadsBack
written_reads_back g c shown h k x p tied e room l =
    (read_means h k room g (puts shown p.puts) x).1 (l, reads_back g c shown tied h k x p (writes g c shown tied h k x p e))
