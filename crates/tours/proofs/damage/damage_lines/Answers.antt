use Rattle.std.proofs.Common.{◌+◌, ◌*◌, ◌≡◌, length, ◌∙◌, rules, arith}
use Rattle.std.proofs.lemmas.List.{length_push}
use Rattle.layout.specs.Sizes.{sizes}
use Rattle.rule.specs.Agree.{Shown, seen}
use Rattle.walk.proofs.Stills.{still_then}
use Rattle.tours.specs.Damage.{slot_rows}
use Rattle.tours.proofs.Adding.{adds_is, adds_more}
use Rattle.tours.proofs.Damages.{marked_more, unmarked_more, next_mark}
use Rattle.tours.proofs.damage.damage_lines.Goals as goal

pub loop-s-preserved-in-Continue-1 : goal.loop-s-preserved-in-Continue-1
loop-s-preserved-in-Continue-1 g c =
    let z = sizes c.args.g.now in
    let m = g.D.Device.model c.args.device.now in
    let k = g.D.Device.model c.loop-s.device in
    let n = length c.loop-s.yielded in
    let marks = c.args.marks.now in
    let v = c.loop-s.invariant in
    let s = c.in-Some.ensures.steps in
    let at : c.in-Some.s ≡ n = s.0.1.1 ∙ v.start in
    let mark = next_mark marks _ _ n _ v.second s.1 in
    let e = c.in_ok-check_slot.ensures in
    rw length_push
    (record {
      still = still_then m k _ v.still e.added.0;
      adds = adds_more (λ (sh : Shown). slot_rows z (seen z sh) c.in-Some.s) m k (65535 * n) 65535 _ _ _ _ _ _ _ _ _ v.still (omega arith)
          (rw at (marked_more z (seen z m.shown) marks n (search rules))) v.adds e.added.1;
      same = e.same ∙ v.same;
      second = mark.1;
      start = omega (arith, s.0.1.2, v.start);
      end = s.0.0 ∙ v.end;
      low = omega (arith, s.0.1.0, v.start, v.end);
    })

pub loop-s-preserved : goal.loop-s-preserved
loop-s-preserved g c =
    let z = sizes c.args.g.now in
    let m = g.D.Device.model c.args.device.now in
    let n = length c.loop-s.yielded in
    let marks = c.args.marks.now in
    let v = c.loop-s.invariant in
    let s = c.in-Some.ensures.steps in
    let mark = next_mark marks _ _ n _ v.second s.1 in
    rw length_push
    (record {
      still = v.still;
      adds = adds_is (65535 * n) (65535 * (n + 1)) _ _ _ _ _ _ (omega arith) (unmarked_more z (seen z m.shown) marks n (search rules)) v.adds;
      same = v.same;
      second = mark.1;
      start = omega (arith, s.0.1.2, v.start);
      end = s.0.0 ∙ v.end;
      low = omega (arith, s.0.1.0, v.start, v.end);
    })
