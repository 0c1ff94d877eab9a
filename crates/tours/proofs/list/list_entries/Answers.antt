use Rattle.std.proofs.Common.{◌≡◌, ℕ, ◌*◌, ◌^◌, ◌<◌, ◌∙◌, List, sym, ap, subst, arith, rules}
use Rattle.base.specs.declared.owner.Kind.TheVariants.{File}
use Rattle.layout.specs.Sizes.{sizes}
use Rattle.layout.proofs.Numbers.{length_numbers}
use Rattle.rule.specs.Agree.{Shown, seen, Place, places_over, from, count}
use Rattle.walk.specs.Copies.{copied}
use Rattle.walk.proofs.Stills.{still, still_then}
use Rattle.listing.specs.Lines.{Sofar}
use Rattle.listing.proofs.Listing.{none_yet}
use Rattle.walk.specs.Finding.{leaf_places}
use Rattle.tours.specs.Lists.{entry_rows}
use Rattle.tours.proofs.Adding.{adds_more, adds_all, listed_to}
use Rattle.tours.proofs.Rows.{leaves_more, file_none}
use Rattle.tours.proofs.list.list_entries.Goals as goal

pub returns-then-eq : goal.returns-then-eq
returns-then-eq g c =
    let file : c.args.folder.now.slot.kind ≡ File = search rules in
    let z = sizes c.args.g.now in
    let v = seen z (g.D.Device.model c.args.device.now).shown in
    let r = copied c.args.folder.now.slot in
    let f = c.args.folder.now.handle in
    let lines = c.args.lines.now in
    (still _, subst (λ (qs : List Place). Sofar lines (entry_rows z v f qs) 0 lines) (sym (file_none z v f r file (from 0 (count r)))) (none_yet lines))

pub loop-k-preserved : goal.loop-k-preserved
loop-k-preserved g c =
    let z = sizes c.args.g.now in
    let m = g.D.Device.model c.args.device.now in
    let k = g.D.Device.model c.loop-k.device in
    let r = copied c.args.folder.now.slot in
    let f = c.args.folder.now.handle in
    let v = c.loop-k.invariant in
    let e = c.in_ok-list_leaf.ensures in
    record {
      still = still_then m k _ v.still e.added.0;
      adds = adds_more (λ (sh : Shown). entry_rows z (seen z sh) f (leaf_places (seen z sh) f r c.loop-k.k)) m k (15 * c.loop-k.k) 15 _ _ _ _ _ _ _ _ _ v.still (omega arith)
          (leaves_more z (seen z m.shown) f r c.loop-k.k) v.adds e.added.1;
      same = e.same ∙ v.same;
    }

pub returns : goal.returns
returns g c =
    let z = sizes c.args.g.now in
    let w = seen z (g.D.Device.model c.args.device.now).shown in
    let r = copied c.args.folder.now.slot in
    let f = c.args.folder.now.handle in
    let v = c.loop-k.invariant in
    let all : c.loop-k.k ≡ count r = omega (arith, length_numbers c.args.folder.now.slot.count c.args.folder.now.slot.numbers) in
    let few : 15 * c.loop-k.k < 2 ^ 64 = omega arith in
    let begun = c.over-list.ensures.lines in (
      v.still,
      listed_to _ _ (entry_rows z w f (places_over w f r (from 0 c.loop-k.k))) _ c.loop-k.list.count _ c.loop-k.list.lines.now _ begun (ap (λ (n : ℕ). entry_rows z w f (places_over w f r (from 0 n))) all) c.count.ensures (search rules)
          (adds_all (15 * c.loop-k.k) _ _ _ _ few v.adds),
    )
