use Rattle.std.proofs.Common.{ℕ, ap, ◌∙◌, sym}
use Rattle.std.proofs.lemmas.Result.{err_from_is_err_and}
use Rattle.std.specs.Iterator.Adapters.{enumerate_source, enumerate_count}
use Rattle.layout.specs.Sizes.{sizes}
use Rattle.rule.specs.Reading.{walk}
use Rattle.walk.specs.Copies.{copied}
use Rattle.walk.specs.Paths.{names_left}
use Rattle.walk.specs.Still.{shows}
use Rattle.walk.proofs.Stills.{still_then}
use Rattle.walk.proofs.Paths.{walk_none, walk_in, walk_out, walk_fits, path_refused, path_exit}
use Rattle.walk.proofs.path.walk_from.Goals as goal

pub returns-in_err-found : goal.returns-in_err-found
returns-in_err-found g c =
    let was = (g.D.Device.model c.args.device.now).shown in
    let v = shows c.args.g.now (g.D.Device.model c.args.device.now) in
    let it = c.loop-component.component-iterator in
    let t = c.in-Some.ensures.steps in
    let at = c.loop-component.at in
    let inv = c.loop-component.invariant in
    let so = inv.2 ∙ ap (λ (j : ℕ). walk (sizes c.args.g.now) v j at.handle (names_left (enumerate_source it))) (sym t.1) in
    let p = err_from_is_err_and c.from_residual.result c.from_residual.ensures.1 in
    path_exit c.args.g.now _ _ c.from_residual.result _ _ _ _ p.1 p.2
    (path_refused c.args.g.now _ _ _ _ _ _ inv.0 (walk_out (sizes c.args.g.now) was _ _ _ c.in-Some.component at.handle (copied at.slot) c.in-Some.name.now (names_left (enumerate_source c.next.new.self)) inv.0.kept.shown inv.1 so t.0 _) c.in_err-found.ensures)

pub loop-component-preserved : goal.loop-component-preserved
loop-component-preserved g c =
    let was = (g.D.Device.model c.args.device.now).shown in
    let v = shows c.args.g.now (g.D.Device.model c.args.device.now) in
    let it = c.loop-component.component-iterator in
    let t = c.in-Some.ensures.steps in
    let at = c.loop-component.at in
    let inv = c.loop-component.invariant in
    let e = c.in_ok-found.ensures in (
      still_then _ _ _ inv.0 e.0,
      walk_fits (sizes c.args.g.now) was _ _ _ inv.0.kept.shown e.1,
      walk_in (sizes c.args.g.now) was _ _ _ (enumerate_count it) at.handle (copied at.slot) c.in-Some.name.now (names_left (enumerate_source c.next.new.self)) inv.0.kept.shown inv.1 inv.2 t.0 _ e.1
          ∙ ap (λ (j : ℕ). walk (sizes c.args.g.now) v j c.in_ok-found.found.child.handle (names_left (enumerate_source c.next.new.self))) (sym t.2),
    )

pub returns : goal.returns
returns g c =
    let v = shows c.args.g.now (g.D.Device.model c.args.device.now) in
    let k = enumerate_count c.loop-component.component-iterator in
    let inv = c.loop-component.invariant in
    (inv.0, inv.2 ∙ ap (walk (sizes c.args.g.now) v k c.loop-component.at.handle) c.in-None.ensures.steps.0.0 ∙ walk_none (sizes c.args.g.now) v k c.loop-component.at.handle)
