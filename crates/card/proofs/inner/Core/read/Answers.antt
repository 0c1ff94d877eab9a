use Rattle.std.proofs.Common.{length, Ok, Err, sym, refl, ap, ◌∙◌, inl, arith}
use Rattle.std.proofs.lemmas.Result.{err_from_is_err_and}
use Rattle.layout.specs.Sizes.{sizes}
use Rattle.rule.specs.Reading.{read}
use Rattle.walk.specs.Copies.{front}
use Rattle.walk.specs.Still.{shows}
use Rattle.walk.proofs.Stills.{still}
use Rattle.card_lists.specs.Ready.{ready_view}
use Rattle.card.proofs.Cores.{core_exit, core_kept}
use Rattle.card.proofs.Files.{read_short, read_unready, read_ready, leaf_quiet, fills_exit}
use Rattle.card.proofs.inner.Core.read.Goals as goal

pub returns-then-buffer-lt496 : goal.returns-then-buffer-lt496
returns-then-buffer-lt496 g c = record { reads = (Err _, inl (still _, sym (read_short c.args.handle.now c.args.leaf.0 _ _ _ c.if-buffer-lt496.true), refl), (refl, refl)) }

pub returns-in_err-g : goal.returns-in_err-g
returns-in_err-g g c =
    let p = err_from_is_err_and c.from_residual.result c.from_residual.ensures.1 in
    record {
      reads = (
        Err _,
        core_exit (read c.args.handle.now c.args.leaf.0 (length c.args.buffer.now)) c.args.self.now.ready (g.D.Device.model c.args.self.now.device) _ _ _ refl p.2
            (read_unready c.args.handle.now c.args.leaf.0 (length c.args.buffer.now) _ (omega (arith, c.if-buffer-lt496.false)) _ _ (ap ready_view c.in_err-g.was)),
        fills_exit c.from_residual.result _ _ p.1,
      );
    }

pub returns-in_err-copy : goal.returns-in_err-copy
returns-in_err-copy g c =
    let p = err_from_is_err_and c.from_residual-in_err-copy.result c.from_residual-in_err-copy.ensures.1 in
    let m = g.D.Device.model c.args.self.now.device in
    let at = read_ready c.args.handle.now c.args.leaf.0 (length c.args.buffer.now) m.shown (omega (arith, c.if-buffer-lt496.false)) _ _ (ap ready_view c.in_ok-g.was) in
    record {
      reads = (
        Err p.0,
        core_kept g.D.Device.model (read c.args.handle.now c.args.leaf.0 (length c.args.buffer.now)) front c.read_file-answer.ensures c.in_ok-g.was c.args.self.now.fitting (leaf_quiet (sizes c.in_ok-g.g) (shows c.in_ok-g.g m) c.args.handle.now c.args.leaf.0)
            (λ a q. at ∙ q) (λ e q. at ∙ q) c.in_err-copy.ensures (ap Err p.2),
        fills_exit c.from_residual-in_err-copy.result _ _ p.1,
      );
    }

pub returns : goal.returns
returns g c =
    let f = c.fill-used.ensures in
    let m = g.D.Device.model c.args.self.now.device in
    let at = read_ready c.args.handle.now c.args.leaf.0 (length c.args.buffer.now) m.shown (omega (arith, c.if-buffer-lt496.false)) _ _ (ap ready_view c.in_ok-g.was) in
    record {
      reads = (
        Ok (front c.in_ok-copy.copy),
        core_kept g.D.Device.model (read c.args.handle.now c.args.leaf.0 (length c.args.buffer.now)) front c.read_file-answer.ensures c.in_ok-g.was c.args.self.now.fitting (leaf_quiet (sizes c.in_ok-g.g) (shows c.in_ok-g.g m) c.args.handle.now c.args.leaf.0)
            (λ a q. at ∙ q) (λ e q. at ∙ q) c.in_ok-copy.ensures refl,
        (front c.in_ok-copy.copy, refl, f.0, f.1),
      );
    }
