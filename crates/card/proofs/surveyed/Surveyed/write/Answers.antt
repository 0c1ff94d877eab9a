use Rattle.std.proofs.Common.{Err, refl, ap, ◌∙◌}
use Rattle.std.proofs.lemmas.Result.{err_from_is_err_and}
use Rattle.layout.specs.Format.{back}
use Rattle.layout.specs.Sizes.{sizes}
use Rattle.marks.specs.Marks.{with_gained}
use Rattle.moves.specs.Moves.{body_added}
use Rattle.moves.proofs.Follows.{write_marks}
use Rattle.moves.proofs.Lines.{room_stays}
use Rattle.rule.specs.Agree.{count}
use Rattle.rule.specs.Changing.{write}
use Rattle.walk.specs.Still.{shows}
use Rattle.change.specs.Plans.{card_view, plan_view}
use Rattle.card_lists.specs.Ready.{ready_view}
use Rattle.card.specs.Valid.{memory_view}
use Rattle.card.proofs.Calling.{write_planning}
use Rattle.card.proofs.Plans.{plan_fits, plan_refused, plan_told, plan_broken, plan_done, plan_marked, changes_early}
use Rattle.card.proofs.Ready.{write_long, write_unready}
use Rattle.card.proofs.surveyed.Surveyed.write.Goals as goal

pub returns-then-bytes-gt496 : goal.returns-then-bytes-gt496
returns-then-bytes-gt496 g c =
    let me = c.args.self.now in
    let m = g.D.Device.model me.core.device in
    record {
      changes = changes_early (write c.args.file.now c.args.leaf.0 c.args.bytes.now) me.core.ready me.memory m _ _ _ refl refl (write_long (memory_view me.core.ready me.memory) m.shown c.args.file.now c.args.leaf.0 c.args.bytes.now c.if-bytes-gt496.true);
    }

pub returns-in_err-g : goal.returns-in_err-g
returns-in_err-g g c =
    let me = c.args.self.now in
    let m = g.D.Device.model me.core.device in
    let p = err_from_is_err_and c.from_residual.result c.from_residual.ensures.1 in
    record {
      changes = changes_early (write c.args.file.now c.args.leaf.0 c.args.bytes.now) me.core.ready me.memory m _ _ _ p.1 p.2 (write_unready (memory_view me.core.ready me.memory) m.shown c.args.file.now c.args.leaf.0 c.args.bytes.now _ c.if-bytes-gt496.false (ap ready_view c.in_err-g.was));
    }

pub invariant_of-self : goal.invariant_of-self
invariant_of-self g c = (plan_fits g.D.Device.model (write_planning c.plan_write-planned.ensures c.in_ok-g.was c.args.self.now.known) c.args.self.now.core.fitting, tt)

pub invariant_of-self-in-Break-branch-2 : goal.invariant_of-self-in-Break-branch-2
invariant_of-self-in-Break-branch-2 g c = record { known = (plan_refused g.D.Device.model (write_planning c.plan_write-planned.ensures c.in_ok-g.was c.args.self.now.known) c.in_err-accepted.ensures refl).known }

pub returns-in_err-accepted : goal.returns-in_err-accepted
returns-in_err-accepted g c =
    let p = err_from_is_err_and c.from_residual-in_err-accepted.result c.from_residual-in_err-accepted.ensures.1 in
    record { changes = (plan_refused g.D.Device.model (write_planning c.plan_write-planned.ensures c.in_ok-g.was c.args.self.now.known) c.in_err-accepted.ensures (p.1 ∙ ap Err p.2)).changes }

pub invariant_of-self-in-Break-branch-3 : goal.invariant_of-self-in-Break-branch-3
invariant_of-self-in-Break-branch-3 g c =
    record { known = (plan_broken g.D.Device.model (write_planning c.plan_write-planned.ensures c.in_ok-g.was c.args.self.now.known) c.in_ok-accepted.ensures tt c.in_ok-accepted.accepted.plan (λ q. q.rule) c.in_err-commit.ensures refl).known }

pub returns-in_err-commit : goal.returns-in_err-commit
returns-in_err-commit g c =
    let p = err_from_is_err_and c.from_residual-in_err-commit.result c.from_residual-in_err-commit.ensures.1 in
    record { changes = (plan_broken g.D.Device.model (write_planning c.plan_write-planned.ensures c.in_ok-g.was c.args.self.now.known) c.in_ok-accepted.ensures tt c.in_ok-accepted.accepted.plan (λ q. q.rule) c.in_err-commit.ensures (p.1 ∙ ap Err p.2)).changes }

pub invariant_of-self-2 : goal.invariant_of-self-2
invariant_of-self-2 g c =
    let mem = c.args.self.now.memory in
    let ms = c.args.self.now.marks in
    let m = g.D.Device.model c.args.self.now.core.device in
    let s = sizes c.in_ok-g.g in
    let l = write_planning c.plan_write-planned.ensures c.in_ok-g.was c.args.self.now.known in
    let w = l.knows in
    let q = (plan_told g.D.Device.model l c.in_ok-accepted.ensures).1 in
    let line = back c.args.file.now c.args.leaf.0 in
    let after = with_gained ms (body_added s (shows c.in_ok-g.g m) (card_view c.in_ok-g.g mem) c.args.leaf.0 (count q.slot)) line in
    record {
      known = plan_marked g.D.Device.model l c.in_ok-accepted.ensures tt c.in_ok-accepted.accepted.plan (λ q. q.rule) c.in_ok-commit.ensures after (c.mark_gained.ensures c.args.leaf.0 q.leaf ∙ ap (λ o. with_gained ms o line) q.body)
          (write_marks s (card_view c.in_ok-g.g mem) m.shown c.args.file.now c.args.leaf.0 c.args.bytes.now (plan_view tt c.in_ok-g.g c.in_ok-accepted.accepted.plan) q.slot ms w.tied q.rule q.at w.marked w.room)
          ((room_stays s ms w.room).gained _ _);
    }

pub returns : goal.returns
returns g c = record { changes = plan_done g.D.Device.model (write_planning c.plan_write-planned.ensures c.in_ok-g.was c.args.self.now.known) c.in_ok-accepted.ensures tt c.in_ok-accepted.accepted.plan (λ q. q.rule) c.in_ok-commit.ensures }
