use Rattle.std.proofs.Common.{◌+◌, ℕ, sym, ap, ◌∙◌, arith}
use Rattle.std.proofs.lemmas.List.{length-set}
use Rattle.tours.proofs.Ticks.{queue_room, ticks_set, listed_more}
use Rattle.tours.proofs.work.Work.enter.Goals as goal

pub offset_bounds-self-self : goal.offset_bounds-self-self
offset_bounds-self-self c = let w = c.args.self.now in omega (arith, queue_room w.marks w.tail c.args.at.0 w.slots w.counted c.requires c.if-self-at.false)

pub bounds-self-self : goal.bounds-self-self
bounds-self-self c = let w = c.args.self.now in queue_room w.marks w.tail c.args.at.0 w.slots w.counted c.requires c.if-self-at.false

pub overflow_add-self : goal.overflow_add-self
overflow_add-self c = let w = c.args.self.now in omega (arith, queue_room w.marks w.tail c.args.at.0 w.slots w.counted c.requires c.if-self-at.false)

pub invariant_of-self-clause-room : goal.invariant_of-self-clause-room
invariant_of-self-clause-room c = let w = c.args.self.now in length-set w.queue w.tail c.args.at ∙ w.room

pub invariant_of-self-clause-counted : goal.invariant_of-self-clause-counted
invariant_of-self-clause-counted c =
    let w = c.args.self.now in
    ap (λ (n : ℕ). n + 1) w.counted ∙ sym (ticks_set w.marks c.args.at.0 (omega (arith, w.slots)) c.if-self-at.false)

pub invariant_of-self-clause-listed : goal.invariant_of-self-clause-listed
invariant_of-self-clause-listed c =
    let w = c.args.self.now in
    let room = queue_room w.marks w.tail c.args.at.0 w.slots w.counted c.requires c.if-self-at.false in
    listed_more w.queue w.tail c.args.at w.marks (omega (arith, w.slots)) (omega (arith, room, w.room)) w.listed
