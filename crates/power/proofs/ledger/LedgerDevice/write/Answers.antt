use Rattle.std.proofs.Common.{◌≡◌, ◌<◌, ap, ◌∙◌, refl, inr, arith}
use Rattle.power.specs.View.{view, blocks}
use Rattle.power.specs.Calls.{noted, with_left}
use Rattle.power.proofs.Ledgers.{written_noted, torn_noted}
use Rattle.power.proofs.ledger.LedgerDevice.write.Goals as goal
use Rattle.power.proofs.ledger.LedgerDevice.write.Goals.{in-Some, in_default}

pub returns-then-eq-2-clause-answer : goal.returns-then-eq-2-clause-answer
returns-then-eq-2-clause-answer c =
    let l : c.args.at.0 < blocks (view c.args.self.now) = omega arith in
    (refl, inr (torn_noted (view c.args.self.now) c.args.at c.args.bytes.now l _ c.note.ensures))

pub returns-clause-answer : goal.returns-clause-answer
returns-clause-answer c =
    let v = view c.args.self.now in
    let u = view c.match-self.self in
    let l : c.args.at.0 < blocks v = omega arith in
    let fuse : u ≡ with_left v u.left = elim c.match-self.branch [ in-Some w ↦ rw w.self-is | in_default w ↦ rw w.self-is ] in
    written_noted v c.args.at c.args.bytes.now l _ u.left c.if-self.false
    (c.note-2.ensures ∙ ap (noted (record { block = c.args.at; bytes = c.args.bytes.now })) fuse)
