use Rattle.std.proofs.Common.{refl}
use Rattle.trial.proofs.Telling.{change_told}
use Rattle.trial.proofs.calling.change.Goals as goal

pub returns-in-Space : goal.returns-in-Space
returns-in-Space g c = change_told c.in-Space.is _ _ refl ((_, refl), c.space.ensures.reads)

pub returns-in-Create : goal.returns-in-Create
returns-in-Create g c = change_told c.in-Create.is _ _ refl c.create.ensures.changes

pub returns-in-Write : goal.returns-in-Write
returns-in-Write g c = change_told c.in-Write.is _ _ refl c.write.ensures.changes

pub returns-in-Shorten : goal.returns-in-Shorten
returns-in-Shorten g c = change_told c.in-Shorten.is _ _ refl c.shorten.ensures.changes

pub returns-in-Remove : goal.returns-in-Remove
returns-in-Remove g c = change_told c.in-Remove.is _ _ refl c.remove.ensures.changes

pub returns-in-Sync : goal.returns-in-Sync
returns-in-Sync g c = change_told c.in-Sync.is _ _ refl c.sync.ensures.syncs
