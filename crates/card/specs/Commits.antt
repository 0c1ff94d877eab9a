-- A plan carried out: its blocks written, and the card's memory after.
use Rattle.std.specs.Prelude.{◌≡◌, List, Ok, Err, Result}
use Rattle.base.specs.declared.number.BlockNo.{BlockNo}
use Rattle.base.specs.declared.refusal.Refusal.{Refusal}
use Rattle.base.specs.declared.refusal.Refusal.TheVariants.{PowerGone}
use Rattle.device.specs.Model.{Model}
use Rattle.device.specs.Effect.{accepted, broken, Altered}
use Rattle.device.specs.declared.put.Put.{Put}
use Rattle.change.specs.declared.plan.Memory.{Memory}
use Rattle.card_lists.specs.Ready.{Kept}

-- every block shows, and the card keeps `after`; or power gone broke the writing off, and the card keeps that
abbrev pub Commits : List Put → Memory → Kept → Memory → Model → Result (Unit {0}) Refusal → Kept → Memory → Model → Type 0
Commits ws after c mem m (Ok u) d mem' n = Altered accepted ws m n × (d ≡ c) × (mem' ≡ after)
Commits ws after c mem m (Err e) d mem' n = (b : BlockNo) × (e ≡ PowerGone b) × Altered broken ws m n × (d ≡ Err (PowerGone b)) × (mem' ≡ mem)

-- the same of the device alone
abbrev pub Puts : List Put → Model → Result (Unit {0}) Refusal → Model → Type 0
Puts ws m (Ok u) n = Altered accepted ws m n
Puts ws m (Err e) n = (b : BlockNo) × (e ≡ PowerGone b) × Altered broken ws m n
