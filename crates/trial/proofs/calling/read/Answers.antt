use Rattle.std.proofs.Common.{ℕ, ◌≡◌, ◌∙◌, List, refl, ap, subst, length, replicate}
use Rattle.std.proofs.lemmas.List.{length-replicate}
use Rattle.base.specs.declared.refusal.Refusal.TheVariants.{PowerGone}
use Rattle.rule.specs.Reading as rule_of_reading
use Rattle.history.specs.Events.{Reads, list, damage, read}
use Rattle.tours.specs.Lists.{entry_row}
use Rattle.tours.specs.Damage.{damage_row}
use Rattle.card_lists.specs.Lined.{zero_entry, zero_damage}
use Rattle.card_lists.specs.Ready.{LinesOf}
use Rattle.card.specs.Calls.{Fills}
use Rattle.trial.proofs.Telling.{read_told, lent}
use Rattle.trial.proofs.calling.read.Goals as goal

pub returns-in-Find : goal.returns-in-Find
returns-in-Find g c = read_told c.in-Find.is _ _ refl c.find.ensures.reads

pub returns-in-Path : goal.returns-in-Path
returns-in-Path g c = read_told c.in-Path.is _ _ refl c.path.ensures.reads

pub returns-in-Status : goal.returns-in-Status
returns-in-Status g c = read_told c.in-Status.is _ _ refl c.status.ensures.reads

pub returns-in_ok-room-in-List : goal.returns-in_ok-room-in-List
returns-in_ok-room-in-List g c =
    let r = c.list-count.ensures.reads in
    let filled = lent _ _ c.in_ok-room-in-List.room (LinesOf entry_row zero_entry r.0 c.list-count.result) (c.deref_mut.ensures.value ∙ c.in_ok-room-in-List.ensures) (c.list-count.auto.lines ∙ c.deref_mut.ensures.len) r.2 in
    read_told c.in-List.is _ (list c.in-List.folder r.0) (r.0, refl, filled) r.1

pub returns-in_ok-room-in-Damage : goal.returns-in_ok-room-in-Damage
returns-in_ok-room-in-Damage g c =
    let r = c.damage-count.ensures.reads in
    let filled = lent _ _ c.in_ok-room-in-Damage.room (LinesOf damage_row zero_damage r.0 c.damage-count.result) (c.deref_mut-in-Damage.ensures.value ∙ c.in_ok-room-in-Damage.ensures) (c.damage-count.auto.lines ∙ c.deref_mut-in-Damage.ensures.len) r.2 in
    read_told c.in-Damage.is _ (damage r.0) (r.0, refl, filled) r.1

pub returns-in_ok-buffer-in-Read : goal.returns-in_ok-buffer-in-Read
returns-in_ok-buffer-in-Read g c =
    let r = c.read-used.ensures.reads in
    let was : c.deref_mut-in-Read.result.now ≡ replicate c.in-Read.room 0 = c.deref_mut-in-Read.ensures.value ∙ c.in_ok-buffer-in-Read.ensures in
    let filled = lent _ _ c.in_ok-buffer-in-Read.buffer (Fills r.0 c.read-used.result) was (c.read-used.auto.buffer ∙ c.deref_mut-in-Read.ensures.len) r.2 in
    let room = ap (λ (xs : List ℕ). length xs) was ∙ length-replicate c.in-Read.room 0 in
    read_told c.in-Read.is _ (read c.in-Read.file c.in-Read.leaf.0 c.in-Read.room r.0) (r.0, refl, filled)
    (subst (λ (n : ℕ). Reads PowerGone (rule_of_reading.read c.in-Read.file c.in-Read.leaf.0 n) (g.R.Readable.on c.args.card.now) r.0 (g.R.Readable.on c.read-used.new.self)) room r.1)
