use Rattle.std.proofs.Common.{ℕ, List, length, sym, refl, ◌∙◌, subst}
use Rattle.base.specs.declared.refusal.Refusal.TheVariants.{PowerGone}
use Rattle.device.specs.Plain.{block, blocks_in}
use Rattle.rule.specs.Card.{opening}
use Rattle.rule.specs.Check.{Answer}
use Rattle.rule.specs.Reading as reading
use Rattle.card.specs.Calls.{Fills}
use Rattle.card.specs.Opened.{opened_view}
use Rattle.screen.proofs.Sures.{opens_sure, reads_sure}
use Rattle.screen.proofs.Screens.{leaf_lost, leaf_found}
use Rattle.screen.proofs.leaf.look_inside.Goals as goal

pub returns-in-Ok : goal.returns-in-Ok
returns-in-Ok c =
    let image = c.args.image.now in
    let room = length c.args.out.now in
    let start = c.open-card.result in
    let mid = c.path.new.self in
    let end = c.read.new.self in
    let s = opens_sure image _ _ (opened_view start) _ _ c.new.ensures.0 c.new.ensures.1 c.open-card.ensures.opens in
    let w = c.in-Ok.ensures.reads in
    let found = reads_sure image _ _ (opened_view mid) _ (reading.path c.args.path.now) (opened_view start) _ _ s w.1 in
    let y = c.read.ensures.reads in
    let bytes = reads_sure image _ _ (opened_view end) PowerGone (reading.read c.in-Ok.file c.args.leaf.0 room) (opened_view mid) _ y.0 found.1 y.1 in
    subst (λ (a : Answer (List ℕ)). Fills a c.read.result c.args.out.now c.read.new.buffer)
    (bytes.0 ∙ sym (leaf_found c.args.path.now c.args.leaf.0 room (opening (blocks_in image) (block image)) (block image) c.requires.named c.requires.room c.in-Ok.file (sym found.0)))
    y.2

pub returns-in-Err : goal.returns-in-Err
returns-in-Err c =
    let image = c.args.image.now in
    let start = c.open-card.result in
    let s = opens_sure image _ _ (opened_view start) _ _ c.new.ensures.0 c.new.ensures.1 c.open-card.ensures.opens in
    let w = c.in-Err.ensures.reads in
    let lost = reads_sure image _ _ (opened_view c.path.new.self) _ (reading.path c.args.path.now) (opened_view start) _ _ s w.1 in
    (leaf_lost c.args.path.now c.args.leaf.0 (length c.args.out.now) (opening (blocks_in image) (block image)) (block image) c.requires.named c.requires.room c.in-Err.e (sym lost.0), refl)
