use Rattle.std.proofs.Common.{◌≤◌, sym, arith}
use Rattle.base.specs.declared.owner.Kind.TheVariants.{File, Folder}
use Rattle.layout.specs.Sizes.{sizes}
use Rattle.layout.proofs.Numbers.{slot_whole, slot_spoilt, part_sized, count_few}
use Rattle.layout.proofs.block.parsing.slot_after.Goals as goal

pub returns-then-not-numbers_fit : goal.returns-then-not-numbers_fit
returns-then-not-numbers_fit c =
    record {
      means = slot_spoilt (sizes c.args.g.now) c.args.head c.args.rest.now c.requires (sym c.if-not-slot_head_fits.ensures) c.args.kind (sym c.if-not-numbers_fit.ensures);
      sized = tt;
    }

pub returns-in-File : goal.returns-in-File
returns-in-File c =
    let fits = sym c.if-not-slot_head_fits.ensures in
    let few : c.args.head.count ≤ 64 = count_few (sizes c.args.g.now) c.args.head fits in
    record {
      means = slot_whole (sizes c.args.g.now) c.args.head c.args.rest.now c.requires fits File c.args.kind (sym c.if-not-numbers_fit.ensures) c.in-File.is;
      sized = part_sized c.args.head.count c.args.rest.now (omega arith) few;
    }

pub returns-in-Folder : goal.returns-in-Folder
returns-in-Folder c =
    let fits = sym c.if-not-slot_head_fits.ensures in
    let few : c.args.head.count ≤ 64 = count_few (sizes c.args.g.now) c.args.head fits in
    record {
      means = slot_whole (sizes c.args.g.now) c.args.head c.args.rest.now c.requires fits Folder c.args.kind (sym c.if-not-numbers_fit.ensures) c.in-Folder.is;
      sized = part_sized c.args.head.count c.args.rest.now (omega arith) few;
    }
