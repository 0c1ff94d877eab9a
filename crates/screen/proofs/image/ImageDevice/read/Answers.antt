use Rattle.std.proofs.Common.{length, sym, ap, ◌∙◌, arith}
use Rattle.screen.proofs.Images.{block_whole, on_stayed}
use Rattle.screen.proofs.image.ImageDevice.read.Goals as goal

pub copy_from_slice-requires : goal.copy_from_slice-requires
copy_from_slice-requires c = sym (ap length c.part.ensures ∙ block_whole c.args.self.now.bytes.now c.args.at.0 (omega arith))

pub returns : goal.returns
returns c = record {
  within = omega arith;
  bytes = c.copy_from_slice.ensures.after ∙ c.part.ensures;
  stayed = on_stayed c.args.self.now.bytes.now c.args.self.now.last (sym c.if-is_off.ensures);
}
