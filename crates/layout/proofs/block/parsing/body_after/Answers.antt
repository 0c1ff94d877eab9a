use Rattle.std.proofs.Common.{rules}
use Rattle.layout.proofs.Cells.{cells_take}
use Rattle.layout.proofs.block.parsing.body_after.Goals as goal

pub returns-in-Folder : goal.returns-in-Folder
returns-in-Folder c = search (rules, cells_take)
