-- What owned things name.
use Rattle.base.specs.declared.owner.Handle.{Handle}
use Rattle.base.specs.declared.owner.Back.{Back}
use Rattle.layout.specs.declared.block.Body.{Body}
use Rattle.layout.specs.declared.block.FolderBody.{FolderBody}
use Rattle.layout.specs.declared.block.Slot.{Slot}

abbrev pub body_line : Body → Back
body_line b = b.back

abbrev pub folder_body_line : FolderBody → Back
folder_body_line b = b.back

abbrev pub slot_line : Slot → Handle
slot_line s = s.parent
