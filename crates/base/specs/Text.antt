-- What is printed of kinds, layers and refusals.
use Rattle.std.specs.Prelude.{ℕ, List, ◌++◌, codes}
use Rattle.std.specs.Fmt.{decimal}
use Rattle.base.specs.Refusals.{number_of, layer_of, place_of}
use Rattle.base.specs.declared.owner.Kind.{Kind}
use Rattle.base.specs.declared.owner.Kind.TheVariants.{File as FileKind, Folder}
use Rattle.base.specs.declared.refusal.Layer.{Layer}
use Rattle.base.specs.declared.refusal.Layer.TheVariants.{Device, Card, File}
use Rattle.base.specs.declared.refusal.PathRefusal.{PathRefusal}
use Rattle.base.specs.declared.refusal.Refusal.{Refusal}
use Rattle.base.specs.declared.refusal.Refusal.TheVariants.{PowerGone, SyncUnsure, BadCard, SmallDevice, NoSuchHandle, WrongKind, NoSuchLeaf, LeafNotGood, NoSuchName, NameTaken, BadName, BadLength, NoFreeBody, NoFreeSlot, FolderFull, IdentitiesSpent, FolderNotEmpty, BadLimits, NoSuchBlock}

abbrev pub kind_text : Kind → List ℕ
kind_text FileKind = codes "file"
kind_text Folder = codes "folder"

abbrev pub layer_text : Layer → List ℕ
layer_text Device = codes "device"
layer_text Card = codes "card"
layer_text File = codes "file"

abbrev pub words_of : Refusal → List ℕ
words_of (PowerGone _) = codes "the power is gone"
words_of SyncUnsure = codes "the sync could not say whether everything has landed"
words_of (BadCard _) = codes "the card's cover or its root is bad"
words_of (SmallDevice _) = codes "the image has fewer blocks than the card"
words_of (NoSuchHandle _) = codes "there is no such file or folder"
words_of (WrongKind _) = codes "a file where a folder is wanted, or the reverse"
words_of (NoSuchLeaf _) = codes "there is no such leaf"
words_of (LeafNotGood _) = codes "the leaf's body does not name it"
words_of (NoSuchName _) = codes "there is no such name"
words_of (NameTaken _) = codes "the name is taken"
words_of (BadName _) = codes "that is not a name"
words_of (BadLength _) = codes "too much to write, or too little room to read into"
words_of (NoFreeBody _) = codes "no body is free"
words_of (NoFreeSlot _) = codes "no slot is free"
words_of (FolderFull _) = codes "the folder is full"
words_of IdentitiesSpent = codes "the highest identity has been given"
words_of (FolderNotEmpty _) = codes "the folder is not empty"
words_of (BadLimits _) = codes "the block count or the slot count is outside its limits"
words_of (NoSuchBlock _) = codes "the device has no such block"

-- the words, then the row of the table
abbrev pub refusal_text : Refusal → List ℕ
refusal_text r =
    words_of r ++ codes " (refusal " ++ decimal (number_of r) ++ codes ", " ++ layer_text (layer_of r) ++ codes ", place " ++ decimal (place_of r) ++ codes ")"

abbrev pub path_refusal_text : PathRefusal → List ℕ
path_refusal_text r = codes "at component " ++ decimal r.component ++ codes ": " ++ refusal_text r.lower
