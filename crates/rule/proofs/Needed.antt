-- The runs of the broken plans compute.
use Rattle.std.proofs.Common.{refl}
use Rattle.layout.specs.Format.{parse, encode, entry_of}
use Rattle.layout.specs.Identities.{highest_in}
use Rattle.rule.specs.Check.{◌>>=◌, check, demand}
use Rattle.rule.specs.Card.{opening, surveyed}
use Rattle.rule.specs.Reading.{fits, kind_is, reading, step, named, at_component, all_named, walk, path, read}
use Rattle.rule.specs.Changing.{changing, placed, untaken, create, replaces, appends, write, remove, format, synced, sync}
use Rattle.rule.specs.Run.{put_all, settled, landed, act, after}
use Rattle.rule.specs.Broken.{reply_after, create_by_shown, create_unasked, append_over_files, remove_full, FreshIdentityNeeded, UntakenNameNeeded, FreeBodyNeeded, EmptyFolderNeeded}

pub fresh_identity_needed : FreshIdentityNeeded
unfolding ◌>>=◌ highest_in check demand fits kind_is reading changing step named parse encode entry_of create write remove format at_component all_named walk path read opening surveyed placed untaken replaces appends synced sync act after put_all landed settled reply_after create_by_shown
fresh_identity_needed = (refl, refl, refl, refl)

pub untaken_name_needed : UntakenNameNeeded
unfolding ◌>>=◌ highest_in check demand fits kind_is reading changing step named parse encode entry_of create write remove format at_component all_named walk path read opening surveyed placed untaken replaces appends synced sync act after put_all landed settled reply_after create_unasked
untaken_name_needed = (refl, refl)

pub free_body_needed : FreeBodyNeeded
unfolding ◌>>=◌ highest_in check demand fits kind_is reading changing step named parse encode entry_of create write remove format at_component all_named walk path read opening surveyed placed untaken replaces appends synced sync act after put_all landed settled reply_after append_over_files
free_body_needed = (refl, refl)

pub empty_folder_needed : EmptyFolderNeeded
unfolding ◌>>=◌ highest_in check demand fits kind_is reading changing step named parse encode entry_of create write remove format at_component all_named walk path read opening surveyed placed untaken replaces appends synced sync act after put_all landed settled reply_after remove_full
empty_folder_needed = (refl, refl)
