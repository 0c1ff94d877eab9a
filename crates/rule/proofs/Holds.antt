-- The cases compute.
use Rattle.std.proofs.Common.{refl}
use Rattle.layout.specs.Format.{parse, encode, entry_of}
use Rattle.layout.specs.Identities.{highest_in}
use Rattle.rule.specs.Check.{◌>>=◌, check, demand}
use Rattle.rule.specs.Card.{opening, survey_step, surveyed}
use Rattle.rule.specs.Reading.{fits, kind_is, reading, step, named, find, at_component, all_named, walk, path, list, damage, status, space, read}
use Rattle.rule.specs.Changing.{changing, placed, untaken, create, replaces, appends, write, shorten, remove, format, synced, sync}
use Rattle.rule.specs.Run.{put_all, settled, landed, act, replies}
use Rattle.rule.specs.Cases.{CasesHold}

pub cases_hold : CasesHold
unfolding ◌>>=◌ highest_in check demand fits kind_is reading changing step named parse encode entry_of create write shorten remove format at_component all_named walk path find list damage status space read opening survey_step surveyed placed untaken replaces appends synced sync act replies put_all landed settled
cases_hold = refl
