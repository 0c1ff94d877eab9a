-- The worked cases, on a card of 8 blocks and 3 slots: what is asked, and the reply that is due.
use Rattle.std.specs.Prelude.{◌≡◌, ℕ, List, [], ◌∷◌, ◌++◌, map, replicate}
use Rattle.base.specs.declared.owner.Kind.TheVariants.{File, Folder}
use Rattle.base.specs.declared.refusal.Layer.TheVariants.{Device as DeviceLayer, Card as CardLayer, File as FileLayer}
use Rattle.device.specs.declared.fault.Synced.TheVariants.{Settled, Unsure}
use Rattle.layout.specs.Format.{handle}
use Rattle.rule.specs.Agree.{root}
use Rattle.rule.specs.Run.{Command, Format, Open, Survey, EndSurvey, Create, Write, Shorten, Remove, Sync, Find, Path, ListOf, StatusOf, Damage, SpaceLeft, Read, FailAfter, Cut, Look, Reply, Done, Wrote, Made, Remain, Highest, At, Bytes, Has, Free, Bad, Listing, Refused, Stopped, act, only, all_but, new_device, replies}

pub record Step : Type 0 where
  pub command : Command
  pub due : Reply

infix 5 ◌▸◌
abbrev pub ◌▸◌ : Command → Reply → Step
c ▸ a = record { command = c; due = a }

-- a new device of so many blocks, and what is done with it
pub record Case : Type 0 where
  pub size : ℕ
  pub steps : List Step

abbrev pub on : ℕ → List Step → Case
on n ts = record { size = n; steps = ts }

abbrev pub answered : Case → List Reply
answered c = replies (new_device c.size) (map (λ t. act t.command) c.steps)

abbrev pub due_in : Case → List Reply
due_in c = map (λ t. t.due) c.steps

abbrev pub alto : List ℕ
alto = 97 ∷ 108 ∷ 116 ∷ 111 ∷ []

abbrev pub bass : List ℕ
bass = 98 ∷ 97 ∷ 115 ∷ 115 ∷ []

abbrev pub ABC : List ℕ
ABC = 65 ∷ 66 ∷ 67 ∷ []

-- a new card
abbrev pub case_a : List Step
case_a =
    (Format 8 3 ▸ Done) ∷
    (Look 0 6 ▸ Bytes (1 ∷ 1 ∷ 8 ∷ 0 ∷ 3 ∷ 0 ∷ [])) ∷
    (Open ▸ Done) ∷
    (EndSurvey ▸ Highest 1) ∷
    (SpaceLeft ▸ Free 4 2) ∷
    []

-- a first file: its slot, the root's first leaf, the root's slot
abbrev pub case_b : List Step
case_b = case_a ++
    (Create File root alto ▸ Made (handle 1 2) (2 ∷ 4 ∷ 1 ∷ [])) ∷
    []

-- its first leaf
abbrev pub case_c : List Step
case_c = case_b ++
    (Write (handle 1 2) 0 ABC ▸ Wrote (5 ∷ 2 ∷ [])) ∷
    (Look 5 19 ▸ Bytes (4 ∷ 0 ∷ 1 ∷ 0 ∷ 2 ∷ 0 ∷ 0 ∷ 0 ∷ 0 ∷ 0 ∷ 3 ∷ 0 ∷ 0 ∷ 0 ∷ 0 ∷ 0 ∷ 65 ∷ 66 ∷ 67 ∷ [])) ∷
    (Look 2 18 ▸ Bytes (2 ∷ 0 ∷ 1 ∷ 0 ∷ 2 ∷ 0 ∷ 0 ∷ 0 ∷ 1 ∷ 0 ∷ 0 ∷ 0 ∷ 0 ∷ 0 ∷ 0 ∷ 0 ∷ 5 ∷ 0 ∷ [])) ∷
    []

-- a cut, and only block 5 lands
abbrev pub case_d : List Step
case_d = case_c ++
    (Cut (only (5 ∷ [])) ▸ Done) ∷
    (Open ▸ Done) ∷
    (EndSurvey ▸ Highest 2) ∷
    (Path alto ▸ Stopped 9 FileLayer 0 0) ∷
    (SpaceLeft ▸ Free 4 2) ∷
    (Create File root bass ▸ Made (handle 1 3) (2 ∷ 4 ∷ 1 ∷ [])) ∷
    []

-- all but block 5 land
abbrev pub case_e : List Step
case_e = case_c ++
    (Cut (all_but (5 ∷ [])) ▸ Done) ∷
    (Open ▸ Done) ∷
    (EndSurvey ▸ Highest 2) ∷
    (Path alto ▸ At (handle 1 2)) ∷
    (Read (handle 1 2) 0 496 ▸ Refused 8 FileLayer 5) ∷
    (SpaceLeft ▸ Free 3 1) ∷
    []

-- all but block 2 land
abbrev pub case_f : List Step
case_f = case_c ++
    (Cut (all_but (2 ∷ [])) ▸ Done) ∷
    (Open ▸ Done) ∷
    (EndSurvey ▸ Highest 2) ∷
    (Path alto ▸ Stopped 9 FileLayer 0 0) ∷
    (SpaceLeft ▸ Free 3 2) ∷
    (Create File root bass ▸ Made (handle 1 3) (2 ∷ 4 ∷ [])) ∷
    []

abbrev pub before_the_cut : List Step
before_the_cut = case_c ++
    (Create File root bass ▸ Made (handle 2 3) (3 ∷ 4 ∷ [])) ∷
    (Sync Settled ▸ Done) ∷
    (Shorten (handle 1 2) 0 ▸ Wrote (2 ∷ [])) ∷
    (Write (handle 2 3) 0 ABC ▸ Wrote (6 ∷ 3 ∷ [])) ∷
    (Write (handle 2 3) 1 ABC ▸ Wrote (7 ∷ 3 ∷ [])) ∷
    (Write (handle 2 3) 2 ABC ▸ Wrote (5 ∷ 3 ∷ [])) ∷
    []

-- a body that was given to another file lands alone
abbrev pub case_g : List Step
case_g = before_the_cut ++
    (Cut (only (5 ∷ [])) ▸ Done) ∷
    (Open ▸ Done) ∷
    (EndSurvey ▸ Highest 3) ∷
    (Path alto ▸ At (handle 1 2)) ∷
    (Read (handle 1 2) 0 496 ▸ Refused 8 FileLayer 5) ∷
    (Path bass ▸ At (handle 2 3)) ∷
    (StatusOf (handle 2 3) ▸ Has File 0 root) ∷
    []

-- the slot of the other file lands alone
abbrev pub case_h : List Step
case_h = before_the_cut ++
    (Cut (only (3 ∷ [])) ▸ Done) ∷
    (Open ▸ Done) ∷
    (EndSurvey ▸ Highest 3) ∷
    (Path alto ▸ At (handle 1 2)) ∷
    (Read (handle 1 2) 0 496 ▸ Bytes ABC) ∷
    (Path bass ▸ At (handle 2 3)) ∷
    (Read (handle 2 3) 0 496 ▸ Refused 8 FileLayer 6) ∷
    (Read (handle 2 3) 1 496 ▸ Refused 8 FileLayer 7) ∷
    (Read (handle 2 3) 2 496 ▸ Refused 8 FileLayer 5) ∷
    (Damage ▸ Bad (record { slot = 2; leaf = 0 } ∷ record { slot = 2; leaf = 1 } ∷ record { slot = 2; leaf = 2 } ∷ [])) ∷
    (Remove root bass ▸ Wrote (4 ∷ 3 ∷ [])) ∷
    (SpaceLeft ▸ Free 2 1) ∷
    []

-- no body is free
abbrev pub case_i : List Step
case_i = before_the_cut ++
    (Write (handle 2 3) 3 ABC ▸ Refused 13 FileLayer 2) ∷
    []

abbrev pub limits : List Step
limits =
    (Format 8 3 ▸ Done) ∷
    (Open ▸ Done) ∷
    (EndSurvey ▸ Highest 1) ∷
    (Create File root (replicate 24 97) ▸ Made (handle 1 2) (2 ∷ 4 ∷ 1 ∷ [])) ∷
    (Create File root (replicate 25 97) ▸ Refused 11 FileLayer 25) ∷
    (Write (handle 1 2) 0 (replicate 496 65) ▸ Wrote (5 ∷ 2 ∷ [])) ∷
    (Read (handle 1 2) 0 496 ▸ Bytes (replicate 496 65)) ∷
    (Write (handle 1 2) 0 (replicate 497 65) ▸ Refused 12 FileLayer 497) ∷
    (Path (97 ∷ 47 ∷ 47 ∷ 98 ∷ []) ▸ Stopped 11 FileLayer 0 1) ∷
    (Format 4 2 ▸ Done) ∷
    (Format 3 2 ▸ Refused 18 CardLayer 3) ∷
    []

abbrev pub on_seven_blocks : List Step
on_seven_blocks =
    (Format 8 3 ▸ Refused 4 CardLayer 8) ∷
    (Open ▸ Done) ∷
    (Survey ▸ Refused 3 CardLayer 0) ∷
    (EndSurvey ▸ Refused 3 CardLayer 0) ∷
    []

-- the other replies
abbrev pub more : List Step
more = case_c ++
    (Find root alto ▸ At (handle 1 2)) ∷
    (ListOf root ▸ Listing (record { name = alto; child = handle 1 2 } ∷ [])) ∷
    (Path [] ▸ At root) ∷
    (Path (alto ++ (47 ∷ bass)) ▸ Stopped 6 FileLayer 1 1) ∷
    (Find root bass ▸ Refused 9 FileLayer 0) ∷
    (Find (handle 2 2) alto ▸ Refused 5 FileLayer 2) ∷
    (StatusOf (handle 1 3) ▸ Refused 5 FileLayer 1) ∷
    (Read root 0 496 ▸ Refused 6 FileLayer 0) ∷
    (Read (handle 1 2) 1 496 ▸ Refused 7 FileLayer 1) ∷
    (Read (handle 1 2) 0 495 ▸ Refused 12 FileLayer 495) ∷
    (Write (handle 1 2) 2 ABC ▸ Refused 7 FileLayer 2) ∷
    (Write (handle 1 2) 0 [] ▸ Wrote (5 ∷ [])) ∷
    (Read (handle 1 2) 0 496 ▸ Bytes []) ∷
    (Shorten (handle 1 2) 2 ▸ Refused 7 FileLayer 2) ∷
    (Shorten (handle 1 2) 1 ▸ Wrote []) ∷
    (Create File root alto ▸ Refused 10 FileLayer 1) ∷
    (Create Folder root bass ▸ Made (handle 2 3) (3 ∷ 4 ∷ [])) ∷
    (Create File (handle 2 3) alto ▸ Refused 14 CardLayer 3) ∷
    (Remove root alto ▸ Wrote (4 ∷ 2 ∷ [])) ∷
    (Create File (handle 2 3) alto ▸ Made (handle 1 4) (2 ∷ 6 ∷ 3 ∷ [])) ∷
    (Path (bass ++ (47 ∷ alto)) ▸ At (handle 1 4)) ∷
    (Remove root bass ▸ Refused 17 FileLayer 2) ∷
    (Sync Unsure ▸ Refused 2 DeviceLayer 65535) ∷
    (Cut (only []) ▸ Done) ∷
    (Open ▸ Done) ∷
    (Survey ▸ Remain 6 1) ∷
    (Survey ▸ Remain 5 1) ∷
    (EndSurvey ▸ Highest 1) ∷
    (SpaceLeft ▸ Free 4 2) ∷
    []

-- the power goes at the third write of a create, and the card keeps that refusal
abbrev pub broken_off : List Step
broken_off = case_a ++
    (FailAfter 2 ▸ Done) ∷
    (Create File root alto ▸ Refused 1 DeviceLayer 1) ∷
    (Find root alto ▸ Refused 1 DeviceLayer 1) ∷
    (Find root [] ▸ Refused 11 FileLayer 0) ∷
    (Path alto ▸ Stopped 1 DeviceLayer 1 0) ∷
    (Sync Settled ▸ Refused 1 DeviceLayer 1) ∷
    (Cut (all_but []) ▸ Done) ∷
    (Open ▸ Done) ∷
    (EndSurvey ▸ Highest 2) ∷
    (Find root alto ▸ Refused 9 FileLayer 0) ∷
    (Create File root alto ▸ Made (handle 1 3) (2 ∷ 4 ∷ 1 ∷ [])) ∷
    []

abbrev pub cases : List Case
cases =
    on 8 case_a ∷ on 8 case_b ∷ on 8 case_c ∷ on 8 case_d ∷ on 8 case_e ∷ on 8 case_f ∷ on 8 case_g ∷ on 8 case_h ∷ on 8 case_i ∷
    on 8 limits ∷ on 7 on_seven_blocks ∷ on 8 more ∷ on 8 broken_off ∷ []

-- every reply is the one that is due
abbrev pub CasesHold : Type 0
CasesHold = map answered cases ≡ map due_in cases
