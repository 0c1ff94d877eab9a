-- Why each rule is there: a plan that leaves one out, and a run in which it gives a wrong answer where the true plan gives the right one.
use Rattle.std.specs.Prelude.{◌≡◌, ℕ, suc, ◌-◌, Bool, true, false, cond, not, ◌&&◌, List, [], ◌∷◌, ◌++◌, map, Ok, Err, ◌==◌, nat_lt}
use Rattle.base.specs.declared.owner.Kind.{Kind}
use Rattle.base.specs.declared.owner.Kind.TheVariants.{File, Folder}
use Rattle.base.specs.declared.owner.Handle.{Handle}
use Rattle.base.specs.declared.refusal.Layer.TheVariants.{File as FileLayer}
use Rattle.base.specs.declared.refusal.Refusal.TheVariants.{NoSuchName, NoFreeBody, NoFreeSlot, IdentitiesSpent}
use Rattle.device.specs.declared.fault.Synced.TheVariants.{Settled}
use Rattle.layout.specs.Format.{Name, handle, back, Content, blank, cover, slotted, file_body, folder_body, ill_formed, entry_of, cell, blank_cell}
use Rattle.rule.specs.Agree.{Shown, seen, count, found, first, from, round, root, held, free_slot}
use Rattle.rule.specs.Check.{Answer, ◌>>=◌, check, demand}
use Rattle.rule.specs.Card.{Ready, Card, Plan, highest_of}
use Rattle.rule.specs.Reading.{named, child_of}
use Rattle.rule.specs.Changing.{store, store_slot, changing, new_slot, grown, keeps, with_cell, placed, open_place, last_identity, create, write, remove}
use Rattle.rule.specs.Run.{Command, Format, Open, EndSurvey, Create, Write, Remove, Sync, Path, Read, Cut, Reply, At, Made, Wrote, Bytes, Refused, Stopped, State, Turn, act, carry, all_but, shown_by, new_device, after}
use Rattle.rule.specs.Cases.{ABC}

abbrev pub Creating : Type 0
Creating = Kind → Handle → Name → Card → Shown → Answer (Plan Handle)

abbrev pub Removing : Type 0
Removing = Handle → Name → Card → Shown → Answer (Plan (Unit {0}))

abbrev pub Writing : Type 0
Writing = Handle → ℕ → List ℕ → Card → Shown → Answer (Plan (Unit {0}))

-- a call by another plan
abbrev pub creates : Creating → Kind → Handle → Name → State → Turn
creates by d f n s = carry s Made (by d f n s.card (shown_by s.blocks))

abbrev pub removes : Removing → Handle → Name → State → Turn
removes by f n s = carry s (λ u. Wrote) (by f n s.card (shown_by s.blocks))

abbrev pub writes : Writing → Handle → ℕ → List ℕ → State → Turn
writes by h k x s = carry s (λ u. Wrote) (by h k x s.card (shown_by s.blocks))

-- on a new device of 8 blocks: the reply to a command after all that was done
unfoldable pub reply_after : List (State → Turn) → Command → Reply
reply_after done c = (act c (after (new_device 8) done)).reply

abbrev pub do_all : List Command → List (State → Turn)
do_all cs = map act cs

abbrev pub start : ℕ → List (State → Turn)
start slots = do_all (Format 8 slots ∷ Open ∷ EndSurvey ∷ [])

abbrev pub a : Name
a = 97 ∷ []

abbrev pub b : Name
b = 98 ∷ []

abbrev pub DEF : List ℕ
DEF = 68 ∷ 69 ∷ 70 ∷ []

-- ---- an identity is never given twice while something may stand that tells it

-- takes the identity after the highest that the shown blocks tell, and not after the highest that the card keeps
abbrev pub told_by_shown : Ready → Card → Shown → Card
told_by_shown (Ok g) c shown = keeps c (highest_of g (seen g shown) (from 1 (g.blocks - 1))) c.next_slot c.next_body
told_by_shown (Err r) c shown = c

unfoldable pub create_by_shown : Creating
create_by_shown d f n c shown = create d f n (told_by_shown c.ready c shown) shown

-- a is made and removed, b is made and written; after the cut the root's leaf shows a's entry again, the other blocks their last content
abbrev pub twice : (between : List Command) → Creating → Handle → List (State → Turn)
twice between by h =
    start 2 ++ do_all (Create File root a ∷ Remove root a ∷ []) ++ do_all between ++ (creates by File root b ∷ []) ++ do_all (Write h 0 ABC ∷ Cut (λ x. cond (x == 3) 2 0) ∷ Open ∷ EndSurvey ∷ [])

-- a's path leads nowhere; by the other plan it leads to b, and reads what was written to b. So does the true plan
-- on a card that was opened again without a cut, since its survey saw only the shown blocks
abbrev pub FreshIdentityNeeded : Type 0
FreshIdentityNeeded =
    (reply_after (twice [] create (handle 1 3)) (Path a) ≡ Stopped 9 FileLayer 0 0)
    × (reply_after (twice [] create_by_shown (handle 1 2)) (Path a) ≡ At (handle 1 2))
    × (reply_after (twice [] create_by_shown (handle 1 2)) (Read (handle 1 2) 0 496) ≡ Bytes ABC)
    × (reply_after (twice (Open ∷ EndSurvey ∷ []) create (handle 1 2)) (Path a) ≡ At (handle 1 2))

-- ---- a taken name is refused

-- does not ask whether the name is taken
unfoldable pub create_unasked : Creating
create_unasked d f n c shown = do
  _ ← named n
  g ← c.ready
  let v = seen g shown
  r ← changing g v Folder f
  s ← demand (free_slot g v c.next_slot) (NoFreeSlot g.slots)
  _ ← check (nat_lt c.highest last_identity) IdentitiesSpent
  let i = suc c.highest
  w ← placed g v c f r (cell n (handle s i)) (open_place g v f r)
  Ok (record { answer = handle s i; puts = store_slot s (new_slot d f i) ∷ w.0; card = keeps c i (suc s) w.1 })

-- a stands after b, b is removed, all is settled, and a is made again
abbrev pub again : Creating → List (State → Turn)
again by = start 4 ++ do_all (Create File root b ∷ Create File root a ∷ Write (handle 2 3) 0 ABC ∷ Remove root b ∷ Sync Settled ∷ []) ++ (creates by File root a ∷ [])

-- a's path leads to the settled file; by the other plan to the new one
abbrev pub UntakenNameNeeded : Type 0
UntakenNameNeeded = (reply_after (again create) (Path a) ≡ At (handle 2 3)) × (reply_after (again create_unasked) (Path a) ≡ At (handle 3 4))

-- ---- only a free body is taken

abbrev pub of_folder : Content → Bool
of_folder (folder_body k es) = true
of_folder (file_body k x) = false
of_folder blank = false
of_folder (cover g) = false
of_folder (slotted r) = false
of_folder ill_formed = false

-- adds a leaf in the first body that no folder holds
unfoldable pub append_over_files : Writing
append_over_files h k x c shown = do
  g ← c.ready
  let v = seen g shown
  r ← changing g v File h
  m ← demand (first (λ m. not (held g v m && of_folder (v m))) (round (suc g.slots) g.blocks c.next_body)) (NoFreeBody h.slot)
  Ok (record { answer = tt; puts = store m (file_body (back h (count r)) x) ∷ store_slot h.slot.0 (grown r m) ∷ []; card = keeps c c.highest c.next_slot (suc m) })

-- a has a settled leaf; after a cut in which all lands b gets one
abbrev pub two_files : Writing → List (State → Turn)
two_files by = start 3 ++ do_all (Create File root a ∷ Create File root b ∷ Write (handle 1 2) 0 ABC ∷ Sync Settled ∷ Cut (all_but []) ∷ Open ∷ EndSurvey ∷ []) ++ (writes by (handle 2 3) 0 DEF ∷ [])

-- a's leaf stands; by the other plan it is lost
abbrev pub FreeBodyNeeded : Type 0
FreeBodyNeeded =
    (reply_after (two_files write) (Read (handle 1 2) 0 496) ≡ Bytes ABC)
    × (reply_after (two_files append_over_files) (Read (handle 1 2) 0 496) ≡ Refused 8 FileLayer 5)

-- ---- a folder with sound entries is not removed

-- does not ask whether the child has entries
unfoldable pub remove_full : Removing
remove_full f n c shown = do
  _ ← named n
  g ← c.ready
  let v = seen g shown
  r ← changing g v Folder f
  q ← demand (found g v f r n) (NoSuchName f.slot)
  let h = child_of (entry_of g q.cell)
  Ok (record { answer = tt; puts = with_cell v f r q blank_cell ∷ store (suc h.slot.0) blank ∷ []; card = c })

-- b/a is made, all is settled, and b is to be removed
abbrev pub nested : Removing → List (State → Turn)
nested by = start 3 ++ do_all (Create Folder root b ∷ Create File (handle 1 2) a ∷ Sync Settled ∷ []) ++ (removes by root b ∷ [])

-- b/a leads to the settled file; by the other plan nowhere
abbrev pub EmptyFolderNeeded : Type 0
EmptyFolderNeeded =
    (reply_after (nested remove) (Path (b ++ (47 ∷ a))) ≡ At (handle 2 3))
    × (reply_after (nested remove_full) (Path (b ++ (47 ∷ a))) ≡ Stopped 9 FileLayer 0 0)
