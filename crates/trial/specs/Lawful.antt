-- The three laws of one history, at each of its points.
use Rattle.std.specs.Prelude.{◌≡◌, ℕ, List, ◌++◌, Ok, Result}
use Rattle.base.specs.declared.owner.Handle.{Handle}
use Rattle.base.specs.declared.refusal.PathRefusal.{PathRefusal}
use Rattle.layout.specs.Format.{Name, Geometry}
use Rattle.rule.specs.Agree.{seen, root}
use Rattle.rule.specs.Reading.{components}
use Rattle.history.specs.Events.{State, find, path, read, sync}
use Rattle.history.specs.History.{Moment, present, maker}
use Rattle.history.specs.Laws.{after, Written, Made, OnTheWay, FileAt, Untouched, SameFile}

pub record Lawful (g : Geometry) (s : State) (ms : List Moment) : Type 0 where
  -- each accepted read answered the whole of what one earlier write gave for that leaf of that same file
  pub reads : (newer older : List Moment) (t : State) (h : Handle) (k room : ℕ) (x : List ℕ) →
      ms ≡ newer ++ after (read h k room (Ok x)) t older → Written s older h k x
  -- each find led only to what was made in that same folder under that same name
  pub finds : (newer older : List Moment) (t : State) (f : Handle) (n : Name) (c : Handle) →
      ms ≡ newer ++ after (find f n (Ok c)) t older → Made s older f n c
  -- and so did each step of a path, also of one that was refused further on
  pub paths : (newer older : List Moment) (t : State) (p : List ℕ) (r : Result Handle PathRefusal) (f : Handle) (n : Name) (c : Handle) →
      ms ≡ newer ++ after (path p r) t older → OnTheWay g (seen g (present s older).device.shown) root (components p) f n c → Made s older f n c
  -- a file on its path at a settled sync: at each later point before a write, shorten or remove of it, its path led to
  -- it and each leaf number gave the same
  pub settled : (newest newer older : List Moment) (t : State) (p : List ℕ) (h : Handle) →
      ms ≡ newest ++ (newer ++ after (sync (Ok tt)) t older) → FileAt g t p h → Untouched s (after (sync (Ok tt)) t older) newer h →
      SameFile g t (present s (newer ++ after (sync (Ok tt)) t older)) p h
      × (maker s (newer ++ after (sync (Ok tt)) t older) h ≡ maker s (after (sync (Ok tt)) t older) h)
