-- What a settled sync keeps, over whole histories.
use Rattle.std.proofs.Common.{◌≡◌, ℕ, suc, ◌<◌, Bool, false, cond, ◌⊎◌, List, [], ◌∷◌, ◌++◌, length, Ok, Err, Option, sym, refl, ap, ◌∙◌, subst, inl, inr, arith}
use Rattle.base.specs.declared.owner.Kind.TheVariants.{File}
use Rattle.base.specs.declared.owner.Handle.{Handle}
use Rattle.device.specs.Model.{Model, OnlyShown}
use Rattle.device.specs.Answers.{SyncAnswer}
use Rattle.device.specs.declared.fault.Synced.{Synced}
use Rattle.device.specs.declared.fault.Synced.TheVariants.{Settled as SettledAnswer, Unsure}
use Rattle.layout.specs.Format.{Name, Geometry, back, Slot, Content, slotted}
use Rattle.rule.specs.Agree.{count, number, root}
use Rattle.rule.specs.Card.{Ready}
use Rattle.rule.specs.Reading.{components, Status}
use Rattle.rule.specs.Changing.{synced}
use Rattle.rule.specs.Meaning.{Fits, the_root}
use Rattle.rule.specs.Readings.{Leads}
use Rattle.rule.proofs.Plans.{clash_ok}
use Rattle.rule.proofs.Answered.{path_means, status_means}
use Rattle.history.specs.Events.{State, sync, ByDevice}
use Rattle.history.specs.History.{Moment, present, History, Deed, gives, maker}
use Rattle.history.specs.Laws.{after, Touches, Untouched, SettledFilesStay}
use Rattle.history.proofs.Log.{did}
use Rattle.history.proofs.Stands.{May, view, may_shown, may_fewer, told_own, Inv}
use Rattle.history.proofs.Sorts.{Allowed}
use Rattle.history.proofs.Moves.{Quiet, Busy, moves}
use Rattle.history.proofs.Invariant.{joins, history_inv}
use Rattle.history.proofs.Trail.{leaf_in, Link, FileKept, LeafKept, Trail, trail_way, trail_file, trail_reached, file_fits, settled_trail, settled_leaf}
use Rattle.history.proofs.Keep.{trail_kept, leaf_kept}
use Rattle.history.proofs.Leaves.{read_same}

-- the path and the leaves, from one model to the next
abbrev Stay : Geometry → Model → Model → List Name → Handle → Slot → Type 0
Stay g m n ns h r = Trail g n root ns h r × ((k : ℕ) (a : Option (List ℕ)) → k < count r → LeafKept g m h r k a → LeafKept g n h r k a)

-- where nothing is added
module _ (g : Geometry) (m n : Model) (sub : (b : ℕ) (y : Content) → May g n b y → May g m b y) where
  link_sub : (f : Handle) (a : Name) (c : Handle) → Link g m f a c → Link g n f a c
  link_sub f a c l = record {
    leaf = l.leaf;
    place = l.place;
    body = l.body;
    inside = l.inside;
    region = l.region;
    slots = λ y i. l.slots y (sub (suc f.slot.0) y i);
    bodies = λ y i. l.bodies y (sub (l.body l.leaf) y i);
    earlier = λ j q es d before i here inside r ir. l.earlier j q es d before (sub (l.body j) _ i) here inside r (sub (suc d.slot.0) (slotted r) ir);
    child_inside = l.child_inside;
    childs = λ y i. l.childs y (sub (suc c.slot.0) y i);
  }

  trail_sub : (f : Handle) (ns : List Name) (h : Handle) (r : Slot) → Trail g m f ns h r → Trail g n f ns h r
  trail_sub f [] h r t = (t.0, record { inside = t.1.inside; slots = λ y i. t.1.slots y (sub (suc h.slot.0) y i); same = t.1.same; kind = t.1.kind; region = t.1.region })
  trail_sub f (a ∷ ns) h r t = (t.0, link_sub f a t.0 t.1, trail_sub t.0 ns h r t.2)

  sub_stays : (ns : List Name) (h : Handle) (r : Slot) → Trail g m root ns h r → Stay g m n ns h r
  sub_stays ns h r t = (trail_sub root ns h r t, λ k a low lk y i. lk y (sub (number r k) y i))

module _ (g : Geometry) (s : State) (ms : List Moment) (iv : Inv g s ms (present s ms)) (m : Moment) (ns : List Name) (h : Handle) (r : Slot)
    (tr : Trail g (present s ms).device root ns h r) where
  abbrev u : Model
  u = (present s ms).device

  file : FileKept g u h r
  file = trail_file g u root ns h r tr

  move_stays : (Touches (did s m ms) h → ⊥) → Quiet g s ms m ⊎ Busy g s ms m → Stay g u m.state.device ns h r
  move_stays calm (inl q) = sub_stays g u m.state.device (may_fewer g u m.state.device q.fewer) ns h r tr
  move_stays calm (inr w) = (
    trail_kept g u w.memory.highest w.counted w.doing m.state.device join h r quiet root ns the_root tr,
    λ k a low lk. leaf_kept g u w.memory.highest w.counted w.doing m.state.device join h r file (trail_reached g u root ns h r the_root tr) quiet k a low lk,
  )
    where
      quiet : Touches w.doing h → ⊥
      quiet t = calm (subst (λ (d : Deed). Touches d h) (sym w.done) t)

      join : (b : ℕ) (y : Content) → May g m.state.device b y → May g u b y ⊎ Allowed g (view g u) w.memory.highest w.doing b y
      join b y i = elim (joins g s ms iv m w b y i) [ inl old ↦ inl old | inr new ↦ inr new.2 ]

  -- no create gives the handle of a file that stands
  not_given : Quiet g s ms m ⊎ Busy g s ms m → gives (did s m ms) h ≡ false
  not_given (inl q) = ap (λ (d : Deed). gives d h) q.idle
  not_given (inr w) =
      let f = file_fits g u h r file in
      let all = w.counted (suc h.slot.0) (slotted r) (may_shown g u (suc h.slot.0) (slotted r) f.holds) in
      let low = told_own g r in
      let same = f.same in
      w.new h (omega arith)

-- a settled sync leaves only what is shown
sync_settles : (x : Ready) (s t : State) → ByDevice x s (Ok tt) t → OnlyShown t.device
unfolding synced
sync_settles (Err e) s t w = clash_ok (sym w.0)
sync_settles (Ok g) s t (inr w) = clash_ok (sym w.2)
sync_settles (Ok g) s t (inl w) = go w.0 w.1 w.2
  where
    go : (a : Synced) → Ok tt ≡ synced a → SyncAnswer s.device t.device a → OnlyShown t.device
    go SettledAnswer e q = q.only
    go Unsure e q = clash_ok (sym e)

module _ (g : Geometry) (s t : State) (older : List Moment) (ns : List Name) (h : Handle) (r : Slot)
    (way : Leads g (view g t.device) root ns h) (fits : Fits g (view g t.device) h r) (kind : r.kind ≡ File) where
  abbrev base : List Moment
  base = after (sync (Ok tt)) t older

  abbrev Later : List Moment → Type 0
  Later newer = Trail g (present s (newer ++ base)).device root ns h r
      × ((k : ℕ) → k < count r → LeafKept g (present s (newer ++ base)).device h r k (leaf_in (back h k) (view g t.device (number r k))))
      × (maker s (newer ++ base) h ≡ maker s base h)

  later : (newer : List Moment) → History g s (newer ++ base) → Untouched s base newer h → Later newer
  later [] hist un =
      let only = sync_settles hist.1.memory.ready (present s older) t hist.1.turn in
      (settled_trail g t.device only root ns h r way fits kind, λ k low. settled_leaf g t.device only h r k, refl)
  later (m ∷ newer) hist un =
      let b = later newer hist.0 un.0 in
      let iv = history_inv g s (newer ++ base) hist.0 in
      let mv = moves g s (newer ++ base) iv m.state m.event hist.1 in
      let stay = move_stays g s (newer ++ base) iv m ns h r b.0 (λ touched. un.1 touched b.2) mv in
      let ng = not_given g s (newer ++ base) iv m ns h r b.0 mv in (
        stay.0,
        λ k low. stay.1 k (leaf_in (back h k) (view g t.device (number r k))) low (b.1 k low),
        ap (λ (x : Bool). cond x (suc (length (newer ++ base))) (maker s (newer ++ base) h)) ng ∙ b.2,
      )

pub files_stay : SettledFilesStay
files_stay g s t older newer p h hist at un =
    let a = (path_means p g t.device.shown h).0 at.path in
    let f = (status_means h g t.device.shown at.status).0 at.told in
    let r = f.0 in
    let kind : r.kind ≡ File = ap (λ (x : Status). x.kind) (sym f.2) ∙ at.kind in
    let b = later g s t older (components p) h r a.1 f.1 kind newer hist un in
    let n = (present s (newer ++ after (sync (Ok tt)) t older)).device in
    let fits = file_fits g n h r (trail_file g n root (components p) h r b.0) in (
      record {
        path = (path_means p g n.shown h).1 (a.0, trail_way g n root (components p) h r b.0);
        leaves = λ k room. read_same h k room g n.shown t.device.shown r fits f.1 kind (λ low. b.1 k low (view g n (number r k)) (may_shown g n (number r k) (view g n (number r k)) refl));
      },
      b.2,
    )
