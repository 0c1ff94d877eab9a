-- What a scan by the marks finds is what the rule finds.
use Rattle.std.proofs.Common.{◌≡◌, Bool, true, cond, not, ◌&&◌, List, [], ◌∷◌, Some, None, Ok, Option, sym, refl, ap, ◌∙◌, subst, inl, inr}
use Rattle.std.specs.Borrow.{Bor}
use Rattle.base.specs.declared.owner.Handle.{Handle}
use Rattle.device.specs.Model.{In}
use Rattle.layout.specs.Format.{Geometry, Name, Slot, Entry, entry, no_entry, entry_of}
use Rattle.marks.specs.Laws.{Tells}
use Rattle.marks.specs.declared.mark.Marks.{Marks}
use Rattle.rule.specs.Agree.{View, Place, first, sound, agrees, has_name, found, places, reached}
use Rattle.rule.specs.Changing.{open_place}
use Rattle.rule.specs.Meaning.{Fits, under, Rooted}
use Rattle.rule.specs.Reading.{child_of}
use Rattle.rule.proofs.Means.{found_is_found, reached_fits, reached_from}
use Rattle.base.specs.declared.owner.Kind.TheVariants.{Folder}
use Rattle.device.specs.Model.{Model}
use Rattle.layout.specs.Sizes.{sizes}
use Rattle.layout.specs.declared.geometry.Geometry.{Geometry as CardGeometry}
use Rattle.rule.specs.Agree.{Shown, seen}
use Rattle.rule.specs.Changing.{changing}
use Rattle.rule.proofs.Plans.{changing_ok}
use Rattle.walk.specs.Copies.{copied}
use Rattle.walk.specs.Still.{Still, shows}
use Rattle.walk.specs.declared.slot.SlotCopy.{SlotCopy}
use Rattle.change.specs.Scanning.{marked, first_sought, SpotAt, SpotOr, Scanned}
use Rattle.change.specs.declared.scan.Scan.{Scan}
use Rattle.change.specs.declared.scan.Spot.{Spot}
use Rattle.change.specs.declared.scan.Sought.TheVariants.{Entry as AnyEntry, Named, Open}

-- tests that agree on these find the same
first_same : {A : Type 0} (p s : A → Bool) (xs : List A) → ((x : A) → In x xs → p x ≡ s x) → first p xs ≡ first s xs
unfolding In
first_same p s [] h = refl
first_same p s (x ∷ xs) h =
    ap (λ (b : Bool). cond b (Some x) (first p xs)) (h x (inl refl)) ∙ ap (λ (o : Option _). cond (s x) (Some x) o) (first_same p s xs (λ y w. h y (inr w)))

module _ (g : Geometry) (v : View) (ms : Marks) (f : Handle) (r : Slot) (t : Tells g v ms) (fit : Fits g v f r) (near : reached g v f.slot.0 ≡ true) where
  marked_sound : (q : Place) → In q (places v f r) → marked ms f (entry_of g q.cell) ≡ sound g v f q
  marked_sound q w = go (entry_of g q.cell) refl
    where
      go : (e : Entry) → entry_of g q.cell ≡ e → marked ms f e ≡ agrees g v f e
      go (entry m c) is = sym (t.entry_is f r q m c fit near w is)
      go no_entry is = refl

  pub named_is : (n : Bor Name) → first_sought g ms f (Named n) (places v f r) ≡ found g v f r n.now
  named_is n = first_same _ _ (places v f r) (λ q w. ap (λ (b : Bool). has_name n.now (entry_of g q.cell) && b) (marked_sound q w))

  pub entry_is : first_sought g ms f AnyEntry (places v f r) ≡ first (sound g v f) (places v f r)
  entry_is = first_same _ _ (places v f r) marked_sound

  pub open_is : first_sought g ms f Open (places v f r) ≡ open_place g v f r
  open_is = first_same _ _ (places v f r) (λ q w. ap not (marked_sound q w))

-- the child of the entry that is found is reached, and fits
pub record Child (g : Geometry) (v : View) (c : Handle) : Type 0 where
  pub slot : Slot
  pub fits : Fits g v c slot
  pub near : reached g v c.slot.0 ≡ true

pub found_child : (g : Geometry) (v : View) (f : Handle) (r : Slot) (n : Name) (q : Place) → Rooted g v → Fits g v f r → reached g v f.slot.0 ≡ true → found g v f r n ≡ Some q → Child g v (child_of (entry_of g q.cell))
found_child g v f r n q rooted fit near e =
    let w = (found_is_found g v f r n fit).0 q e in
    let s = w.2.sound in
    subst (Child g v) (sym (ap child_of w.1)) (record { slot = s.child; fits = s.child_fits; near = reached_from g v w.0 (under (reached_fits g v f r rooted fit near) s) })

-- a scan for the name, made after m
module _ (g : CardGeometry) (m k : Model) (ms : Marks) (f : Handle) (s : SlotCopy) (n : Bor Name) (x : Scan) (t : Tells (sizes g) (shows g m) ms) (still : Still m k)
    (slot : changing (sizes g) (shows g m) Folder f ≡ Ok (copied s)) (scanned : Scanned (sizes g) (shows g k) ms f (copied s) (Named n) x) where
  pub scan_moved : Scanned (sizes g) (shows g m) ms f (copied s) (Named n) x
  scan_moved = subst (λ (y : Shown). Scanned (sizes g) (seen (sizes g) y) ms f (copied s) (Named n) x) still.kept.shown scanned

  name_is : first_sought (sizes g) ms f (Named n) (places (shows g m) f (copied s)) ≡ found (sizes g) (shows g m) f (copied s) n.now
  name_is = let c = changing_ok (sizes g) (shows g m) Folder f (copied s) slot in named_is (sizes g) (shows g m) ms f (copied s) t c.fits c.reached n

  pub named_none : x.found ≡ None → found (sizes g) (shows g m) f (copied s) n.now ≡ None
  named_none e = sym name_is ∙ subst (SpotOr (shows g m) (copied s) (first_sought (sizes g) ms f (Named n) (places (shows g m) f (copied s))) None) e scan_moved.found

  pub named_some : (y : Spot) → x.found ≡ Some y → (q : Place) × (found (sizes g) (shows g m) f (copied s) n.now ≡ Some q) × SpotAt (shows g m) (copied s) q y
  named_some y e =
      let w = subst (SpotOr (shows g m) (copied s) (first_sought (sizes g) ms f (Named n) (places (shows g m) f (copied s))) None) e scan_moved.found in
      (w.0, sym name_is ∙ w.1, w.2)

  -- and the open place that it met
  pub vacant_is : x.found ≡ None → SpotOr (shows g m) (copied s) (open_place (sizes g) (shows g m) f (copied s)) None x.vacant
  vacant_is e =
      let c = changing_ok (sizes g) (shows g m) Folder f (copied s) slot in
      subst (λ (o : Option Place). SpotOr (shows g m) (copied s) o None x.vacant) (open_is (sizes g) (shows g m) ms f (copied s) t c.fits c.reached) (scan_moved.vacant e)
