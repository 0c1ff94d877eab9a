-- The space of a surveyed card.
use Rattle.std.proofs.Common.{◌≡◌, ℕ, Ok, Err, sym, refl, ap, ◌∙◌, inl}
use Rattle.base.specs.declared.refusal.Refusal.{Refusal}
use Rattle.base.specs.declared.refusal.Refusal.TheVariants.{PowerGone}
use Rattle.device.specs.Model.{Model}
use Rattle.layout.specs.Sizes.{sizes}
use Rattle.layout.specs.declared.geometry.Geometry.{Geometry as CardGeometry}
use Rattle.marks.specs.Marks.{bodies_left, slots_left}
use Rattle.marks.specs.declared.mark.Marks.{Marks}
use Rattle.marks.proofs.Telling.{marks_tell}
use Rattle.rule.specs.Agree.{Shown, free_slots}
use Rattle.rule.specs.Check.{Answer, ◌>>=◌}
use Rattle.rule.specs.Reading.{Space, space}
use Rattle.history.specs.Events.{Reads}
use Rattle.walk.specs.Still.{shows}
use Rattle.walk.proofs.Stills.{still}
use Rattle.change.specs.declared.plan.Memory.{Memory}
use Rattle.card.specs.Valid.{Knows, surveyed_state}
use Rattle.card_lists.specs.Ready.{Kept, ready_view}
use Rattle.card.proofs.Plans.{grounded}

space_bad : (e : Refusal) (shown : Shown) → space (Err e) shown ≡ Err e
unfolding space ◌>>=◌
space_bad e shown = refl

space_is : (g : CardGeometry) (mem : Memory) (ms : Marks) (m : Model) → Knows g mem ms m → space (Ok (sizes g)) m.shown ≡ Ok (record { bodies = bodies_left (sizes g) ms; slots = slots_left (sizes g) ms })
unfolding space ◌>>=◌
space_is g mem ms m w =
    let t = grounded g mem ms m w in
    let tells = marks_tell (sizes g) (shows g m) ms t.rooted t.marked in
    ap (λ (b : ℕ). Ok (record { bodies = b; slots = free_slots (sizes g) (shows g m) })) tells.bodies_count
    ∙ ap (λ (s : ℕ). Ok (record { bodies = bodies_left (sizes g) ms; slots = s })) tells.slots_count

reads_space : (c : Kept) (mem : Memory) (m : Model) (r : Answer Space) → r ≡ space (ready_view c) m.shown → Reads PowerGone space (surveyed_state c mem m) r (surveyed_state c mem m)
reads_space c mem m r e = record { ready = ready_view c; has = refl; turn = inl (e, record { kept = (still m).kept; power = refl; card = refl }) }

pub space_early : (c : Kept) (mem : Memory) (m : Model) (r : Answer Space) (d e : Refusal) → c ≡ Err e → r ≡ Err d → d ≡ e → Reads PowerGone space (surveyed_state c mem m) r (surveyed_state c mem m)
space_early c mem m r d e is p q = reads_space c mem m r (p ∙ ap Err q ∙ sym (ap (λ (z : Kept). space (ready_view z) m.shown) is ∙ space_bad e m.shown))

pub space_told : (c : Kept) (g : CardGeometry) (mem : Memory) (ms : Marks) (m : Model) (bodies slots : ℕ) → c ≡ Ok g → Knows g mem ms m → bodies ≡ bodies_left (sizes g) ms → slots ≡ slots_left (sizes g) ms →
    Reads PowerGone space (surveyed_state c mem m) (Ok (record { bodies = bodies; slots = slots })) (surveyed_state c mem m)
space_told c g mem ms m bodies slots is w b s = reads_space c mem m _
    (ap (λ (x : ℕ). Ok (record { bodies = x; slots = slots })) b ∙ ap (λ (x : ℕ). Ok (record { bodies = bodies_left (sizes g) ms; slots = x })) s
    ∙ sym (ap (λ (z : Kept). space (ready_view z) m.shown) is ∙ space_is g mem ms m w))
