-- One block examined more.
use Rattle.std.proofs.Common.{◌≡◌, ℕ, suc, ◌+◌, ◌-◌, ◌<◌, max, ltb, length, Ok, sym, refl, ap, ◌∙◌, subst, inl, inr, arith}
use Rattle.std.proofs.Math.Logic.{∥∥₁_map}
use Rattle.std.proofs.lemmas.Grind.{merely}
use Rattle.std.proofs.lemmas.Bool.{cases_lt, lt-ltb, cond-true}
use Rattle.base.specs.declared.number.Identity.{Identity}
use Rattle.moves.proofs.Lands.{limits_of}
use Rattle.device.specs.Model.{Model, Block}
use Rattle.layout.specs.Format.{Geometry, parse}
use Rattle.layout.specs.Identities.{told}
use Rattle.layout.specs.Sizes.{sizes}
use Rattle.layout.specs.declared.geometry.Geometry.{Geometry as CardGeometry}
use Rattle.rule.specs.Agree.{Shown, View, seen}
use Rattle.rule.specs.Card.{Opened, Surveying, examined, survey_step, surveyed}
use Rattle.rule.proofs.Answered.{steps_agree}
use Rattle.survey.specs.Survey.{Apart, Sofar}
use Rattle.survey.proofs.Begins.{apart_seen}
use Rattle.survey.specs.declared.survey.Survey.{Survey}
use Rattle.walk.specs.Still.{shows}
use Rattle.walk.proofs.Stepping.{bind_ok}
use Rattle.card.specs.Progress.{Learned, so_far}
use Rattle.card.specs.declared.progress.Progress.{Progress}

module _ (g : CardGeometry) (m : Model) (p : Progress) (w : Learned g m p) (x : Block) (bytes : x ≡ m.shown p.next) where
  -- what the block holds, as the device shows it
  pub shown_next : shows g m p.next ≡ parse (sizes g) p.next x
  shown_next = ap (parse (sizes g) p.next) (sym bytes)

  pub learned_more : (high : Identity) (t : Survey) → p.next < g.blocks → length x ≡ 512 → (Sofar (sizes g) (shows g m) p.next p.survey → Sofar (sizes g) (shows g m) (suc p.next) t) → Learned g m (record { next = p.next + 1; highest = high; survey = t })
  learned_more high t l long s = record {
    low = omega arith;
    high = omega arith;
    sofar = ∥∥₁_map w.sofar (λ o. subst (λ (n : ℕ). Sofar (sizes g) (shows g m) n t) (omega arith) (s o));
    whole = λ b low less. elim (cases_lt b p.next) [
      | inl q ↦ w.whole b low q
      | inr q ↦ ap (λ (i : ℕ). length (m.shown i)) (omega arith) ∙ ap length (sym bytes) ∙ long
    ];
  }

  pub examined_so : (t : Survey) (high top : ℕ) → high ≡ max p.highest.0 top → top ≡ told (sizes g) (parse (sizes g) p.next x) →
      so_far (Ok (sizes g)) (record { next = p.next + 1; highest = record { 0 = high }; survey = t }) ≡ examined (sizes g) m.shown (so_far (Ok (sizes g)) p)
  examined_so t high top h e =
      ap (λ (n : ℕ). record { ready = Ok (sizes g); next = n; highest = high }) (omega arith)
      ∙ ap (λ (n : ℕ). record { ready = Ok (sizes g); next = suc p.next; highest = n }) (h ∙ ap (max p.highest.0) (e ∙ ap (λ (z : Block). told (sizes g) (parse (sizes g) p.next z)) bytes))

-- examining a block changes nothing of what the end of the survey gives
pub examined_agrees : (g : Geometry) (o : Opened) (shown : Shown) → o.ready ≡ Ok g → o.next < g.blocks → surveyed (examined g shown o) shown ≡ surveyed o shown
unfolding survey_step
examined_agrees g o shown r l = steps_agree o shown after (bind_ok o.ready _ g r ∙ ap Ok (cond-true (ltb o.next g.blocks) after (record { remain = 0; card = o }) (lt-ltb o.next g.blocks l)))
  where
    after : Surveying
    after = record { remain = g.blocks - suc o.next; card = examined g shown o }

-- what was learned is of what is shown
pub learned_moved : (g : CardGeometry) (m k : Model) (p : Progress) → k.shown ≡ m.shown → Learned g m p → Learned g k p
learned_moved g m k p e w = record {
  low = w.low;
  high = w.high;
  sofar = subst (λ (f : Shown). ∥ Sofar (sizes g) (seen (sizes g) f) p.next p.survey ∥₁) (sym e) w.sofar;
  whole = λ b l q. ap (λ (f : Shown). length (f b)) e ∙ w.whole b l q;
}

-- one turn: a device in state k shows what m showed
pub turn_agrees : (g : CardGeometry) (m k : Model) (p q : Progress) → k.shown ≡ m.shown → p.next < g.blocks → so_far (Ok (sizes g)) q ≡ examined (sizes g) k.shown (so_far (Ok (sizes g)) p) →
    surveyed (so_far (Ok (sizes g)) q) m.shown ≡ surveyed (so_far (Ok (sizes g)) p) m.shown
turn_agrees g m k p q e l h =
    ap (λ (o : Opened). surveyed o m.shown) (h ∙ ap (λ (f : Shown). examined (sizes g) f (so_far (Ok (sizes g)) p)) e)
    ∙ examined_agrees (sizes g) (so_far (Ok (sizes g)) p) m.shown refl l

-- a survey that only begins has learned nothing yet
pub learned_none : (t : Survey) → ((g : Geometry) (v : View) → Apart g v → Sofar g v 1 t) → (g : CardGeometry) (m : Model) → Learned g m (record { next = 1; highest = record { 0 = 0 }; survey = t })
learned_none t s g m = record {
  low = omega arith;
  high = (let w = (limits_of (sizes g) g.ok).bodies in omega arith);
  sofar = merely (s (sizes g) (shows g m) (apart_seen (sizes g) m.shown));
  whole = λ b l q. absurd (omega arith);
}
