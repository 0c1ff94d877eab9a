-- What the steps of a buffered card do to its model.
use Rattle.std.proofs.Common.{◌≡◌, ℕ, ◌<◌, Bool, true, false, ◌⊎◌, List, length, set, Some, None, Ok, Err, Option, Result, is_err, sym, refl, ap, ◌∙◌, subst, inl, inr, ⊎_elim, arith}
use mathlib.Core.Path.{fun_ext}
use Rattle.base.specs.declared.number.BlockNo.{BlockNo}
use Rattle.device.specs.Model.{Model, Block, In, Stands, Is, Kept, Stayed, Lost, Written, Torn, Cut, put}
use Rattle.device.specs.Answers.{Read, ReadFault, Write, WriteFault, SyncAnswer, Sync, power_gone}
use Rattle.device.specs.declared.put.Put.{Put}
use Rattle.device.specs.declared.fault.Fault.{Fault}
use Rattle.device.specs.declared.fault.Fault.TheVariants.{PowerGone, NoSuchBlock}
use Rattle.device.specs.declared.fault.Synced.{Synced}
use Rattle.device.specs.declared.fault.Synced.TheVariants.{Settled as SettledAnswer, Unsure}
use Rattle.buffered.specs.Buffered.{Table, State, buffered, over, standing, at_place, Used, Holds, block_of, number, contents, Found, Absent, Top, Empty, Inside, waiting}
use Rattle.buffered.specs.Steps.{put_of, Alone, met, Unsent, Stored, replaced, added, evicted, Accepted, none, more, SyncBy}
use Rattle.buffered.specs.Inner.{TopPut, SentDown, Halted, Made, own, free, emptied, Placed, Sending}
use Rattle.buffered.proofs.Tables.{Waits, standing_cases, standing_below, standing_waits, over_sent, waits_sent, waits_place, over_hidden, over_filled, waits_filled, over_found, over_absent, over_empty, waits_empty, waiting_sent}

-- what may stand at the card, case by case
standing_to : (ws : Table) (s : ℕ → List Block) (b : ℕ) (x : Block) → In x (s b) ⊎ Waits ws b x → In x (standing ws s b)
standing_to ws s b x = ⊎_elim (standing_below ws s b x) (standing_waits ws s b x)

held_is_used : (o : Option Put) (b : ℕ) → Holds o b → Used o × (number o ≡ b)
held_is_used None b h = absurd h
held_is_used (Some w) b h = (tt, sym h)

abbrev pub state : Table → Bool → Model → State
state ws g m = record { table = ws; gone = g; below = m }

pub alone : (s : State) → Alone s s
alone s = record { table = refl; gone = refl; below = refl }

-- ---- a block is sent down

module _ (ws : Table) (m n : Model) (i : ℕ) (top : Top ws i) where
  abbrev b : ℕ
  b = number (at_place ws i)

  abbrev c : Block
  c = contents (at_place ws i)

  none_later : (k : ℕ) → i < k → k < length ws → Holds (at_place ws k) b → ⊥
  none_later k l r q = let p = held_is_used (at_place ws k) b q in omega (arith, top.last k l r p.0, p.1)

  -- what may stand below once the block was written there could stand, or waits
  was_waiting : ((j : ℕ) (x : Block) → Stands n j x → Stands m j x ⊎ Is b c j x) → (j : ℕ) (x : Block) → Stands n j x → Stands m j x ⊎ Waits ws j x
  was_waiting within j x s =
      ⊎_elim inl (λ e. inr (rw (e.0, e.1) (waits_place ws i top.here))) (within j x s)

  -- it was accepted below
  stayed_sent : (g : Bool) → g ≡ false → Written b c m n → Stayed (buffered (state ws g m)) (buffered (state (set ws i None) g n))
  stayed_sent g on w = record {
    kept = record {
      count = w.count;
      shown = rw w.shown (fun_ext (over_sent ws m.shown i top.here none_later));
      stands = λ j x s.
          standing_to ws m.may j x
          (⊎_elim (was_waiting w.stands j x) (λ q. inr (waits_sent ws i j x q)) (standing_cases (set ws i None) n.may j x s));
    };
    was_on = rw on;
    on = rw on;
  }

  -- power was lost meanwhile
  lost_torn : (g : Bool) → Torn b c m n → Lost (buffered (state ws g m)) (buffered (state ws true n))
  lost_torn g t = record {
    kept = record {
      count = t.count;
      shown = ⊎_elim (λ e. ap (over ws) e) (λ e. rw e (fun_ext (over_hidden ws m.shown i c top.here))) t.shown;
      stands = λ j x s.
          standing_to ws m.may j x (⊎_elim (was_waiting t.stands j x) inr (standing_cases ws n.may j x s));
    };
    off = refl;
  }

-- nothing changed below
kept_below : (s : State) (h : Bool) (n : Model) → Kept s.below n → Kept (buffered s) (buffered (state s.table h n))
kept_below s h n k = record {
  count = k.count;
  shown = ap (over s.table) k.shown;
  stands = λ j x q.
      standing_to s.table s.below.may j x (⊎_elim (λ l. inl (k.stands j x l)) inr (standing_cases s.table n.may j x q));
}

lost_below : (s : State) (n : Model) → Kept s.below n → Lost (buffered s) (buffered (state s.table true n))
lost_below s n k = record { kept = kept_below s true n k; off = refl }

-- the answer of the device below to the block that was sent down
module _ (s : State) (n : Model) (i : ℕ) (w : Put) (first : TopPut s.table i w) where
  abbrev ws : Table
  ws = s.table

  abbrev m : Model
  m = s.below

  abbrev top : Top ws i
  top = first.top

  abbrev is : at_place ws i ≡ Some w
  is = first.is

  pub sent_from : {U : Type 0} (r : Result U Fault) → is_err r ≡ false → s.gone ≡ false → Write w.block w.bytes r m n → SentDown s i (state (set ws i None) s.gone n)
  sent_from (Ok u) e on h =
      let here : Written (number (at_place ws i)) (contents (at_place ws i)) m n = rw is h in
      record { sent = record { top = top; below = here; table = refl }; gone = refl; stayed = stayed_sent ws m n i top s.gone on here }
  sent_from (Err f) e on h = absurd (cc)

  lost_from : (e : Fault) → WriteFault (block_of (at_place ws i)) (contents (at_place ws i)) m n e → Lost (buffered s) (buffered (state ws true n))
  lost_from (PowerGone p) h = ⊎_elim (λ l. lost_below s n l.kept) (lost_torn ws m n i top s.gone) h.1
  lost_from (NoSuchBlock p) h = lost_below s n h.stayed.kept

  pub halted_from : {U : Type 0} (r : Result U Fault) → is_err r ≡ true → Write w.block w.bytes r m n → Halted s i (state ws true n)
  halted_from (Ok u) e h = absurd (cc)
  halted_from (Err f) e h =
      let here : WriteFault (block_of (at_place ws i)) (contents (at_place ws i)) m n f = rw is h in
      record { table = refl; gone = refl; fault = f; below = here; lost = lost_from f here }

-- where every waiting block is one of the device's, only power gone refuses it
unsent_by : (s : State) (i : ℕ) (t : State) → Top s.table i → Inside s.table s.below.count → t.table ≡ s.table → t.gone ≡ true → (e : Fault) → WriteFault (block_of (at_place s.table i)) (contents (at_place s.table i)) s.below t.below e → Unsent s i t
unsent_by s i t top inside table gone (PowerGone p) f = record { top = top; below = (refl, f.1); table = table; gone = gone }
unsent_by s i t top inside table gone (NoSuchBlock p) f = absurd (omega (arith, f.past, inside i top.here))

pub unsent : (s : State) (i : ℕ) (t : State) → Top s.table i → Inside s.table s.below.count → Halted s i t → Unsent s i t
unsent s i t top inside d = unsent_by s i t top inside d.table d.gone d.fault d.below

-- ---- a place for a block

pub same_stayed : (s : State) → s.gone ≡ false → Stayed (buffered s) (buffered s)
same_stayed s on = record { kept = record { count = refl; shown = refl; stands = λ i x q. q }; was_on = rw on; on = rw on }

-- ---- reading

pub read_found : (ws : Table) (m : Model) (b i : ℕ) (w : Put) → Found ws b i → at_place ws i ≡ Some w → w.bytes ≡ over ws m.shown b
read_found ws m b i w f e = let p = over_found ws m.shown b i f in sym (p ∙ ap contents e)

pub stayed_below : (s : State) (n : Model) → s.gone ≡ false → Stayed s.below n → Stayed (buffered s) (buffered (state s.table s.gone n))
stayed_below s n on h = record { kept = kept_below s s.gone n h.kept; was_on = rw on; on = rw on }

pub read_absent : (ws : Table) (m : Model) (b : ℕ) (x : Block) → Absent ws b → x ≡ m.shown b → x ≡ over ws m.shown b
read_absent ws m b x absent e = e ∙ sym (over_absent ws m.shown b absent)

fault_below : (s : State) (n : Model) (b : BlockNo) (e : Fault) → s.gone ≡ false → ReadFault b s.below n e → ReadFault b (buffered s) (buffered (state s.table (power_gone e) n)) e
fault_below s n b (PowerGone p) on h = (h.0, lost_below s n h.1.kept)
fault_below s n b (NoSuchBlock p) on h = record {
  place = h.place;
  past = h.past;
  stayed = record { kept = kept_below s false n h.stayed.kept; was_on = rw on; on = refl };
}

-- the answer of the device below to a block that does not wait
pub read_below : (s : State) (t : Bool) (n : Model) (b : BlockNo) (r : Result Block Fault) → s.gone ≡ false → t ≡ met r → b.0 < s.below.count → Absent s.table b.0 → Read b r s.below n → Read b r (buffered s) (buffered (state s.table t n))
read_below s t n b (Ok x) on is l absent h = record {
  within = l;
  bytes = read_absent s.table s.below b.0 x absent h.bytes;
  stayed = rw (is ∙ sym on) (stayed_below s n on h.stayed);
}
read_below s t n b (Err e) on is l absent h =
    subst (λ (x : Bool). ReadFault b (buffered s) (buffered (state s.table x n)) e) (sym is) (fault_below s n b e on h)

-- ---- writing

-- the card with block `at` put into place i
abbrev pub filled : State → ℕ → BlockNo → Block → State
filled t i at c = state (set t.table i (put_of at c)) t.gone t.below

pub written_placed : (s t : State) (at : BlockNo) (c : Block) (i : ℕ) → s.gone ≡ false → at.0 < s.below.count → Placed s at.0 i t → Written at.0 c (buffered s) (buffered (filled t i at c))
written_placed s t at c i on l p =
    let w : Put = record { block = at; bytes = c } in
    record {
      count = p.stayed.kept.count;
      was_on = rw on;
      on = p.stayed.on;
      within = l;
      shown =
          fun_ext (over_filled t.table t.below.shown w i p.fits.within p.fits.before p.fits.here)
          ∙ ap (λ (f : ℕ → Block). put f at.0 c) p.stayed.kept.shown;
      stands = λ j x h.
          let old : In x (t.below.may j) ⊎ Waits t.table j x → Stands (buffered s) j x = λ q. p.stayed.kept.stands j x (standing_to t.table t.below.may j x q) in
          ⊎_elim
          (λ q. inl (old (inl q)))
          (λ q. ⊎_elim (λ k. inl (old (inr k))) inr (waits_filled t.table w i j x q))
          (standing_cases (set t.table i (put_of at c)) t.below.may j x h);
    }

stored_by : (s t : State) (at : BlockNo) (c : Block) (i : ℕ) → Made s at.0 i t → Stored at c s (filled t i at c)
stored_by s t at c i (own f e q) = replaced i f (ap (λ (ws : Table). set ws i (put_of at c)) e) q
stored_by s t at c i (free a v e q) = added i a v (ap (λ (ws : Table). set ws i (put_of at c)) e) q
stored_by s t at c i (emptied a f h) = evicted i t a f h refl refl

pub accepted_placed : (s t : State) (at : BlockNo) (c : Block) (i : ℕ) → s.gone ≡ false → Placed s at.0 i t → Accepted at c s (filled t i at c)
accepted_placed s t at c i on p =
    record { was = on; gone = p.gone ∙ on; stored = stored_by s t at c i p.made }

-- ---- syncing

-- all that a sync promises
pub record SyncEnds (r : Result Synced Fault) (s t : State) : Type 0 where
  pub answer : Sync r (buffered s) (buffered t)
  pub exact : SyncBy r s t

kept_trans : (m k n : Model) → Kept m k → Kept k n → Kept m n
kept_trans m k n a b = record {
  count = b.count ∙ a.count;
  shown = b.shown ∙ a.shown;
  stands = λ i x s. a.stands i x (b.stands i x s);
}

pub stayed_trans : (m k n : Model) → Stayed m k → Stayed k n → Stayed m n
stayed_trans m k n a b = record { kept = kept_trans m k n a.kept b.kept; was_on = a.was_on; on = b.on }

pub lost_after : (m k n : Model) → Stayed m k → Lost k n → Lost m n
lost_after m k n a b = record { kept = kept_trans m k n a.kept b.kept; off = b.off }

pub fewer_wait : (s : State) (i : ℕ) (t : State) → SentDown s i t → waiting t.table < waiting s.table
fewer_wait s i t h = rw h.sent.table (waiting_sent s.table i h.sent.top.here)

pub sending_none : (s : State) → s.gone ≡ false → Sending s s
sending_none s on = record { gone = on; stayed = same_stayed s on; drained = none refl refl }

-- the card was s; some blocks went down, which left u
module _ (s u : State) (so_far : Sending s u) where
  pub sending_more : (i : ℕ) (t : State) → SentDown u i t → Sending s t
  sending_more i t h = record {
    gone = h.gone ∙ so_far.gone;
    stayed = stayed_trans (buffered s) (buffered u) (buffered t) so_far.stayed h.stayed;
    drained = more so_far.drained h.sent;
  }

  -- one could not be sent down
  pub sync_halted : (i : ℕ) (t : State) (p : BlockNo) → p.0 ≡ 65535 → Top u.table i → Inside u.table u.below.count → Halted u i t → SyncEnds (Err (PowerGone p)) s t
  sync_halted i t p is top inside d = record {
    answer = (is, lost_after (buffered s) (buffered u) (buffered t) so_far.stayed d.lost);
    exact = (is, inr (inl (u, i, so_far.drained, unsent u i t top inside d)));
  }

  -- all were sent down, and the device below was asked to sync
  module _ (empty : Empty u.table) (n : Model) where
    abbrev left : Bool → State
    left t = state u.table t n

    answer_below : (a : Synced) → SyncAnswer u.below n a → SyncAnswer (buffered s) (buffered (left u.gone)) a
    answer_below SettledAnswer h = record {
      stayed = stayed_trans (buffered s) (buffered u) (buffered (left u.gone)) so_far.stayed (stayed_below u n so_far.gone h.stayed);
      only = λ i x c.
          ⊎_elim
          (λ q. h.only i x q ∙ sym (over_empty u.table n.shown empty i))
          (λ q. absurd (waits_empty u.table i x empty q))
          (standing_cases u.table n.may i x c);
    }
    answer_below Unsure h =
        stayed_trans (buffered s) (buffered u) (buffered (left u.gone)) so_far.stayed (stayed_below u n so_far.gone h)

    sync_ended : (r : Result Synced Fault) → s.gone ≡ false → Sync r u.below n → SyncEnds r s (left (met r))
    sync_ended (Ok a) on h = record {
      answer = rw so_far.gone at (answer_below a h);
      exact = record { was = on; gone = refl; then = u; asked = record { drained = so_far.drained; empty = empty; table = refl }; below = h };
    }
    sync_ended (Err (PowerGone p)) on h = record {
      answer = (h.0, lost_after (buffered s) (buffered u) (buffered (left true)) so_far.stayed (lost_below u n h.1.kept));
      exact = (h.0, inr (inr (u, record { drained = so_far.drained; empty = empty; table = refl }, h, refl)));
    }
    sync_ended (Err (NoSuchBlock p)) on h = absurd h

    pub sync_answered : (t : Bool) (r : Result Synced Fault) → s.gone ≡ false → t ≡ met r → Sync r u.below n → SyncEnds r s (left t)
    sync_answered t r on is h = subst (λ (x : Bool). SyncEnds r s (left x)) (sym is) (sync_ended r on h)

-- ---- a cut

pub cut_below_is_cut : (s : State) (n : Model) → Cut s.below n → Cut (buffered s) n
cut_below_is_cut s n c = record {
  count = c.count;
  on = c.on;
  landed = λ i. standing_below s.table s.below.may i (n.shown i) (c.landed i);
  only = c.only;
}
