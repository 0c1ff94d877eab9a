-- What the calls of a ledger do to its model.
use Rattle.std.proofs.Common.{◌≡◌, ℕ, ◌-◌, ◌%◌, ◌<◌, ◌≤◌, min, Bool, true, false, cond, not, ltb, ◌⊎◌, List, [], ◌∷◌, ◌++◌, length, get_or, take, set, replicate, None, Option, sym, refl, ap, ◌∙◌, inl, inr, ⊎_elim, zero-le, mod-lt, arith, length-set}
use mathlib.Core.Path.{fun_ext}
use Rattle.std.proofs.lemmas.List.{get_or_past, get_or-replicate, length-replicate, take_all}
use Rattle.std.proofs.lemmas.Bool.{cases_lt}
use Rattle.base.specs.declared.number.BlockNo.{BlockNo}
use Rattle.device.specs.Model.{Model, Block, In, Stands, Is, Kept, Written, Torn, Settled, Cut, put}
use Rattle.device.specs.declared.put.Put.{Put}
use Rattle.power.specs.declared.ledger.LastWrite.TheVariants.{Lost as LeavesNone}
use Rattle.power.specs.View.{View, ledger, blocks, contents, shows, shows_among}
use Rattle.power.specs.Calls.{with_book, with_left, turned_off, replay, settle, noted, pick, chosen, LandedAll, CutLeft, Fresh}
use Rattle.power.proofs.Logs.{shows_push, contents_push, shows_landed, only_landed, length_replay, shows_replay, getD_in}

-- ---- everything shown landed

kept_settle : (v : View) → Kept (ledger v) (ledger (settle v))
kept_settle v = record {
  count = ap (λ (n : ℕ). min n 65535) (length_replay v.settled v.log);
  shown = fun_ext (shows_replay v.settled v.log);
  stands = λ i x s.
      rw (only_landed (replay v.settled v.log) i x s ∙ shows_replay v.settled v.log i) (shows_among v.settled v.log i);
}

-- ---- one put more

-- c may stand at block b and is shown there; whatever else may stand could before
record Joined (b : ℕ) (c : Block) (m n : Model) : Type 0 where
  count : n.count ≡ m.count
  shown : n.shown ≡ put m.shown b c
  stands : (i : ℕ) (x : Block) → Stands n i x → Stands m i x ⊎ Is b c i x

joined_after : (b : ℕ) (c : Block) (m k n : Model) → Kept m k → Joined b c k n → Joined b c m n
joined_after b c m k n a h = record {
  count = h.count ∙ a.count;
  shown = h.shown ∙ ap (λ (f : ℕ → Block). put f b c) a.shown;
  stands = λ i x s. ⊎_elim (λ q. inl (a.stands i x q)) inr (h.stands i x s);
}

joined_push : (v : View) (w : Put) → w.block.0 < length v.settled → Joined w.block.0 w.bytes (ledger v) (ledger (with_book v v.settled (v.log ++ w ∷ [])))
joined_push v w l = record {
  count = refl;
  shown = fun_ext (shows_push v.settled v.log w l);
  stands = contents_push v.settled v.log w l;
}

-- a log of one put lands
joined_set : (v : View) (w : Put) → w.block.0 < length v.settled → Joined w.block.0 w.bytes (ledger (with_book v v.settled [])) (ledger (with_book v (set v.settled w.block.0 w.bytes) []))
joined_set v w l =
    let one = with_book v v.settled (w ∷ []) in
    let j = joined_push (with_book v v.settled []) w l in
    record {
      count = ap (λ (n : ℕ). min n 65535) (length-set v.settled w.block.0 w.bytes);
      shown = (kept_settle one).shown ∙ j.shown;
      stands = λ i x s. j.stands i x ((kept_settle one).stands i x s);
    }

joined_noted : (v : View) (w : Put) → w.block.0 < length v.settled → Joined w.block.0 w.bytes (ledger v) (ledger (noted w v))
joined_noted v w l = by (ltb (length v.log) v.room) (ltb 0 v.room)
  where
    inside : w.block.0 < length (replay v.settled v.log)
    inside = rw (length_replay v.settled v.log) l

    by : (s t : Bool) → Joined w.block.0 w.bytes (ledger v) (ledger (cond s (with_book v v.settled (v.log ++ w ∷ [])) (cond t (with_book v (replay v.settled v.log) (w ∷ [])) (with_book v (set (replay v.settled v.log) w.block.0 w.bytes) []))))
    by true t = joined_push v w l
    by false true = joined_after _ _ (ledger v) (ledger (settle v)) _ (kept_settle v) (joined_push (settle v) w inside)
    by false false = joined_after _ _ (ledger v) (ledger (settle v)) _ (kept_settle v) (joined_set (settle v) w inside)

noted_gone : (v : View) (w : Put) → (noted w v).gone ≡ v.gone
noted_gone v w = by (ltb (length v.log) v.room) (ltb 0 v.room)
  where
    by : (s t : Bool) → (cond s (with_book v v.settled (v.log ++ w ∷ [])) (cond t (with_book v (replay v.settled v.log) (w ∷ [])) (with_book v (set (replay v.settled v.log) w.block.0 w.bytes) []))).gone ≡ v.gone
    by true t = refl
    by false true = refl
    by false false = refl

-- ---- the calls

-- a sync that settled
pub settled_sync : (v n : View) → v.gone ≡ false → n ≡ settle v → Settled (ledger v) (ledger n)
settled_sync v n on e =
    rw e (record {
      stayed = record { kept = kept_settle v; was_on = rw on; on = rw on };
      only = only_landed (replay v.settled v.log);
    })

-- a write with the power on, to a block that there is
module _ (v : View) (b : BlockNo) (c : Block) (l : b.0 < blocks v) (n : View) where
  -- a put was noted with another fuse
  pub written_noted : (o : Option ℕ) → v.gone ≡ false → n ≡ noted (record { block = b; bytes = c }) (with_left v o) → Written b.0 c (ledger v) (ledger n)
  written_noted o on e =
      let w : Put = record { block = b; bytes = c } in
      let j = joined_noted (with_left v o) w (omega arith) in
      rw e (record {
        count = j.count;
        was_on = rw on;
        on = ap not (noted_gone (with_left v o) w ∙ on);
        within = l;
        shown = j.shown;
        stands = j.stands;
      })

  -- and with the power off
  pub torn_noted : n ≡ noted (record { block = b; bytes = c }) (turned_off v) → Torn b.0 c (ledger v) (ledger n)
  torn_noted e =
      let w : Put = record { block = b; bytes = c } in
      let j = joined_noted (turned_off v) w (omega arith) in
      rw e (record {
        count = j.count;
        off = ap not (noted_gone (turned_off v) w);
        within = l;
        shown = inr j.shown;
        stands = j.stands;
      })

-- ---- a cut

chosen_in : (n : ℕ) (ss : List Block) (log : List Put) (b : ℕ) → In (chosen n ss log b) (contents ss log b)
unfolding chosen contents
chosen_in n ss log b = getD_in (contents ss log b) (n % length (contents ss log b)) [] (mod-lt n (omega arith))

past_in : (ss : List Block) (log : List Put) (b : ℕ) (x : Block) → x ≡ get_or ss b [] → In x (contents ss log b)
unfolding contents In
past_in ss log b x e = inl e

module _ (landing : List ℕ) (v n : View) (h : CutLeft landing v n) where
  none_held : n.log ≡ []
  none_held = ap (λ (u : View). u.log) h.rest

  landed_shows : (i : ℕ) → shows n.settled n.log i ≡ get_or n.settled i []
  landed_shows i = ap (λ (ws : List Put). shows n.settled ws i) none_held ∙ shows_landed n.settled i

  landed_in : (i : ℕ) → In (get_or n.settled i []) (contents v.settled v.log i)
  landed_in i =
      ⊎_elim
      (λ l. rw (h.landed.each i l) (chosen_in (pick landing i) v.settled v.log i))
      (λ l. past_in v.settled v.log i _ (get_or_past n.settled i [] (omega (arith, h.landed.size)) ∙ sym (get_or_past v.settled i [] l)))
      (cases_lt i (length v.settled))

  pub cut_left : Cut (ledger v) (ledger n)
  cut_left = record {
    count = ap (λ (k : ℕ). min k 65535) h.landed.size;
    on = ap (λ (u : View). not u.gone) h.rest;
    landed = λ i. rw (landed_shows i) (landed_in i);
    only = λ i x s.
        only_landed n.settled i x (rw none_held at s) ∙ sym (ap (λ (ws : List Put). shows n.settled ws i) none_held);
  }

-- the blocks have landed; then the log was emptied, the fuse taken away and the power turned on
pub cut_after : (landing : List ℕ) (v k : View) (items : List Put) (cap : ℕ) → LandedAll landing v k → items ≡ [] → cap ≡ k.room → CutLeft landing v (record { settled = k.settled; log = items; room = cap; left = None; last = k.last; gone = false; unsure = k.unsure })
cut_after landing v k items cap h none same = record {
  landed = h.landed;
  rest =
      rw (none, same) (ap (λ (u : View). record { settled = k.settled; log = []; room = u.room; left = None; last = u.last; gone = false; unsure = u.unsure }) h.rest);
}

-- ---- a new ledger

pub fresh_items : (n len : ℕ) (z : Block) (old ys : List Block) → old ≡ [] → len ≡ 0 → ys ≡ take n old ++ replicate (n - len) z → ys ≡ replicate n z
fresh_items n len z old ys none zero-len e =
    let all : n - len ≡ n = omega arith in
    let nothing : take {A = Block} n [] ≡ [] = take_all n [] zero-le in
    e ∙ rw (none, all, nothing)

pub fresh : (count room : ℕ) (ss : List Block) (log : List Put) (cap : ℕ) → count < 65536 → ss ≡ replicate count (replicate 512 0) → log ≡ [] → room ≤ cap → Fresh count room (record { settled = ss; log = log; room = cap; left = None; last = LeavesNone; gone = false; unsure = false })
fresh count room ss log cap small zeros none fits =
    let size : length ss ≡ count = ap (λ (xs : List Block). length xs) zeros ∙ length-replicate count (replicate 512 0) in
    let bare : (b : ℕ) → shows ss log b ≡ shows ss [] b = λ b. ap (λ (ws : List Put). shows ss ws b) none in
    record {
      settled = zeros;
      log = none;
      fits = fits;
      left = refl;
      last = refl;
      gone = refl;
      unsure = refl;
      blocks = omega (arith, size);
      shown = λ b l. bare b ∙ shows_landed ss b ∙ ap (λ (xs : List Block). get_or xs b []) zeros ∙ get_or-replicate count b (replicate 512 0) [] l;
      only = λ i x s. only_landed ss i x (rw none at s) ∙ sym (bare i);
    }
