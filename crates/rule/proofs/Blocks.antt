-- The blocks of a call: each goes at most once, and what a format leaves.
use Rattle.std.proofs.Common.{◌≡◌, ℕ, zero, suc, ◌+◌, ◌-◌, ◌<◌, ◌≤◌, true, ◌&&◌, eqb, leb, ◌⊎◌, List, [], ◌∷◌, sym, refl, ◌∙◌, subst, inl, inr, arith}
use Rattle.std.proofs.lemmas.Bool.{and_parts, leb-true, ne_eqb, eq-eqb, cond-true, cond-false, cases_lt}
use Rattle.base.specs.declared.owner.Handle.{Handle}
use Rattle.device.specs.declared.put.Put.{Put}
use Rattle.device.specs.Model.{Block, put}
use Rattle.device.specs.Effect.{puts, PutAt}
use Rattle.layout.specs.Format.{Geometry, Slot, blank, in_limits, cell, encode}
use Rattle.rule.specs.Agree.{Shown, seen, count, number, from}
use Rattle.rule.specs.Changing.{blanks, format}
use Rattle.rule.specs.Meaning.{Fits}
use Rattle.rule.specs.Calls.{Apart, Once, InPlace, OnNewLeaf, Replaces, Appends, CreateOnce, WriteOnce, ShortenOnce, RemoveOnce, FormatOnce, PutsShow, Formats, FormatMeans}
use Rattle.rule.proofs.Formed.{slot_formed, body_at}
use Rattle.rule.proofs.Plans.{bind_ok, check_ok, ok_same}

-- the number of a leaf lies behind the slots
leaf_behind : (g : Geometry) (shown : Shown) (h : Handle) (r : Slot) (k : ℕ) → Fits g (seen g shown) h r → k < count r → g.slots < number r k
leaf_behind g shown h r k fit l = (body_at g r.numbers k (slot_formed g (suc h.slot.0) (shown (suc h.slot.0)) r fit.holds).numbers l).0

pub create_once : CreateOnce
create_once g shown c d f n p w = subst Once (sym w.blocks) (go w.rest w.next w.placed)
  where
    go : (rest : List Put) (next : ℕ) → InPlace g (seen g shown) c f w.slot (cell n p.answer) rest next ⊎ OnNewLeaf g (seen g shown) c f w.slot (cell n p.answer) rest next → Apart (suc p.answer.slot.0) rest × Once rest
    go rest next (inl i) =
        let far = leaf_behind g shown f w.slot i.leaf w.standing.fits i.here.below in
        subst (λ (z : List Put). Apart (suc p.answer.slot.0) z × Once z) (sym i.blocks) ((λ e. absurd (omega (arith, far, w.free.inside, e)), tt), (tt, tt))
    go rest next (inr i) =
        subst (λ (z : List Put). Apart (suc p.answer.slot.0) z × Once z) (sym i.blocks) (
          (λ e. absurd (omega (arith, i.free.above, w.free.inside, e)), ((λ e. w.free.unreached f (omega (arith, e)) w.standing.reached), tt)),
          ((λ e. absurd (omega (arith, i.free.above, w.standing.fits.inside, e)), tt), (tt, tt)),
        )

pub write_once : WriteOnce
write_once g shown c h k x p w = go w.blocks
  where
    go : Replaces (seen g shown) c h w.slot k x p ⊎ Appends g (seen g shown) c h w.slot k x p → Once p.puts
    go (inl i) = subst Once (sym i.blocks) (tt, tt)
    go (inr i) = subst Once (sym i.blocks) ((λ e. absurd (omega (arith, i.free.above, w.standing.fits.inside, e)), tt), (tt, tt))

pub shorten_once : ShortenOnce
shorten_once g shown c h n p w = elim w.blocks [ inl e ↦ subst Once (sym e.1) tt | inr e ↦ subst Once (sym e.1) (tt, tt) ]

pub remove_once : RemoveOnce
remove_once g shown c f n child p w =
    let far = leaf_behind g shown f w.found.sound.slot w.found.leaf w.found.sound.fits w.found.sound.below in
    subst Once (sym w.blocks) ((λ e. absurd (omega (arith, far, w.found.sound.child_fits.inside, e)), tt), (tt, tt))

-- ---- what is shown after

puts_apart : (f : Shown) (ws : List Put) (b : ℕ) → Apart b ws → puts f ws b ≡ f b
puts_apart f [] b a = refl
puts_apart f (w ∷ ws) b (e, a) = puts_apart (put f w.block.0 w.bytes) ws b a ∙ cond-false (eqb b w.block.0) w.bytes (f b) (ne_eqb b w.block.0 e)

puts_at : (f : Shown) (ws : List Put) (b : ℕ) (z : Block) → Once ws → PutAt b z ws → puts f ws b ≡ z
puts_at f [] b z o a = absurd a
puts_at f (w ∷ ws) b z (o, p) (inl a) =
    puts_apart (put f w.block.0 w.bytes) ws b (subst (λ (i : ℕ). Apart i ws) (sym a.0) o)
    ∙ cond-true (eqb b w.block.0) w.bytes (f b) (eq-eqb b w.block.0 a.0)
    ∙ sym a.1
puts_at f (w ∷ ws) b z (o, p) (inr a) = puts_at (put f w.block.0 w.bytes) ws b z p a

pub puts_show : PutsShow
puts_show f ws o = (λ b z a. puts_at f ws b z o a, puts_apart f ws)

-- ---- format

blanks_apart : (b i n : ℕ) → b < i → Apart b (blanks (from i n))
blanks_apart b i zero l = tt
blanks_apart b i (suc n) l = (λ e. absurd (omega (arith, e)), blanks_apart b (suc i) n (omega arith))

blanks_once : (i n : ℕ) → Once (blanks (from i n))
blanks_once i zero = tt
blanks_once i (suc n) = (blanks_apart i (suc i) n (omega arith), blanks_once (suc i) n)

blanks_outside : (f : Shown) (i n b : ℕ) → (b < i) ⊎ (i + n ≤ b) → puts f (blanks (from i n)) b ≡ f b
blanks_outside f i zero b l = refl
blanks_outside f i (suc n) b l =
    blanks_outside (put f i (encode blank)) (suc i) n b (elim l [ inl d ↦ inl (omega arith) | inr d ↦ inr (omega arith) ])
    ∙ cond-false (eqb b i) (encode blank) (f b) (ne_eqb b i (λ e. elim l [ inl d ↦ absurd (omega (arith, e)) | inr d ↦ absurd (omega (arith, e)) ]))

blanks_inside : (f : Shown) (i n b : ℕ) → i ≤ b → b < i + n → puts f (blanks (from i n)) b ≡ encode blank
blanks_inside f i zero b a l = absurd (omega arith)
blanks_inside f i (suc n) b a l = elim (cases_lt i b) [
  | inl d ↦ blanks_inside (put f i (encode blank)) (suc i) n b d (omega arith)
  | inr d ↦ blanks_outside (put f i (encode blank)) (suc i) n b (inl (omega arith)) ∙ cond-true (eqb b i) (encode blank) (f b) (eq-eqb b i (omega arith))
]

record Accepted (n N S : ℕ) : Type 0 where
  pub slots : (2 ≤ S) × (S ≤ 256)
  pub blocks : (S + 2 ≤ N) × (N ≤ 4096)
  pub room : N ≤ n

accepted : (n N S : ℕ) → in_limits N S ≡ true → leb N n ≡ true → Accepted n N S
accepted n N S e l =
    let a = and_parts (leb 2 S) (leb S 256 && (leb (S + 2) N && leb N 4096)) e in
    let b = and_parts (leb S 256) (leb (S + 2) N && leb N 4096) a.1 in
    let c = and_parts (leb (S + 2) N) (leb N 4096) b.1 in
    record { slots = (leb-true 2 S a.0, leb-true S 256 b.0); blocks = (leb-true (S + 2) N c.0, leb-true N 4096 c.1); room = leb-true N n l }

pub format_means : FormatMeans
unfolding format encode
format_means n N S ws e =
    let a = bind_ok _ _ ws e in
    let b = bind_ok _ _ ws a.2 in
    let w = accepted n N S (check_ok _ _ _ a.1) (check_ok _ _ _ b.1) in
    let s = w.slots in
    let t = w.blocks in
    subst (Formats n N S) (ok_same b.2) (record {
      slots = w.slots;
      blocks = w.blocks;
      room = w.room;
      cover = λ f. blanks_outside _ 2 (N - 2) 0 (inl (omega arith));
      root = λ f. blanks_outside _ 2 (N - 2) 1 (inl (omega arith));
      zeros = λ f b l m. blanks_inside _ 2 (N - 2) b l (omega (arith, s.0, t.0));
      beyond = λ f b l. blanks_outside _ 2 (N - 2) b (inr (omega (arith, s.0, t.0)))
          ∙ cond-false (eqb b 1) _ _ (ne_eqb b 1 (λ e. absurd (omega (arith, e, s.0, t.0))))
          ∙ cond-false (eqb b 0) _ (f b) (ne_eqb b 0 (λ e. absurd (omega (arith, e, s.0, t.0))));
    })

pub format_once : FormatOnce
unfolding format
format_once n N S ws e =
    let a = bind_ok _ _ ws e in
    let b = bind_ok _ _ ws a.2 in
    subst Once (ok_same b.2) ((λ e. absurd (omega (arith, e)), blanks_apart 0 2 (N - 2) (omega arith)), (blanks_apart 1 2 (N - 2) (omega arith), blanks_once 2 (N - 2)))
