-- A list that is filled by place, one more line at a time.
use Rattle.std.proofs.Common.{◌≡◌, ℕ, ◌+◌, ◌-◌, ◌^◌, ◌<◌, ◌≤◌, List, [], ◌∷◌, ◌++◌, length, get_or, take, drop, set, replicate, sym, refl, ap, ◌∙◌, ⊎_elim, append_assoc, arith}
use Rattle.std.proofs.lemmas.List.{append-nil, take_all, take-append-le, drop_all, drop_more, set_at, set_past, length_push, length-take, length-replicate, replicate_more}
use Rattle.std.proofs.lemmas.Bool.{cases_lt}
use Rattle.listing.specs.Lines.{listed, Sofar, counted}

module _ {L : Type 0} (lines items : List L) (x : L) where
  over : length lines ≤ length items → listed lines items ≡ take (length lines) items
  over h = ap (λ z. take (length lines) items ++ z) (drop_all (length items) lines h) ∙ append-nil _

  under : length items ≤ length lines → listed lines items ≡ items ++ drop (length items) lines
  under h = ap (λ z. z ++ drop (length items) lines) (take_all (length lines) items h)

  listed_room : length items < length lines → set (listed lines items) (length items) x ≡ items ++ (x ∷ drop (length items + 1) lines)
  listed_room h =
      ap (λ z. set z (length items) x) (under (omega arith) ∙ ap (λ z. items ++ z) (drop_more lines (length items) x h))
      ∙ set_at items (get_or lines (length items) x) (drop (length items + 1) lines) x (length items) refl

  listed_full : length lines ≤ length items → set (listed lines items) (length items) x ≡ take (length lines) items
  listed_full h =
      ap (λ z. set z (length items) x) (over h)
      ∙ set_past (take (length lines) items) (length items) x (simp length-take (omega arith))

listed_more : {L : Type 0} (lines items : List L) (x : L) → set (listed lines items) (length items) x ≡ listed lines (items ++ x ∷ [])
listed_more {L} lines items x =
    let n = length_push items x in
    ⊎_elim
    (λ (h : length items < length lines).
    listed_room lines items x h ∙ sym (append_assoc items (x ∷ []) (drop (length items + 1) lines))
    ∙ ap (λ m. (items ++ x ∷ []) ++ drop m lines) (sym n) ∙ sym (under lines (items ++ x ∷ []) x (omega arith)))
    (λ (h : length lines ≤ length items).
    listed_full lines items x h ∙ sym (take-append-le (length lines) items (x ∷ []) h) ∙ sym (over lines (items ++ x ∷ []) x (omega arith)))
    (cases_lt (length items) (length lines))

pub none_yet : {L : Type 0} (before : List L) → Sofar before [] 0 before
none_yet before = record { number = refl; filled = sym (ap (λ z. z ++ before) (take_all (length before) [] (omega arith))) }

pub one_more : {L : Type 0} (before items lines after : List L) (count r : ℕ) (x : L) → length items < 2 ^ 64 - 1 → Sofar before items count lines → r ≡ counted count → after ≡ set lines count x → Sofar before (items ++ x ∷ []) r after
one_more before items lines after count r x h s er ea =
    record {
      number = omega (arith, length_push items x);
      filled = ea ∙ ap (λ z. set z count x) s.filled ∙ ap (λ n. set (listed before items) n x) s.number ∙ listed_more before items x;
    }

-- every line the same, one more at a time
pub fill_more : {L : Type 0} (before lines after : List L) (k : ℕ) (x : L) → k < length before → lines ≡ replicate k x ++ drop k before → after ≡ set lines k x → after ≡ replicate (k + 1) x ++ drop (k + 1) before
fill_more before lines after k x h e ea =
    ea ∙ ap (λ z. set z k x) (e ∙ ap (λ z. replicate k x ++ z) (drop_more before k x h))
    ∙ set_at (replicate k x) (get_or before k x) (drop (k + 1) before) x k (length-replicate k x)
    ∙ sym (append_assoc (replicate k x) (x ∷ []) (drop (k + 1) before)) ∙ ap (λ z. z ++ drop (k + 1) before) (replicate_more k x)
