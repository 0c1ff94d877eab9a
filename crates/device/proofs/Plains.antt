-- What holds of the model of plain bytes.
use Rattle.std.proofs.Common.{◌≡◌, ℕ, zero, suc, ◌+◌, ◌*◌, ◌<◌, ◌≤◌, ◌⊎◌, List, [], ◌++◌, length, get_or, take, drop, sym, refl, ap, ◌∙◌, inl, inr, ⊎_elim, arith}
use mathlib.Core.Path.{fun_ext}
use Rattle.std.proofs.lemmas.Slice.{take-put_mid_below, drop-put_mid}
use Rattle.std.specs.Simd.{first_chunks}
use Rattle.std.proofs.lemmas.List.{drop-drop, drop-take, drop_at, take_at, length-take-le}
use Rattle.std.proofs.lemmas.Bool.{cases_order, eq-eqb, ne_eqb}
use Rattle.device.specs.Model.{In, Stayed, Written, Settled, put}
use Rattle.device.specs.Plain.{plain, block, stored}

-- after c is stored as block b
module _ (xs c : List ℕ) (b : ℕ) (inside : 512 * b + 512 ≤ length xs) (whole : length c ≡ 512) where
  at_b : block (stored xs b c) b ≡ c
  at_b =
      let front : length (take (512 * b) xs) ≡ 512 * b = length-take-le (512 * b) xs (omega arith) in
      let rest : List ℕ = drop 512 (drop (512 * b) xs) in
      ap (take 512) (drop_at (take (512 * b) xs) (c ++ rest) (512 * b) front) ∙ take_at c rest 512 whole

  below_b : (i : ℕ) → i < b → block (stored xs b c) i ≡ block xs i
  below_b i h =
      sym (drop-take (512 * i) 512 (stored xs b c)) ∙ ap (drop (512 * i)) (take-put_mid_below (512 * b) 512 xs c (512 * i + 512) (omega arith) (omega arith)) ∙ drop-take (512 * i) 512 xs

  above_b : (i : ℕ) → b < i → block (stored xs b c) i ≡ block xs i
  above_b i h = ap (take 512) (drop-put_mid (512 * b) 512 xs c (512 * i) (omega arith) (omega arith) whole)

  stored_shown : (i : ℕ) → block (stored xs b c) i ≡ put (block xs) b c i
  stored_shown i =
      ⊎_elim
      (λ e. rw (eq-eqb i b e) (rw e at_b))
      (⊎_elim (λ h. rw (ne_eqb i b (omega arith)) (below_b i h)) (λ h. rw (ne_eqb i b (omega arith)) (above_b i h)))
      (cases_order i b)

  stored_stands : (i : ℕ) (x : List ℕ) → x ≡ block (stored xs b c) i → (x ≡ block xs i) ⊎ ((i ≡ b) × (x ≡ c))
  stored_stands i x h =
      ⊎_elim
      (λ e. inr (e, h ∙ rw e at_b))
      (⊎_elim (λ l. inl (h ∙ below_b i l)) (λ l. inl (h ∙ above_b i l)))
      (cases_order i b)

-- a write to a plain card is an accepted one
pub plain_written : (xs ys c : List ℕ) (b : ℕ) → b < (plain xs).count → length c ≡ 512 → length ys ≡ length xs → ys ≡ stored xs b c → Written b c (plain xs) (plain ys)
unfolding In
plain_written xs ys c b inside whole same e =
    let fits : 512 * b + 512 ≤ length xs = omega arith in
    record {
      count = rw same;
      was_on = refl;
      on = refl;
      within = inside;
      shown = rw e (fun_ext (stored_shown xs c b fits whole));
      stands = λ i x. ⊎_elim (λ h. ⊎_elim (λ k. inl (inl k)) inr (stored_stands xs c b fits whole i x (rw e at h))) absurd;
    }

pub plain_stayed : (xs : List ℕ) → Stayed (plain xs) (plain xs)
plain_stayed xs =
    record { kept = record { count = refl; shown = refl; stands = λ i x h. h }; was_on = refl; on = refl }

pub plain_settled : (xs : List ℕ) → Settled (plain xs) (plain xs)
unfolding In
plain_settled xs = record { stayed = plain_stayed xs; only = λ i x. ⊎_elim (λ e. e) absurd }

-- the chunks of n bytes lie one after another
pub chunk_at : (n k : ℕ) (xs : List ℕ) (b : ℕ) → b < k → get_or (first_chunks n k xs) b [] ≡ take n (drop (n * b) xs)
chunk_at n zero xs b l = absurd (omega arith)
chunk_at n (suc k) xs zero l = let e : n * 0 ≡ 0 = omega arith in rw e
chunk_at n (suc k) xs (suc b) l = let ih = chunk_at n k (drop n xs) b (omega arith) in let e : n * suc b ≡ n + n * b = omega arith in rw (ih, drop-drop, e)
