-- The numbers of a slot that is written again.
use Rattle.std.proofs.Common.{◌≡◌, ℕ, ◌+◌, ◌-◌, ◌<◌, ◌≤◌, min, List, [], ◌∷◌, ◌++◌, length, take, set, replicate, Option, None, Some, MatchOption, refl, ap, ◌∙◌, arith}
use Rattle.std.specs.Option.{unwrap_or}
use Rattle.std.proofs.lemmas.List.{take_more_set, take_all, map_push}
use Rattle.base.specs.declared.number.BlockNo.{BlockNo}
use Rattle.device.specs.Model.{Block}
use Rattle.device.specs.declared.put.Put.{Put}
use Rattle.layout.specs.Format.{Cell, blank_cell}
use Rattle.layout.specs.Head.{cells}
use Rattle.encode.specs.Heads.{plain, Begins}
use Rattle.encode.proofs.Numbers.{begins_plain}
use Rattle.rule.specs.Card.{block}

-- the first n numbers, as the code cuts them
pub cut_is : (ns : List ℕ) (bs : List BlockNo) (n k : ℕ) → Begins ns bs 64 → n ≤ length ns → n ≤ 64 → k ≡ min n 64 → plain (take (k - 0) bs) ≡ take n ns
cut_is ns bs n k b low few e =
    let same : k - 0 ≡ n = omega arith in
    ap (λ (i : ℕ). plain (take i bs)) same ∙ begins_plain ns bs n b low few

-- all of them, and one more
pub grown_is : (ns : List ℕ) (bs : List BlockNo) (c : BlockNo) (n k : ℕ) → Begins ns bs 64 → length ns ≡ n → n < 64 → k ≡ min n 63 → plain (take (k + 1 - 0) (set bs k c)) ≡ ns ++ (c.0 ∷ [])
grown_is ns bs c n k b size few e =
    let same : k + 1 - 0 ≡ k + 1 = omega arith in
    ap (λ (i : ℕ). plain (take i (set bs k c))) same
    ∙ ap plain (take_more_set bs k c (omega (arith, b.size)))
    ∙ map_push (λ (x : BlockNo). x.0) (take k bs) c
    ∙ ap (λ (z : List ℕ). z ++ (c.0 ∷ [])) (begins_plain ns bs k b (omega arith) (omega arith) ∙ take_all k ns (omega arith))

-- what an encoder answers where it does not refuse
pub not_refused : (o : Option Block) (P : Type 0) (x d : Block) → MatchOption o (P → ⊥) (λ b. P × (b ≡ x)) → P → unwrap_or o d ≡ x
not_refused None P x d w p = absurd (w p)
not_refused (Some b) P x d w p = w.1

pub put_same : (b : BlockNo) (i : ℕ) (x y : Block) → b.0 ≡ i → x ≡ y → ◌≡◌ {A = Put} (record { block = b; bytes = x }) (record { block = block i; bytes = y })
put_same b i x y p q = ap (λ (j : ℕ). record { block = block j; bytes = x }) p ∙ ap (λ (z : Block). record { block = block i; bytes = z }) q

-- the cells of a leaf of zeros, and one of them set
pub one_cell : (e : Cell) → set (cells (replicate 480 0)) 0 e ≡ e ∷ replicate 14 blank_cell
unfolding cells
one_cell e = refl
