use Rattle.std.proofs.Common.{◌+◌, ◌&&◌, Bool, [], drop, sym, refl, ap, ◌∙◌}
use Rattle.std.proofs.lemmas.List.{at_drop_more, at_drop_all}
use Rattle.std.proofs.lemmas.List.Recursion.{and_fails_at}
use Rattle.layout.specs.Format.{body_number, le16}
use Rattle.layout.specs.Sizes.{sizes}
use Rattle.layout.proofs.Numbers.{pairs_fit, pairs_are}
use Rattle.layout.proofs.block.parsing.numbers_fit.Goals as goal

pub returns-then-not-is_body : goal.returns-then-not-is_body
returns-then-not-is_body c =
    let fits = pairs_fit (sizes c.args.g.now) in
    sym (and_fails_at fits (λ p. body_number (sizes c.args.g.now) (le16 p 0)) refl (λ _ _. refl) c.as_chunks.result.0.now c.loop-pair.pair-index [] c.loop-pair-test.true (ap (body_number (sizes c.args.g.now)) (sym c.number16.ensures) ∙ sym c.if-not-is_body.ensures))
    ∙ ap fits c.as_chunks.ensures.front ∙ pairs_are (sizes c.args.g.now) _ c.args.numbers.now

pub loop-pair-preserved : goal.loop-pair-preserved
loop-pair-preserved c =
    let fits = pairs_fit (sizes c.args.g.now) in
    let here = ap (body_number (sizes c.args.g.now)) (sym c.number16.ensures) ∙ sym c.if-not-is_body.ensures in
    ap (λ (b : Bool). b && fits (drop (c.loop-pair.pair-index + 1) c.as_chunks.result.0.now)) (sym here)
    ∙ sym (at_drop_more fits c.as_chunks.result.0.now c.loop-pair.pair-index [] c.loop-pair-test.true) ∙ c.loop-pair.invariant

pub returns : goal.returns
returns c =
    let fits = pairs_fit (sizes c.args.g.now) in
    sym (at_drop_all fits c.as_chunks.result.0.now c.loop-pair.pair-index c.loop-pair-test.false) ∙ c.loop-pair.invariant
    ∙ ap fits c.as_chunks.ensures.front ∙ pairs_are (sizes c.args.g.now) _ c.args.numbers.now
