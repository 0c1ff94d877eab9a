use Rattle.std.proofs.Common.{ℕ, ◌+◌, ◌≤◌, length, sym, ap, ◌∙◌, arith}
use Rattle.device.specs.Plain.{block, blocks_in}
use Rattle.rule.specs.Card.{opening}
use Rattle.rule.specs.Reading.{read_into}
use Rattle.screen.specs.Screen.{told}
use Rattle.screen.proofs.Screens.{leaf_few, narrowed}
use Rattle.screen.proofs.leaf.gildreyk_leaf.Goals as goal

pub overflow_cast-result : goal.overflow_cast-result
overflow_cast-result c =
    let image = c.args.image.now in
    let w = c.in-Ok.ensures in
    let few : length w.0 ≤ 496 = leaf_few c.args.path.now c.min.result (length c.args.out.now) (opening (blocks_in image) (block image)) (block image) w.0 w.1 in
    omega (arith, few, w.2)

pub returns-in-Ok : goal.returns-in-Ok
returns-in-Ok c =
    let image = c.args.image.now in
    let w = c.in-Ok.ensures in
    let s = narrowed c.args.path.now c.args.leaf c.min.result (length c.args.out.now) (opening (blocks_in image) (block image)) (block image) c.min.ensures in
    record {
      answer = w.2 ∙ sym (ap told w.1) ∙ s.told;
      filled = w.3 ∙ sym (ap (read_into c.args.out.now) w.1) ∙ s.into c.args.out.now;
    }

pub returns-in-Err : goal.returns-in-Err
returns-in-Err c =
    let image = c.args.image.now in
    let w = c.in-Err.ensures in
    let s = narrowed c.args.path.now c.args.leaf c.min.result (length c.args.out.now) (opening (blocks_in image) (block image)) (block image) c.min.ensures in
    record {
      answer = ap (λ (i : ℕ). 1000 + i) c.number.ensures ∙ sym (ap told w.0) ∙ s.told;
      filled = w.1 ∙ sym (ap (read_into c.args.out.now) w.0) ∙ s.into c.args.out.now;
    }
