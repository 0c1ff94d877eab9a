use Rattle.encode.proofs.Filling.{written}
use Rattle.encode.proofs.bytes.fill.Goals as goal

pub returns : goal.returns
returns g c =
    let a = c.copy_from_slice.ensures.after in
    let b = c.copy_from_slice-2.ensures.after in
    let d = c.split_at_mut-front.ensures.back in
    rw (a, b, d) (written g.row.N c.args.head.now c.args.rest.now)
