use Rattle.std.proofs.Common.{not, refl, sym, ap, ◌∙◌}
use Rattle.std.proofs.lemmas.Bool.Decides.{Decides-eqb}
use Rattle.std.proofs.lemmas.Slice.Eq.{slice_eq-Decides}
use Rattle.walk.proofs.Finding.{bytes_decided}
use Rattle.screen.specs.Image.{differs}
use Rattle.screen.proofs.image.Image.is_off.Goals as goal

pub returns : goal.returns
returns c =
    let image = c.args.self.now.bytes.now in
    c.ne.ensures
    ∙ ap not (bytes_decided c.as_slice.result.now c.part.result.now _ (slice_eq-Decides Decides-eqb _ _ _ refl))
    ∙ rw (c.as_slice.ensures, c.part.ensures) (ap (differs image) (sym c.in-Some.is))
