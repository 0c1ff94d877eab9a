use Rattle.std.proofs.Common.{Bool, not, ◌&&◌, eqb, ap, ◌∙◌}
use Rattle.std.specs.List.{list_any}
use Rattle.entries.proofs.Entries.{plain_is}
use Rattle.entries.proofs.entry.is_plain.Goals as goal

pub returns-then-not-contains : goal.returns-then-not-contains
returns-then-not-contains c =
    ap (λ (r : Bool). not r && not c.contains-then-not-contains.result) c.if-not-contains.ensures.value
    ∙ ap (λ r. not (list_any (λ x. eqb x 0) c.args.bytes.now) && not r) c.contains-then-not-contains.ensures.value ∙ plain_is c.args.bytes.now

pub returns-else-not-contains : goal.returns-else-not-contains
returns-else-not-contains c =
    ap not c.if-not-contains.false ∙ ap (λ (r : Bool). not r && not (list_any (λ x. eqb x 47) c.args.bytes.now)) c.if-not-contains.ensures.value
    ∙ plain_is c.args.bytes.now
