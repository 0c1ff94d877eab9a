use Rattle.std.proofs.Common.{◌<◌, ◌≤◌, sym, refl, ap, ◌∙◌, rules}
use Rattle.layout.specs.Format.{Content}
use Rattle.layout.specs.Sizes.{sizes}
use Rattle.rule.specs.Agree.{slot_in}
use Rattle.survey.specs.Known.{line_by, links_by}
use Rattle.survey.proofs.Examines.{slot_examined, body_examined}
use Rattle.survey.proofs.survey.Survey.examine.Goals as goal

pub returns-in-Slots : goal.returns-in-Slots
returns-in-Slots c v sofar low below holds =
    let inside : c.args.at.0 ≤ c.args.g.now.slots = search rules in
    let small : c.args.at.0 ≤ 256 = search rules in
    let e = c.keep.ensures in
    slot_examined (sizes c.args.g.now) v c.args.at.0 c.args.self.now sofar low inside small e.0 (e.1 ∙ ap slot_in (sym holds)) e.2 c.keep.new.self e.3

pub returns-in-Bodies : goal.returns-in-Bodies
returns-in-Bodies c v sofar low below holds =
    let g = sizes c.args.g.now in
    let t = c.args.self.now in
    let above : c.args.g.now.slots < c.args.at.0 = search rules in
    let small : c.args.at.0 < 4096 = search rules in
    let e = c.examine_body-line.ensures in
    body_examined g v c.args.at.0 t sofar above small c.examine_body-line.new.self _ c.examine_body-line.result
    (e.line ∙ ap (line_by t.slots c.args.at.0) (sym holds))
    (e.links ∙ ap (λ (x : Content). links_by g c.args.at.0 x t.slots) (sym holds)) refl
