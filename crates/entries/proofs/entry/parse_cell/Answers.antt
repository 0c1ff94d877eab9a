use Rattle.std.proofs.Common.{eqb, replicate, sym, ap, ◌∙◌, arith}
use Rattle.std.specs.Cmp.Lexicographic.{pointwise}
use Rattle.layout.specs.Entries.{blank, used_state}
use Rattle.entries.specs.View.{cell_view}
use Rattle.layout.specs.Sizes.{sizes}
use Rattle.entries.proofs.Entries.{zeros_are, blank_state, other_state, state_led, ranged_state}
use Rattle.entries.proofs.entry.parse_cell.Goals as goal

pub returns-then-eq : goal.returns-then-eq
returns-then-eq c =
    let cell = c.in-Some.ensures.cases in
    let zero = sym (c.if-eq.ensures ∙ ap (λ e. pointwise eqb e (replicate 32 0)) cell.same ∙ zeros_are 32 c.args.bytes.now cell.long) in
    let state = blank_state (sizes c.args.g.now) c.args.bytes.now cell.long zero in
    record { state = state; ranged = tt; leads = λ _. state_led (sizes c.args.g.now) c.args.bytes.now cell.long blank state }

pub returns : goal.returns
returns c =
    let cell = c.in-Some.ensures.cases in
    let other = sym (c.if-eq.ensures ∙ ap (λ e. pointwise eqb e (replicate 32 0)) cell.same ∙ zeros_are 32 c.args.bytes.now cell.long) in
    let used = c.used_cell.ensures ∙ ap (used_state (sizes c.args.g.now)) cell.same in
    let state = other_state (sizes c.args.g.now) c.args.bytes.now cell.long (cell_view c.used_cell.result) other used in
    record { state = state; ranged = ranged_state (sizes c.args.g.now) c.args.bytes.now (λ i. omega (arith, c.type_inv.bytes i)) cell.long (cell_view c.used_cell.result) state; leads = λ _. state_led (sizes c.args.g.now) c.args.bytes.now cell.long (cell_view c.used_cell.result) state }
