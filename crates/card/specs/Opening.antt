-- Opening a card, as the code answers it.
use Rattle.std.specs.Prelude.{◌≡◌, ℕ, ◌≤◌, Bool, ◌&&◌, ◌⊎◌, Ok, Err, MatchResult, ◌==◌, nat_le}
use Rattle.base.specs.declared.number.BlockNo.{BlockNo}
use Rattle.base.specs.declared.owner.Kind.TheVariants.{Folder}
use Rattle.base.specs.declared.refusal.Refusal.TheVariants.{PowerGone, BadCard, SmallDevice}
use Rattle.device.specs.Model.{Model, Lost}
use Rattle.layout.specs.Format.{Geometry, Slot}
use Rattle.layout.specs.Sizes.{sizes}
use Rattle.rule.specs.Agree.{Shown, seen, same_kind, same_handle, root}
use Rattle.rule.specs.Card.{Ready, block, is_root}
use Rattle.rule.specs.Check.{◌>>=◌, check}
use Rattle.walk.specs.Still.{Still}
use Rattle.card_lists.specs.Ready.{Kept}

-- a folder of identity 1 whose parent is itself
abbrev pub rooted : Slot → Bool
rooted r = same_kind r.kind Folder && (r.identity == 1 && same_handle r.parent root)

-- what is left once the cover has told the geometry
abbrev pub sized : ℕ → Shown → Geometry → Ready
sized n shown g = check (nat_le g.blocks n) (SmallDevice g.blocks) >>= λ _. check (is_root (seen g shown 1)) (BadCard (block 1)) >>= λ _. Ok g

-- the answer is the rule's x and nothing changed, or power gone was met
abbrev pub Opening : Kept → Ready → Model → Model → Type 0
Opening r x m n = MatchResult r (λ g. Still m n × (x ≡ Ok (sizes g)) × (g.blocks ≤ m.count)) (λ e. (Still m n × (x ≡ Err e)) ⊎ ((b : BlockNo) × (e ≡ PowerGone b) × Lost m n))
