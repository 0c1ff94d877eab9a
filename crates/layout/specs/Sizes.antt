-- What the code's geometry stands for.
use Rattle.std.specs.Prelude.{ℕ}
use Rattle.layout.specs.Format.{Geometry, Region, cover_region, slot_region, body_region, beyond}
use Rattle.layout.specs.declared.geometry.Geometry.{Geometry as CardGeometry}
use Rattle.layout.specs.declared.region.Region.{Region as CardRegion}
use Rattle.layout.specs.declared.region.Region.TheVariants.{Cover, Slots, Bodies, Beyond}

abbrev pub geometry : ℕ → ℕ → Geometry
geometry blocks slots = record { blocks = blocks; slots = slots }

abbrev pub sizes : CardGeometry → Geometry
sizes g = geometry g.blocks g.slots

abbrev pub region_view : CardRegion → Region
region_view Cover = cover_region
region_view Slots = slot_region
region_view Bodies = body_region
region_view Beyond = beyond
