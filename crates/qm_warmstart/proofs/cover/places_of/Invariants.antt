use Rattle.std.proofs.Common.{◌≡◌, ◌*◌, length}
use Rattle.{std.specs.List.All, qm_warmstart.specs.Tables.IsPlaced}

abbrev pub invariant-loop-way : Rattle.qm_warmstart.proofs.cover.places_of.Given.invariant-loop-way
invariant-loop-way l = (l.exits.ways ≡ l.initial.exits.ways) × (length l.places.items ≡ l.way) × All
    (IsPlaced (2 * length l.initial.exits.ways.all.items)) l.places.items
