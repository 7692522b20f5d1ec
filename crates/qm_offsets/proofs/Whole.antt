-- What the layout of a mesh gives.
use Rattle.std.proofs.Common.{rules, ◌≡◌, ℕ, zero, suc, ◌<◌, true, false, List, length, get_or, refl, sym, ap, subst}
use Rattle.std.proofs.Common.{arith}
use Rattle.{std.proofs.lemmas.List.get_or_default, def_layoutnet.specs.MeshLayouts.IsSomeLayout}
use Rattle.def_layout.specs.{Surfaces.HasWholeSides, Gluings.Way, Gluings.south, Gluings.east, Gluings.north}
use Rattle.def_layout.specs.{Gluings.west, Lengths.Lengths, Lengths.size, Layouts.Layout, Layouts.gluing_of}
use Rattle.def_layout.specs.{Layouts.way_number, Layouts.side_at, declared.tmesh.SideArc.SideArc}
use Rattle.def_remesh.specs.Numberings.{sizes_on, used_at}
use Rattle.{std.specs.List.All, def_math.specs.Counts.count_below, def_known.specs.Sides.AreSides}
pub use Rattle.embedding_laws.proofs.Bounds.{laid_of, lengths_of, lies}

-- The arcs that sides use.
pub arcs_low : (layout : Layout) → HasWholeSides (gluing_of layout) → (patch : ℕ) (side : Way) (n : ℕ)
    (list : List SideArc) → patch < length layout.patches → n ≡ length layout.arcs → list ≡ side_at layout patch side
    → All (λ (used : SideArc). used.arc < n) list
arcs_low layout paved patch side n list low long same = subst (λ (us : List SideArc). All (λ (used : SideArc). used.arc
    < n) us) (sym same) (λ k d less. let arc = paved.arc_low (record { patch = patch; side = side; at = k })
    (record { patch_low = low; low = less }) in
    let read = get_or_default (side_at layout patch side) k d (record { arc = 0; forward = true }) less in
    omega (arith, arc, ap (λ (u : SideArc). u.arc) read, long))

pub uses_low : (layout : Layout) → IsSomeLayout layout → (patch : ℕ) (side : Way) (n : ℕ) (list : List SideArc)
    → patch < length layout.patches
    → n ≡ length layout.arcs → list ≡ side_at layout patch side → All (λ (used : SideArc). used.arc < n) list
uses_low layout is = arcs_low layout (laid_of layout is).paved

-- What is read of the sides of the layout of a mesh.
pub sides_of : (layout : Layout) → IsSomeLayout layout → AreSides layout
sides_of layout is = record { sided = is.laid.sided; four = is.laid.four; paved = (laid_of layout is).paved }

-- A side that is read is as long as its lengths say.
pub side_long : (layout : Layout) (patch : ℕ) (side : Way) (lengths : Lengths) (list : List SideArc)
    → list ≡ side_at layout patch side
    → count_below (sizes_on list lengths) (length list) ≡ size (gluing_of layout) lengths patch side
side_long layout patch side lengths list same = search rules

-- What is read of a side.
pub read_used : (side : List SideArc) (k : ℕ) → k < length side
    → used_at side k ≡ get_or side k (record { arc = 0; forward = false })
read_used side k low = get_or_default side k (record { arc = 0; forward = true }) (record { arc = 0; forward = false })
    low

pub read_size : (side : List SideArc) (lengths : Lengths) (k : ℕ) → k < length side
    → sizes_on side lengths k ≡ lengths (get_or side k (record { arc = 0; forward = false })).arc
read_size side lengths k low = ap (λ (used : SideArc). lengths used.arc) (read_used side k low)

-- The side with a number.
pub way_for : (s : ℕ) → s < 4 → (w : Way) × (way_number w ≡ s)
way_for zero low = (south, refl)
way_for (suc zero) low = (east, refl)
way_for (suc (suc zero)) low = (north, refl)
way_for (suc (suc (suc zero))) low = (west, refl)
way_for (suc (suc (suc (suc s)))) low = absurd (omega arith)
