use Rattle.std.proofs.Common.{rules, ◌≡◌, ℕ, suc, ◌*◌, ◌^◌, ◌<◌, ◌≤◌, length, refl, ◌∙◌, arith}
use Rattle.def_layout.specs.{Arcs.long_at, Gluings.south, Gluings.west, Layouts.gluing_of, Layouts.layout_of}
use Rattle.def_layout.specs.{Lengths.wide, Lengths.high, declared.tmesh.TMesh.TMesh}
use Rattle.def_written.specs.NewFaces.{cells_before, face_count}
use Rattle.embedding_laws.proofs.Bounds.{laid_of, lengths_of, cells_most, old_faces}
use Rattle.{def_layoutnet.specs.MeshLayouts.IsSomeLayout, def_remesh.specs.NewPoints.lengths_in}
use Rattle.{qm_stitch.proofs.Grids.counts, written_laws.proofs.Spacings.count_rises}
use Rattle.qm_stitch.proofs.count.count_faces.Goals as goal

-- All faces are few enough for 128 bits.
few : (t : TMesh) (x : ℕ → ℕ) (is : IsSomeLayout (layout_of t)) → ((a : ℕ) → x a ≤ 10 ^ 12) → (p : ℕ)
    → p < length t.patches.items → cells_before (gluing_of (layout_of t)) x (suc p) < 2 ^ 128
few t x is most p low =
    let l = gluing_of _ in
    let old = long_at _ in
    let upto : suc p ≤ length (layout_of t).patches = omega counts in
    let all : cells_before l old (suc p) ≤ face_count l old = count_rises _ _ _ upto in
    let most = cells_most l old x _ (laid_of (layout_of t) is) (lengths_of (layout_of t) is) most _ upto in
    omega (arith, old_faces _ is)

product : (c : goal.After-from-in-loop-patch) → c.from.result * c.from-in-loop-patch.result
    ≡ wide (gluing_of (layout_of c.args.stretched.now.t.now)) (lengths_in c.args.stretched.now.lengths.now)
    c.loop-patch.patch * high (gluing_of (layout_of c.args.stretched.now.t.now))
    (lengths_in c.args.stretched.now.lengths.now) c.loop-patch.patch
product c = λ i. (c.from.ensures ∙ c.size_on-wide.ensures south refl) i
    * (c.from-in-loop-patch.ensures ∙ c.size_on-high.ensures west refl) i

pub overflow_add-faces : goal.overflow_add-faces
overflow_add-faces c =
    let s = c.args.stretched.now in
    grind (arith, product c, few s.t.now (lengths_in s.lengths.now) c.requires.layout s.bounded c.loop-patch.patch)

pub loop-patch-preserved : goal.loop-patch-preserved
loop-patch-preserved c = search (rules, product)
