use Rattle.std.proofs.Common.{◌≡◌, ◌++◌, [], ◌∷◌, ◌∙◌, sym, arith}
use Rattle.qm_stitch.proofs.{stitching.all_faces.Goals.After-last_of-count, Grids.starts_end}
use Rattle.qm_stitch.specs.Lengthened.{gluing_in, lengths_by}
use Rattle.{std.proofs.lemmas.List.FromFn.map-range_with_len_more, def_written.specs.NewFaces.face_count}
use Rattle.qm_stitch.proofs.stitching.all_faces.Goals as goal

all : (c : After-last_of-count) → c.last_of-count.result ≡ face_count (gluing_in c.args.numbered.now)
    (lengths_by c.args.numbered.now)
all c = starts_end c.args.numbered.now.numbers.cells c.deref.ensures.value c.last_of-count.ensures

pub face-requires : goal.face-requires
face-requires c = omega (arith, all (goal.at.face-requires c).After-last_of-count)

pub loop-face-preserved : goal.loop-face-preserved
loop-face-preserved c = c.in_ok-push.ensures.items ∙ (λ i. c.loop-face.invariant i ++ c.face.ensures i ∷ [])
    ∙ sym (map-range_with_len_more _ 0 _ _ (omega arith))

pub returns : goal.returns
returns c =
    let end : c.loop-face.face ≡ face_count (gluing_in c.args.numbered.now) (lengths_by c.args.numbered.now) =
    omega (arith, all (goal.at.returns c).After-last_of-count) in
    rw end at c.loop-face.invariant
