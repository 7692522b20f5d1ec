use Rattle.std.proofs.Common.{rules, ◌≡◌, ◌-◌, ◌+◌, arith}
use Rattle.def_layout.specs.{Lengths.size}
use Rattle.qm_stitch.specs.{Rims.along_lines, Rims.key_of, Rims.line_ends, Lengthened.gluing_in, Lengthened.lengths_by}
use Rattle.{qm_stitch.proofs.Grids.counts, qm_stitch.proofs.RimEdges.parts_next, written_laws.proofs.Sides.size_some}
use Rattle.qm_stitch.proofs.rim.push_lines.Goals as goal

pub loop-number-init : goal.loop-number-init
loop-number-init c = search (rules, counts, size_some)

pub push_line-requires : goal.push_line-requires
push_line-requires c = record { line = omega counts }

pub loop-number-preserved : goal.loop-number-preserved
loop-number-preserved c =
    let l = gluing_in c.args.numbered.now in
    let x = lengths_by c.args.numbered.now in
    let back : c.loop-number.number + 1 - 1 ≡ c.loop-number.number - 1 + 1 = omega arith in
    record {
      some = omega arith;
      upto = omega arith;
      items = rw back (parts_next (key_of l x) (line_ends c.args.upright c.args.patch
          (size l x c.args.patch (along_lines c.args.upright))) 1 (c.loop-number.number - 1) c.loop-number.number
          c.args.keys.now.items (omega arith) c.loop-number.invariant.items c.in_ok-push_line.ensures);
    }
