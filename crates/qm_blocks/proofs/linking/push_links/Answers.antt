use Rattle.std.proofs.Common.{◌≡◌, length, ap, sym, ◌∙◌, arith}
use Rattle.def_remesh.specs.{NewPoints.lengths_in, Numberings.sizes_on}
use Rattle.qm_offsets.proofs.{Spots.count_step, Spots.term_room, Whole.read_size, Whole.read_used}
use Rattle.qm_blocks.specs.Spots.{link_from, link_on}
use Rattle.{def_blocks.specs.declared.link.Link.Link, qm_blocks.proofs.Tables.list_more}
use Rattle.qm_blocks.proofs.linking.push_links.Goals as goal

pub overflow_add-from : goal.overflow_add-from
overflow_add-from c =
    let room = term_room (sizes_on c.args.side.now (lengths_in c.args.spotted.now.measured.x.now))
    (length c.args.side.now) c.loop-used.used-index c.loop-used-test.true in
    let size = read_size c.args.side.now (lengths_in c.args.spotted.now.measured.x.now) c.loop-used.used-index
    c.loop-used-test.true in
    omega (arith, ap (λ (link : Link). link.len) c.link_at-link.ensures, c.loop-used.invariant.from, c.requires.small)

pub loop-used-preserved : goal.loop-used-preserved
loop-used-preserved c =
    let side = c.args.side.now in
    let k = c.loop-used.used-index in
    let x = lengths_in c.args.spotted.now.measured.x.now in
    let long = ap (λ (link : Link). link.len) c.link_at-link.ensures in
    let here : c.link_at-link.result ≡ link_on c.args.spotted.now.table.now x c.args.name side k
    = c.link_at-link.ensures ∙ (λ i. link_from c.args.spotted.now.table.now x
    ((sym (read_used side k c.loop-used-test.true)) i) c.args.name (c.loop-used.invariant.from i)) in
    record {
      pushed = list_more (link_on c.args.spotted.now.table.now x c.args.name side) k c.args.links.now.items
          c.loop-used.links.items c.push.new.self.items c.link_at-link.result c.loop-used.invariant.pushed
          c.in_ok-push.ensures.items here;
      from = omega (arith, count_step (sizes_on side x) k, read_size side x k c.loop-used-test.true, long);
    }
