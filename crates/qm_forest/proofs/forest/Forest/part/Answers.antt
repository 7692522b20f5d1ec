use Rattle.std.proofs.{Common.rules, Common.◌≡◌, Common.length, Common.get_or, Common.arith, lemmas.List.get_or_read}
use Rattle.qm_forest.{specs.Parts.IsPartable, proofs.Shrinkings.seen_in}
use Rattle.qm_forest.{proofs.forest.Forest.part.Goals.After-open_ring}
use Rattle.qm_forest.proofs.Parted.{Opened, set_live, part_lists, parted_as, parted_is, tied_parted}
use Rattle.qm_forest.proofs.forest.Forest.part.Goals as goal

ready : (c : After-open_ring) → IsPartable (seen_in c.self.inside) c.args.b
ready c = rw c.self.view_is c.requires

front_is : (c : After-open_ring) → c.index-front.result.now ≡ get_or c.self.inside.rings.head.items c.args.b 0
front_is c = search (rules, get_or_read)

many_is : (c : After-open_ring) → c.index-many.result.now ≡ get_or c.self.inside.rings.parts.items c.args.b 0
many_is c = search (rules, get_or_read)

opened : (c : After-open_ring) → Opened c.self.inside c.open_ring.new.rings c.args.b
opened c = assumption (ready c, rw (front_is c, many_is c) at c.open_ring.ensures)

pub hand_over_row-requires : goal.hand_over_row-requires
hand_over_row-requires c =
    let at = (goal.at.hand_over_row-requires c).After-open_ring in
    rw (c.deref.ensures.value, front_is at, many_is at) (part_lists (opened at))

pub give_set-requires : goal.give_set-requires
give_set-requires c =
    let n_is : c.len.result ≡ length c.self.inside.handles.hand.items =
    omega (arith, c.len.ensures, c.hand_over_row.new.handles.hand.ok.0, c.hand_over_row.ensures.hands) in
    rw n_is (set_live (opened (goal.at.give_set-requires c).After-open_ring))

pub invariant_of-self : goal.invariant_of-self
invariant_of-self c =
    let at = (goal.at.invariant_of-self c).After-open_ring in
    let n_is : c.len.result ≡ length c.self.inside.handles.hand.items = omega arith in
    tied_parted (opened at) (rw (c.deref.ensures.value, front_is at, many_is at) at c.hand_over_row.ensures)
    (rw n_is at c.give_set.ensures)

pub returns-clause-parted : goal.returns-clause-parted
returns-clause-parted c =
    let at = (goal.at.returns-clause-parted c).After-open_ring in
    let n_is : c.len.result ≡ length c.self.inside.handles.hand.items = omega arith in
    parted_as c.self.view_is (parted_is (opened at) (rw (c.deref.ensures.value, front_is at, many_is at)
    at c.hand_over_row.ensures) (rw n_is at c.give_set.ensures))
