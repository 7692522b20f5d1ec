-- Balance at the nodes of the network of a layout is that opposite sides have equal sums.
use Rattle.std.proofs.Common.{rules, ◌≡◌, ℕ, ◌*◌, ◌/◌, ◌%◌, ◌<◌, ◌≤◌, Bool, true, false, cond, not, ℤ, pos}
use Rattle.std.proofs.Common.{◌+ℤ◌, List, ◌∷◌, length, Option, Some, None, refl, sym, ap, ◌∙◌, inl, inr, arith}
use Rattle.std.proofs.lemmas.Bool.{cases_eq, cases_lt, ne_eqb}
use Rattle.std.proofs.{lemmas.Int.ints, lemmas.List.ext_get_or}
use Rattle.sum_laws.proofs.Sums.{total_below_none, total_below_one, total_below_same}
use Rattle.def_flow.specs.{Admissible.is_on_side, Admissible.side_sum, Admissible.IsBalanced, Network.Network}
use Rattle.def_flow.specs.{Network.arc_at, Network.ends, declared.net.End.End, declared.net.Settings.Settings}
use Rattle.def_layout.specs.Gluings.{Way, south, east, north, west, Gluing, Slot, IsSlot, use_of}
use Rattle.def_layout.specs.{declared.tmesh.SideArc.SideArc, Surfaces.IsSurface, Lengths.Lengths}
use Rattle.def_layoutnet.specs.LayoutNetLaws.{sum_along, AreOpposite, BalanceLaw, OneNetLaw}
use Rattle.def_layoutnet.specs.LayoutNet.{node_of, is_plus, end_at, IsNetOf}
use Rattle.qm_layoutnet.proofs.EndTables.{is_hit, use_of_arc, hit_of, no_hit, along_is}
use Rattle.{std.specs.Prelude.option_to_list, def_math.specs.Sums.total, def_math.specs.Sums.total_below}

-- A side is on its own side of its own node, and no other side of any patch is there.
on_itself : (p : ℕ) (s : Way) → is_on_side (node_of p s) (is_plus s) (end_at p s) ≡ true
on_itself p s = search rules

on_is : (p q : ℕ) (s w : Way) → is_on_side (node_of p s) (is_plus s) (end_at q w) ≡ true → (q ≡ p) × (w ≡ s)
on_is p q s w on = search rules

-- The nodes of a patch are below twice the number of patches.
pub node_low : (q : ℕ) (s : Way) (patches : ℕ) → q < patches → node_of q s < 2 * patches
node_low q s h1 = search rules

-- The ends of an arc are those of its slots.
module _ {l : Gluing} {old wish floor : Lengths} {set : Settings} {net : Network}
    (is : IsNetOf l old wish set floor net) where
  pub left_at : {a : ℕ} {w : Slot} → IsSlot l w → use_of l w ≡ use_of_arc a true
      → (arc_at net.arcs a).left ≡ end_at w.patch w.side
  left_at {a} {w} slot e = search rules

  pub right_at : {a : ℕ} {w : Slot} → IsSlot l w → use_of l w ≡ use_of_arc a false
      → (arc_at net.arcs a).right ≡ Some (end_at w.patch w.side)
  right_at {a} {w} slot e = search rules

  pub alone_at : (a : ℕ) → a < l.arcs → ((w : Slot) → IsSlot l w → use_of l w ≡ use_of_arc a false → ⊥)
      → (arc_at net.arcs a).right ≡ None
  alone_at a low never = search rules

  -- What is so of one end and of two ends, however they are used, is so of the ends of an arc.
  pub by_ends : (P : End → Option End → Type 0) → IsSurface l → (k : ℕ) → k < l.arcs
      → ((w : Slot) → IsSlot l w → use_of l w ≡ use_of_arc k true
      → (((v : Slot) → IsSlot l v → use_of l v ≡ use_of_arc k false → ⊥) → P (end_at w.patch w.side) None)
      × ((v : Slot) → IsSlot l v → use_of l v ≡ use_of_arc k false
      → P (end_at w.patch w.side) (Some (end_at v.patch v.side))))
      → P (arc_at net.arcs k).left (arc_at net.arcs k).right
  by_ends P laid k low by =
      let w = laid.forward k low in
      let f = by w.0 w.1 w.2 in
      let arc = ap (λ (u : SideArc). u.arc) w.2 in
      let turned = ap (λ (u : SideArc). not u.forward) w.2 in
      elim (laid.other w.0 w.1) [
        | inl v ↦
            let used : use_of l v.0 ≡ use_of_arc k false = λ i. use_of_arc ((v.1.1.arc ∙ arc) i)
            ((v.1.1.turned ∙ turned) i) in
            rw (left_at w.1 w.2, right_at v.1.0 used) (f.1 v.0 v.1.0 used)
        | inr none ↦
            let never = λ (v : Slot) (slot : IsSlot l v) (used : use_of l v ≡ use_of_arc k false).
            none v (slot, record { arc = cc (used, w.2); turned = cc (used, w.2) }) in
            rw (left_at w.1 w.2, alone_at k low never) (f.0 never)
      ]

module _ (l : Gluing) (old wish : Lengths) (set : Settings) (floor : Lengths) (net : Network) (laid : IsSurface l)
    (is : IsNetOf l old wish set floor net) (x : ℕ → ℤ) where
  -- The slot with number j on a side of a patch.
  abbrev slot_at : (p : ℕ) (s : Way) (j : ℕ) → Slot
  slot_at p s j = record { patch = p; side = s; at = j }

  -- What the uses of a side put on arc k in one direction.
  abbrev hits : (p : ℕ) (s : Way) (k : ℕ) (forward : Bool) → ℤ
  hits p s k forward = total_below (λ j. cond (is_hit k forward (l.use_at p s j)) (x k) (pos 0)) (l.many p s)

  -- Where no slot of the side has the use, that is nothing.
  hits_none : (p : ℕ) (s : Way) (k : ℕ) (forward : Bool)
      → ((j : ℕ) → j < l.many p s → l.use_at p s j ≡ use_of_arc k forward → ⊥) → hits p s k forward ≡ pos 0
  hits_none p s k forward never = search (rules, total_below_none)

  -- Where slot w has it, that is the entry of the arc, if w is on the side.
  hits_at : (p : ℕ) (s : Way) (k : ℕ) (forward : Bool) (w : Slot) → p < l.patches → IsSlot l w → use_of l w ≡ use_of_arc
      k forward → hits p s k forward ≡ cond (is_on_side (node_of p s) (is_plus s) (end_at w.patch w.side)) (x k) (pos 0)
  hits_at p s k forward w low slot e = by_place (is_on_side (node_of p s) (is_plus s) (end_at w.patch w.side)) refl
    where
      place : (j : ℕ) → j < l.many p s → l.use_at p s j ≡ use_of_arc k forward → slot_at p s j ≡ w
      place j less u = laid.once (slot_at p s j) w (record { patch_low = low; low = less }) slot (u ∙ sym e)

      by_place : (b : Bool) → is_on_side (node_of p s) (is_plus s) (end_at w.patch w.side) ≡ b
          → hits p s k forward ≡ cond b (x k) (pos 0)
      by_place false off = hits_none p s k forward (λ j less u. let same = place j less u in cc (on_itself p s, off))
      by_place true on =
          let (patch, side) = on_is p w.patch s w.side on in
          let less : w.at < l.many p s = rw (patch, side) at slot.low in
          let there : l.use_at p s w.at ≡ use_of_arc k forward = rw (patch, side) at e in
          total_below_one (λ j. cond (is_hit k forward (l.use_at p s j)) (x k) (pos 0)) (l.many p s) w.at less
          (λ j low_j ne. rw (no_hit k forward (l.use_at p s j) (λ u. ne (ap (λ (v : Slot). v.at) (place j low_j u))))
          refl)
          ∙ rw (there, hit_of k forward) refl

  -- What ends put on one side of a node, of an arc with entry y.
  abbrev put : (v : ℕ) (plus : Bool) (y : ℤ) (es : List End) → ℤ
  put v plus y es = total (λ (e : End). cond (is_on_side v plus e) y (pos 0)) es

  -- An arc puts on a side of a node what the uses of the side put on the arc.
  put_is : (p : ℕ) (s : Way) (k : ℕ) → p < l.patches → k < l.arcs
      → put (node_of p s) (is_plus s) (x k) (ends (arc_at net.arcs k)) ≡ hits p s k true +ℤ hits p s k false
  put_is p s k low k_low = by_ends is (λ left right. put (node_of p s) (is_plus s) (x k)
      (left ∷ option_to_list right) ≡ hits p s k true +ℤ hits p s k false) laid k k_low (λ w slot e. (
        λ none. omega (
          arith,
          ints,
          hits_at p s k true w low slot e,
          hits_none p s k false (λ j less u. none (slot_at p s j) (record { patch_low = low; low = less }) u),
        ),
        λ v slot_v e_v. omega (arith, ints, hits_at p s k true w low slot e, hits_at p s k false v low slot_v e_v),
      ))

  -- The sum at the node of a side, on its side, is the sum along it.
  pub side_is : (p : ℕ) (s : Way) → p < l.patches → side_sum net.arcs x (is_plus s) (node_of p s) ≡ sum_along l x p s
  side_is p s low = rw (
    is.long,
    along_is x l.arcs (l.many p s) (l.use_at p s)
        (λ j less. laid.paved.arc_low (slot_at p s j) (record { patch_low = low; low = less })),
  ) (total_below_same _ _ l.arcs (λ k k_low. put_is p s k low k_low))

  -- Past the last node there is no end.
  none_at : (v : ℕ) (plus : Bool) → 2 * l.patches ≤ v → side_sum net.arcs x plus v ≡ pos 0
  none_at v plus high = total_below_none (λ k. put v plus (x k) (ends (arc_at net.arcs k))) (length net.arcs)
      (λ k less. by_ends is (λ left right. put v plus (x k) (left ∷ option_to_list right) ≡ pos 0) laid k
      (omega (arith, is.long, less)) (λ w slot e. (
        λ none. omega (arith, ints, off k w slot),
        λ u slot_u e_u. omega (arith, ints, off k w slot, off k u slot_u),
      )))
    where
      off : (k : ℕ) (w : Slot) → IsSlot l w → cond (is_on_side v plus (end_at w.patch w.side)) (x k) (pos 0) ≡ pos 0
      off k w slot = search (rules, ne_eqb)

  balanced : AreOpposite l x → IsBalanced net.arcs x
  balanced equal v =
      let p = v / 2 in
      let flat = λ (low : p < l.patches). side_is p south low ∙ (equal.across p low ∙ sym (side_is p north low)) in
      let tall = λ (low : p < l.patches). side_is p east low ∙ (equal.upright p low ∙ sym (side_is p west low)) in
      grind (arith, cases_lt v (2 * l.patches), cases_eq (v % 2) 0, flat, tall, none_at v)

pub balance_law : BalanceLaw
balance_law l old wish set floor net laid is x =
    search (rules, side_is l old wish set floor net laid is x, balanced l old wish set floor net laid is x)

-- A layout has one network.

pub one_net_law : OneNetLaw
one_net_law l old wish set floor laid one other is also = λ i. record {
  nodes = (is.nodes ∙ sym also.nodes) i;
  arcs = arcs i;
  p = (is.p ∙ sym also.p) i;
  q = (is.q ∙ sym also.q) i;
}
  where
    arc : (a : ℕ) → a < length one.arcs → arc_at one.arcs a ≡ arc_at other.arcs a
    arc a low_here =
        let low : a < l.arcs = omega (arith, is.long) in
        let sides = by_ends is (λ left right. (left ≡ (arc_at other.arcs a).left) × (right
        ≡ (arc_at other.arcs a).right)) laid a low (λ w slot e. (
          λ never. (sym (left_at also slot e), sym (alone_at also a low never)),
          λ v slot_v e_v. (sym (left_at also slot e), sym (right_at also slot_v e_v)),
        )) in
        λ i. record {
          left = sides.0 i;
          right = sides.1 i;
          old = (is.olds a low ∙ sym (also.olds a low)) i;
          weight = (is.weights a low ∙ sym (also.weights a low)) i;
          floor = (is.floors a low ∙ sym (also.floors a low)) i;
        }

    arcs : one.arcs ≡ other.arcs
    arcs = ext_get_or (record { left = record { node = 0; plus = true }; right = None; old = 0; weight = 0; floor = 0 })
        one.arcs other.arcs (is.long ∙ sym also.long) arc
