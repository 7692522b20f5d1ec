-- How often a side uses an arc in one direction, and the sum along a side as a sum over all arcs.
use Rattle.std.proofs.Common.{rules, ◌≡◌, ℕ, zero, suc, ◌<◌, Bool, true, false, cond, not, ◌&&◌, ◌==◌, ℤ, pos, ◌+ℤ◌}
use Rattle.std.proofs.Common.{refl, sym, ap, ◌∙◌, inl, inr, arith, ◌⊎◌, ◌+◌, ◌≤◌, List, [], ◌∷◌, length, get_or, Some}
use Rattle.std.proofs.lemmas.{Bool.ne_eqb, Bool.cases_eq, Bool.Decides.nat_tests, Int.ints, List.get_or-set_other}
use Rattle.std.proofs.lemmas.{List.length-set, List.get_or_default, Grind.get_or-set_at}
use Rattle.sum_laws.proofs.Sums.{total_below_none, total_below_one, total_below_same, total_below_sum}
use Rattle.def_layout.specs.Gluings.{Way, south, east, north, west, Gluing, Slot, IsSlot, use_of}
use Rattle.def_layout.specs.{declared.tmesh.SideArc.SideArc, Surfaces.IsSurface, Lengths.Lengths}
use Rattle.def_layout.specs.Layouts.{Layout, gluing_of, side_at}
use Rattle.def_flow.specs.{Network.arc_at, declared.net.Arc.Arc, declared.net.End.End, declared.net.Settings.Settings}
use Rattle.qm_layoutnet.specs.Ends.{with_side, with_end, with_ends, with_four, AreEnds, PatchesBelow}
use Rattle.{def_math.specs.Sums.total_below, def_layoutnet.specs.LayoutNet.end_at}

-- Two sums may be taken in either order.
pub swapped : (f : ℕ → ℕ → ℤ) (n m : ℕ) → total_below (λ j. total_below (λ k. f k j) n) m
    ≡ total_below (λ k. total_below (f k) m) n
swapped f n zero = sym (total_below_none (λ k. pos 0) n (λ k l. refl))
swapped f n (suc m) = omega (arith, ints, swapped f n m, total_below_sum (λ k. total_below (f k) m) (λ k. f k m) n)

-- Whether a use is of arc k, in this direction.
abbrev pub is_hit : (k : ℕ) (forward : Bool) (used : SideArc) → Bool
is_hit k forward used = (used.arc == k) && cond forward used.forward (not used.forward)

-- The use of an arc in a direction.
abbrev pub use_of_arc : (k : ℕ) (forward : Bool) → SideArc
use_of_arc k forward = record { arc = k; forward = forward }

-- Such a use is a hit.
pub hit_of : (k : ℕ) (forward : Bool) → is_hit k forward (use_of_arc k forward) ≡ true
hit_of k forward = grind (arith, nat_tests)

-- Any other use of it is none.
pub no_hit : (k : ℕ) (forward : Bool) (used : SideArc) → (used ≡ use_of_arc k forward → ⊥) → is_hit k forward used
    ≡ false
no_hit k forward used never = search rules

-- What a use puts on arc k, in either direction.
abbrev pub put : (x : ℕ → ℤ) (used : SideArc) (k : ℕ) → ℤ
put x used k = cond (is_hit k true used) (x k) (pos 0) +ℤ cond (is_hit k false used) (x k) (pos 0)

-- In all it puts the entry of its arc on that arc alone.
pub put_once : (x : ℕ → ℤ) (n : ℕ) (used : SideArc) → used.arc < n → total_below (put x used) n ≡ x used.arc
put_once x n used low = total_below_one (put x used) n used.arc low
    (λ k l ne. rw (ne_eqb used.arc k (λ e. ne (sym e))) refl) ∙ here used.forward
  where
    here : (forward : Bool) → put x (use_of_arc used.arc forward) used.arc ≡ x used.arc
    here forward = grind (arith, ints)

-- The sum along some uses is the sum over all arcs of what they put there.
pub along_is : (x : ℕ → ℤ) (n m : ℕ) (use_at : ℕ → SideArc) → ((j : ℕ) → j < m → (use_at j).arc < n)
    → total_below (λ j. x (use_at j).arc) m
    ≡ total_below (λ k. total_below (λ j. cond (is_hit k true (use_at j)) (x k) (pos 0)) m +ℤ total_below
    (λ j. cond (is_hit k false (use_at j)) (x k) (pos 0)) m) n
along_is x n m use_at low = total_below_same (λ j. x (use_at j).arc) (λ j. total_below (put x (use_at j)) n) m
    (λ j l. sym (put_once x n (use_at j) (low j l))) ∙ (swapped (λ k j. put x (use_at j) k) n m ∙ simp total_below_sum)

-- The arcs of a network while their ends are put in.

-- An arc once the end of a use is put in: where the use is of this arc, the left end is new if it goes along the arc,
-- else the right end.
abbrev changed : (end : End) (u : SideArc) (a : ℕ) (arc : Arc) → Arc
changed end u a arc = cond (a == u.arc) (with_side end u arc) arc

changed_at : (end : End) (u : SideArc) (arcs : List Arc) (a : ℕ) → u.arc < length arcs
    → arc_at (with_end end u arcs) a ≡ changed end u a (arc_at arcs a)
changed_at end u arcs a low = grind (arith, nat_tests, get_or-set_at, get_or-set_other)

numbers_stay : (end : End) (u : SideArc) (a : ℕ) (arc : Arc) → ((changed end u a arc).old ≡ arc.old)
    × ((changed end u a arc).weight ≡ arc.weight) × ((changed end u a arc).floor ≡ arc.floor)
numbers_stay end u a arc = search rules

-- The end e of a use w is there if it was there, or if w is the use that is put in.
left_there : (end e : End) (u w : SideArc) (arc : Arc) → w.forward ≡ true
    → (w.arc ≡ u.arc → w.forward ≡ u.forward → e ≡ end) → (arc.left ≡ e) ⊎ (w ≡ u) → (changed end u w.arc arc).left ≡ e
left_there end e u w arc on same n = grind (arith, nat_tests)

right_there : (end e : End) (u w : SideArc) (arc : Arc) → w.forward ≡ false
    → (w.arc ≡ u.arc → w.forward ≡ u.forward → e ≡ end) → (arc.right ≡ Some e) ⊎ (w ≡ u)
    → (changed end u w.arc arc).right ≡ Some e
right_there end e u w arc off same n = grind (arith, nat_tests)

-- Where the use goes along the arc, the right end stays.
right_stays : (end : End) (u : SideArc) (a : ℕ) (arc : Arc) → (u.arc ≡ a → u.forward ≡ true)
    → (changed end u a arc).right ≡ arc.right
right_stays end u a arc on = grind (arith, nat_tests)

-- A slot of side s of patch p from its k-th on.
abbrev SlotsFrom : (p : ℕ) (s : Way) (k : ℕ) (slot : Slot) → Type 0
SlotsFrom p s k slot = (slot.patch ≡ p) × (slot.side ≡ s) × (k ≤ slot.at)

module _ {l : Gluing} {old : Lengths} {set : Settings} (laid : IsSurface l) where
  -- The ends are those of the slots that are done, however that is said.
  same_ends : {done now : Slot → Type 0} {arcs : List Arc} → ((w : Slot) → IsSlot l w → done w → now w)
      → ((w : Slot) → IsSlot l w → now w → done w) → AreEnds l old set done arcs → AreEnds l old set now arcs
  same_ends on back are = search (rules, are, are.left, are.right, are.alone, on, back)

  -- One slot more is done.
  end_more : {done : Slot → Type 0} {arcs : List Arc} (v : Slot) → IsSlot l v → AreEnds l old set done arcs
      → AreEnds l old set (λ w. done w ⊎ (w ≡ v)) (with_end (end_at v.patch v.side) (use_of l v) arcs)
  end_more {done} {arcs} v is_slot are = record {
    long = length-set arcs u.arc _ ∙ are.long;
    olds = λ a low. rw (at a) ((numbers_stay end u a (arc_at arcs a)).0 ∙ are.olds a low);
    weights = λ a low. rw (at a) ((numbers_stay end u a (arc_at arcs a)).1 ∙ are.weights a low);
    floors = λ a low. rw (at a) ((numbers_stay end u a (arc_at arcs a)).2 ∙ are.floors a low);
    left = λ w slot n on. rw (at (use_of l w).arc) (left_there end _ u (use_of l w) _ on (same w slot)
        (elim n [ inl d ↦ inl (are.left w slot d on) | inr e ↦ inr (ap (use_of l) e) ]));
    right = λ w slot n off. rw (at (use_of l w).arc) (right_there end _ u (use_of l w) _ off (same w slot)
        (elim n [ inl d ↦ inl (are.right w slot d off) | inr e ↦ inr (ap (use_of l) e) ]));
    alone = λ a low only. rw (at a) (right_stays end u a _ (only v is_slot (inr refl))
        ∙ are.alone a low (λ w slot d e. only w slot (inl d) e));
  }
    where
      u : SideArc
      u = use_of l v

      end : End
      end = end_at v.patch v.side

      at : (a : ℕ) → arc_at (with_end end u arcs) a ≡ changed end u a (arc_at arcs a)
      at a = changed_at end u arcs a (omega (arith, are.long, laid.paved.arc_low v is_slot))

      same : (w : Slot) → IsSlot l w → (use_of l w).arc ≡ u.arc → (use_of l w).forward ≡ u.forward
          → end_at w.patch w.side ≡ end
      same w slot e f = ap (λ (x : Slot). end_at x.patch x.side)
          (laid.once w v slot is_slot (λ i. use_of_arc (e i) (f i)))

  -- Side s of patch p is done from its k-th use on.
  side_from : (p : ℕ) (s : Way) (us : List SideArc) (k : ℕ) {done : Slot → Type 0} {arcs : List Arc} → p < l.patches
      → ((j : ℕ) (d : SideArc) → j < length us → get_or us j d ≡ l.use_at p s (k + j)) → k + length us ≡ l.many p s
      → AreEnds l old set done arcs
      → AreEnds l old set (λ w. done w ⊎ SlotsFrom p s k w) (with_ends (end_at p s) us arcs)
  side_from p s [] k low same many are = same_ends (λ w slot d. inl d) (λ w slot h. search rules) are
  side_from p s (u ∷ us) k {done} {arcs} low same many are =
      let v : Slot = record { patch = p; side = s; at = k } in
      let here : u ≡ l.use_at p s k = same 0 u (omega arith) ∙ ap (l.use_at p s) (omega arith) in
      let first : AreEnds l old set (λ w. done w ⊎ (w ≡ v)) (with_end (end_at p s) u arcs) =
      rw here (end_more v (record { patch_low = low; low = omega arith }) are) in
      same_ends (λ w slot h. search rules) (λ w slot h. elim h [ inl d ↦ inl (inl d) | inr (e, f, h) ↦ search rules ])
      (side_from p s us (k + 1) low (λ j d h. same (suc j) d (omega arith) ∙ ap (l.use_at p s)
      (let n : k + suc j ≡ k + 1 + j = omega arith in n)) (omega arith) first)

-- A patch is done.
pub patch_more : (layout : Layout) {old : Lengths} {set : Settings} → IsSurface (gluing_of layout) → (p : ℕ)
    {arcs : List Arc} → p < length layout.patches → AreEnds (gluing_of layout) old set (PatchesBelow p) arcs
    → AreEnds (gluing_of layout) old set (PatchesBelow (p + 1)) (with_four p (side_at layout p) arcs)
patch_more layout {old} {set} laid p low are =
    same_ends laid (λ w slot d. omega (arith, d)) (λ w slot h. elim (cases_eq w.patch p) [
      | inl e ↦ done w e w.side refl
      | inr ne ↦ inl (inl (inl (inl (omega arith))))
    ]) (put west (put north (put east (put south are))))
  where
    put : (s : Way) {done : Slot → Type 0} {arcs : List Arc} → AreEnds (gluing_of layout) old set done arcs → AreEnds
        (gluing_of layout) old set (λ w. done w ⊎ SlotsFrom p s 0 w) (with_ends (end_at p s) (side_at layout p s) arcs)
    put s = side_from laid p s (side_at layout p s) 0 low (λ j d h. get_or_default (side_at layout p s) j d _ h
        ∙ ap ((gluing_of layout).use_at p s) (omega arith)) (omega arith)

    done : (w : Slot) → w.patch ≡ p → (s : Way) → w.side ≡ s → (((PatchesBelow p w ⊎ SlotsFrom p south 0 w)
        ⊎ SlotsFrom p east 0 w) ⊎ SlotsFrom p north 0 w) ⊎ SlotsFrom p west 0 w
    done w e s f = search rules
