-- A link of a block leads to another link, which leads back.
use Rattle.std.proofs.Common.{rules, ◌≡◌, ℕ, ◌+◌, ◌-◌, ◌<◌, List, [], length, slice_get, slice_index_or, Some, refl}
use Rattle.std.proofs.Common.{sym, ◌∙◌, ap, subst, inl, inr, arith, ◌≢◌, ◌⊎◌, Bool, not, ◌≤◌}
use Rattle.std.proofs.lemmas.Option.{get_or_from_slice_get, none-some, same_Some, slice_get-get_or, slice_get_within}
use Rattle.std.{proofs.lemmas.Bool.Decides.leb_tells, specs.List.Contains}
use Rattle.def_layout.specs.Gluings.{Way, south, east, north, west, Gluing, Slot, IsSlot, use_of, AreReverse}
use Rattle.def_layout.specs.{Surfaces.IsSurface, Surfaces.IsOtherSlot, Lengths.Lengths, Lengths.size}
use Rattle.def_layout.specs.{Lengths.AreLengths, declared.tmesh.SideArc.SideArc}
use Rattle.def_blocks.specs.Links.{arcs_before, first_point, place_in, side_name, AreLinks, IsLinkOf}
use Rattle.def_blocks.specs.{Laws.HasLink, Laws.MutualLaw, Laws.SymmetricLaw, Laws.TwoLinksLaw, Laws.LinkedPointsLaw}
use Rattle.def_blocks.specs.{declared.link.Link.Link, declared.link.SideName.SideName, SidePoints.side_vertex}
use Rattle.def_written.specs.{Numbers.vertex_number, Points.side_point, Points.use_point}
use Rattle.written_laws.proofs.{Borders.use_back, Rims.border_point, Sides.reach_low, Sides.side_upto}

-- An arc that is used the other way round.
pub turned_back : (one other : SideArc) → AreReverse one other → AreReverse other one
turned_back one other rev = search rules

pub symmetric : SymmetricLaw
symmetric l laid one other is across = (
  (is, turned_back (use_of l one) (use_of l other) across.1),
  λ next next_is. laid.once next other next_is.0 across.0 (λ t. record {
    arc = (next_is.1.arc ∙ sym across.1.arc) t;
    forward = (next_is.1.turned ∙ sym across.1.turned) t;
  }),
)

-- A slot that uses the arc of another slot is that slot, or the other slot of it.
same_or_other : (l : Gluing) → IsSurface l → (w v : Slot) → IsSlot l w → IsSlot l v
    → (use_of l w).arc ≡ (use_of l v).arc → (w ≡ v) ⊎ IsOtherSlot l v w
same_or_other l laid w v is is' same = elim (alike (use_of l w).forward (use_of l v).forward) [
  | inl e ↦ inl (laid.once w v is is' (λ t. record { arc = same t; forward = e t }))
  | inr e ↦ inr (is, record { arc = same; turned = e })
]
  where
    alike : (a b : Bool) → (a ≡ b) ⊎ (a ≡ not b)
    alike a b = grind arith

-- No slot is its own other slot.
not_own : (l : Gluing) (w v : Slot) → IsOtherSlot l w v → w ≢ v
not_own l w v across e = search rules

pub two_links : TwoLinksLaw
two_links l laid arc low =
    let (one, slot, uses) = laid.forward arc low in
    let used = ap (λ (u : SideArc). u.arc) uses in
    elim (laid.other one slot) [
      | inl next ↦ inl (record {
        one = one;
        other = next.0;
        slot = slot;
        across = next.1;
        uses = uses;
        apart = not_own l one next.0 next.1;
        only = λ w is e. elim (same_or_other l laid w one is slot (e ∙ sym used)) [
          | inl same ↦ inl same
          | inr other ↦ inr ((symmetric l laid one next.0 slot next.1).1 w other)
        ];
      })
      | inr wall ↦ inr (record {
        one = one;
        slot = slot;
        uses = uses;
        wall = wall;
        only = λ w is e. elim (same_or_other l laid w one is slot (e ∙ sym used)) [
          | inl same ↦ same
          | inr other ↦ absurd (wall w other)
        ];
      })
    ]

-- Each place of a patch is that of a slot.
slot_at : (l : Gluing) (p k : ℕ) → k < arcs_before l p west + l.many p west
    → (s : Way) × (at : ℕ) × (at < l.many p s) × (arcs_before l p s + at ≡ k)
slot_at l p k low = elim (leb_tells (l.many p south) k) [
  | inr less ↦ (south, k, less.1, omega arith)
  | inl past ↦ elim (leb_tells (l.many p south + l.many p east) k) [
    | inr less ↦ (east, k - l.many p south, omega arith, omega arith)
    | inl past' ↦ elim (leb_tells (l.many p south + l.many p east + l.many p north) k) [
      | inr less ↦ (north, k - (l.many p south + l.many p east), omega arith, omega arith)
      | inl past'' ↦ (west, k - (l.many p south + l.many p east + l.many p north), omega arith, omega arith)
    ]
  ]
]

-- A link over so many points, to a point of another block's side.
abbrev pub link_to : (side : SideName) (from len other : ℕ) (side' : SideName) (from' : ℕ) → Link
link_to side from len other side' from' =
    record { side = side; from = from; len = len; other = Some (other, side', from') }

module _ (l : Gluing) (x : Lengths) (laid : IsSurface l) (links : List (List Link)) (are : AreLinks l x links) where
  -- A link of a block is that of a slot.
  pub slot_of_link : (p k : ℕ) (link : Link) → p < l.patches → k < length (slice_index_or links p [])
      → slice_index_or (slice_index_or links p []) k link ≡ link
      → (w : Slot) × IsSlot l w × (w.patch ≡ p) × IsLinkOf l x w link
  slot_of_link p k link p_low low e =
      let found = slot_at l p k (omega (arith, low, are.many p p_low)) in
      let w : Slot = record { patch = p; side = found.0; at = found.1 } in
      let is : IsSlot l w = record { patch_low = p_low; low = found.2 } in
      let got = are.each w is in
      let read = slice_get-get_or (slice_index_or links p []) k link low ∙ ap Some e in
      let same = sym got.1 ∙ ap (slice_get (slice_index_or links p [])) found.3 ∙ read in
      (w, is, refl, subst (IsLinkOf l x w) (same_Some got.0 link same) got.2)

  -- The other slot has the link back.
  back : (w v : Slot) (side side' : SideName) (from from' len other : ℕ) → IsSlot l w → IsOtherSlot l w v
      → IsLinkOf l x w (link_to side from len other side' from') → HasLink links other side' from' len w.patch side from
  back w v side side' from from' len other is across is_link =
      let told = same_Some (other, side', from') (v.patch, side_name v.side, first_point l x v)
      (is_link.linked v across) in
      let got = are.each v across.0 in
      let there : IsLinkOf l x v got.0 = got.2 in
      let over : got.0.other ≡ Some (w.patch, side, from) = there.linked w (
        is,
        turned_back (use_of l w) (use_of l v) across.1,
      ) ∙ (λ t. Some (w.patch, (sym is_link.side) t, (sym is_link.from) t)) in
      let same : got.0 ≡ link_to side' from' len w.patch side from = λ t. record {
        side = (there.side ∙ sym (ap (λ q. q.1) told)) t;
        from = (there.from ∙ sym (ap (λ q. q.2) told)) t;
        len = (there.len ∙ (ap x across.1.arc ∙ sym is_link.len)) t;
        other = over t;
      } in
      let xs = slice_index_or links v.patch [] in
      let has : Contains xs (link_to side' from' len w.patch side from) = (
        place_in l v,
        slice_get_within xs (place_in l v) got.0 got.1,
        get_or_from_slice_get xs (place_in l v) got.0 (link_to side' from' len w.patch side from) got.1 ∙ same,
      ) in
      subst (λ q. Contains (slice_index_or links q []) (link_to side' from' len w.patch side from))
      (sym (ap (λ q. q.0) told)) has

  forth : (one other : ℕ) → one < l.patches → (side side' : SideName) (from from' len : ℕ)
      → HasLink links one side from len other side' from' → HasLink links other side' from' len one side from
  forth one other low side side' from from' len has =
      let (w, is, at, is_link) = slot_of_link one has.0 (link_to side from len other side' from') low has.1 has.2 in
      elim (laid.other w is) [
        | inr wall ↦ absurd (none-some _ (sym (is_link.wall wall)))
        | inl next ↦ subst (λ p. HasLink links other side' from' len p side from) at
            (back w next.0 side side' from from' len other is next.1 is_link)
      ]

pub lead_back : MutualLaw
lead_back l x laid links are one other low low' side side' from from' len = search (rules, forth)

-- Linked points are one vertex.

module _ (l : Gluing) (x : Lengths) (laid : IsSurface l) (len : AreLengths l x) where
  -- The vertex at a point of a side is that of the arc that lies there.
  vertex_on : (p : ℕ) (s : Way) (t : ℕ) → p < l.patches → t ≤ size l x p s
      → side_vertex l x p (side_name s) t ≡ vertex_number l x (side_point l x p s t)
  vertex_on p south t low upto = ap (vertex_number l x) (border_point l x laid len p south t low upto)
  vertex_on p s t low upto = ap (vertex_number l x) (border_point l x laid len p s t low upto)

  -- So is that at a point of a slot.
  slot_vertex : (w : Slot) (k : ℕ) → IsSlot l w → k ≤ x (use_of l w).arc → side_vertex l x w.patch (side_name w.side)
      (first_point l x w + k) ≡ vertex_number l x (use_point l x (use_of l w) k)
  slot_vertex w k is le =
      vertex_on w.patch w.side (first_point l x w + k) is.patch_low (omega (arith, reach_low l x w is, le))
      ∙ ap (vertex_number l x) (side_upto l x laid len w k (first_point l x w + k) is le refl)

  one_vertex : (w v : Slot) (k : ℕ) → IsSlot l w → IsOtherSlot l w v → k ≤ x (use_of l w).arc
      → side_vertex l x w.patch (side_name w.side) (first_point l x w + k)
      ≡ side_vertex l x v.patch (side_name v.side) (first_point l x v + (x (use_of l w).arc - k))
  one_vertex w v k is across le =
      let long : x (use_of l v).arc ≡ x (use_of l w).arc = ap x across.1.arc in
      let e : x (use_of l w).arc - (x (use_of l w).arc - k) ≡ k = omega (arith, le) in
      slot_vertex w k is le ∙ ap (λ o. vertex_number l x (use_point l x (use_of l w) o)) (sym e)
      ∙ ap (vertex_number l x) (sym (use_back l x (use_of l w) (use_of l v) across.1 (x (use_of l w).arc - k)
      (omega arith))) ∙ sym (slot_vertex v (x (use_of l w).arc - k) across.0 (omega (arith, long)))

pub linked_points : LinkedPointsLaw
linked_points l x laid len links are one other low side side' from from' n has k le =
    let (w, is, at, is_link) =
    slot_of_link l x laid links are one has.0 (link_to side from n other side' from') low has.1 has.2 in
    elim (laid.other w is) [
      | inr wall ↦ absurd (none-some _ (sym (is_link.wall wall)))
      | inl next ↦
          let v = next.0 in
          let told = sym (same_Some (other, side', from') (v.patch, side_name v.side, first_point l x v)
          (is_link.linked v next.1)) in
          (λ t. side_vertex l x ((sym at) t) (is_link.side t) (is_link.from t + k))
          ∙ one_vertex l x laid len w v k is next.1 (omega (arith, le, is_link.len))
          ∙ (λ t. side_vertex l x ((told t).0) ((told t).1) ((told t).2 + ((sym is_link.len) t - k)))
    ]
