-- A full cut of a mesh has patches: from the least corner of each class of faces grows a grid.
use Rattle.std.proofs.Common.{rules, ◌≡◌, ℕ, zero, suc, ◌+◌, ◌*◌, ◌/◌, ◌<◌, ◌≤◌, Bool, true, false, ◌||◌, List, [], ◌∷◌}
use Rattle.std.proofs.Common.{◌++◌, length, map, get_or, replicate, refl, inl, inr, arith}
use Rattle.std.{proofs.lemmas.Bool.cases_Bool, specs.Prelude.◌&&◌, specs.Prelude.nat_lt, specs.List.range_with_len}
use Rattle.std.proofs.lemmas.List.FromFn.{get_or-map-range_with_len, length-map-range_with_len}
use Rattle.def_cut.specs.{Cuts.IsCorner, FullCut.is_on, Grids.IsPartition, Grids.Rectangle}
use Rattle.def_mesh.specs.{Darts.darts, Darts.prev_of, Faces.Faces, HalfEdges.HalfEdges, HalfEdges.half_edges}
use Rattle.qm_grid.specs.{Cells.grid_list, Heads.lies_in, Heads.AreOfOne, Heads.IsHead}
use Rattle.qm_grid.proofs.Found.{found_done, found_more, found_none, found_skip, AreFoundSoFar}
use Rattle.qm_grid.proofs.{HeadTables.back, HeadTables.join, HeadTables.to_first, Laid.lies_linked, Laid.linked_lies}
use Rattle.existence_laws.proofs.Arcs.{least_passing}
use Rattle.{cut_laws.specs.Grown.IsGrown, cut_laws.proofs.Rows.grow, def_known.specs.Cutting.IsCutting}

module _ {faces : Faces} {cut : List Bool} (cutting : IsCutting faces cut) where
  abbrev mesh : HalfEdges
  mesh = half_edges faces

  -- Each class of faces has a least corner.
  head : (f : ℕ) → f < length faces → (d : ℕ) × IsHead faces cut f d
  head f low =
      let (e, n, links, corner) = cutting.full.corner (4 * f) (omega arith) in
      let (w, h, grown) = grow cutting.laws cutting.full e corner in
      by_grid e w h (n, links) corner grown
    where
      by_grid : (e w h : ℕ) → AreOfOne faces cut (4 * f) e → IsCorner mesh (is_on cut) e
          → IsGrown mesh (is_on cut) e w h
          → (d : ℕ) × IsHead faces cut f d
      by_grid e w h linked corner grown =
          let (d, is, least) = least_passing is_corner e (passes e (0, refl) corner) in (
            d,
            record {
              corner = (parts d is).0;
              linked = join cutting (4 * f) e d linked (join cutting e (4 * (d / 4)) d (lies_linked cutting corner grown
                  (d / 4) (parts d is).1) (back cutting d (4 * (d / 4)) (parts d is).0.0 (to_first cutting d)));
              least = λ x of_one at. least x
                  (passes x (join cutting e (4 * f) x (back cutting (4 * f) e (omega arith) linked) of_one) at);
            },
          )
        where
          is_corner : (x : ℕ) → Bool
          is_corner x = nat_lt x (darts faces) && (is_on cut x && (is_on cut (prev_of x)
              && lies_in (grid_list mesh e w h) (x / 4)))

          passes : (x : ℕ) → AreOfOne faces cut e x → IsCorner mesh (is_on cut) x → is_corner x ≡ true
          passes x of_one at = search (rules, linked_lies)

          parts : (x : ℕ) → is_corner x ≡ true → IsCorner mesh (is_on cut) x
              × (lies_in (grid_list mesh e w h) (x / 4) ≡ true)
          parts x is = search rules

  -- The patches of the faces below n.
  found : (n : ℕ) → n ≤ length faces → (seen : List Bool) × (ps : List Rectangle) × AreFoundSoFar faces cut n seen ps
  found zero low = (replicate (length faces) false, [], found_none cutting refl)
  found (suc n) low =
      let to_suc : n + 1 ≡ suc n = omega arith in
      let (seen, ps, so) = found n (omega arith) in
      rw (← to_suc) (elim (cases_Bool (get_or seen n false)) [
        | inl on ↦ (seen, ps, found_skip cutting so on)
        | inr off ↦
            let (d, is) = head n (omega arith) in
            let (w, h, grown) = grow cutting.laws cutting.full d is.corner in
            let cells = grid_list mesh d w h in
            let marked = λ (g : ℕ). get_or seen g false || lies_in (grid_list mesh d w h) g in (
              map marked (range_with_len 0 (length seen)),
              ps ++ record { w = w; h = h; cells = cells } ∷ [],
              found_more cutting _ (omega arith) is grown refl _ so off (length-map-range_with_len marked 0
                  (length seen)) (λ g l. get_or-map-range_with_len marked 0 (length seen) g g false l (omega arith)),
            )
      ])

  pub patches_exist : (ps : List Rectangle) × IsPartition (half_edges faces) (is_on cut) (λ d. d / 4) ps
  patches_exist = let (seen, ps, so) = found (length faces) (omega arith) in (ps, found_done cutting so (omega arith))
