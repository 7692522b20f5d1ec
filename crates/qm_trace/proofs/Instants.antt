-- By the marks of an instant riders ride as the motion says.
use Rattle.std.proofs.Common.{rules, ◌≡◌, ℕ, suc, ◌<◌, Bool, true, false, cond, not, List, length, map, Option, Some}
use Rattle.std.proofs.Common.{None, sym, ap, ◌∙◌, refl, arith, ◌||◌}
use Rattle.std.proofs.lemmas.List.{ext_get_or, get_or-map, length-map}
use Rattle.def_mesh.specs.Darts.{next_of, prev_of, twin_of, to_of}
use Rattle.def_mesh.specs.{Faces.Faces, Manifold.IsManifold, Kinds.is_inner, Kinds.is_singular}
use Rattle.def_cut.specs.Motion.{end_of, ridden, is_among, is_found, is_met, stop_of, after_ride, ride, begun, State}
use Rattle.def_cut.specs.{Motion.Terrain, FullCut.is_on, declared.graph.Stop.Stop, declared.graph.Stop.TheVariants.Tie}
use Rattle.def_cut.specs.{declared.moving.Moving.Moving, Traced.terrain_of, Events.rider_at}
use Rattle.motion_laws.proofs.{Shown.runs_ridden, Steps.two_bits, Onward.later_reached, Bits.IsReachedFrom}
use Rattle.qm_trace.specs.Tables.{IsInstant, AreRode, rode, stop_by, is_met_now, is_crowded, is_faced, state_at}
use Rattle.{feature_laws.proofs.Breaks.begins, feature_laws.proofs.First.marked_begin, mesh_laws.proofs.Flood.all_below}
use Rattle.{site_laws.proofs.Sites.terrain, def_feature.specs.Marked.marked_first}

-- Tests in a row, where the last answers need only agree if all tests fail.
in_a_row : (a b c e : Bool) (w x y z u v : Option Stop) → (a ≡ false → b ≡ false → c ≡ false → e ≡ false → u ≡ v)
    → cond a w (cond b x (cond c y (cond e z u))) ≡ cond a w (cond b x (cond c y (cond e z v)))
in_a_row false false false false w x y z u v f = f refl refl refl refl
in_a_row _ _ _ _ w x y z u v f = refl

-- In a state that is reached the marks `taken` say which darts are ridden.
module _ {faces : Faces} (m : IsManifold faces) {begin : ℕ → Bool} {first s : State}
    (reached : IsReachedFrom (terrain_of faces) begin first s) (taken : List Bool)
    (marked : (d : ℕ) → is_on taken d ≡ is_among d (ridden s.riders)) where
  abbrev g : Terrain
  g = terrain_of faces

  abbrev ds : List ℕ
  ds = ridden s.riders

  met_same : (o : Option ℕ) → is_met_now o taken ≡ is_found o ds
  met_same None = refl
  met_same (Some t) = marked t

  -- The rider by d stops as the motion says, where it is known whether somebody had stood at its end.
  pub stop_same : (d : ℕ) (stood : Bool) → is_among d (ridden s.riders) ≡ true → stood ≡ s.stood
      (end_of (terrain_of faces) d) → stop_by faces (not (is_inner faces (to_of faces d)))
      (is_singular faces (to_of faces d)) stood taken d ≡ stop_of (terrain_of faces) s.stood (ridden s.riders) d
  stop_same d stood n same = rw (met_same (twin_of faces d), same) (in_a_row (is_met g ds d)
      (not (is_inner faces (to_of faces d))) (is_singular faces (to_of faces d)) (s.stood (end_of g d)) _ _ _ _ _ _
      (λ unmet inner regular off.
      let t = terrain faces m in
      let low = reached.low d n in
      let (a, b, c, x) = t.crossed (next_of d) (t.half.next_low d low) inner regular in
      let tie = Some (Tie (end_of g d)) in
      -- The two bits of a rider.
      let crowd : is_crowded faces (twin_of faces d) taken ≡ (is_among (prev_of a) ds || is_among (prev_of b) ds) =
      ap (λ o. is_crowded faces o taken) (sym (ap (twin_of faces) (t.half.prev_next d)) ∙ x.first)
      ∙ (ap (λ q. q || is_faced (twin_of faces (prev_of a)) taken) (marked (prev_of a))
      ∙ ap (λ q. is_among (prev_of a) ds || q) (ap (λ o. is_faced o taken) x.second ∙ marked (prev_of b))) in
      ap (λ (q : Bool). cond q tie None) crowd
      ∙ ((search rules) ∙ sym (ap (λ (q : Bool). cond q None tie)
      (two_bits g t s.stood ds reached.apart reached.low reached.left d a b c n off x)))))

module _ {faces : Faces} (m : IsManifold faces) {marks : List Bool} {k : ℕ} {riders : List Moving} {queue : List ℕ}
    {stood taken : List Bool} (i : IsInstant faces marks k riders queue stood taken) where
  abbrev now : State
  now = state_at faces marks k

  reached : IsReachedFrom (terrain_of faces) (begins faces marks) (marked_first faces marks) now
  reached = search (rules, later_reached, terrain, marked_begin)

  -- A rider after the step.
  one_rider : (r : ℕ) → r < length riders → (b : Bool) → is_among r queue ≡ b
      → cond b (rode faces stood taken (rider_at riders r)) (rider_at riders r)
      ≡ ride (terrain_of faces) now.stood (ridden now.riders) (rider_at riders r)
  one_rider r l true on =
      let d = (rider_at riders r).dart in
      let there : is_among d (ridden now.riders) ≡ true = search (rules, runs_ridden) in
      let end_low = all_below faces (next_of d) ((terrain faces m).half.next_low d (reached.low d there)) in
      ap (after_ride (terrain_of faces) d (rider_at riders r).rides) (stop_same m reached taken (λ e. search rules) d
      (is_on stood (to_of faces d)) there (i.stood_is (to_of faces d) end_low)) ∙ sym (search rules)
  one_rider r l false off = search rules

  pub next_riders : (new : List Moving) → length new ≡ length riders → AreRode faces stood taken queue riders new
      → new ≡ (state_at faces marks (suc k)).riders
  next_riders new long each =
      let f = ride (terrain_of faces) now.stood (ridden now.riders) in
      ext_get_or (begun 0) new (map f riders) (long ∙ sym (length-map riders f)) (λ r h.
      let l : r < length riders = omega (arith, h, long) in
      each r l ∙ (search (rules, one_rider, get_or-map))) ∙ ap (map f) i.riders_are
