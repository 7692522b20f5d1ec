-- The sides of patches are split into uses of arcs.
use Rattle.std.proofs.Common.{◌≡◌, ℕ, suc, ◌+◌, ◌<◌, Bool, List, length, get_or, Some, option_map, ap, ◌∙◌, arith}
use Rattle.def_mesh.specs.{Darts.darts, Darts.from_of, Darts.next_of, Darts.straight_of, Faces.Faces}
use Rattle.def_mesh.specs.{HalfEdges.HalfEdges, HalfEdges.half_edges}
use Rattle.def_cut.specs.{FullCut.is_on, Grids.Rectangle, Steps.easts}
use Rattle.def_layout.specs.{Arcs.Path, Arcs.path_at, Arcs.long_at, Arcs.LiesAt, Arcs.IsArc, Borders.side_size}
use Rattle.def_layout.specs.{Borders.border_dart, Gluings.Way, Nodes.is_node, declared.tmesh.SideArc.SideArc}
use Rattle.layout_laws.specs.Named.{run_list}
use Rattle.layout_laws.proofs.Borders.{IsLine, line, line_easts, line_begins, run_fits, next_begins}
use Rattle.layout_laws.proofs.Uses.{IsUse, run_long, run_entry, named_arc, use_run}
use Rattle.qm_tmesh.specs.{Four.AreRuns, Four.IsPatchOf, Four.HasSide, Sides.IsSplit, Uses.use_in}

module _ {faces : Faces} {arcs : List Path} {uses : List SideArc} (runs : AreRuns faces arcs uses) where
  abbrev mesh : HalfEdges
  mesh = half_edges faces

  abbrev node : (v : ℕ) → Bool
  node = is_node faces runs.cut

  -- The arcs of named runs are arcs.
  pub is_arc : (a : ℕ) → a < length arcs → IsArc mesh (is_on runs.cut) node (path_at arcs a).darts
  is_arc a l = let (s, named, is) = runs.named.each a l in
      rw is (named_arc _ runs.laws _ runs.full _ runs.stand s (long_at arcs a) named)

  -- What begins with the first dart of a use.
  pub arc_use : (a : ℕ) (f : Bool) (d : ℕ) → a < length arcs → LiesAt mesh (path_at arcs a).darts f 0 d
      → IsUse mesh (is_on runs.cut) node (path_at arcs a).darts f d
  arc_use a f d la lies = use_run _ runs.laws _ runs.full _ runs.stand _ f d (is_arc a la) lies

  module _ {p : Rectangle} (patch : IsPatchOf faces runs.cut p) (way : Way) where
    abbrev border : (t : ℕ) → ℕ
    border = border_dart mesh p way

    abbrev wide : ℕ
    wide = side_size p way

    pub is_line : IsLine mesh (is_on runs.cut) border wide
    is_line = line mesh runs.laws (is_on runs.cut) runs.full p patch.placed.grid way

    at_line : (t : ℕ) → t < wide → easts mesh (border 0) t ≡ border t
    at_line t l = line_easts _ runs.laws _ runs.full _ runs.stand border wide is_line 0 t (omega arith)
        ∙ ap border (omega arith)

    pub side_straight : (t : ℕ) → t + 1 < wide
        → straight_of faces (easts mesh (border 0) t) ≡ Some (easts mesh (border 0) (t + 1))
    side_straight t l =
        let n : suc t ≡ t + 1 = omega arith in
        let over = ap (option_map next_of) (is_line.over t (omega arith)) in
        cc (at_line t (omega arith), at_line (suc t) (omega arith), runs.laws.next_prev (border (suc t)))

    -- The dart at a place of the line.
    pub entry : (t : ℕ) → t < wide → get_or (run_list mesh (border 0) wide) t 0 ≡ border t
    entry t l = run_entry mesh (border 0) wide t l ∙ at_line t l

    abbrev pub begins : ℕ → Bool
    begins t = is_node faces runs.cut (from_of faces (border_dart (half_edges faces) p way t))

    pub side_split : IsSplit arcs uses (run_list mesh (border 0) wide) begins
    side_split = record {
      low = λ t l. let lt : t < wide = omega (arith, size) in
          omega (arith, entry t lt, is_line.low t lt, runs.long);
      first = λ some. line_begins _ runs.laws _ runs.full _ runs.stand _ wide is_line;
      step = λ t l on.
          let lt : t < wide = omega (arith, size) in
          let u = runs.begin (border t) (is_line.low t lt) (is_line.on t lt) on in
          let begun = use_in uses (border t) in
          let run = (arc_use begun.arc begun.forward (border t) u.0 u.1).run in
          let long = long_at arcs begun.arc in
          let fits = run_fits _ runs.laws _ runs.full _ runs.stand _ wide is_line t long lt run in
          record {
            low = rw (entry t lt) u.0;
            some = rw (entry t lt) run.some;
            fits = rw (entry t lt) (omega (arith, fits, size));
            next = rw (entry t lt) (λ far. next_begins _ runs.laws _ runs.full _ runs.stand _ wide is_line t long lt run
                (omega (arith, far, size)));
          };
    }
      where
        size : length (run_list mesh (border 0) wide) ≡ wide
        size = run_long mesh (border 0) wide

-- A side that begins with this dart.
module _ {faces : Faces} {arcs : List Path} {uses : List SideArc} {first size : ℕ}
    (h : HasSide faces arcs uses first size) where
  pub from_low : first < darts faces
  from_low = let line = is_line h.0 h.2 h.3 in rw h.4 (line.low 0 line.some)

  pub from_some : 0 < size
  from_some = rw h.5 (is_line h.0 h.2 h.3).some
