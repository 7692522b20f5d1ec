-- What is read of the arcs in a slice.
use Rattle.std.proofs.lemmas.Grind.{common_steps}
use Rattle.std.proofs.Common.{rules, ◌≡◌, ℕ, ◌<◌, Bool, List, [], map, length, get_or, sym, ◌∙◌, ap, arith, suc, ◌+◌}
use Rattle.std.proofs.lemmas.List.{get_or-map, get_or_append_left, get_or_push, length-map}
use Rattle.def_mesh.specs.{Faces.Faces, Darts.darts, HalfEdges.half_edges, HalfEdges.HalfEdges, Vertices.vertex_count}
use Rattle.def_layout.specs.{Arcs.Path, Arcs.path, Arcs.path_at, Arcs.long_at, Nodes.is_node}
use Rattle.qm_tmesh.specs.{Tables.IsMarked, Tables.IsNamedRun, Tables.AreStarts, Tables.ArePlaces, Uses.AreNamed}
use Rattle.std.proofs.Common.{true, ◌∷◌, ◌++◌, refl, inl}
use Rattle.std.proofs.{Common.inr, lemmas.List.length_push, lemmas.Grind.get_or_default_zero}
use Rattle.def_cut.specs.{Grids.rectangle, Grids.patch_at, Grids.least_of, declared.patch.Patch.Patch}
use Rattle.layout_laws.proofs.{Runs.run_low, Runs.same_length, Uses.run_entry, Uses.same_named}
use Rattle.{std.proofs.lemmas.Bool.cases_eq, def_layout.specs.declared.tmesh.TArc.TArc}
use Rattle.{layout_laws.specs.Named.run_list, layout_laws.specs.Named.run_name, qm_tmesh.specs.Arcs.IsArcFrom}
use Rattle.{qm_tmesh.specs.Arcs.AreArcsBelow, qm_tmesh.proofs.Walks.push_each, list_laws.proofs.Filters.last_or}

-- The arc that was read.
pub read_arc : (arcs : List TArc) (a : ℕ) (x : TArc) → a < length arcs → x ≡ get_or arcs a x → path_at (map path arcs) a
    ≡ path x
read_arc arcs a x l is = search (rules, get_or-map)

module _ {faces : Faces} {cut marks : List Bool} (marked : IsMarked faces cut marks) {arcs : List Path}
    (named : AreNamed faces cut arcs) where
  pub named_some : (a : ℕ) → a < length arcs → 0 < long_at arcs a
  named_some a l = (named.each a l).1.run.some

  pub named_low : (a k : ℕ) → a < length arcs → k < long_at arcs a → get_or (path_at arcs a).darts k 0 < darts faces
  named_low a k l lk = let (s, run, is) = named.each a l in
      omega (
        arith,
        ap (λ (xs : List ℕ). get_or xs k 0) is,
        run_entry (half_edges faces) s (long_at arcs a) k lk,
        run_low _ marked.laws _ marked.full _ marked.stand s _ run.run k lk,
      )

-- A named arc that was read has darts, which are darts of the mesh.
pub record IsArcRead (faces : Faces) (arcs : List TArc) (a : ℕ) (arc : TArc) : Type 0 where
  pub same : path_at (map path arcs) a ≡ path arc
  pub low : a < length (map path arcs)
  pub some : 0 < length arc.darts.items
  pub below : (k : ℕ) → k < length arc.darts.items → get_or arc.darts.items k 0 < darts faces

pub arc_read : {faces : Faces} {cut marks : List Bool} → IsMarked faces cut marks → (arcs : List TArc)
    → AreNamed faces cut (map path arcs) → {a : ℕ} {arc : TArc} → a < length arcs → arc ≡ get_or arcs a arc
    → IsArcRead faces arcs a arc
arc_read marked arcs named {a} {arc} l is =
    let same = read_arc arcs a arc l is in
    let low : a < length (map path arcs) = omega (arith, length-map arcs path) in
    search (rules, named_some, named_low)

-- A number at place k of a list, where it was read at an equal place.
pub read_at : (items : List ℕ) (k : ℕ) {place d : ℕ} → d ≡ get_or items place d → place ≡ k → k < length items
    → d ≡ get_or items k 0
read_at items k {place} {d} e same low = search (rules, get_or_default_zero)

-- The patch that was read.
pub read_patch : (patches : List Patch) (p : ℕ) (x : Patch) → p < length patches → x ≡ get_or patches p x
    → patch_at (map rectangle patches) p ≡ rectangle x
read_patch patches p x l is = search (rules, get_or-map)

-- The list of arcs, arc by arc.

each_more : (P : Path → Type 0) (arcs : List Path) (p : Path) → ((a : ℕ) → a < length arcs → P (path_at arcs a)) → P p
    → (a : ℕ) → a < length (arcs ++ p ∷ []) → P (path_at (arcs ++ p ∷ []) a)
each_more P arcs p each here = push_each (λ k. P) arcs p (record { first = 0; last = 0; darts = [] }) each here

module _ {faces : Faces} {cut marks : List Bool} (marked : IsMarked faces cut marks) where
  abbrev mesh : HalfEdges
  mesh = half_edges faces

  pub arcs_none : (nodes : List ℕ) → AreArcsBelow faces cut nodes 0 []
  arcs_none nodes = search rules

  -- The place of a node, as it was read.
  pub node_place : (list places : List ℕ) {v u d : ℕ} → ArePlaces marks list places → v < vertex_count faces → v ≡ u
      → is_node faces cut u ≡ true → d ≡ get_or places v d → (d < length list) × (get_or list d 0 ≡ u)
  node_place list places {v} p l is on read = search (rules, read_at)

  module _ {nodes : List ℕ} {m : ℕ} {arcs : List Path} (so : AreArcsBelow faces cut nodes m arcs) where
    -- No run has the name m.
    pub arcs_skip : ((s n : ℕ) → IsNamedRun faces cut s n → run_name (half_edges faces) s n ≡ m → ⊥)
        → AreArcsBelow faces cut nodes (m + 1) arcs
    arcs_skip none = record {
      each = so.each;
      ordered = so.ordered;
      below = λ a l. omega (arith, so.below a l);
      all = λ s n named l. grind (arith, none s n named, so.all s n named);
    }

    pub table_skip : {starts : List ℕ} → AreStarts faces cut (darts faces) starts → get_or starts m 0 ≡ length cut
        → AreArcsBelow faces cut nodes (m + 1) arcs
    table_skip {starts} table none = arcs_skip (λ s n named e. grind (arith, table.first s n named.run.low named))

    -- The run from s has the name m.
    pub arcs_more : {s n : ℕ} {p : Path} → IsNamedRun faces cut s n → run_name (half_edges faces) s n ≡ m
        → IsArcFrom faces cut nodes s p → AreArcsBelow faces cut nodes (m + 1) (arcs ++ p ∷ [])
    arcs_more {s} {n} {p} named is from = record {
      each = each_more (λ (q : Path). (r : ℕ) × IsNamedRun faces cut r (length q.darts) × IsArcFrom faces cut nodes r q)
          arcs p so.each (s, rw same at named, from);
      ordered = λ a l.
          let front : path_at (arcs ++ p ∷ []) a ≡ path_at arcs a = grind (arith, common_steps) in
          elim (last_or (length arcs) (suc a) (omega (arith, length_push arcs p))) [
            | inl b ↦ rw (front, get_or_append_left arcs (p ∷ []) _ (suc a) b) (so.ordered a b)
            | inr e ↦ rw (front, e, get_or_push arcs p _ _ refl) (omega (arith, so.below a (omega arith), name))
          ];
      below = each_more (λ (q : Path). least_of q.darts < m + 1) arcs p (λ a l. omega (arith, so.below a l))
          (omega (arith, name));
      all = λ r k other l. elim (cases_eq (run_name mesh r k) m) [
        | inl e ↦
            let one = same_named _ marked.laws _ marked.full _ marked.stand s n r k named other (is ∙ sym e) in
            let there : path_at (arcs ++ p ∷ []) (length arcs) ≡ p = get_or_push arcs p _ _ refl in
            (length arcs, omega (arith, length_push arcs p), cc list)
        | inr ne ↦ grind (arith, common_steps, so.all r k other)
      ];
    }
      where
        same : n ≡ length p.darts
        same = search (rules, same_length)

        list : p.darts ≡ run_list mesh s n
        list = from.darts ∙ ap (run_list mesh s) (sym same)

        name : least_of p.darts ≡ m
        name = ap least_of list ∙ is
