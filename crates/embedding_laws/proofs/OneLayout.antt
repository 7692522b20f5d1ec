-- The layout of a mesh and a full cut lies in the mesh: at each node an edge of the cut ends.
use Rattle.std.proofs.Common.{rules, ◌≡◌, ◌⊎◌, ℕ, zero, suc, ◌<◌, Bool, true, false, not, List, [], ◌∷◌, length, get_or}
use Rattle.std.proofs.Common.{◌∙◌, inl, inr, arith, ◌+◌, ◌-◌, ◌≤◌, sym, ap, subst}
use Rattle.std.proofs.lemmas.Bool.{cases_Bool, cases_lt, or_cases, and_parts, not-true, ltb-true, cases_order}
use Rattle.def_mesh.specs.Darts.{darts, prev_of, from_of, to_of, twin_of}
use Rattle.def_mesh.specs.{Faces.Faces, Vertices.fan_of, Vertices.vertex_count, Kinds.is_regular, Meshes.IsMesh}
use Rattle.def_mesh.specs.HalfEdges.{IsQuadManifold, half_edges, HalfEdges}
use Rattle.def_cut.specs.{FullCut.IsFullCut, FullCut.is_on, Cuts.IsCut, Cuts.Cut, Steps.face_of, Grids.patch_at}
use Rattle.def_layout.specs.Layouts.{Layout, IsDartLayout, gluing_of, vertex_at, side_at}
use Rattle.def_layout.specs.{Embeddings.IsEmbedding, declared.tmesh.SideArc.SideArc, Borders.border_dart, Lengths.reach}
use Rattle.def_layout.specs.Arcs.{dart_at, long_at, LiesAt, Path, path_at, name_at, AreArcs}
use Rattle.def_layout.specs.Gluings.{Way, south, east, north, west, Slot, IsSlot}
use Rattle.def_layout.specs.Nodes.{is_lone_before, cut_degree, is_node, AreNodes}
use Rattle.mesh_laws.proofs.Chains.{prev_of_low, IsFan, fan_of_is, before_from, manifold_law}
use Rattle.def_written.specs.{Laws.AreQuads, Laws.LiesInMesh, EmbeddingLaws.EmbeddingLaw, EmbeddingLaws.OneLayoutLaw}
use Rattle.embedding_laws.proofs.ArcUses.{dart_low, same_arc, one_name_both, clash, same_use}
use Rattle.embedding_laws.proofs.Lies.{cell_dart, lengths, node_kept, sided, vertex_same}
use Rattle.cut_laws.proofs.Pigeon.{AreIncreasing, increasing_place, same_many, same_values}
use Rattle.{std.proofs.lemmas.List.ext_get_or, std.specs.Prelude.nat_lt, std.specs.Prelude.is_some}
use Rattle.{std.specs.List.filter, layout_laws.proofs.FaceNodes.are_nodes, written_laws.proofs.ModelCounts.used_dart}
use Rattle.{written_laws.proofs.Spacings.count_rises, cut_laws.proofs.OneList.one_list_law}
use Rattle.{face_laws.proofs.FullCuts.full_cut_law, sum_laws.proofs.Sums.count_below_same}

-- What a filter keeps is there.
filter_some : (p : ℕ → Bool) (xs : List ℕ) → 0 < length (filter p xs) → (k : ℕ) × (k < length xs)
    × (p (get_or xs k 0) ≡ true)
filter_some p [] some = absurd (omega arith)
filter_some p (x ∷ xs) some = elim (cases_Bool (p x)) [
  | inl on ↦ (zero, omega arith, on)
  | inr off ↦ let r = filter_some p xs (rw off at some) in (suc r.0, omega (arith, r.1), r.2)
]

module _ (faces : Faces) (marks : List Bool) (full : IsFullCut faces marks) where
  -- An edge of the cut that ends at v.
  abbrev pub IsMet : (v : ℕ) → Type 0
  IsMet v = (e : ℕ) × (e < darts faces) × (is_on marks e ≡ true) × ((from_of faces e ≡ v) ⊎ (to_of faces e ≡ v))

  pub node_met : (v d : ℕ) → d < darts faces → from_of faces d ≡ v → is_node faces marks v ≡ true → IsMet v
  node_met v d d_low leaves is = elim (or_cases (not (is_regular faces v)) (nat_lt 2 (cut_degree faces marks v)) is) [
    | inl irregular ↦ rw leaves at (full.irregular d d_low (cc (leaves, not-true (is_regular faces v) irregular)))
    | inr many ↦ elim (cases_lt 0 (length (filter (is_on marks) (fan_of faces v)))) [
      | inl some ↦
          let (k, low, on) = filter_some (is_on marks) (fan_of faces v) some in
          (get_or (fan_of faces v) k 0, fan.dart k low, on, inl (fan.leaves k low))
      | inr none ↦
          let more : 2 < cut_degree faces marks v = ltb-true 2 (cut_degree faces marks v) many in
          let (k, low, lone) = filter_some (is_lone_before faces marks) (fan_of faces v) (omega arith) in
          let e = get_or (fan_of faces v) k 0 in (
            prev_of e,
            prev_of_low faces e (fan.dart k low),
            (and_parts (is_on marks (prev_of e)) (not (is_some (twin_of faces (prev_of e)))) lone).0,
            inr (before_from faces e ∙ fan.leaves k low),
          )
    ]
  ]
    where
      fan : IsFan faces v (fan_of faces v)
      fan = fan_of_is faces v

module _ (faces : Faces) (marks : List Bool) (layout : Layout) (mesh : IsMesh faces) (quads : AreQuads faces)
    (full : IsFullCut faces marks)
    (lay : IsDartLayout (half_edges faces) (is_on marks) (is_node faces marks) face_of (vertex_count faces) layout)
  where
    laws : IsQuadManifold (half_edges faces)
    laws = manifold_law faces mesh.manifold

    cut : IsCut (half_edges faces) (is_on marks)
    cut = ((full_cut_law faces marks mesh.manifold).0 full).1

    nodes : AreNodes (half_edges faces) (is_on marks) (is_node faces marks)
    nodes = are_nodes faces laws marks cut

    met : (n : ℕ) → n < length layout.nodes → IsMet faces marks full (vertex_at layout n)
    met n low =
        let kept = node_kept laws cut nodes lay n low in
        let d = used_dart faces _ quads (mesh.used _ (omega arith)) in
        node_met faces marks full _ d.0 d.1 d.2 kept.passes

    -- Cells are the darts of the patches' lists, and the darts of arcs are those of their lists.
    pub in_mesh : IsEmbedding (half_edges faces) (gluing_of layout) (long_at layout.arcs) (cell_dart (half_edges faces)
        layout) (vertex_at layout) (dart_at layout.arcs)
    in_mesh = sided laws cut nodes lay met

    lies : LiesInMesh faces (gluing_of layout) (long_at layout.arcs) (vertex_at layout)
    lies = search (rules, laws, cut, nodes, lengths, in_mesh)

pub embedding_law : EmbeddingLaw
embedding_law faces marks layout mesh quads full lay = lies faces marks layout mesh quads full lay

-- A mesh and a full cut have at most one layout.

module _ (m : HalfEdges) (laws : IsQuadManifold m) (cut : Cut) (full : IsCut m cut) (node : ℕ
    → Bool) (nodes : AreNodes m cut node) where
  -- Of two lists of arcs each arc of the one is one of the other.
  record IsFound (arcs others : List Path) (a : ℕ) : Type 0 where
    at : ℕ
    low : at < length others
    name : name_at arcs a ≡ name_at others at
    long : long_at arcs a ≡ long_at others at
    each : (i : ℕ) → i < long_at arcs a → dart_at arcs a i ≡ dart_at others at i

  found : (arcs others : List Path) (are : AreArcs m cut node arcs) (them : AreArcs m cut node others) (a : ℕ)
      → a < length arcs → IsFound arcs others a
  found arcs others are them a low =
      let (b, o, f, b_low, o_low, lies) = them.covers (dart_at arcs a 0) (dart_low m laws cut full node nodes arcs are a
      0 low (are.each a low).run.some) ((are.each a low).run.on 0 (are.each a low).run.some) in
      (elim f as (λ g. LiesAt m (path_at others b).darts g o (dart_at arcs a 0) → IsFound arcs others a) [
        | true ↦ λ at.
            let s = same_arc laws full nodes are them a b 0 o low b_low (are.each a low).run.some o_low at in
            search (rules, one_name_both)
        | false ↦ search (rules, clash)
      ]) lies

  increasing : (arcs : List Path) → AreArcs m cut node arcs → AreIncreasing (name_at arcs) (length arcs)
  increasing arcs are = record { step = are.ordered }

  -- So both lists have the same arcs, as far as darts tell.
  record AreSame (arcs others : List Path) : Type 0 where
    many : length arcs ≡ length others
    each : (a : ℕ) → a < length arcs → (path_at arcs a).darts ≡ (path_at others a).darts

  same_arcs : (arcs others : List Path) → AreArcs m cut node arcs → AreArcs m cut node others → AreSame arcs others
  same_arcs arcs others are them =
      let ra = increasing arcs are in
      let rb = increasing others them in
      let there : (a : ℕ) → a < length arcs → (b : ℕ) × (b < length others) × (name_at arcs a ≡ name_at others b) =
      λ a low. let f = found arcs others are them a low in (f.at, f.low, f.name) in
      let back : (b : ℕ) → b < length others → (a : ℕ) × (a < length arcs) × (name_at others b ≡ name_at arcs a) =
      λ b low. let f = found others arcs them are b low in (f.at, f.low, f.name) in
      let many = same_many (name_at arcs) (name_at others) (length arcs) (length others) ra rb there back in
      record {
        many = many;
        each = λ a low.
            let f = found arcs others are them a low in
            let same = increasing_place _ _ rb f.at a f.low (omega (arith, low, many))
            (cc (same_values (name_at arcs) (name_at others) (length arcs) (length others) ra rb there back a low)) in
            cc (ext_get_or 0 (path_at arcs a).darts (path_at others f.at).darts f.long f.each);
      }

  module _ (face : ℕ → ℕ) (v : ℕ) where
    -- The layouts have the same nodes, arcs and patches.
    same_paths : (t u : Layout) → IsDartLayout m cut node face v t → IsDartLayout m cut node face v u → t.nodes
        ≡ u.nodes → t.arcs ≡ u.arcs
    same_paths t u lt lu same =
        let s = same_arcs t.arcs u.arcs lt.arcs lu.arcs in
        ext_get_or (record { first = 0; last = 0; darts = [] }) t.arcs u.arcs s.many (λ a low.
        let u_low : a < length u.arcs = omega (arith, low, s.many) in
        let long = ap (λ (ds : List ℕ). length ds) (s.each a low) in
        let nodes_long = ap (λ (xs : List ℕ). length xs) same in
        let some = (lt.arcs.each a low).run.some in
        let first = vertex_same laws full nodes lt (path_at t.arcs a).first
        (path_at u.arcs a).first (lt.first_low a low) (omega (arith, lu.first_low a u_low, nodes_long))
        (cc (lt.first_at a low, s.each a low, lu.first_at a u_low, same)) in
        let last = vertex_same laws full nodes lt (path_at t.arcs a).last (path_at u.arcs a).last (lt.last_low a low)
        (omega (arith, lu.last_low a u_low, nodes_long)) (cc (
          lt.last_at a (long_at t.arcs a - 1) low (omega (arith, some)),
          s.each a low,
          lu.last_at a (long_at t.arcs a - 1) u_low (omega (arith, long, some)),
          same,
        )) in
        search rules)

    -- Two layouts that differ in their sides at most.
    module _ (t : Layout) (sides : List (List (List SideArc))) (lt : IsDartLayout m cut node face v t)
        (lu : IsDartLayout m cut node face v (record t { sides = sides })) where
      abbrev u : Layout
      u = record t { sides = sides }

      abbrev x : ℕ → ℕ
      x = long_at t.arcs

      abbrev here : (p : ℕ) (s : Way) (k : ℕ) → SideArc
      here p s k = (gluing_of t).use_at p s k

      abbrev there : (p : ℕ) (s : Way) (k : ℕ) → SideArc
      there p s k = (gluing_of u).use_at p s k

      abbrev slot : (p : ℕ) (s : Way) (k : ℕ) → Slot
      slot p s k = record { patch = p; side = s; at = k }

      some : (a : ℕ) → a < length t.arcs → 0 < x a
      some a low = (lt.arcs.each a low).run.some

      -- Sides that agree before a place reach equally far.
      same_reach : (p : ℕ) (s : Way) (k : ℕ) → ((i : ℕ) → i < k → here p s i ≡ there p s i)
          → reach (gluing_of t) x p s k ≡ reach (gluing_of u) x p s k
      same_reach p s k before = count_below_same _ _ k (λ i l. ap (λ (w : SideArc). x w.arc) (before i l))

      -- So they agree there, too.
      one_more : (p : ℕ) (s : Way) (k : ℕ) → p < length t.patches → k < (gluing_of t).many p s → k
          < (gluing_of u).many p s → ((i : ℕ) → i < k → here p s i ≡ there p s i) → here p s k ≡ there p s k
      one_more p s k low one other before =
          let is_one : IsSlot (gluing_of t) (slot p s k) = record { patch_low = low; low = one } in
          let is_other : IsSlot (gluing_of u) (slot p s k) = record { patch_low = low; low = other } in
          let a_low : (here p s k).arc < length t.arcs = lt.uses (slot p s k) is_one in
          let b_low : (there p s k).arc < length t.arcs = lu.uses (slot p s k) is_other in
          let e = same_use m laws _ full _ nodes _ lt.arcs _ _
          _ _ 0 0 _ a_low b_low (some _ a_low) (some _ b_low) (lt.used (slot p s k) 0
          is_one (some _ a_low)) (subst (λ (r : ℕ). LiesAt m (path_at t.arcs (there p s k).arc).darts
          (there p s k).forward 0 (border_dart m (patch_at t.patches p) s (r + 0))) (sym (same_reach p s k before))
          (lu.used (slot p s k) 0 is_other (some _ b_low))) in
          λ i. record { arc = e.0 i; forward = e.1 i }

      agree : (p : ℕ) (s : Way) (k : ℕ) → p < length t.patches → k ≤ (gluing_of t).many p s → k ≤ (gluing_of u).many p s
          → (i : ℕ) → i < k → here p s i ≡ there p s i
      agree p s zero low one other i l = absurd (omega arith)
      agree p s (suc k) low one other i l =
          let before = agree p s k low (omega arith) (omega arith) in search (rules, one_more)

      -- They have as many uses, since both are as long as the side of the patch.
      fewer : (p : ℕ) (s : Way) → p < length t.patches → (gluing_of t).many p s < (gluing_of u).many p s → ⊥
      fewer p s low l =
          let reached = same_reach p s ((gluing_of t).many p s) (agree p s _ low (omega arith) (omega arith)) in
          let far = count_rises (λ i. x (there p s i).arc) (suc ((gluing_of t).many p s)) ((gluing_of u).many p s)
          (omega arith) in
          let step = some _ (lu.uses (slot p s ((gluing_of t).many p s)) (record { patch_low = low; low = l })) in
          omega (arith, lt.sizes p s low, lu.sizes p s low, reached, far, step)

    module _ (t : Layout) (sides : List (List (List SideArc))) (lt : IsDartLayout m cut node face v t)
        (lu : IsDartLayout m cut node face v (record t { sides = sides })) where
      same_count : (p : ℕ) (s : Way) → p < length t.patches
          → (gluing_of t).many p s ≡ (gluing_of (u t sides lt lu)).many p s
      same_count p s low =
          let one = fewer t sides lt lu p s low in
          let other = fewer (u t sides lt lu) t.sides lu lt p s low in
          search (rules, one, other, cases_order ((gluing_of t).many p s) ((gluing_of (u t sides lt lu)).many p s))

      same_side : (p : ℕ) (s : Way) → p < length t.patches → side_at t p s ≡ side_at (u t sides lt lu) p s
      same_side p s low = ext_get_or (record { arc = 0; forward = true }) (side_at t p s) (side_at (u t sides lt lu) p
          s) (same_count p s low) (search (rules, agree, same_count))

      same_four : (p : ℕ) → p < length t.patches → get_or t.sides p [] ≡ get_or sides p []
      same_four p low = ext_get_or [] (get_or t.sides p []) (get_or sides p []) (lt.four p low ∙ sym (lu.four p low))
          (λ i l. by_number i (omega (arith, l, lt.four p low)))
        where
          by_number : (i : ℕ) → i < 4 → get_or (get_or t.sides p []) i [] ≡ get_or (get_or sides p []) i []
          by_number i l =
              search (rules, same_side p south low, same_side p east low, same_side p north low, same_side p west low)

      same_sides : t.sides ≡ sides
      same_sides = ext_get_or [] t.sides sides (cc (lt.sided, lu.sided))
          (λ p l. same_four p (omega (arith, l, lt.sided)))

    one_layout : (t u : Layout) → IsDartLayout m cut node face v t → IsDartLayout m cut node face v u → t ≡ u
    one_layout t u lt lu =
        let nodes_same : t.nodes ≡ u.nodes = cc (lt.nodes, lu.nodes) in
        let arcs_same = same_paths t u lt lu nodes_same in
        let patches_same = one_list_law m cut face laws full t.patches u.patches lt.patches lu.patches in
        search (rules, same_sides)

pub one_layout_law : OneLayoutLaw
one_layout_law faces marks manifold full one other is also =
    let laws = manifold_law faces manifold in
    let cut : IsCut (half_edges faces) (is_on marks) = ((full_cut_law faces marks manifold).0 full).1 in
    search (rules, one_layout, are_nodes)
