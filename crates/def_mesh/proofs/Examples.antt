-- The definitions, computed on small meshes.
use Rattle.std.proofs.Common.{◌≡◌, ◌<◌, ℕ, zero, suc, pos, [], ◌∷◌, map, Some, None, refl, sym, subst, arith}
use Rattle.def_mesh.specs.{Faces.Faces, Vertices.fan_of, Vertices.vertex_count, Kinds.kind_of, Faults.IsFirstTwice}
use Rattle.def_mesh.specs.Darts.{all_darts, from_of, straight_of, twin_of}
use Rattle.def_mesh.specs.Components.{component_numbers, seeds, start_darts, euler, edge_count}
use Rattle.def_mesh.specs.Manifold.{AreNeighbours, Chain, HasOneFan, IsSameEdge}
use Rattle.def_mesh.specs.declared.Kind.TheVariants.{Regular, Singular, Corner, Reflex}
use Rattle.{std.proofs.lemmas.Bool.false≢true, def_mesh.specs.Faults.repeat_in}

-- A cube: its eight vertices are singular, so a rider starts along each dart.
abbrev cube : Faces
cube = (3 ∷ 2 ∷ 1 ∷ 0 ∷ []) ∷ (4 ∷ 5 ∷ 6 ∷ 7 ∷ []) ∷ (0 ∷ 1 ∷ 5 ∷ 4 ∷ []) ∷ (1 ∷ 2 ∷ 6 ∷ 5 ∷ []) ∷ (2 ∷ 3 ∷ 7 ∷ 6 ∷ [])
    ∷ (3 ∷ 0 ∷ 4 ∷ 7 ∷ []) ∷ []

cube_vertices : vertex_count cube ≡ 8
cube_vertices = refl

cube_twins : map (twin_of cube) (0 ∷ 3 ∷ 4 ∷ 8 ∷ []) ≡ Some 16 ∷ Some 20 ∷ Some 10 ∷ Some 2 ∷ []
cube_twins = refl

cube_straight : straight_of cube 0 ≡ Some 13
cube_straight = refl

cube_fan : fan_of cube 0 ≡ 3 ∷ 8 ∷ 21 ∷ []
cube_fan = refl

cube_kinds : kind_of cube 7 ≡ Singular
cube_kinds = refl

cube_components : component_numbers cube ≡ 0 ∷ 0 ∷ 0 ∷ 0 ∷ 0 ∷ 0 ∷ []
cube_components = refl

cube_seeds : seeds cube ≡ []
cube_seeds = refl

cube_starts : start_darts cube ≡ all_darts cube
cube_starts = refl

cube_euler : euler cube ≡ pos 2
cube_euler = refl

-- Three faces round a corner: vertex 4 is reflex, the outer ends are corners.
abbrev bend : Faces
bend = (0 ∷ 1 ∷ 4 ∷ 3 ∷ []) ∷ (1 ∷ 2 ∷ 5 ∷ 4 ∷ []) ∷ (3 ∷ 4 ∷ 7 ∷ 6 ∷ []) ∷ []

bend_kinds : map (kind_of bend) (0 ∷ 1 ∷ 2 ∷ 4 ∷ []) ≡ Corner ∷ Regular ∷ Corner ∷ Reflex ∷ []
bend_kinds = refl

bend_twins : map (twin_of bend) (all_darts bend) ≡ None ∷ Some 7 ∷ Some 8 ∷ None ∷ None ∷ None ∷ None ∷ Some 1 ∷ Some 2
    ∷ None ∷ None ∷ None ∷ []
bend_twins = refl

bend_starts : start_darts bend ≡ 2 ∷ 7 ∷ []
bend_starts = refl

bend_euler : euler bend ≡ pos 1
bend_euler = refl

-- A ring of three faces: each vertex is regular, so its least is a seed.
abbrev ring : Faces
ring = (0 ∷ 1 ∷ 4 ∷ 3 ∷ []) ∷ (1 ∷ 2 ∷ 5 ∷ 4 ∷ []) ∷ (2 ∷ 0 ∷ 3 ∷ 5 ∷ []) ∷ []

ring_seeds : seeds ring ≡ 0 ∷ []
ring_seeds = refl

ring_starts : start_darts ring ≡ 9 ∷ []
ring_starts = refl

ring_euler : euler ring ≡ pos 0
ring_euler = refl

-- Two parts, and the second is a ring.
abbrev parts : Faces
parts = (0 ∷ 1 ∷ 2 ∷ 3 ∷ []) ∷ (4 ∷ 5 ∷ 8 ∷ 7 ∷ []) ∷ (5 ∷ 6 ∷ 9 ∷ 8 ∷ []) ∷ (6 ∷ 4 ∷ 7 ∷ 9 ∷ []) ∷ []

parts_components : component_numbers parts ≡ 0 ∷ 1 ∷ 1 ∷ 1 ∷ []
parts_components = refl

parts_seeds : seeds parts ≡ 4 ∷ []
parts_seeds = refl

parts_counts : edge_count parts ≡ 13
parts_counts = refl

-- The vertex that a face names again, seen from its first corner.
repeats : map repeat_in ((0 ∷ 1 ∷ 2 ∷ 3 ∷ []) ∷ (0 ∷ 1 ∷ 2 ∷ 1 ∷ []) ∷ (7 ∷ 7 ∷ 2 ∷ 2 ∷ []) ∷ (5 ∷ 6 ∷ 5 ∷ 6 ∷ []) ∷ [])
    ≡ None ∷ Some 1 ∷ Some 7 ∷ Some 5 ∷ []
repeats = refl

-- Two faces that run along one edge in the same direction: their first darts are the first two along it.
abbrev twice : Faces
twice = (0 ∷ 1 ∷ 2 ∷ 3 ∷ []) ∷ (0 ∷ 1 ∷ 4 ∷ 5 ∷ []) ∷ []

twice_place : IsFirstTwice twice 0 4
twice_place = record { is_dart = omega arith; before = omega arith; same = (refl, refl); least = none }
  where
    none : (j k : ℕ) → j < k → k < 4 → ¬ IsSameEdge twice j k
    none j zero l m s = absurd (omega arith)
    none (suc j) (suc zero) l m s = absurd (omega arith)
    none (suc (suc j)) (suc (suc zero)) l m s = absurd (omega arith)
    none (suc (suc (suc j))) (suc (suc (suc zero))) l m s = absurd (omega arith)
    none j (suc (suc (suc (suc k)))) l m s = absurd (omega arith)
    none _ _ l m s = absurd (omega (arith, s.0))

-- Two faces with one vertex in common: two fans.
abbrev bow : Faces
bow = (0 ∷ 1 ∷ 2 ∷ 3 ∷ []) ∷ (0 ∷ 4 ∷ 5 ∷ 6 ∷ []) ∷ []

bow_fan : fan_of bow 0 ≡ 0 ∷ 4 ∷ []
bow_fan = refl

bow_apart : ¬ AreNeighbours bow 0 4
bow_apart a = false≢true a

-- A chain from the first of the two corners stays there.
bow_stays : (e n : ℕ) → Chain bow 0 e n → e ≡ 0
bow_stays e zero c = sym c
bow_stays e (suc n) c = let first : c.0 ≡ 0 = bow_stays c.0 n c.1 in
    by_dart e c.2 (subst (λ (d : ℕ). from_of bow d ≡ from_of bow e) first c.3)
    (subst (λ (d : ℕ). AreNeighbours bow d e) first c.4)
  where
    by_dart : (d : ℕ) → d < 8 → 0 ≡ from_of bow d → AreNeighbours bow 0 d → d ≡ 0
    by_dart zero l s a = refl
    by_dart (suc (suc (suc (suc zero)))) l s a = absurd (bow_apart a)
    by_dart (suc (suc (suc (suc (suc (suc (suc (suc d)))))))) l s a = absurd (omega arith)
    by_dart _ l s a = absurd (omega (arith, s))

bow_two_fans : ¬ HasOneFan bow 0
bow_two_fans one = let c : (n : ℕ) × Chain bow 0 4 n = one 0 4 (omega arith) (omega arith) refl refl in
    absurd (omega (arith, bow_stays 4 c.0 c.1))
