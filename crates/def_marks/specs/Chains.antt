-- Chains of edges, told by their vertices one after another, and the darts that they mark.
use Rattle.std.specs.Prelude.{ℕ, ◌+◌, ◌-◌, Bool, ◌&&◌, ◌||◌, ◌==◌, List, length, map, is_some, slice_index_or}
use Rattle.std.specs.List.{list_all, list_any, range_with_len}
use Rattle.def_mesh.specs.Faces.{Faces}
use Rattle.def_mesh.specs.Darts.{all_darts, from_of, to_of, twin_of}

-- Dart d runs between u and v, from one to the other.
abbrev pub runs_between : (faces : Faces) (u v d : ℕ) → Bool
runs_between faces u v d =
    ((from_of faces d == u) && (to_of faces d == v)) || ((from_of faces d == v) && (to_of faces d == u))

-- An edge has the ends u and v.
abbrev pub is_edge : (faces : Faces) (u v : ℕ) → Bool
is_edge faces u v = list_any (runs_between faces u v) (all_darts faces)

-- The vertex at a place of a chain.
abbrev pub link_at : (chain : List ℕ) (k : ℕ) → ℕ
link_at chain k = slice_index_or chain k 0

-- The places of a chain that have another behind them.
abbrev pub step_places : (chain : List ℕ) → List ℕ
step_places chain = range_with_len 0 (length chain - 1)

-- Each two successive vertices are the ends of an edge.
abbrev pub is_chain : (faces : Faces) (chain : List ℕ) → Bool
is_chain faces chain = list_all (λ k. is_edge faces (link_at chain k) (link_at chain (k + 1))) (step_places chain)

-- Dart d runs between two successive vertices.
abbrev pub runs_along : (faces : Faces) (chain : List ℕ) (d : ℕ) → Bool
runs_along faces chain d =
    list_any (λ k. runs_between faces (link_at chain k) (link_at chain (k + 1)) d) (step_places chain)

-- Dart d has a twin, and runs along one of these chains: its edge is marked.
abbrev pub is_along_chains : (faces : Faces) (chains : List (List ℕ)) (d : ℕ) → Bool
is_along_chains faces chains d = is_some (twin_of faces d) && list_any (λ chain. runs_along faces chain d) chains

-- The marks of the edges along these chains, one for each dart.
abbrev pub marks_along : (faces : Faces) (chains : List (List ℕ)) → List Bool
marks_along faces chains = map (is_along_chains faces chains) (all_darts faces)
