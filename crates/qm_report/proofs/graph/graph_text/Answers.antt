use Rattle.std.proofs.lemmas.List.Elements.{All-nil, All-cons, All-head, All-tail, All-filter}
use Rattle.std.proofs.{Common.ℕ, Common.◌<◌, Common.List, Common.[], Common.◌∷◌, Common.arith}
use Rattle.std.proofs.{lemmas.List.FromFn.get_or-range_with_len, lemmas.List.FromFn.length-range_with_len}
use Rattle.def_mesh.specs.{Components.is_start, Components.seeds, Components.start_darts, Darts.all_darts, Darts.darts}
use Rattle.{std.specs.List.All, def_cut.specs.declared.moving.Moving.Moving, def_cut.specs.declared.graph.Rider.Rider}
use Rattle.{def_cut.specs.Traced.last_state, def_cut.specs.Traced.AreRiders}

-- The riders of a traced graph start along these darts.
from_firsts : (n : ℕ) (ms : List Moving) (ds : List ℕ) (rs : List Rider)
    → AreRiders ms ds rs → All (λ d. d < n) ds → All (λ (r : Rider). r.start < n) rs
from_firsts n [] [] [] are low = All-nil (λ (r : Rider). r.start < n)
from_firsts n (m ∷ ms) (d ∷ ds) (r ∷ rs) are low =
    All-cons (λ (x : Rider). x.start < n) r rs (rw are.0.start (All-head (λ (x : ℕ). x < n) d ds low))
    (from_firsts n ms ds rs are.1 (All-tail (λ (x : ℕ). x < n) d ds low))
from_firsts n _ _ _ are low = absurd are

pub push_riders-requires : Rattle.qm_report.proofs.graph.graph_text.Goals.push_riders-requires
push_riders-requires c =
    let faces = c.args.mesh.now in
    rw c.deref-3.ensures.value (from_firsts (darts faces) (last_state faces).riders (start_darts faces)
    c.args.g.now.riders.items c.requires.graph.riders
    (All-filter (is_start faces (seeds faces)) (λ d. d < darts faces) (all_darts faces) (λ k d l.
    let low : k < darts faces = omega (arith, l, length-range_with_len 0 (darts faces)) in
    omega (arith, low, get_or-range_with_len 0 (darts faces) k d low))))
