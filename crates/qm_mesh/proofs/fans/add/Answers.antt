use Rattle.std.proofs.Common.{ℕ, ◌<◌, List, length, ap, set, ◌++◌, ◌∷◌, [], arith}
use Rattle.std.proofs.lemmas.List.{map-set, length-map}
use Rattle.{smallvec.specs.SmallVec.SmallVec, qm_mesh.specs.Tables.fan_lists, qm_mesh.proofs.Vertices.fan_read}

pub returns : Rattle.qm_mesh.proofs.fans.add.Goals.returns
returns c =
    let low : c.args.v < length c.args.fans.now.items =
    omega (arith, c.requires, length-map c.args.fans.now.items (λ (fan : SmallVec ℕ). fan.items)) in
    rw (map-set (λ (fan : SmallVec ℕ). fan.items), c.in_ok-push.ensures.ok)
    (ap (λ (xs : List ℕ). set (fan_lists c.args.fans.now.items) c.args.v (xs ++ c.args.d ∷ []))
    (fan_read c.args.fans.now.items c.args.v _ low c.index_mut-fan.ensures.value))
