use Rattle.std.proofs.Common.{take, ◌*◌, ◌+◌, ◌∷◌, ◌≡◌, ◌≤◌}
use Rattle.{arrayvec.specs.ArrayVec.array_vec_len, std.specs.List.flat_map, std.specs.Prelude.decimal}

abbrev pub invariant-loop-vertex : Rattle.qm_obj.proofs.row.face_row.Given.invariant-loop-vertex
invariant-loop-vertex l = record {
  text : l.row.items ≡ 102 ∷ flat_map (λ v. 32 ∷ decimal (v + 1)) (take l.vertex-index l.face);
  short : array_vec_len l.row ≤ 1 + 21 * l.vertex-index;
}
