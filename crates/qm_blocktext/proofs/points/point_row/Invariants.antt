use Rattle.std.proofs.Common.{◌≡◌, ◌≤◌, ◌∷◌, ◌*◌, take}
use Rattle.{arrayvec.specs.ArrayVec.array_vec_len, std.specs.List.flat_map, def_text.specs.Canonical.micro_text}

abbrev pub invariant-loop-number : Rattle.qm_blocktext.proofs.points.point_row.Given.invariant-loop-number
invariant-loop-number l = record {
  text : l.row.items ≡ flat_map (λ z. 32 ∷ micro_text z) (take l.number-index l.position);
  short : array_vec_len l.row ≤ 18 * l.number-index;
}
