use Rattle.std.proofs.Common.{take, ◌*◌, ◌+◌, ◌∷◌, ◌≡◌, ◌≤◌}
use Rattle.{arrayvec.specs.ArrayVec.array_vec_len, def_text.specs.Canonical.micro_text, std.specs.List.flat_map}

abbrev pub invariant-loop-number : Rattle.qm_obj.proofs.row.position_row.Given.invariant-loop-number
invariant-loop-number l = record {
  text : l.row.items ≡ 118 ∷ flat_map (λ z. 32 ∷ micro_text z) (take l.number-index l.position);
  short : array_vec_len l.row ≤ 1 + 18 * l.number-index;
}
