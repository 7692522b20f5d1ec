use Rattle.std.proofs.Common.{◌≡◌, ◌+◌, ◌≤◌, drop}
use Rattle.gadget_laws.specs.Marks.{trues}

abbrev pub invariant-loop-on : Rattle.qm_gadget.proofs.lengths.count_on.Given.invariant-loop-on
invariant-loop-on l = record { value : l.all + trues (drop l.on-index l.ons) ≡ trues l.ons; small : l.all ≤ l.on-index }
