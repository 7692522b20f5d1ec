-- Certificates: a list of lengths, and a dual over its matching graph that shows the list to be least.
use Rattle.std.specs.Prelude.{◌≡◌, ℕ, Option, ◌==◌, nat_lt, not, if◌then◌else◌, List, length, slice_index, pos, ◌*ℤ◌}
use Rattle.std.specs.Prelude.{unsigned_abs, true, false}
use Rattle.std.specs.Ordering.{int_eq}
use Rattle.def_math.specs.Searches.{least}
use Rattle.def_matching.specs.Dual.{DualLists, SaysYes, dual, dual_sum, refuse, verdict}
use Rattle.def_matching.specs.declared.weighted.Verdict.{Verdict}
use Rattle.def_matching.specs.declared.weighted.Verdict.TheVariants.{Yes}
use Rattle.def_flow.specs.Network.{Network, Node, ArcNumber, arc_at}
use Rattle.def_flow.specs.Admissible.{IsAdmissible, deviation, entries, side_sum}
use Rattle.def_flow.specs.Units.{on_cost}
use Rattle.def_flow.specs.MatchingGraph.{matching_graph}
use Rattle.def_flow.specs.declared.cert.Cert.{Cert}
use Rattle.def_flow.specs.declared.cert.CertVerdict.{CertVerdict}
use Rattle.def_flow.specs.declared.cert.CertVerdict.TheVariants.{Count, Below, Unequal, Dual, Sums}
use Rattle.def_flow.specs.declared.cert.CertVerdict.TheVariants.{Yes as Accepted}

-- A certificate as contracts see it.
pub record Certificate : Type 0 where
  pub x : List ℕ
  pub dual : DualLists

-- The certificate that the program keeps.
abbrev pub certificate : (c : Cert) → Certificate
certificate c = record { x = c.x.items; dual = dual c.dual }

-- A certificate is accepted: its list has one admissible length for each arc, its dual says yes over the
-- matching graph of the list, and the dual's sum is twice the cost of the units that are on.
pub record IsAccepted (net : Network) (c : Certificate) : Type 0 where
  pub count : length c.x ≡ length net.arcs
  pub admissible : IsAdmissible net (entries c.x)
  pub yes : SaysYes (matching_graph net 1 c.x) c.dual
  pub sums : dual_sum c.dual ≡ pos 2 *ℤ on_cost net 1 c.x

-- The fault of a dual, or what comes after where it has none.
abbrev pub refuse_dual : (verdict : Verdict) (after : CertVerdict) → CertVerdict
refuse_dual (Yes sum) after = after
refuse_dual fault after = Dual fault

-- The least arc that is shorter than its floor.
abbrev pub below_fault : (net : Network) (xs : List ℕ) → Option ArcNumber
below_fault net xs = least (λ k. nat_lt (slice_index xs k) (arc_at net.arcs k).floor) (length net.arcs)

-- The least node whose two sides have unequal sums.
abbrev pub unequal_fault : (net : Network) (xs : List ℕ) → Option Node
unequal_fault net xs =
    least (λ v. not (int_eq (side_sum net.arcs (entries xs) true v) (side_sum net.arcs (entries xs) false v))) net.nodes

-- A node with the sums of its two sides.
abbrev pub unequal_at : (net : Network) (xs : List ℕ) (v : Node) → CertVerdict
unequal_at net xs v =
    let plus = side_sum net.arcs (entries xs) true v in
    let minus = side_sum net.arcs (entries xs) false v in
    Unequal v (unsigned_abs plus) (unsigned_abs minus)

-- The verdict on the sum of a dual that has no fault.
abbrev pub sums_verdict : (net : Network) (c : Certificate) → CertVerdict
sums_verdict net c =
    if int_eq (dual_sum c.dual) (pos 2 *ℤ on_cost net 1 c.x) then Accepted (pos (deviation net (entries c.x)))
    else Sums (dual_sum c.dual) (pos 2 *ℤ on_cost net 1 c.x)

-- The verdict on a certificate: the first of these that holds. Lengths are missing or too many; an arc is
-- shorter than its floor; the sides of a node have unequal sums; the dual has a fault; its sum is not twice the
-- cost; or the certificate is accepted.
abbrev pub cert_verdict : (net : Network) (c : Certificate) → CertVerdict
cert_verdict net c =
    if not (length c.x == length net.arcs) then Count (length net.arcs) (length c.x)
    else refuse (below_fault net c.x) (λ k. Below k (slice_index c.x k))
    (refuse (unequal_fault net c.x) (unequal_at net c.x)
    (refuse_dual (verdict (matching_graph net 1 c.x) c.dual) (sums_verdict net c)))
