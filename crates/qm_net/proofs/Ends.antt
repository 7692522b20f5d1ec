-- Counts of ends, one arc at a time.
use Rattle.std.proofs.Common.{◌≡◌, ℕ, ◌+◌, ◌*◌, ◌^◌, ◌<◌, ◌≤◌, ◌==◌, cond, List, [], ◌∷◌, length, take, Option, Some}
use Rattle.std.proofs.Common.{None, ◌∙◌, ap, arith}
use Rattle.std.proofs.lemmas.List.{length-take-le}
use Rattle.std.specs.Prelude.{slice_index, slice_index_or, option_to_list}
use Rattle.def_math.specs.{Counts.count, Counts.count_below, Tables.IsRaised, Tables.IsTally}
use Rattle.def_flow.specs.{Network.degree, declared.net.Arc.Arc, declared.net.End.End}
use Rattle.table_laws.proofs.{Ranges.count_take, Tallies.tally_low, Tallies.tally_more}
use Rattle.{sum_laws.proofs.Sums.count_below_same, sum_laws.proofs.Tests.once_at_most, qm_net.specs.Degrees.ends_at}

-- An arc has at most two ends at a node.
pub ends_low : (v : ℕ) (a : Arc) → ends_at a v ≤ 2
ends_low v a = by_right a.right
  where
    by_right : (o : Option End) → count (λ (e : End). cond (e.node == v) 1 0) (a.left ∷ option_to_list o) ≤ 2
    by_right None = omega (arith, once_at_most (a.left.node == v))
    by_right (Some e) = omega (arith, once_at_most (a.left.node == v), once_at_most (e.node == v))

-- A node has at most two ends for each arc.
pub degree_low : (arcs : List Arc) (v : ℕ) → degree arcs v ≤ 2 * length arcs
degree_low [] v = omega arith
degree_low (a ∷ arcs) v = omega (arith, ends_low v a, degree_low arcs v)

-- Counts of ends are small.
pub degrees_low : (nodes : ℕ) (arcs : List Arc) (degrees : List ℕ) → IsTally (degree arcs) nodes degrees
    → length arcs < 2 ^ 32 → (v : ℕ) → slice_index degrees v ≤ 2 ^ 34
degrees_low nodes arcs degrees are few =
    tally_low (degree arcs) nodes (2 ^ 34) degrees are (λ v l. omega (arith, degree_low arcs v))

-- One arc more.
pub degrees_more : (arcs : List Arc) (d : Arc) (k nodes : ℕ) (old new : List ℕ) → k < length arcs
    → IsTally (degree (take k arcs)) nodes old → IsRaised (ends_at (slice_index_or arcs k d)) old new
    → IsTally (degree (take (k + 1) arcs)) nodes new
degrees_more arcs d k nodes old new l are raised = tally_more (degree (take k arcs)) (degree (take (k + 1) arcs))
    (ends_at (slice_index_or arcs k d)) nodes old new (λ v lv. count_take (λ a. ends_at a v) d arcs k l) are raised

-- Before the last arc the counts are smaller still.
pub degrees_few : (arcs : List Arc) (k nodes : ℕ) (degrees : List ℕ) → k ≤ length arcs
    → IsTally (degree (take k arcs)) nodes degrees → (v : ℕ) → slice_index degrees v ≤ 2 * k
degrees_few arcs k nodes degrees le are = tally_low (degree (take k arcs)) nodes (2 * k) degrees are (λ v l. omega (
  arith,
  degree_low (take k arcs) v,
  length-take-le k arcs,
))

-- The squares of the counts of ends.
pub squares : (nodes : ℕ) (arcs : List Arc) (degrees : List ℕ) → IsTally (degree arcs) nodes degrees
    → count_below (λ v. 16 * (slice_index degrees v * slice_index degrees v)) (length degrees)
    ≡ count_below (λ v. 16 * (degree arcs v * degree arcs v)) nodes
squares nodes arcs degrees are = ap (count_below (λ v. 16 * (slice_index degrees v * slice_index degrees v))) are.count
    ∙ count_below_same _ _ nodes (λ v l. ap (λ d. 16 * (d * d)) (are.each v l))
