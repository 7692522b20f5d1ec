-- Tables that something is added to, one place after the other.
use Rattle.std.proofs.Common.{rules, ◌≡◌, ℕ, ◌+◌, ◌<◌, ◌≤◌, List, length, sym, ◌∙◌, inl, inr, eq-eqb, ne_eqb, arith}
use Rattle.std.proofs.lemmas.List.{length-set, get_or_past, get_or-set_same, get_or-set_other}
use Rattle.def_math.specs.Tables.{add_at, at_place, IsRaised, IsTally}
use Rattle.{std.proofs.lemmas.Bool.cases_eq, std.specs.Prelude.slice_index}

-- Adding at a place changes the number there and no other.
pub raised_at : (table : List ℕ) (place more : ℕ) → place < length table
    → IsRaised (at_place place more) table (add_at table place more)
raised_at table place more low = record { long = length-set table place (slice_index table place + more); each = each }
  where
    each : (v : ℕ) → v < length table → slice_index (add_at table place more) v
        ≡ slice_index table v + at_place place more v
    each v l = elim (cases_eq place v) [
      | inl is ↦ rw (eq-eqb place v is, ← is) (get_or-set_same table place (slice_index table place + more) 0 low)
      | inr ne ↦ rw (ne_eqb place v ne) (get_or-set_other table place v (slice_index table place + more) 0
          (λ is. ne (sym is)) ∙ omega arith)
    ]

-- One thing more is tallied.
pub tally_more : (f g more : ℕ → ℕ) (bound : ℕ) (old new : List ℕ) → ((v : ℕ) → v < bound → g v ≡ f v + more v)
    → IsTally f bound old → IsRaised more old new → IsTally g bound new
tally_more f g more bound old new step are raised = search rules

-- A table of small values is small, also past its end.
pub tally_low : (f : ℕ → ℕ) (bound most : ℕ) (table : List ℕ) → IsTally f bound table
    → ((v : ℕ) → v < bound → f v ≤ most) → (v : ℕ) → slice_index table v ≤ most
tally_low f bound most table are small v = search (rules, get_or_past)
