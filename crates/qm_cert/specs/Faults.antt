-- What is wrong with a list of lengths, as the checker finds it.
use Rattle.std.specs.Prelude.{ℕ, ◌==◌, not, if◌then◌else◌, true, false, List, length, slice_index, unsigned_abs, Option}
use Rattle.std.specs.Prelude.{Some, None, option_map}
use Rattle.def_math.specs.Searches.{least}
use Rattle.def_flow.specs.Network.{Network}
use Rattle.def_flow.specs.Admissible.{entries, side_sum}
use Rattle.def_flow.specs.Accepted.{below_fault, unequal_fault}
use Rattle.def_flow.specs.declared.cert.CertVerdict.{CertVerdict}
use Rattle.def_flow.specs.declared.cert.CertVerdict.TheVariants.{Count, Below, Unequal}

-- The first of two verdicts, if there is one.
abbrev pub first_of_two : Option CertVerdict → Option CertVerdict → Option CertVerdict
first_of_two (Some v) after = Some v
first_of_two None after = after

-- A verdict, or what comes after.
abbrev pub or_else : Option CertVerdict → CertVerdict → CertVerdict
or_else (Some v) after = v
or_else None after = after

-- A short arc.
abbrev pub below_verdict : Network → List ℕ → Option CertVerdict
below_verdict net xs = option_map (λ k. Below k (slice_index xs k)) (below_fault net xs)

-- A node with unequal sums.
abbrev pub unequal_verdict : Network → List ℕ → Option CertVerdict
unequal_verdict net xs =
    option_map
    (λ v. Unequal v (unsigned_abs (side_sum net.arcs (entries xs) true v))
    (unsigned_abs (side_sum net.arcs (entries xs) false v)))
    (unequal_fault net xs)

-- The first fault of a list.
abbrev pub list_verdict : Network → List ℕ → Option CertVerdict
list_verdict net xs =
    if not (length xs == length net.arcs) then Some (Count (length net.arcs) (length xs))
    else first_of_two (below_verdict net xs) (unequal_verdict net xs)

-- The least place at which two tables of sums differ, with both sums.
abbrev pub compared_verdict : List ℕ → List ℕ → Option CertVerdict
compared_verdict plus minus =
    option_map (λ v. Unequal v (slice_index plus v) (slice_index minus v))
    (least (λ v. not (slice_index plus v == slice_index minus v)) (length plus))
