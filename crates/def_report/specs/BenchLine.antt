-- The line that sums up a benchmark.
use Rattle.std.specs.Prelude.{ℕ, [], ◌∷◌, ◌++◌, codes, decimal}
use Rattle.std.specs.Fmt.{signed_decimal}
use Rattle.def_io.specs.Bytes.{Bytes}
use Rattle.def_io.specs.declared.TheConstants.{LINE_FEED}
use Rattle.def_report.specs.declared.Counts.{Counts}

-- The generated mesh of this size has these counts.
abbrev pub bench_line : (size : ℕ) (counts : Counts) → Bytes
bench_line size counts =
    codes "bench " ++ decimal size
    ++ codes " vertices " ++ decimal counts.vertices
    ++ codes " edges " ++ decimal counts.edges
    ++ codes " faces " ++ decimal counts.faces
    ++ codes " riders " ++ decimal counts.riders
    ++ codes " patches " ++ decimal counts.patches
    ++ codes " arcs " ++ decimal counts.arcs
    ++ codes " deviation " ++ signed_decimal counts.deviation ++ LINE_FEED ∷ []
