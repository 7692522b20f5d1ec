use Rattle.{std.proofs.Common.◌≡◌, std.proofs.Common.◌&&◌, std.proofs.Common.not, std.specs.List.filter}
use Rattle.{std.specs.List.range_with_len, def_cut.specs.FullCut.is_on, def_feature.specs.Marked.is_origin}

abbrev pub invariant-loop-d : Rattle.qm_feature.proofs.tracing.marked_starts.Given.invariant-loop-d
invariant-loop-d l = l.found.items ≡ filter (λ d. is_origin l.mesh l.marks d && not (is_on l.marks d))
    (range_with_len 0 l.d)
