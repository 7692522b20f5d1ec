use Rattle.qm_stitch.specs.{Lengthened.lengths_by, Remedies.short_price, Remedies.AddsRemedies}
use Rattle.qm_stitch.specs.{declared.remedy.Run.TheVariants.Arc}
use Rattle.{std.proofs.Common.◌<◌, std.proofs.Common.ℕ, def_written.specs.Edges.on_arc, qm_stitch.proofs.Lines.IsBy}

abbrev pub invariant-loop-k : Rattle.qm_stitch.proofs.remedies.push_arc.Given.invariant-loop-k
invariant-loop-k l = AddsRemedies l.initial.found.items l.found.items (λ r. (k : ℕ) × (k < l.k) × IsBy l.priced
    (on_arc l.arc k) (short_price (lengths_by l.priced.keyed.numbered) l.priced.prices.now l.arc) (Arc l.arc) r)
