use mathlib.Core.Logic.Iff
use Rattle.def_layout.specs.{Layouts.gluing_of, Layouts.layout_of}
use Rattle.qm_stitch.proofs.{Grids.counts, Grids.tables_are, RiseLists.needed_are}
use Rattle.qm_stitch.proofs.rises.are_needed.Goals as goal

pub invariant_of-numbered : goal.invariant_of-numbered
invariant_of-numbered c = record { numbers = tables_are c.in_ok-tables.ensures.numbering }

pub invariant_of-keyed : goal.invariant_of-keyed
invariant_of-keyed c = record { rim = rw c.deref.ensures.value c.in_ok-keys.ensures }

pub returns : goal.returns
returns c = Iff.trans c.are_rises.ensures (needed_are (gluing_of (layout_of c.args.t.now)) c.args.lengths.now
    c.deref-2.result.now (omega counts) (λ arc low. rw (c.deref-2.ensures.value, ← c.in_ok-tables.ensures.lengths)
    (c.in_ok-tight.ensures.each arc (omega counts))) c.is_some_short.result c.is_some_short.ensures c.args.rises.now)
