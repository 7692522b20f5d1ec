use Rattle.qm_stitch.proofs.{Grids.counts, Grids.tables_are, SafeLengths.safe_undoubled}
use Rattle.{std.proofs.Common.◌∙◌, std.proofs.Common.inl}
use Rattle.qm_stitch.proofs.rises.needed_rises.Goals as goal

pub invariant_of-numbered : goal.invariant_of-numbered
invariant_of-numbered c = record { numbers = tables_are c.in_ok-tables.ensures.numbering }

pub invariant_of-keyed : goal.invariant_of-keyed
invariant_of-keyed c = record { rim = rw c.deref.ensures.value c.in_ok-keys.ensures }

pub invariant_of-priced : goal.invariant_of-priced
invariant_of-priced c = record {
  same = c.in_ok-tables.ensures.lengths;
  few = c.requires.few;
  short = λ all. safe_undoubled _ _ (omega counts) c.requires.layout c.requires.lengths
      (inl (λ arc low. all arc (omega counts))) _ _ c.requires.doubled.2;
  many = c.requires.prices ∙ c.requires.long;
}
