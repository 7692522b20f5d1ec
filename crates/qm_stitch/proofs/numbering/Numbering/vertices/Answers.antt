use Rattle.std.proofs.Common.{rules}
use Rattle.{std.proofs.Common.arith, qm_stitch.proofs.Grids.starts_end, qm_stitch.proofs.Grids.tables_are}
use Rattle.qm_stitch.proofs.numbering.Numbering.vertices.Goals as goal

pub overflow_add-result : goal.overflow_add-result
overflow_add-result c = search (rules, tables_are c.self.invariant.numbers)

pub overflow_add-result-2 : goal.overflow_add-result-2
overflow_add-result-2 c =
    let are = tables_are c.self.invariant.numbers in
    omega (
      arith,
      starts_end are.along c.deref.ensures.value c.last_of.ensures,
      starts_end are.inside c.deref-2.ensures.value c.last_of-2.ensures,
    )
