use Rattle.{std.proofs.Common.Err, std.proofs.Common.ap, std.proofs.Common.◌∙◌, def_text.specs.FaceSet.FaceSet}
use Rattle.qm_top.proofs.input.mesh_of.Goals as goal

pub named_place-requires : goal.named_place-requires
named_place-requires c =
    let bad = c.in-Err-NotManifold.ensures.refused c.in-Err-NotManifold.place c.in-Err-NotManifold.soup
    (ap Err c.in-Err-NotManifold.field-0-is) in
    record { fault = rw bad.0 bad.1 }

pub returns-in-Err-NotManifold-clause-refused : goal.returns-in-Err-NotManifold-clause-refused
returns-in-Err-NotManifold-clause-refused c =
    let bad = c.in-Err-NotManifold.ensures.refused c.in-Err-NotManifold.place c.in-Err-NotManifold.soup
    (ap Err c.in-Err-NotManifold.field-0-is) in (
      rw c.named_place.ensures.place bad.1,
      bad.2,
      c.named_place.ensures.names ∙ ap (λ (s : FaceSet). s.names) bad.0,
    )
