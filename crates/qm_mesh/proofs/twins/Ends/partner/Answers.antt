use Rattle.std.proofs.Common.{◌≡◌, ◌∙◌, get_or, sym, inl, arith}
use Rattle.std.proofs.lemmas.{Bool.and_parts, Bool.eqb-true, List.get_or_default}

pub returns-then-runs : Rattle.qm_mesh.proofs.twins.Ends.partner.Goals.returns-then-runs
returns-then-runs c =
    let self = c.args.self.now in
    let start = c.from-start.result in
    let at : c.index-leaving.result.now ≡ get_or self.by_end.items start 0 = c.index-leaving.ensures
    ∙ sym (get_or_default self.by_end.items start 0 _ (omega (
      arith,
      self.long,
      c.from-start.ensures,
      self.quads.are.within c.args.e c.requires.dart,
    ))) in
    let both = and_parts _ _ (sym c.runs.ensures ∙ c.if-runs.true) in
    inl (
      omega (arith, at, self.are start (omega (arith, c.requires.dart))),
      eqb-true _ _ both.0 ∙ sym c.requires.arrives,
      eqb-true _ _ both.1 ∙ c.from-start.ensures,
    )
