use Rattle.std.proofs.Common.{◌≡◌, Ok, ap, sym, ◌∙◌, ◌≤◌, length, subst}
use Rattle.std.proofs.lemmas.Result.{IfErr-weaker, IfOk-weaker}
use Rattle.def_text.specs.{FaceSet.FaceSet, Text.soup_in, Text.text_soup, declared.limits.TheConstants.MAX_V_LINES}
use Rattle.qm_top.specs.{Meshless.IsMeshless, Refusals.IsNoMeshOf}
use Rattle.qm_top.proofs.Refusals.{no_mesh_of, soupless, text_meshed, whole_range}
use Rattle.{def_io.specs.Lines.lines_of, error_laws.proofs.Errors.handed}
use Rattle.qm_top.proofs.input.text_mesh.Goals as goal

pub returns-in_err-soup-clause-refused : goal.returns-in_err-soup-clause-refused
returns-in_err-soup-clause-refused c =
    let all = whole_range (lines_of c.args.lines.now) c.count-after.result c.count-after.ensures in
    handed (IsMeshless c.args.lines.now) _ _ c.from_residual.ensures.1
    (soupless c.args.lines.now _ (λ other. ap (text_soup 1) (sym all) ∙ c.in_err-soup.ensures.refused other))

pub returns : goal.returns
returns c =
    let bytes = c.args.lines.now in
    let soup = c.in_ok-soup.soup in
    let said : soup_in bytes ≡ Ok soup = ap (text_soup 1)
    (sym (whole_range (lines_of bytes) c.count-after.result c.count-after.ensures)) ∙ c.in_ok-soup.ensures.soup in
    record {
      mesh = text_meshed bytes soup c.mesh_of.result said c.mesh_of.ensures.soup c.mesh_of.ensures.manifold;
      few = IfOk-weaker c.mesh_of.result (λ read. read ≡ soup) (λ read. length read.pos ≤ MAX_V_LINES)
          (λ read same. subst (λ (s : FaceSet). length s.pos ≤ MAX_V_LINES) (sym same) c.in_ok-soup.ensures.few.0)
          c.mesh_of.ensures.soup;
      refused = IfErr-weaker c.mesh_of.result (IsNoMeshOf soup) (IsMeshless bytes)
          (λ r why. no_mesh_of bytes soup r said why) c.mesh_of.ensures.refused;
    }
