-- What is divided equally among the new edges of an arc: a share for the edge of each dart.
use Rattle.std.specs.Prelude.{ℕ, Bool, cond, List, [], map, Option, Some, None}
use Rattle.def_cut.specs.FullCut.{is_on}
use Rattle.def_mesh.specs.Darts.{all_darts}
use Rattle.def_metric.specs.Targets.{edge_length}
use Rattle.def_text.specs.FaceSet.{FaceSet}
use Rattle.def_fit.specs.declared.fit.Aim.{Aim}
use Rattle.def_fit.specs.declared.fit.Aim.TheVariants.{Scale, Edge, Wishes}
use Rattle.def_fit.specs.declared.fit.Fit.{Fit}
use Rattle.def_fit.specs.declared.fit.Spacing.{Spacing}
use Rattle.def_fit.specs.declared.fit.Spacing.TheVariants.{Even, Wished}

-- The length in space of an edge of the cut. No arc runs along another edge.
abbrev pub cut_length : (soup : FaceSet) (cut : List Bool) (dart : ℕ) → ℕ
cut_length soup cut dart = cond (is_on cut dart) (edge_length soup.faces soup.pos dart) 0

-- The shares for an aim: the old edges count alike, by their lengths in space, or by what is wished for each.
abbrev pub aimed_shares : (aim : Aim) (soup : FaceSet) (wishes : List ℕ) (cut : List Bool) → List ℕ
aimed_shares (Scale p q) soup wishes cut = []
aimed_shares (Edge edge) soup wishes cut = map (cut_length soup cut) (all_darts soup.faces)
aimed_shares Wishes soup wishes cut = wishes

-- Even spacing has none.
abbrev pub spaced_shares : (spacing : Spacing) (shares : List ℕ) → Option (List ℕ)
spaced_shares Even shares = None
spaced_shares Wished shares = Some shares

-- The shares of a fit over a cut.
abbrev pub shares_of : (fit : Fit) (soup : FaceSet) (wishes : List ℕ) (cut : List Bool) → Option (List ℕ)
shares_of fit soup wishes cut = spaced_shares fit.spacing (aimed_shares fit.aim soup wishes cut)
