-- The cut that is chosen: there is one, it is full, and it keeps lines.
use Rattle.std.proofs.Common.{rules, ◌≡◌, Bool, false, List, replicate, Some, None, refl, sym, ◌∙◌}
use Rattle.def_feature.specs.{Beside.IsCutBeside, Marked.marked_cut, Marks.AreMarks}
use Rattle.def_patches.specs.Laws.{ChosenCutLaw, LineArcLaw, LinesLaw, NoMarksLaw, OneArcLaw, OneCutLaw}
use Rattle.def_patches.specs.{Chosen.IsKeepingCut, Chosen.IsPlainCut, declared.Patches.Patches}
use Rattle.def_patches.specs.declared.Patches.TheVariants.{Traced, Merged, Conforming}
use Rattle.feature_laws.proofs.{Arcs.beside_arc_law, Arcs.traced_beside, Conforming.conforming_law, Exists.a_conforming}
use Rattle.feature_laws.proofs.First.{are_none, off, same_cut}
use Rattle.merge_laws.proofs.Beside.{merged_none, none_merged, merged_beside_law, one_merged_law}
use Rattle.{std.proofs.lemmas.List.ext_get_or, std.proofs.lemmas.List.length-replicate, def_mesh.specs.Darts.darts}
use Rattle.{def_mesh.specs.Faces.Faces, def_mesh.specs.Manifold.IsManifold, feature_laws.proofs.Exists.one_conforming}
use Rattle.{merge_laws.proofs.Exists.merged_law, def_merge.specs.Beside.may_beside, patch_laws.proofs.OneArc.one_arc}

-- Without marks the cut is the one that keeps no marked edge.
module _ (faces : Faces) where
  abbrev none : List Bool
  none = replicate (darts faces) false

  pub to_plain : (patches : Patches) (cut : List Bool) → IsKeepingCut faces (replicate (darts faces) false) patches cut
      → IsPlainCut faces patches cut
  to_plain patches cut h1 = search (rules, same_cut, none_merged)

  pub from_plain : (patches : Patches) (cut : List Bool) → IsPlainCut faces patches cut
      → IsKeepingCut faces (replicate (darts faces) false) patches cut
  from_plain patches cut h1 = search (rules, same_cut, merged_none)

module _ (faces : Faces) (m : IsManifold faces) (marks : List Bool) (marked : AreMarks faces marks) where
  traced : IsCutBeside faces marks (marked_cut faces marks)
  traced = traced_beside faces m marks marked

  pub keeps : (patches : Patches) (cut : List Bool) → IsKeepingCut faces marks patches cut → IsCutBeside faces marks cut
  keeps Traced cut is = rw is traced
  keeps Merged cut is = merged_beside_law faces marks (marked_cut faces marks) cut m traced is
  keeps Conforming cut is = conforming_law faces marks cut m marked is

  one_keeping : (patches : Patches) → (cut : List Bool) × IsKeepingCut faces marks patches cut
      × ((other : List Bool) → IsKeepingCut faces marks patches other → other ≡ cut)
  one_keeping Traced = (marked_cut faces marks, refl, λ other is. is)
  one_keeping Merged =
      let some = merged_law faces (may_beside faces marks) (marked_cut faces marks) m traced.full in (
        some.0,
        some.1,
        λ other is. (one_merged_law faces (may_beside faces marks) (marked_cut faces marks) other some.0 m traced.full
            is some.1).0,
      )
  one_keeping Conforming =
      let some = a_conforming faces marks m marked in
      (some.0, some.1, λ other is. one_conforming faces marks other _ is some.1)

pub one_cut_law : OneCutLaw
one_cut_law faces (Some marks) patches m marked =
    let one = one_keeping faces m marks marked patches in
    record { cut = one.0; chosen = one.1; only = one.2 }
one_cut_law faces None patches m kept =
    let one = one_keeping faces m _ (are_none faces) patches in
    record {
      cut = one.0;
      chosen = to_plain faces patches one.0 one.1;
      only = λ other is. one.2 other (from_plain faces patches other is);
    }

pub lines_law : LinesLaw
lines_law faces marks patches cut m marked is = keeps faces m marks marked patches cut is

pub chosen_cut_law : ChosenCutLaw
chosen_cut_law faces (Some marks) patches cut m marked is = (keeps faces m marks marked patches cut is).full
chosen_cut_law faces None patches cut m kept is =
    (keeps faces m (replicate (darts faces) false) (are_none faces) patches cut (from_plain faces patches cut is)).full

pub line_arc_law : LineArcLaw
line_arc_law faces marks patches cut m marked is s n run k l =
    beside_arc_law faces marks cut m marked (keeps faces m marks marked patches cut is) s n run k l

pub no_marks_law : NoMarksLaw
no_marks_law faces marks patches cut m marked unmarked = (
  λ is. to_plain faces patches cut (rw (← same) is),
  λ is. rw same (from_plain faces patches cut is),
)
  where
    same : marks ≡ replicate (darts faces) false
    same = ext_get_or false marks (replicate (darts faces) false)
        (cc (length-replicate (darts faces) false)) (λ d l. unmarked d ∙ sym (off faces d))

pub one_arc_law : OneArcLaw
one_arc_law faces (Some marks) layout m marked (cut, is, laid) patch side low = search (rules, one_arc)
one_arc_law faces None layout m kept (cut, is, laid) patch side low = search (rules, one_arc, are_none)
