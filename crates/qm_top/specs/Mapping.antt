-- What `map` does with the bytes that it read.
use Rattle.std.specs.Prelude.{◌≡◌, ◌≢◌, ⊤}
use Rattle.def_io.specs.Bytes.{Bytes}
use Rattle.def_map.specs.MapText.{map_text}
use Rattle.def_marks.specs.declared.fail.MarkFail.TheVariants as marks
use Rattle.def_remesh.specs.CutSoups.{Regrid}
use Rattle.def_remesh.specs.NewPoints.{lengths_in}
use Rattle.def_remesh.specs.declared.kept.LayoutFail.TheVariants as layouts
use Rattle.def_run.specs.Map.{HasMap, RefusesToMap}
use Rattle.def_run.specs.MapFails.{HasFrontFault, RefusesFrontMarks, RefusesFrontText}
use Rattle.def_run.specs.declared.answer.Answer.TheVariants as answers
use Rattle.def_text.specs.FaceSet.{FaceSet}
use Rattle.def_text.specs.declared.refusal.ObjFail.TheVariants as obj
use Rattle.def_text.specs.declared.refusal.SoupFail.TheVariants as soup
use Rattle.qm_top.specs.declared.named.NamedPlace.{NamedPlace}
use Rattle.qm_top.specs.declared.refusal.Refusal.{Refusal}
use Rattle.qm_top.specs.declared.refusal.Refusal.TheVariants.{NotAccepted, Soup, NotManifold, Marks, Layout, Far}
use Rattle.qm_top.specs.declared.refusal.Refusal.TheVariants as refusals

-- The map of a new mesh.
abbrev pub mapped_text : (new : Regrid) → Bytes
mapped_text new = map_text new.soup new.layout new.shares (lengths_in new.lengths)

-- The faces of the text in front are no manifold, first at this place, with the numbers of that text.
pub record NamesFrontFault (bytes : Bytes) (named : NamedPlace) : Type 0 where
  pub front : FaceSet
  pub fault : HasFrontFault bytes front named.place
  pub numbers : named.names.items ≡ front.names

-- Why bytes have no map, where there is memory.
abbrev pub IsNoMapFor : (bytes : Bytes) (refusal : Refusal) → Type 0
IsNoMapFor bytes (NotAccepted why) = RefusesToMap bytes (answers.NotAccepted why)
IsNoMapFor bytes (Soup (soup.Obj fail)) = RefusesFrontText bytes fail × (fail ≢ obj.Memory) × (¬ HasMap bytes)
IsNoMapFor bytes (NotManifold named) = NamesFrontFault bytes named × (¬ HasMap bytes)
IsNoMapFor bytes (Marks fail) = RefusesFrontMarks bytes fail × (fail ≢ marks.Memory) × (¬ HasMap bytes)
IsNoMapFor bytes (Layout (layouts.Tangled count)) = RefusesToMap bytes (answers.Tangled count)
IsNoMapFor bytes (Far sum) = RefusesToMap bytes (answers.Far sum)
IsNoMapFor bytes refusals.Memory = ⊤
IsNoMapFor bytes _ = ⊥
