-- What a benchmark keeps, whose source is not read: what is kept of a layout, and how far it is from what is wanted.
use Rattle.std.proofs.Common.{rules, ◌≡◌, ℕ, ℤ, pos, [], sym, ◌∙◌, ap, subst, refl}
use Rattle.def_certtext.specs.CertLines.{alone, raised, risen, used, Certificates}
use Rattle.def_certtext.specs.declared.certs.Rising.TheVariants.{Never}
use Rattle.def_flow.specs.{Admissible.deviation, Admissible.entries, Admissible.AreNetLengths, Network.Network}
use Rattle.def_flow.specs.{declared.net.Settings.Settings}
use Rattle.def_layout.specs.{Arcs.long_at, Layouts.Layout, Layouts.gluing_of}
use Rattle.def_layoutnet.specs.{LayoutNet.IsNetOf, MeshLayouts.IsSomeLayout}
use Rattle.def_remesh.specs.{CutSoups.CutSoup, Keeping.IsKept, Refusals.IsLayoutFail, declared.tables.Tables.Tables}
use Rattle.def_remesh.specs.{Tasks.old_lengths, declared.kept.LayoutFail.LayoutFail}
use Rattle.def_run.specs.{Bench.bench_faces, Bench.bench_settings, Bench.IsBenchFail, Bench.WritesBench, Causes.Cause}
use Rattle.def_run.specs.{Causes.IsUnread, Remesh.IsTracedLayout, declared.command.Command.TheVariants.Bench}
use Rattle.qm_top.specs.{Deviation.IsKeptDeviation, Writing.IsOfLayout, Refusals.answer_of_layout, Refusals.Ended}
use Rattle.qm_top.specs.{Refusals.IsNoMeshOf, declared.refusal.Refusal.Refusal}
use Rattle.qm_top.proofs.Refusals.{layout_ends, IsWriter}
use Rattle.{def_gen.specs.Steps.steps_soup, def_io.specs.Moves.Change, def_mesh.specs.Faces.Faces}
use Rattle.{def_text.specs.FaceSet.FaceSet, embedding_laws.proofs.Bounds.laid_of}
use Rattle.{qm_layoutnet.proofs.Balance.one_net_law, remesh_laws.proofs.Solved.writable_short}
use Rattle.def_remesh.specs.declared.kept.LayoutFail.TheVariants as layouts

-- ---- What is kept.

-- A network and what is kept, of the same layout, where the settings are those of a benchmark.
pub bench_net : {layout other : Layout} {settings : Settings} {net : Network} → other ≡ layout
    → settings ≡ bench_settings
    → IsNetOf (gluing_of other) (long_at other.arcs) (long_at other.arcs) settings (λ a. settings.floor) net
    → IsNetOf (gluing_of layout) (long_at layout.arcs) (long_at layout.arcs) bench_settings (λ a. 1) net
bench_net {layout} {settings = settings} {net} equal same is = subst (λ (s : Settings). IsNetOf (gluing_of layout)
    (long_at layout.arcs) (long_at layout.arcs) s (λ a. s.floor) net) same
    (subst (λ (p : Layout). IsNetOf (gluing_of p) (long_at p.arcs) (long_at p.arcs) settings (λ a. settings.floor) net)
    equal is)

module _ {layout : Layout} {tables : Tables} {net : Network} {settings : Settings} (same : settings ≡ bench_settings)
    (is : IsNetOf (gluing_of layout) (long_at layout.arcs) (long_at layout.arcs) bench_settings (λ a. 1) net) where
  -- The kept lengths are lengths of the layout's network: floors that never rise do not rise to 3, nor in rounds.
  pub kept_lengths : (certificates : Certificates) → IsKept old_lengths layout settings Never certificates tables
      → AreNetLengths net.arcs (used certificates).x
  kept_lengths (alone cert) kept = search (rules, writable_short)
  kept_lengths (raised first cert) kept = cc kept.kept.0
  kept_lengths (risen first rises after) kept = cc kept.kept.0

  -- A layout has one network, so their deviation is that of their certificate.
  pub deviation_kept : (certificates : Certificates) (told : ℤ) → IsSomeLayout layout
      → IsKept old_lengths layout settings Never certificates tables
      → told ≡ pos (deviation net (entries (used certificates).x)) → IsKeptDeviation layout told
  deviation_kept (raised first cert) told mesh kept says = absurd (cc kept.kept.0)
  deviation_kept (risen first rises after) told mesh kept says = absurd (cc kept.kept.0)
  deviation_kept (alone cert) told mesh given says =
      let kept = rw same at given in
      let one : net ≡ kept.kept.lengths.net = one_net_law (gluing_of layout) (long_at layout.arcs) (long_at layout.arcs)
      bench_settings (λ a. 1) (laid_of layout mesh) net kept.kept.lengths.net is kept.kept.lengths.of_layout in
      record {
        cert = cert;
        certified = kept.kept;
        coarse = kept.coarse;
        undoubled = kept.undoubled;
        is = says ∙ ap (λ (n : Network). pos (deviation n (entries cert.x))) one;
      }

-- A layout of a mesh that is that of a size is one of the size.
pub traced_in : (size : ℕ) {soup : FaceSet} {faces : Faces} {layout : Layout} {cut : CutSoup} → soup ≡ steps_soup size
    → faces ≡ soup.faces → cut ≡ record { soup = soup; layout = layout } → IsTracedLayout faces layout
    → IsTracedLayout (bench_faces size) cut.layout
traced_in size {layout = layout} is same made traced =
    subst (IsTracedLayout (bench_faces size)) (ap (λ (k : CutSoup). k.layout) (sym made))
    (subst (λ (fs : Faces). IsTracedLayout fs layout) (same ∙ ap (λ (s : FaceSet). s.faces) is) traced)

-- One that is refused is why the size is.
pub size_fails : (size : ℕ) (layout : Layout) (failed : LayoutFail) → IsTracedLayout (bench_faces size) layout
    → IsLayoutFail old_lengths layout bench_settings Never failed → IsBenchFail size failed
size_fails size layout layouts.Memory cut why = tt
size_fails size layout _ cut why = (layout, cut, why)

-- ---- How the command ends.

module _ (size : ℕ) {input out : Change} (unread : IsUnread input) where
  pub bench_writer : IsWriter (Bench size) (WritesBench size) (IsOfLayout (IsBenchFail size)) input out
  bench_writer = record {
    bytes = [];
    whole = (unread, refl);
    calm = unread.1;
    writes = λ text said. said;
    read = λ text said. tt;
    ends = layout_ends {fails = IsBenchFail size} unread.1 refuses;
  }
    where
      refuses : (fail : LayoutFail) → IsBenchFail size fail → Cause (Bench size) input out (answer_of_layout fail)
      refuses layouts.Memory why = tt
      refuses _ why = record { bytes = []; whole = (unread, refl); said = why }

  -- A mesh that is no manifold ends it.
  pub made_ended : (r : Refusal) → IsNoMeshOf (steps_soup size) r → Ended (Bench size) input out r
  made_ended r h1 = search rules
