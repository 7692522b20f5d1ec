-- What is written for bytes that are read: it is accepted behind them, and its vertices lie where they are said to.
use Rattle.std.proofs.Common.{rules, ◌++◌, [], None, length, inr, sym, ap, ◌∙◌, arith, refl}
use Rattle.std.proofs.{lemmas.Bool.false≢true, lemmas.List.FromFn.get_or-map-range_with_len}
use Rattle.read_laws.proofs.Accepted.{accepts_law, head_there, last_line}
use Rattle.read_laws.proofs.{LayoutsRead.finished_layout, LayoutsRead.finished_lengths, LayoutsRead.task_layout_law}
use Rattle.read_laws.proofs.{Soups.mesh_text_law}
use Rattle.def_certtext.specs.{CertLines.alone, CertLines.Certificates, CertLines.used, declared.certs.Rising.Rising}
use Rattle.def_flow.specs.{Admissible.deviation, Admissible.entries, Network.Network, declared.net.Settings.Settings}
use Rattle.{def_io.specs.Bytes.Bytes, def_io.specs.Lines.lines_of, embedding_laws.proofs.OneLayout.embedding_law}
use Rattle.def_layout.specs.{Arcs.long_at, Layouts.gluing_of, Layouts.Layout, Layouts.vertex_at}
use Rattle.def_readlaws.specs.{ReadPairs.AcceptsTextLaw, ReadSpots.FinishedSpotsLaw, ReadSpots.RefinedSpotsLaw}
use Rattle.def_readlaws.specs.{ReadSpots.SpotTextLaw}
use Rattle.def_remesh.specs.{Tasks.given_floors, Tasks.old_lengths, Tasks.remesh_task, Certified.IsShown}
use Rattle.def_remesh.specs.{Checked.accepted_line, Checked.IsCheckedPair, NewPoints.lengths_in, NewPoints.multiple_of}
use Rattle.def_remesh.specs.{Remeshed.AreKeptBy, Remeshed.HasLeastLengths}
use Rattle.def_run.specs.{Checking.begins_fit, Checking.HasFitText, Checking.WritesAccepted, Check.head_of}
use Rattle.def_run.specs.{MarkLines.begins_mark}
use Rattle.map_laws.proofs.{OldPoints.spacing_is, SpotPlaces.spot_law}
use Rattle.written_laws.proofs.{Shape.multiple_law, Spacings.even_law}
use Rattle.{def_cut.specs.Traced.traced_marks, def_layoutnet.specs.LayoutNet.IsNetOf}
use Rattle.{def_written.specs.Numbers.vertices, remesh_laws.proofs.Asides.one_last, site_laws.proofs.Laws.graph_law}

-- Kept certificates have the network of their layout.
net_of : (layout : Layout) (settings : Settings) (rising : Rising) (certificates : Certificates)
    → AreKeptBy (HasLeastLengths old_lengths layout settings) layout (given_floors settings) rising certificates
    → (net : Network)
    × IsNetOf (gluing_of layout) (old_lengths layout) (old_lengths layout) settings (λ a. settings.floor) net
net_of layout settings rising (alone cert) kept = (kept.net, kept.of_layout)
net_of layout settings rising _ kept = (kept.1.fit.net, kept.1.fit.of_layout)

-- A checked pair that is no text of `fit` has the line that tells its numbers.
told_pair : (bytes : Bytes) → ¬ HasFitText bytes → IsCheckedPair bytes → (line : Bytes) × WritesAccepted bytes line
told_pair bytes other pair =
    let of = net_of _ _ _ _ pair.remeshed.lengths in (
      accepted_line _ _ _,
      record {
        arcs = _;
        faces = _;
        deviates = deviation of.0 (entries _);
        counted = inr (
          other,
          record {
            pair = pair;
            arcs_told = refl;
            faces_told = refl;
            net = of.0;
            of_layout = of.1;
            deviation_told = refl;
          },
        );
        said = refl;
      },
    )

pub accepts_text_law : AcceptsTextLaw
accepts_text_law settings auto old text range ends wrote =
    let solid = (mesh_text_law old wrote.soup wrote.mesh).0 in
    let shown : IsShown (remesh_task settings auto wrote.soup.faces) wrote.soup text = rw (← wrote.asked) wrote.shown in
    -- The last head line of all is that of the remesh.
    told_pair (old ++ text) (λ fit.
    let there = one_last begins_mark (lines_of (old ++ text)) fit.line (length (lines_of old)) fit.divided
    (last_line settings auto old text wrote.soup range ends solid shown begins_mark (search rules)) in
    false≢true (sym (ap begins_fit (ap (λ n. head_of (old ++ text) n) there
    ∙ head_there settings auto old text wrote.soup range ends solid shown)) ∙ fit.begins))
    (accepts_law settings auto old text wrote.soup range wrote.mesh.said ends solid shown)

pub spot_text_law : SpotTextLaw
spot_text_law bytes soup marks layout shares new is full laid long spaced v low =
    let mesh = mesh_text_law bytes soup is in
    let spot = spot_law soup.faces layout shares new (search rules, refl) long spaced v low in (
      spot.0,
      spot.1 soup.pos ∙ sym (get_or-map-range_with_len _ 0 _ v v [] low (omega arith)),
    )

pub refined_spots_law : RefinedSpotsLaw
refined_spots_law by bytes text some wrote =
    let faces = wrote.soup.faces in
    let layout = wrote.refined.layout in
    let l = gluing_of layout in
    let x = long_at layout.arcs in
    let full = (graph_law faces wrote.mesh.manifold).1 in
    let mesh = mesh_text_law bytes wrote.soup wrote.mesh in
    let lies = embedding_law faces (traced_marks faces) layout mesh.1 mesh.2 full wrote.refined.cut in
    let new = multiple_of by x in
    let lengths = (multiple_law faces l x (vertex_at layout) lies by some).0 in
    spot_text_law bytes wrote.soup _ layout None new wrote.mesh full wrote.refined.cut lengths
    (even_law l x new lies.lengths lengths)

pub finished_spots_law : FinishedSpotsLaw
finished_spots_law command bytes text wrote range =
    let finished = wrote.shown.finished in
    let new = lengths_in (used finished.certificates).x in
    let full = (task_layout_law command bytes wrote.soup wrote.task wrote.mesh wrote.asked).0 in
    let lengths = finished_lengths command bytes text wrote range.floor.low in
    spot_text_law bytes wrote.soup wrote.task.marks finished.layout wrote.task.shares new wrote.mesh full finished.cut
    lengths (search (rules, spacing_is, finished_layout))
