-- Rounds of certificates, and the networks and the floors behind them.
use Rattle.std.proofs.Common.{rules, ◌≡◌, ℕ, suc, ◌<◌, ◌≤◌, ◌==◌, List, [], ◌∷◌, ◌++◌, length, refl, ap, ◌∙◌, arith}
use Rattle.std.proofs.Common.{◌^◌, true, None, Ok, sym, subst, append_assoc, ◌↔◌, drop, filter}
use Rattle.std.proofs.lemmas.Bool.{cond_both}
use Rattle.std.proofs.lemmas.List.{append-nil}
use Rattle.def_certtext.specs.CertLines.{alone, lists_of, raised, risen, risen_by, used, Certificates, Lists, text_of}
use Rattle.def_certtext.specs.{declared.certs.Rise.Rise, declared.certs.Rising.Rising}
use Rattle.def_certtext.specs.{declared.certs.Rising.TheVariants.Rounds, declared.certs.Round.Round, Laws.AreWritable}
use Rattle.def_certtext.specs.{Laws.certificate_lines, Laws.IsPrintable, Reading.may_tell, Reading.may_stand}
use Rattle.def_certtext.specs.{Reading.is_hash_line, Reading.TellCerts, Risings.third_if}
use Rattle.def_flow.specs.{Network.arc_at, Network.Network, declared.limits.TheConstants.MAX_FLOOR}
use Rattle.def_flow.specs.{declared.net.Settings.Settings}
use Rattle.def_layout.specs.{Layouts.Layout, Layouts.gluing_of, Layouts.vertex_at, Lengths.Lengths, Lengths.AreLengths}
use Rattle.def_layout.specs.{Arcs.long_at}
use Rattle.def_layoutnet.specs.{Floors.at_floor, Floors.floor_of, Floors.HasFloors, MeshLayouts.IsSomeLayout}
use Rattle.def_remesh.specs.Remeshed.{AreKeptBy, IsDoublingBy, HasLeastLengths, finished_text, AreCoarse}
use Rattle.def_remesh.specs.{Keeping.IsNetWith, NewPoints.lengths_in, NewPoints.multiple_of, Rises.rise_at}
use Rattle.def_remesh.specs.{Rises.risen_floors, Rises.AreNeeded, Tasks.Wish, Tasks.given_floors, Tasks.remesh_task}
use Rattle.def_remesh.specs.{Tasks.Task, NewSoup.new_soup, NewSoup.spaced_soup, ReadAgain.IsReadAgain}
use Rattle.def_remesh.specs.{ReadAgain.ends_line, Refined.refine_head, Refined.refined_text, TextLaws.ReadAgainLaw}
use Rattle.def_remesh.specs.{TextLaws.IsSolid, TextLaws.ToldLaw}
use Rattle.embedding_laws.proofs.Bounds.{laid_of, lengths_of, lies}
use Rattle.qm_layoutnet.proofs.Floors.{floor_high, floored, floors_tangle, floors_within, risen_low}
use Rattle.qm_layoutnet.proofs.{Built.opposite_law, Whole.lengths_few}
use Rattle.remesh_laws.specs.{Keeps.floors_behind, Keeps.AreLed, Asides.IsAside, Asides.IsPassedOver, Asides.IsSilent}
use Rattle.sum_laws.proofs.Sums.{count_below_le, count_below_ones}
use Rattle.def_io.specs.{Bytes.Bytes, Bytes.Lines, Lines.lines_of}
use Rattle.def_text.specs.{Canonical.canonical_text, FaceSet.FaceSet, Laws.IsWritableSoup, Text.numbers_to}
use Rattle.def_text.specs.{Text.soup_in, Text.text_soup}
use Rattle.qm_certtext.proofs.{Chosen.chosen_allowed, Found.filter_append, Texts.certs_told, Texts.written_law}
use Rattle.qm_obj.proofs.{LawSoup.each_both, LawSoup.text_back, LawText.is_inside}
use Rattle.remesh_laws.proofs.Asides.{canonical_ends, canonical_whole, cert_lines_passed, ArePassed, head_aside}
use Rattle.remesh_laws.proofs.Asides.{none_aside, refine_aside, ends_last, one_line}
use Rattle.remesh_laws.proofs.{Tails.lines_append, Printable.new_names, Printable.writable, Printable.mesh_layout}
use Rattle.remesh_laws.proofs.{Printable.printable, PassedOver.passed_over}
use Rattle.{std.specs.Prelude.slice_index, std.specs.List.list_all, written_laws.proofs.Shape.multiple_law}

-- ---- What is known of certificates.

-- What follows for each certificate with its floors follows for all that are kept.
pub kept_by : {f g : Lengths → Lists → Type 0} (layout : Layout) (floors : Lengths) (rising : Rising)
    (certificates : Certificates) → ((floors : Lengths) (cert : Lists) → f floors cert → g floors cert)
    → AreKeptBy f layout floors rising certificates → AreKeptBy g layout floors rising certificates
kept_by layout floors rising (alone cert) more kept = more floors cert kept
kept_by layout floors rising (raised first cert) more kept = search rules
kept_by layout floors rising (risen first rises after) more kept =
    search (rules, kept_by layout (risen_floors rises floors) rising after more kept.3)

-- ---- Rounds.

module _ (fits : Lengths → Lists → Type 0) (layout : Layout) where
  -- What is kept behind rounds is kept with them.
  pub led_kept : (rounds : List Round) (floors : Lengths) (after : Certificates) → AreLed fits layout rounds floors
      → AreKeptBy fits layout (floors_behind rounds floors) Rounds after
      → AreKeptBy fits layout floors Rounds (risen_by rounds after)
  led_kept [] floors after led kept = kept
  led_kept (round ∷ rounds) floors after led kept =
      (refl, led.0, led.1, led_kept rounds (risen_floors round.rises.items floors) after led.2 kept)

  -- One round more.
  pub led_more : (rounds : List Round) (round : Round) (floors : Lengths) → AreLed fits layout rounds floors
      → IsDoublingBy fits layout (floors_behind rounds floors) (lists_of round.cert) → AreNeeded (gluing_of layout)
      (lengths_in round.cert.x.items) round.rises.items → AreLed fits layout (rounds ++ round ∷ []) floors
  led_more [] round floors led doubling needed = (doubling, needed, tt)
  led_more (first ∷ rounds) round floors led doubling needed =
      search (rules, led_more rounds round (risen_floors first.rises.items floors) led.2 doubling needed)

pub behind_more : (rounds : List Round) (round : Round) (floors : Lengths)
    → floors_behind (rounds ++ round ∷ []) floors ≡ risen_floors round.rises.items (floors_behind rounds floors)
behind_more [] round floors = refl
behind_more (first ∷ rounds) round floors = behind_more rounds round (risen_floors first.rises.items floors)

-- The lengths that are used are those of what is behind them.
pub used_behind : (rounds : List Round) (after : Certificates) → used (risen_by rounds after) ≡ used after
used_behind [] after = refl
used_behind (round ∷ rounds) after = used_behind rounds after

-- ---- Floors.

-- Where floors are the same, they are the same after they rose.
pub risen_same : (rises : List Rise) (floors others : Lengths) (arc : ℕ) → floors arc ≡ others arc
    → risen_floors rises floors arc ≡ risen_floors rises others arc
risen_same [] floors others arc same = same
risen_same (rise ∷ rises) floors others arc same = search (rules, risen_same rises floors others arc same)

-- Floors of at least 1 are so after floors rose to at least 1.
risen_some : (rises : List Rise) (floors : Lengths) (arc : ℕ)
    → ((k : ℕ) → k < length rises → 1 ≤ (rise_at rises k).floor) → 1 ≤ floors arc → 1 ≤ risen_floors rises floors arc
risen_some [] floors arc rose some = some
risen_some (rise ∷ rises) floors arc rose some = cond_both (arc == rise.arc) _ _ (λ (n : ℕ). 1 ≤ n)
    (λ on. rose 0 (omega arith)) (λ off. risen_some rises floors arc (λ k low. rose (suc k) (omega (arith, low))) some)

-- ---- Networks.

-- The network with other floors.
pub raised_net : {wish : Wish} {floors : Lengths} (layout : Layout) (settings : Settings) (higher : Lengths) (net other
    : Network) → ((arc : ℕ) → 1 ≤ higher arc) → ((arc : ℕ) → arc < length net.arcs → higher arc ≤ MAX_FLOOR) → IsNetWith
    wish layout settings floors net → HasFloors net higher other → IsNetWith wish layout settings higher other
raised_net {wish} {floors} layout settings higher net other some high for has =
    search (rules, floored, laid_of, floors_within, floors_tangle)

-- The network with floors that rose by need.
pub net_risen : {wish : Wish} {floors : Lengths} (layout : Layout) (settings : Settings) (xs : List ℕ) (rises : List
    Rise) (net next : Network) → IsNetWith wish layout settings floors net → AreNeeded (gluing_of layout) (lengths_in
    xs) rises → HasFloors net (risen_floors rises (floor_of net.arcs)) next → IsNetWith wish layout settings
    (risen_floors rises floors) next
net_risen {wish} {floors} layout settings xs rises net next for needed has = raised_net _ _ _ _ _
    (search (rules, risen_some)) high for (record {
      nodes = has.nodes;
      p = has.p;
      q = has.q;
      long = has.long;
      arcs = λ k low. has.arcs k low ∙ ap (λ (f : ℕ). at_floor f (arc_at net.arcs k)) (same k low);
    })
  where
    floor_is : (k : ℕ) → k < length net.arcs → floor_of net.arcs k ≡ floors k
    floor_is k low = for.is.floors k (omega (arith, low, for.is.long))

    same : (k : ℕ) → k < length net.arcs → risen_floors rises (floor_of net.arcs) k ≡ risen_floors rises floors k
    same k low = risen_same rises (floor_of net.arcs) floors k (floor_is k low)

    high : (k : ℕ) → k < length net.arcs → risen_floors rises floors k ≤ MAX_FLOOR
    high k low = (risen_low (gluing_of layout) (lengths_in xs) rises needed floors k
        (for.floor k, omega (arith, floor_high net for.bounds k low, floor_is k low))).1

-- Certified lengths are lengths of the layout: at least 1, and equal on opposite sides of each patch.

pub certified_lengths : {wish : Wish} {floors : Lengths} (layout : Layout) (settings : Settings) (cert : Lists)
    → ((arc : ℕ) → 1 ≤ floors arc) → HasLeastLengths wish layout settings floors cert
    → AreLengths (gluing_of layout) (lengths_in cert.x)
certified_lengths layout settings cert floor is =
    let some : (a : ℕ) → a < length layout.arcs → 0 < slice_index cert.x a = search rules in
    (opposite_law (gluing_of layout) (lengths_in cert.x) some).1 is.opposite

-- So are those that are used, after each round.
lengths_behind : (wish : Wish) (layout : Layout) (settings : Settings) (rising : Rising) (certificates : Certificates)
    (floors : Lengths) → ((arc : ℕ) → 1 ≤ floors arc) → AreKeptBy (HasLeastLengths wish layout settings) layout floors
    rising certificates → AreLengths (gluing_of layout) (lengths_in (used certificates).x)
lengths_behind wish layout settings rising (alone cert) floors some kept = search (rules, certified_lengths)
lengths_behind wish layout settings rising (raised first cert) floors some kept = search (rules, certified_lengths)
lengths_behind wish layout settings rising (risen first rises after) floors some kept = lengths_behind wish layout
    settings rising after (risen_floors rises floors) (search (rules, risen_some)) kept.3

pub used_lengths : (wish : Wish) (layout : Layout) (settings : Settings) (rising : Rising) (certificates : Certificates)
    → 1 ≤ settings.floor → AreKeptBy (HasLeastLengths wish layout settings) layout (given_floors settings) rising
    certificates → AreLengths (gluing_of layout) (lengths_in (used certificates).x)
used_lengths wish layout settings rising certificates some kept = search (rules, lengths_behind)

-- Kept certificates can be written.

-- The arcs of a layout are few.
pub arcs_few : (layout : Layout) → IsSomeLayout layout → length layout.arcs ≤ 2 ^ 23
arcs_few layout is =
    let ones = count_below_ones (length layout.arcs) in
    let most = count_below_le (λ k. 1) (long_at layout.arcs) (length layout.arcs) (lengths_of layout is).some in
    omega (arith, lengths_few layout is, is.mesh.few)

-- Rises of arcs with small numbers to small floors may be told.
all_told : (rises : List Rise) → ((k : ℕ) → k < length rises → ((rise_at rises k).arc < 2 ^ 32) × ((rise_at rises
    k).floor ≤ MAX_FLOOR)) → list_all (may_tell Rounds) rises ≡ true
all_told [] each = refl
all_told (rise ∷ rises) each =
    let first : (rise.arc < 2 ^ 32) × (rise.floor ≤ MAX_FLOOR) = each 0 (omega arith) in
    search (rules, all_told rises (λ k low. each (suc k) (omega (arith, low))))

pub kept_writable : (wish : Wish) (layout : Layout) (settings : Settings) (rising : Rising) (certificates :
    Certificates) (floors : Lengths) → IsSomeLayout layout → AreKeptBy (HasLeastLengths wish layout settings) layout
    floors rising certificates → AreWritable rising certificates
kept_writable wish layout settings rising (alone cert) floors mesh kept = kept.writable
kept_writable wish layout settings rising (raised first cert) floors mesh kept = search rules
kept_writable wish layout settings rising (risen first rises after) floors mesh kept =
    let there = (kept.2.each 0 kept.2.some).there in (
      kept.0,
      kept.1.fit.writable,
      omega (arith, kept.1.fit.count, kept.1.fit.of_layout.long, there),
      kept.2.some,
      all_told rises (λ k low. (
        omega (arith, (kept.2.each k low).there, arcs_few layout mesh),
        (kept.2.each k low).low,
      )),
      kept_writable wish layout settings rising after (risen_floors rises floors) mesh kept.3,
    )

-- What is written for a task, or for a refined mesh, is read again as the new mesh.

-- The canonical text of a soup whose vertices are numbered from 1 in order, between lines that are passed over.
framed : (front behind : Bytes) (soup : FaceSet) → IsWritableSoup soup → soup.names ≡ numbers_to (length soup.pos)
    → IsAside front → ArePassed (lines_of behind) → soup_in (front ++ (canonical_text soup ++ behind)) ≡ Ok soup
framed front behind soup is names before after =
    let lines = lines_append front (canonical_text soup ++ behind) before.ended
    ∙ ap (λ (ls : Lines). lines_of front ++ ls) (lines_append (canonical_text soup) behind (canonical_ends soup)) in
    ap (text_soup 1) lines ∙ passed_over (lines_of front) (lines_of (canonical_text soup)) (lines_of behind) soup
    before.each (canonical_whole soup is) after (text_back soup is ∙ ap Ok (search rules))

-- The lines of certificates that can be written may stand.
pub kept_allowed : (wish : Wish) (layout : Layout) (settings : Settings) (rising : Rising) (certificates : Certificates)
    → IsSomeLayout layout → AreKeptBy (HasLeastLengths wish layout settings) layout (given_floors settings) rising
    certificates → list_all (may_stand rising) (certificate_lines rising certificates) ≡ true
kept_allowed wish layout settings rising certificates mesh kept = search (rules, chosen_allowed, kept_writable)

-- The text of a refined mesh.
pub refined_read : (by : ℕ) (soup : FaceSet) (layout : Layout) → IsSomeLayout layout → 0 < by → by < 2 ^ 64
    → IsReadAgain (refined_text by soup layout) (new_soup soup layout (multiple_of by (long_at layout.arcs)))
refined_read by soup layout mesh some low is =
    let x : Lengths = multiple_of by (long_at layout.arcs) in
    let laid = laid_of layout mesh in
    let len = (multiple_law mesh.faces (gluing_of layout) (long_at layout.arcs) (vertex_at layout) (lies layout mesh) by
    some).0 in
    ap (λ (t : Bytes). soup_in (refine_head by ++ t)) (sym (append-nil (canonical_text (new_soup soup layout x))))
    ∙ framed (refine_head by) [] (new_soup soup layout x) (writable soup layout None x laid len is)
    (new_names soup layout None x laid len) (refine_aside by low) (λ k l. absurd (omega (arith, l)))

-- The text of a task.
pub task_read : (task : Task) (soup : FaceSet) (layout : Layout) (certificates : Certificates) → IsSomeLayout layout
    → AreLengths (gluing_of layout) (lengths_in (used certificates).x) → AreKeptBy (HasLeastLengths task.wish layout
    task.settings) layout (given_floors task.settings) task.rising certificates → IsAside (task.head ++ 10 ∷ [])
    → IsAside (task.between layout (lengths_in (used certificates).x)) → IsReadAgain (finished_text task soup layout
    certificates) (spaced_soup soup layout task.shares (lengths_in (used certificates).x))
task_read task soup layout certificates mesh len kept head between is =
    let new : Lengths = lengths_in (used certificates).x in
    let certs = text_of (certificate_lines task.rising certificates) in
    let behind = subst ArePassed (sym (lines_append (task.between layout new) certs between.ended))
    (each_both IsPassedOver (lines_of (task.between layout new)) (lines_of certs) [] between.each
    (cert_lines_passed task.rising (certificate_lines task.rising certificates) (search (rules, kept_allowed)))) in
    ap soup_in (sym (append_assoc task.head (10 ∷ []) _)) ∙ framed (task.head ++ 10 ∷ [])
    (task.between layout new ++ certs) (spaced_soup soup layout task.shares new) (writable soup layout task.shares new
    (laid_of layout mesh) len is) (new_names soup layout task.shares new (laid_of layout mesh) len) head behind

pub read_again_law : ReadAgainLaw
read_again_law settings auto soup text range solid is few_vertices few_faces =
    let mesh = mesh_layout soup is.layout solid is.cut in
    let lengths = used_lengths _ is.layout settings (third_if auto) is.certificates range.floor.low is.lengths in
    ap soup_in is.written ∙ task_read (remesh_task settings auto soup.faces) soup is.layout is.certificates mesh lengths
    is.lengths (head_aside settings auto range) none_aside (search (rules, printable))

-- The text of a finished task tells its certificates, and no others.

-- The first line of a text.
pub first_line : (head rest : Bytes) → list_all is_inside head ≡ true → lines_of (head ++ 10 ∷ rest)
    ≡ head ∷ lines_of rest
first_line head rest inside = ap lines_of (sym (append_assoc head (10 ∷ []) rest)) ∙ (lines_append (head ++ 10 ∷ [])
    rest (ends_last head) ∙ ap (λ (ls : Lines). ls ++ lines_of rest) (one_line head inside))

-- Silent lines add no marked one.
marked_around : (mesh between certs : Bytes) → ends_line mesh ≡ true → IsSilent between
    → filter is_hash_line (lines_of (mesh ++ (between ++ certs))) ≡ filter is_hash_line (lines_of (mesh ++ certs))
marked_around mesh between certs ends silent = search (rules, lines_append, filter_append)

pub none_silent : IsSilent []
none_silent = record { ended = refl; plain = refl }

-- What is told depends on the marked lines alone.
tells_same : (rising : Rising) (behind others : Lines) (certificates : Certificates) → filter is_hash_line behind
    ≡ filter is_hash_line others → TellCerts rising behind certificates → TellCerts rising others certificates
tells_same rising behind others certificates marked tells = search rules

module _ (task : Task) (soup : FaceSet) (layout : Layout) (certificates : Certificates) (some : 1 ≤ task.settings.floor)
    (solid : IsSolid soup) (mesh : IsSomeLayout layout) (kept : AreKeptBy
    (HasLeastLengths task.wish layout task.settings) layout (given_floors task.settings) task.rising certificates)
    (coarse : AreCoarse layout (used certificates).x) (inside : list_all is_inside task.head ≡ true)
    (silent : IsSilent (task.between layout (lengths_in (used certificates).x))) where
  -- The new mesh, and its text with that of the certificates.
  abbrev new : FaceSet
  new = spaced_soup soup layout task.shares (lengths_in (used certificates).x)

  abbrev certs : Bytes
  certs = text_of (certificate_lines task.rising certificates)

  fine : IsPrintable new
  fine = search (rules, printable, used_lengths)

  marked : filter is_hash_line (drop 1 (lines_of (finished_text task soup layout certificates)))
      ≡ filter is_hash_line (lines_of (canonical_text new ++ certs))
  marked = search (rules, first_line, marked_around, canonical_ends)

  pub task_told : (other : Certificates) → TellCerts task.rising (drop 1 (lines_of (finished_text task soup layout
      certificates))) other ↔ (other ≡ certificates)
  task_told other =
      let told = certs_told task.rising new certificates fine (search (rules, kept_writable)) other in
      (λ tells. told.0 (tells_same _ _ _ other marked tells), λ same. tells_same _ _ _ other (sym marked) (told.1 same))

-- The text of a finished remesh tells its settings and its certificates, and no others.

pub told_law : ToldLaw
told_law settings auto soup text range solid is =
    let mesh = mesh_layout soup is.layout solid is.cut in
    let fine : IsPrintable (spaced_soup soup is.layout None (lengths_in (used is.certificates).x))
    = search (rules, printable, used_lengths) in
    rw is.written (written_law settings auto (spaced_soup soup is.layout None (lengths_in (used is.certificates).x))
    is.certificates range fine (search (rules, kept_writable)))
