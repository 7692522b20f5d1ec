-- What is read of the arcs of a layout: their darts, and the sum and the entries of a list of targets.
use Rattle.std.proofs.Common.{rules, ◌≡◌, ℕ, zero, suc, ◌<◌, ◌≤◌, List, [], ◌∷◌, length, map, get_or}
use Rattle.std.proofs.Common.{refl, sym, ap, ◌∙◌, subst, arith, true, ◌-◌, ◌^◌}
use Rattle.std.proofs.lemmas.List.{get_or_default, get_or-map, length-map}
use Rattle.std.proofs.lemmas.List.FromFn.{get_or-map-range_with_len, length-map-range_with_len}
use Rattle.{std.proofs.lemmas.Bool.Decides.nat_tests, def_math.specs.Counts.count, def_math.specs.Counts.count_below}
use Rattle.{std.specs.Prelude.min, std.specs.Prelude.slice_index, def_flow.specs.declared.net.Arc.Arc}
use Rattle.{std.specs.List.All, std.specs.List.range_with_len, def_fit.specs.declared.fit.Aim.Aim}
use Rattle.{def_remesh.specs.Placings.IsMeshLayout, qm_layoutnet.proofs.Balance.one_net_law, def_mesh.specs.Darts.darts}
use Rattle.{def_remesh.specs.Keeping.IsNetFor, def_fit.specs.declared.fit.Fit.Fit, table_laws.proofs.Ranges.part_low}
use Rattle.{def_remesh.specs.Tasks.Wish, def_layout.specs.Gluings.Gluing, def_text.specs.FaceSet.FaceSet}
use Rattle.def_layout.specs.{Arcs.long_at, Arcs.path, Arcs.path_at, declared.tmesh.TMesh.TMesh, Surfaces.IsSurface}
use Rattle.def_layout.specs.{Layouts.layout_of, Layouts.Layout, Layouts.gluing_of, declared.tmesh.TArc.TArc}
use Rattle.{def_layout.specs.Lengths.Lengths, def_flow.specs.Admissible.IsEven, qm_net.proofs.Within.arc_bounded}
use Rattle.sum_laws.proofs.Sums.{count_below_prefix, count_below_le, count_below_ones}
use Rattle.qm_layoutnet.proofs.{Whole.arc_inside, Whole.lengths_few, Built.all_pass, Built.tangle_same}
use Rattle.def_flow.specs.Network.{Network, arc_at, ends, is_bounded, tangle_number, IsWithinBounds}
use Rattle.def_flow.specs.declared.{limits.TheConstants.MAX_OLD, limits.TheConstants.MAX_TANGLE, net.Settings.Settings}
use Rattle.def_layoutnet.specs.LayoutNet.{IsNetOf, IsTangled, AreSettings, HasNoNet}
use Rattle.def_layoutnet.specs.{MeshLayouts.IsSomeLayout, declared.NetFail.NetFail}
use Rattle.qm_metric.specs.Wishes.{with_wish, HasWishes, wish_along}
use Rattle.def_fit.specs.Aims.{aimed, fit_settings, AreAimedNear, IsFit, IsFitFail}
use Rattle.{def_fit.specs.declared.fit.Aim.TheVariants.Scale, def_certtext.specs.declared.certs.Rising.Rising}
use Rattle.def_metric.specs.{Fails.metric_fail_of, Fails.size_fail_of, Fails.IsFar, Targets.wish_sum}
use Rattle.def_metric.specs.declared.{fail.MetricFail.TheVariants.Far, limits.TheConstants.MAX_TARGETS}
use Rattle.{embedding_laws.proofs.Bounds.laid_of, embedding_laws.proofs.Bounds.lengths_of, def_mesh.specs.Faces.Faces}
use Rattle.def_layoutnet.specs.declared.NetFail.TheVariants as nets

-- The darts of all arcs are darts of the mesh.
pub runs_inside : (faces : Faces) (t : TMesh) (p : Layout) → layout_of t ≡ p → IsMeshLayout faces p
    → All (λ (run : TArc). All (λ (d : ℕ). d < darts faces) run.darts.items) t.arcs.items
runs_inside faces t p of lies k run low j d less =
    let (is, faces_are) = rw (← of) at lies in
    let same = get_or-map path t.arcs.items k run (record { first = 0; last = 0; darts = [] }) low in
    rw (← faces_are, get_or_default (get_or t.arcs.items k run).darts.items j d 0 less) (rw same at (arc_inside
    (layout_of t) is k j (omega (arith, low, length-map t.arcs.items path)) (rw same less)))

-- A sum along the arcs is one over their numbers.
pub sum_is : (f : List ℕ → ℕ) (runs : List TArc) → count (λ (run : TArc). f run.darts.items) runs
    ≡ count_below (λ a. f (path_at (map path runs) a).darts) (length (map path runs))
sum_is f [] = refl
sum_is f (run ∷ runs) = search (rules, count_below_prefix, sum_is f runs)

-- An entry of a list of numbers that are cut off at a bound.
entry_is : (f : List ℕ → ℕ) (most : ℕ) (runs : List TArc) (a : ℕ) → a < length runs
    → slice_index (map (λ (run : TArc). min (f run.darts.items) most) runs) a
    ≡ min (f (path_at (map path runs) a).darts) most
entry_is f most [] a low = absurd (omega arith)
entry_is f most (run ∷ runs) zero low = refl
entry_is f most (run ∷ runs) (suc a) low = entry_is f most runs a (omega arith)

-- The network of a layout with other wishes is within bounds, and as tangled as it was.

-- Another wish within the bound leaves an arc within bounds.
kept : (n w : ℕ) (a : Arc) → is_bounded n a ≡ true → w ≤ MAX_OLD → is_bounded n (with_wish w a) ≡ true
kept n w a is low = grind (arith, nat_tests)

module _ {net : Network} {wish : Lengths} {new : Network} (has : HasWishes net wish new) where
  -- The ends stay, and so does the tangle number.
  pub wishes_tangle : tangle_number new ≡ tangle_number net
  wishes_tangle = tangle_same net new has.nodes has.long (λ k l. ap ends (has.arcs k l))

  -- Wishes within the bound leave the network within bounds.
  pub within : IsWithinBounds net → ((k : ℕ) → k < length net.arcs → wish k ≤ MAX_OLD) → IsWithinBounds new
  within b low =
      let each = all_pass (is_bounded new.nodes) new.arcs (λ k l.
      let inner : k < length net.arcs = omega (arith, l, has.long) in
      rw (has.arcs k inner) (ap (λ (n : ℕ). is_bounded n (with_wish (wish k) (arc_at net.arcs k))) has.nodes
      ∙ kept net.nodes (wish k) (arc_at net.arcs k) (arc_bounded net b k inner) (low k inner))) in
      search (rules, arith, each)

-- The network with other wishes.
abbrev rewished_net : (wish : Lengths) (net : Network) → Network
rewished_net wish net = record net {
  arcs = map (λ k. with_wish (wish k) (arc_at net.arcs k)) (range_with_len 0 (length net.arcs));
}

has_wishes : (wish : Lengths) (net : Network) → HasWishes net wish (rewished_net wish net)
has_wishes wish net = search (rules, length-map-range_with_len, get_or-map-range_with_len)

module _ {l : Gluing} (laid : IsSurface l) {old : Lengths} (wish : Lengths) {settings : Settings} where
  -- It is the network of the layout for these wishes.
  wished : {net new : Network} → IsNetOf l old old settings (λ a. settings.floor) net → HasWishes net wish new
      → IsNetOf l old wish settings (λ a. settings.floor) new
  wished {net} {new} is has = search (rules, at, laid.paved.arc_low, is.weights, is.floors, is.left, is.right, is.alone)
    where
      at : (a : ℕ) → a < l.arcs → arc_at new.arcs a ≡ with_wish (wish a) (arc_at net.arcs a)
      at a low = has.arcs a (omega (arith, low, is.long))

  -- A layout is too tangled for other wishes where it is for some.
  tangled_for : {count : ℕ} → IsTangled l old old settings count → IsTangled l old wish settings count
  tangled_for is =
      let has = has_wishes wish is.net in
      record {
        net = rewished_net wish is.net;
        is = wished is.is has;
        told = is.told ∙ sym (wishes_tangle has);
        high = is.high;
      }

  -- And it is not where it is not.
  untangled_for : {net : Network} → IsNetOf l old old settings (λ a. settings.floor) net
      → tangle_number net ≤ MAX_TANGLE → (count : ℕ) → IsTangled l old wish settings count → ⊥
  untangled_for {net} is low count tangled =
      let has = has_wishes wish net in
      let same = ap tangle_number (one_net_law l old wish settings (λ a. settings.floor) laid tangled.net
      (rewished_net wish net) tangled.is (wished is has)) in
      omega (arith, same, wishes_tangle has, tangled.told, tangled.high)

-- The network of a layout with what is wished of its arcs, and why there is none.

-- The arcs of a layout are few.
pub few_arcs : (t : TMesh) → IsSomeLayout (layout_of t) → length t.arcs.items ≤ 2 ^ 23
few_arcs t is =
    let ones = count_below_ones (length (layout_of t).arcs) in
    let least = count_below_le (λ k. 1) (long_at (layout_of t).arcs) (length (layout_of t).arcs)
    (lengths_of (layout_of t) is).some in
    omega (arith, length-map t.arcs.items path, lengths_few (layout_of t) is, is.mesh.few)

-- The settings of a fit are within their limits.
pub settings_fit : (fit : Fit) → IsFit fit → AreSettings (fit_settings fit)
settings_fit fit is = search rules

-- Wishes that are told arc by arc.
abbrev along : (f : List ℕ → ℕ) → Wish
along f p arc = f (path_at p.arcs arc).darts

aimed_along : (aim : Aim) (soup : FaceSet) (wishes : List ℕ) → along (wish_along aim soup wishes)
    ≡ aimed aim soup wishes
aimed_along (Scale p q) soup wishes = refl
aimed_along _ soup wishes = refl

-- Old lengths are few, and other wishes are near just where their sum is.
near_aims : (aim : Aim) (soup : FaceSet) (wishes : List ℕ) (p : Layout) → IsSomeLayout p
    → (wish_sum (aimed aim soup wishes) p ≤ MAX_TARGETS → AreAimedNear aim (aimed aim soup wishes) p)
    × (MAX_TARGETS < wish_sum (aimed aim soup wishes) p → ¬ AreAimedNear aim (aimed aim soup wishes) p)
near_aims aim soup h1 = search (rules, lengths_few)

-- What a network near the old lengths, the sum of the wishes and the entries that were found say of a fit.
pub record AreFound (aim : Aim) (soup : FaceSet) (wishes : List ℕ) (p : Layout) (settings : Settings) (net : Network)
    (sum : ℕ) (found : List ℕ) : Type 0 where
  pub far : (rising : Rising) → MAX_TARGETS < sum
      → IsFitFail aim (aimed aim soup wishes) p settings rising (size_fail_of (Far sum))
  pub near : sum ≤ MAX_TARGETS → AreAimedNear aim (aimed aim soup wishes) p
  pub net_is : (new : Network) → sum ≤ MAX_TARGETS → 1 ≤ settings.floor → IsWithinBounds net
      → HasWishes net (slice_index found) new → IsNetFor (aimed aim soup wishes) p settings new
  pub even : (new : Network) (a b : ℕ) → aim ≡ Scale a b → IsNetFor (aimed aim soup wishes) p settings new
      → IsEven net → IsEven new

module _ (aim : Aim) (soup : FaceSet) (wishes : List ℕ) (t : TMesh) (settings : Settings)
    (lies : IsSomeLayout (layout_of t)) where
  abbrev f : List ℕ → ℕ
  f = wish_along aim soup wishes

  -- What holds of the wishes arc by arc holds of what is aimed at.
  moved : (P : Wish → Type 0) → P (along f) → P (aimed aim soup wishes)
  moved P holds = subst P (aimed_along aim soup wishes) holds

  -- It has no network.
  pub no_net : (rising : Rising) (fail : NetFail)
      → HasNoNet (gluing_of (layout_of t)) (long_at (layout_of t).arcs) (long_at (layout_of t).arcs) settings fail
      → IsFitFail aim (aimed aim soup wishes) (layout_of t) settings rising (size_fail_of (metric_fail_of fail))
  no_net rising (nets.Tangled number) is = search (rules, tangled_for, laid_of)
  no_net rising nets.Memory is = tt

  module _ {net : Network} (is : IsNetOf (gluing_of (layout_of t)) (long_at (layout_of t).arcs)
      (long_at (layout_of t).arcs) settings (λ a. settings.floor) net) (small : tangle_number net ≤ MAX_TANGLE)
      {sum : ℕ} (told : sum ≡ count (λ (run : TArc). f run.darts.items) t.arcs.items) {found : List ℕ}
      (are : found ≡ map (λ (run : TArc). min (f run.darts.items) (2 ^ 32 - 1)) t.arcs.items) where
    all : sum ≡ wish_sum (along f) (layout_of t)
    all = told ∙ sum_is f t.arcs.items

    -- Where the wishes are not too great, they are those of this network with the entries that were found.
    wished_net : {new : Network} → sum ≤ MAX_TARGETS → 1 ≤ settings.floor → IsWithinBounds net
        → HasWishes net (slice_index found) new → IsNetFor (along f) (layout_of t) settings new
    wished_net {new} few low bounds has =
        let p = layout_of t in
        let inner : (k : ℕ) → k < length net.arcs → k < length p.arcs = λ k l. omega (arith, l, is.long) in
        let low_wish : (k : ℕ) → k < length net.arcs → along f p k ≤ MAX_TARGETS =
        λ k l. omega (arith, part_low (along f p) k (length p.arcs) (inner k l), few, all) in
        let arcs : (k : ℕ) → k < length net.arcs → arc_at new.arcs k ≡ with_wish (along f p k) (arc_at net.arcs k) =
        λ k l.
        let told : slice_index found k ≡ along f p k = rw are (omega (
          arith,
          low_wish k l,
          entry_is f (2 ^ 32 - 1) t.arcs.items k (omega (arith, inner k l, length-map t.arcs.items path)),
        )) in
        rw (← told) (has.arcs k l) in
        let exact : HasWishes net (along f p) new = assumption (has, arcs) in
        record {
          mesh = lies;
          floor = λ arc. low;
          is = wished (laid_of p lies) (along f p) is exact;
          bounds = within exact bounds (λ k l. omega (arith, low_wish k l));
          untangled = omega (arith, wishes_tangle exact, small);
        }

    pub are_found : AreFound aim soup wishes (layout_of t) settings net sum found
    are_found =
        let aimed_sum = moved (λ w. sum ≡ wish_sum w (layout_of t)) all in
        let near = near_aims aim soup wishes (layout_of t) lies in
        record {
          far = λ rising high. (
            near.1 (omega (arith, high, aimed_sum)),
            moved (λ w. IsFar w (layout_of t) settings sum) (record {
              untangled = untangled_for (laid_of (layout_of t) lies) (along f (layout_of t)) is small;
              told = all;
              high = high;
            }),
          );
          near = λ low. near.0 (omega (arith, low, aimed_sum));
          net_is = λ new low floor bounds has. moved (λ w. IsNetFor w (layout_of t) settings new)
              (wished_net low floor bounds has);
          even = λ new a b scale for even. rw (one_net_law (gluing_of (layout_of t)) (long_at (layout_of t).arcs)
              (long_at (layout_of t).arcs) settings (λ a. settings.floor) (laid_of (layout_of t) lies) new net
              (rw scale at for.is) is) even;
        }
