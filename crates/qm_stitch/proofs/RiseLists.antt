-- Rises by marks of the tight arcs are the needed ones.
use Rattle.std.proofs.Common.{rules, ◌≡◌, ◌↔◌, ℕ, ◌+◌, ◌<◌, ◌≤◌, Bool, true, false, List, [], ◌∷◌, ◌++◌, length, get_or}
use Rattle.std.proofs.Common.{refl, sym, ◌∙◌, ap, subst, inl, inr, arith}
use Rattle.std.proofs.lemmas.List.{get_or_append_left, get_or_push, length_push, Elements.Contains-get_or}
use Rattle.std.specs.Prelude.{ℤ, pos}
use Rattle.def_layout.specs.{Layouts.gluing_of, Layouts.Layout, Gluings.Gluing, Surfaces.HasWholeSides, Lengths.Lengths}
use Rattle.def_remesh.specs.Rises.{rise_at, AreNeeded, AreTightLong, IsNeeded, IsTightArc, RunsAlong}
use Rattle.def_written.specs.Edges.{Edge, on_arc, flat, steep}
use Rattle.qm_stitch.specs.{Remedies.FollowCheapest, Remedies.IsCheapest, Remedies.IsCheapestIn, Rims.key_of}
use Rattle.qm_stitch.specs.Raised.{AreFloors, AreOrdered, AreRisesUpto, IsFloorOf, IsShortTight}
use Rattle.qm_stitch.specs.Remedies.{price_of, IsArcOf, IsRemedy, IsRunIn, IsRunOf, IsShortRun, IsSomeShort, AreMarksOf}
use Rattle.qm_stitch.specs.declared.remedy.{Run.TheVariants.Arc, Run.TheVariants.Side, Run.Run, Remedy.Remedy}
use Rattle.{std.proofs.lemmas.Bool.cases_eq, std.proofs.lemmas.Bool.false≢true, def_remesh.specs.NewPoints.lengths_in}
use Rattle.{def_certtext.specs.declared.certs.Rise.Rise, std.specs.List.Contains, qm_stitch.proofs.Grids.side_low}
use Rattle.{def_layout.specs.declared.tmesh.SideArc.SideArc, def_flow.specs.declared.limits.TheConstants.MAX_FLOOR}
use Rattle.{qm_stitch.proofs.TightEdges.tight_by, qm_offsets.specs.Fours.arcs_on}

-- The rise past the last one.
abbrev no_rise : Rise
no_rise = record { arc = 0; floor = 0 }

module _ (some : Bool) (tight : List Bool) (xs : List ℕ) where
  -- One arc more, whose floor stays or rises.
  pub stays : (arc : ℕ) (rises : List Rise) → AreRisesUpto some tight xs arc rises
      → ((floor : ℕ) → ¬ IsFloorOf some tight xs arc floor) → AreRisesUpto some tight xs (arc + 1) rises
  stays arc rises are none = search rules

  pub rises_too : (arc : ℕ) (rise : Rise) (rises : List Rise) → AreRisesUpto some tight xs arc rises → rise.arc ≡ arc
      → arc < length xs → IsFloorOf some tight xs rise.arc rise.floor
      → AreRisesUpto some tight xs (arc + 1) (rises ++ rise ∷ [])
  rises_too arc rise rises are same low is =
      let longer = length_push rises rise in
      let old = get_or_append_left rises (rise ∷ []) no_rise in
      let new = get_or_push rises rise no_rise in
      record {
        below = λ k k_low. grind (arith, longer, old k, new k, are.below k);
        ordered = λ k k_low. grind (arith, longer, old k, old (k + 1), new (k + 1), are.ordered k, are.below k);
        floors = λ k k_low. grind (arith, longer, old k, new k, are.floors k);
        each = λ a floor a_low has. elim (cases_eq a arc) [
          | inl this ↦ (length rises, omega arith, ap (λ (r : Rise). r.arc) (new _ refl) ∙ same ∙ sym this)
          | inr other ↦ grind (arith, are.each a floor)
        ];
      }

module _ (l : Gluing) (xs : List ℕ) (tight : List Bool) where
  -- A rise by marks of tight arcs is needed, where these are all the short ones if no tight arc is short.
  floor_needed : (some : Bool) (rise : Rise) → (some ≡ true → get_or tight rise.arc false ≡ true
      → IsTightArc l (lengths_in xs) rise.arc) → (some ≡ false → AreTightLong l (lengths_in xs)) → rise.arc < l.arcs
      → IsFloorOf some tight xs rise.arc rise.floor → IsNeeded l (lengths_in xs) rise
  floor_needed true rise marks none low (short, marked, same) = search rules
  floor_needed false rise marks none low (short, same) = search rules

  module _ (long : length xs ≡ l.arcs)
      (tells : (arc : ℕ) → arc < l.arcs → (get_or tight arc false ≡ true) ↔ IsTightArc l (lengths_in xs) arc)
      (some : Bool) (told : (some ≡ true) ↔ ((arc : ℕ) × (arc < length xs) × IsShortTight tight xs arc))
    where
      tight_long : some ≡ false → AreTightLong l (lengths_in xs)
      tight_long none arc low is = search rules

      -- A needed floor is one by the marks.
      needed_floor : (b : Bool) → some ≡ b → (rise : Rise) → IsNeeded l (lengths_in xs) rise
          → IsFloorOf b tight xs rise.arc rise.floor
      needed_floor true on rise is = search rules
      needed_floor false off rise is = grind (arith, is.there, is.low, is.short, is.reason, tight_long off rise.arc)

      pub needed_are : (rises : List Rise) → ((0 < length rises) × AreOrdered rises × AreFloors some tight xs rises)
          ↔ AreNeeded l (lengths_in xs) rises
      needed_are rises = (
        λ (has, ordered, floors). record {
          some = has;
          ordered = ordered;
          each = λ k low.
              let (there, floor) = floors k low in
              let less : (rise_at rises k).arc < l.arcs = omega arith in
              floor_needed some (rise_at rises k) (λ on. (tells _ less).0) tight_long less floor;
        },
        search (rules, needed_floor some),
      )

-- Arcs along edges: which arcs are tight by them, which of them are short, and which edges they lie along.

-- An edge runs along the arcs of its runs, and along no others.
along : (layout : Layout) (e : Edge) (run : Run) (arc : ℕ) → IsRunOf e run → IsArcOf layout run arc
    → RunsAlong (gluing_of layout) e arc
along layout e h1 h2 = search rules

run_along : (layout : Layout) (e : Edge) (arc : ℕ) → RunsAlong (gluing_of layout) e arc
    → (run : Run) × IsRunOf e run × IsArcOf layout run arc
run_along layout (on_arc a k) arc has = (Arc a, refl, has)
run_along layout (flat p i j) arc (inl has) = (Side p 0, inl refl, has)
run_along layout (flat p i j) arc (inr has) = (Side p 2, inr refl, has)
run_along layout (steep p i j) arc (inl has) = (Side p 1, inl refl, has)
run_along layout (steep p i j) arc (inr has) = (Side p 3, inr refl, has)

module _ (layout : Layout) (x : Lengths) (prices : List ℤ) where
  pub remedy_in : (r : Remedy) → IsRemedy layout x prices r → IsRunIn layout r.run
  remedy_in r (e, is) = (search rules)

  -- The arcs of a remedy are tight.
  pub remedy_tight : (r : Remedy) (arc : ℕ) → IsRemedy layout x prices r → IsArcOf layout r.run arc
      → IsTightArc (gluing_of layout) x arc
  remedy_tight r arc (e, is) has = tight_by.0 (e, is.doubled, along layout e r.run arc is.run has)

  -- Where a tight arc is short, there is a remedy.
  pub none_short : ((r : Remedy) → ¬ IsRemedy layout x prices r) → AreTightLong (gluing_of layout) x
  none_short none arc low t =
      let (e, doubled, on) = tight_by.1 t in
      let (run, of, has) = run_along layout e arc on in
      let price = price_of layout x prices run in
      let long : ¬ (x arc < MAX_FLOOR) =
      λ short. none (record { key = key_of (gluing_of layout) x e; price = price; run = run })
      (e, record { doubled = doubled; key = refl; run = of; short = (arc, has, short); price = refl }) in
      omega arith

-- Short arcs in use are short arcs of a side.
pub uses_tell : (layout : Layout) (x : Lengths) (p s : ℕ) {uses : List SideArc} {some : Bool}
    → uses ≡ arcs_on layout p s → (some ≡ true) ↔ IsSomeShort x uses → (some ≡ true) ↔ IsShortRun layout x (Side p s)
uses_tell layout x p s same told = grind arith

-- What the arcs of a run are numbers of.
pub arc_low : (layout : Layout) (run : Run) (arc : ℕ) → HasWholeSides (gluing_of layout) → IsRunIn layout run
    → IsArcOf layout run arc → arc < length layout.arcs
arc_low layout (Arc a) arc paved there same = omega arith
arc_low layout (Side p s) arc paved there has = search (rules, side_low)

-- The rises of marked arcs of cheapest remedies are needed, and they follow the rule.

module _ {layout : Layout} {xs : List ℕ} (prices : List ℤ) {rs : List Remedy} {marks : List Bool} {rises : List Rise}
    (paved : HasWholeSides (gluing_of layout)) (long : length xs ≡ length layout.arcs)
    (found : (r : Remedy) → Contains rs r ↔ IsRemedy layout (lengths_in xs) prices r) (are : AreMarksOf layout rs marks)
    {some : Bool} (told : (some ≡ true) ↔ (0 < length rs)) (risen : AreRisesUpto some marks xs (length xs) rises) where
  abbrev x : Lengths
  x = lengths_in xs

  cheapest : (r : Remedy) → IsCheapestIn rs r → IsCheapest layout x prices r
  cheapest r is = record {
    is = (found r).0 is.has;
    least = λ other is_other same. is.least other ((found other).1 is_other) same;
  }

  low : (r : Remedy) (arc : ℕ) → IsRemedy layout x prices r → IsArcOf layout r.run arc → arc < length layout.arcs
  low r arc is of = arc_low layout r.run arc paved (remedy_in layout x prices r is) of

  marked : (arc : ℕ) → arc < length layout.arcs → get_or marks arc false ≡ true → IsTightArc (gluing_of layout) x arc
  marked arc less mark =
      let c = are.only arc less mark in remedy_tight layout x prices c.0 arc ((found c.0).0 c.1.has) c.2

  -- The rises by marks are some: a remedy has a short arc, and where there is none not all arcs are long.
  some_risen : ¬ ((arc : ℕ) → arc < length xs → MAX_FLOOR ≤ x arc) → (b : Bool) → some ≡ b → 0 < length rises
  some_risen not_long true is =
      let c = are.each _ (Contains-get_or rs 0 (record { key = 0; price = pos 0; run = Arc 0 }) (told.0 is)) in
      let remedy = (found c.0).0 c.1.has in
      let (arc, of, short) = remedy.1.short in
      let less = low c.0 arc remedy of in
      let has = (rw is at risen).each arc (x arc + 1) (omega arith) (short, c.3 arc less of, refl) in
      omega (arith, has.1)
  some_risen not_long false is = elim (cases_eq (length rises) 0) [
    | inl none ↦ absurd (not_long (λ arc less.
        let long : ¬ (x arc < MAX_FLOOR) = λ short.
        let has = (rw is at risen).each arc MAX_FLOOR less (short, refl) in omega (arith, has.1) in
        omega arith))
    | inr has ↦ omega arith
  ]

  pub choice_needed : ¬ ((arc : ℕ) → arc < length xs → MAX_FLOOR ≤ x arc) → AreNeeded (gluing_of layout) x rises
  choice_needed not_long = record {
    some = some_risen not_long _ refl;
    ordered = risen.ordered;
    each = λ k less.
        let (there, floor) = risen.floors k less in
        let there : (rise_at rises k).arc < length layout.arcs = omega arith in
        floor_needed _ xs _ _ _ (λ on. marked _ there) (λ (off : some ≡ false). none_short _ x _ (λ r remedy.
        let has = (found r).1 remedy in false≢true (sym off ∙ told.1 (omega arith)))) there floor;
  }

  by_marks : (r : Remedy) → IsRemedy layout x prices r → AreRisesUpto true marks xs (length xs) rises
  by_marks r remedy = let has = (found r).1 remedy in rw (told.1 (omega arith)) at risen

  pub choice_follows : FollowCheapest layout x prices rises
  choice_follows = record {
    each = λ r remedy.
        let c = are.each r ((found r).1 remedy) in (
          c.0,
          cheapest c.0 c.1,
          c.2,
          λ arc of short.
              let less = low c.0 arc ((found c.0).0 c.1.has) of in
              (by_marks r remedy).each arc (x arc + 1) (omega arith) (short, c.3 arc less of, refl),
        );
    only = λ r remedy arc has.
        let c = are.only _ (omega arith) ((by_marks r remedy).floors has.0 has.1).1.1 in
        (c.0, cheapest c.0 c.1, subst (IsArcOf layout c.0.run) has.2 c.2);
  }
