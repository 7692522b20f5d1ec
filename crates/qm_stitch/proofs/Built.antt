-- The tables that are built number the layout.
use Rattle.std.proofs.lemmas.Grind.{common_steps}
use Rattle.std.proofs.Common.{◌≡◌, ℕ, ◌-◌, ◌*◌, ◌^◌, ◌<◌, ◌≤◌, List, length, sym, ◌∙◌, ap, arith, ◌⊎◌, ◌↔◌, ◌+◌, ◌||◌}
use Rattle.std.proofs.Common.{rules, Bool, true, false, get_or}
use Rattle.std.proofs.{Math.Nat.sub-zero, lemmas.Bool.eq-eqb}
use Rattle.std.proofs.lemmas.List.{Folds.list_any_at, Folds.Any-from_list_any, length-map}
use Rattle.def_layout.specs.{Lengths.size, Lengths.wide, Lengths.high, Lengths.Lengths, declared.tmesh.SideArc.SideArc}
use Rattle.def_layout.specs.Gluings.{Way, south, west, Gluing, east, north}
use Rattle.def_layout.specs.Layouts.{Layout, gluing_of, way_number, side_at}
use Rattle.def_remesh.specs.{declared.tables.Tables.Tables, NewPoints.lengths_in, Rises.IsOnSide}
use Rattle.def_remesh.specs.Numberings.{tables_of, AreRunStarts, AreSideStarts, IsNumbering}
use Rattle.embedding_laws.proofs.Bounds.{laid_of, side_few, vertices_few}
use Rattle.qm_offsets.proofs.{Spots.last_is, Spots.starts_same, Spots.term_room, Whole.way_for}
use Rattle.qm_stitch.specs.{Tight.is_on, Tight.AddsMarks, Tight.IsDoubledIn, Tight.IsTightAt, Rims.along_lines}
use Rattle.qm_stitch.specs.Sizes.{long_by, product_by, AreRows, IsFine}
use Rattle.{qm_offsets.specs.Fours.begins_of, qm_offsets.specs.Fours.arcs_on, def_written.specs.Numbers.vertices}
use Rattle.{written_laws.proofs.Sides.size_some, def_math.specs.Counts.count_below, sum_laws.proofs.Sums.count_below_le}
use Rattle.{def_written.specs.NewFaces.cells_before, std.specs.Prelude.slice_index}

module _ {layout : Layout} {list : List ℕ} (fine : IsFine layout list) where
  abbrev l : Gluing
  l = gluing_of layout

  abbrev x : Lengths
  x = lengths_in list

  pub few_points : vertices l x ≤ 2 ^ 23
  few_points = omega (arith, vertices_few l x (laid_of layout fine.mesh) fine.lengths)

  -- Each length is short, and so are sides and the arcs together.
  pub lengths_short : (arc : ℕ) → arc < length list → slice_index list arc < 2 ^ 32
  lengths_short arc low =
      let room = term_room (λ a. lengths_in list a - 1) (length layout.arcs) arc (omega (arith, fine.long)) in
      omega (arith, few_points)

  pub sides_short : (p : ℕ) (s : Way) → p < length layout.patches → size l x p s < 2 ^ 32
  sides_short p s low = omega (arith, side_few l x (laid_of layout fine.mesh) fine.lengths p s low)

  pub points_short : count_below (λ arc. lengths_in list arc - 1) (length list) < 2 ^ 32
  points_short = omega (arith, few_points, ap (count_below (λ arc. lengths_in list arc - 1)) fine.long)

  module _ {tables : List (List (List ℕ))} (are : AreSideStarts layout (lengths_in list) tables) where
    long_is : (p : ℕ) (s : Way) → p < length layout.patches → long_by tables p (way_number s) ≡ size l x p s
    long_is p s low = search (rules, last_is)

    pub product_is : (less p : ℕ) → p < length layout.patches
        → product_by tables less p ≡ (wide l x p - less) * (high l x p - less)
    product_is less p low = λ i. (long_is p south low i - less) * (long_is p west low i - less)

    pub rows : (less : ℕ) → less ≤ 1 → AreRows tables less
    rows less one = record {
      four = λ p low. are.four p (omega (arith, are.sided));
      some = λ p s low way. search (rules, way_for s way);
      long = λ p s low way.
          let (w, same) = way_for s way in
          let some = size_some l x (laid_of layout fine.mesh).paved fine.lengths p w in
          rw (← same) (omega (arith, long_is p w, are.sided));
      small = omega (
        arith,
        count_below_le (product_by tables less) (λ p. wide l x p * high l x p) (length tables) (λ p low. grind (
          arith,
          product_is less p (omega (arith, are.sided)),
        )),
        ap (cells_before l x) are.sided,
      );
    }

-- All tables together.
pub built : {layout : Layout} (t : Tables) (fine : IsFine layout t.lengths.items) → t.nodes ≡ length layout.nodes
    → AreRunStarts (λ arc. lengths_in t.lengths.items arc - 1) (length t.lengths.items) t.along.begin.items
    → AreSideStarts layout (lengths_in t.lengths.items) (tables_of t.sides.items)
    → AreRunStarts (product_by (tables_of t.sides.items) 1) (length t.sides.items) t.inside.begin.items
    → AreRunStarts (product_by (tables_of t.sides.items) 0) (length t.sides.items) t.cells.begin.items
    → IsNumbering layout t
built {layout} t fine nodes along sides inside cells =
    let many = sym (length-map t.sides.items begins_of) ∙ sides.sided in
    assumption (
      rw fine.long at along,
      starts_same _ _ _ _ (product_is fine sides 1) (rw many at inside),
      simp sub-zero at (starts_same _ _ _ _ (product_is fine sides 0) (rw many at cells)),
    )

-- Marks of arcs, side after side.

or_told : {a b c : Bool} {P : Type 0} → c ≡ (a || b) → (b ≡ true) ↔ P → (c ≡ true) ↔ ((a ≡ true) ⊎ P)
or_told same told = grind arith

-- Marks of the arcs in use on a side.
pub adds_side : (layout : Layout) (p s : ℕ) (side : List SideArc) (old new : List Bool) → side ≡ arcs_on layout p s
    → ((arc : ℕ) → arc < length old → get_or new arc false ≡ (get_or old arc false || is_on side arc))
    → (way : Way) → way_number way ≡ s → AddsMarks old new (IsOnSide (gluing_of layout) p way)
adds_side layout p s side old new is told way same arc low =
    let uses = side_at layout p _ in
    let none : SideArc = record { arc = 0; forward = true } in
    or_told (rw (is, ← same) at (told _ low)) (
      grind (arith, common_steps, Any-from_list_any),
      λ (at, less, is). list_any_at _ uses at none less (eq-eqb (get_or uses at none).arc arc is),
    )

-- The side across from the one along which lines run.
abbrev pub across : (upright : Bool) → Way
across false = north
across true = east

-- The arcs of both sides along which lines with a doubled edge run are tight.
pub lines_both : (l : Gluing) (x : Lengths) (u : Bool) (p arc : ℕ) → IsDoubledIn l x u p
    → (IsOnSide l p (along_lines u) arc ⊎ IsOnSide l p (across u) arc) ↔ IsTightAt l x u p arc
lines_both l x false p arc doubled = grind arith
lines_both l x true p arc doubled = grind arith

-- One patch more.
pub tight_more : {A B C D : Type 0} {P : Bool → ℕ → Type 0} (n : ℕ)
    → B ↔ (A ⊎ ((p : ℕ) × (u : Bool) × (p < n) × P u p)) → C ↔ (B ⊎ P false n) → D ↔ (C ⊎ P true n)
    → D ↔ (A ⊎ ((p : ℕ) × (u : Bool) × (p < n + 1) × P u p))
tight_more n before rows columns = grind arith
