-- The arcs around a block, and the lines of links along them.
use Rattle.std.proofs.Common.{◌≡◌, ℕ, zero, suc, ◌+◌, ◌-◌, ◌<◌, ◌≤◌, List, [], ◌∷◌, ◌++◌, length, map, take, drop}
use Rattle.std.proofs.Common.{get_or, Some, None, refl, sym, ◌∙◌, ap, append_assoc, append-nil, arith, length-append}
use Rattle.std.proofs.lemmas.List.{get_or_append_left, get_or-map, length-map, map-append}
use Rattle.{std.proofs.Math.Seq.drop-cons, std.proofs.lemmas.Option.slice_get-get_or, std.specs.Prelude.slice_get}
use Rattle.{qm_blocktext.specs.Gridded.arcs_of, def_layout.specs.Layouts.layout_of, def_layout.specs.Layouts.Layout}
use Rattle.def_layout.specs.{declared.tmesh.Side.Side, declared.tmesh.SideArc.SideArc, declared.tmesh.TMesh.TMesh}
use Rattle.{def_blocks.specs.declared.link.Link.Link, def_layoutnet.specs.MeshLayouts.IsSomeLayout}
use Rattle.def_cuttext.specs.GridsText.{arc_link_line, arc_link_lines, arcs_around}

-- The arcs of a side.
abbrev numbers : (side : Side) → List ℕ
numbers side = map (λ (used : SideArc). used.arc) side.arcs.items

module _ (sides : List Side) (i k : ℕ) (side : Side) (low : i < length sides) (is : side ≡ get_or sides i side) where
  -- The sides from one on have its arcs, and then those of the others.
  arcs_from : arcs_of (drop i sides) ≡ numbers side ++ arcs_of (drop (suc i) sides)
  arcs_from =
      ap arcs_of (drop-cons sides i side low) ∙ ap (λ (s : Side). numbers s ++ arcs_of (drop (suc i) sides)) (sym is)

  many : length (numbers side) ≡ length side.arcs.items
  many = length-map side.arcs.items (λ (u : SideArc). u.arc)

  -- An arc of this side.
  pub arc_here : (used : SideArc) → k < length side.arcs.items → used ≡ get_or side.arcs.items k used
      → slice_get (arcs_of (drop i sides)) k ≡ Some used.arc
  arc_here used less read =
      let all = length-append (numbers side) (arcs_of (drop (suc i) sides)) in
      ap (λ (xs : List ℕ). slice_get xs k) arcs_from ∙ slice_get-get_or (numbers side ++ arcs_of (drop (suc i) sides)) k
      used.arc (omega (arith, less, many, all)) ∙ ap Some (get_or_append_left (numbers side)
      (arcs_of (drop (suc i) sides)) used.arc k (omega (arith, less, many)) ∙ get_or-map (λ (u : SideArc). u.arc)
      side.arcs.items k used used.arc less ∙ ap (λ (u : SideArc). u.arc) (sym read))

  -- An arc behind this side.
  pub arc_behind : length side.arcs.items ≤ k
      → slice_get (arcs_of (drop i sides)) k ≡ slice_get (arcs_of (drop (suc i) sides)) (k - length side.arcs.items)
  arc_behind past = ap (λ (xs : List ℕ). slice_get xs k) arcs_from ∙ later (numbers side) (arcs_of (drop (suc i) sides))
      k (omega (arith, past, many)) ∙ ap (λ (n : ℕ). slice_get (arcs_of (drop (suc i) sides)) (k - n)) many
    where
      later : (xs ys : List ℕ) (k : ℕ) → length xs ≤ k → slice_get (xs ++ ys) k ≡ slice_get ys (k - length xs)
      later [] ys k past = ap (slice_get ys) (let same : k ≡ k - 0 = omega arith in same)
      later (x ∷ xs) ys zero past = absurd (omega (arith, past))
      later (x ∷ xs) ys (suc k) past = later xs ys k (omega (arith, past))
          ∙ ap (slice_get ys) (let same : k - length xs ≡ suc k - length (x ∷ xs) = omega arith in same)

-- The lines of links are those up to one that has an arc, that one's, and those behind it; and those up to the next are
-- one more.
pub lines_at : (links : List Link) (arcs : List ℕ) (k : ℕ) (link : Link) (arc : ℕ) → k < length links
    → slice_get arcs k ≡ Some arc → (arc_link_lines (take k links) arcs ++ (arc_link_line (get_or links k link) arc
    ++ arc_link_lines (drop (suc k) links) (drop (suc k) arcs)) ≡ arc_link_lines links arcs)
    × (arc_link_lines (take (suc k) links) arcs ≡ arc_link_lines (take k links) arcs
    ++ arc_link_line (get_or links k link) arc)
lines_at [] arcs k link arc low has = absurd (omega (arith, low))
lines_at (l ∷ links) [] k link arc low has = absurd cc
lines_at (l ∷ links) (a ∷ arcs) zero link arc low has =
    let same : arc ≡ a = cc in (
      ap (λ (n : ℕ). arc_link_line l n ++ arc_link_lines links arcs) same,
      append-nil (arc_link_line l a) ∙ ap (arc_link_line l) (sym same),
    )
lines_at (l ∷ links) (a ∷ arcs) (suc k) link arc low has =
    let (apart, more) = lines_at links arcs k link arc (omega (arith, low)) has in
    let front = arc_link_line l a in
    let before = arc_link_lines (take k links) arcs in
    let own = arc_link_line (get_or links k link) arc in (
      append_assoc front before (own ++ arc_link_lines (drop (suc k) links) (drop (suc k) arcs))
          ∙ ap (λ (text : List ℕ). front ++ text) apart,
      ap (λ (text : List ℕ). front ++ text) more ∙ sym (append_assoc front before own),
    )

-- Where there is no further arc all lines are put.
pub lines_all : (links : List Link) (arcs : List ℕ) (k : ℕ) → slice_get arcs k ≡ None
    → arc_link_lines (take k links) arcs ≡ arc_link_lines links arcs
lines_all [] arcs zero none = refl
lines_all (l ∷ links) [] zero none = refl
lines_all (l ∷ links) (a ∷ arcs) zero none = absurd cc
lines_all (l ∷ links) (a ∷ arcs) (suc k) none =
    ap (λ (text : List ℕ). arc_link_line l a ++ text) (lines_all links arcs k none)
lines_all _ _ _ none = refl

-- The arcs of four sides.
abbrev around : (sides : List (List SideArc)) → List ℕ
around sides = map (λ (used : SideArc). used.arc)
    (get_or sides 0 [] ++ get_or sides 1 [] ++ get_or sides 2 [] ++ get_or sides 3 [])

abbrev items_of : (side : Side) → List SideArc
items_of side = side.arcs.items

four_round : (four : List Side) → length four ≡ 4 → arcs_of four ≡ around (map items_of four)
four_round (s ∷ e ∷ n ∷ w ∷ []) many = simp (append_assoc, append-nil, map-append)
four_round _ many = absurd (omega (arith, many))

module _ (t : TMesh) (here : Layout) (same : layout_of t ≡ here) (is : IsSomeLayout here) (p : ℕ)
    (low : p < length here.patches) where
  -- A block has its sides.
  pub sides_low : p < length t.sides.items
  sides_low =
      let many = length-map t.sides.items (map items_of) in
      omega (arith, is.laid.sided, ap (λ (q : Layout). length q.sides) same)

  -- Their arcs are those around it.
  pub arcs_round : (four : List Side) → four ≡ get_or t.sides.items p four → arcs_of four ≡ arcs_around here p
  arcs_round four read =
      let found : get_or (map (map items_of) t.sides.items) p [] ≡ map items_of four =
      get_or-map (map items_of) t.sides.items p four [] sides_low ∙ ap (map items_of) (sym read) in
      let sides = ap (λ (q : Layout). length (get_or q.sides p [])) same in
      let all = ap (λ (xs : List (List SideArc)). length xs) found in
      four_round four (omega (arith, is.laid.four p low, length-map four items_of))
      ∙ sym (ap around found) ∙ ap (λ (q : Layout). arcs_around q p) same
