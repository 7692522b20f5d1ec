-- What is told is what was told before, and more.
use Rattle.std.proofs.Common.{◌⊎◌, ◌↔◌, ℕ, ◌+◌, ◌<◌, inl, inr, subst, arith, ◌≡◌, ◌≢◌, ◌*◌, ◌/◌, ◌%◌, ◌^◌, ◌≤◌, List}
use Rattle.std.proofs.Common.{rules, Bool, true, false, length, get_or, refl, sym, ◌∙◌, ap}
use Rattle.std.proofs.lemmas.{List.get_or-map, List.get_or_default, List.length-map, Bool.cases_lt}
use mathlib.Core.{Logic.∥∥₁_elim, HLevel.⊥_prop}
use Rattle.def_layout.specs.{Layouts.Layout, Layouts.gluing_of, Lengths.Lengths, Lengths.AreLengths, Surfaces.IsSurface}
use Rattle.def_layout.specs.Gluings.{Way, east, north, Gluing}
use Rattle.def_written.specs.{Edges.IsUndoubled, Edges.IsFirstDoubled, Numbers.vertex_number, Points.inside}
use Rattle.def_written.specs.Edges.{Edge, on_arc, flat, steep, IsEdge, edge_start, edge_end, HasEnds, IsDoubledAt}
use Rattle.written_laws.proofs.{EdgeNumbers.number_low, EdgeNumbers.number_same, Courses.edge_points}
use Rattle.written_laws.proofs.Borders.{hub, spoke, tip, tip_column, tip_row, tip_low, one_way, hub_edge, loop_at}
use Rattle.written_laws.proofs.Borders.{point_sort, spoke_joins, Inner, Joins}
use Rattle.qm_stitch.proofs.RimEdges.{all_edges, deep_or_listed, fresh_rim, IsDeep}
use Rattle.qm_stitch.specs.Rims.{key_of, keys_of, rim_edges, IsLeastRepeat, IsRepeat}
use Rattle.{def_remesh.specs.declared.tables.Tables.Tables, std.specs.Coded.×_prop, std.specs.Coded.le_prop}
use Rattle.{def_remesh.specs.NewPoints.lengths_in, qm_stitch.specs.Numbered.AreTables, qm_stitch.specs.Tight.IsDoubled}

-- No more is; there was none before; the same is said in other words; more is told, and more again; what a turn adds,
-- and what the last one leaves.
pub told_none : {A P : Type 0} → ¬ P → A ↔ (A ⊎ P)
told_none none = grind arith

pub told_all : {A B P : Type 0} → ¬ A → B ↔ (A ⊎ P) → B ↔ P
told_all none told = grind arith

pub told_so : {A B P Q : Type 0} → B ↔ (A ⊎ P) → P ↔ Q → B ↔ (A ⊎ Q)
told_so told so = grind arith

pub told_both : {A B C P Q : Type 0} → A ↔ P → B ↔ (A ⊎ Q) → (P ⊎ Q) ↔ C → B ↔ C
told_both first second both = grind arith

pub told_first : {A B C : Type 0} {b c : Bool} → (b ≡ true) ↔ A → (c ≡ true) ↔ B → b ≡ false → (A ⊎ B) ↔ C
    → (c ≡ true) ↔ C
told_first first second off both = grind arith

pub told_more : {A B C P Q R : Type 0} → B ↔ (A ⊎ P) → C ↔ (B ⊎ Q) → (P ⊎ Q) ↔ R → C ↔ (A ⊎ R)
told_more first second both = grind arith

pub told_next : {A B C : Type 0} {P : ℕ → Type 0} (n : ℕ) → B ↔ (A ⊎ ((k : ℕ) × (k < n) × P k)) → C ↔ (B ⊎ P n)
    → C ↔ (A ⊎ ((k : ℕ) × (k < n + 1) × P k))
told_next n first second = grind arith

pub told_end : {A B : Type 0} {P : ℕ → Type 0} {m n : ℕ} → m ≡ n → B ↔ (A ⊎ ((k : ℕ) × (k < m) × P k))
    → B ↔ (A ⊎ ((k : ℕ) × (k < n) × P k))
told_end same told = rw (← same) told

-- What repeats among the keys of the listed edges are the doubled pairs.

-- Two pairs of points with the same two numbers are one.
pairs_same : {A : Type 0} (number : A → ℕ) {a b c d p q : A} {u v : ℕ} → (number c ≡ number a → c ≡ a)
    → (number c ≡ number b → c ≡ b) → (number d ≡ number a → d ≡ a) → (number d ≡ number b → d ≡ b)
    → ((number a ≡ u) × (number b ≡ v)) ⊎ ((number a ≡ v) × (number b ≡ u))
    → ((number c ≡ u) × (number d ≡ v)) ⊎ ((number c ≡ v) × (number d ≡ u))
    → ((a ≡ p) × (b ≡ q)) ⊎ ((a ≡ q) × (b ≡ p)) → ((c ≡ p) × (d ≡ q)) ⊎ ((c ≡ q) × (d ≡ p))
pairs_same number ca cb da db first second joins = grind arith

module _ (l : Gluing) (x : Lengths) (laid : IsSurface l) (len : AreLengths l x) where
  -- An edge between two inner points of a patch leads from one to the other.
  deep_hub : (e : Edge) → IsEdge l x e → IsDeep l x e → (p : ℕ) × (i : ℕ) × (j : ℕ) × (way : Way)
      × Inner l x laid len p i j × Inner l x laid len p (tip_column i way) (tip_row j way) × (e ≡ spoke p i j way)
  deep_hub (on_arc a k) is deep = elim deep [ ]
  deep_hub (flat p i j) is deep = (p, i, j, east, (is.0, omega arith), (is.0, omega arith), refl)
  deep_hub (steep p i j) is deep = (p, i, j, north, (is.0, omega arith), (is.0, omega arith), refl)

  -- Two edges with the same ends are one, where one lies between two inner points of a patch.
  deep_alone : (e f : Edge) (u v : ℕ) → IsEdge l x e → IsEdge l x f → HasEnds l x e u v → HasEnds l x f u v
      → IsDeep l x e → e ≡ f
  deep_alone e f u v is_e is_f e_ends f_ends deep =
      let (p, i, j, way, inner, far, is) = deep_hub e is_e deep in
      let a = edge_points l x laid len e is_e in
      let b = edge_points l x laid len f is_f in
      let one = number_same l x in
      let (w, f_is, tips) = hub_edge l x laid len f p i j _ is_f (pairs_same (vertex_number l x)
      (one _ _ b.0 a.0) (one _ _ b.0 a.1) (one _ _ b.1 a.0) (one _ _ b.1 a.1) e_ends f_ends
      (subst (λ (g : Edge). Joins l x g (inside p i j) (tip l x p i j way)) (sym is)
      (spoke_joins l x laid len p i j way inner))) in
      let low = tip_low l x laid _ p i j w inner in
      let at = point_sort l x laid len p _ _ p _ _ inner.0 low.0 low.1 (sym tips ∙ hub l x laid len p _ _ far) in
      search (rules, one_way)

  -- An edge between two inner points has two ends.
  deep_apart : (e : Edge) (u : ℕ) → IsEdge l x e → HasEnds l x e u u → IsDeep l x e → ⊥
  deep_apart e u is ends deep =
      let (p, i, j, way, inner, _, at) = deep_hub e is deep in
      let points = edge_points l x laid len e is in
      loop_at l x laid len e p i j way inner at ((number_same l x _ _ points.0 points.1) (omega (arith, ends)))

module _ {layout : Layout} {t : Tables} (are : AreTables layout t) where
  abbrev l : Gluing
  l = gluing_of layout

  abbrev x : Lengths
  x = lengths_in t.lengths.items

  ends_low : (e : Edge) → IsEdge l x e → (vertex_number l x (edge_start l x e) < 2 ^ 32)
      × (vertex_number l x (edge_end l x e) < 2 ^ 32)
  ends_low e is = ∥∥₁_elim are.laid (×_prop le_prop le_prop) (grind (arith, edge_points l x, number_low l x))

  pub key_ends : (e : Edge) (key : ℕ) → IsEdge l x e → key ≡ key_of l x e
      → (key / 2 ^ 32 ≤ key % 2 ^ 32) × HasEnds l x e (key / 2 ^ 32) (key % 2 ^ 32)
  key_ends e key is same = search (rules, ends_low)

  pub ends_key : (e : Edge) (u v : ℕ) → IsEdge l x e → u ≤ v → HasEnds l x e u v → (key_of l x e ≡ u * 2 ^ 32 + v)
      × (v < 2 ^ 32)
  ends_key e u v is le ends = omega (arith, ends_low e is)

  abbrev keys : List ℕ
  keys = keys_of l x (rim_edges l x)

  keys_long : length keys ≡ length (rim_edges l x)
  keys_long = length-map (rim_edges l x) (key_of l x)

  abbrev edge_at : (k : ℕ) → Edge
  edge_at k = get_or (rim_edges l x) k (on_arc 0 0)

  key_at : (k d : ℕ) → k < length keys → get_or keys k d ≡ key_of l x (edge_at k)
  key_at k d less = get_or-map (key_of l x) (rim_edges l x) k (on_arc 0 0) d (omega (arith, keys_long))

  -- What stands at a place is the key of an edge, with its ends.
  place_tells : (key k d : ℕ) → k < length keys → get_or keys k d ≡ key
      → IsEdge l x (edge_at k) × (key / 2 ^ 32 ≤ key % 2 ^ 32) × HasEnds l x (edge_at k) (key / 2 ^ 32) (key % 2 ^ 32)
  place_tells key k d less at =
      let is = all_edges l x are.whole.paved are.lengths k (on_arc 0 0) (omega (arith, keys_long)) in
      let ends = key_ends (edge_at k) key is (sym at ∙ key_at k d less) in
      (is, ends.0, ends.1)

  -- What repeats is doubled.
  pub repeat_doubled : (key : ℕ) → IsRepeat keys key → IsDoubledAt l x (key / 2 ^ 32) (key % 2 ^ 32)
  repeat_doubled key (inl (same, (k, low, at))) = search (rules, place_tells key k key low)
  repeat_doubled key (inr (i, j, less, low, at_i, at_j)) =
      let (is_i, le, i_ends) = place_tells key i 0 (omega arith) at_i in
      let (is_j, _, j_ends) = place_tells key j 0 low at_j in
      let apart = fresh_rim l x i j (on_arc 0 0) less (omega (arith, low, keys_long)) in
      (le, inr (edge_at i, edge_at j, is_i, is_j, apart, i_ends, j_ends))

  -- An edge between two inner points of a patch is not doubled.
  pub never_deep : (e : Edge) → IsDoubled l x e → ¬ IsDeep l x e
  never_deep e is deep = ∥∥₁_elim are.laid ⊥_prop (λ laid. elim is.doubled.1 [
    | inl loop ↦ deep_apart l x laid are.lengths e is.u is.is (rw (← loop.0) at is.ends) deep
    | inr (f, g, is_f, is_g, apart, f_ends, g_ends) ↦
        let alone = λ (h : Edge) (is_h : IsEdge l x h) (ends : HasEnds l x h is.u is.v).
        deep_alone l x laid are.lengths e h is.u is.v is.is is_h is.ends ends deep in
        apart (cc (alone f is_f f_ends, alone g is_g g_ends))
  ])

  -- So it stands at a place, with its key.
  place_of : (e : Edge) (d : IsDoubled l x e) → (k : ℕ) × (k < length keys) × (edge_at k ≡ e)
      × ((c : ℕ) → get_or keys k c ≡ d.u * 2 ^ 32 + d.v)
  place_of e d = elim (deep_or_listed l x e d.is) [
    | inl deep ↦ absurd (never_deep e d deep)
    | inr (k, less, at) ↦
        let low : k < length keys = omega (arith, less, keys_long) in
        let same = get_or_default (rim_edges l x) k (on_arc 0 0) e less ∙ at in
        (k, low, same, λ c. key_at k c low ∙ ap (key_of l x) same ∙ (ends_key e d.u d.v d.is d.doubled.0 d.ends).0)
  ]

  -- What is doubled repeats.
  pub doubled_repeats : (u v : ℕ) → IsDoubledAt l x u v → IsRepeat keys (u * 2 ^ 32 + v) × (v < 2 ^ 32)
  doubled_repeats u v d = elim d.1 [
    | inl (same, (e, is, ends)) ↦
        let ends_uv = subst (λ w. HasEnds l x e u w) same ends in
        let at = place_of e (record { is = is; u = u; v = v; ends = ends_uv; doubled = d }) in
        grind (arith, ends_key e u v is d.0 ends_uv, at.3 (u * 2 ^ 32 + v))
    | inr (e, f, is_e, is_f, apart, e_ends, f_ends) ↦
        let k = place_of e (record { is = is_e; u = u; v = v; ends = e_ends; doubled = d }) in
        let m = place_of f (record { is = is_f; u = u; v = v; ends = f_ends; doubled = d }) in
        let other : k.0 ≢ m.0 = λ same. apart (sym k.2 ∙ ap edge_at same ∙ m.2) in (
          inr (elim (cases_lt k.0 m.0) [
            | inl less ↦ (k.0, m.0, less, m.1, k.3 0, m.3 0)
            | inr more ↦ (m.0, k.0, omega arith, k.1, m.3 0, k.3 0)
          ]),
          (ends_key e u v is_e d.0 e_ends).1,
        )
  ]

  -- The least that repeats is the least pair.
  pub first_doubled : (key : ℕ) → IsLeastRepeat keys key → IsFirstDoubled l x (key / 2 ^ 32) (key % 2 ^ 32)
  first_doubled key is = record {
    doubled = repeat_doubled key is.is;
    least = λ a b doubled.
        let r = doubled_repeats a b doubled in
        grind (arith, is.least (a * 2 ^ 32 + b) r.0);
  }

  pub none_doubled : ((key : ℕ) → ¬ IsRepeat keys key) → IsUndoubled l x
  none_doubled none u v doubled = none (u * 2 ^ 32 + v) (doubled_repeats u v doubled).0
