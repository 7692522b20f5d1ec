-- Keys stay low through each step, where the edges at new outer blossoms and the new inner sets get theirs anew.
use Rattle.std.proofs.Common.{rules, ◌≡◌, ◌≢◌, ℕ, ◌*◌, ◌<◌, ◌≤◌, Bool, true, false, cond, eqb, List, length, get_or}
use Rattle.std.proofs.Common.{Option, Some, None, pos, ◌-ℤ◌, ◌*ℤ◌, ◌⊎◌, refl, sym, ◌∙◌, ap, inl, inr, arith}
use Rattle.std.proofs.lemmas.Bool.{cases_eq, cases_lt, cases_Bool, eq-eqb, ne_eqb, eqb-true}
use Rattle.def_matching.specs.Matching.{WeightedGraph, IsGraph, edge_at}
use Rattle.def_forest.specs.declared.kinds.Label.TheVariants.{Outer, Inner, Outside}
use Rattle.def_forest.specs.{Darts.darts_of, Darts.far, Forests.Forest, Forests.set_at, Shrunk.IsShrinking, Steps.grown}
use Rattle.def_forest.specs.{Steps.rooted, Tables.slack_of, Valid.IsValid, declared.kinds.Label.Label}
use Rattle.def_forest.specs.Opened.{Opening, IsOpening, IsOpened}
use Rattle.forest_laws.proofs.{Bounds.are_darts, Levels.tree_cases, Grows.set_here, Grows.set_there, Shifts.same_load}
use Rattle.search_laws.specs.Keys.{no_key, edge_key_by, set_of, leaf_of, true_key, AreLow, IsMended}
use Rattle.{std.specs.Int.RustNames.unsigned_abs, search_laws.proofs.Keys.at_edge, search_laws.proofs.Keys.at_set}
use Rattle.{forest_laws.proofs.Expands.Expansion, forest_laws.proofs.Shrinks.Shrink, search_laws.specs.Keys.AreRightAt}
use Rattle.forest_laws.proofs.Shrinks as shrinks
use Rattle.forest_laws.proofs.Expands as expands

-- An end of an edge has the label that it had, or is inner now.
abbrev pub IsQuiet : (f new : Forest) (w : ℕ) → Type 0
IsQuiet f new w = (new.label (new.out w) ≡ f.label (f.out w)) ⊎ (new.label (new.out w) ≡ Inner)

quiet_key : {a b c d : Label} (s t : Bool) (slack risen : ℕ) → (c ≡ a) ⊎ (c ≡ Inner) → (d ≡ b) ⊎ (d ≡ Inner)
    → (a ≡ Outer → s ≡ true → t ≡ true) → edge_key_by a b s slack risen ≤ edge_key_by c d t slack risen
quiet_key s t slack risen x y on = grind arith

inner_cases : (l : Label) → (l ≡ Inner) ⊎ (l ≢ Inner)
inner_cases l = grind arith

-- The edges at vertex w have the keys that they ought to have.
abbrev pub AreRight : (g : WeightedGraph) (f : Forest) (risen : ℕ) (keys : List ℕ) (w : ℕ) → Type 0
AreRight g f risen keys w = (e : ℕ) → e < length g.edges → ((edge_at g e).u ≡ w) ⊎ ((edge_at g e).v ≡ w)
    → get_or keys e 0 ≡ true_key g f risen e

-- A set that is inner was, with the same weight, or has the key that it ought to have.
abbrev pub IsSetRight : (g : WeightedGraph) (f new : Forest) (risen : ℕ) (keys : List ℕ) (b : ℕ) → Type 0
IsSetRight g f new risen keys b = ((f.label b ≡ Inner) × (new.weight b ≡ f.weight b))
    ⊎ (get_or keys (leaf_of g b) 0 ≡ true_key g new risen (leaf_of g b))

-- What a step changes at the ends of edges and at sets.
pub record IsTurned (g : WeightedGraph) (f new : Forest) (risen : ℕ) (keys : List ℕ) : Type 0 where
  pub slacks : (e : ℕ) → e < length g.edges → slack_of g new e ≡ slack_of g f e
  pub ends : (w : ℕ) → w < g.n → IsQuiet f new w ⊎ AreRight g new risen keys w
  pub same : (u v : ℕ) → u < g.n → v < g.n → f.label (f.out u) ≡ Outer → f.out u ≡ f.out v → new.out u ≡ new.out v
  pub sets : (b : ℕ) → g.n ≤ b → new.label b ≡ Inner → IsSetRight g f new risen keys b

-- Keys stay low.
pub stay_low : {g : WeightedGraph} → IsGraph g → {f new : Forest} {risen : ℕ} {old keys : List ℕ} → AreLow g f risen old
    → IsMended g new risen old keys → IsTurned g f new risen keys → AreLow g new risen keys
stay_low {g} is {f} {new} {risen} {old} {keys} low mended turned k l = elim (mended.each k) [
  | inl e ↦ omega arith
  | inr same ↦ (let was : get_or keys k 0 ≤ true_key g f risen k = omega (arith, low k (omega (arith, mended.size))) in
      elim (cases_lt k (length g.edges)) [
        | inl le ↦ elim (turned.ends (edge_at g k).u (is.left k le)) [
          | inr right ↦ omega (arith, right k le (inl refl))
          | inl qu ↦ elim (turned.ends (edge_at g k).v (is.right k le)) [
            | inr right ↦ omega (arith, right k le (inr refl))
            | inl qv ↦ omega (arith, at_ends le qu qv)
          ]
        ]
        | inr he ↦ (let b = set_of g k in
            let leaf : leaf_of g b ≡ k = omega arith in
            rw (at_set g new risen k he) (search rules))
      ])
]
  where
    at_ends : k < length g.edges → IsQuiet f new (edge_at g k).u → IsQuiet f new (edge_at g k).v
        → true_key g f risen k ≤ true_key g new risen k
    at_ends le qu qv =
        let u = (edge_at g k).u in
        let v = (edge_at g k).v in
        rw (at_edge g f risen k le, at_edge g new risen k le, turned.slacks k le) (quiet_key (eqb (f.out u) (f.out v))
        (eqb (new.out u) (new.out v)) (unsigned_abs (slack_of g f k)) risen qu qv (λ outer on. eq-eqb (new.out u)
        (new.out v) (turned.same u v (is.left k le) (is.right k le) outer (eqb-true (f.out u) (f.out v) on))))

-- No key is above the one where nothing happens.
pub true_key_low : (g : WeightedGraph) (f : Forest) (risen k : ℕ) → true_key g f risen k ≤ no_key
true_key_low g f risen k = grind arith

-- The edges at a vertex of a set of vertices.
right_at : (g : WeightedGraph) (f : Forest) (risen : ℕ) (keys : List ℕ) (set : ℕ → Bool) {w : ℕ}
    → AreRightAt g f risen keys set → set w ≡ true → AreRight g f risen keys w
right_at g f risen keys set right on e l either = grind arith

-- A vertex is held by its outermost blossom.
pub held_out : (g : WeightedGraph) {f : Forest} {root : Option ℕ} → IsValid (darts_of g) f root → (w : ℕ) → w < g.n
    → f.holds (f.out w) w ≡ true
held_out g {f} valid w l = valid.outermost.held w w l l ∙ eq-eqb (f.out w) (f.out w) refl

-- Where no tree stands nothing happens.
pub idle_low : (g : WeightedGraph) (f : Forest) (risen : ℕ) (keys : List ℕ) → ((b : ℕ) → f.label b ≡ Outside)
    → ((k : ℕ) → k < length keys → get_or keys k 0 ≤ no_key) → AreLow g f risen keys
idle_low g f risen keys outside few k l = grind (arith, few k l, outside)

-- A tree begins.
pub rooted_turned : (g : WeightedGraph) {f : Forest} (b risen : ℕ) (keys : List ℕ) → IsValid (darts_of g) f None
    → AreRightAt g (rooted f b) risen keys (f.holds b) → IsTurned g f (rooted f b) risen keys
rooted_turned g {f} b risen keys valid right = record {
  slacks = λ e l. refl;
  ends = λ w l. elim (cases_eq (f.out w) b) [
    | inl e ↦ inr (right_at g (rooted f b) risen keys (f.holds b) right (rw e at (held_out g valid w l)))
    | inr ne ↦ inl (inl (set_there f.label b (f.out w) Outer ne))
  ];
  same = λ u v lu lv outer e. e;
  sets = λ x h inner. absurd (grind (arith, valid.no_tree refl x));
}

-- A tree grows.
module _ (g : WeightedGraph) (f : Forest) (root : Option ℕ) (valid : IsValid (darts_of g) f root) (d m risen : ℕ)
    (keys : List ℕ) (mate : f.mate (f.out (far (darts_of g) d)) ≡ Some m) where
  abbrev inn : ℕ
  inn = f.out (far (darts_of g) d)

  abbrev outer : ℕ
  outer = f.out (far (darts_of g) m)

  pub grown_turned : AreRightAt g (grown (darts_of g) f d m) risen keys (f.holds outer)
      → (g.n ≤ inn → get_or keys (leaf_of g inn) 0 ≡ true_key g (grown (darts_of g) f d m) risen (leaf_of g inn))
      → IsTurned g f (grown (darts_of g) f d m) risen keys
  grown_turned right leaf =
      let other = λ (x : ℕ) (nu : x ≢ outer) (ni : x ≢ inn). set_there (set_at f.label inn Inner) outer x Outer nu
      ∙ set_there f.label inn x Inner ni in
      record {
        slacks = λ e l. refl;
        ends = λ w l. elim (cases_eq (f.out w) outer) [
          | inl e ↦ inr (right_at g (grown (darts_of g) f d m) risen keys (f.holds outer) right
              (rw e at (held_out g valid w l)))
          | inr nu ↦ elim (cases_eq (f.out w) inn) [
            | inl e ↦ inl (inr (rw (ne_eqb (f.out w) outer nu, eq-eqb (f.out w) inn e)))
            | inr ni ↦ inl (inl (other (f.out w) nu ni))
          ]
        ];
        same = λ u v lu lv on e. e;
        sets = λ x h inner. elim (cases_eq x outer) [
          | inl e ↦ absurd (cc (set_here (set_at f.label inn Inner) outer Outer))
          | inr nu ↦ elim (cases_eq x inn) [
            | inl e ↦ inr (rw e (leaf (rw e at h)))
            | inr ni ↦ inl (sym (other x nu ni) ∙ inner, refl)
          ]
        ];
      }

-- A cycle becomes one blossom.
module _ {g : WeightedGraph} (is : IsGraph g) {f new : Forest} {root after : Option ℕ} {d : ℕ}
    (valid : IsValid (darts_of g) f root) (s : IsShrinking (darts_of g) f new root after d) where
  pub shrink : Shrink (darts_of g) f s.r new s.inside s.top s.set s.top s.many
  shrink = search (are_darts is, rw s.old_root at valid)

  pub shrunk_on : (w : ℕ) → w < g.n → s.inside (f.out w) ≡ true → new.out w ≡ s.set
  shrunk_on = shrinks.out_on shrink

  pub shrunk_off : (w : ℕ) → w < g.n → s.inside (f.out w) ≡ false → new.out w ≡ f.out w
  shrunk_off = shrinks.out_off shrink

  pub shrunk_set : new.label s.set ≡ Outer
  shrunk_set = shrinks.label_b shrink

  pub shrunk_label : (x : ℕ) → x ≢ s.set → s.inside x ≡ false → new.label x ≡ f.label x
  shrunk_label = shrinks.label_off shrink

  -- A blossom on the cycle was outer or inner.
  pub on_cycle : (x : ℕ) → s.inside x ≡ true → (f.label x ≡ Outer) ⊎ (f.label x ≡ Inner)
  on_cycle x on = tree_cases (f.label x) (s.cycle.in_tree x on)

  -- No blossom becomes inner.
  pub shrunk_inner : (x : ℕ) → new.label x ≡ Inner → f.label x ≡ Inner
  shrunk_inner x inner = elim (cases_eq x s.set) [
    | inl e ↦ absurd (cc shrunk_set)
    | inr ne ↦ elim (cases_Bool (s.inside x)) [
      | inl on ↦ absurd (cc (shrinks.label_on shrink x on))
      | inr off ↦ sym (shrunk_label x ne off) ∙ inner
    ]
  ]

  pub shrunk_turned : (risen : ℕ) (keys : List ℕ) → ((p : ℕ) → s.inside p ≡ true → f.label p ≡ Inner
      → AreRightAt g new risen keys (new.holds p)) → IsTurned g f new risen keys
  shrunk_turned risen keys right = record {
    slacks = λ e l. ap (λ x. (pos 2 *ℤ (edge_at g e).cost) -ℤ x) (same_load (are_darts is) (shrinks.changes shrink)
        (edge_at g e).u (edge_at g e).v (is.left e l) (is.right e l));
    ends = λ w l. elim (cases_Bool (s.inside (f.out w))) [
      | inl on ↦ elim (on_cycle (f.out w) on) [
        | inl outer ↦ inl (inl (ap new.label (shrunk_on w l on) ∙ shrunk_set ∙ sym outer))
        | inr inner ↦ (let held = s.shrunk.holds_old (f.out w) w (s.unused.no_out w l) l ∙ held_out g valid w l in
            search rules)
      ]
      | inr off ↦ inl (inl (ap new.label (shrunk_off w l off) ∙ shrunk_label (f.out w) (s.unused.no_out w l) off))
    ];
    same = λ u v lu lv on e. s.shrunk.out u lu ∙ (ap (λ x. cond (s.inside x) s.set x) e ∙ sym (s.shrunk.out v lv));
    sets = λ x h inner. inl (shrunk_inner x inner, s.shrunk.weight x);
  }

-- An inner set is opened.
module _ {g : WeightedGraph} (is : IsGraph g) {f new : Forest} {r : ℕ} {o : Opening}
    (valid : IsValid (darts_of g) f (Some r)) (opening : IsOpening (darts_of g) f o)
    (opened : IsOpened (darts_of g) f new o) where
  pub expansion : Expansion (darts_of g) f r new o
  expansion = record { are = are_darts is; valid = valid; tree = valid.tree r refl; opening = opening; is = opened }

  pub opened_old : (w : ℕ) → w < g.n → f.out w ≢ o.b → new.out w ≡ f.out w
  opened_old = expands.out_old expansion

  -- A blossom beside the opened one stays as it was.
  pub opened_label : (w : ℕ) → w < g.n → f.out w ≢ o.b → new.label (f.out w) ≡ f.label (f.out w)
  opened_label w l ne = (opened.others (f.out w) (expands.out_not_part expansion w l ne)).label

  -- An inner blossom is a part of the opened one, or was inner.
  pub opened_inner : (x : ℕ) → new.label x ≡ Inner → ((j : ℕ) × (j ≤ 2 * o.half) × (o.q j ≡ x)) ⊎ (f.label x ≡ Inner)
  opened_inner x inner = elim (expands.place expansion x) [
    | inl e ↦ absurd (cc opened.gone.0)
    | inr (inl p) ↦ inl p
    | inr (inr ne) ↦ inr (sym (opened.others x ne).label ∙ inner)
  ]

  pub opened_turned : (risen : ℕ) (keys : List ℕ) → ((j : ℕ) → j ≤ 2 * o.half → new.label (o.q j) ≢ Inner → AreRightAt g
      new risen keys (new.holds (o.q j))) → ((j : ℕ) → j ≤ 2 * o.half → new.label (o.q j) ≡ Inner → g.n ≤ o.q j
      → get_or keys (leaf_of g (o.q j)) 0 ≡ true_key g new risen (leaf_of g (o.q j))) → IsTurned g f new risen keys
  opened_turned risen keys right leaves = record {
    slacks = λ e l. ap (λ x. (pos 2 *ℤ (edge_at g e).cost) -ℤ x) (same_load (are_darts is) (expands.changes expansion)
        (edge_at g e).u (edge_at g e).v (is.left e l) (is.right e l));
    ends = λ w l. elim (cases_eq (f.out w) o.b) [
      | inl e ↦ (let p = opening.part_of w l e in
          elim (inner_cases (new.label (o.q p.0))) [
            | inl inner ↦ inl (inr (ap new.label (expands.out_in expansion w l e ∙ sym p.2) ∙ inner))
            | inr ne ↦ (let held = opened.holds (o.q p.0) w (opening.parts p.0 p.1).1 l ∙ opening.held w p.0 l e p.1
                ∙ eq-eqb (o.part w) (o.q p.0) (sym p.2) in
                inr (right_at g new risen keys (new.holds (o.q p.0)) (right p.0 p.1 ne) held))
          ])
      | inr ne ↦ search (rules, opened_old, opened_label)
    ];
    same = λ u v lu lv outer e. (let not_b : f.out u ≢ o.b = λ x. cc opening.label in
        opened_old u lu not_b ∙ e ∙ sym (opened_old v lv (λ x. not_b (e ∙ x))));
    sets = λ x h inner. elim (opened_inner x inner) [
      | inl p ↦ inr (rw (← p.2) (leaves p.0 p.1 (ap new.label p.2 ∙ inner) (rw p.2 h)))
      | inr was ↦ inl (was, opened.weight x)
    ];
  }
