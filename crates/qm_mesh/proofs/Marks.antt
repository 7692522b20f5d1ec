-- The pass over the vertices that pairs darts: each step keeps what the loops know.
use Rattle.std.proofs.Common.{rules, ◌≡◌, ◌≢◌, ℕ, ◌+◌, ◌<◌, ◌≤◌, List, length, get_or, set, Option, Some, None, sym, ap}
use Rattle.std.proofs.Common.{◌∙◌, inl, inr, arith, ◌⊎◌, suc, Bool, true, false, not, subst}
use Rattle.std.proofs.{lemmas.List.get_or-set_same, lemmas.List.get_or-set_other, lemmas.Bool.cases_eq}
use Rattle.std.proofs.{lemmas.Grind.common_steps, lemmas.Option.same_Some}
use Rattle.def_mesh.specs.{Faces.Faces, Darts.darts, Darts.from_of, Darts.to_of, Darts.prev_of, Manifold.IsSameEdge}
use Rattle.qm_mesh.specs.Pairs.{IsPartner, Runs, IsTwice, NoneTwice, IsFirstAt, IsFirstBelow, MarksOne, IsEarlier}
use Rattle.qm_mesh.specs.Turns.{beside_of, IsSeen, Reaches, IsClosed, IsBehind, IsWalk, IsVisit}
use Rattle.{qm_mesh.specs.declared.twins.Doubled.Doubled, std.specs.Option.option_or, list_laws.proofs.Filters.last_or}
use Rattle.mesh_laws.proofs.Chains.{IsFan, earlier_place}

-- At the end of d stands a dart that runs from v to it, and is at most d.
pub record IsMark (faces : Faces) (v : ℕ) (by_end : List ℕ) (d : ℕ) : Type 0 where
  pub runs : Runs faces (get_or by_end (to_of faces d) 0) v (to_of faces d)
  pub least : get_or by_end (to_of faces d) 0 ≤ d

-- The first two darts along one edge among the first i of the fan.
abbrev pub FirstBefore : Faces → ℕ → List ℕ → ℕ → Option Doubled → Type 0
FirstBefore faces v fan i None = (j t : ℕ) → t < i → j < get_or fan t 0 → from_of faces j ≡ v
    → ¬ IsSameEdge faces j (get_or fan t 0)
FirstBefore faces v fan i (Some p) = IsTwice faces p.earlier p.later × NoneTwice faces v p.later

-- The first i darts of the fan of v have been taken.
pub record AreMarkedBefore (faces : Faces) (v : ℕ) (fan : List ℕ) (i : ℕ) (by_end : List ℕ)
    (twice : Option Doubled) : Type 0 where
  pub marks : (t : ℕ) → t < i → IsMark faces v by_end (get_or fan t 0)
  pub first : FirstBefore faces v fan i twice

-- One dart more of the fan.
module _ {faces : Faces} {v : ℕ} {fan : List ℕ} (h : IsFan faces v fan) {i : ℕ} (old new : List ℕ) (l : i < length fan)
    (marks : (t : ℕ) → t < i → IsMark faces v old (get_or fan t 0)) where
  pub marks_more : (found : Option Doubled) → MarksOne faces v (get_or fan i 0) old new found
      → to_of faces (get_or fan i 0) < length old → (t : ℕ) → t < i + 1 → IsMark faces v new (get_or fan t 0)
  marks_more None m low t k =
      let d = get_or fan i 0 in
      let e = get_or fan t 0 in
      rw m.0 (elim (last_or i t k) [
        | inr s ↦
            let g : get_or (set old (to_of faces d) d) (to_of faces d) 0 ≡ d = get_or-set_same old _ _ 0 low in
            rw s (record { runs = (ap (from_of faces) g ∙ h.leaves i l, ap (to_of faces) g); least = omega (arith, g) })
        | inl b ↦ let was = marks t b in elim (cases_eq (to_of faces e) (to_of faces d)) [
          | inl s ↦ absurd (m.1 (omega (arith, ap (λ x. get_or old x 0) s, was.least, h.increasing t i b l))
              (rw (← s) was.runs))
          | inr ne ↦ let g = get_or-set_other old (to_of faces d) (to_of faces e) d 0 ne in
              record { runs = rw g was.runs; least = omega (arith, g, was.least) }
        ]
      ])
  marks_more (Some q) m low t k = rw m.0 (elim (last_or i t k) [
    | inl b ↦ marks t b
    | inr s ↦ rw s (record { runs = rw (← m.1) m.4; least = omega (arith, m.1, m.3) })
  ])

  pub first_more : (twice found : Option Doubled) → MarksOne faces v (get_or fan i 0) old new found
      → FirstBefore faces v fan i twice → FirstBefore faces v fan (i + 1) (option_or twice found)
  first_more (Some p) found m is = is
  first_more None None m none = λ j t k. elim (last_or i t k) [
    | inl b ↦ none j t b
    | inr s ↦ rw s (λ low start same.
        let p = earlier_place faces v fan h i j l low start in
        let e : to_of faces (get_or fan p.0 0) ≡ to_of faces (get_or fan i 0) = ap (to_of faces) p.2 ∙ same.1 in
        m.1 (omega (arith, ap (λ x. get_or old x 0) e, p.2, (marks p.0 p.1).least)) (rw (← e) (marks p.0 p.1).runs))
  ]
  first_more None (Some q) m none = (
    record {
      before = omega (arith, m.2, m.3);
      is_dart = omega (arith, m.2, h.dart i l);
      same = rw m.2 (m.4.0 ∙ sym (h.leaves i l), m.4.1);
    },
    λ j k less below start same.
        let p = earlier_place faces v fan h i k l (omega (arith, m.2)) (sym same.0 ∙ start) in
        none j p.0 p.1 (omega (arith, p.2)) start (rw p.2 same),
  )

-- The whole fan has been taken.
pub first_of_all : {faces : Faces} {v i : ℕ} {fan by_end : List ℕ} {twice : Option Doubled} → IsFan faces v fan
    → length fan ≤ i → AreMarkedBefore faces v fan i by_end twice → IsFirstAt faces v twice
first_of_all {twice = Some p} h l b = b.first
first_of_all {twice = None} h l b = λ j k less below start same.
    let p = h.place k below (sym same.0 ∙ start) in
    b.first j p.0 (omega (arith, p.1)) (omega (arith, p.2)) start (rw p.2 same)

-- The darts that arrive before the first i corners of v have their partners, and no dart that ends elsewhere changed.
pub record ArePairedBefore (faces : Faces) (v : ℕ) (fan : List ℕ) (i : ℕ) (old new : List ℕ) : Type 0 where
  pub each : (t : ℕ) → t < i → IsPartner faces (prev_of (get_or fan t 0)) (get_or new (prev_of (get_or fan t 0)) 0)
  pub others : (e : ℕ) → to_of faces e ≢ v → get_or new e 0 ≡ get_or old e 0

-- The partner of the dart before the corner at place i is written.
pub pair_more : (faces : Faces) (v : ℕ) (fan : List ℕ) (i : ℕ) (old now : List ℕ) (e t : ℕ)
    → e ≡ prev_of (get_or fan i 0) → e < length now → to_of faces e ≡ v → IsPartner faces e t
    → ArePairedBefore faces v fan i old now → ArePairedBefore faces v fan (i + 1) old (set now e t)
pair_more faces v fan i old now e t is_prev low ends is b = record {
  each = λ s k. elim (cases_eq (prev_of (get_or fan s 0)) e) [
    | inl q ↦ rw (q, get_or-set_same now e t 0 low) is
    | inr ne ↦ rw (get_or-set_other now e (prev_of (get_or fan s 0)) t 0 ne) (elim (last_or i s k) [
      | inl l ↦ b.each s l
      | inr q ↦ absurd (ne (ap (λ x. prev_of (get_or fan x 0)) q ∙ sym is_prev))
    ])
  ];
  others = λ d ne. get_or-set_other now e d t 0 (λ s. ne (ap (to_of faces) s ∙ ends)) ∙ b.others d ne;
}

-- One vertex more, and no more darts than before.
one_more : (faces : Faces) (v top m n : ℕ) → top ≤ m → top ≤ n → ((u : ℕ) → u < v → NoneTwice faces u m)
    → NoneTwice faces v n → (u : ℕ) → u < v + 1 → NoneTwice faces u top
one_more faces v top m n less fewer before here u l j k order low = elim (last_or v u l) [
  | inl b ↦ before u b j k order (omega arith)
  | inr s ↦ rw s (here j k order (omega arith))
]

pub lesser_first : (faces : Faces) (v : ℕ) (a b c : Option Doubled) → IsFirstBelow faces v a → IsFirstAt faces v b
    → IsEarlier a b c → IsFirstBelow faces (v + 1) c
lesser_first faces v None None c below here e =
    rw e (one_more faces v (darts faces) (darts faces) (darts faces) (omega arith) (omega arith) below here)
lesser_first faces v None (Some q) c below here e = rw e
    (here.0, one_more faces v q.later (darts faces) q.later (omega (arith, here.0.is_dart)) (omega arith) below here.1)
lesser_first faces v (Some p) None c below here e = rw e
    (below.0, one_more faces v p.later p.later (darts faces) (omega arith) (omega (arith, below.0)) below.1 here)
lesser_first faces v (Some p) (Some q) c below here (inl e) = rw e.1
    (here.0, one_more faces v q.later p.later q.later (omega (arith, e.0)) (omega arith) below.1 here.1)
lesser_first faces v (Some p) (Some q) c below here (inr e) = rw e.1
    (below.0, one_more faces v p.later p.later q.later (omega arith) (omega (arith, e.0)) below.1 here.1)

-- Walks round a vertex: what stays so as a walk goes on, and two of them together.

-- The walk stands at a corner, and only what is beside that may lack its mark.
pub record IsWalkSoFar (left : Bool) (twins : List ℕ) (start at : ℕ) (old now : List Bool) : Type 0 where
  pub low : at < length twins
  pub here : IsSeen now at
  pub came : (n : ℕ) × Reaches twins start at n
  pub grown : (d : ℕ) → IsSeen old d → IsSeen now d
  pub start_closed : at ≢ start → IsClosed left twins now start
  pub closed : (d : ℕ) → d ≢ at → IsSeen now d → get_or old d false ≡ false → IsClosed left twins now d
  pub behind : (d : ℕ) → IsSeen now d → get_or old d false ≡ false → IsBehind left twins now d
  pub reached : (d : ℕ) → IsSeen now d → get_or old d false ≡ false → (n : ℕ) × Reaches twins start d n

-- A mark more.
seen_more : (now : List Bool) (e d : ℕ) → IsSeen now d → IsSeen (set now e true) d
seen_more now e d s = grind (arith, common_steps)

-- A mark after the new one was there, or is the new one.
seen_before : (now : List Bool) (e d : ℕ) → IsSeen (set now e true) d → (d ≡ e) ⊎ IsSeen now d
seen_before now e d s = grind (arith, common_steps)

pub walk_more : (left : Bool) (twins : List ℕ) (start at e : ℕ) (old now : List Bool)
    → IsWalkSoFar left twins start at old now → e < length twins → e < length now → beside_of left twins at ≡ Some e
    → get_or now e false ≡ false → IsWalkSoFar left twins start e old (set now e true)
walk_more left twins start at e old now w low lies b unseen =
    let here = get_or-set_same now e true false lies in
    let at_closed : IsClosed left twins (set now e true) at =
    λ k c. subst (λ (x : ℕ). IsSeen (set now e true) x) (same_Some e k (sym b ∙ c)) here in
    let wider = λ (d : ℕ) (c : IsClosed left twins now d) (k : ℕ) (s : beside_of left twins d ≡ Some k).
    seen_more now e k (c k s) in
    record {
      low = low;
      here = here;
      came = (suc w.came.0, (at, w.came.1, (left, b)));
      grown = λ d s. seen_more now e d (w.grown d s);
      start_closed = λ ne. elim (cases_eq at start) [
        | inl q ↦ rw (← q) at_closed
        | inr other ↦ wider start (w.start_closed other)
      ];
      closed = λ d ne s o. elim (seen_before now e d s) [
        | inl q ↦ absurd (ne q)
        | inr s ↦ elim (cases_eq d at) [ inl q ↦ rw q at_closed | inr other ↦ wider d (w.closed d other s o) ]
      ];
      behind = λ d s o. elim (seen_before now e d s) [
        | inl q ↦ (at, seen_more now e at w.here, b ∙ ap Some (sym q))
        | inr s ↦ let h = w.behind d s o in (h.0, seen_more now e h.0 h.1, h.2)
      ];
      reached = λ d s o. elim (seen_before now e d s) [
        | inl q ↦ (suc w.came.0, (at, w.came.1, (left, b ∙ ap Some (sym q))))
        | inr s ↦ w.reached d s o
      ];
    }

-- A walk to each side from the first corner.
pub visit_both : (twins : List ℕ) (first : ℕ) (old one two : List Bool) → first < length old → get_or old first false
    ≡ false → IsWalk true twins first (set old first true) one → IsWalk false twins first one two
    → IsVisit twins first old two
visit_both twins first old one two low unseen l r = record {
  grown = λ d s. r.grown d (l.grown d (seen_more old first d s));
  started = r.grown first (l.grown first (get_or-set_same old first true false low));
  closed = closed;
  reached = λ d s o. elim (when d o) [
    | inl q ↦ (0, sym q)
    | inr later ↦ elim later [ inl b ↦ l.reached d b.0 b.1 | inr a ↦ r.reached d s a ]
  ];
}
  where
    -- It is the first, or marked by the one walk, or by the other.
    when : (d : ℕ) → get_or old d false ≡ false
        → (d ≡ first) ⊎ (IsSeen one d × (get_or (set old first true) d false ≡ false) ⊎ (get_or one d false ≡ false))
    when d o = search rules

    closed : (side : Bool) (d : ℕ) → IsSeen two d → get_or old d false ≡ false
        → IsClosed side twins two d ⊎ IsBehind (not side) twins two d
    closed true d s o = elim (when d o) [
      | inl q ↦ inl (rw q (λ e b. r.grown e (l.start_closed e b)))
      | inr later ↦ elim later
          [ inl b ↦ inl (λ e t. r.grown e (l.closed d b.0 b.1 e t)) | inr a ↦ inr (r.behind d s a) ]
    ]
    closed false d s o = elim (when d o) [
      | inl q ↦ inl (rw q r.start_closed)
      | inr later ↦ elim later [
        | inl b ↦ let h = l.behind d b.0 b.1 in inr (h.0, r.grown h.0 h.1, h.2)
        | inr a ↦ inl (r.closed d s a)
      ]
    ]
