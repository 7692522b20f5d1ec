-- Straight runs of a cut from node to node.
use Rattle.std.proofs.Common.{rules, ◌≡◌, ◌⊎◌, ℕ, zero, suc, ◌+◌, ◌-◌, ◌<◌, ◌≤◌, Bool, true, false, Option, Some, None}
use Rattle.std.proofs.Common.{sym, ◌∙◌, ap, refl, inl, inr, arith}
use Rattle.std.proofs.lemmas.Bool.{cases_eq, cases_lt, cases_order}
use Rattle.def_mesh.specs.HalfEdges.{HalfEdges, IsQuadManifold}
use Rattle.def_cut.specs.{Cuts.Cut, Cuts.IsCut, Steps.or_zero, Steps.step_east, Steps.easts}
use Rattle.def_layout.specs.{Arcs.end_vertex, Arcs.IsRun, Nodes.AreNodes}
use Rattle.cut_laws.proofs.{Folds.twin_same, Folds.turn_low, Folds.no_self, Pigeon.comes_back}

-- There is no value, or some.
pub none_or : (o : Option ℕ) → (o ≡ None) ⊎ ((t : ℕ) × (o ≡ Some t))
none_or None = inl refl
none_or (Some t) = inr (t, refl)

-- The cut goes straight on from d to the next dart.
pub record GoesStraight (mesh : HalfEdges) (cut : Cut) (d : ℕ) : Type 0 where
  pub over : mesh.twin (mesh.next d) ≡ Some (mesh.prev (step_east mesh d))
  pub low : step_east mesh d < mesh.count
  pub from : mesh.from (step_east mesh d) ≡ mesh.from (mesh.next d)
  pub on : cut (step_east mesh d) ≡ true

-- The twins of a run the other way round are a run.
pub record IsBack (mesh : HalfEdges) (cut : Cut) (node : ℕ → Bool) (s n r : ℕ) : Type 0 where
  pub run : IsRun mesh cut node r n
  pub twin : (k j : ℕ) → k + suc j ≡ n → mesh.twin (easts mesh s k) ≡ Some (easts mesh r j)

module _ (mesh : HalfEdges) (laws : IsQuadManifold mesh) (cut : Cut) (full : IsCut mesh cut) (node : ℕ
    → Bool) (nodes : AreNodes mesh cut node) where
  -- Where the next dart has a twin.
  straight : (d t : ℕ) → d < mesh.count → mesh.twin (mesh.next d) ≡ Some t → cut (mesh.next t) ≡ true
      → GoesStraight mesh cut d
  straight d t l is on = record {
    over = cc (laws.prev_next t);
    low = rw e (laws.next_low t (laws.twin_low _ t (laws.next_low d l) is));
    from = cc ((laws.twin_ends (mesh.next d) t (laws.next_low d l) is).1);
    on = cc;
  }
    where
      e : step_east mesh d ≡ mesh.next t
      e = ap (λ o. mesh.next (or_zero o)) is

  -- At a vertex that is no node a cut edge goes straight on.
  pub on_from : (d : ℕ) → d < mesh.count → cut d ≡ true → node (end_vertex mesh d) ≡ false → GoesStraight mesh cut d
  on_from d l on inner = elim (none_or (mesh.twin d)) [
    | inl is ↦
        let a = nodes.along d l is inner in
        straight d a.0 l a.1 (full.boundary _ (laws.next_low a.0 (laws.twin_low _ a.0 (laws.next_low d l) a.1)) a.2)
    | inr some ↦ elim (full.gaps d l on) [ inl c ↦ search rules | inr g ↦ straight d g.0 l g.1 g.2 ]
  ]

  -- Straight on is injective.
  pub east_same : (d e : ℕ) → d < mesh.count → e < mesh.count → mesh.twin (mesh.next d)
      ≡ Some (mesh.prev (step_east mesh d)) → mesh.twin (mesh.next e) ≡ Some (mesh.prev (step_east mesh e))
      → step_east mesh d ≡ step_east mesh e → d ≡ e
  east_same d e ld le a b s = search (rules, twin_same)

  -- A walk over inner vertices.
  pub walked : (s i : ℕ) → s < mesh.count → cut s ≡ true → ((k : ℕ) → k < i → node (end_vertex mesh (easts mesh s k))
      ≡ false) → (k : ℕ) → k ≤ i → (easts mesh s k < mesh.count) × (cut (easts mesh s k) ≡ true)
  walked s i l on inner zero h = (l, on)
  walked s i l on inner (suc k) h = search (rules, on_from, walked s i l on inner k (omega arith))

  pub walk_done : (s i : ℕ) → s < mesh.count → cut s ≡ true → node (mesh.from s) ≡ true
      → ((k : ℕ) → k < i → node (end_vertex mesh (easts mesh s k)) ≡ false) → node (end_vertex mesh (easts mesh s i))
      ≡ true → IsRun mesh cut node s (i + 1)
  walk_done s i l on begins inner ends = search (rules, walked)

  pub walk_never : (s i : ℕ) → s < mesh.count → cut s ≡ true → node (mesh.from s) ≡ true
      → ((k : ℕ) → k < i → node (end_vertex mesh (easts mesh s k)) ≡ false) → mesh.count ≤ i → ⊥
  walk_never s i l on begins inner far =
      let low : (k : ℕ) → k ≤ i → easts mesh s k < mesh.count = λ k h. (walked s i l on inner k h).0 in
      let goes : (k : ℕ) → k < i → GoesStraight mesh cut (easts mesh s k) = search (rules, on_from, walked) in
      let r = comes_back _ _ (λ k h. (walked s i l on inner k (omega arith)).0) (search (rules, east_same)) in
      search rules

  -- A run.
  pub run_low : (s n : ℕ) → IsRun mesh cut node s n → (k : ℕ) → k < n → easts mesh s k < mesh.count
  run_low s n run zero l = run.low
  run_low s n run (suc k) l = search (rules, run_low s n run k (omega arith))

  pub run_goes : (s n : ℕ) → IsRun mesh cut node s n → (k : ℕ) → suc k < n → GoesStraight mesh cut (easts mesh s k)
  run_goes s n run k l = on_from _ (run_low s n run k (omega arith)) (run.on k (omega arith)) (run.inside k l)

  pub run_inner : (s n : ℕ) → IsRun mesh cut node s n → (k : ℕ) → suc k < n → node (mesh.from (easts mesh s (suc k)))
      ≡ false
  run_inner s n run k l = ap node (run_goes s n run k l).from ∙ run.inside k l

  -- Two runs with a dart in common are one.
  pub same_place : (s n r m : ℕ) → IsRun mesh cut node s n → IsRun mesh cut node r m → (k j : ℕ) → k < n → j < m
      → easts mesh s k ≡ easts mesh r j → (s ≡ r) × (k ≡ j)
  same_place s n r m one two zero zero lk lj e = (e, refl)
  same_place s n r m one two zero (suc j) lk lj e = absurd (cc (run_inner r m two j lj))
  same_place s n r m one two (suc k) zero lk lj e = absurd (cc (run_inner s n one k lk))
  same_place s n r m one two (suc k) (suc j) lk lj e =
      let before : easts mesh s k ≡ easts mesh r j = east_same _ _ (run_low s n one k (omega arith))
      (run_low r m two j (omega arith)) (run_goes s n one k lk).over (run_goes r m two j lj).over e in
      search (rules, same_place s n r m one two k j (omega arith) (omega arith) before)

  pub same_length : (s n m : ℕ) → IsRun mesh cut node s n → IsRun mesh cut node s m → n ≡ m
  same_length s n m one two = elim (cases_order n m) [
    | inl e ↦ e
    | inr o ↦ elim o [ inl l ↦ absurd (shorter n m one two l) | inr l ↦ absurd (shorter m n two one l) ]
  ]
    where
      shorter : (n m : ℕ) → IsRun mesh cut node s n → IsRun mesh cut node s m → n < m → ⊥
      shorter zero m one two l = absurd (omega arith)
      shorter (suc k) m one two l = cc (two.inside k (omega arith), one.ends k refl)

  -- Where the cut goes straight on over a vertex that is no node, both darts have twins or none has, and the twins go
  -- straight back.
  pub record IsDouble (d u : ℕ) : Type 0 where
    pub after : ℕ
    pub is : mesh.twin (step_east mesh d) ≡ Some after
    pub low : after < mesh.count
    pub back : step_east mesh after ≡ u
    pub over : mesh.twin (mesh.next after) ≡ Some (mesh.prev (step_east mesh after))
    pub apart : u ≡ step_east mesh d → ⊥

  pub doubled : (d u : ℕ) → d < mesh.count → cut d ≡ true → node (end_vertex mesh d) ≡ false → mesh.twin d ≡ Some u
      → IsDouble d u
  doubled d u l on inner tw =
      let lu = laws.twin_low d u l tw in
      let back = laws.twin_twin d u l tw in
      let (a, b, c, is) =
      nodes.through u d lu (full.alike d u l tw ∙ on) back (cc ((laws.twin_ends d u l tw).0, inner)) in
      let la = turn_low laws u a lu is.first in
      let lb = turn_low laws a b la is.second in
      let lc = turn_low laws b c lb is.third in
      let last : mesh.prev c ≡ d = cc (laws.twin_twin (mesh.prev c) u (laws.prev_low c lc) is.last, back) in
      let right : c ≡ mesh.next d = cc (laws.next_prev c, last) in
      let over = ap mesh.twin (sym right) ∙ laws.twin_twin (mesh.prev b) c (laws.prev_low b lb) is.third in
      let tb = laws.twin_twin (mesh.prev a) b (laws.prev_low a la) is.second in
      let ta = laws.twin_twin (mesh.prev u) a (laws.prev_low u lu) is.first in
      search rules

  twin_before : (d e : ℕ) → d < mesh.count → GoesStraight mesh cut d → node (end_vertex mesh d) ≡ false
      → mesh.twin (step_east mesh d) ≡ Some e → (u : ℕ) × (mesh.twin d ≡ Some u)
  twin_before d e l goes inner tw = search rules

  -- Where one dart of a run has a twin, each has.
  twins_after : (s n : ℕ) → IsRun mesh cut node s n → (k : ℕ) → (u : ℕ) × (mesh.twin (easts mesh s k) ≡ Some u)
      → (j : ℕ) → k ≤ j → j < n → (u : ℕ) × (mesh.twin (easts mesh s j) ≡ Some u)
  twins_after s n run k u zero h l = search rules
  twins_after s n run k u (suc j) h l = elim (cases_eq k (suc j)) [
    | inl e ↦ (u.0, ap (λ x. mesh.twin (easts mesh s x)) (sym e) ∙ u.1)
    | inr ne ↦
        let b = twins_after s n run k u j (omega arith) (omega arith) in
        let d = doubled _ _ (run_low s n run j (omega arith)) (run.on j (omega arith)) (run.inside j l) b.1 in
        (d.after, d.is)
  ]

  twins_before : (s n : ℕ) → IsRun mesh cut node s n → (k : ℕ) → k < n → (u : ℕ) × (mesh.twin (easts mesh s k) ≡ Some u)
      → (u : ℕ) × (mesh.twin s ≡ Some u)
  twins_before s n run zero l u = u
  twins_before s n run (suc k) l u = twins_before s n run k (omega arith)
      (twin_before (easts mesh s k) u.0 (run_low s n run k (omega arith)) (run_goes s n run k l) (run.inside k l) u.1)

  pub twins_all : (s n : ℕ) → IsRun mesh cut node s n → (k u : ℕ) → k < n → mesh.twin (easts mesh s k) ≡ Some u
      → (j : ℕ) → j < n → (v : ℕ) × (mesh.twin (easts mesh s j) ≡ Some v)
  twins_all s n run k u l tw j lj = twins_after s n run 0 (twins_before s n run k l (u, tw)) j (omega arith) lj

  -- So the twins are a run.
  pub back_run : (s n : ℕ) → IsRun mesh cut node s n → (k u : ℕ) → k < n → mesh.twin (easts mesh s k) ≡ Some u
      → (r : ℕ) × IsBack mesh cut node s n r
  back_run s n run k u l tw =
      by_last (n - 1) (omega (arith, run.some)) (twins_all s n run k u l tw (n - 1) (omega (arith, run.some)))
    where
      by_last : (e : ℕ) → suc e ≡ n → (r : ℕ) × (mesh.twin (easts mesh s e) ≡ Some r)
          → (r : ℕ) × IsBack mesh cut node s n r
      by_last e far last = (last.0, record { run = is_run; twin = twins })
        where
          twins : (k j : ℕ) → k + suc j ≡ n → mesh.twin (easts mesh s k) ≡ Some (easts mesh last.0 j)
          twins k zero sum = let same : k ≡ e = omega arith in cc (same, last.1)
          twins k (suc j) sum =
              let next = twins (suc k) j (omega arith) in
              let lk : suc k < n = omega arith in
              let b = twin_before _ _ (run_low s n run k (omega arith))
              (run_goes s n run k lk) (run.inside k lk) next in
              let d = doubled _ _ (run_low s n run k (omega arith)) (run.on k (omega arith)) (run.inside k lk) b.1 in
              search rules

          other : (j : ℕ) → j < n → (k : ℕ) × (k + suc j ≡ n)
          other j lj = (n - suc j, omega arith)

          back_to : (j k : ℕ) → k + suc j ≡ n → end_vertex mesh (easts mesh last.0 j) ≡ mesh.from (easts mesh s k)
          back_to j k sum = (laws.twin_ends (easts mesh s k) (easts mesh last.0 j) (run_low s n run k (omega arith))
              (twins k j sum)).1

          inner : (j k : ℕ) → k + suc j ≡ n → suc j < n → node (end_vertex mesh (easts mesh last.0 j)) ≡ false
          inner j zero sum lj = absurd (omega arith)
          inner j (suc k) sum lj = ap node (back_to j (suc k) sum) ∙ run_inner s n run k (omega arith)

          is_run : IsRun mesh cut node last.0 n
          is_run = record {
            some = run.some;
            low = laws.twin_low (easts mesh s e) last.0 (run_low s n run e (omega arith)) last.1;
            begins = ap node (laws.twin_ends (easts mesh s e) last.0 (run_low s n run e (omega arith)) last.1).0
                ∙ run.ends e far;
            on = λ j lj. let o : (k : ℕ) × (k + suc j ≡ n) = other j lj in let lo : o.0 < n = omega (arith, o.1) in
                full.alike (easts mesh s o.0) (easts mesh last.0 j) (run_low s n run _ lo) (twins o.0 j o.1)
                ∙ run.on o.0 lo;
            inside = λ j lj. let o : (k : ℕ) × (k + suc j ≡ n) = other j (omega arith) in inner j o.0 o.1 lj;
            ends = λ j e. ap node (back_to j 0 (omega arith)) ∙ run.begins;
          }

  -- No run is its own reverse: its middle would be a dart that is its own twin, or that leads back.
  mirror : (g s n i j : ℕ) → IsRun mesh cut node s n → j ≡ i + g → j < n → mesh.twin (easts mesh s i)
      ≡ Some (easts mesh s j) → ⊥
  mirror zero s n i j run e l tw = let same : j ≡ i = omega arith in
      no_self laws (easts mesh s i) (run_low s n run i (omega arith)) (cc)
  mirror (suc zero) s n i j run e l tw = let same : j ≡ suc i = omega arith in
      (doubled _ _ (run_low s n run i (omega arith)) (run.on i (omega arith))
      (run.inside i (omega arith)) tw).apart (ap (easts mesh s) same)
  mirror (suc (suc g)) s n i zero run e l tw = absurd (omega arith)
  mirror (suc (suc g)) s n i (suc j) run e l tw =
      let d = doubled _ _ (run_low s n run i (omega arith)) (run.on i (omega arith)) (run.inside i (omega arith)) tw in
      let same = east_same _ _ d.low (run_low s n run j (omega arith)) d.over (run_goes s n run j l).over d.back in
      mirror g s n (suc i) j run (omega arith) (omega arith) (cc (d.is, same))

  pub no_mirror : (s n i j : ℕ) → IsRun mesh cut node s n → i < n → j < n → mesh.twin (easts mesh s i)
      ≡ Some (easts mesh s j) → ⊥
  no_mirror s n i j run li lj tw = elim (cases_lt j i) [
    | inl l ↦ mirror (i - j) s n j i run (omega arith) li (laws.twin_twin (easts mesh s i) (easts mesh s j)
        (run_low s n run i li) tw)
    | inr g ↦ mirror (j - i) s n i j run (omega arith) lj tw
  ]
