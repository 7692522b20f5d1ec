-- Four faces round a vertex, told by turns and by counting the darts that leave it.
use Rattle.std.proofs.Common.{rules, ◌≡◌, ◌⊎◌, ℕ, zero, suc, ◌<◌, ◌≤◌, Some, sym, ◌∙◌, ap, refl, inl, inr, arith}
use Rattle.std.proofs.{lemmas.Bool.cases_eq}
use Rattle.def_mesh.specs.HalfEdges.{HalfEdges, Turns, IsQuadManifold}
use Rattle.def_cut.specs.{Cuts.IsCross, Cuts.HasCross, Steps.or_zero}
use Rattle.cut_laws.proofs.{Folds.turn_from, Folds.turn_low, Folds.turn_same, Pigeon.apart_if, Pigeon.pigeon}

-- Each edge at which a dart arrives at v has two darts.
abbrev pub IsRound : (mesh : HalfEdges) (v : ℕ) → Type 0
IsRound mesh v = (d : ℕ) → d < mesh.count → mesh.from d ≡ v → (t : ℕ) × (mesh.twin (mesh.prev d) ≡ Some t)

-- Dart d leaves v.
pub record Leaves (mesh : HalfEdges) (v d : ℕ) : Type 0 where
  pub low : d < mesh.count
  pub at : mesh.from d ≡ v

-- All darts that leave v are among the first n values, and so are no more than n; and that many, if they differ.
abbrev pub AreAll : (mesh : HalfEdges) (v n : ℕ) (g : ℕ → ℕ) → Type 0
AreAll mesh v n g = (x : ℕ) → Leaves mesh v x → (j : ℕ) × (j < n) × (g j ≡ x)

pub record AreSome (mesh : HalfEdges) (v n : ℕ) (g : ℕ → ℕ) : Type 0 where
  pub each : (j : ℕ) → j < n → Leaves mesh v (g j)
  pub apart : (i j : ℕ) → i < n → j < n → g i ≡ g j → i ≡ j

-- v has f darts that leave it.
pub record HasFan (mesh : HalfEdges) (v f : ℕ) : Type 0 where
  pub most : (n : ℕ) (g : ℕ → ℕ) → AreAll mesh v n g → f ≤ n
  pub least : (n : ℕ) (g : ℕ → ℕ) → AreSome mesh v n g → n ≤ f

-- The n-th turn from d.
abbrev pub turned : (mesh : HalfEdges) (d n : ℕ) → ℕ
turned mesh d zero = d
turned mesh d (suc n) = or_zero (mesh.twin (mesh.prev (turned mesh d n)))

-- The four of a cross, again and again.
abbrev pub of_four : (a b c d k : ℕ) → ℕ
of_four a b c d zero = a
of_four a b c d (suc zero) = b
of_four a b c d (suc (suc zero)) = c
of_four a b c d (suc (suc (suc zero))) = d
of_four a b c d (suc (suc (suc (suc k)))) = of_four a b c d k

module _ {mesh : HalfEdges} (laws : IsQuadManifold mesh) where
  -- A turn leads to another dart.
  pub no_fix : (d : ℕ) → d < mesh.count → mesh.twin (mesh.prev d) ≡ Some d → ⊥
  no_fix d l t = search rules

  turn_leaves : {v x y : ℕ} → Leaves mesh v x → mesh.twin (mesh.prev x) ≡ Some y → Leaves mesh v y
  turn_leaves {v} {x} {y} l is = record { low = turn_low laws x y l.low is; at = turn_from laws x y l.low is ∙ l.at }

  -- Darts round v, each the one before turned by one face.
  module _ {v : ℕ} {g : ℕ → ℕ} (first : Leaves mesh v (g 0))
      (is : (n : ℕ) → mesh.twin (mesh.prev (g n)) ≡ Some (g (suc n))) where
    all_leave : (n : ℕ) → Leaves mesh v (g n)
    all_leave zero = first
    all_leave (suc n) = turn_leaves (all_leave n) (is n)

    -- Where p + 1 turns lead back, all darts that leave v are among them.
    among : (p : ℕ) → g (suc p) ≡ g 0 → (n x : ℕ) → Turns mesh (g 0) x n → (i : ℕ) × (i < suc p) × (g i ≡ x)
    among p back zero x t = (0, omega arith, t)
    among p back (suc n) x t =
        let (i, l, e) = among p back n t.0 t.1 in
        grind (arith, is i, cases_eq i p, back_to i l t.2)
      where
        back_to : (i : ℕ) → i < suc p → x < mesh.count → mesh.twin (mesh.prev x) ≡ Some (g i)
            → (i : ℕ) × (i < suc p) × (g i ≡ x)
        back_to zero l lx r = (p, omega arith, turn_same laws _ x (all_leave p).low lx (is p) (r ∙ ap Some (sym back)))
        back_to (suc i) l lx r = (i, omega arith, turn_same laws _ x (all_leave i).low lx (is i) r)

    all_among : (p : ℕ) → g (suc p) ≡ g 0 → AreAll mesh v (suc p) g
    all_among p back x l = search (rules, among)

    -- Two of them that are equal lead back.
    down : (i j : ℕ) → i < j → g i ≡ g j → (k : ℕ) × (g (suc k) ≡ g 0) × (suc k ≤ j)
    down zero (suc j) l e = (j, sym e, omega arith)
    down (suc i) (suc j) l e =
        let same = turn_same laws (g i) (g j) (all_leave i).low (all_leave j).low (is i) (is j ∙ ap Some (sym e)) in
        let (k, back, low) = down i j (omega arith) same in
        (k, back, omega arith)
    down _ zero l e = absurd (omega arith)

    -- Each dart that leaves v is one of them.
    pub some_turn : (x : ℕ) → Leaves mesh v x → (j : ℕ) × (g j ≡ x)
    some_turn x l =
        let (i, j, less, le, e) = pigeon mesh.count g (λ k h. (all_leave k).low) in
        let (k, back, far) = down i j less e in
        let (t, low, is) = all_among k back x l in
        (t, is)

  module _ (v : ℕ) (round : IsRound mesh v) (d : ℕ) (leaves : Leaves mesh v d) where
    turn_is : {x : ℕ} → Leaves mesh v x → mesh.twin (mesh.prev x) ≡ Some (or_zero (mesh.twin (mesh.prev x)))
    turn_is {x} l = let t = round x l.low l.at in t.1 ∙ ap Some (ap or_zero (sym t.1))

    turned_leaves : (n : ℕ) → Leaves mesh v (turned mesh d n)
    turned_leaves zero = leaves
    turned_leaves (suc n) = let l = turned_leaves n in turn_leaves l (turn_is l)

    turned_is : (n : ℕ) → mesh.twin (mesh.prev (turned mesh d n)) ≡ Some (turned mesh d (suc n))
    turned_is n = turn_is (turned_leaves n)

    -- With four faces all round, the fourth turn is the first that leads back.
    pub four_cross : HasFan mesh v 4 → HasCross mesh d
    four_cross fan = (
      turned mesh d 1,
      turned mesh d 2,
      turned mesh d 3,
      record {
        first = turned_is 0;
        second = turned_is 1;
        third = turned_is 2;
        last = turned_is 3 ∙ ap Some four;
        apart = λ e. later 1 (omega arith) (sym e);
      },
    )
      where
        later : (p : ℕ) → p < 3 → turned mesh d (suc p) ≡ d → ⊥
        later p l e = let h = fan.most _ _ (all_among {g = turned mesh d} leaves turned_is p e) in omega arith

        back : (k : ℕ) → turned mesh d (suc k) ≡ d → suc k ≤ 4 → turned mesh d 4 ≡ d
        back k e l = grind (arith, later k)

        four : turned mesh d 4 ≡ d
        four = elim (cases_eq _ d) [
          | inl e ↦ e
          | inr ne ↦ absurd (let h = fan.least 5 _ (record {
            each = λ j l. turned_leaves j;
            apart = apart_if 5 _ (λ i j l lj e. let r = down {g = turned mesh d} leaves turned_is i j l e in
                ne (back r.0 r.1 (omega arith)));
          }) in omega arith)
        ]

  -- And the other way round: a cross has four darts, all with twins on both sides.
  module _ (d a b c : ℕ) (low : d < mesh.count) (cross : IsCross mesh d a b c) where
    cross_is : (n : ℕ) → mesh.twin (mesh.prev (of_four d a b c n)) ≡ Some (of_four d a b c (suc n))
    cross_is zero = cross.first
    cross_is (suc zero) = cross.second
    cross_is (suc (suc zero)) = cross.third
    cross_is (suc (suc (suc zero))) = cross.last
    cross_is (suc (suc (suc (suc n)))) = cross_is n

    leave : (n : ℕ) → Leaves mesh (mesh.from d) (of_four d a b c n)
    leave = all_leave {g = of_four d a b c} (record { low = low; at = refl }) cross_is

    pub low_a : a < mesh.count
    low_a = (leave 1).low

    pub low_b : b < mesh.count
    low_b = (leave 2).low

    pub low_c : c < mesh.count
    low_c = (leave 3).low

    pub at_a : mesh.from a ≡ mesh.from d
    at_a = (leave 1).at

    pub at_b : mesh.from b ≡ mesh.from d
    at_b = (leave 2).at

    pub at_c : mesh.from c ≡ mesh.from d
    at_c = (leave 3).at

    -- Each dart of the vertex is one of the four.
    pub four_all : AreAll mesh (mesh.from d) 4 (of_four d a b c)
    four_all = all_among {g = of_four d a b c} (leave 0) cross_is 3 refl

    pub one_of_four : (x : ℕ) → Leaves mesh (mesh.from d) x → (x ≡ d) ⊎ ((x ≡ a) ⊎ ((x ≡ b) ⊎ (x ≡ c)))
    one_of_four x l = grind (arith, four_all x l)

    -- They differ.
    pub four_apart : (i j : ℕ) → i < 4 → j < 4 → of_four d a b c i ≡ of_four d a b c j → i ≡ j
    four_apart = apart_if 4 (of_four d a b c) (λ i j l lj e.
        let r = down {g = of_four d a b c} (leave 0) cross_is i j l e in
        back r.0 r.1 (omega arith))
      where
        back : (k : ℕ) → of_four d a b c (suc k) ≡ d → suc k < 4 → ⊥
        back zero e l = no_fix d low (cross.first ∙ ap Some e)
        back (suc zero) e l = cross.apart (sym e)
        back (suc (suc zero)) e l = no_fix c low_c (cross.last ∙ ap Some (sym e))
        back (suc (suc (suc k))) e l = omega arith

    pub four_some : AreSome mesh (mesh.from d) 4 (of_four d a b c)
    four_some = record { each = λ j l. leave j; apart = four_apart }

    -- So each edge at the vertex has two darts.
    pub both_twins : (x : ℕ) → Leaves mesh (mesh.from d) x → ((t : ℕ) × (mesh.twin (mesh.prev x) ≡ Some t))
        × ((t : ℕ) × (mesh.twin x ≡ Some t))
    both_twins x l =
        let (j, lj, e) = four_all x l in
        let before = of_four d a b c (suc (suc (suc j))) in
        let back = laws.twin_twin (mesh.prev before) _ (laws.prev_low _ (leave (suc (suc (suc j)))).low)
        (cross_is (suc (suc (suc j)))) in (
          (of_four d a b c (suc j), ap (λ y. mesh.twin (mesh.prev y)) (sym e) ∙ cross_is j),
          (mesh.prev before, ap mesh.twin (sym e) ∙ back),
        )
