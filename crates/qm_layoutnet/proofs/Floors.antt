-- A network with other floors is as even and as tangled as it was, and it is the network of the same layout.
use Rattle.std.proofs.Common.{rules, ◌≡◌, ℕ, ◌<◌, ◌≤◌, Bool, true, length, ℤ, pos, ap, List, None, map, refl, subst}
use Rattle.std.proofs.Common.{arith, suc, ◌-◌, [], ◌∷◌}
use Rattle.std.proofs.lemmas.{Bool.cases_eq, Bool.cond-true, Bool.eq-eqb, Bool.Decides.nat_tests, List.ext_get_or}
use Rattle.std.{proofs.lemmas.List.get_or-map, proofs.lemmas.List.length-map, specs.Prelude.◌==◌, specs.List.list_all}
use Rattle.sum_laws.proofs.Sums.{count_below_same, count_below_lt}
use Rattle.def_flow.specs.Network.{Network, arc_at, ends, is_bounded, tangle_number, IsWithinBounds}
use Rattle.def_flow.specs.declared.{limits.TheConstants.MAX_FLOOR, net.Arc.Arc, net.Settings.Settings}
use Rattle.def_flow.specs.Admissible.{deviation, side_sum, IsEven}
use Rattle.def_layout.specs.{Gluings.Gluing, Lengths.Lengths, Surfaces.IsSurface}
use Rattle.def_layoutnet.specs.{LayoutNet.IsNetOf, Floors.at_floor, Floors.HasFloors}
use Rattle.qm_layoutnet.proofs.Built.{all_pass, count_same, sums_same, tangle_same}
use Rattle.{qm_layoutnet.specs.Floors.AreFloored, def_certtext.specs.declared.certs.Rise.Rise}
use Rattle.def_remesh.specs.Rises.{rise_at, risen_floors, AreNeeded, IsNeeded}
use Rattle.{def_math.specs.Counts.count_below, qm_net.proofs.Within.arc_within}

-- The arc past the last one.
abbrev no_arc : Arc
no_arc = record { left = record { node = 0; plus = true }; right = None; old = 0; weight = 0; floor = 0 }

-- Where each arc has a floor, the list is that of the arcs with that floor.
pub all_floored : (floor : ℕ) (arcs new : List Arc) → AreFloored (length arcs) floor arcs new
    → new ≡ map (at_floor floor) arcs
all_floored floor arcs new are = ext_get_or no_arc _ _ (search (rules, are.long, length-map))
    (λ k l. search (rules, are.done, get_or-map, length-map))

-- A network with these arcs has this floor everywhere.
pub has_floors : (net : Network) (floor : ℕ) (new : Network)
    → new ≡ record net { arcs = map (at_floor floor) net.arcs } → HasFloors net (λ a. floor) new
has_floors net floor new same = rw same (search (rules, length-map, get_or-map))

-- No floor of a network within bounds is above the greatest.
pub floor_high : (net : Network) → IsWithinBounds net → (k : ℕ) → k < length net.arcs
    → (arc_at net.arcs k).floor ≤ MAX_FLOOR
floor_high net b k l = (arc_within b l).floor_high

module _ (net : Network) (floor : Lengths) (new : Network) (has : HasFloors net floor new) where
  pub floors_at : (k : ℕ) → k < length new.arcs → (arc_at new.arcs k).floor ≡ floor k
  floors_at k l = ap (λ (a : Arc). a.floor) (has.arcs k (omega arith))

  old_at : (k : ℕ) → k < length net.arcs → (arc_at new.arcs k).old ≡ (arc_at net.arcs k).old
  old_at k l = ap (λ (a : Arc). a.old) (has.arcs k l)

  pub floors_tangle : tangle_number new ≡ tangle_number net
  floors_tangle = tangle_same net new has.nodes has.long (λ k l. ap ends (has.arcs k l))

  pub floors_even : IsEven net → IsEven new
  floors_even even = search (rules, old_at, count_same (λ a. a.old) new.arcs net.arcs has.long old_at, sums)
    where
      sums : (plus : Bool) (v : ℕ) → side_sum new.arcs (λ k. pos (arc_at new.arcs k).old) plus v
          ≡ side_sum net.arcs (λ k. pos (arc_at net.arcs k).old) plus v
      sums plus v = search (rules, sums_same)

  -- Lists deviate as much from what is wanted.
  pub floors_deviation : (x : ℕ → ℤ) → deviation new x ≡ deviation net x
  floors_deviation x = search (rules, has.long, count_below_same, has.arcs, has.p, has.q)

  -- Floors within their bounds leave the network within bounds.
  pub floors_within : IsWithinBounds net → ((k : ℕ) → k < length net.arcs → (1 ≤ floor k) × (floor k ≤ MAX_FLOOR))
      → IsWithinBounds new
  floors_within b within =
      let each : list_all (is_bounded new.nodes) new.arcs ≡ true = all_pass _ new.arcs (λ k l.
      let low : k < length net.arcs = omega arith in
      let was = arc_within b low in
      rw (has.nodes, has.arcs k low) (grind (arith, nat_tests, within k low))) in
      search (rules, each)

-- It is the network of the layout for these floors.
pub floored : (l : Gluing) (old wish : Lengths) (settings : Settings) (before floor : Lengths) (net new : Network)
    → IsSurface l → IsNetOf l old wish settings before net → HasFloors net floor new
    → IsNetOf l old wish settings floor new
floored l old wish settings before floor net new laid is has =
    search (rules, has, has.arcs, is.long, is.olds, is.weights, is.left, is.right, is.alone, laid.paved.arc_low)

-- Floors that rise: one by one from the last rise on, within their bounds, and higher than they were.

-- A fact of a floor that stays, and of each floor to which one rises, is one of the floors then.
risen_is : (P : ℕ → Type 0) (rises : List Rise) (floors : Lengths) (a : ℕ)
    → ((k : ℕ) → k < length rises → (rise_at rises k).arc ≡ a → P (rise_at rises k).floor) → P (floors a)
    → P (risen_floors rises floors a)
risen_is P [] floors a rose stayed = stayed
risen_is P (r ∷ rs) floors a rose stayed =
    let more = risen_is P rs floors a (λ k low. rose (suc k) (omega arith)) stayed in
    search (rules, cases_eq a r.arc, rose 0)

module _ (l : Gluing) (x : Lengths) (rises : List Rise) (are : AreNeeded l x rises) (floors : Lengths) where
  -- They are within the bounds.
  pub risen_low : (a : ℕ) → (1 ≤ floors a) × (floors a ≤ MAX_FLOOR)
      → (1 ≤ risen_floors rises floors a) × (risen_floors rises floors a ≤ MAX_FLOOR)
  risen_low a within = search (rules, risen_is (λ f. (1 ≤ f) × (f ≤ MAX_FLOOR)) rises floors a, are.each)

  -- No floor falls, so how far they are below the greatest does.
  pub risen_more : ((a : ℕ) → a < l.arcs → floors a ≤ x a) → count_below (λ a. MAX_FLOOR - risen_floors rises floors a)
      l.arcs < count_below (λ a. MAX_FLOOR - floors a) l.arcs
  risen_more kept = by_first rises are.some (are.each 0 are.some) (λ a. risen_is (λ f. floors a ≤ f) rises floors a
      (λ k low same. subst (λ (b : ℕ). floors b ≤ (rise_at rises k).floor) same
      (omega (arith, (are.each k low).short, kept (rise_at rises k).arc (are.each k low).there))) (omega arith))
    where
      by_first : (rs : List Rise) → 0 < length rs → IsNeeded l x (rise_at rs 0)
          → ((a : ℕ) → floors a ≤ risen_floors rs floors a)
          → count_below (λ a. MAX_FLOOR - risen_floors rs floors a) l.arcs
          < count_below (λ a. MAX_FLOOR - floors a) l.arcs
      by_first [] some first higher = absurd (omega arith)
      by_first (r ∷ rs) some first higher = count_below_lt (λ a. MAX_FLOOR - risen_floors (r ∷ rs) floors a)
          (λ a. MAX_FLOOR - floors a) l.arcs r.arc first.there (λ a low. omega (arith, higher a)) (omega (
            arith,
            kept r.arc first.there,
            cond-true (r.arc == r.arc) r.floor (risen_floors rs floors r.arc) (eq-eqb r.arc r.arc refl),
          ))
