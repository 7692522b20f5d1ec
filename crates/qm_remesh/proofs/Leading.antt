-- What rounds of a layout give: lengths of the layout, certificates that are kept, and one round more.
use Rattle.std.proofs.Common.{◌≡◌, ℕ, ◌-◌, ◌<◌, ◌≤◌, List, [], ◌∷◌, ◌++◌, length, ◌∙◌, ap, arith, refl}
use Rattle.std.{proofs.lemmas.Int.ints, proofs.lemmas.List.get_or_default, specs.List.All}
use Rattle.def_certtext.specs.declared.certs.Rising.TheVariants.{Rounds, Never, Third}
use Rattle.def_certtext.specs.declared.certs.{Rise.Rise, Round.Round}
use Rattle.def_certtext.specs.{CertLines.alone, CertLines.lists_of, CertLines.risen_by, declared.certs.Rising.Rising}
use Rattle.def_fit.specs.Aims.{fit_settings, denominator, numerator, AreAimedNear, IsFit, IsFitFail}
use Rattle.def_fit.specs.declared.fit.{Aim.TheVariants.Scale, Fit.Fit, Aim.Aim}
use Rattle.def_flow.specs.{Accepted.certificate, Descent.IsSolution, declared.cert.Cert.Cert, Network.Network}
use Rattle.def_flow.specs.declared.{limits.TheConstants.MAX_FLOOR, net.Settings.Settings}
use Rattle.def_layoutnet.specs.Floors.{floor_of, HasFloors}
use Rattle.def_remesh.specs.{Certified.AreKept, Certified.IsCertified, NewPoints.lengths_in, Refusals.IsLayoutFail}
use Rattle.def_remesh.specs.{Remeshed.AreCoarse, Remeshed.AreDoubled, Rises.risen_floors, Rises.AreNeeded}
use Rattle.def_remesh.specs.declared.{tables.Tables.Tables, kept.LayoutFail.LayoutFail}
use Rattle.def_remesh.specs.{Keeping.IsKept, Keeping.IsNetFor, Tasks.given_floors, Tasks.Wish}
use Rattle.remesh_laws.proofs.ReadAgain.{behind_more, led_kept, led_more, net_risen, used_behind}
use Rattle.remesh_laws.{proofs.Keeps.are_lengths, proofs.Keeps.keeps, proofs.Keeps.solved, specs.Keeps.IsNumbered}
use Rattle.qm_remesh.specs.Rounds.{room_of, IsFitNet, IsLedBy, greatest_floor}
use Rattle.qm_layoutnet.proofs.Floors.{floors_even, risen_more}
use Rattle.{sum_laws.proofs.Sums.count_below_same, def_metric.specs.Fails.AreNear}
use Rattle.def_layout.specs.{Lengths.AreLengths as AreArcLengths, Layouts.Layout, Layouts.gluing_of}
use Rattle.def_remesh.specs.declared.kept.LayoutFail.TheVariants as layouts
use Rattle.def_metric.specs.declared.fail.SizeFail.TheVariants as sizes

module _ {fit : Fit} {layout : Layout} {first net : Network} {rounds : List Round} {cert : Cert}
    (fits : IsFitNet fit layout first) (is : IsLedBy layout (fit_settings fit) first rounds net cert) where
  pub led_long : {xs : List ℕ} → xs ≡ cert.x.items → length xs ≡ length layout.arcs
  led_long same = ap length same ∙ is.solved.accepted.count ∙ (is.behind fits.wish fits.for).is.long

  pub led_lengths : {xs : List ℕ} → xs ≡ cert.x.items → AreArcLengths (gluing_of layout) (lengths_in xs)
  led_lengths {xs} same = are_lengths _ _ net cert xs (is.behind fits.wish fits.for) is.solved same

module _ {wish : Wish} {layout : Layout} {settings : Settings} {first net : Network} {rounds : List Round} {cert : Cert}
    (for : IsNetFor wish layout settings first) (is : IsLedBy layout settings first rounds net cert) where
  pub kept_risen : AreKept wish layout settings Rounds (risen_by rounds (alone (lists_of cert)))
  kept_risen = led_kept (IsCertified wish layout settings) layout rounds (given_floors settings) (alone (lists_of cert))
      (is.led wish for) (solved layout settings net cert (is.behind wish for) is.solved)

  pub keeps_risen : {xs : List ℕ} {tables : Tables} → xs ≡ cert.x.items → IsNumbered layout xs tables
      → IsKept wish layout settings Rounds (risen_by rounds (alone (lists_of cert))) tables
  keeps_risen {xs} {tables} same = keeps _ _ _ (risen_by rounds (alone (lists_of cert))) xs tables
      (cc (used_behind rounds (alone (lists_of cert)))) kept_risen

-- Each arc whose floor rises is one of the network.
pub all_there : (layout : Layout) (xs : List ℕ) {rises : List Rise} {n : ℕ} → n ≡ length layout.arcs
    → AreNeeded (gluing_of layout) (lengths_in xs) rises → All (λ (rise : Rise). rise.arc < n) rises
all_there layout xs {rises} long needed k d low =
    rw (← get_or_default rises k (record { arc = 0; floor = 0 }) d low) (omega (arith, (needed.each k low).there, long))

-- One round more.
module _ {layout : Layout} {settings : Settings} {first net next : Network} {rounds : List Round} (round : Round)
    (is : IsLedBy layout settings first rounds net round.cert)
    (needed : AreNeeded (gluing_of layout) (lengths_in round.cert.x.items) round.rises.items)
    (has : HasFloors net (risen_floors round.rises.items (floor_of net.arcs)) next) where
  pub led_on : (new : Cert) → AreCoarse layout round.cert.x.items → AreDoubled layout round.cert.x.items
      → IsSolution next (certificate new) → IsLedBy layout settings first (rounds ++ round ∷ []) next new
  led_on new coarse doubled solves = record {
    solved = solves;
    even = λ even. floors_even net (risen_floors round.rises.items (floor_of net.arcs)) next has (is.even even);
    led = λ wish for. led_more (IsCertified wish layout settings) layout rounds round (given_floors settings)
        (is.led wish for) (assumption (solved _ _ _ round.cert (is.behind wish for) is.solved)) needed;
    behind = λ wish for. rw (behind_more rounds round (given_floors settings))
        (net_risen layout settings round.cert.x.items _ net next (is.behind wish for) needed has);
  }

  -- The floors are nearer to the greatest then.
  pub room_less : length net.arcs ≡ length layout.arcs → room_of next.arcs < room_of net.arcs
  room_less long =
      let new = count_below_same (λ a. MAX_FLOOR - floor_of next.arcs a) (λ a. MAX_FLOOR
      - risen_floors round.rises.items (floor_of net.arcs) a) (length net.arcs) (λ a low. cc (has.arcs a low)) in
      rw (has.long, new, long)
      (risen_more (gluing_of layout) (lengths_in round.cert.x.items) round.rises.items needed (floor_of net.arcs)
      (λ a low. omega (arith, ints, is.solved.accepted.admissible.high a (omega (arith, low, long)))))

-- Floors rise at once, in rounds or never.
pub never_rises : (rising : Rising) → (rising ≡ Third → ⊥) → (rising ≡ Rounds → ⊥) → rising ≡ Never
never_rises Never third rounds = refl
never_rises Third third rounds = absurd (third refl)
never_rises Rounds third rounds = absurd (rounds refl)

-- Why a layout is not remeshed with what is wished of it.

-- Its least lengths give no new mesh.
pub no_mesh : (aim : Aim) (wish : Wish) (layout : Layout) (settings : Settings) (rising : Rising) (fail : LayoutFail)
    → AreAimedNear aim wish layout
    → IsLayoutFail wish layout settings rising fail → IsFitFail aim wish layout settings rising (sizes.Layout fail)
no_mesh aim wish layout settings rising (layouts.Tangled count) near why = why
no_mesh aim wish layout settings rising layouts.Memory near why = tt
no_mesh aim wish layout settings rising _ near why = (near, why)

-- Wishes that do not scale the old lengths are in thousandths of an edge, and their sum is bounded.
pub unscaled : {aim : Aim} (wish : Wish) (layout : Layout) → ((p q : ℕ) → aim ≡ Scale p q → ⊥)
    → AreAimedNear aim wish layout → (numerator aim ≡ 1) × (denominator aim ≡ 1000) × AreNear wish layout
unscaled {aim = Scale p q} wish layout other near = absurd (other p q refl)
unscaled wish layout other near = (refl, refl, near)

-- The greatest floor that an arc may get is no greater than any floor may be.
pub greatest_high : {fit : Fit} → IsFit fit → greatest_floor fit ≤ MAX_FLOOR
greatest_high {fit} is = grind (arith, is.floor.high)
