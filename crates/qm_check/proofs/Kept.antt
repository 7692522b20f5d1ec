-- What is kept by certificates that are checked, and why none is.
use Rattle.std.proofs.Common.{rules, ap, ◌+◌, refl, ◌++◌, subst, [], ℕ, ◌∷◌, arith, length, List, ◌∙◌, ◌≡◌, inr}
use Rattle.def_layout.specs.{Layouts.Layout, Layouts.gluing_of, Lengths.Lengths, Gluings.Gluing}
use Rattle.def_run.specs.Judging.{AreWrong, AreFront, first_of, IsWrong}
use Rattle.def_run.specs.{declared.check_fail.CheckFail.CheckFail}
use Rattle.def_run.specs.{declared.check_fail.CheckFail.TheVariants.NotAccepted, declared.answer.Why.Why}
use Rattle.def_certtext.specs.CertLines.{lists_of, used, alone, risen_by, risen, Lists, Certificates, certificates_of}
use Rattle.def_certtext.specs.{declared.certs.Rising.Rising, declared.certs.Certs.Certs, declared.certs.Rise.Rise}
use Rattle.def_flow.specs.{Accepted.certificate, declared.cert.Cert.Cert, declared.net.Settings.Settings}
use Rattle.def_flow.specs.{Network.Network, Descent.IsSolution, Admissible.entries, Admissible.deviation}
use Rattle.remesh_laws.proofs.ReadAgain.{net_risen, behind_more, led_more, used_behind}
use Rattle.qm_check.specs.Checked.{GivesNone, IsChecked, ArePassed, IsInReach, Gives, IsUnused, IsCheckable, AreInReach}
use Rattle.qm_check.specs.declared.lengths.Lengths.TheVariants.{Doubled, Whole}
use Rattle.def_remesh.specs.{Keeping.IsNetWith, Keeping.IsNetFor, Certified.IsDoubling, Certified.IsCertified}
use Rattle.def_remesh.specs.{Remeshed.AreKeptBy, NewPoints.lengths_in, Rises.AreNeeded, Rises.risen_floors}
use Rattle.def_remesh.specs.{declared.tables.Tables.Tables, Tasks.given_floors, Tasks.Wish}
use Rattle.{std.proofs.Common.sym, std.proofs.lemmas.List.get_or_default, def_certtext.specs.declared.certs.Round.Round}
use Rattle.{remesh_laws.specs.Keeps.AreLed, remesh_laws.specs.Keeps.floors_behind, remesh_laws.proofs.Keeps.solved}
use Rattle.{remesh_laws.proofs.Keeps.keeps, def_layoutnet.specs.Floors.floor_of, def_layoutnet.specs.Floors.HasFloors}
use Rattle.{qm_check.specs.Checked.IsNoRise, std.specs.Prelude.◌<◌, std.specs.Prelude.slice_index_or}
use Rattle.qm_layoutnet.proofs.Floors.{floors_deviation}
use Rattle.def_run.specs.declared.answer.Why.TheVariants as why

-- ---- Rounds in front of certificates.

pub risen_append : (rounds more : List Round) (after : Certificates)
    → risen_by (rounds ++ more) after ≡ risen_by rounds (risen_by more after)
risen_append [] more after = refl
risen_append (round ∷ rounds) more after = search (rules, risen_append rounds more after)

-- What is behind rounds is in reach where all is.
pub reach_behind : (rising : Rising) (rounds : List Round) (after : Certificates)
    → AreInReach rising (risen_by rounds after) → AreInReach rising after
reach_behind rising [] after reach = reach
reach_behind rising (round ∷ rounds) after reach = reach_behind rising rounds after reach.1

-- Rounds up to a certificate are a front of those up to a later one.
front_behind : (rounds : List Round) (cert : Lists) (others : Certificates) → cert ≡ first_of others
    → AreFront (risen_by rounds (alone cert)) (risen_by rounds others)
front_behind [] cert others first = first
front_behind (round ∷ rounds) cert others first = (risen_by rounds others, refl, front_behind rounds cert others first)

module _ (wish : Wish) (layout : Layout) (settings : Settings) where
  -- What is kept behind rounds is kept with them, where floors rise as these certificates say.
  kept_led : (rising : Rising) (rounds : List Round) (floors : Lengths) (last after : Certificates)
      → AreInReach rising (risen_by rounds last) → AreLed (IsCertified wish layout settings) layout rounds floors
      → AreKeptBy (IsCertified wish layout settings) layout (floors_behind rounds floors) rising after
      → AreKeptBy (IsCertified wish layout settings) layout floors rising (risen_by rounds after)
  kept_led rising [] floors last after reach led kept = kept
  kept_led rising (round ∷ rounds) floors last after reach led kept =
      search (rules, kept_led rising rounds (risen_floors round.rises.items floors) last after reach.1 led.2 kept)

  -- What is wrong behind rounds that lead there is wrong with them in front.
  wrong_behind : (rounds : List Round) (floors : Lengths) (n m : ℕ) (after : Certificates) (why : Why)
      → m ≡ n + length rounds → AreLed (IsCertified wish layout settings) layout rounds floors
      → AreWrong wish layout settings (floors_behind rounds floors) m after why
      → AreWrong wish layout settings floors n (risen_by rounds after) why
  wrong_behind [] floors n m after why is led wrong =
      subst (λ (k : ℕ). AreWrong wish layout settings floors k after why) (let same : m ≡ n = omega arith in same) wrong
  wrong_behind (round ∷ rounds) floors n m after why is led wrong =
      let floors = risen_floors round.rises.items floors in
      inr (led.0, inr (led.1, wrong_behind rounds floors (n + 1) m after why (omega arith) led.2 wrong))

-- ---- Certificates that give no lengths.

-- A certificate in reach can be checked.
pub checkable : {wish : Wish} {layout : Layout} {settings : Settings} {floors : Lengths} {net : Network} {cert : Lists}
    → IsNetWith wish layout settings floors net → IsInReach cert → IsCheckable layout net cert
checkable {wish} {settings = settings} {floors = floors} for reach =
    record { wish = wish; settings = settings; floors = floors; of_layout = for; reach = reach }

-- Those of which one gives none are not used.
pub unused_by : (wish : Wish) (layout : Layout) (net : Network) (settings : Settings) (told : Certificates)
    (cert : Cert) (fail : CheckFail) → ((why : Why) → GivesNone layout net cert (NotAccepted why)
    → AreWrong wish layout settings (given_floors settings) 1 told why)
    → GivesNone layout net cert fail → IsUnused wish layout settings told fail
unused_by wish layout net settings told cert (NotAccepted why) wrong none = wrong why none
unused_by wish layout net settings told cert _ wrong none = search none

module _ {wish : Wish} {layout : Layout} {net : Network} where
  -- A certificate that gives no lengths is wrong.
  pub wrong_of : {floors : Lengths} {settings : Settings} (cert : Cert) (why : Why) → IsNetWith wish layout settings
      floors net → GivesNone layout net cert (NotAccepted why) → IsWrong wish layout settings floors (lists_of cert) why
  wrong_of h1 h2 h3 = search (rules, solved)

  -- Lengths that double an edge are doubling.
  pub doubling_of : {floors : Lengths} {settings : Settings} (cert : Cert) {u v : ℕ}
      → IsNetWith wish layout settings floors net → IsSolution net (certificate cert)
      → Gives layout net cert.x.items (Doubled u v) → IsDoubling wish layout settings floors (lists_of cert)
  doubling_of cert for is gives = search (rules, solved)

-- ---- Behind rounds that are passed.

-- Floors that have to rise are those of arcs.
pub needed_there : {gluing : Gluing} {lengths : Lengths} {rises : List Rise} → AreNeeded gluing lengths rises
    → (k : ℕ) (d : Rise) → k < length rises → (slice_index_or rises k d).arc < gluing.arcs
needed_there {gluing} {rises = rises} needed k d low =
    subst (λ (r : Rise). r.arc < gluing.arcs) (get_or_default rises k _ d low) (needed.each k low).there

-- No round is passed at the beginning.
pub passed_none : {wish : Wish} {layout : Layout} {settings : Settings} {net : Network}
    → IsNetFor wish layout settings net → ArePassed wish layout settings net [] net
passed_none for = record { led = tt; risen = for; even = λ x. refl }

module _ {wish : Wish} {layout : Layout} {settings : Settings} {start : Network} {rounds : List Round} {net : Network}
    (passed : ArePassed wish layout settings start rounds net) where
  abbrev floors : Lengths
  floors = floors_behind rounds (given_floors settings)

  -- The rounds in front are numbered from 1.
  wrong_there : (after : Certificates) (why : Why) → AreWrong wish layout settings floors (1 + length rounds) after why
      → AreWrong wish layout settings (given_floors settings) 1 (risen_by rounds after) why
  wrong_there after why wrong = search (rules, wrong_behind)

  -- The certificate behind them gives no lengths.
  pub unused_there : (after : Certificates) (cert : Cert) (fail : CheckFail) → lists_of cert ≡ first_of after
      → GivesNone layout net cert fail → IsUnused wish layout settings (risen_by rounds after) fail
  unused_there after cert fail first = unused_by wish layout net settings (risen_by rounds after) cert fail
      (λ why none. search (rules, wrong_there after why, first, wrong_of cert why passed.risen none))

  -- It is the last, and its lengths double an edge.
  pub unused_last : (cert : Cert) {u v : ℕ} → IsSolution net (certificate cert)
      → Gives layout net cert.x.items (Doubled u v)
      → IsUnused wish layout settings (risen_by rounds (alone (lists_of cert))) (NotAccepted (why.Doubled u v))
  unused_last cert {u} {v} solution gives = search (rules, wrong_there, inr, solved)

  -- The floors that rise behind it do not have to.
  pub unused_rises : (round : Round) (after : Certificates) (number : ℕ) (fail : CheckFail) → number ≡ length rounds + 2
      → IsDoubling wish layout settings floors (lists_of round.cert) → IsNoRise layout round number fail
      → IsUnused wish layout settings (risen_by rounds (risen (lists_of round.cert) round.rises.items after)) fail
  unused_rises round after number (NotAccepted why) numbered doubling none = search (rules, wrong_there)
  unused_rises round after number _ numbered doubling none = search none

  -- One more is passed.
  pub passed_more : (round : Round) (next : Network) {u v : ℕ} → IsSolution net (certificate round.cert)
      → Gives layout net round.cert.x.items (Doubled u v)
      → AreNeeded (gluing_of layout) (lengths_in round.cert.x.items) round.rises.items
      → HasFloors net (risen_floors round.rises.items (floor_of net.arcs)) next
      → ArePassed wish layout settings start (rounds ++ round ∷ []) next
  passed_more round next solution gives needed has = record {
    led = led_more (IsCertified wish layout settings) layout rounds round (given_floors settings) passed.led
        (doubling_of round.cert passed.risen solution gives) needed;
    risen = rw behind_more
        (net_risen layout settings round.cert.x.items round.rises.items net next passed.risen needed has);
    even = λ x. floors_deviation net (risen_floors round.rises.items (floor_of net.arcs)) next has x ∙ passed.even x;
  }

  -- The certificate behind them is used.
  pub checked_there : (rising : Rising) (after : Certificates) (cert : Cert) (certs : Certs) {tables : Tables}
      {deviates : ℕ} → lists_of cert ≡ first_of after → AreInReach rising (risen_by rounds after)
      → certificates_of certs ≡ risen_by rounds (alone (lists_of cert)) → IsSolution net (certificate cert)
      → Gives layout net cert.x.items (Whole tables deviates) → IsChecked wish layout start
      (record { settings = settings; rising = rising }) (risen_by rounds after)
      (record {
        remesh = record {
          terms = record { settings = settings; rising = rising };
          certs = certs;
          numbering
              = tables;
        };
        deviation = deviates;
      })
  checked_there rising after cert certs {tables} first reach same solution gives =
      let last : lists_of cert ≡ used (certificates_of certs) =
      sym (ap used same ∙ used_behind rounds (alone (lists_of cert))) in
      record {
        kept = keeps layout settings rising (certificates_of certs) cert.x.items tables (ap (λ (c : Lists). c.x) last)
            (rw same (kept_led wish layout settings rising rounds (given_floors settings) after (alone (lists_of cert))
            reach passed.led (solved layout settings net cert passed.risen solution))) gives.0;
        found = refl;
        front = rw same (front_behind rounds (lists_of cert) after first);
        deviates = gives.1
            ∙ (passed.even (entries cert.x.items) ∙ ap (λ (c : Lists). deviation start (entries c.x)) last);
      }
