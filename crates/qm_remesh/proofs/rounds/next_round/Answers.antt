use Rattle.std.proofs.Common.{◌≡◌, length, sym, subst, arith}
use Rattle.def_remesh.specs.{NewPoints.lengths_in, Rises.AreNeeded}
use Rattle.qm_layoutnet.proofs.Floors.{floor_high, floors_even}
use Rattle.remesh_laws.proofs.ReadAgain.{net_risen, arcs_few}
use Rattle.qm_remesh.proofs.Leading.{all_there, led_lengths, led_long, led_on, room_less}
use Rattle.{def_certtext.specs.declared.certs.Round.Round, def_layout.specs.Layouts.gluing_of}
use Rattle.qm_remesh.proofs.rounds.next_round.Goals as goal

pub invariant_of-bounded : goal.invariant_of-bounded
invariant_of-bounded c = record { bounds = (c.requires.led.2.behind _ c.requires.led.1.for).bounds }

pub prices_of-requires : goal.prices_of-requires
prices_of-requires c = rw c.deref.ensures.value c.requires.led.2.solved.lengths

pub rises_over-requires : goal.rises_over-requires
rises_over-requires c =
    let long : length c.deref-2.result.now ≡ length c.args.cut.now.layout.arcs =
    led_long c.requires.led.1 c.requires.led.2 c.deref-2.ensures.value in
    let many = c.requires.led.2.solved.accepted.count in
    record {
      long = long;
      lengths = led_lengths c.requires.led.1 c.requires.led.2 c.deref-2.ensures.value;
      few = omega (arith, long, arcs_few c.args.cut.now.layout (c.requires.led.2.behind _ c.requires.led.1.for).mesh);
      coarse = rw c.deref-2.ensures.value c.requires.coarse;
      doubled = rw c.deref-2.ensures.value c.requires.doubled;
      prices = cc (c.deref-3.ensures.value, c.in_ok-prices.ensures.long, many, c.deref-2.ensures.value);
    }

pub with_rises-higher-requires : goal.with_rises-higher-requires
with_rises-higher-requires c =
    all_there c.args.cut.now.layout c.args.led.cert.x.items (c.requires.led.2.behind _ c.requires.led.1.for).is.long
    (subst (AreNeeded (gluing_of c.args.cut.now.layout) (lengths_in c.args.led.cert.x.items))
    (sym c.deref-4.ensures.value) (rw c.deref-2.ensures.value at c.in_ok-rises.ensures))

-- The floors rise as the lengths need it, and the network is the one with these floors.
pub solve_fit-requires : goal.solve_fit-requires
solve_fit-requires c =
    let needed = rw c.deref-2.ensures.value at c.in_ok-rises.ensures in
    let has = rw c.deref-4.ensures.value at c.with_rises-higher.ensures in
    let net = net_risen _ _ c.args.led.cert.x.items _ _ _ (c.requires.led.2.behind _ c.requires.led.1.for) needed has in
    record {
      fit = c.requires.fit.0;
      net = (c.requires.led.1.wish, _, net, c.requires.led.1.near);
      floors = λ k low. rw c.requires.fit.1 (floor_high _ net.bounds k low);
      even = λ p q scale. floors_even _ _ _ has (c.requires.led.2.even (c.requires.led.1.even p q scale));
    }

pub returns : goal.returns
returns c =
    let needed = rw c.deref-2.ensures.value at c.in_ok-rises.ensures in
    let has = rw c.deref-4.ensures.value at c.with_rises-higher.ensures in
    let round : Round = record { cert = c.args.led.cert; rises = c.in_ok-rises.rises } in
    record {
      led = λ first is. rw c.in_ok-push_round.ensures (led_on round is needed has c.in_ok-next.next c.requires.coarse
          c.requires.doubled c.in_ok-next.ensures);
      risen = room_less round c.requires.led.2 needed has (c.requires.led.2.behind _ c.requires.led.1.for).is.long;
    }
