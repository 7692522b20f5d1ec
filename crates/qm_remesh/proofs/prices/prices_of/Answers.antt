use Rattle.std.proofs.Common.{◌≡◌, ◌+◌, ◌∷◌, ◌++◌, [], ℕ, List, ◌∙◌, arith, pos, rules, w64}
use Rattle.std.proofs.lemmas.List.{get_or_append_left, get_or_push, length_push}
use Rattle.def_flow.specs.Network.{arc_at, network, Network}
use Rattle.{std.proofs.lemmas.Int.to_z-of_z, std.specs.Prelude.slice_index}
use Rattle.{std.specs.Prelude.ℤ, qm_remesh.specs.Rounds.price_at, qm_remesh.specs.Rounds.ArePrices}

-- One price more.
prices_more : (net : Network) (xs : List ℕ) (n : ℕ) (prices : List ℤ) (one : ℤ) → ArePrices net xs n prices
    → one ≡ price_at net (arc_at net.arcs n) (slice_index xs n) → ArePrices net xs (n + 1) (prices ++ one ∷ [])
prices_more net xs n prices one are is = record {
  long = cc (length_push prices one, are.long);
  each = λ k low. grind (
    arith,
    get_or_push prices one (pos 0) n are.long,
    get_or_append_left prices (one ∷ []) (pos 0) k,
    are.each k,
  );
}

pub loop-k-preserved : Rattle.qm_remesh.proofs.prices.prices_of.Goals.loop-k-preserved
loop-k-preserved c = rw c.in_ok-push.ensures.items (prices_more (network c.args.net.now.whole.now) c.args.x.now
    c.loop-k.k c.loop-k.prices.items _ c.loop-k.invariant (to_z-of_z w64 c.price_of.result (search rules)
    ∙ c.price_of.ensures))
