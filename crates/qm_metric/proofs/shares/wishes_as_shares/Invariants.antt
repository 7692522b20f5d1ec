use Rattle.std.{proofs.Common.◌≡◌, proofs.Common.◌<◌, proofs.Common.◌^◌, proofs.Common.take, specs.List.All}

abbrev pub invariant-loop-wish : Rattle.qm_metric.proofs.shares.wishes_as_shares.Given.invariant-loop-wish
invariant-loop-wish l =
    record { same : l.shares.items ≡ take l.wish-index l.wishes; small : All (λ share. share < 2 ^ 62) l.shares.items }
