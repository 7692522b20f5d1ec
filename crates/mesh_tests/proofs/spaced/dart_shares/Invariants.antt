use Rattle.{std.proofs.Common.◌<◌, std.specs.List.All, def_remesh.specs.declared.limits.TheConstants.MAX_SHARE}

abbrev pub invariant-loop-share : Rattle.mesh_tests.proofs.spaced.dart_shares.Given.invariant-loop-share
invariant-loop-share l = All (λ share. share < MAX_SHARE) l.shares.items
