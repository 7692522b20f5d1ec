-- Rows: definitions at examples, with values from a plain search that was written from the text of the rules alone.
use Rattle.std.proofs.Common.{◌≡◌, ℕ, Bool, true, false, Option, [], ◌∷◌, ◌++◌, length, replicate, Some, None, pos}
use Rattle.def_flow.specs.{Network.Network, Network.tangle_number, Admissible.deviation, Admissible.entries}
use Rattle.def_flow.specs.{Units.on_cost, MatchingGraph.link, MatchingGraph.matching_graph, declared.net.Arc.Arc}
use Rattle.def_flow.specs.declared.cert.CertVerdict.TheVariants.{Yes, Count, Below, Unequal, Dual, Sums}
use Rattle.{std.proofs.Common.negsuc, std.proofs.Common.refl, def_flow.specs.declared.net.End.End}
use Rattle.{def_flow.specs.Accepted.cert_verdict, def_matching.specs.declared.weighted.Verdict.TheVariants.Short}

abbrev pub end : ℕ → Bool → End
end v s = record { node = v; plus = s }

abbrev pub arc : End → Option End → ℕ → ℕ → Arc
arc left right old weight = record { left = left; right = right; old = old; weight = weight; floor = 1 }

-- The network of one quad: four arcs with one end each.
abbrev pub unit_quad : Network
unit_quad = record {
  nodes = 2;
  p = 1;
  q = 1;
  arcs = arc (end 0 true) None 1 1 ∷ arc (end 1 true) None 1 1
      ∷ arc (end 0 false) None 1 1 ∷ arc (end 1 false) None 1 1 ∷ [];
}

-- Its graph has 34 vertices and 51 edges, and no lone vertex.
unit_quad-edges : length (matching_graph unit_quad 1 (1 ∷ 1 ∷ 1 ∷ 1 ∷ [])).edges ≡ 51
unit_quad-edges = refl

-- All its edges.
unit_quad-graph : matching_graph unit_quad 1 (1 ∷ 1 ∷ 1 ∷ 1 ∷ []) ≡ record {
  n = 34;
  edges =
      link 4 0 (pos 1) ∷ link 4 1 (pos 1) ∷ link 4 5 (pos 0) ∷ link 6 0 (pos 1) ∷ link 6 1 (pos 1) ∷ link 6 7 (pos 0)
      ∷ link 8 2 (pos 1) ∷ link 8 3 (pos 1) ∷ link 8 9 (pos 0) ∷ link 10 2 (pos 1) ∷ link 10 3 (pos 1)
      ∷ link 10 11 (pos 0) ∷ link 12 0 (pos 0) ∷ link 12 1 (pos 0) ∷ link 12 13 (pos 1) ∷ link 14 0 (pos 0)
      ∷ link 14 1 (pos 0) ∷ link 14 15 (pos 1) ∷ link 16 2 (pos 0) ∷ link 16 3 (pos 0) ∷ link 16 17 (pos 1)
      ∷ link 18 2 (pos 0) ∷ link 18 3 (pos 0) ∷ link 18 19 (pos 1) ∷ link 5 20 (pos 0) ∷ link 20 21 (pos 0)
      ∷ link 21 7 (pos 0) ∷ link 7 22 (pos 0) ∷ link 21 22 (pos 0) ∷ link 22 23 (pos 0) ∷ link 23 9 (pos 0)
      ∷ link 9 24 (pos 0) ∷ link 23 24 (pos 0) ∷ link 24 25 (pos 0) ∷ link 25 11 (pos 0) ∷ link 11 26 (pos 0)
      ∷ link 25 26 (pos 0) ∷ link 26 27 (pos 0) ∷ link 27 13 (pos 0) ∷ link 13 28 (pos 0) ∷ link 27 28 (pos 0)
      ∷ link 28 29 (pos 0) ∷ link 29 15 (pos 0) ∷ link 15 30 (pos 0) ∷ link 29 30 (pos 0) ∷ link 30 31 (pos 0)
      ∷ link 31 17 (pos 0) ∷ link 17 32 (pos 0) ∷ link 31 32 (pos 0) ∷ link 32 33 (pos 0) ∷ link 33 19 (pos 0) ∷ [];
}
unit_quad-graph = refl

unit_quad-on_cost : on_cost unit_quad 1 (1 ∷ 1 ∷ 1 ∷ 1 ∷ []) ≡ pos 0
unit_quad-on_cost = refl

unit_quad-deviation : deviation unit_quad (entries (1 ∷ 1 ∷ 1 ∷ 1 ∷ [])) ≡ 0
unit_quad-deviation = refl

unit_quad-tangle : tangle_number unit_quad ≡ 128
unit_quad-tangle = refl

-- All lengths 1, and all numbers of the dual 0: accepted.
quad_accepted : cert_verdict unit_quad (record {
  x = 1 ∷ 1 ∷ 1 ∷ 1 ∷ [];
  dual =
      record { y = replicate 34 (pos 0); z = []; up = replicate 34 0 };
}) ≡ Yes (pos 0)
quad_accepted = refl

-- A length is missing.
quad_count : cert_verdict unit_quad (record {
  x = 1 ∷ 1 ∷ 1 ∷ [];
  dual = record {
    y = replicate 34 (pos 0);
    z = [];
    up =
        replicate 34 0;
  };
}) ≡ Count 4 3
quad_count = refl

-- The first length is 0.
quad_below : cert_verdict unit_quad (record {
  x = 0 ∷ 1 ∷ 1 ∷ 1 ∷ [];
  dual =
      record { y = replicate 34 (pos 0); z = []; up = replicate 34 0 };
}) ≡ Below 0 0
quad_below = refl

-- The first length is 2, across from 1.
quad_unequal : cert_verdict unit_quad (record {
  x = 2 ∷ 1 ∷ 1 ∷ 1 ∷ [];
  dual =
      record { y = replicate 34 (pos 0); z = []; up = replicate 34 0 };
}) ≡ Unequal 0 2 1
quad_unequal = refl

-- The number of the first vertex is 1, so the first free edge there has too great a load.
quad_short : cert_verdict unit_quad (record {
  x = 1 ∷ 1 ∷ 1 ∷ 1 ∷ [];
  dual =
      record { y = pos 1 ∷ replicate 33 (pos 0); z = []; up = replicate 34 0 };
}) ≡ Dual (Short 12 (pos 1) (pos 0))
quad_short = refl

-- The number of the last vertex is -1, and so is the sum.
quad_sums : cert_verdict unit_quad (record {
  x = 1 ∷ 1 ∷ 1 ∷ 1 ∷ [];
  dual =
      record { y = replicate 33 (pos 0) ++ negsuc 0 ∷ []; z = []; up = replicate 34 0 };
}) ≡ Sums (negsuc 0) (pos 0)
quad_sums = refl

-- A network with units of all five shapes, and with both ends of an arc at one node, once with like signs and once with
-- unlike ones.
abbrev pub five_shapes : Network
five_shapes = record {
  nodes = 3;
  p = 2;
  q = 3;
  arcs = arc (end 0 true) (Some (end 1 false)) 5 2
      ∷ arc (end 1 true) (Some (end 1 true)) 2 1 ∷ arc (end 2 false) (Some (end 2 false)) 3 3
      ∷ arc (end 0 false) (Some (end 2 true)) 4 1 ∷ arc (end 1 false) (Some (end 1 true)) 3 2 ∷ arc (end 0 true) None 3
      1 ∷ arc (end 2 false) None 2 4 ∷ [];
}

five_shapes-tangle : tangle_number five_shapes ≡ 800
five_shapes-tangle = refl

-- With the lone vertex.
with_lone-graph : matching_graph five_shapes 1 (2 ∷ 1 ∷ 1 ∷ 4 ∷ 2 ∷ 2 ∷ 2 ∷ []) ≡ record {
  n = 58;
  edges =
      link 17 0 (negsuc 5) ∷ link 17 1 (negsuc 5) ∷ link 17 2 (negsuc 5) ∷ link 17 3 (negsuc 5) ∷ link 17 4 (pos 0)
      ∷ link 17 5 (pos 0) ∷ link 17 6 (pos 0) ∷ link 17 7 (pos 0) ∷ link 17 8 (pos 0) ∷ link 18 0 (negsuc 5)
      ∷ link 18 1 (negsuc 5) ∷ link 18 2 (negsuc 5) ∷ link 18 3 (negsuc 5) ∷ link 18 4 (pos 0) ∷ link 18 5 (pos 0)
      ∷ link 18 6 (pos 0) ∷ link 18 7 (pos 0) ∷ link 18 8 (pos 0) ∷ link 19 0 (pos 2) ∷ link 19 1 (pos 2)
      ∷ link 19 2 (pos 2) ∷ link 19 3 (pos 2) ∷ link 19 4 (pos 0) ∷ link 19 5 (pos 0) ∷ link 19 6 (pos 0)
      ∷ link 19 7 (pos 0) ∷ link 19 8 (pos 0) ∷ link 20 4 (pos 1) ∷ link 20 5 (pos 1) ∷ link 20 6 (pos 1)
      ∷ link 20 7 (pos 1) ∷ link 20 8 (pos 1) ∷ link 21 4 (pos 0) ∷ link 21 5 (pos 0) ∷ link 21 6 (pos 0)
      ∷ link 21 7 (pos 0) ∷ link 21 8 (pos 0) ∷ link 20 21 (pos 0) ∷ link 22 4 (pos 3) ∷ link 22 5 (pos 3)
      ∷ link 22 6 (pos 3) ∷ link 22 7 (pos 3) ∷ link 22 8 (pos 3) ∷ link 23 4 (pos 0) ∷ link 23 5 (pos 0)
      ∷ link 23 6 (pos 0) ∷ link 23 7 (pos 0) ∷ link 23 8 (pos 0) ∷ link 22 23 (pos 0) ∷ link 24 9 (pos 0)
      ∷ link 24 10 (pos 0) ∷ link 24 11 (pos 0) ∷ link 24 12 (pos 0) ∷ link 24 13 (pos 0) ∷ link 24 14 (pos 0)
      ∷ link 24 15 (pos 0) ∷ link 24 16 (pos 0) ∷ link 25 9 (pos 0) ∷ link 25 10 (pos 0) ∷ link 25 11 (pos 0)
      ∷ link 25 12 (pos 0) ∷ link 25 13 (pos 0) ∷ link 25 14 (pos 0) ∷ link 25 15 (pos 0) ∷ link 25 16 (pos 0)
      ∷ link 24 25 (negsuc 8) ∷ link 26 9 (pos 0) ∷ link 26 10 (pos 0) ∷ link 26 11 (pos 0) ∷ link 26 12 (pos 0)
      ∷ link 26 13 (pos 0) ∷ link 26 14 (pos 0) ∷ link 26 15 (pos 0) ∷ link 26 16 (pos 0) ∷ link 27 9 (pos 0)
      ∷ link 27 10 (pos 0) ∷ link 27 11 (pos 0) ∷ link 27 12 (pos 0) ∷ link 27 13 (pos 0) ∷ link 27 14 (pos 0)
      ∷ link 27 15 (pos 0) ∷ link 27 16 (pos 0) ∷ link 26 27 (pos 9) ∷ link 28 0 (pos 0) ∷ link 28 1 (pos 0)
      ∷ link 28 2 (pos 0) ∷ link 28 3 (pos 0) ∷ link 28 9 (negsuc 0) ∷ link 28 10 (negsuc 0) ∷ link 28 11 (negsuc 0)
      ∷ link 28 12 (negsuc 0) ∷ link 28 13 (negsuc 0) ∷ link 28 14 (negsuc 0) ∷ link 28 15 (negsuc 0)
      ∷ link 28 16 (negsuc 0) ∷ link 29 0 (pos 0) ∷ link 29 1 (pos 0) ∷ link 29 2 (pos 0) ∷ link 29 3 (pos 0)
      ∷ link 29 9 (pos 3) ∷ link 29 10 (pos 3) ∷ link 29 11 (pos 3) ∷ link 29 12 (pos 3) ∷ link 29 13 (pos 3)
      ∷ link 29 14 (pos 3) ∷ link 29 15 (pos 3) ∷ link 29 16 (pos 3) ∷ link 30 0 (pos 0) ∷ link 30 1 (pos 0)
      ∷ link 30 2 (pos 0) ∷ link 30 3 (pos 0) ∷ link 30 9 (pos 3) ∷ link 30 10 (pos 3) ∷ link 30 11 (pos 3)
      ∷ link 30 12 (pos 3) ∷ link 30 13 (pos 3) ∷ link 30 14 (pos 3) ∷ link 30 15 (pos 3) ∷ link 30 16 (pos 3)
      ∷ link 31 0 (pos 0) ∷ link 31 1 (pos 0) ∷ link 31 2 (pos 0) ∷ link 31 3 (pos 0) ∷ link 31 9 (pos 3)
      ∷ link 31 10 (pos 3) ∷ link 31 11 (pos 3) ∷ link 31 12 (pos 3) ∷ link 31 13 (pos 3) ∷ link 31 14 (pos 3)
      ∷ link 31 15 (pos 3) ∷ link 31 16 (pos 3) ∷ link 32 4 (pos 0) ∷ link 32 5 (pos 0) ∷ link 32 6 (pos 0)
      ∷ link 32 7 (pos 0) ∷ link 32 8 (pos 0) ∷ link 32 4 (negsuc 5) ∷ link 32 5 (negsuc 5) ∷ link 32 6 (negsuc 5)
      ∷ link 32 7 (negsuc 5) ∷ link 32 8 (negsuc 5) ∷ link 33 4 (pos 0) ∷ link 33 5 (pos 0) ∷ link 33 6 (pos 0)
      ∷ link 33 7 (pos 0) ∷ link 33 8 (pos 0) ∷ link 33 4 (pos 6) ∷ link 33 5 (pos 6) ∷ link 33 6 (pos 6)
      ∷ link 33 7 (pos 6) ∷ link 33 8 (pos 6) ∷ link 34 4 (pos 0) ∷ link 34 5 (pos 0) ∷ link 34 6 (pos 0)
      ∷ link 34 7 (pos 0) ∷ link 34 8 (pos 0) ∷ link 34 4 (pos 6) ∷ link 34 5 (pos 6) ∷ link 34 6 (pos 6)
      ∷ link 34 7 (pos 6) ∷ link 34 8 (pos 6) ∷ link 35 0 (negsuc 2) ∷ link 35 1 (negsuc 2) ∷ link 35 2 (negsuc 2)
      ∷ link 35 3 (negsuc 2) ∷ link 35 36 (pos 0) ∷ link 37 0 (pos 3) ∷ link 37 1 (pos 3) ∷ link 37 2 (pos 3)
      ∷ link 37 3 (pos 3) ∷ link 37 38 (pos 0) ∷ link 39 0 (pos 3) ∷ link 39 1 (pos 3) ∷ link 39 2 (pos 3)
      ∷ link 39 3 (pos 3) ∷ link 39 40 (pos 0) ∷ link 41 9 (pos 0) ∷ link 41 10 (pos 0) ∷ link 41 11 (pos 0)
      ∷ link 41 12 (pos 0) ∷ link 41 13 (pos 0) ∷ link 41 14 (pos 0) ∷ link 41 15 (pos 0) ∷ link 41 16 (pos 0)
      ∷ link 41 42 (pos 4) ∷ link 43 9 (pos 0) ∷ link 43 10 (pos 0) ∷ link 43 11 (pos 0) ∷ link 43 12 (pos 0)
      ∷ link 43 13 (pos 0) ∷ link 43 14 (pos 0) ∷ link 43 15 (pos 0) ∷ link 43 16 (pos 0) ∷ link 43 44 (pos 12)
      ∷ link 45 9 (pos 0) ∷ link 45 10 (pos 0) ∷ link 45 11 (pos 0) ∷ link 45 12 (pos 0) ∷ link 45 13 (pos 0)
      ∷ link 45 14 (pos 0) ∷ link 45 15 (pos 0) ∷ link 45 16 (pos 0) ∷ link 45 46 (pos 12) ∷ link 47 36 (pos 0)
      ∷ link 36 48 (pos 0) ∷ link 47 48 (pos 0) ∷ link 48 49 (pos 0) ∷ link 49 38 (pos 0) ∷ link 38 50 (pos 0)
      ∷ link 49 50 (pos 0) ∷ link 50 51 (pos 0) ∷ link 51 40 (pos 0) ∷ link 40 52 (pos 0) ∷ link 51 52 (pos 0)
      ∷ link 52 53 (pos 0) ∷ link 53 42 (pos 0) ∷ link 42 54 (pos 0) ∷ link 53 54 (pos 0) ∷ link 54 55 (pos 0)
      ∷ link 55 44 (pos 0) ∷ link 44 56 (pos 0) ∷ link 55 56 (pos 0) ∷ link 56 57 (pos 0) ∷ link 57 46 (pos 0) ∷ [];
}
with_lone-graph = refl

with_lone-on_cost : on_cost five_shapes 1 (2 ∷ 1 ∷ 1 ∷ 4 ∷ 2 ∷ 2 ∷ 2 ∷ []) ≡ negsuc 8
with_lone-on_cost = refl

with_lone-deviation : deviation five_shapes (entries (2 ∷ 1 ∷ 1 ∷ 4 ∷ 2 ∷ 2 ∷ 2 ∷ [])) ≡ 30
with_lone-deviation = refl

-- Without it, and with units of two.
without_lone-graph : matching_graph five_shapes 2 (2 ∷ 1 ∷ 1 ∷ 3 ∷ 2 ∷ 1 ∷ 1 ∷ []) ≡ record {
  n = 42;
  edges =
      link 13 0 (negsuc 3) ∷ link 13 1 (negsuc 3) ∷ link 13 2 (pos 0) ∷ link 13 3 (pos 0) ∷ link 13 4 (pos 0)
      ∷ link 13 5 (pos 0) ∷ link 14 0 (pos 12) ∷ link 14 1 (pos 12) ∷ link 14 2 (pos 0) ∷ link 14 3 (pos 0)
      ∷ link 14 4 (pos 0) ∷ link 14 5 (pos 0) ∷ link 15 2 (pos 4) ∷ link 15 3 (pos 4) ∷ link 15 4 (pos 4)
      ∷ link 15 5 (pos 4) ∷ link 16 2 (pos 0) ∷ link 16 3 (pos 0) ∷ link 16 4 (pos 0) ∷ link 16 5 (pos 0)
      ∷ link 15 16 (pos 0) ∷ link 17 2 (pos 6) ∷ link 17 3 (pos 6) ∷ link 17 4 (pos 6) ∷ link 17 5 (pos 6)
      ∷ link 18 2 (pos 0) ∷ link 18 3 (pos 0) ∷ link 18 4 (pos 0) ∷ link 18 5 (pos 0) ∷ link 17 18 (pos 0)
      ∷ link 19 6 (pos 0) ∷ link 19 7 (pos 0) ∷ link 19 8 (pos 0) ∷ link 19 9 (pos 0) ∷ link 19 10 (pos 0)
      ∷ link 19 11 (pos 0) ∷ link 19 12 (pos 0) ∷ link 20 6 (pos 0) ∷ link 20 7 (pos 0) ∷ link 20 8 (pos 0)
      ∷ link 20 9 (pos 0) ∷ link 20 10 (pos 0) ∷ link 20 11 (pos 0) ∷ link 20 12 (pos 0) ∷ link 19 20 (pos 0)
      ∷ link 21 6 (pos 0) ∷ link 21 7 (pos 0) ∷ link 21 8 (pos 0) ∷ link 21 9 (pos 0) ∷ link 21 10 (pos 0)
      ∷ link 21 11 (pos 0) ∷ link 21 12 (pos 0) ∷ link 22 6 (pos 0) ∷ link 22 7 (pos 0) ∷ link 22 8 (pos 0)
      ∷ link 22 9 (pos 0) ∷ link 22 10 (pos 0) ∷ link 22 11 (pos 0) ∷ link 22 12 (pos 0) ∷ link 21 22 (pos 18)
      ∷ link 23 0 (pos 0) ∷ link 23 1 (pos 0) ∷ link 23 6 (negsuc 3) ∷ link 23 7 (negsuc 3) ∷ link 23 8 (negsuc 3)
      ∷ link 23 9 (negsuc 3) ∷ link 23 10 (negsuc 3) ∷ link 23 11 (negsuc 3) ∷ link 23 12 (negsuc 3) ∷ link 24 0 (pos 0)
      ∷ link 24 1 (pos 0) ∷ link 24 6 (pos 6) ∷ link 24 7 (pos 6) ∷ link 24 8 (pos 6) ∷ link 24 9 (pos 6)
      ∷ link 24 10 (pos 6) ∷ link 24 11 (pos 6) ∷ link 24 12 (pos 6) ∷ link 25 0 (pos 0) ∷ link 25 1 (pos 0)
      ∷ link 25 6 (pos 6) ∷ link 25 7 (pos 6) ∷ link 25 8 (pos 6) ∷ link 25 9 (pos 6) ∷ link 25 10 (pos 6)
      ∷ link 25 11 (pos 6) ∷ link 25 12 (pos 6) ∷ link 26 2 (pos 0) ∷ link 26 3 (pos 0) ∷ link 26 4 (pos 0)
      ∷ link 26 5 (pos 0) ∷ link 26 2 (pos 12) ∷ link 26 3 (pos 12) ∷ link 26 4 (pos 12) ∷ link 26 5 (pos 12)
      ∷ link 27 2 (pos 0) ∷ link 27 3 (pos 0) ∷ link 27 4 (pos 0) ∷ link 27 5 (pos 0) ∷ link 27 2 (pos 12)
      ∷ link 27 3 (pos 12) ∷ link 27 4 (pos 12) ∷ link 27 5 (pos 12) ∷ link 28 0 (pos 0) ∷ link 28 1 (pos 0)
      ∷ link 28 29 (pos 0) ∷ link 30 0 (pos 6) ∷ link 30 1 (pos 6) ∷ link 30 31 (pos 0) ∷ link 32 6 (pos 0)
      ∷ link 32 7 (pos 0) ∷ link 32 8 (pos 0) ∷ link 32 9 (pos 0) ∷ link 32 10 (pos 0) ∷ link 32 11 (pos 0)
      ∷ link 32 12 (pos 0) ∷ link 32 33 (pos 16) ∷ link 34 6 (pos 0) ∷ link 34 7 (pos 0) ∷ link 34 8 (pos 0)
      ∷ link 34 9 (pos 0) ∷ link 34 10 (pos 0) ∷ link 34 11 (pos 0) ∷ link 34 12 (pos 0) ∷ link 34 35 (pos 24)
      ∷ link 29 36 (pos 0) ∷ link 36 37 (pos 0) ∷ link 37 31 (pos 0) ∷ link 31 38 (pos 0) ∷ link 37 38 (pos 0)
      ∷ link 38 39 (pos 0) ∷ link 39 33 (pos 0) ∷ link 33 40 (pos 0) ∷ link 39 40 (pos 0) ∷ link 40 41 (pos 0)
      ∷ link 41 35 (pos 0) ∷ [];
}
without_lone-graph = refl

without_lone-on_cost : on_cost five_shapes 2 (2 ∷ 1 ∷ 1 ∷ 3 ∷ 2 ∷ 1 ∷ 1 ∷ []) ≡ negsuc 3
without_lone-on_cost = refl

without_lone-deviation : deviation five_shapes (entries (2 ∷ 1 ∷ 1 ∷ 3 ∷ 2 ∷ 1 ∷ 1 ∷ [])) ≡ 26
without_lone-deviation = refl
