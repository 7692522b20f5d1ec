use Rattle.std.proofs.Common.{◌≡◌, ◌≤◌, ◌+◌, ◌-◌, ◌∷◌, ◌++◌, map}
use Rattle.std.specs.{Prelude.decimal, List.flat_map, List.range_with_len}
use Rattle.def_text.specs.declared.letters.TheConstants.{SPACE}
use Rattle.{def_marks.specs.declared.fail.TheConstants.LINE, qm_marktext.proofs.ArcChains.vertex_text}

abbrev pub invariant-loop-k : Rattle.qm_marktext.proofs.lines.push_arc.Given.invariant-loop-k
invariant-loop-k l = record {
  text : l.text.items ≡ (l.fn.text.items ++ LINE ∷ vertex_text l.fn.arc.first)
      ++ flat_map (λ vertex. SPACE ∷ decimal (vertex + 1)) (map (λ j. l.before + j) (range_with_len 0 (l.k - 1)));
  some : 1 ≤ l.k;
}
