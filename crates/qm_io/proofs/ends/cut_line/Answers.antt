use Rattle.std.proofs.Common.{rules, List, ap, drop, sym, take, ◌-◌, ◌∙◌, ◌∷◌, ◌≡◌, ℕ}
use Rattle.def_io.specs.Lines.{tail_of, pieces}
use Rattle.{std.specs.List.flat_map, qm_io.proofs.Cuts.flat-pieces}

-- The two parts of a text are its first piece and the rest.
module _ (bs : List ℕ) {piece rest : List ℕ} (n : ℕ) (front : piece ≡ take n bs) (back : rest ≡ drop n bs)
    (first : pieces bs ≡ take (n - 0) bs ∷ pieces (drop n bs)) where
  is_cut : pieces bs ≡ piece ∷ pieces rest
  is_cut = search rules

  is_rest : rest ≡ tail_of 1 bs
  is_rest = sym (flat-pieces rest) ∙ ap (λ (ps : List (List ℕ)). flat_map (λ p. p) (drop 1 ps)) (sym is_cut)

pub returns-clause-rest : Rattle.qm_io.proofs.ends.cut_line.Goals.returns-clause-rest
returns-clause-rest c = search (rules, is_rest)
