use Rattle.std.proofs.Common.{Option, None, ◌≡◌, ◌≢◌, ℕ, ◌*◌, ◌<◌, ◌≤◌, ◌∙◌, length, sym, ap, subst}
use Rattle.def_matching.specs.{Dual.dual, Matching.WeightedGraph, Matching.IsSmallGraph}
use Rattle.def_forest.specs.Tables.{ForestTables, GraphSize, forest_of, IsValidFor}
use Rattle.{def_forest.specs.Written.IsDualOf, qm_forest.specs.Rounds.IsSoundFor}
use Rattle.qm_forest.proofs.{Chosens.perfect, Outlined.dual_is, Outlined.few_is, Outlined.says_yes}
use Rattle.qm_forest.proofs.forest.Forest.into_parts.Goals as goal

-- A forest whose room was taken out stays sound.
still : {g : WeightedGraph} {t u : ForestTables} (room : Option GraphSize) → u ≡ record t { room = room }
    → IsSmallGraph g → IsValidFor g t → IsSoundFor g u
still room same small valid = rw same (assumption (small, valid))

pub write_down-requires : goal.write_down-requires
write_down-requires c =
    let same = ap (λ (t : ForestTables). record t { room = c.replace.new.dest }) c.self.view_is in
    let seen = ap (λ (t : ForestTables). t.room) c.self.view_is in
    let it = c.requires.valid in
    record { valid = (it.0, still _ same it.1 it.2, cc (c.in-Some.is, c.replace.ensures.value, seen, it.2.room)) }

pub returns : goal.returns
returns c =
    let same = ap (λ (t : ForestTables). record t { room = c.replace.new.dest }) c.self.view_is in
    let known = c.write_down.ensures.laminar in
    let down = c.write_down.ensures.outline.1 in
    let chosen = c.write_down.ensures.chosen in
    let sound = still _ same c.requires.valid.1 c.requires.valid.2 in
    record {
      yes = λ g small valid. says_yes known down (still _ same small valid);
      dual = subst (λ (t : ForestTables). IsDualOf (length t.hand) (forest_of t) (dual c.write_down.result.1)) same
          (dual_is known down sound);
      few = subst (λ (t : ForestTables). 2 * length (dual c.write_down.result.1).z ≤ length t.hand) same
          (few_is known down);
      perfect = λ g small valid matched. (let sound = still _ same small valid in
          let it = perfect known sound chosen.1.room.marks chosen.2 chosen.1.done chosen.1.ended
          (subst (λ (t : ForestTables). (v : ℕ) → v < g.n → (forest_of t).mate ((forest_of t).out v) ≢ None) (sym same)
          matched) in
          (it.0, (dual_is known down sound).sum ∙ it.1));
    }
