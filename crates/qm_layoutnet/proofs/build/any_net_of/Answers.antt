use Rattle.std.proofs.Common.{rules, ℕ, ◌*◌, ◌^◌, ◌≤◌, map, length, sym, ◌∙◌, refl, subst, arith}
use Rattle.std.{proofs.lemmas.List.with_items_is, proofs.lemmas.List.length-map, specs.Vec.with_items}
use Rattle.def_layout.specs.{Arcs.path, Arcs.long_at, Layouts.gluing_of, Layouts.layout_of}
use Rattle.qm_layoutnet.{specs.Ends.AreEnds, specs.Ends.PatchesBelow, proofs.Built.all_is}
use Rattle.qm_layoutnet.proofs.{Built.ends_begin, Built.net_is, Whole.few_patches, Whole.lengths_few, Whole.runs_short}
use Rattle.embedding_laws.proofs.Bounds.{laid_of, lengths_of}
use Rattle.{def_math.specs.Counts.count_below, def_cut.specs.Grids.rectangle}
use Rattle.qm_layoutnet.proofs.build.any_net_of.Goals as goal

pub open_arcs-requires : goal.open_arcs-requires
open_arcs-requires c = search (rules, runs_short)

pub put_all_ends-requires-clause-laid : goal.put_all_ends-requires-clause-laid
put_all_ends-requires-clause-laid c = laid_of _ c.requires.layout

pub put_all_ends-requires-clause-few : goal.put_all_ends-requires-clause-few
put_all_ends-requires-clause-few c = few_patches c.args.t.now c.requires.layout

pub overflow_cast-result : goal.overflow_cast-result
overflow_cast-result c = omega (arith, few_patches c.args.t.now c.requires.layout)

pub overflow_mul-result : goal.overflow_mul-result
overflow_mul-result c = omega (arith, few_patches c.args.t.now c.requires.layout)

pub returns : goal.returns
returns c =
    let t = c.args.t.now in
    let p = layout_of t in
    let l = gluing_of p in
    let x = long_at (map path t.arcs.items) in
    let set = c.args.set.now in
    let arcs = (with_items c.in_ok-arcs.arcs c.put_all_ends.new.arcs).items in
    let begun : AreEnds l x set (PatchesBelow 0) c.deref_mut.result.now =
    rw (c.deref_mut.ensures.value, c.in_ok-arcs.ensures, c.deref.ensures.value) (ends_begin l set t.arcs.items refl) in
    let put : AreEnds l x set (PatchesBelow (length t.patches.items)) arcs = rw (with_items_is c.in_ok-arcs.arcs
    c.put_all_ends.new.arcs (c.put_all_ends.auto.arcs ∙ c.deref_mut.ensures.len)) (c.put_all_ends.ensures set begun) in
    let is = net_is l x set (record { nodes = 2 * c.len.result; arcs = arcs; p = set.p; q = set.q })
    (omega (arith, c.len.ensures, t.patches.ok.0, length-map t.patches.items rectangle)) refl refl
    (subst (λ (n : ℕ). AreEnds l x set (PatchesBelow n) arcs) (sym (length-map t.patches.items rectangle)) put) in
    let few : count_below x (length p.arcs) ≤ 2 ^ 23 =
    omega (arith, lengths_few p c.requires.layout, c.requires.layout.mesh.few) in
    let is_all = all_is (laid_of p c.requires.layout) (lengths_of p c.requires.layout) few c.requires.settings
    (λ a low. (c.requires.settings.floor_low, c.requires.settings.floor_high)) is in
    record { net = is; even = is_all.0; bounds = is_all.1; small = is_all.2 }
