use Rattle.std.proofs.Common.{◌≡◌, ℕ, ◌<◌, ◌+◌, ◌++◌, List, [], map, length, get_or, ap, sym, ◌∙◌, arith}
use Rattle.layout_laws.proofs.Uses.{arcs_of, read_side}
use Rattle.def_layout.specs.{declared.tmesh.Side.Side, declared.tmesh.SideArc.SideArc}
use Rattle.{std.specs.Prelude.codes, def_report.specs.GraphText.numbers_line, qm_report.proofs.Texts.behind}

-- Text b is text t with the line of the arcs behind it that were read.
side_behind : (sides : List (List Side)) (p k : ℕ) {four : List Side} (side : Side)
    → p < length sides → four ≡ get_or sides p four → length (get_or (map (map arcs_of) sides) p []) ≡ 4 → k < 4
    → (word t : List ℕ) {b : List ℕ} {arcs : List SideArc} → arcs ≡ (get_or four k side).arcs.items
    → b ≡ t ++ numbers_line word (map (λ (used : SideArc). used.arc + 1) arcs) → b ≡ t ++ numbers_line word
    (map (λ (used : SideArc). used.arc + 1) (get_or (get_or (map (map arcs_of) sides) p []) k []))
side_behind sides p k {four} side l is many lk word t read e = e ∙ ap (λ (xs : List SideArc). t ++ numbers_line word
    (map (λ (used : SideArc). used.arc + 1) xs)) (read ∙ sym (read_side sides p k four side l is many lk))

pub returns : Rattle.qm_report.proofs.parts.push_sides.Goals.returns
returns c =
    let sides = c.args.t.now.sides.items in
    let p : ℕ = c.args.p in
    let t0 = c.args.text.now.items in
    let south = side_behind sides p 0 _ c.requires.low c.index-sides.ensures c.requires.four (omega arith)
    (codes "south") t0 c.deref.ensures.value c.in_ok-push_side.ensures in
    let east = side_behind sides p 1 _ c.requires.low c.index-sides.ensures c.requires.four (omega arith)
    (codes "east") c.push_side.new.text.items c.deref-2.ensures.value c.in_ok-push_side-2.ensures in
    let north = side_behind sides p 2 _ c.requires.low c.index-sides.ensures c.requires.four (omega arith)
    (codes "north") c.push_side-2.new.text.items c.deref-3.ensures.value c.in_ok-push_side-3.ensures in
    let west = side_behind sides p 3 _ c.requires.low c.index-sides.ensures c.requires.four (omega arith)
    (codes "west") c.push_side-3.new.text.items c.deref-4.ensures.value c.in_ok-push_side-4.ensures in
    behind t0 _ _ (behind t0 _ _ (behind t0 _ _ south east) north) west
