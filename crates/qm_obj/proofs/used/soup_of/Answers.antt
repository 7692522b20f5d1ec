use Rattle.std.proofs.Common.{rules}
use Rattle.qm_obj.proofs.{SoupLemmas.face_set_is_soup, SoupLemmas.made_of, used.soup_of.Goals.After-renumber}
use Rattle.{std.proofs.Common.length, std.proofs.Common.◌≡◌, def_text.specs.Text.face_set, qm_obj.specs.Kept.IsMarked}
use Rattle.qm_obj.proofs.used.soup_of.Goals as goal

-- What is kept and renumbered is the soup.
made : (c : After-renumber) → record {
  pos = c.keep_marked.new.positions.items;
  faces = c.renumber.new.faces.items;
  names = c.in_ok-kept.kept.names.items;
} ≡ face_set c.args.positions.items c.args.faces.items
made c =
    let marked : IsMarked c.args.faces.items (length c.args.positions.items) c.deref-2.result.now =
    rw (c.deref-2.ensures.value, ← c.deref.ensures.value, ← c.args.positions.ok.0, ← c.len.ensures)
    c.in_ok-marks.ensures in
    made_of c.args.positions.items c.args.faces.items c.deref-2.result.now _ c.in_ok-kept.kept.vertices.items marked
    c.requires.known c.in_ok-kept.ensures.vertices c.in_ok-kept.ensures.names c.in_ok-kept.ensures.positions
    (rw (← c.deref-3.ensures.value) c.renumber.ensures)

pub returns : goal.returns
returns c = made (goal.at.returns c).After-renumber

pub invariant_of-result : goal.invariant_of-result
invariant_of-result c = search (rules, made, face_set_is_soup)
