-- Which edges are doubled: the keys tell, and none between two inner points of a patch is.
use Rattle.std.proofs.Common.{rules, ◌≡◌, ◌⊎◌, ◌↔◌, ℕ, ◌+◌, ◌-◌, ◌<◌, Bool, true, false, length, get_or}
use Rattle.std.proofs.{Common.refl, Common.sym, Common.inl, Common.inr, Common.arith, lemmas.List.get_or_read}
use Rattle.def_layout.specs.{Lengths.Lengths, Lengths.size, Layouts.layout_of, Gluings.Gluing}
use Rattle.def_written.specs.Edges.{Edge, on_arc, flat, steep, IsEdge}
use Rattle.qm_stitch.proofs.{RimEdges.line_is, RimEdges.IsDeep, Repeats.repeat_moved, Grids.counts}
use Rattle.qm_stitch.proofs.DoubledPairs.{doubled_repeats, ends_key, key_ends, never_deep, repeat_doubled}
use Rattle.qm_stitch.specs.{Lengthened.gluing_in, Lengthened.lengths_by, Numbered.AreTables}
use Rattle.qm_stitch.specs.Rims.{along_lines, key_of, keys_of, line_edge, rim_edges, IsLine, IsRepeat}
use Rattle.qm_stitch.specs.Tight.{IsDoubled, IsDoubledOn, IsLineDoubled, IsTightUpto}
use Rattle.qm_stitch.specs.declared.{numbered.Numbered.Numbered, keyed.Keyed.Keyed, rim.Line.Line}
use Rattle.{def_remesh.specs.Rises.IsTightArc, def_remesh.specs.Rises.RunsAlong, written_laws.proofs.Sides.size_some}

-- An edge of a line that is neither the first nor the last one lies between two inner points of the patch.
line_deep : (l : Gluing) (x : Lengths) (u : Bool) (p n k : ℕ) → 0 < k → k + 1 < size l x p (along_lines u)
    → IsDeep l x (line_edge u p n k)
line_deep l x false p n k some less = (some, less)
line_deep l x true p n k some less = (some, less)

-- An arc is tight where it lies along a doubled edge.
pub tight_by : {l : Gluing} {x : Lengths} {arc : ℕ} → ((e : Edge) × IsDoubled l x e × RunsAlong l e arc)
    ↔ IsTightArc l x arc
tight_by = (λ (e, is, along). search rules, λ t. (t.edge, search rules, t.along))

-- An arc is tight where an edge of it is doubled, or one in a line beside it.
pub tight_is : (l : Gluing) (x : Lengths) (arc : ℕ) → (IsDoubledOn l x arc ⊎ IsTightUpto l x l.patches arc)
    ↔ IsTightArc l x arc
tight_is l x arc = (
  elim [
    | inl (k, is) ↦ tight_by.0 (_, is, refl)
    | inr (p, false, low, ((n, (k, is)), beside)) ↦ tight_by.0 (_, is, beside)
    | inr (p, true, low, ((n, (k, is)), beside)) ↦ tight_by.0 (_, is, beside)
  ],
  λ t. let (e, is, along) = tight_by.1 t in by_edge e is along,
)
  where
    by_edge : (e : Edge) → IsDoubled l x e → RunsAlong l e arc → IsDoubledOn l x arc ⊎ IsTightUpto l x l.patches arc
    by_edge (on_arc a k) is along = inl (k, rw (← along) is)
    by_edge (flat p i j) is along = inr (p, false, is.is.0, ((j, (i, is)), along))
    by_edge (steep p i j) is along = inr (p, true, is.is.0, ((i, (j, is)), along))

-- The length of an arc, as a loop reads it.
pub end_is : (numbered : Numbered) {arc end : ℕ} → arc < length numbered.t.now.arcs.items
    → end ≡ get_or numbered.tables.now.lengths.items arc end → end ≡ lengths_by numbered arc
end_is numbered {arc} {end} low read = get_or_read _ arc end (omega counts) read 0

module _ (keyed : Keyed) where
  abbrev l : Gluing
  l = gluing_in keyed.numbered

  abbrev x : Lengths
  x = lengths_by keyed.numbered

  abbrev are : AreTables (layout_of keyed.numbered.t.now) keyed.numbered.tables.now
  are = keyed.numbered.numbers

  -- A doubled edge of a line is the first one or the last one.
  pub line_end : (u : Bool) (p n k : ℕ) → IsDoubled l x (line_edge u p n k)
      → (k ≡ 0) ⊎ (k ≡ size l x p (along_lines u) - 1)
  line_end u p n k is =
      let deep = λ (some : 0 < k) (less : k + 1 < size l x p (along_lines u)).
      never_deep are _ is (line_deep l x u p n k some less) in
      grind (arith, deep, ((line_is l x u p n k).0 is.is).3)

  -- Whether an edge is doubled its key tells.
  pub key_tells : (e : Edge) → IsEdge l x e → IsRepeat keyed.keys.now (key_of l x e) ↔ IsDoubled l x e
  key_tells e is =
      let key = key_of l x e in
      let rim = keys_of l x (rim_edges l x) in (
        λ repeats.
            let repeats = repeat_moved keyed.keys.now rim key (λ f. sym (keyed.rim.moved f)) repeats in
            let ends = (key_ends are e key is refl).1 in
            search (rules, repeat_doubled),
        λ d. rw (ends_key are e d.u d.v is d.doubled.0 d.ends).0
            (repeat_moved rim keyed.keys.now _ keyed.rim.moved (doubled_repeats are d.u d.v d.doubled).0),
      )

  module _ {line : Line} (inside : IsLine l x line) where
    -- A line has edges.
    pub line_some : 0 < size l x line.patch (along_lines line.upright)
    line_some = size_some l x are.whole.paved are.lengths line.patch (along_lines line.upright) inside.patch

    -- It tells by its first and its last edge whether one is doubled.
    pub line_tells : (IsRepeat keyed.keys.now (key_of l x (line_edge line.upright line.patch line.number 0))
        ⊎ IsRepeat keyed.keys.now (key_of l x (line_edge line.upright line.patch line.number
        (size l x line.patch (along_lines line.upright) - 1)))) ↔ IsLineDoubled l x line.upright line.patch line.number
    line_tells =
        let last = size l x _ _ - 1 in
        let told = λ (k : ℕ) (less : k < size l x line.patch (along_lines line.upright)). key_tells _
        ((line_is l x line.upright line.patch line.number k).1 (inside.patch, inside.some, inside.inside, less)) in
        let end : last < size l x line.patch (along_lines line.upright) = omega (arith, line_some) in (
          elim [ inl first ↦ (0, (told 0 line_some).0 first) | inr repeats ↦ (last, (told _ end).0 repeats) ],
          λ (k, by).
              let back = (key_tells ((line_edge _ _ _) k) by.is).1 by in
              elim (line_end _ _ _ k by) [ inl first ↦ inl (rw first at back) | inr same ↦ inr (rw same at back) ],
        )
