-- Tables of spots: what each side puts into one, and what a whole one says.
use Rattle.std.proofs.Common.{rules, ◌≡◌, ◌≢◌, ℕ, ◌+◌, ◌*◌, ◌<◌, true, List, length, Some, None, Option, refl, sym, ◌∙◌}
use Rattle.std.proofs.Common.{ap, subst, inl, inr, arith, [], ◌∷◌, ◌++◌, map, slice_get, get_or, append_assoc}
use Rattle.std.proofs.{Common.length-append, lemmas.Bool.cases_eq, lemmas.Bool.false≢true, lemmas.Option.same_Some}
use Rattle.std.proofs.{lemmas.Option.slice_get-get_or, Math.ListN.set, lemmas.Grind.common_steps}
use Rattle.std.proofs.lemmas.List.FromFn.{get_or-map-range_with_len, length-map-range_with_len, map-range_with_len_more}
use Rattle.std.proofs.lemmas.List.{get_or-set_other, get_or-set_same, length-set}
use Rattle.def_layout.specs.Gluings.{Way, south, east, north, west, Gluing, Slot, IsSlot, AreReverse, use_of}
use Rattle.def_layout.specs.{Surfaces.IsSurface, Surfaces.IsOtherSlot, Lengths.Lengths, declared.tmesh.SideArc.SideArc}
use Rattle.def_layout.specs.Layouts.{Layout, gluing_of, side_at}
use Rattle.def_blocks.specs.Links.{side_name, arcs_before, place_in, AreLinks, IsLinkOf}
use Rattle.def_blocks.specs.{declared.link.SideName.SideName, declared.link.Link.Link}
use Rattle.qm_blocks.specs.Spots.{back_key, key_of, spot_at, spot_of, spot_on, HasSpots, HasUses, HavePut, IsBefore}
use Rattle.qm_blocks.specs.Spots.{IsOnBlock, IsOnSide, Spot, all_links, block_links, link_on, side_links}
use Rattle.{std.specs.Option.is_some, std.specs.List.range_with_len, def_remesh.specs.Numberings.used_at}

-- The next use puts its spot in.
pub use_more : (side : List SideArc) (lengths : Lengths) (block : ℕ) (name : SideName) (many : ℕ)
    (old mid : List (Option Spot)) → key_of (used_at side many) < length mid → HasUses side lengths block name many old
    mid → HasUses side lengths block name (many + 1) old
    (set mid (key_of (used_at side many)) (Some (spot_on side lengths block name many)))
use_more side lengths block name many old mid low are =
    let key = key_of (used_at side many) in
    let here = spot_on side lengths block name many in
    let there = λ (k : ℕ) (e : k ≡ key).
    ap (spot_at (set mid key (Some here))) e ∙ get_or-set_same mid key (Some here) None low in
    let other = λ (k : ℕ) (ne : k ≢ key). get_or-set_other mid key k (Some here) None ne in
    record {
      long = length-set mid key (Some here) ∙ are.long;
      kept = λ k is. elim (cases_eq k key) [
        | inl e ↦ ap is_some (there k e)
        | inr ne ↦ ap is_some (other k ne) ∙ are.kept k is
      ];
      put = λ at less. elim (cases_eq (key_of (used_at side at)) key) [
        | inl e ↦ ap is_some (there (key_of (used_at side at)) e)
        | inr ne ↦ elim (cases_eq at many) [
          | inl e ↦ absurd (ne (ap (λ i. key_of (used_at side i)) e))
          | inr apart ↦ ap is_some (other (key_of (used_at side at)) ne) ∙ are.put at (omega arith)
        ]
      ];
      only = λ k spot e. elim (cases_eq k key) [
        | inl is ↦ inr (many, omega arith, sym is, same_Some here spot (sym (there k is) ∙ e))
        | inr ne ↦ elim (are.only k spot (sym (other k ne) ∙ e)) [
          | inl was ↦ inl was
          | inr used ↦ inr (used.0, omega (arith, used.1), used.2, used.3)
        ]
      ];
    }

-- The slots of a side have put theirs.
pub side_put : (layout : Layout) (x : Lengths) (block : ℕ) (way : Way) (side : List SideArc) (name : SideName)
    (old new : List (Option Spot))
    → side ≡ side_at layout block way → name ≡ side_name way → block < length layout.patches
    → HasUses side x block name (length side) old new → HavePut (gluing_of layout) x (IsOnSide block way) old new
side_put layout x block way side name old new same named low uses =
    let arcs = side_at layout block way in
    let put_in : HasUses arcs x block (side_name way) (length arcs) old new = subst (λ n. HasUses arcs x block n
    (length arcs) old new) named (subst (λ us. HasUses us x block name (length us) old new) same uses) in
    record {
      long = put_in.long;
      kept = put_in.kept;
      put = λ w slot on.
          let e : w ≡ record { patch = block; side = way; at = w.at } =
          λ t. record { patch = on.0 t; side = on.1 t; at = w.at } in
          let less = subst (λ (v : Slot). v.at < length (side_at layout v.patch v.side)) e slot.low in
          subst (λ (v : Slot). is_some (spot_at new (key_of (use_of (gluing_of layout) v))) ≡ true) (sym e)
          (put_in.put w.at less);
      only = λ key spot e. elim (put_in.only key spot e) [
        | inl was ↦ inl was
        | inr used ↦ inr (
          record { patch = block; side = way; at = used.0 },
          record { patch_low = low; low = used.1 },
          used.2,
          used.3,
        )
      ];
    }

-- So have those of a block, where its four sides have, one after the other.
pub block_put : (l : Gluing) (x : Lengths) (block : ℕ) (t0 t1 t2 t3 t4 : List (Option Spot))
    → HavePut l x (IsOnSide block south) t0 t1 → HavePut l x (IsOnSide block east) t1 t2
    → HavePut l x (IsOnSide block north) t2 t3 → HavePut l x (IsOnSide block west) t3 t4
    → HavePut l x (IsOnBlock block) t0 t4
block_put l x block t0 t1 t2 t3 t4 a b c d = record {
  long = d.long ∙ c.long ∙ b.long ∙ a.long;
  kept = λ key is. d.kept key (c.kept key (b.kept key (a.kept key is)));
  put = λ w slot here. by_side w slot here w.side refl;
  only = λ key spot e. elim (d.only key spot e) [
    | inr here ↦ inr here
    | inl e ↦ elim (c.only key spot e) [
      | inr here ↦ inr here
      | inl e ↦ elim (b.only key spot e) [ inr here ↦ inr here | inl e ↦ a.only key spot e ]
    ]
  ];
}
  where
    by_side : (w : Slot) → IsSlot l w → w.patch ≡ block → (s : Way) → w.side ≡ s
        → is_some (spot_at t4 (key_of (use_of l w))) ≡ true
    by_side w slot here south e = d.kept _ (c.kept _ (b.kept _ (a.put w slot (here, e))))
    by_side w slot here east e = d.kept _ (c.kept _ (b.put w slot (here, e)))
    by_side w slot here north e = d.kept _ (c.put w slot (here, e))
    by_side w slot here west e = d.put w slot (here, e)

-- So has one block more.
pub spots_more : (l : Gluing) (x : Lengths) (block : ℕ) (old new : List (Option Spot)) → HasSpots l x (IsBefore block)
    old → HavePut l x (IsOnBlock block) old new → HasSpots l x (IsBefore (block + 1)) new
spots_more l x block old new are more = search rules

-- Arcs in use by their places.
pub key_low : (u : SideArc) (n : ℕ) → u.arc < n → key_of u < 2 * n
key_low u n low = grind arith

key_same : (u v : SideArc) → key_of u ≡ key_of v → u ≡ v
key_same u v e = search rules

-- The other way round an arc has the other place.
back_is : (u v : SideArc) → AreReverse u v → key_of v ≡ back_key u
back_is u v rev = search rules

reverse_is : (u v : SideArc) → key_of v ≡ back_key u → AreReverse u v
reverse_is u v e = search rules

module _ (l : Gluing) (x : Lengths) (laid : IsSurface l) (table : List (Option Spot))
    (are : HasSpots l x (IsSlot l) table) where
  -- What stands in a whole table behind a slot: the spot of its other slot, if there is one.
  pub other_spot : (w v : Slot) → IsOtherSlot l w v → spot_at table (back_key (use_of l w)) ≡ Some (spot_of l x v)
  other_spot w v across = ap (spot_at table) (sym (back_is (use_of l w) (use_of l v) across.1)) ∙ here
      (spot_at table (key_of (use_of l v))) refl
    where
      here : (o : Option Spot) → spot_at table (key_of (use_of l v)) ≡ o → spot_at table (key_of (use_of l v))
          ≡ Some (spot_of l x v)
      here None e = absurd (false≢true (sym (ap is_some e) ∙ are.put v across.0 across.0))
      here (Some spot) e = let (u, slot, same, is) = are.only (key_of (use_of l v)) spot e in
          e ∙ ap Some (sym is
          ∙ ap (spot_of l x) (laid.once u v slot across.0 (key_same (use_of l u) (use_of l v) same)))

  pub no_spot : (w : Slot) → ((v : Slot) → ¬ IsOtherSlot l w v) → spot_at table (back_key (use_of l w)) ≡ None
  no_spot w wall = here (spot_at table (back_key (use_of l w))) refl
    where
      here : (o : Option Spot) → spot_at table (back_key (use_of l w)) ≡ o → spot_at table (back_key (use_of l w))
          ≡ None
      here None e = e
      here (Some spot) e = let (u, slot, same, is) = are.only (back_key (use_of l w)) spot e in
          absurd (wall u (slot, reverse_is (use_of l w) (use_of l u) same))

-- The lists of links that a table of spots gives are the links of the layout.

-- One item more of a list in the making.
pub list_more : {X : Type 0} (f : ℕ → X) (n : ℕ) (before old new : List X) (item : X)
    → old ≡ before ++ map f (range_with_len 0 n)
    → new ≡ old ++ item ∷ [] → item ≡ f n → new ≡ before ++ map f (range_with_len 0 (n + 1))
list_more f n before old new item is grown same = search (rules, append_assoc, map-range_with_len_more)

-- What four lists have, one behind the other.
read_joined : {X : Type 0} (a b c d : List X) (missing : X) (k m n : ℕ) → length a ≡ k → length b ≡ m → length c ≡ n
    → ((i : ℕ) → i < k → get_or (((a ++ b) ++ c) ++ d) (0 + i) missing ≡ get_or a i missing)
    × ((i : ℕ) → i < m → get_or (((a ++ b) ++ c) ++ d) (k + i) missing ≡ get_or b i missing)
    × ((i : ℕ) → i < n → get_or (((a ++ b) ++ c) ++ d) (k + m + i) missing ≡ get_or c i missing)
    × ((i : ℕ) → get_or (((a ++ b) ++ c) ++ d) (k + m + n + i) missing ≡ get_or d i missing)
read_joined a b c d missing k m n long_a long_b long_c = (
  λ i low. grind (arith, common_steps),
  λ i low. grind (arith, common_steps),
  λ i low. grind (arith, common_steps),
  λ i. grind (arith, common_steps),
)

module _ (layout : Layout) (x : Lengths) (table : List (Option Spot)) where
  -- A side has as many links as arcs, each at its place.
  side_long : (p : ℕ) (s : Way) → length (side_links layout x table p s) ≡ length (side_at layout p s)
  side_long p s = search (rules, length-map-range_with_len)

  side_reads : (p : ℕ) (s : Way) (at : ℕ) (missing : Link) → at < length (side_at layout p s)
      → get_or (side_links layout x table p s) at missing ≡ link_on table x (side_name s) (side_at layout p s) at
  side_reads p s at missing low = search (rules, get_or-map-range_with_len)

  -- So has a block.
  block_long : (p : ℕ) → length (block_links layout x table p)
      ≡ arcs_before (gluing_of layout) p west + length (side_at layout p west)
  block_long p = search (rules, length-append, side_long)

  block_reads : (p : ℕ) (s : Way) (at : ℕ) (missing : Link) → at < length (side_at layout p s)
      → get_or (block_links layout x table p) (arcs_before (gluing_of layout) p s + at) missing
      ≡ link_on table x (side_name s) (side_at layout p s) at
  block_reads p s at missing low =
      let reads = read_joined (side_links layout x table p south) (side_links layout x table p east)
      (side_links layout x table p north) (side_links layout x table p west) missing
      (length (side_at layout p south)) (length (side_at layout p east)) (length (side_at layout p north))
      (side_long p south) (side_long p east) (side_long p north) in
      (elim s as (λ s. at < length (side_at layout p s) → get_or (block_links layout x table p)
      (arcs_before (gluing_of layout) p s + at) missing ≡ get_or (side_links layout x table p s) at missing) [
        | south ↦ λ l. reads.0 at l
        | east ↦ λ l. reads.1 at l
        | north ↦ λ l. reads.2 at l
        | west ↦ λ l. reads.3 at
      ]) low ∙ side_reads p s at missing low

  pub are_links : IsSurface (gluing_of layout) → HasSpots (gluing_of layout) x (IsSlot (gluing_of layout)) table
      → AreLinks (gluing_of layout) x (all_links layout x table)
  are_links laid are = record {
    blocks = length-map-range_with_len (block_links layout x table) 0 (length layout.patches);
    many = λ p low. ap length (block_at p low) ∙ block_long p;
    each = each;
  }
    where
      block_at : (p : ℕ) → p < length layout.patches
          → get_or (all_links layout x table) p [] ≡ block_links layout x table p
      block_at p low = search (rules, get_or-map-range_with_len)

      each : (w : Slot) → IsSlot (gluing_of layout) w → (link : Link)
          × (slice_get (get_or (all_links layout x table) w.patch []) (place_in (gluing_of layout) w) ≡ Some link)
          × IsLinkOf (gluing_of layout) x w link
      each w slot = (
        link_on table x (side_name w.side) (side_at layout w.patch w.side) w.at,
        ap (λ ls. slice_get ls (place_in (gluing_of layout) w)) (block_at w.patch slot.patch_low) ∙ slice_get-get_or
            (block_links layout x table w.patch) (place_in (gluing_of layout) w) missing (in_block w.side slot.low) ∙ ap
            Some (block_reads w.patch w.side w.at missing slot.low),
        record {
          side = refl;
          from = refl;
          len = refl;
          linked = λ v across. other_spot (gluing_of layout) x laid table are w v across;
          wall = λ none. no_spot (gluing_of layout) x laid table are w none;
        },
      )
        where
          missing : Link
          missing = link_on table x (side_name south) [] 0

          in_block : (s : Way) → w.at < length (side_at layout w.patch s)
              → arcs_before (gluing_of layout) w.patch s + w.at < length (block_links layout x table w.patch)
          in_block south low = omega (arith, low, block_long w.patch)
          in_block s low = omega (arith, low, block_long w.patch)
