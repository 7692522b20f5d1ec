-- The places of numbers in a list that rises.
use Rattle.std.proofs.Common.{rules, List, arith, eqb, get_or, inl, inr, length, ◌<◌, ◌≡◌}
use Rattle.std.proofs.Common.{ℕ, ◌≤◌, Bool, cond, false, refl, true, ◌||◌, [], sym, ◌^◌, ◌∙◌, ◌∷◌, Result, Ok, Err}
use Rattle.std.proofs.{lemmas.Bool.cases_lt, lemmas.Bool.ne_eqb, lemmas.Bool.ltb-false, lemmas.List.Sorted.searched}
use Rattle.std.proofs.{lemmas.List.Kept.AllPairs-from_increasing, lemmas.List.Sums.position_or_len_is}
use Rattle.std.specs.{List.Sorted.IsStrictlyIncreasing, List.Sorted.IsBinarySearchResult, List.position_or_len}
use Rattle.std.specs.{Ordering.nat_cmp, Prelude.nat_lt, Prelude.MatchResult}
use Rattle.def_fit.specs.{WishLines.is_out_of_range, WishLines.said_fails, WishLines.vertex_named, WishLines.wished_by}
use Rattle.def_marks.specs.{declared.fail.MarkFail.TheVariants.NotEdge, Chains.runs_between, Chains.is_edge}
use Rattle.{def_mesh.specs.Darts.darts, def_text.specs.FaceSet.FaceSet, def_text.specs.Types.Words}
use Rattle.qm_marks.specs.{Wishing.TakesWish, Wishing.IsSaid, declared.said.Said.Said}
use Rattle.{def_fit.specs.declared.fit.TheConstants.MAX_WISH}

-- What a binary search for a number finds is its place, or that it has none.
module _ (names : List ℕ) (up : IsStrictlyIncreasing names) (k : ℕ) where
  less : (i j : ℕ) → i < j → j < length names → get_or names i 0 < get_or names j 0
  less i j m l = AllPairs-from_increasing names up i j 0 m l

  rising : (i j : ℕ) → i ≤ j → j < length names → get_or names i 0 ≤ get_or names j 0
  rising i j m l = search (rules, less)

  pub place_found : (i : ℕ) → i < length names → get_or names i 0 ≡ k
      → position_or_len (λ name. eqb name k) names ≡ i
  place_found i l at = search (rules, position_or_len_is, less)

  pub place_searched : (r : Result ℕ ℕ) → IsBinarySearchResult (λ y. nat_cmp y k) names r
      → MatchResult r (λ i. position_or_len (λ name. eqb name k) names ≡ i)
      (λ _. position_or_len (λ name. eqb name k) names ≡ length names)
  place_searched (Ok i) found = let at = searched names k (Ok i) found rising in place_found i at.0 at.1
  place_searched (Err i) found =
      let at = searched names k (Err i) found rising in
      position_or_len_is (λ name. eqb name k) names (length names) 0 (omega arith)
      (λ j m. ne_eqb (get_or names j 0) k (λ is. elim (cases_lt j i)
      [ inl below ↦ omega (arith, at.1 j below) | inr above ↦ omega (arith, at.2 j above m) ]))
      (λ l. absurd (omega arith))

-- What one line wishes, and the wishes at the darts of one edge.

either : (b : Bool) (x y : ℕ) → x ≤ MAX_WISH → y ≤ MAX_WISH → cond b x y ≤ MAX_WISH
either b x y l h = grind arith

-- Some of three is on, or none.
three_off : (a b c : Bool) → (a || b || c) ≡ false → (a ≡ false) × (b ≡ false) × (c ≡ false)
three_off a b c off = grind (arith)

module _ (soup : FaceSet) (all number : ℕ) (words : Words) (low : all < 2 ^ 32) where
  module _ (said : Said) (is : IsSaid words said) where
    far_same : (nat_lt all said.u || nat_lt all said.v || nat_lt MAX_WISH said.wish) ≡ is_out_of_range all is.wished
    far_same = search rules

    module _ (near : (nat_lt all said.u || nat_lt all said.v || nat_lt MAX_WISH said.wish) ≡ false) where
      off : (nat_lt all said.u ≡ false) × (nat_lt all said.v ≡ false) × (nat_lt MAX_WISH said.wish ≡ false)
      off = three_off _ _ _ near

      -- Nothing was cut off.
      same : (said.u ≡ is.wished.u) × (said.v ≡ is.wished.v) × (said.wish ≡ is.wished.wish)
      same = (
        omega (arith, is.u, ltb-false all said.u off.0),
        omega (arith, is.v, ltb-false all said.v off.1),
        omega (arith, is.wish, ltb-false MAX_WISH said.wish off.2),
      )

      -- Whether the edge is one.
      by_edge : said_fails soup all number (wished_by words) ≡ cond (is_edge soup.faces (vertex_named soup.names said.u)
          (vertex_named soup.names said.v)) [] (NotEdge number ∷ [])
      by_edge = rw (is.told, sym far_same ∙ near, same.0, same.1) refl

      pub takes_no_edge : is_edge soup.faces (vertex_named soup.names said.u) (vertex_named soup.names said.v) ≡ false
          → said_fails soup all number (wished_by words) ≡ NotEdge number ∷ []
      takes_no_edge none = by_edge ∙ rw none refl

      -- The wish is put at the darts of the edge.
      pub takes_wish : (old new : List ℕ) → is_edge soup.faces (vertex_named soup.names said.u)
          (vertex_named soup.names said.v) ≡ true
          → ((d : ℕ) → d < darts soup.faces → get_or new d 0 ≡ cond
          (runs_between soup.faces (vertex_named soup.names said.u) (vertex_named soup.names said.v) d) said.wish
          (get_or old d 0)) → TakesWish soup all number words old new
      takes_wish old new edge put = record {
        accepted = by_edge ∙ rw edge refl;
        wishes = λ d l. rw (is.told, ← same.0, ← same.1, ← same.2) (put d l);
        small = λ d l few. rw (put d l) (either (runs_between soup.faces _ _ d) _ _
            (ltb-false MAX_WISH said.wish off.2) few);
      }
