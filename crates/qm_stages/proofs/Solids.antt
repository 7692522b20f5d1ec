-- A mesh whose numbers are those of its types can be written.
use Rattle.std.specs.{Prelude.nat_lt, Prelude.slice_index_or, List.list_all}
use Rattle.std.proofs.Common.{◌≡◌, ◌<◌, ◌^◌, ◌≤◌, ℕ, Bool, true, List, [], length, get_or, arith, eq-eqb}
use Rattle.std.proofs.{lemmas.Bool.lt-ltb, lemmas.Bool.ltb-true, lemmas.List.get_or_default}
use Rattle.std.proofs.{lemmas.List.Sums.AllPass-from_list_all, lemmas.List.Sums.list_all-from_AllPass}
use Rattle.def_text.specs.{declared.limits.TheConstants.MAX_V_LINES, FaceSet.FaceSet, Laws.is_position, Laws.is_quad}
use Rattle.{def_mesh.specs.Meshes.IsMesh, def_mesh.specs.Vertices.names_below, def_remesh.specs.TextLaws.IsSolid}

-- A list passes a weaker test.
weaker : {A : Type 0} (p q : A → Bool) → ((x : A) → p x ≡ true → q x ≡ true) → (xs : List A) → list_all p xs ≡ true
    → list_all q xs ≡ true
weaker p q more xs all = list_all-from_AllPass q xs
    (λ i d l. more (get_or xs i d) (AllPass-from_list_all p xs all i d l))

pub solid_of : (soup : FaceSet) → IsMesh soup.faces → list_all is_position soup.pos ≡ true
    → ((f : ℕ) → f < length soup.faces → length (slice_index_or soup.faces f []) ≡ 4)
    → (n : ℕ) → n ≤ MAX_V_LINES → names_below n soup.faces ≡ true → IsSolid soup
solid_of soup mesh near four n few below = record {
  mesh = mesh;
  printable = record {
    positions = near;
    quads = list_all-from_AllPass is_quad soup.faces (λ f d l. eq-eqb (length (slice_index_or soup.faces f d)) 4
        (cc (get_or_default soup.faces f d [] l, four f l)));
    corners = weaker (λ face. list_all (λ v. nat_lt v n) face) (λ face. list_all (λ v. nat_lt v (2 ^ 32)) face)
        (weaker (λ v. nat_lt v n) (λ v. nat_lt v (2 ^ 32))
        (λ v low. lt-ltb v (2 ^ 32) (omega (arith, few, ltb-true v n low)))) soup.faces below;
  };
}
