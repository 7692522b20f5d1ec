-- An accepted certificate of the network of a layout certifies its lengths, and can be written.
use Rattle.std.proofs.Common.{rules, ◌≡◌, ℕ, zero, suc, ◌^◌, ◌<◌, ◌≤◌, Bool, true, List, [], ◌∷◌, ◌++◌, length, map}
use Rattle.std.proofs.Common.{take, drop, refl, sym, ◌∙◌, arith, ℤ, ap}
use Rattle.std.proofs.lemmas.Bool.{and_from, and_parts, le-leb, leb-true, lt-ltb}
use Rattle.std.proofs.{lemmas.List.take-append-drop, lemmas.List.Folds.list_all-append, lemmas.List.Folds.list_all-map}
use Rattle.std.specs.{List.list_all, Prelude.nat_lt, Prelude.slice_index}
use Rattle.def_certtext.specs.{CertLines.dual_lines, CertLines.Lists, Laws.IsWritableCert, Reading.is_small}
use Rattle.def_certtext.specs.{Reading.may_stand, declared.CertLine.CertLine, declared.certs.Rising.TheVariants.Never}
use Rattle.def_flow.specs.{Admissible.entries, Descent.IsSolution, Network.Network, Network.tangle_number}
use Rattle.def_flow.specs.{Network.IsWithinBounds, declared.limits.TheConstants.MAX_LENGTH}
use Rattle.def_flow.specs.{declared.limits.TheConstants.MAX_TANGLE, declared.net.Settings.Settings}
use Rattle.def_layout.specs.{Layouts.Layout, Layouts.gluing_of, Lengths.Lengths}
use Rattle.def_layoutnet.specs.{LayoutNet.IsNetOf, MeshLayouts.IsSomeLayout}
use Rattle.def_remesh.specs.{Certified.certificate_of, Certified.IsCertified, Tasks.old_lengths, Tasks.Wish}
use Rattle.{def_matching.specs.Dual.AreSmall, qm_layoutnet.proofs.Balance.balance_law}
use Rattle.{embedding_laws.proofs.Bounds.laid_of, gadget_laws.proofs.Arcs.sound}
use Rattle.def_certtext.specs.declared.CertLine.TheVariants as lines

-- What passes in a list passes in each front and in each tail of it.
pub all_take : {X : Type 0} (p : X → Bool) (n : ℕ) (xs : List X) → list_all p xs ≡ true → list_all p (take n xs) ≡ true
all_take p n xs all = (and_parts _ _ (sym (list_all-append p _ _) ∙ (ap (list_all p) (take-append-drop n xs) ∙ all))).0

pub all_drop : {X : Type 0} (p : X → Bool) (n : ℕ) (xs : List X) → list_all p xs ≡ true → list_all p (drop n xs) ≡ true
all_drop p n xs all = (and_parts _ _ (sym (list_all-append p (take n xs) (drop n xs))
    ∙ (ap (list_all p) (take-append-drop n xs) ∙ all))).1

-- Lines of small numbers may stand.
numbered_stand : (kind : ℤ → ℕ → CertLine) → ((z : ℤ) (u : ℕ) → may_stand Never (kind z u) ≡ is_small z u)
    → (numbers : List ℤ) (ups : List ℕ) → AreSmall numbers → list_all (λ u. nat_lt u (2 ^ 32)) ups ≡ true
    → list_all (may_stand Never) (dual_lines kind numbers ups) ≡ true
numbered_stand kind same [] ups small low = refl
numbered_stand kind same (z ∷ zs) [] small low = refl
numbered_stand kind same (z ∷ zs) (u ∷ us) small low =
    and_from _ _ (same z u ∙ and_from _ _ (lt-ltb _ _ (small 0 (omega arith))) (and_parts _ _ low).0)
    (numbered_stand kind same zs us (λ k l. small (suc k) (omega (arith, l))) (and_parts _ _ low).1)

-- What passes at each place of a list passes in all of it.
each_passes : (p : ℕ → Bool) (xs : List ℕ) → ((k : ℕ) → k < length xs → p (slice_index xs k) ≡ true)
    → list_all p xs ≡ true
each_passes p [] each = refl
each_passes p (x ∷ xs) each =
    and_from _ _ (each 0 (omega arith)) (each_passes p xs (λ k l. each (suc k) (omega (arith, l))))

pub certified : (wish : Wish) (layout : Layout) (settings : Settings) (floors : Lengths) (net : Network) (cert : Lists)
    → IsSomeLayout layout → IsNetOf (gluing_of layout) (old_lengths layout) (wish layout) settings floors net
    → IsWithinBounds net → tangle_number net ≤ MAX_TANGLE → IsSolution net (certificate_of cert)
    → IsCertified wish layout settings floors cert
certified wish layout settings floors net cert is of_layout bounds untangled solved =
    let low = each_passes (λ u. nat_lt u (2 ^ 32)) cert.up (search rules) in
    let vertices = dual_lines lines.Vertex cert.y (take (length cert.y) cert.up) in
    let sets = dual_lines lines.Set cert.z (drop (length cert.y) cert.up) in
    let arcs = map lines.Length cert.x in
    let allowed = list_all-append (may_stand Never) (arcs ++ vertices) sets ∙ and_from _ _ (list_all-append (may_stand
    Never) arcs vertices ∙ and_from _ _ (list_all-map (may_stand Never) lines.Length cert.x ∙ each_passes (λ n.
    may_stand Never (lines.Length n)) cert.x (λ k l. le-leb _ MAX_LENGTH (solved.lengths.small k l))) (numbered_stand
    lines.Vertex (λ z u. refl) cert.y (take (length cert.y) cert.up) solved.small.small_y (all_take _ (length cert.y)
    cert.up low))) (search (rules, numbered_stand, all_drop)) in
    record {
      lengths = record {
        net = net;
        of_layout = of_layout;
        untangled = untangled;
        count = solved.accepted.count;
        opposite = (balance_law (gluing_of layout) (old_lengths layout) (wish layout) settings floors net
            (laid_of layout is) of_layout (entries cert.x)).0 solved.accepted.admissible.balanced;
        least = sound net (certificate_of cert) bounds solved.accepted;
        writable = search rules;
      };
      accepted = solved.accepted;
    }

-- The lengths of a certificate that can be written are not too great.
standing_short : (xs : List ℕ) → list_all (may_stand Never) (map lines.Length xs) ≡ true → (k : ℕ) → k < length xs
    → slice_index xs k ≤ MAX_LENGTH
standing_short [] all k l = absurd (omega (arith, l))
standing_short (x ∷ xs) all zero l = leb-true x MAX_LENGTH (and_parts _ _ all).0
standing_short (x ∷ xs) all (suc k) l = standing_short xs (and_parts _ _ all).1 k (omega (arith, l))

pub writable_short : (cert : Lists) → IsWritableCert cert → (k : ℕ) → k < length cert.x
    → slice_index cert.x k ≤ MAX_LENGTH
writable_short cert is = search (rules, list_all-append, standing_short)
