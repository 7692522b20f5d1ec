-- Lists of marks and of riders by index, and lists of darts that differ.
use Rattle.std.proofs.lemmas.Grind.{common_steps}
use Rattle.std.proofs.Common.{rules, ◌≡◌, ◌⊎◌, ℕ, zero, suc, ◌<◌, ◌≤◌, Bool, true, false, eqb, ◌||◌, List, [], ◌∷◌}
use Rattle.std.proofs.Common.{◌++◌, length, get_or, set, replicate, Option, Some, None, sym, ap, ◌∙◌, refl, inl, inr}
use Rattle.std.proofs.{Common.arith, lemmas.Bool.false≢true, Math.Bool.or_comm, lemmas.Bool.cases_lt}
use Rattle.std.proofs.lemmas.Bool.{cases_eq}
use Rattle.std.proofs.{lemmas.List.length-set, lemmas.Option.none-some}
use Rattle.def_cut.specs.Motion.{Terrain, is_among, is_found}
use Rattle.def_cut.specs.Events.{mark_twin, marked_from, darts_in, note_at}
use Rattle.motion_laws.proofs.Among.{AreApart, among_cases, among_here, among_later, cases_Option}
use Rattle.{def_mesh.specs.HalfEdges.HalfEdges, def_mesh.specs.HalfEdges.IsQuadManifold, def_cut.specs.FullCut.is_on}
use Rattle.{std.specs.List.list_any, cut_laws.proofs.Pigeon.no_more}

-- A mark more.
pub mark_is : (marks : List Bool) (k d : ℕ) → k < length marks → is_on (set marks k true) d ≡ (is_on marks d || eqb d k)
mark_is marks k d l = search rules

-- No marks.
pub none_on : (n d : ℕ) → is_on (replicate n false) d ≡ false
none_on n d = grind (arith, common_steps, cases_lt d n)

pub no_darts : (n : ℕ) → darts_in (replicate n None) ≡ []
no_darts zero = refl
no_darts (suc n) = no_darts n

-- An edge more is covered, where `es` has one dart more than `ds`.
pub cover_more : (m : HalfEdges) → IsQuadManifold m → (marks : List Bool) (x : ℕ) → x < m.count → length marks ≡ m.count
    → (ds es : List ℕ) → ((e : ℕ) → is_among e es ≡ (is_among e ds || eqb e x)) → (old : Bool) (d : ℕ) → d < m.count
    → is_on marks d ≡ (old || (is_among d ds || is_found (m.twin d) ds))
    → is_on (mark_twin (m.twin x) (set marks x true)) d ≡ (old || (is_among d es || is_found (m.twin d) es))
cover_more m h marks x low long ds es is old d l before =
    grind (arith, cases_Option (m.twin x), cases_Option (m.twin d), h.twin_low x, h.twin_twin, mark_is, length-set, is)

-- The vertices that darts leave are marked.
pub marked_long : (g : Terrain) (ds : List ℕ) (marks : List Bool) → length (marked_from g ds marks) ≡ length marks
marked_long g [] marks = refl
marked_long g (d ∷ ds) marks = length-set (marked_from g ds marks) (g.half.from d) true ∙ marked_long g ds marks

pub from_marks : (g : Terrain) (ds : List ℕ) (marks : List Bool) (v : ℕ)
    → ((d : ℕ) → is_among d ds ≡ true → g.half.from d < length marks) → is_on (marked_from g ds marks) v
    ≡ (list_any (λ d. eqb (g.half.from d) v) ds || is_on marks v)
from_marks g [] marks v low = refl
from_marks g (d ∷ ds) marks v low =
    search (rules, mark_is, marked_long, from_marks g ds marks v (λ e m. low e (among_later e d ds m)))

-- The darts of some riders with one note more.
pub noted_more : (ns : List (Option ℕ)) (r d e : ℕ) → r < length ns → note_at ns r ≡ None
    → is_among e (darts_in (set ns r (Some d))) ≡ (is_among e (darts_in ns) || eqb e d)
noted_more [] r d e l none = absurd (omega arith)
noted_more (n ∷ ns) zero d e l none = rw none (or_comm (eqb e d) (is_among e (darts_in ns)))
noted_more (n ∷ ns) (suc r) d e l none = grind (arith, cases_Option n, noted_more ns r d e)

pub noted_longer : (ns : List (Option ℕ)) (r d : ℕ) → r < length ns → note_at ns r ≡ None
    → length (darts_in (set ns r (Some d))) ≡ suc (length (darts_in ns))
noted_longer [] r d l none = absurd (omega arith)
noted_longer (n ∷ ns) zero d l none = rw none refl
noted_longer (n ∷ ns) (suc r) d l none = grind (arith, cases_Option n, noted_longer ns r d)

-- Who has a note.
pub noted_where : (ns : List (Option ℕ)) (d : ℕ) → is_among d (darts_in ns) ≡ true → (r : ℕ) × (r < length ns)
    × (note_at ns r ≡ Some d)
noted_where [] d m = absurd (false≢true m)
noted_where (None ∷ ns) d m = let r = noted_where ns d m in (suc r.0, omega (arith, r.1), r.2)
noted_where (Some e ∷ ns) d m = elim (among_cases d e (darts_in ns) m) [
  | inl s ↦ (0, omega arith, ap Some (sym s))
  | inr k ↦ let r = noted_where ns d k in (suc r.0, omega (arith, r.1), r.2)
]

pub noted_among : (ns : List (Option ℕ)) (r d : ℕ) → note_at ns r ≡ Some d → is_among d (darts_in ns) ≡ true
noted_among [] r d e = absurd (none-some d e)
noted_among (n ∷ ns) zero d e = rw e (among_here d d (darts_in ns) refl)
noted_among (n ∷ ns) (suc r) d e = grind (arith, cases_Option n, noted_among ns r d)

pub noted_short : (ns : List (Option ℕ)) (r d : ℕ) → note_at ns r ≡ Some d → r < length ns
noted_short ns r d e = grind (arith, common_steps, cases_lt r (length ns))

-- Numbers that differ and are below n are at most n.
pub among_at : (xs : List ℕ) (i : ℕ) → i < length xs → is_among (get_or xs i 0) xs ≡ true
among_at [] i l = absurd (omega arith)
among_at (x ∷ xs) zero l = among_here x x xs refl
among_at (x ∷ xs) (suc i) l = among_later (get_or xs i 0) x xs (among_at xs i (omega arith))

pub places_apart : (xs : List ℕ) → AreApart xs → (i j : ℕ) → i < length xs → j < length xs
    → get_or xs i 0 ≡ get_or xs j 0 → i ≡ j
places_apart [] a i j li lj e = absurd (omega arith)
places_apart (x ∷ xs) a zero j li lj e = grind (arith, among_at xs, cases_eq j 0)
places_apart (x ∷ xs) a (suc i) j li lj e = grind (arith, among_at xs i, cases_eq j 0, places_apart xs a.1 i)

pub apart_few : (n : ℕ) (xs : List ℕ) → AreApart xs → ((d : ℕ) → is_among d xs ≡ true → d < n) → length xs ≤ n
apart_few n xs a low = no_more (length xs) n (λ i. get_or xs i 0) (λ k. k) (places_apart xs a)
    (λ i l. (get_or xs i 0, low (get_or xs i 0) (among_at xs i l), refl))

-- Two lists, one after the other.
pub among_append : (d : ℕ) (xs ys : List ℕ) → is_among d (xs ++ ys) ≡ true → (is_among d xs ≡ true)
    ⊎ (is_among d ys ≡ true)
among_append d [] ys m = inr m
among_append d (x ∷ xs) ys m = grind (arith, common_steps)

pub apart_append : (xs ys : List ℕ) → AreApart xs → AreApart ys → ((d : ℕ) → is_among d xs ≡ true → is_among d ys ≡ true
    → ⊥) → AreApart (xs ++ ys)
apart_append [] ys a b disjoint = b
apart_append (x ∷ xs) ys a b disjoint =
    search (rules, among_append, apart_append xs ys a.1 b (λ d m k. disjoint d (among_later d x xs m) k))
