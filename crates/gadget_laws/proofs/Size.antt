-- The matching graph has at most 9/16 of the tangle number of vertices, and at most 9/8 of it of edges.
use Rattle.std.proofs.Common.{rules, ◌≡◌, ◌≢◌, ℕ, zero, suc, ◌+◌, ◌-◌, ◌*◌, ◌%◌, ◌<◌, ◌≤◌, Bool, true, false, cond}
use Rattle.std.proofs.Common.{◌==◌, List, [], ◌∷◌, length, Option, Some, None, option_to_list, pos, ◌≤ℤ◌, refl}
use Rattle.std.proofs.Common.{sym, ◌∙◌, add-mul, mul-zero, zero-mul, mul-le-mul_left}
use Rattle.std.proofs.Common.{mul-le-mul_right, length-append, eq-eqb, ne_eqb, arith}
use Rattle.std.proofs.{lemmas.List.Elements.All-from_recursion}
use Rattle.sum_laws.proofs.Sums.{integers, count_append, count_below_sum, count_below_le, count_below_same}
use Rattle.sum_laws.proofs.Sums.{count_below_one, count_below_none, count_below_times}
use Rattle.def_flow.specs.Network.{Network, IsWithinBounds, arc_at, ends, degree, tangle_number}
use Rattle.def_flow.specs.{MatchingGraph.matching_graph, Admissible.IsAdmissible, Admissible.entries}
use Rattle.def_flow.specs.{declared.net.Arc.Arc, declared.net.End.End, declared.units.ArcUnit.ArcUnit}
use Rattle.def_flow.specs.Units.{arcwise, down, low, cap, units_from, units, states_at, is_active, active, rim_active}
use Rattle.def_flow.specs.MatchingGraph.{rim_links, rim, size_by, unit_size, units_links}
use Rattle.gadget_laws.proofs.Box.{own_box, arc_active, weighted_ends, box_active, balanced_list, IsFit, arcs_fit}
use Rattle.{sum_laws.proofs.Tests.once_at_most, def_math.specs.Counts.count, def_math.specs.Counts.count_below}
use Rattle.{gadget_laws.proofs.Pick.links_width, std.specs.List.AllByRecursion, gadget_laws.specs.Told.width_by}

-- The ends at a node on one side.
abbrev ends_on : ℕ → Bool → List Arc → ℕ
ends_on v on arcs = count (arc_active v on) arcs

-- All ends at a node are on one side or the other.
degree_sides : (v : ℕ) (arcs : List Arc) → degree arcs v ≡ ends_on v true arcs + ends_on v false arcs
degree_sides v [] = refl
degree_sides v (a ∷ arcs) = grind (arith, degree_sides v arcs)

-- Entries of at least 1 weigh at least the number of ends, and nothing where there are none.
weighted_high : (v : ℕ) (on : Bool) (arcs : List Arc) (xs : List ℕ) → length xs ≡ length arcs
    → ((k : ℕ) → k < length xs → pos 1 ≤ℤ entries xs k) → (ends_on v on arcs ≤ weighted_ends v on arcs xs)
    × (ends_on v on arcs ≡ 0 → weighted_ends v on arcs xs ≡ 0)
weighted_high v on [] [] l high = (omega arith, λ none. refl)
weighted_high v on (a ∷ arcs) (x ∷ xs) l high =
    let first : pos 1 ≤ℤ pos x = high 0 (omega arith) in
    search (rules, weighted_high v on arcs xs (omega arith) (λ k lk. high (suc k) (omega arith)))
weighted_high v on _ _ l high = absurd (omega arith)

-- No node has a single end: the other side would have the sum 0.
no_single : (net : Network) (xs : List ℕ) → IsWithinBounds net → length xs ≡ length net.arcs
    → IsAdmissible net (entries xs) → (v : ℕ) → degree net.arcs v ≢ 1
no_single net xs bounds l a v single = grind (arith, degree_sides v net.arcs, equal, side true, side false)
  where
    high : (k : ℕ) → k < length xs → pos 1 ≤ℤ entries xs k
    high k lk = (let at : k < length net.arcs = omega (arith, l) in
        let fit : IsFit net.nodes (arc_at net.arcs k) = All-from_recursion _ _ (arcs_fit _ _ bounds.arcs) k _ at in
        omega (integers, fit.2, a.high k at))

    side : (on : Bool) → (ends_on v on net.arcs ≤ weighted_ends v on net.arcs xs)
        × (ends_on v on net.arcs ≡ 0 → weighted_ends v on net.arcs xs ≡ 0)
    side on = weighted_high v on net.arcs xs l high

    equal : weighted_ends v true net.arcs xs ≡ weighted_ends v false net.arcs xs
    equal = balanced_list net.arcs xs l a.balanced v

-- A node has at most two copies for each of its ends.
caps_ends : (step v : ℕ) (arcs : List Arc) (xs : List ℕ) → weighted_ends v false arcs (arcwise (cap step) arcs xs)
    ≤ weighted_ends v false arcs (arcwise (down step) arcs xs) + 2 * ends_on v false arcs
caps_ends step v (a ∷ arcs) (x ∷ xs) = omega (arith, add-mul, caps_ends step v arcs xs)
caps_ends step v _ _ = omega arith

downs_ends : (step v : ℕ) (arcs : List Arc) (xs : List ℕ)
    → weighted_ends v true arcs (arcwise (down step) arcs xs) ≤ 2 * ends_on v true arcs
downs_ends step v (a ∷ arcs) (x ∷ xs) = search (rules, downs_ends step v arcs xs)
downs_ends step v _ _ = omega arith

pub count_low : (net : Network) (step : ℕ) (xs : List ℕ) → length xs ≡ length net.arcs → (v : ℕ)
    → active v (units net step net.arcs xs) (states_at net step xs) ≤ 2 * degree net.arcs v
count_low net step xs l v =
    let own = box_active net step v net.arcs xs (arcwise (down step) net.arcs xs) xs (own_box step net.arcs xs l) in
    omega (arith, degree_sides, caps_ends, downs_ends)

-- All ends, and what f is along them.
abbrev along_ends : (ℕ → ℕ) → List Arc → ℕ
along_ends f arcs = count (λ a. count (λ e. f e.node) (ends a)) arcs

one_node : (f : ℕ → ℕ) (nodes : ℕ) (u : ℕ) → u < nodes → count_below (λ v. cond (u == v) 1 0 * f v) nodes ≡ f u
one_node f nodes u l = count_below_one (λ v. cond (u == v) 1 0 * f v) nodes u l
    (λ k lk ne. rw (ne_eqb u k (λ e. ne (sym e))) (zero-mul (f k))) ∙ rw (eq-eqb u u refl) (omega arith)

-- Along a list, and node by node, where this is so of each element.
exchange_each : {X : Type 0} (G : X → Type 0) (d : X → ℕ → ℕ) (h : X → ℕ) (f : ℕ → ℕ) (nodes : ℕ)
    → ((x : X) → G x → count_below (λ v. d x v * f v) nodes ≡ h x) → (xs : List X) → AllByRecursion G xs
    → count_below (λ v. count (λ x. d x v) xs * f v) nodes ≡ count h xs
exchange_each G d h f nodes each [] good = count_below_none (λ v. 0 * f v) nodes (λ v l. zero-mul (f v))
exchange_each {X} G d h f nodes each (x ∷ xs) good = omega (
  arith,
  count_below_same _ _ nodes (λ v l. add-mul (d x v) (count (λ (y : X). d y v) xs) (f v)),
  count_below_sum (λ v. d x v * f v) (λ v. count (λ (y : X). d y v) xs * f v) nodes,
  each x good.0,
  exchange_each G d h f nodes each xs good.1,
)

exchange : (f : ℕ → ℕ) (nodes : ℕ) (arcs : List Arc) → AllByRecursion (IsFit nodes) arcs
    → count_below (λ v. degree arcs v * f v) nodes ≡ along_ends f arcs
exchange f nodes = exchange_each (IsFit nodes) _ _ f _ (λ a fit.
    (let each : AllByRecursion (λ e. e.node < nodes) (ends a) = search rules in
    exchange_each _ _ _ f _ (λ e l. one_node f _ _ l) (ends a) each))

-- The number of all ends.
abbrev all_ends : List Arc → ℕ
all_ends arcs = along_ends (λ v. 1) arcs

degrees_sum : (nodes : ℕ) (arcs : List Arc) → AllByRecursion (IsFit nodes) arcs
    → count_below (degree arcs) nodes ≡ all_ends arcs
degrees_sum nodes arcs at = count_below_same _ _ _ (λ v l. omega arith) ∙ exchange _ _ _ at

-- Where no node has a single end, there are at most 1/32 of the tangle number of ends.
tangle_high : (net : Network) → AllByRecursion (IsFit net.nodes) net.arcs → ((v : ℕ) → degree net.arcs v ≢ 1)
    → 32 * all_ends net.arcs ≤ tangle_number net
tangle_high net at several = omega (
  arith,
  count_below_times 32 (degree net.arcs) net.nodes,
  degrees_sum net.nodes net.arcs at,
  count_below_le (λ v. 32 * degree net.arcs v) (λ v. 16 * (degree net.arcs v * degree net.arcs v)) net.nodes
      (λ v l. grind (arith, several v)),
)

-- Whether a unit has one end, as 1 or 0.
abbrev lone_by : Option End → ℕ
lone_by None = 1
lone_by (Some right) = 0

abbrev is_lone : ArcUnit → ℕ
is_lone u = lone_by u.right

rim_count : (b : ℕ) (us : List ArcUnit) → length (rim b us) ≡ count is_lone us
rim_count b [] = refl
rim_count b (u ∷ us) = grind (arith, rim_count (b + unit_size u) us)

rim_active_low : (us : List ArcUnit) (ons : List Bool) → rim_active us ons ≤ count is_lone us
rim_active_low (u ∷ us) (on ∷ ons) = grind (arith, once_at_most (is_active on u.left), rim_active_low us ons)
rim_active_low _ _ = omega arith

-- The edges at the rim are at most four for each vertex there.
rim_low : (before : Option ℕ) (fresh : ℕ) (rs : List ℕ) → length (rim_links before fresh rs) ≤ 4 * length rs
rim_low before fresh (r ∷ s ∷ rs) = search (rules, rim_low (Some (fresh + 1)) (fresh + 2) (s ∷ rs))
rim_low before fresh _ = grind arith

-- Of each arc there are at most four units, all of its shape.
shape_count : (g : End → Option End → ℕ) (net : Network) (step : ℕ) (a : Arc) (x k n : ℕ)
    → count (λ u. g u.left u.right) (units_from net step a (low step a x) k n) ≡ n * g a.left a.right
shape_count g net step a x k zero = omega (arith, zero-mul (g a.left a.right))
shape_count g net step a x k (suc n) =
    omega (arith, add-mul 1 n (g a.left a.right), shape_count g net step a x (k + 1) n)

units_few : (g : End → Option End → ℕ) (f : ℕ → ℕ) (net : Network) (step : ℕ) (arcs : List Arc) (xs : List ℕ)
    → ((left : End) (right : Option End) → g left right ≤ count (λ e. f e.node) (left ∷ option_to_list right))
    → count (λ u. g u.left u.right) (units net step arcs xs) ≤ 4 * along_ends f arcs
units_few g f net step (a ∷ arcs) (x ∷ xs) le =
    let four : cap step a x ≤ 4 = omega arith in
    omega (
      arith,
      mul-le-mul_right (g a.left a.right) four,
      le a.left a.right,
      count_append (λ (u : ArcUnit). g u.left u.right) (units_from net step a (low step a x) 0 (cap step a x))
          (units net step arcs xs),
      shape_count g net step a x 0 (cap step a x),
      units_few g f net step arcs xs le,
    )
units_few g f net step _ _ le = omega arith

-- More along each end.
along_more : (c : ℕ) (f : ℕ → ℕ) (arcs : List Arc) → along_ends (λ v. c + f v) arcs
    ≡ c * all_ends arcs + along_ends f arcs
along_more c f [] = omega (arith, mul-zero c)
along_more c f (a ∷ arcs) = search (rules, along_more c f arcs)

-- The vertices of a unit, and two at the rim for it where it has one end.
abbrev size_and_rim : End → Option End → ℕ
size_and_rim left right = size_by left right + (lone_by right + lone_by right)

sizes_split : (us : List ArcUnit) → count (λ u. size_and_rim u.left u.right) us
    ≡ count unit_size us + (count is_lone us + count is_lone us)
sizes_split [] = refl
sizes_split (u ∷ us) = omega (arith, sizes_split us)

-- The edges of a unit, and four at the rim for it where it has one end.
abbrev width_and_rim : (ℕ → ℕ) → End → Option End → ℕ
width_and_rim copies_at left right = width_by copies_at left right + 4 * lone_by right

widths_split : (copies_at : ℕ → ℕ) (b : ℕ) (us : List ArcUnit) → count (λ u. width_and_rim copies_at u.left u.right) us
    ≡ length (units_links copies_at b us) + 4 * count is_lone us
widths_split copies_at b [] = refl
widths_split copies_at b (u ∷ us) =
    search (rules, length-append, links_width, widths_split copies_at (b + unit_size u) us)

-- The bounds.
pub size_law : (net : Network) (step : ℕ) (xs : List ℕ) → IsWithinBounds net → length xs ≡ length net.arcs
    → IsAdmissible net (entries xs) → (16 * (matching_graph net step xs).n ≤ 9 * tangle_number net)
    × (8 * length (matching_graph net step xs).edges ≤ 9 * tangle_number net)
size_law net step xs bounds l a =
    let us : List ArcUnit = units net step net.arcs xs in
    let copies_at : ℕ → ℕ = λ v. active v us (states_at net step xs) in
    let lone : Bool = rim_active us (states_at net step xs) % 2 == 1 in
    let first : ℕ = count_below copies_at net.nodes in
    let at = arcs_fit net.nodes net.arcs bounds.arcs in
    let tangle = tangle_high net at (no_single net xs bounds l a) in
    let copies : first ≤ 2 * all_ends net.arcs = omega (
      arith,
      count_below_le copies_at (λ v. 2 * degree net.arcs v) net.nodes (λ v lv. count_low net step xs l v),
      count_below_times 2 (degree net.arcs) net.nodes,
      degrees_sum net.nodes net.arcs at,
    ) in
    let pairs_low : cond lone 1 0 + 2 * (length (rim first us) - 1) ≤ 2 * count is_lone us =
    search (rules, rim_active_low, rim_count) in
    let sizes = units_few size_and_rim (λ v. 3 + 1) net step net.arcs xs (λ left right. grind (arith)) in
    let vertices : (matching_graph net step xs).n ≤ first + 16 * all_ends net.arcs =
    omega (arith, pairs_low, sizes_split, along_more 3 (λ v. 1) net.arcs) in
    let edges : length (matching_graph net step xs).edges ≤ 4 * along_ends copies_at net.arcs + 20 * all_ends net.arcs =
    simp length-append (omega (
      arith,
      widths_split copies_at first us,
      rim_low,
      rim_count,
      units_few (width_and_rim copies_at) (λ v. 5 + copies_at v) net step net.arcs xs (λ left right. grind (arith)),
      along_more 5 copies_at net.arcs,
    )) in
    let shared : 32 * along_ends copies_at net.arcs ≤ 4 * tangle_number net = omega (
      arith,
      exchange copies_at net.nodes net.arcs at,
      count_below_times 32 (λ v. degree net.arcs v * copies_at v) net.nodes,
      count_below_times 4 (λ v. 16 * (degree net.arcs v * degree net.arcs v)) net.nodes,
      count_below_le (λ v. 32 * (degree net.arcs v * copies_at v))
          (λ v. 4 * (16 * (degree net.arcs v * degree net.arcs v))) net.nodes
          (λ v lv. omega (arith, mul-le-mul_left (degree net.arcs v) (count_low net step xs l v))),
    ) in
    (omega (arith, copies, vertices, tangle), omega (arith, edges, shared, tangle))
