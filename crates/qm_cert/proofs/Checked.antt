-- The verdict yes is that the certificate is accepted.
use Rattle.std.proofs.Common.{rules, ◌≡◌, ℕ, ℤ, ◌==◌, not, length, List, Option, Some, None, Err, IfOk, refl, sym, ◌∙◌}
use Rattle.std.proofs.Common.{ap, inl, inr, ltb-false, eq-eqb, eqb-true, arith, option_map, pos, ◌-ℤ◌, ◌*ℤ◌, true}
use Rattle.std.proofs.Common.{false, cond, Bool, ◌↔◌, Result, Ok, ◌*◌, ◌^◌, ◌<◌, ◌≤◌, unsigned_abs, zero, suc}
use Rattle.std.proofs.{lemmas.Int.ints, lemmas.Bool.cases_lt, lemmas.Bool.not-false, lemmas.Bool.Decides.Decides-int_eq}
use Rattle.std.specs.{Prelude.slice_index, Prelude.if◌then◌else◌, Ordering.int_eq}
use Rattle.qm_dual.proofs.{Gathered.least_none, Gathered.none_below, Gathered.least_low, Gathered.least_same}
use Rattle.qm_dual.proofs.{Verdicts.yes_says, Verdicts.says_yes}
use Rattle.def_flow.specs.Admissible.{IsAdmissible, IsLeast, deviation, entries, side_sum, arc_deviation, AreNetLengths}
use Rattle.def_flow.specs.Admissible.{is_on_side}
use Rattle.def_flow.specs.Accepted.{Certificate, IsAccepted, below_fault, unequal_fault, refuse_dual, sums_verdict}
use Rattle.def_flow.specs.Accepted.{cert_verdict, unequal_at}
use Rattle.def_flow.specs.declared.cert.CertVerdict.TheVariants.{Count, Below, Sums, Yes as Accepted, Unequal}
use Rattle.def_flow.specs.{Gadget.lows, Network.Network, Network.IsWithinBounds, Network.arc_at, Network.ends}
use Rattle.def_flow.specs.{Units.arcwise, Units.down, Units.on_cost, MatchingGraph.matching_graph}
use Rattle.def_flow.specs.{declared.cert.CertVerdict.CertVerdict, declared.net.Arc.Arc, declared.net.End.End}
use Rattle.def_matching.specs.{Dual.dual_sum, Dual.refuse, Dual.verdict, declared.weighted.Verdict.Verdict}
use Rattle.def_matching.specs.{declared.weighted.Verdict.TheVariants.Yes}
use Rattle.{qm_net.proofs.Balances.no_side_past, qm_net.proofs.Within.arc_within, table_laws.proofs.Tallies.tally_low}
use Rattle.gadget_laws.proofs.{Box.own_box, Box.arcwise_length, Box.box_deviation, Arcs.sound}
use Rattle.qm_cert.specs.Faults.{or_else, unequal_verdict, list_verdict, compared_verdict}
use Rattle.qm_cert.specs.Sides.{end_put, arc_put, side_count, AreSides}
use Rattle.sum_laws.proofs.{Sums.count_below_le, Sums.count_below_ones, Sums.count_below_times, Sums.count_total}
use Rattle.sum_laws.proofs.{Sums.count_below_total, Sums.total_same, Sums.total_below_same, Tests.same_test}
use Rattle.{qm_gadget.proofs.OfList.arcwise_at, def_math.specs.Searches.least}

-- The verdict on the sum, by its three numbers.
abbrev pub checked : ℤ → ℤ → ℤ → CertVerdict
checked far sum cost = if int_eq sum cost then Accepted far else Sums sum cost

pub checked_same : (far near sum other cost price : ℤ) → far ≡ near → sum ≡ other → cost ≡ price → checked far sum cost
    ≡ checked near other price
checked_same far near sum other cost price e f g = search rules

-- The cost of the units that are on is the deviation less that of the lows.
pub cost_is : (net : Network) (xs : List ℕ) → length xs ≡ length net.arcs
    → on_cost net 1 xs ≡ pos (deviation net (entries xs)) -ℤ pos (deviation net (entries (lows net 1 xs)))
cost_is net xs l = box_deviation net 1 xs (arcwise (down 1) net.arcs xs) xs l (own_box 1 net.arcs xs l)

-- The verdict is the fault of the list, or what comes after.
pub by_list : (net : Network) (c : Certificate) → cert_verdict net c
    ≡ or_else (list_verdict net c.x) (refuse_dual (verdict (matching_graph net 1 c.x) c.dual) (sums_verdict net c))
by_list net c = grind arith

admissible : (net : Network) (xs : List ℕ) → IsWithinBounds net → below_fault net xs ≡ None
    → unequal_fault net xs ≡ None → IsAdmissible net (entries xs)
admissible net xs bounds below unequal = record {
  high = λ k l.
      let h = ltb-false (slice_index xs k) (arc_at net.arcs k).floor (none_below _ (length net.arcs) below k l) in
      omega (arith, ints, h);
  balanced = λ v. elim (cases_lt v net.nodes) [
    | inl l ↦ (Decides-int_eq (side_sum net.arcs (entries xs) true v) (side_sum net.arcs (entries xs) false v)).0
        (not-false _ (none_below _ net.nodes unequal v l))
    | inr h ↦ no_side_past net bounds xs true v h ∙ sym (no_side_past net bounds xs false v h)
  ];
}

pub no_fault : (net : Network) (xs : List ℕ) → IsWithinBounds net → list_verdict net xs ≡ None
    → (length xs ≡ length net.arcs) × IsAdmissible net (entries xs)
no_fault net xs bounds none = search (rules, admissible)

-- An admissible list has no fault.
admissible_none : (net : Network) (xs : List ℕ) → length xs ≡ length net.arcs → IsAdmissible net (entries xs)
    → list_verdict net xs ≡ None
admissible_none net xs count a = search (rules, least_none)

-- The verdict yes comes exactly where the certificate is accepted.
pub yes_accepted : (net : Network) (c : Certificate) (d : ℤ) → IsWithinBounds net → cert_verdict net c ≡ Accepted d
    → IsAccepted net c
yes_accepted net c d bounds says = by_tests (length c.x == length net.arcs) (below_fault net c.x)
    (unequal_fault net c.x) (verdict (matching_graph net 1 c.x) c.dual)
    (int_eq (dual_sum c.dual) (pos 2 *ℤ on_cost net 1 c.x)) refl refl refl refl refl says
  where
    by_tests : (count : Bool) (below unequal : Option ℕ) (dual : Verdict) (even : Bool)
        → (length c.x == length net.arcs) ≡ count → below_fault net c.x ≡ below → unequal_fault net c.x ≡ unequal
        → verdict (matching_graph net 1 c.x) c.dual ≡ dual
        → int_eq (dual_sum c.dual) (pos 2 *ℤ on_cost net 1 c.x) ≡ even
        → cond (not count) (Count (length net.arcs) (length c.x)) (refuse below (λ k. Below k (slice_index c.x k))
        (refuse unequal (unequal_at net c.x) (refuse_dual dual (cond even (Accepted (pos (deviation net (entries c.x))))
        (Sums (dual_sum c.dual) (pos 2 *ℤ on_cost net 1 c.x)))))) ≡ Accepted d → IsAccepted net c
    by_tests true None None (Yes s) true e below unequal said equal same = record {
      count = eqb-true (length c.x) (length net.arcs) e;
      admissible = admissible net c.x bounds below unequal;
      yes = (yes_says (matching_graph net 1 c.x) c.dual s said).0;
      sums = (Decides-int_eq (dual_sum c.dual) (pos 2 *ℤ on_cost net 1 c.x)).0 equal;
    }
    by_tests _ _ _ _ _ e below unequal said equal same = absurd cc

pub accepted_yes : (net : Network) (c : Certificate) → IsAccepted net c → cert_verdict net c
    ≡ Accepted (pos (deviation net (entries c.x)))
accepted_yes net c a = by_list net c ∙ rw (
  admissible_none net c.x a.count a.admissible,
  says_yes (matching_graph net 1 c.x) c.dual a.yes,
  (Decides-int_eq (dual_sum c.dual) (pos 2 *ℤ on_cost net 1 c.x)).1 a.sums,
) refl

-- After a yes the list is least.
pub yes_least : (net : Network) (c : Certificate) (d : ℤ) → IsWithinBounds net → cert_verdict net c ≡ Accepted d
    → IsLeast net (entries c.x)
yes_least net c d bounds says = sound net c bounds (yes_accepted net c d bounds says)

-- Where the verdict is exact, yes comes exactly for accepted certificates.
pub exact_accepted : (net : Network) (c : Certificate) (v : CertVerdict) → IsWithinBounds net → v ≡ cert_verdict net c
    → ((d : ℤ) × (v ≡ Accepted d)) ↔ IsAccepted net c
exact_accepted net c v bounds exact = (
  λ (d, e). yes_accepted net c d bounds (sym exact ∙ e),
  λ a. (pos (deviation net (entries c.x)), exact ∙ accepted_yes net c a),
)

pub accepted_where_exact : {E : Type 0} (net : Network) (c : Certificate) (r : Result CertVerdict E)
    → IsWithinBounds net → IfOk r (λ v. v ≡ cert_verdict net c)
    → IfOk r (λ v. ((d : ℤ) × (v ≡ Accepted d)) ↔ IsAccepted net c)
accepted_where_exact net c (Ok v) bounds exact = exact_accepted net c v bounds exact
accepted_where_exact net c (Err e) bounds exact = tt

pub least_where_exact : {E : Type 0} (net : Network) (c : Certificate) (r : Result CertVerdict E) → IsWithinBounds net
    → IfOk r (λ v. v ≡ cert_verdict net c) → IfOk r (λ v. (d : ℤ) → v ≡ Accepted d → IsLeast net (entries c.x))
least_where_exact net c (Ok v) bounds exact = λ d e. yes_least net c d bounds (sym exact ∙ e)
least_where_exact net c (Err e) bounds exact = tt

-- The verdict where the list has a fault.
pub faulty : (net : Network) (c : Certificate) (v : CertVerdict) → list_verdict net c.x ≡ Some v
    → v ≡ cert_verdict net c
faulty net c v e = rw (by_list net c, e) refl

-- The verdict where the list has none.
pub faultless : {E : Type 0} (net : Network) (c : Certificate) (r : Result CertVerdict E) → list_verdict net c.x ≡ None
    → IfOk r (λ v. v ≡ refuse_dual (verdict (matching_graph net 1 c.x) c.dual) (sums_verdict net c))
    → IfOk r (λ v. v ≡ cert_verdict net c)
faultless net c (Ok v) none exact = exact ∙ rw (by_list net c, none) refl
faultless net c (Err e) none exact = tt

-- Deviations are far from the ends of their type.

-- The deviation of an arc of a network within bounds.
arc_small : (net : Network) (k y : ℕ) → IsWithinBounds net → k < length net.arcs → y ≤ 10 ^ 12
    → arc_deviation net (arc_at net.arcs k) (pos y) ≤ 10 ^ 19
arc_small net k y bounds l short = search (rules, arc_within)

-- The deviation of a list of lengths.
pub deviation_small : (net : Network) (xs : List ℕ) → IsWithinBounds net → AreNetLengths net.arcs xs
    → deviation net (entries xs) ≤ 2 ^ 120
deviation_small net xs bounds are = omega (
  arith,
  count_below_le (λ k. arc_deviation net (arc_at net.arcs k) (entries xs k)) (λ k. 10 ^ 19 * 1) (length net.arcs)
      (λ k l. omega (arith, arc_small net k (slice_index xs k) bounds l (are.small k (omega (arith, are.count))))),
  count_below_times (10 ^ 19) (λ k. 1) (length net.arcs),
  count_below_ones (length net.arcs),
  bounds.few,
)

-- The lows are lengths too.
pub lows_lengths : (net : Network) (xs : List ℕ) → AreNetLengths net.arcs xs → AreNetLengths net.arcs (lows net 1 xs)
lows_lengths net xs are = search (rules, arcwise_length, arcwise_at)

-- Sums on one side of the nodes, one arc at a time.

side_low : (arcs : List Arc) (xs : List ℕ) (plus : Bool) (k v : ℕ) → ((i : ℕ) → i < k → slice_index xs i ≤ 10 ^ 12)
    → side_count arcs xs plus k v ≤ k * (2 * 10 ^ 12)
side_low arcs xs plus zero v short = omega arith
side_low arcs xs plus (suc k) v short = search (rules, side_low arcs xs plus k v (λ i l. short i (omega arith)))

-- The sums of the first arcs are small.
pub sides_low : (nodes : ℕ) (arcs : List Arc) (xs : List ℕ) (plus : Bool) (k : ℕ) (sums : List ℕ)
    → AreNetLengths arcs xs → k ≤ length arcs → AreSides nodes arcs xs plus k sums → (v : ℕ)
    → slice_index sums v ≤ k * (2 * 10 ^ 12)
sides_low nodes arcs xs plus k sums lengths le are = tally_low (side_count arcs xs plus k) nodes (k * (2 * 10 ^ 12))
    sums are (λ v l. side_low arcs xs plus k v (λ i li. lengths.small i (omega (arith, lengths.count))))

-- Such a sum as a whole number.
pub side_is : (arcs : List Arc) (xs : List ℕ) (plus : Bool) (v : ℕ) → pos (side_count arcs xs plus (length arcs) v)
    ≡ side_sum arcs (entries xs) plus v
side_is arcs xs plus v = count_below_total (λ i. arc_put plus (arc_at arcs i) (slice_index xs i) v) (length arcs)
    ∙ total_below_same _ _ (length arcs) (λ i l.
    count_total (λ (e : End). end_put plus e (slice_index xs i) v) (ends (arc_at arcs i))
    ∙ total_same _ _ (ends (arc_at arcs i)) (λ e. by_test (slice_index xs i) (is_on_side v plus e)))
  where
    by_test : (x : ℕ) (b : Bool) → pos (cond b x 0) ≡ cond b (pos x) (pos 0)
    by_test x true = refl
    by_test x false = refl

-- The verdict on a list by tables of sums.

-- Equal answers at what was found.
map_same : (f g : ℕ → CertVerdict) (o : Option ℕ) → ((k : ℕ) → o ≡ Some k → f k ≡ g k) → option_map f o ≡ option_map g o
map_same f g None same = refl
map_same f g (Some k) same = ap Some (same k refl)

-- The tables tell the least node with unequal sums, and these.
pub compared_is : (net : Network) (xs : List ℕ) (plus minus : List ℕ) → AreSides net.nodes net.arcs xs true
    (length net.arcs) plus → AreSides net.nodes net.arcs xs false (length net.arcs) minus → compared_verdict plus minus
    ≡ unequal_verdict net xs
compared_is net xs plus minus p m = ap (option_map (λ v. Unequal v (slice_index plus v) (slice_index minus v))) found
    ∙ map_same (λ v. Unequal v (slice_index plus v) (slice_index minus v)) (λ v. Unequal v (unsigned_abs (side true v))
    (unsigned_abs (side false v))) (unequal_fault net xs)
    (λ v e. same v (least_low (λ u. not (int_eq (side true u) (side false u))) net.nodes v e))
  where
    side : Bool → ℕ → ℤ
    side s v = side_sum net.arcs (entries xs) s v

    plus_is : (v : ℕ) → v < net.nodes → pos (slice_index plus v) ≡ side true v
    plus_is v l = ap pos (p.each v l) ∙ side_is net.arcs xs true v

    minus_is : (v : ℕ) → v < net.nodes → pos (slice_index minus v) ≡ side false v
    minus_is v l = ap pos (m.each v l) ∙ side_is net.arcs xs false v

    test : (v : ℕ) → v < net.nodes → not (slice_index plus v == slice_index minus v)
        ≡ not (int_eq (side true v) (side false v))
    test v l =
        let a = slice_index plus v in
        let b = slice_index minus v in
        ap not (same_test (a == b) (int_eq (pos a) (pos b)) (λ on. (Decides-int_eq (pos a) (pos b)).1
        (ap pos (eqb-true a b on))) (λ on. eq-eqb a b (omega (arith, ints, (Decides-int_eq (pos a) (pos b)).0 on))))
        ∙ (ap (λ z. not (int_eq z (pos (slice_index minus v)))) (plus_is v l) ∙ ap (λ z. not (int_eq (side true v) z))
        (minus_is v l))

    found : least (λ v. not (slice_index plus v == slice_index minus v)) (length plus) ≡ unequal_fault net xs
    found = ap (least (λ v. not (slice_index plus v == slice_index minus v))) p.count
        ∙ least_same _ (λ u. not (int_eq (side true u) (side false u))) net.nodes test

    same : (v : ℕ) → v < net.nodes → Unequal v (slice_index plus v) (slice_index minus v)
        ≡ Unequal v (unsigned_abs (side true v)) (unsigned_abs (side false v))
    same v l = ap (λ z. Unequal v (unsigned_abs z) (slice_index minus v)) (plus_is v l)
        ∙ ap (λ z. Unequal v (unsigned_abs (side true v)) (unsigned_abs z)) (minus_is v l)
