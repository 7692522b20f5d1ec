-- Parts of lists joined one after the other: of edges, and of units and states by lows and caps.
use Rattle.std.proofs.lemmas.{Grind.common_steps, Bool.Decides.nat_tests, List.length-append}
use Rattle.std.proofs.Common.{rules, ◌≡◌, ℕ, zero, suc, ◌+◌, List, [], ◌∷◌, ◌++◌, ℤ, refl, ◌∙◌, ap, append_assoc}
use Rattle.std.proofs.Common.{add-zero, arith, ◌-◌, true, length, map, sym}
use Rattle.std.specs.Prelude.{nat_lt}
use Rattle.def_flow.specs.Units.{arcwise, down, cap, run, units_from, unit_at, units_over, states_over}
use Rattle.def_flow.specs.{MatchingGraph.link, MatchingGraph.fan, Network.Network, declared.net.Arc.Arc}
use Rattle.gadget_laws.proofs.Box.{units_length, run_length}

-- One edge more of a fan.
pub fan_more : (u : ℕ) (c : ℤ) (a n : ℕ) → fan u c a (n + 1) ≡ fan u c a n ++ link u (a + n) c ∷ []
fan_more u c a zero = rw (add-zero a) refl
fan_more u c a (suc n) = search (rules, fan_more u c (a + 1) n)

-- Two parts after what was there.
pub two_parts : {X : Type 0} (old mid now xs ys : List X) → mid ≡ old ++ xs → now ≡ mid ++ ys → now ≡ old ++ (xs ++ ys)
two_parts old mid now xs ys first second = second ∙ (ap (λ l. l ++ ys) first ∙ append_assoc old xs ys)

-- Three parts after what was there.
pub three_parts : {X : Type 0} (old mid next now xs ys zs : List X) → mid ≡ old ++ xs → next ≡ mid ++ ys
    → now ≡ next ++ zs → now ≡ old ++ (xs ++ (ys ++ zs))
three_parts old mid next now xs ys zs first second third = search (rules, two_parts)

-- The four parts of a rung after what was there.
pub rung_parts : {X : Type 0} (old one two three now : List X) (xs : List X) (y : X) (ys : List X) (z : X)
    → one ≡ old ++ xs → two ≡ one ++ y ∷ [] → three ≡ two ++ ys → now ≡ three ++ z ∷ []
    → now ≡ old ++ (xs ++ (y ∷ ys ++ z ∷ []))
rung_parts old one two three now xs y ys z first second third fourth = grind (arith, common_steps)

-- One state more of a run.
pub run_suc : (j n : ℕ) → run j (suc n) ≡ run j n ++ nat_lt n j ∷ []
run_suc zero zero = refl
run_suc (suc j) zero = let on : nat_lt 0 (suc j) ≡ true = grind (arith, nat_tests) in ap (λ b. b ∷ []) (sym on)
run_suc zero (suc n) = search (rules, run_suc zero n)
run_suc (suc j) (suc n) = search (rules, run_suc j n)

-- One unit more of an arc.
pub from_more : (net : Network) (step : ℕ) (a : Arc) (l k n : ℕ) → units_from net step a l k (n + 1)
    ≡ units_from net step a l k n ++ unit_at net step a l (k + n) ∷ []
from_more net step a l k zero = rw (add-zero k) refl
from_more net step a l k (suc n) =
    let next : suc n + 1 ≡ suc (n + 1) = omega arith in rw next (search (rules, from_more net step a l (k + 1) n))

-- Of its units a list has on all but those to gain.
pub downs : (step : ℕ) (arcs : List Arc) (xs : List ℕ) → map (λ c. c - 2) (arcwise (cap step) arcs xs)
    ≡ arcwise (down step) arcs xs
downs step (a ∷ arcs) (x ∷ xs) = search (rules, downs step arcs xs)
downs step _ _ = refl

-- There is a state for each unit.
pub states_long : (net : Network) (step : ℕ) (arcs : List Arc) (ls cs js : List ℕ) → length ls ≡ length arcs → length cs
    ≡ length arcs → length js ≡ length arcs → length (units_over net step arcs ls cs) ≡ length (states_over cs js)
states_long net step [] ls [] js l c j = refl
states_long net step (a ∷ arcs) (x ∷ ls) (y ∷ cs) (z ∷ js) l c j = simp (length-append, units_length, run_length)
    (ap (λ n. y + n) (states_long net step arcs ls cs js (omega arith) (omega arith) (omega arith)))
states_long net step _ _ _ _ l c j = absurd (omega arith)
