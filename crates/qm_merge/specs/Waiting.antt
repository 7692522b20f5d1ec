-- The names of joinable arcs that wait to leave.
use Rattle.std.specs.Prelude.{◌≡◌, ◌⊎◌, ℕ, ◌*◌, ◌+◌, ◌<◌, cond, Bool, true, List, [], ◌∷◌}
use Rattle.std.specs.Ordering.{nat_cmp}
use Rattle.std.specs.BTreeSet as sorted
use Rattle.std.specs.BTreeSet.{BTreeSet}
use Rattle.def_mesh.specs.HalfEdges.{HalfEdges}
use Rattle.def_cut.specs.Cuts.{Cut}
use Rattle.def_merge.specs.Joins.{IsJoinable, IsNameOf, Leave}
use Rattle.qm_merge.specs.Links.{at}

abbrev pub Waits : (names : BTreeSet ℕ) (name : ℕ) → Type 0
Waits names name = sorted.contains nat_cmp names name ≡ true

-- All of them are darts.
abbrev pub AreBelow : (names : BTreeSet ℕ) (count : ℕ) → Type 0
AreBelow names count = (name : ℕ) → Waits names name → name < count

-- An arc waits under this name, with the corner where one of its sides begins.
abbrev pub IsNoted : (names : BTreeSet ℕ) (starts : List ℕ) (s t name : ℕ) → Type 0
IsNoted names starts s t name = Waits names name × ((at starts name ≡ s) ⊎ (at starts name ≡ t))

-- Each joinable arc waits.
abbrev pub AllWait : (mesh : HalfEdges) (cut : Cut) (names : BTreeSet ℕ) (starts : List ℕ) → Type 0
AllWait mesh cut names starts =
    (s t n name : ℕ) → IsJoinable mesh cut s t n → IsNameOf mesh s t n name → IsNoted names starts s t name

-- Each joinable arc that may leave waits.
abbrev pub FreeWait :
    (mesh : HalfEdges) (cut : Cut) (may : Leave) (names : BTreeSet ℕ) (starts : List ℕ) → Type 0
FreeWait mesh cut may names starts = (s t n name : ℕ) → IsJoinable mesh cut s t n → may s t n ≡ true
    → IsNameOf mesh s t n name → IsNoted names starts s t name

-- When the cut shrinks, each joinable arc waits that was not joinable before or waited.
abbrev pub WaitStill :
    (mesh : HalfEdges) (cut rest : Cut) (old new : BTreeSet ℕ) (starts new_starts : List ℕ) → Type 0
WaitStill mesh cut rest old new starts new_starts = (s t n name : ℕ) → IsJoinable mesh rest s t n
    → IsNameOf mesh s t n name → (IsJoinable mesh cut s t n → IsNoted old starts s t name)
    → IsNoted new new_starts s t name

-- How many marks there are.
abbrev pub mark_count : (marks : List Bool) → ℕ
mark_count [] = 0
mark_count (b ∷ bs) = cond b 1 0 + mark_count bs

-- Twice the marks, and what waits: it falls with each turn.
abbrev pub left_over : (marks : List Bool) (names : BTreeSet ℕ) → ℕ
left_over marks names = 2 * mark_count marks + sorted.btree_set_len names
