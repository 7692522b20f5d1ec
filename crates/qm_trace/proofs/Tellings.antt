-- Marks at the darts of a list, one after another.
use Rattle.std.proofs.Common.{rules, ◌≡◌, ℕ, ◌+◌, ◌<◌, Bool, true, false, cond, eqb, ◌||◌, List, [], ◌∷◌, ◌++◌, length}
use Rattle.std.proofs.Common.{get_or, set, take, ap, ◌∙◌, refl, inl, inr, zero, suc, sym, arith, ◌≢◌, Option, Some}
use Rattle.std.proofs.{Common.None, Common.is_some, Math.Bool.or-false, Math.Bool.or_assoc}
use Rattle.std.proofs.{lemmas.List.Folds.list_any-append, lemmas.List.Elements.filter-append}
use Rattle.std.proofs.lemmas.Bool.{cases_eq, eq-eqb, or_right}
use Rattle.std.proofs.lemmas.List.{take_more, get_or-set_same, get_or-set_other, length-set}
use Rattle.def_cut.specs.{FullCut.is_on, declared.moving.Moving.Moving, declared.graph.Stop.Stop, Traced.terrain_of}
use Rattle.def_cut.specs.Events.{rider_at, note_at, told}
use Rattle.def_cut.specs.Motion.{is_among, begun}
use Rattle.def_mesh.specs.Darts.{darts, from_of, next_of, prev_of, to_of}
use Rattle.motion_laws.proofs.Among.{apart_filter, range_apart, cases_Option}
use Rattle.motion_laws.proofs.Marks.{among_at, noted_among, noted_where}
use Rattle.qm_trace.specs.Motions.{AreNotes, CanTell, is_untold, runs_on, told_along, told_by, AreCounted, MayTell}
use Rattle.qm_trace.specs.{declared.ground.Site.Site, declared.notes.Notes.Notes, declared.telling.Riders.Riders}
use Rattle.qm_trace.specs.Tables.{AreEachOnce, AreRode, rode, is_running, stop_here}
use Rattle.mesh_laws.proofs.Chains.{next_of-prev_of, next_of_low, fan_of_is}
use Rattle.{std.specs.List.list_any, std.specs.List.range_with_len, std.specs.List.filter, def_mesh.specs.Faces.Faces}
use Rattle.{def_mesh.specs.Vertices.fan_of, feature_laws.proofs.Breaks.from_fan, feature_laws.proofs.Breaks.in_fan}
use Rattle.{qm_trace.proofs.Counting.tally_rider, qm_trace.proofs.Counting.tally_some}
use Rattle.list_laws.proofs.Filters.{range_more}

-- One more at the end of a list.
pub any_snoc : (p : ℕ → Bool) (xs : List ℕ) (x : ℕ) → list_any p (xs ++ x ∷ []) ≡ (list_any p xs || p x)
any_snoc p xs x = search (rules, list_any-append, or-false)

pub or_shift : (a b c : Bool) → ((a || b) || c) ≡ (a || (b || c))
or_shift = or_assoc

-- One number more in a range.
pub any_range_more : (p : ℕ → Bool) (n : ℕ) → list_any p (range_with_len 0 (n + 1))
    ≡ (list_any p (range_with_len 0 n) || p n)
any_range_more p n = ap (list_any p) (range_more n) ∙ any_snoc p (range_with_len 0 n) n

pub among_more : (ds : List ℕ) (i d : ℕ) → i < length ds → is_among d (take (i + 1) ds)
    ≡ (is_among d (take i ds) || eqb d (get_or ds i 0))
among_more ds i d l = ap (is_among d) (take_more ds i 0 l) ∙ any_snoc (λ e. eqb d e) (take i ds) (get_or ds i 0)

-- One element set, where those before it in the list have their new values.
pub set_more : {A : Type 0} (z : A) (ds : List ℕ) (i : ℕ) (xs old : List A) (f : ℕ → A) (v : A) → i < length ds
    → get_or ds i 0 < length xs → v ≡ f (get_or ds i 0) → (d : ℕ)
    → get_or xs d z ≡ cond (is_among d (take i ds)) (f d) (get_or old d z)
    → get_or (set xs (get_or ds i 0) v) d z ≡ cond (is_among d (take (i + 1) ds)) (f d) (get_or old d z)
set_more z ds i xs old f v l low is d each = search (rules, among_more)

pub marks_more : (ds : List ℕ) (i : ℕ) (value : Bool) (marks old : List Bool) → i < length ds
    → get_or ds i 0 < length marks → ((d : ℕ) → is_on marks d ≡ cond (is_among d (take i ds)) value (is_on old d))
    → (d : ℕ) → is_on (set marks (get_or ds i 0) value) d ≡ cond (is_among d (take (i + 1) ds)) value (is_on old d)
marks_more ds i value marks old l low each d = set_more false ds i marks old (λ x. value) value l low refl d (each d)

-- What stands at a place stands not before it.
pub once : (q : List ℕ) (i : ℕ) → AreEachOnce q → i < length q → is_among (get_or q i 0) (take i q) ≡ false
once [] i a l = absurd (omega arith)
once (x ∷ xs) zero a l = refl
once (x ∷ xs) (suc i) a l = search (rules, among_at, once xs i a.1 (omega arith))

-- The queue has been ridden through as far as place i.
module _ (faces : Faces) (stood now : List Bool) (q : List ℕ) (i : ℕ) (old riders : List Moving) (a : AreEachOnce q)
    (l : i < length q) (low : get_or q i 0 < length old) (each : AreRode faces stood now (take i q) old riders) where
  -- The rider there has not ridden yet.
  pub unmoved : rider_at riders (get_or q i 0) ≡ rider_at old (get_or q i 0)
  unmoved = each (get_or q i 0) low ∙ rw (once q i a l) refl

  -- Where it has ridden, one more has.
  pub rode_more : {rider : Moving} → length riders ≡ length old → rider ≡ rode faces stood now
      (rider_at riders (get_or q i 0)) → AreRode faces stood now (take (i + 1) q) old (set riders (get_or q i 0) rider)
  rode_more {rider} long is r lr = set_more (begun 0) q i riders old (λ r. rode faces stood now (rider_at old r)) rider
      l (omega (arith, low, long)) (is ∙ ap (rode faces stood now) unmoved) r (each r lr)

pub running_more : (p : ℕ → Bool) (q : List ℕ) (i : ℕ) → i < length q → filter p (take (i + 1) q) ≡ filter p (take i q)
    ++ cond (p (get_or q i 0)) (get_or q i 0 ∷ []) []
running_more p q i l = ap (filter p) (take_more q i 0 l) ∙ filter-append p (take i q) (get_or q i 0 ∷ [])

-- Riders told one after another along the fan of a vertex.

-- One rider is told.
module _ {faces : Faces} {site : Site} {notes : Notes} {riders : Riders} {r : ℕ}
    (counted : AreCounted riders notes.noted.items) (may : MayTell faces site notes riders.list.items r) where
  abbrev rs : List Moving
  rs = riders.list.items

  abbrev noted : List (Option ℕ)
  noted = notes.noted.items

  abbrev rider : Moving
  rider = rider_at riders.list.items r

  abbrev stop : Option Stop
  stop = stop_here faces site notes.taken.items rider.dart

  abbrev then : Moving
  then = told (terrain_of faces) rider.dart rider stop

  -- An untold rider runs, and its dart is noted.
  was : (rider.stop ≡ None) × (note_at noted r ≡ Some rider.dart)
  was = search rules

  noted_low : r < length noted
  noted_low = omega (arith, may.rider, counted.long)

  pub some_untold : 0 < riders.untold
  some_untold = rw counted.untold (tally_some is_untold rs noted r may.rider noted_low may.untold)

  pub some_run : 0 < riders.running
  some_run = rw counted.running (tally_some runs_on rs noted r may.rider noted_low (ap is_running was.0))

  pub told_counted : {new : Riders} (b : Bool) → new.list.items ≡ set riders.list.items r then
      → new.untold + 1 ≡ riders.untold → is_some then.stop ≡ b → new.running + cond b 1 0 ≡ riders.running
      → AreCounted new notes.noted.items
  told_counted b list less is fewer = record {
    long = rw list (counted.long ∙ sym (length-set rs r then));
    running = search (rules, tally_rider);
    untold = search (rules, may.untold, may.onward, tally_rider is_untold rs noted r then may.rider noted_low);
  }

-- Whoever is told along the whole fan is told at the vertex.
pub told_all_along : {faces : Faces} {site : Site} {v : ℕ} {notes : Notes} {old : Riders} → CanTell faces site v notes
    old → (r : ℕ) (rider : Moving) → told_along faces site notes.taken.items (fan_of faces v)
    (note_at notes.noted.items r) rider ≡ told_by faces site notes.taken.items v (note_at notes.noted.items r) rider
told_all_along {faces} {site} {v} {notes} can r rider = elim (cases_Option (note_at notes.noted.items r)) [
  | inl is ↦ rw is refl
  | inr (d, is) ↦
      let low = next_of_low faces d (can.low d (noted_among notes.noted.items r d is)) in
      search (rules, from_fan, in_fan)
]

-- The turn of the dart at place i of the fan.
pub record Turn (faces : Faces) (site : Site) (v : ℕ) (notes : Notes) (old : Riders) (now : List Moving)
    (i d : ℕ) : Type 0 where
  pub can : CanTell faces site v notes old
  pub are : AreNotes notes
  pub low : i < length (fan_of faces v)
  pub before : (r : ℕ) → rider_at now r ≡ told_along faces site notes.taken.items (take i (fan_of faces v))
      (note_at notes.noted.items r) (rider_at old.list.items r)
  pub d_is : d ≡ prev_of (get_or (fan_of faces v) i 0)

module _ {faces : Faces} {site : Site} {v : ℕ} {notes : Notes} {old : Riders} {now : List Moving} {i d : ℕ}
    (turn : Turn faces site v notes old now i d) where
  open turn use {can, are, low, before, d_is}

  abbrev fan : List ℕ
  fan = fan_of faces v

  abbrev ns : List (Option ℕ)
  ns = notes.noted.items

  abbrev taken : List Bool
  taken = notes.taken.items

  next_is : next_of d ≡ get_or fan i 0
  next_is = ap next_of d_is ∙ next_of-prev_of (get_or fan i 0)

  at_v : to_of faces d ≡ v
  at_v = ap (from_of faces) next_is ∙ (fan_of_is faces v).leaves i low

  not_yet : is_among (next_of d) (take i fan) ≡ false
  not_yet = search (rules, next_is, once, apart_filter, range_apart)

  -- Who rode another dart is told as before.
  others : (e : ℕ) → e ≢ d → is_among (next_of e) (take (i + 1) fan) ≡ is_among (next_of e) (take i fan)
  others e ne = search (rules, among_more)

  -- The riders told so far, and one dart later.
  abbrev pub TellsMore : (q : ℕ) (rider : Moving) → Type 0
  TellsMore q rider = rider ≡ told_along faces site notes.taken.items (take (i + 1) (fan_of faces v))
      (note_at notes.noted.items q) (rider_at old.list.items q)

  as_before : (q : ℕ) → (note_at ns q ≡ Some d → ⊥) → TellsMore q (rider_at now q)
  as_before q not_d = rw (before q) (elim (cases_Option (note_at ns q))
      [ inl is ↦ rw is refl | inr (e, is) ↦ rw (is, others e (λ s. not_d (is ∙ ap Some s))) refl ])

  pub none_here : is_on notes.taken.items d ≡ false → (q : ℕ) → TellsMore q (rider_at now q)
  none_here off q = search (rules, as_before, noted_among)

  module _ (on : is_on notes.taken.items d ≡ true) {r : ℕ} (r_is : r ≡ get_or notes.places.items d 0) where
    pub noted_here : (note_at notes.noted.items r ≡ Some d) × (r < length notes.noted.items)
    noted_here = search (rules, noted_where)

    as_first : rider_at now r ≡ rider_at old.list.items r
    as_first = before r ∙ rw (noted_here.0, not_yet) refl

    pub runs_here : ((rider_at now r).stop ≡ None) × ((rider_at now r).dart ≡ d)
    runs_here = rw as_first (can.untold r d noted_here.0 at_v)

    pub may_tell : r < length now → d < darts faces → MayTell faces site notes now r
    may_tell low d_low = record {
      rider = low;
      dart = rw runs_here.1 d_low;
      untold = rw (runs_here.0, noted_here.0) (eq-eqb (rider_at now r).dart d runs_here.1);
      onward = rw runs_here.1 (can.onward d (noted_among ns r d noted_here.0) at_v);
    }

    pub one_here : r < length now → (q : ℕ) → TellsMore q (rider_at (set now r (told (terrain_of faces)
        (rider_at now r).dart (rider_at now r) (stop_here faces site notes.taken.items (rider_at now r).dart))) q)
    one_here r_low q = elim (cases_eq q r) [
      | inl s ↦ rw (
        s,
        get_or-set_same now r _ (begun 0) r_low,
        runs_here.1,
        as_first,
        noted_here.0,
        among_more fan i (next_of d) low ∙ or_right _ _ (eq-eqb (next_of d) (get_or fan i 0) next_is),
      ) refl
      | inr ne ↦ get_or-set_other now r q _ (begun 0) ne ∙ as_before q (λ is. ne (sym (are.slot q d is) ∙ sym r_is))
    ]
